-- `counts::all_have` meets its contract. Assumes nothing.
use Rattle.std.proofs.Common.{ℕ, ◌%◌, ltb, ap, ◌∙◌, arith, le-ltb, lt-ltb, le-leb}
use borrow.Author.Tests.{lt-leb}
use Rattle.progress.proofs.counts.all_have.Goals as goal

pub returns-then-w-le1 : goal.returns-then-w-le1
returns-then-w-le1 c = simp (le-ltb 1 c.args.w (omega arith))

pub returns-then-n-y : goal.returns-then-n-y
returns-then-n-y c = let a = c.args in simp (lt-ltb 1 a.w (omega arith), lt-leb (a.y % 2) a.n (omega arith))

pub returns : goal.returns
returns c =
    let a = c.args in
    ap (λ (k : ℕ). ltb a.n k) c.high_count.ensures ∙ simp (lt-ltb 1 a.w (omega arith), le-leb (a.y % 2) a.n (omega arith))
