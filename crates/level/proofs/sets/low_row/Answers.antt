-- `sets::low_row` meets its contract: the set's number less those before the first with a low row. Assumes nothing.
use mathlib.Core.Path.{ap₂, ◌∙◌}
use Prim.Native.Nat.{ℕ, ◌+◌, ◌%◌, ◌^◌}
use native.Mathlib.Omega.{arith}
use borrow.Author.Tests.{lt-ltb, le-ltb}
use Rattle.level.specs.Stretch.{local}
use Rattle.level.proofs.sets.low_row.Goals as goal

pub returns-then-n-lt4611686018427387904 : goal.returns-then-n-lt4611686018427387904
unfolding local
returns-then-n-lt4611686018427387904 c =
    let a = c.args in
    ap₂ (λ (s r : ℕ). s % 2 + r) (c.next_start.ensures 0) c.less.ensures ∙ simp (lt-ltb a.n (2 ^ 62) (omega arith))

pub returns : goal.returns
returns c = simp (le-ltb c.args.n (2 ^ 62) (omega arith))
