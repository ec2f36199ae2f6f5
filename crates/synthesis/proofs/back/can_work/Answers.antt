-- `synthesis::back::can_work` meets its contract: one test after another. Assumes nothing.
use mathlib.Core.Path.{◌∙◌, ap, sym}
use Prim.Native.Nat.{ℕ}
use native.Mathlib.Omega.{arith}
use lib.Dec.{leb}
use borrow.Author.Tests.{not-true, not-false}
use Rattle.lifting.specs.Grid.{side}
use Rattle.level.proofs.RebuildingLaws.{not-workable, no-set, workable-last}
use Rattle.synthesis.proofs.back.can_work.Goals as goal

pub returns-then-most_levels-k : goal.returns-then-most_levels-k
returns-then-most_levels-k c =
    let a = c.args in
    not-workable _ _ a.last a.k (side a.x a.w) (side a.y a.h) a.n a.length (λ f. omega (arith, f.0, c.most_levels.ensures))

pub returns-then-w-gt-WIDEST : goal.returns-then-w-gt-WIDEST
returns-then-w-gt-WIDEST c =
    let a = c.args in
    not-workable _ _ a.last a.k (side a.x a.w) (side a.y a.h) a.n a.length (λ f. omega (arith, f.1))

pub returns-then-h-gt-TALLEST : goal.returns-then-h-gt-TALLEST
returns-then-h-gt-TALLEST c =
    let a = c.args in
    not-workable _ _ a.last a.k (side a.x a.w) (side a.y a.h) a.n a.length (λ f. omega (arith, f.2))

pub returns-then-not-has_set : goal.returns-then-not-has_set
returns-then-not-has_set c =
    let a = c.args in
    no-set _ _ a.last a.k (side a.x a.w) (side a.y a.h) a.n a.length
    (sym c.has_set.ensures ∙ not-true _ c.if-not-has_set.true-raw)

pub returns : goal.returns
returns c =
    let a = c.args in
    ap (λ (i : ℕ). leb i a.length) c.work_length.ensures
    ∙ workable-last _ _ a.last a.k (side a.x a.w) (side a.y a.h) a.n a.length (omega (arith, c.most_levels.ensures)) (omega arith)
    (omega arith) (sym c.has_set.ensures ∙ not-false _ c.if-not-has_set.false-raw)
