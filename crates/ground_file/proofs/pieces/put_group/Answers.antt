-- `pieces::put_group` meets its contract: the numbers, then the group of them. Assumes nothing.
use mathlib.Core.Path.{◌≡◌, ap, ◌∙◌, subst}
use mathlib.Core.List.{List}
use Prim.Native.Nat.{ℕ, ◌+◌}
use native.Mathlib.Omega.{arith}
use lib.IntN.{ℤ}
use lib.ListN.{take, length-take}
use Rattle.numbers.specs.Signal.{at}
use Rattle.text.specs.Text.{Wrote}
use Rattle.ground_file.specs.Groups.{group_of, holds}
use Rattle.ground_file.specs.File.{listed}
use Rattle.ground_file.specs.Values.{kept}
use Rattle.ground_file.proofs.ValueLaws.{kept_small, listed-held}
use Rattle.ground_file.proofs.pieces.put_group.Goals as goal

group-of : (q from m n : ℕ) (row : List ℤ) (few : List ℕ) {r : ℕ} {o o' : List ℕ} → n ≡ m → take n few ≡ listed n (λ i. kept q (at row (from + i)))
    → Wrote (group_of (take n few)) 0 r o o' → Wrote (group_of (listed m (λ i. kept q (at row (from + i))))) 0 r o o'
group-of q from m n row few {r} {o} {o'} e f w =
    subst (λ l. Wrote (group_of l) 0 r o o') (f ∙ ap (λ k. listed k (λ i. kept q (at row (from + i)))) e) w

pub fill-requires : goal.fill-requires
fill-requires c =
    (omega (arith, c.some-n.ensures), omega (arith, c.some-n.ensures), c.requires.1)

pub put-requires : goal.put-requires
put-requires c = (
  omega (arith, c.some-n.ensures, length-take c.some-n.result c.fill.new.numbers),
  ap (holds 28) c.fill.ensures ∙ listed-held _ _ (λ i. kept_small _ _),
  omega (arith, c.requires.0),
)

pub returns : goal.returns
returns c =
    let a = c.args in
    group-of a.step a.from _ _ a.row.now c.fill.new.numbers c.some-n.ensures c.fill.ensures c.put.ensures
