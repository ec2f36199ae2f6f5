-- `values::write_value` meets its contract: a space, the sign and at most ten digits. Assumes nothing.
use mathlib.Core.Path.{◌∙◌}
use mathlib.Core.List.{List, [], ◌∷◌}
use Prim.Native.Nat.{ℕ, ◌+◌, ◌≤◌}
use native.Mathlib.Omega.{arith}
use lib.IntN.{ℤ}
use lib.ListN.{length}
use mir.Syntax.{w32}
use mir.ValLaws.{to_z-of_z}
use Rattle.text.specs.Decimal.{integer}
use Rattle.text.specs.Text.{Wrote, Puts}
use Rattle.text.proofs.TextLaws.{puts-on}
use Rattle.listing.proofs.values.write_value.Goals as goal

after-space : (v : ℤ) {o o₁ o₂ : List ℕ} {a p r : ℕ} → length (integer v) ≤ 11 → a + 12 ≤ length o → Puts (32 ∷ []) a p o o₁ → Puts (integer v) p r o₁ o₂
    → Wrote (32 ∷ integer v) a r o o₂
after-space v f e x y = let w = x.whole (omega arith) in puts-on w y (omega (arith, w.place))

pub shape_of-out : goal.shape_of-out
shape_of-out c =
    c.put_integer.auto.out ∙ c.put_byte-place.auto.out

pub returns : goal.returns
returns c =
    rw (← to_z-of_z w32 _ c.ranges.v) (after-space _ c.put_integer.ensures.v_len_bound c.requires c.put_byte-place.ensures c.put_integer.ensures.puts)
