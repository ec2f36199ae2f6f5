-- The size of a level's low-low part, as it is answered. Assumes nothing.
use mathlib.Core.Path.{◌≡◌, refl, sym, ap, ap₂, ◌∙◌}
use Prim.Native.Nat.{ℕ}
use lib.Dec.{eqb}
use borrow.Author.Tests.{eq-eqb, ne_eqb}
use Rattle.lifting.specs.Grid.{Side}
use Rattle.wavelet.specs.Levels.{side_at}
use Rattle.calls.specs.Lists.{Reply, gives, refused}
use Rattle.reader.specs.Stops.{size_reply}

module _ (W H : Side) (k Q : ℕ) where
  pub size-no : (r : ℕ) → r ≡ Q → (r ≡ 0 → ⊥) → refused r ≡ size_reply W H k Q
  unfolding size_reply
  size-no r e n = let u = ne_eqb r 0 n in rw (← e, u)

  pub size-yes : (w h : ℕ) → 0 ≡ Q → w ≡ (side_at k W).length → h ≡ (side_at k H).length → gives (w, h) ≡ size_reply W H k Q
  unfolding size_reply
  size-yes w h e ew eh = rw (← e) (ap₂ (λ (a b : ℕ). gives (a, b)) ew eh)
