-- Demand 1 of the whole map and of the view: `map-calls`. Assumes nothing.
use mathlib.Core.Path.{◌≡◌, refl, subst, sym}
use mathlib.Core.Bool.{Bool, true, false}
use Prim.Native.Nat.{ℕ}
use lib.Dec.{eqb}
use Rattle.numbers.specs.Signal.{pick}
use Rattle.lifting.specs.Halves.{fronted}
use Rattle.lifting.specs.Grid.{Side}
use Rattle.wavelet.specs.Bands.{Grid}
use Rattle.wavelet.proofs.ViewAsks.{view_asks}
use Rattle.wavelet.proofs.ViewTheory.{view-refused, place-refused}
use Rattle.map_questions.specs.Calls.{zeros, passed, rebuilt}
use Rattle.map_questions.proofs.MapAsks.{forward_asks, backward_asks}
use Rattle.level.specs.Level.{Memory}
use Rattle.demand_1.specs.Words.{Kept, KeptBut14, Zeroed, Surplus}
use Rattle.demand_1.specs.Maps.{cells_of, Forward, Backward, CView, MapCalls}
use Rattle.demand_1.proofs.WordLaws.{front-zeroed, front-surplus, kept, kept_but, on-pass, on-14}

-- ---- an area of which a passed call writes the first n numbers, y
module _ (q n : ℕ) (y x : Memory) where
  pub passed-kept : Kept q x (passed q n y x)
  unfolding passed
  passed-kept = kept q (fronted n y x) x

  pub passed-surplus : Surplus n x (passed q n y x)
  unfolding passed
  passed-surplus j h = go (eqb q 0)
    where
      go : (t : Bool) → pick t (fronted n y x) x j ≡ x j
      go true = front-surplus n y x j h
      go false = refl

  rebuilt-kept : KeptBut14 q x (rebuilt q n y x)
  unfolding rebuilt
  rebuilt-kept = kept_but q (fronted n y x) (fronted n zeros x) x

  rebuilt-14 : q ≡ 14 → Zeroed n x (rebuilt q n y x)
  unfolding rebuilt
  rebuilt-14 e = subst (Zeroed n x) (sym (on-14 q (fronted n y x) (fronted n zeros x) x e)) (front-zeroed n x)

  rebuilt-surplus : Surplus n x (rebuilt q n y x)
  unfolding rebuilt
  rebuilt-surplus j h = go (eqb q 0) (eqb q 14)
    where
      go : (t u : Bool) → pick t (fronted n y x) (pick u (fronted n zeros x) x) j ≡ x j
      go true u = front-surplus n y x j h
      go false true = front-surplus n zeros x j h
      go false false = refl

module _ (q n : ℕ) (x : Memory) (e : q ≡ 0) where
  passed-zeroed : Zeroed n x (passed q n zeros x)
  unfolding passed
  passed-zeroed = subst (Zeroed n x) (sym (on-pass q (fronted n zeros x) x e)) (front-zeroed n x)

  rebuilt-zeroed : Zeroed n x (rebuilt q n zeros x)
  unfolding rebuilt
  rebuilt-zeroed = subst (Zeroed n x) (sym (on-pass q (fronted n zeros x) _ e)) (front-zeroed n x)

-- ---- the calls
forward-of : (f : ℕ) (W H : Side) (L : ℕ) (g : Grid) (z k : Memory) (q : ℕ) → Forward f W H L g z k q
forward-of f W H L g z k q = record {
  plane = passed-kept q (cells_of W H) _ z;
  work = passed-kept q (cells_of W H) _ k;
  zeroed = passed-zeroed q (cells_of W H) k;
  surplus = passed-surplus q (cells_of W H) _ z;
}

backward-of : (f : ℕ) (W H : Side) (L : ℕ) (x : Grid) (z k : Memory) (q : ℕ) → Backward f W H L x z k q
backward-of f W H L x z k q = record {
  heights = rebuilt-kept q (cells_of W H) _ z;
  work = rebuilt-kept q (cells_of W H) _ k;
  heights_14 = rebuilt-14 q (cells_of W H) _ z;
  work_14 = rebuilt-14 q (cells_of W H) _ k;
  zeroed = rebuilt-zeroed q (cells_of W H) k;
  surplus = rebuilt-surplus q (cells_of W H) _ z;
}

c-view-of : (n : ℕ) (W H : Side) (L k c r a m : ℕ) → CView n W H L k c r a m
c-view-of n W H L k c r a m = record {
  start = λ h. (place-refused n W H L k c r a m h).0;
  count = λ h. (place-refused n W H L k c r a m h).1;
}

pub map-calls : MapCalls
map-calls = record {
  forward_asks = forward_asks;
  forward = forward-of;
  backward_asks = backward_asks;
  backward = backward-of;
  view_asks = view_asks;
  view = λ plane W H L k c r. record { stretch = view-refused plane W H L k c r };
  c_view = c-view-of;
}
