-- A map saved: lent its plane, the saver is never turned away by 7 or 22 (`map-free`), and what it writes is the map's file (`map-saved`). Assumes nothing.
use mathlib.Core.Path.{◌≡◌, refl, sym, ap, ◌∙◌}
use mathlib.Core.Bool.{true}
use mathlib.Core.List.{List, [], ◌++◌}
use Prim.Native.Nat.{ℕ, ◌*◌, ◌≤◌, ◌<◌}
use native.Mathlib.Omega.{arith}
use lib.IntN.{ℤ, nat_abs}
use lib.ListN.{length}
use Rattle.numbers.specs.Signal.{at}
use Rattle.wavelet.specs.declared.shape.Shape.{Shape}
use Rattle.wavelet.specs.Bands.{Grid}
use Rattle.wavelet.specs.Questions.{within}
use Rattle.wavelet.proofs.AskLaws.{width-exactly, height-exactly}
use Rattle.filters.proofs.PlainFigures.{known-exactly, levels-exactly}
use Rattle.ground_file.specs.declared.saver.Saver.{Saver}
use Rattle.ground_file.specs.Maps.{MapOf, plane_in, map_file}
use Rattle.ground_file.specs.Saving.{max_step, row_of, row_number, set_up_number, fresh, Savable, Calls}
use Rattle.ground_file.proofs.FileTheorems.{place-in, same-file}
use Rattle.ground_file.proofs.MapFiles.{one-times, value-range}
use Rattle.ground_file.proofs.SaverAsks.{plain-one, asks_nothing}
use Rattle.ground_file.proofs.FileSaved.{calls-free, calls-saved}

-- the set-up passes
pub map-set-up : (s : Shape) (g : Grid) → MapOf s g → set_up_number s 1 ≡ 0
map-set-up s g m =
    sym (asks_nothing s 1 ((width-exactly s.width).1 m.width) ((height-exactly s.height).1 m.height) ((known-exactly s.filter).1 m.filter)
    ((levels-exactly s.filter s.levels).1 m.levels) one-step (sym (plain-one s 1 refl)))
  where
    one-step : within 1 max_step 1 ≡ true
    one-step = unfold max_step within in refl

-- the plane p holds the map's coefficients; what stands past them does not count
module _ (s : Shape) (g : Grid) (m : MapOf s g) (p : List ℤ) (long : s.width * s.height ≤ length p)
    (is : (j : ℕ) → j < s.width * s.height → at p j ≡ plane_in s g j) where
  pub map-savable : Savable s 1 (at p)
  map-savable = record {
    ranged = λ k b r i h l.
        let e = ap nat_abs (is _ (place-in h l)) in
        omega (arith, e, value-range s g m k b r i h l);
    multiple = λ k b r i h l z. one-times _;
  }

  pub map-free : (b : List ℕ) (v : Saver) → Calls p (fresh s 1) b v → row_number v (row_of v p) ≡ 0
  map-free = calls-free s 1 (map-set-up s g m) p long map-savable

  pub map-saved : (b : List ℕ) (v : Saver) → Calls p (fresh s 1) b v → (t : List ℕ) × (b ++ t ≡ map_file s g) × (3 ≤ v.phase → t ≡ [])
  map-saved b v c =
      let r = calls-saved s 1 (map-set-up s g m) p long b v c in
      (r.0, r.1 ∙ same-file s 1 (at p) (plane_in s g) m.levels.0 is, r.2)
