-- The loops of the two sweeps: before turn n, l₀ being the area where it began, the numbers that a turn needs, a turn, and the end. Assumes nothing.
use mathlib.Core.Path.{◌≡◌, refl, ◌∙◌}
use mathlib.Core.List.{List}
use Prim.Native.Nat.{ℕ, ◌+◌, ◌-◌, ◌%◌, ◌≤◌, ◌<◌}
use native.Mathlib.Omega.{arith}
use lib.IntN.{ℤ}
use lib.ListN.{length}
use mir.Syntax.{w64}
use mir.Val.{Fits}
use Rattle.numbers.specs.Signal.{at}
use Rattle.numbers.specs.Word.{wrap32}
use Rattle.lifting.specs.Line.{lo, hi}
use Rattle.lifting.specs.Grid.{side, count, place}
use Rattle.nine_seven.specs.NineSeven.{predicted, updated, unpredicted, unupdated}
use Rattle.nine_seven_sweep.specs.Columns.{columns_lifted, columns_back}
use Rattle.nine_seven_sweep.specs.Passes.{Rows, in_half, high_turn, low_turn}
use Rattle.nine_seven_sweep.proofs.Fronts.{rows-kept, few}
use Rattle.nine_seven_sweep.proofs.RaiseLaws.{Raised, raise-start, raise-turn, raise-end}
use Rattle.nine_seven_sweep.proofs.LowerLaws.{Lowered, lower-start, lower-turn, lower-end}

-- the number of turns fits a word
module _ (y h low : ℕ) (more : 1 < h) (el : low ≡ count lo (side y h)) (fits : Fits w64 h) where
  pub raise-count : Fits w64 (low + 1) × Fits w64 (low + 1 + y % 2)
  unfolding count
  raise-count = (omega arith, omega arith)

  pub lower-count : (low ≤ h) × Fits w64 (h - low + 1) × (y % 2 ≤ h - low + 1)
  unfolding count
  lower-count = (omega arith, omega arith, omega arith)

  raise-last : low + 1 + y % 2 ≡ count lo (side y h) + 1 + y % 2
  raise-last = omega arith

  lower_last : h - low + 1 - y % 2 ≡ count hi (side y h) + 1 - y % 2
  unfolding count
  lower_last = omega arith

next-fits : (k n : ℕ) → n < k → Fits w64 k → Fits w64 (n + 1)
next-fits k n b f = omega arith

-- ---- forward
pub record Raising (l₀ : List ℤ) (s w y h end n : ℕ) (l : List ℤ) : Type 0 where
  pub more : 1 < h
  pub rows : Rows (length l₀) s w h
  pub fits : Fits w64 end
  pub within : n ≤ end
  pub last : end ≡ count lo (side y h) + 1 + y % 2
  pub size : length l ≡ length l₀
  pub raised : Raised s w (side y h) (at l₀) n (at l)

pub raising : (l₀ : List ℤ) (s w y h low : ℕ) → 1 < h → Rows (length l₀) s w h → Fits w64 h → low ≡ count lo (side y h)
    → Raising l₀ s w y h (low + 1 + y % 2) 0 l₀
raising l₀ s w y h low more R fits el =
    record {
      more = more;
      rows = R;
      fits = (raise-count y h low more el fits).1;
      within = omega arith;
      last = raise-last y h low more el fits;
      size = refl;
      raised = raise-start s w (side y h) (at l₀);
    }

module _ {l₀ : List ℤ} {s w y h end n : ℕ} {l : List ℤ} (v : Raising l₀ s w y h end n l) where
  pub raise-next : n < end → Fits w64 (n + 1)
  raise-next b = next-fits end n b v.fits

  pub raise-less : n < end → end - (n + 1) < end - n
  raise-less b = omega arith

  pub raise-room : n < end → n ≤ count lo (side y h) + y % 2
  raise-room b = let e = v.last in omega arith

  pub raise-again : (l₁ l₂ : List ℤ) → n < end → length l₁ ≡ length l → length l₂ ≡ length l₁
      → at l₁ ≡ high_turn (predicted wrap32) (in_half (side y h)) (length l) s w (side y h) n 0 (at l)
      → at l₂ ≡ low_turn (updated wrap32) (in_half (side y h)) (length l₁) s w (side y h) n (1 + y % 2) (at l₁) → Raising l₀ s w y h end (n + 1) l₂
  raise-again l₁ l₂ b e₁ e₂ is₁ is₂ =
      record {
        more = v.more;
        rows = v.rows;
        fits = v.fits;
        within = omega arith;
        last = v.last;
        size = e₂ ∙ e₁ ∙ v.size;
        raised = raise-turn (length l) s w (side y h) (at l₀) (rows-kept v.size v.rows) v.more n (at l) (at l₁) (at l₂) (raise-room b)
            is₁ (rw e₁ at is₂)
            v.raised;
      }

  pub raise-done : end ≤ n → at l ≡ columns_lifted s w (side y h) (at l₀)
  raise-done b = let e = v.last in raise-end (length l₀) s w (side y h) (at l₀) v.rows v.more n (at l) (omega arith) v.raised

-- ---- back
pub record Lowering (l₀ : List ℤ) (s w y h last n : ℕ) (l : List ℤ) : Type 0 where
  pub more : 1 < h
  pub rows : Rows (length l₀) s w h
  pub fits : Fits w64 last
  pub within : n ≤ last
  pub end : last ≡ count hi (side y h) + 1 - y % 2
  pub size : length l ≡ length l₀
  pub lowered : Lowered s w (side y h) (at l₀) n (at l)

pub lowering : (l₀ : List ℤ) (s w y h low : ℕ) → 1 < h → Rows (length l₀) s w h → Fits w64 h → low ≡ count lo (side y h)
    → Lowering l₀ s w y h (h - low + 1 - y % 2) 0 l₀
lowering l₀ s w y h low more R fits el =
    let f = (lower-count y h low more el fits).1 in
    record {
      more = more;
      rows = R;
      fits = omega arith;
      within = omega arith;
      end = lower_last y h low more el fits;
      size = refl;
      lowered = lower-start s w (side y h) (at l₀);
    }

module _ {l₀ : List ℤ} {s w y h last n : ℕ} {l : List ℤ} (v : Lowering l₀ s w y h last n l) where
  pub lower-next : n < last → Fits w64 (n + 1)
  lower-next b = next-fits last n b v.fits

  pub lower-less : n < last → last - (n + 1) < last - n
  lower-less b = omega arith

  pub lower-room : (k : ℕ) → k ≤ last → (k ≤ count hi (side y h) + (1 - y % 2)) × (h ≤ length l + 1)
  lower-room k b =
      let e = v.end in
      let m = few (length l₀) s w h v.rows in
      let f = v.size in
      (omega arith, omega arith)

  pub lower-all : (last ≤ count hi (side y h) + (1 - y % 2)) × (h ≤ length l + 1)
  lower-all = lower-room last (omega arith)

  abbrev Turned : ℕ → List ℤ → Type 0
  Turned k l' = at l' ≡ high_turn (unpredicted wrap32) (place (side y h)) (length l) s w (side y h) k (2 - y % 2)
      (low_turn (unupdated wrap32) (place (side y h)) (length l) s w (side y h) k 0 (at l))

  turned : (l' : List ℤ) → Turned n l' → Lowered s w (side y h) (at l₀) (n + 1) (at l')
  turned l' is =
      lower-turn (length l) s w (side y h) (at l₀) (rows-kept v.size v.rows) v.more n (at l) _ (at l')
      (lower-room n v.within).0 refl is v.lowered

  pub lower-again : (l' : List ℤ) → n < last → length l' ≡ length l → Turned n l' → Lowering l₀ s w y h last (n + 1) l'
  lower-again l' b e is =
      record {
        more = v.more;
        rows = v.rows;
        fits = v.fits;
        within = omega arith;
        end = v.end;
        size = e ∙ v.size;
        lowered = turned l' is;
      }

  -- the last turn stands behind the loop
  pub lower-done : (l' : List ℤ) → last ≤ n → Turned last l' → at l' ≡ columns_back s w (side y h) (at l₀)
  lower-done l' b is =
      let e = v.end in
      let all : last ≡ n = omega arith in
      lower-end (length l₀) s w (side y h) (at l₀) v.rows v.more (n + 1) (at l') (omega arith) (turned l' (rw all at is))
