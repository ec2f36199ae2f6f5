-- Lent a plane that can be saved, no saving call is turned away, and calls with room come to the end of the file: `calls-go`. Assumes nothing.
use mathlib.Core.Path.{◌≡◌, refl, ap, ◌∙◌}
use mathlib.Core.Bool.{Bool, true, false}
use mathlib.Core.List.{List}
use Prim.Native.Nat.{ℕ, ◌+◌, ◌*◌, ◌%◌, ◌≤◌}
use native.Mathlib.Omega.{arith}
use native.Mathlib.Decide.{dec_lt}
use lib.IntN.{ℤ}
use lib.Dec.{eqb, ltb}
use lib.ListN.{length}
use borrow.Author.Tests.{le-leb}
use Rattle.numbers.specs.Signal.{at, pick, both}
use Rattle.wavelet.specs.declared.shape.Shape.{Shape}
use Rattle.reader_order.specs.Order.{first_place, next_place}
use Rattle.ground_file.specs.declared.saver.Saver.{Saver}
use Rattle.ground_file.specs.Saving.{Saved}
use Rattle.ground_file.specs.File.{prime, as_number}
use Rattle.ground_file.specs.Saving.{saver_at, at_row, onward, partly, piece_of, from_of, moved, row_of, set_up_number, save_number}
use Rattle.ground_file.specs.Saving.{fresh, Saves, Savable, SavesOn, Went, here, on, Calls}
use Rattle.ground_file.proofs.SaverLaws.{stop-row}
use Rattle.ground_file.proofs.SaverKeeps.{calls-pass, answer-is}
use Rattle.ground_file.proofs.FileSaved.{calls-went, calls-free, goes-forward}

-- ---- the shape stays
on_shape : (s : Saver) (n c : ℕ) → (onward s n c).shape ≡ s.shape
unfolding onward at_row
on_shape s n c = go (eqb s.phase 0) (eqb s.phase 1) (ltb (16 * (s.group + 1)) n)
  where
    go : (t u v : Bool) → (pick t (at_row s (first_place s.shape) c)
        (pick u (pick v (saver_at s.shape s.step s.place (s.group + 1) 0 c 1) (at_row s (next_place s.shape s.place) c))
        (saver_at s.shape s.step s.place 0 0 0 3))).shape ≡ s.shape
    go true u v = refl
    go false true true = refl
    go false true false = refl
    go false false v = refl

moved-shape : (s : Saver) (row : List ℤ) (m : ℕ) → (moved s row m).shape ≡ s.shape
unfolding moved
moved-shape s row m = go (ltb (from_of s row + m) (length (piece_of s row)))
  where
    go : (t : Bool) → (pick t (partly s (from_of s row + m)) (onward s (length row) (as_number s.sum (piece_of s row) % prime))).shape ≡ s.shape
    go true = refl
    go false = on_shape s (length row) (as_number s.sum (piece_of s row) % prime)

went-shape : {p : List ℤ} {s₀ : Saver} (b : List ℕ) (s : Saver) → Went p s₀ b s → s.shape ≡ s₀.shape
went-shape _ _ here = refl
went-shape {p} _ _ (on {b = b} {s = v} m w ph free some n) = moved-shape v (row_of v p) m ∙ went-shape b v w

module _ (sh : Shape) (q : ℕ) (ok : set_up_number sh q ≡ 0) (p : List ℤ) (long : sh.width * sh.height ≤ length p) where
  -- so 1 and 5 pass, in every call
  pub calls-number : (b : List ℕ) (s : Saver) → Calls p (fresh sh q) b s → save_number s (length p) ≡ 0
  unfolding save_number
  calls-number b s c =
      let e = went-shape b s (calls-went b s c) in
      let size = ap (λ (z : Shape). z.width * z.height) e in
      rw (calls-pass sh q ok p b s c, le-leb (s.shape.width * s.shape.height) (length p) (omega (arith, size, long))) refl

  module _ (can : Savable sh q (at p)) where
    pub calls-go : (b : List ℕ) (s : Saver) → Calls p (fresh sh q) b s → (before after : List ℕ) (r : Saved) → Saves s p before after r → SavesOn s before r
    calls-go b s c before after r v =
        let free = calls-free sh q ok p long can b s c in
        let asked = calls-number b s c in record {
          answer = answer-is s p before after r v asked ∙ ap (λ n. pick (both (ltb 0 (length before)) (ltb s.phase 3)) n 0) free
              ∙ none (both (ltb 0 (length before)) (ltb s.phase 3));
          writes = λ room ph. goes-forward s p before after r v asked room ph free;
          ends = λ less. elim (dec_lt r.saver.phase 3) [
            | yes h ↦ absurd (omega (
              arith,
              (v.done asked).stops,
              stop-row r.saver p r.written (length before) less h,
              calls-free sh q ok p long can _ r.saver (Calls.call before after r c v),
            ))
            | no h ↦ omega (arith, h)
          ];
        }
      where
        none : (t : Bool) → ◌≡◌ {A = ℕ} (pick t 0 0) 0
        none true = refl
        none false = refl
