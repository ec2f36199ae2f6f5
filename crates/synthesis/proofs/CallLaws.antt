-- What the calls on rows come to, by the filter's number. Assumes nothing.
use mathlib.Core.Path.{◌≡◌, refl, sym, ap, ◌∙◌}
use Prim.Native.Nat.{ℕ, zero, suc, ◌+◌, ◌*◌, ◌%◌, ◌^◌, ◌≤◌, ◌<◌, min}
use native.Mathlib.Nat.{mul-le-mul_right, mod-lt}
use native.Mathlib.Omega.{arith}
use lib.IntN.{ℤ}
use borrow.Author.Tests.{lt-ltb, le-ltb}
use Rattle.numbers.specs.Signal.{pick}
use Rattle.numbers.specs.Word.{wrap32}
use Rattle.lifting.specs.Line as five
use Rattle.lifting.specs.Grid.{Side}
use Rattle.lifting.specs.GridHalves as five-halves
use Rattle.lifting.specs.Rows.{rows_changed}
use Rattle.nine_seven.specs.NineSeven as nine
use Rattle.nine_seven.specs.Memory as nine-halves
use Rattle.nine_seven.specs.Rows.{rows_by}
use Rattle.filters.specs.Filters.{filter_of}
use Rattle.nine_seven.proofs.FiveRows as rows
use Rattle.lifting.specs.Filter.{Filter}
use Rattle.level.specs.Tried.{Tried}
use Rattle.level.specs.Stretch.{has_low}
use Rattle.level.specs.Rebuilding.{Kept, lowest_by}
use Rattle.level.proofs.SlotLaws.{slot-room, row-by}
use Rattle.synthesis.specs.Columns.{row_before, row_after, row_by_four, along_of, unupdated_of, even_of, odd_of, columns_of}
use Rattle.synthesis.specs.Work.{even_done, most_made}
use Rattle.synthesis.proofs.FilterColumns.{rows-some}

-- ---- so few rows, of so few columns, that no place overflows
rows_few : (f : ℕ) → (filter_of f).rows ≤ 8
unfolding filter_of
rows_few zero = omega arith
rows_few (suc f) = omega arith

pub room_small : (f w : ℕ) → w ≤ 2 ^ 16 → (filter_of f).rows * w ≤ 2 ^ 19
room_small f w h = omega (arith, mul-le-mul_right w (rows_few f))

pub row_room : (f w q : ℕ) → q % (filter_of f).rows * w + w ≤ (filter_of f).rows * w
row_room f w q = slot-room (rows-some f) w q

-- ---- 0, or any other number
pub slot-first : (f q : ℕ) → f ≡ 0 → (q % 4 ≡ q % (filter_of f).rows) × (q % 4 < 8)
unfolding filter_of
slot-first zero q e = (refl, omega arith)
slot-first (suc f) q e = absurd (omega arith)

pub slot-second : (f q : ℕ) → (f ≡ 0 → ⊥) → (q % 8 ≡ q % (filter_of f).rows) × (q % 8 < 8)
unfolding filter_of
slot-second zero q d = absurd (d refl)
slot-second (suc f) q d = (refl, omega arith)

pub along-first : (f : ℕ) → f ≡ 0 → five-halves.unlifted_in_place ≡ along_of f
unfolding along_of
along-first zero e = refl
along-first (suc f) e = absurd (omega arith)

pub along-second : (f : ℕ) → (f ≡ 0 → ⊥) → nine-halves.unlifted_in_place ≡ along_of f
unfolding along_of
along-second zero d = absurd (d refl)
along-second (suc f) d = refl

-- ---- rows rebuilt, on slots
pub even-one : (f w : ℕ) (H : Side) (q : ℕ) (x : ℕ → ℤ) → H.length ≤ 1 → even_of f w H q x ≡ x
unfolding even_of
even-one f w H q x p = simp (le-ltb 1 H.length p)

row-by-four : (n w t a b : ℕ) (x : ℕ → ℤ) → 8 * w ≤ n → (f : ℤ → ℤ → ℤ → ℤ → ℤ → ℤ) (c e : ℕ) →
    rows_by f n w w (t % 8) (a % 8) (b % 8) (c % 8) (e % 8) x ≡ row_by_four 8 f w t a b c e x
unfolding row_by_four
row-by-four n w t a b x room f c e =
    let eight : 0 < 8 = omega arith in
    let r₁ = slot-room eight w t in
    let r₂ = slot-room eight w a in
    let r₃ = slot-room eight w b in
    let r₄ = slot-room eight w c in
    let r₅ = slot-room eight w e in
    rows.changed f w w (t % 8) (a % 8) (b % 8) (c % 8) (e % 8) x n
    (rows.five-fit n w w (t % 8) (a % 8) (b % 8) (c % 8) (e % 8) (omega arith) (omega arith) (omega arith) (omega arith) (omega arith) (omega arith))

module _ (w : ℕ) (H : Side) (q : ℕ) (x : ℕ → ℤ) (N a b : ℕ) (ea : a ≡ row_before H 1 q) (eb : b ≡ row_after H 1 q) where
  pub even-first : (f : ℕ) → f ≡ 0 → 1 < H.length → (filter_of f).rows * w ≤ N →
      rows_changed (five.unupdated wrap32) N w w (q % 4) (a % 4) (b % 4) x ≡ even_of f w H q x
  unfolding even_of unupdated_of filter_of
  even-first zero e p room = rw (ea, eb)
      (row-by {m = 4} (omega arith) (five.unupdated wrap32) N w q (row_before H 1 q) (row_after H 1 q) x room ∙ sym (simp (lt-ltb 1 H.length p)))
  even-first (suc f) e p room = absurd (omega arith)

  pub even-second : (f : ℕ) → (f ≡ 0 → ⊥) → 1 < H.length → (filter_of f).rows * w ≤ N →
      rows_changed (nine.unupdated wrap32) N w w (q % 8) (a % 8) (b % 8) x ≡ even_of f w H q x
  unfolding even_of unupdated_of filter_of
  even-second zero d p room = absurd (d refl)
  even-second (suc f) d p room = rw (ea, eb)
      (row-by {m = 8} (omega arith) (nine.unupdated wrap32) N w q (row_before H 1 q) (row_after H 1 q) x room ∙ sym (simp (lt-ltb 1 H.length p)))

  pub odd-first : (f : ℕ) → f ≡ 0 → (filter_of f).rows * w ≤ N → rows_changed (five.unpredicted wrap32) N w w (q % 4) (a % 4) (b % 4) x ≡ odd_of f w H q x
  unfolding odd_of filter_of
  odd-first zero e room = rw (ea, eb) (row-by {m = 4} (omega arith) (five.unpredicted wrap32) N w q (row_before H 1 q) (row_after H 1 q) x room)
  odd-first (suc f) e room = absurd (omega arith)

  pub odd-second : (f c e : ℕ) → (f ≡ 0 → ⊥) → (filter_of f).rows * w ≤ N → c ≡ row_before H 3 q → e ≡ row_after H 3 q →
      rows_by (nine.unpredicted wrap32) N w w (q % 8) (a % 8) (b % 8) (c % 8) (e % 8) x ≡ odd_of f w H q x
  unfolding odd_of filter_of
  odd-second zero c e d room ec ee = absurd (d refl)
  odd-second (suc f) c e d room ec ee = rw (ea, eb, ec, ee)
      (row-by-four N w q (row_before H 1 q) (row_after H 1 q) x room (nine.unpredicted wrap32) (row_before H 3 q) (row_after H 3 q))

-- ---- the least value of a level within the limits, whether or not it is held to the last
pub same-lowest : (F : Filter) (m k : ℕ) → k ≤ m → lowest_by F (min k m) ≡ lowest_by F k
same-lowest F m k h = let e : min k m ≡ k = omega arith in ap (lowest_by F) e

pub some_level : (f k : ℕ) → min k (filter_of f).levels ≡ 0 → k ≡ 0
unfolding filter_of
some_level zero k e = omega arith
some_level (suc f) k e = omega arith

-- ---- most rows of a set: where the filter is the 5/3, and where the even row is rebuilt first
pub zero_room : (f w n k : ℕ) → f ≡ 0 → (filter_of f).rows * w ≤ n → k ≤ (filter_of f).levels → (4 * w ≤ n) × (k ≤ (filter_of 0).levels)
unfolding filter_of
zero_room zero w n k e a b = (a, b)
zero_room (suc f) w n k e a b = absurd (omega arith)

module _ (k w : ℕ) (H : Side) (n : ℕ) (x : ℕ → ℤ) where
  pub zero-most : (f : ℕ) (t : Tried) (z : ℕ → ℤ) → f ≡ 0 → (t ≡ most_made (columns_of 0) k w H n (even_done (columns_of 0) k w H n x)) × Kept (4 * w) x z →
      (t ≡ most_made (columns_of f) k w H n (even_done (columns_of f) k w H n x)) × Kept ((filter_of f).rows * w) x z
  unfolding filter_of
  zero-most zero t z e p = p
  zero-most (suc f) t z e p = absurd (omega arith)

  pub done-is : (f : ℕ) (y : ℕ → ℤ) → y ≡ pick (has_low H n) (even_of f w H (2 * n) x) x → y ≡ even_done (columns_of f) k w H n x
  unfolding even_done
  done-is f y e = e
