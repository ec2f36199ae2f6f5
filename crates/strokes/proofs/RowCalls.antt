-- Rows lifted through another line: what a call or a turn comes to. Assumes nothing.
use mathlib.Core.Path.{◌≡◌, refl, sym, ap, ◌∙◌}
use mathlib.Core.Bool.{Bool, true, false, true≢false, false≢true}
use mathlib.Core.List.{List}
use Prim.Native.Nat.{ℕ, ◌+◌, ◌-◌, ◌*◌, ◌≤◌, ◌<◌}
use native.Mathlib.Omega.{arith}
use lib.IntN.{ℤ}
use lib.ListN.{length}
use lib.Dec.{leb}
use borrow.Author.Tests.{le-leb}
use borrow.Rule.Slice.PartMut.{mid_of, put_mid}
use Rattle.numbers.specs.Signal.{at, pick}
use Rattle.numbers.specs.Word.{wrap32}
use Rattle.numbers.proofs.Parts.{length-mid}
use Rattle.lifting.specs.Line.{lo, hi}
use Rattle.lifting.specs.Halves.{fronted}
use Rattle.lifting.specs.Grid.{Side, side, count, line_forward}
use Rattle.lifting.specs.GridHalves.{in_halves, forward_into}
use Rattle.lifting.proofs.GridLaws.{counts, halves_are, halves-low, halves-high, halves-past}
use Rattle.lifting.proofs.GridReads.{forward-reads}
use Rattle.areas.proofs.AreaLaws.{did}
use Rattle.wavelet.specs.Bands.{Grid}
use Rattle.wavelet.specs.Plane.{cells}
use Rattle.map_levels.specs.Rowwise.{cut}
use Rattle.map_levels.specs.Passes.{rows_mapped}
use Rattle.map_levels.proofs.RowwiseLaws.{cut_in, lent-front}
use Rattle.map_levels.proofs.GridSweep.{Passed, row-length, lent_row, part-turn, mapped_in, mapped-past, mapped-wide}
use Rattle.strokes.specs.Local.{row_done, used_in, rows_done}
use Rattle.strokes.specs.declared.direction.Direction.{Direction}

-- a line's values read its own numbers
pub cut-forward : (S : Side) (x z : ℕ → ℤ) → in_halves S (line_forward wrap32 S (cut S.length x)) z ≡ in_halves S (line_forward wrap32 S x) z
cut-forward S x z =
    let sum = counts S in
    halves_are S (line_forward wrap32 S (cut S.length x)) z _
    (λ m h. forward-reads wrap32 S (cut S.length x) x lo m h (λ i b _. cut_in S.length x i b) ∙ sym (halves-low S (line_forward wrap32 S x) z m h))
    (λ m h.
    let k : count lo S + m - count lo S ≡ m = omega arith in
    forward-reads wrap32 S (cut S.length x) x hi m h (λ i b _. cut_in S.length x i b)
    ∙ sym (halves-high S (line_forward wrap32 S x) z (count lo S + m) (omega arith) (omega arith) ∙ ap (line_forward wrap32 S x hi) k))
    (λ j h. sym (halves-past S (line_forward wrap32 S x) z j h))

-- a row x lifted from the front of another line, where it was copied
pub forward-through : (n k m : ℕ) (y x z : ℕ → ℤ) (l : List ℤ) → k ≡ n → n ≤ length l → m ≡ n → at l ≡ fronted n x z →
    y ≡ pick (leb (length (mid_of 0 k l)) m) (forward_into (side 0 (length (mid_of 0 k l))) (at (mid_of 0 k l)) x) x → y ≡ row_done n x
unfolding forward_into
forward-through n k m y x z l e h em is made =
    let mid = length-mid 0 k l (omega arith) in
    let is' : y ≡ in_halves (side 0 n) (line_forward wrap32 (side 0 n) (at (mid_of 0 k l))) x =
    rw (mid ∙ e) at (did _ _ _ _ (le-leb (length (mid_of 0 k l)) m (omega arith)) made) in
    is' ∙ ap (λ (u : ℕ → ℤ). in_halves (side 0 n) (line_forward wrap32 (side 0 n) u) x) (lent-front n k x z l e h is) ∙ cut-forward (side 0 n) x x

-- a row that is used, and one that is not
pub row-left : (n : ℕ) (x : ℕ → ℤ) (b : Bool) → b ≡ false → x ≡ pick b (row_done n x) x
row-left n x true e = absurd (true≢false e)
row-left n x false e = refl

pub row-used : (n : ℕ) (y x : ℕ → ℤ) (b : Bool) → b ≡ true → y ≡ row_done n x → y ≡ pick b (row_done n x) x
row-used n y x true e f = f
row-used n y x false e f = absurd (false≢true e)

-- row i of a pass over the rows that are used
pub used_turn : (s w : ℕ) (d : Direction) (l₀ : List ℤ) (i k : ℕ) (l z : List ℤ) (b : Bool) → k ≡ w → i < d.size → b ≡ used_in d i →
    length z ≡ length (mid_of (i * s) k l) → at z ≡ pick b (row_done (length (mid_of (i * s) k l)) (at (mid_of (i * s) k l))) (at (mid_of (i * s) k l)) →
    Passed s w d.size (rows_done w d (cells s (at l₀))) l₀ i l →
    Passed s w d.size (rows_done w d (cells s (at l₀))) l₀ (i + 1) (put_mid (i * s) k l z)
unfolding rows_done
used_turn s w d l₀ i k l z b e lt eb ez is p =
    let X = cells s (at l₀) in
    let mid = row-length s w d.size _ l₀ i k l e lt p in
    let is' : at z ≡ pick (used_in d i) (row_done w (cut w (X i))) (cut w (X i)) = cc (is, eb, mid, lent_row s w d.size _ l₀ i k l e p) in
    part-turn s w d.size _ l₀ i k l z e lt ez
    (λ c q.
    ap (λ (f : ℕ → ℤ). f c) is'
    ∙ elim (used_in d i) as (λ t. pick t (row_done w (cut w (X i))) (cut w (X i)) c ≡ pick t (rows_mapped (row_done w) w d.size X i c) (X i c)) [
      | true ↦ sym (mapped_in (row_done w) w d.size X i c lt q)
      | false ↦ cut_in w (X i) c q
    ])
    (λ c q.
    elim (used_in d i) as (λ t. pick t (rows_mapped (row_done w) w d.size X i c) (X i c) ≡ X i c) [
      | true ↦ mapped-wide (row_done w) w d.size X i c q
      | false ↦ refl
    ])
    p

pub rows-past : (w : ℕ) (d : Direction) (X : Grid) (r c : ℕ) → d.size ≤ r → rows_done w d X r c ≡ X r c
unfolding rows_done
rows-past w d X r c h =
    elim (used_in d r) as (λ t. pick t (rows_mapped (row_done w) w d.size X r c) (X r c) ≡ X r c) [
      | true ↦ mapped-past (row_done w) w d.size X r c h
      | false ↦ refl
    ]
