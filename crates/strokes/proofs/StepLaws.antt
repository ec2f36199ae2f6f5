-- What the calls of one level come to: the level lifted, its bands in memory, its high bands copied. Assumes nothing.
use mathlib.Core.Path.{◌≡◌, refl, sym, ap, ap₂, ◌∙◌}
use mathlib.Core.Bool.{true}
use Prim.Native.Nat.{ℕ, zero, suc, ◌+◌, ◌-◌, ◌*◌, ◌/◌, ◌≤◌, ◌<◌}
use native.Mathlib.Omega.{arith}
use lib.IntN.{ℤ}
use Rattle.numbers.specs.Signal.{pick}
use Rattle.numbers.specs.Word.{wrap32}
use Rattle.lifting.specs.Line.{Half, lo, hi}
use Rattle.lifting.specs.Grid.{side, place, count}
use Rattle.lifting.specs.FiveThree.{five_three_filter}
use Rattle.wavelet.specs.Bands.{Grid, band_of, subband}
use Rattle.wavelet.specs.Plane.{cells, flat}
use Rattle.wavelet.proofs.GridLaws.{cells-flat}
use Rattle.map_levels.proofs.CellLaws.{flat-same}
use Rattle.map_levels.proofs.LevelCalls.{mapped-same}
use Rattle.strokes.specs.Reach.{Span, reached}
use Rattle.strokes.specs.Local.{Lies, Agrees, changed_of, used_in, columns_done, row_done, rows_done, level_done, place_of, half_of, band_mended, highs_mended}
use Rattle.strokes.specs.declared.direction.Direction.{Direction}
use borrow.Author.Tests.{leb-true}
use Rattle.numbers.proofs.Sweep.{both as both_yes}
use Rattle.strokes.proofs.DirectionLaws.{used_low, used_high}
use Rattle.strokes.proofs.LevelLaws.{column, window-at}
use Rattle.strokes.proofs.BandLaws.{held_of}

-- ---- columns, then rows
rows_same : (w : ℕ) (d : Direction) (X Y : Grid) (r c : ℕ) → X r c ≡ Y r c → ((j : ℕ) → j < w → X r j ≡ Y r j) → rows_done w d X r c ≡ rows_done w d Y r c
unfolding rows_done
rows_same w d X Y r c e f = ap₂ (pick (used_in d r)) (mapped-same (row_done w) w d.size X Y r c e f) e

pub lifted : (s w : ℕ) (d : Direction) (x x₁ x₂ : ℕ → ℤ) → 0 < s → w ≤ s → x₁ ≡ flat s (columns_done w d.size (cells s x)) →
    x₂ ≡ flat s (rows_done w d (cells s x₁)) → x₂ ≡ flat s (level_done w d (cells s x))
unfolding level_done
lifted s w d x x₁ x₂ some ws e f =
    let same : (r c : ℕ) → c < s → cells s x₁ r c ≡ columns_done w d.size (cells s x) r c =
    λ r c b. ap (λ (y : ℕ → ℤ). cells s y r c) e ∙ cells-flat s (columns_done w d.size (cells s x)) r c b in
    f ∙ flat-same s _ _ some (λ r c b. rows_same w d _ _ r c (same r c b) (λ j q. same r j (omega arith)))

-- ---- a number of a band, where it stands in the window
place_is : (h H n : ℕ) → h ≤ 1 → place (side 0 H) (half_of h) n ≡ 2 * n + h
unfolding place
place_is zero H n b = refl
place_is (suc zero) H n b = refl
place_is (suc (suc h)) H n b = absurd (omega arith)

column-is : (a w h m : ℕ) (X : Grid) → a ≤ 1 → column w h X (half_of a) m ≡ a * (w - w / 2) + m
unfolding count
column-is zero w h m X b = omega arith
column-is (suc zero) w h m X b = omega arith
column-is (suc (suc a)) w h m X b = absurd (omega arith)

-- a row in reach is used
reached-high : (s : Span) (n : ℕ) → reached s hi n ≡ true → (2 * n ≤ s.last) × (s.first ≤ 2 * n + 2)
unfolding reached
reached-high s n e = let k = both_yes _ _ e in (leb-true (2 * n) s.last k.0, leb-true s.first (2 * n + 2) k.1)

used-reached : (u v k : ℕ) (d : Direction) → Lies u v k d → (h : ℕ) → h ≤ 1 → (n : ℕ) → d.start / 2 ≤ n → reached (changed_of d) (half_of h) n ≡ true →
    used_in d (place (side 0 d.size) (half_of h) (n - d.start / 2)) ≡ true
unfolding place
used-reached u v k d L zero b n p e = let z : 2 * (n - d.start / 2) + 0 ≡ 2 * (n - d.start / 2) = omega arith in rw z (used_low d (n - d.start / 2))
used-reached u v k d L (suc zero) b n p e =
    let r = reached-high (changed_of d) n e in
    let c = L.cut.even in
    used_high d (n - d.start / 2) (omega arith) (omega arith)
used-reached u v k d L (suc (suc h)) b n p e = absurd (omega arith)

module _ (u v u' v' k : ℕ) (d e : Direction) (Ld : Lies u v (suc k) d) (Le : Lies u' v' (suc k) e) (G X : Grid) (same : Agrees u v u' v' d e G X) (S : ℕ)
    (wide : d.size ≤ S) (x : ℕ → ℤ) (is : x ≡ flat S (level_done d.size e X)) where
  pub work-band : (a h : ℕ) → a ≤ 1 → h ≤ 1 → (n m : ℕ) → n < count (half_of h) (side 0 e.length) → m < count (half_of a) (side 0 d.length) →
      reached (changed_of e) (half_of h) n ≡ true → reached (changed_of d) (half_of a) m ≡ true →
      x (place_of S d e a h n m) ≡ subband five_three_filter wrap32 (side 0 d.length) (side 0 e.length) G (band_of (half_of a) (half_of h)) n m
  work-band a h ba bh n m p q rn rm =
      let hn = held_of u' v' k e Le (half_of h) n p rn in
      let hm = held_of u v k d Ld (half_of a) m q rm in
      let n' = n - e.start / 2 in
      let m' = m - d.start / 2 in
      let en : e.start / 2 + n' ≡ n = omega (arith, hn.past) in
      let em : d.start / 2 + m' ≡ m = omega (arith, hm.past) in
      ap (λ (y : ℕ → ℤ). y (place_of S d e a h n m)) is
      ∙ sym (ap (λ (i : ℕ). flat S (level_done d.size e X) (i * S + column d.size e.size X (half_of a) m')) (place_is h e.size n' bh)
      ∙ ap (λ (j : ℕ). flat S (level_done d.size e X) ((2 * n' + h) * S + j)) (column-is a d.size e.size m' X ba))
      ∙ window-at u v d.length d.start (d.start / 2) d.size Ld.cut u' v' e.length e.start (e.start / 2) e Le.cut X G same S
      (half_of a) (half_of h) n' m' (used-reached u' v' (suc k) e Le h bh n hn.past rn) wide
      hn.in-half hm.in-half hn.left hn.right hm.left hm.right
      ∙ ap (λ (i : ℕ). subband five_three_filter wrap32 (side 0 d.length) (side 0 e.length) G (band_of (half_of a) (half_of h)) i (d.start / 2 + m')) en
      ∙ ap (subband five_three_filter wrap32 (side 0 d.length) (side 0 e.length) G (band_of (half_of a) (half_of h)) n) em

-- ---- one band after the other
mended-same : (a h : Half) (W H : ℕ) (s t : Span) (B P Q : Grid) (r c : ℕ) → P r c ≡ Q r c → band_mended a h W H s t B P r c ≡ band_mended a h W H s t B Q r c
unfolding band_mended
mended-same a h W H s t B P Q r c e = rw e

pub then-band : (A : ℕ) (a h : Half) (W H : ℕ) (s t : Span) (B P : Grid) (z z' : ℕ → ℤ) → 0 < A → z ≡ flat A P →
    z' ≡ flat A (band_mended a h W H s t B (cells A z)) →
    z' ≡ flat A (band_mended a h W H s t B P)
then-band A a h W H s t B P z z' some e f =
    f ∙ flat-same A _ _ some (λ r c b. mended-same a h W H s t B _ _ r c (ap (λ (y : ℕ → ℤ). cells A y r c) e ∙ cells-flat A P r c b))

pub highs-copied : (A W H : ℕ) (s t : Span) (G P : Grid) (z₁ z₂ z₃ : ℕ → ℤ) → 0 < A →
    z₁ ≡ flat A (band_mended hi lo W H s t (subband five_three_filter wrap32 (side 0 W) (side 0 H) G (band_of hi lo)) P) →
    z₂ ≡ flat A (band_mended lo hi W H s t (subband five_three_filter wrap32 (side 0 W) (side 0 H) G (band_of lo hi)) (cells A z₁)) →
    z₃ ≡ flat A (band_mended hi hi W H s t (subband five_three_filter wrap32 (side 0 W) (side 0 H) G (band_of hi hi)) (cells A z₂)) →
    z₃ ≡ flat A (highs_mended W H s t G P)
unfolding highs_mended
highs-copied A W H s t G P z₁ z₂ z₃ some e₁ e₂ e₃ =
    then-band A hi hi W H s t _ _ z₂ z₃ some (then-band A lo hi W H s t _ _ z₁ z₂ some e₁ e₂) e₃
