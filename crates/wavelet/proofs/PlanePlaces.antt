-- Every place of the plane is a place of exactly one kept band row. Assumes nothing.
use mathlib.Core.Path.{◌≡◌, refl, sym, ap, ◌∙◌, subst}
use Prim.Native.Nat.{ℕ, zero, suc, ◌+◌, ◌-◌, ◌*◌, ◌<◌}
use native.Mathlib.Decide.{dec_lt}
use native.Mathlib.Omega.{arith}
use Rattle.lifting.specs.Line.{Half, lo, hi}
use Rattle.lifting.specs.Grid.{Side, count}
use Rattle.wavelet.specs.Bands.{Band, LL, across, down, band_of}
use Rattle.wavelet.specs.Levels.{next, side_at}
use Rattle.wavelet.specs.Plane.{level_at}
use Rattle.wavelet.specs.View.{band_rows, band_columns, band_start}
use Rattle.wavelet.proofs.SideLaws.{count-sum, next-length}
use Rattle.wavelet.proofs.GridLaws.{place-apart}
use Rattle.wavelet.proofs.SidePlaces.{offset, offset-inner, extent-inner, one-half}
use Rattle.wavelet.proofs.BandPlaces.{band-of}
use Rattle.wavelet.proofs.PlaneLayout.{Stands, plane_row, plane_column, place_is, column-in, level-places}

-- ---- exactly one: two kept places that are one place of the plane are one
pub place-once : (L : ℕ) (W H : Side) (k k' : ℕ) (b b' : Band) (r r' c c' : ℕ) → Stands L W H k b r c → Stands L W H k' b' r' c' →
    band_start W H k b r + c ≡ band_start W H k' b' r' + c' → (k ≡ k') × (b ≡ b') × (r ≡ r') × (c ≡ c')
unfolding band_rows band_columns
place-once L W H k k' b b' r r' c c' s t e =
    let apart =
    place-apart W.length (plane_row H k b r) (plane_row H k' b' r') (plane_column W k b c) (plane_column W k' b' c')
    (column-in L W H k b r c s) (column-in L W H k' b' r' c' t)
    (sym (place_is W H k b r c) ∙ e ∙ place_is W H k' b' r' c')
    in
    let levels = sym (level-places L W H k b r c s) ∙ same L W H _ _ _ _ apart.0 apart.1 ∙ level-places L W H k' b' r' c' t in
    let rows = one-half (down b) (down b') k k' H r r' s.deep levels s.row t.row apart.0 in
    let columns = one-half (across b) (across b') k k' W c c' s.deep levels s.column t.column apart.1 in
    (levels, sym (band-of b) ∙ halves _ _ _ _ columns.0 rows.0 ∙ band-of b', rows.1, columns.1)
  where
    same : (L : ℕ) (W H : Side) (r r' c c' : ℕ) → r ≡ r' → c ≡ c' → level_at L W H r c ≡ level_at L W H r' c'
    same L W H r r' c c' p q = cc

    halves : (a a' d d' : Half) → a ≡ a' → d ≡ d' → band_of a d ≡ band_of a' d'
    halves a a' d d' p q = cc

-- ---- at least one
pub record Found (L : ℕ) (W H : Side) (r c : ℕ) : Type 0 where
  pub level : ℕ
  pub band : Band
  pub row : ℕ
  pub column : ℕ
  pub stands : Stands L W H level band row column
  pub row_is : plane_row H level band row ≡ r
  pub column-is : plane_column W level band column ≡ c

-- the half of a side, and the place in it
record Part (S : Side) (i : ℕ) : Type 0 where
  half : Half
  place : ℕ
  within : place < count half S
  is : offset half 1 S + place ≡ i

part : (S : Side) (i : ℕ) → i < S.length → Part S i
unfolding offset side_at next
part S i p =
    elim (dec_lt i (count lo S)) [
      | yes q ↦ record { half = lo; place = i; within = q; is = omega arith }
      | no d ↦ record { half = hi; place = i - count lo S; within = omega (arith, count-sum S); is = omega arith }
    ]

low-place : (S : Side) (i x : ℕ) → x < count lo S → offset lo 1 S + x ≡ i → i < count lo S
unfolding offset
low-place S i x w j = omega arith

part_low : (S : Side) (i : ℕ) (p : Part S i) → p.half ≡ lo → i < count lo S
part_low S i p e =
    low-place S i p.place (subst (λ (h : Half). p.place < count h S) e p.within)
    (subst (λ (h : Half). offset h 1 S + p.place ≡ i) e p.is)

across-of : (a d : Half) → across (band_of a d) ≡ a
unfolding across band_of
across-of lo lo = refl
across-of hi lo = refl
across-of lo hi = refl
across-of hi hi = refl

down-of : (a d : Half) → down (band_of a d) ≡ d
unfolding down band_of
down-of lo lo = refl
down-of hi lo = refl
down-of lo hi = refl
down-of hi hi = refl

-- a place that the finest level keeps
finest : (L : ℕ) (W H : Side) (r c : ℕ) (p : Part H r) (q : Part W c) → (band_of q.half p.half ≡ LL → L ≡ 0) → Found (suc L) W H r c
unfolding band_rows band_columns side_at
finest L W H r c p q l =
    record {
      level = 1;
      band = band_of q.half p.half;
      row = p.place;
      column = q.place;
      stands = record {
        deep = omega arith;
        most = omega arith;
        last = λ e. ap suc (sym (l e));
        row = subst (λ (h : Half). p.place < count h H) (sym (down-of q.half p.half)) p.within;
        column = subst (λ (h : Half). q.place < count h W) (sym (across-of q.half p.half)) q.within;
      };
      row_is = ap (λ (h : Half). offset h 1 H + p.place) (down-of q.half p.half) ∙ p.is;
      column-is = ap (λ (h : Half). offset h 1 W + q.place) (across-of q.half p.half) ∙ q.is;
    }

-- a place of the low-low part's plane
inner : (L : ℕ) (W H : Side) (r c : ℕ) → Found L (next W) (next H) r c → Found (suc L) W H r c
unfolding band_rows band_columns
inner L W H r c f =
    let s = f.stands in
    record {
      level = suc f.level;
      band = f.band;
      row = f.row;
      column = f.column;
      stands = record {
        deep = omega arith;
        most = omega (arith, s.most);
        last = λ e. ap suc (s.last e);
        row = subst (λ (x : ℕ). f.row < x) (sym (extent-inner (down f.band) f.level H s.deep)) s.row;
        column = subst (λ (x : ℕ). f.column < x) (sym (extent-inner (across f.band) f.level W s.deep)) s.column;
      };
      row_is = ap (λ (x : ℕ). x + f.row) (offset-inner (down f.band) f.level H) ∙ f.row_is;
      column-is = ap (λ (x : ℕ). x + f.column) (offset-inner (across f.band) f.level W) ∙ f.column-is;
    }

-- outside the corner no band is LL
no-corner : (W H : Side) (r c : ℕ) (p : Part H r) (q : Part W c) → (r < count lo H → c < count lo W → ⊥) → band_of q.half p.half ≡ LL → ⊥
unfolding down across
no-corner W H r c p q n e =
    n (part_low H r p (sym (down-of q.half p.half) ∙ ap down e)) (part_low W c q (sym (across-of q.half p.half) ∙ ap across e))

pub found : (L : ℕ) (W H : Side) (r c : ℕ) → 0 < L → r < H.length → c < W.length → Found L W H r c
found zero W H r c h p q = absurd (omega arith)
found (suc zero) W H r c h p q = finest 0 W H r c (part H r p) (part W c q) (λ e. refl)
found (suc (suc L)) W H r c h p q =
    elim (dec_lt r (count lo H)) [
      | yes a ↦
          elim (dec_lt c (count lo W)) [
            | yes b ↦ inner (suc L) W H r c (found (suc L) (next W) (next H) r c (omega arith) (omega (arith, next-length H)) (omega (arith, next-length W)))
            | no b ↦ beside (λ x y. b y)
          ]
      | no a ↦ beside (λ x y. a x)
    ]
  where
    beside : (r < count lo H → c < count lo W → ⊥) → Found (suc (suc L)) W H r c
    beside n = finest (suc L) W H r c (part H r p) (part W c q) (λ e. absurd (no-corner W H r c (part H r p) (part W c q) n e))

-- so every place of the plane is one of a kept band row
pub found-place : (L : ℕ) (W H : Side) (r c : ℕ) (f : Found L W H r c) → band_start W H f.level f.band f.row + f.column ≡ r * W.length + c
found-place L W H r c f = place_is W H f.level f.band f.row f.column ∙ alike _ _ _ _ f.row_is f.column-is
  where
    alike : (x x' y y' : ℕ) → x ≡ x' → y ≡ y' → x * W.length + y ≡ x' * W.length + y'
    alike x x' y y' p q = cc
