-- The view's questions in plain numbers (specs/Asks), both ways:
--     view_asks            its answer is that of the first question that says no, and 0 where none does
--     view-passes          it passes exactly where sizes and area pass and the band row stands in the plane
-- Assumes nothing.
use mathlib.Core.Path.{◌≡◌, refl, ap, ◌∙◌}
use mathlib.Core.Bool.{true, false}
use mathlib.Core.Logic.{◌↔◌}
use Prim.Native.Nat.{ℕ, ◌*◌, ◌≤◌}
use native.Mathlib.Omega.{arith}
use lib.Dec.{leb}
use borrow.Author.Tests.{eq-eqb, lt-ltb}
use Rattle.lifting.specs.Grid.{Side}
use Rattle.wavelet.specs.Limits.{max_width, max_height, max_levels}
use Rattle.wavelet.specs.Bands.{Band, LL, HL, LH, HH}
use Rattle.wavelet.specs.View.{band_rows, band_columns, Kept}
use Rattle.wavelet.specs.Questions.{within}
use Rattle.wavelet.specs.ViewCall.{named, kept_at, band_row_exists, view_question}
use Rattle.wavelet.specs.Asks.{Width, Height, Levels, BandRowStands, ViewAsks}
use Rattle.wavelet.proofs.QuestionLaws.{within-yes}
use Rattle.wavelet.proofs.ViewLaws.{named-at, named-true, exists-kept}
use Rattle.wavelet.proofs.AskLaws.{went, passed, asked, room, width-exactly, height-exactly, levels-exactly}

kept-at : (L k : ℕ) (b : Band) → (b ≡ LL → k ≡ L) → kept_at L k b ≡ true
unfolding kept_at
kept-at L k LL h = eq-eqb k L (h refl)
kept-at L k HL h = refl
kept-at L k LH h = refl
kept-at L k HH h = refl

pub kept-exists : (W H : Side) (L k : ℕ) (b : Band) (r : ℕ) → Kept W H L k b r → band_row_exists W H L k b r ≡ true
unfolding band_row_exists
kept-exists W H L k b r h =
    simp (
      within-yes 1 L k h.deep h.most,
      kept-at L k b h.last,
      lt-ltb 0 (band_columns W k b) h.columns,
      lt-ltb r (band_rows H k b) h.row,
    )

-- question 6
pub row-exactly : (W H : Side) (L k c r : ℕ) → named c (λ b. band_row_exists W H L k b r) false ≡ true ↔ BandRowStands W H L k c r
row-exactly W H L k c r = (
  λ e.
      let b = named-true c (λ b. band_row_exists W H L k b r) e in
      record { band = b.0; code_is = b.1; kept = exists-kept W H L k b.0 r b.2 },
  λ s.
      ap (λ (x : ℕ). named x (λ b. band_row_exists W H L k b r) false) s.code_is
      ∙ named-at s.band (λ b. band_row_exists W H L k b r) false
      ∙ kept-exists W H L k s.band r s.kept,
)

module _ (n : ℕ) (W H : Side) (L k c r : ℕ) where
  pub view_asks : ViewAsks n W H L k c r (view_question n W H L k c r)
  unfolding view_question
  view_asks =
      asked (within 1 max_width W.length) _ (width-exactly W.length)
      (asked (within 1 max_height H.length) _ (height-exactly H.length)
      (asked (within 1 max_levels L) _ (levels-exactly L)
      (asked (leb (W.length * H.length) n) _ (room (W.length * H.length) n)
      (asked (named c (λ b. band_row_exists W H L k b r) false) _ (row-exactly W H L k c r) refl))))

  pub view-passes : view_question n W H L k c r ≡ 0 ↔
      Width W.length × Height H.length × Levels 0 L × (W.length * H.length ≤ n) × BandRowStands W H L k c r
  view-passes = (
    λ e.
        let w = passed (omega arith) view_asks e in
        let h = passed (omega arith) w.1 e in
        let l = passed (omega arith) h.1 e in
        let a = passed (omega arith) l.1 e in
        let s = passed (omega arith) a.1 e in
        (w.0, h.0, l.0, a.0, s.0),
    λ p. went (went (went (went (went view_asks p.0) p.1) p.2) p.3) p.4,
  )
