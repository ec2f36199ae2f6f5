-- The questions of the whole map in plain numbers (wavelet's Asks), of a map of the columns W and the rows H:
--     sizes-ask            2, 3, 18, 4 and 5 in their order, and then what follows them, of any call that asks them
--     forward_asks         so forward's answer is the number of the first question that says no, and 0 where none does
--     backward_asks        and backward's; 7: a number's size is above 65,535 × 4^k (6^k by the 9/7), k being the level of its place
--     forward-passes       so forward passes exactly where 1 ≤ W ≤ 2,049, 1 ≤ H ≤ 4,294,967,295, the filter is 0 or 1, 1 ≤ L ≤ 5 (4) and each area has W × H
--                          numbers
-- Assumes nothing.
use mathlib.Core.Path.{◌≡◌, refl}
use mathlib.Core.Bool.{Bool, true}
use mathlib.Core.Logic.{◌↔◌}
use Prim.Native.Nat.{ℕ, ◌*◌, ◌≤◌}
use native.Mathlib.Omega.{arith}
use lib.IntN.{nat_abs}
use lib.Dec.{leb}
use borrow.Author.Tests.{leb-true, le-leb}
use Rattle.numbers.specs.Signal.{both}
use Rattle.numbers.proofs.Sweep.{both as both_hold}
use Rattle.lifting.specs.Grid.{Side}
use Rattle.wavelet.specs.Limits.{max_width, max_height, range}
use Rattle.wavelet.specs.Bands.{Grid}
use Rattle.wavelet.specs.Plane.{level_at}
use Rattle.wavelet.specs.Maps.{in-range, rebuilt_fits}
use Rattle.wavelet.specs.Questions.{within}
use Rattle.wavelet.specs.Asks.{Passes, Width, Height, Known, Levels, MapAsks}
use Rattle.wavelet.proofs.AskLaws.{went, passed, asked, shape-went, shape-passed, width-exactly, height-exactly}
use Rattle.wavelet.proofs.MapTheorems.{cells-each, each-cells}
use Rattle.filters.specs.Filters.{filter_of, is_filter}
use Rattle.filters.proofs.PlainFigures.{known-exactly, levels-exactly, range-is}
use Rattle.map_questions.specs.Calls.{shape_questions, size_questions, forward_question, plane_questions, backward_question}
use Rattle.map_questions.specs.Plain.{InRange, BackwardAsks}

-- question 5
areas-exactly : (n a b c : ℕ) → both (leb n a) (both (leb n b) (leb n c)) ≡ true ↔ (n ≤ a) × (n ≤ b) × (n ≤ c)
areas-exactly n a b c = (
  λ e.
      let u = both_hold (leb n a) _ e in
      let v = both_hold (leb n b) _ u.1 in
      (leb-true n a u.0, leb-true n b v.0, leb-true n c v.1),
  λ h. simp (le-leb n a h.0, le-leb n b h.1, le-leb n c h.2),
)

-- question 7
pub range-exactly : (f L : ℕ) (W H : Side) (x : Grid) → in-range (filter_of f) L W H x ≡ true ↔ InRange f L W H x
unfolding in-range
range-exactly f L W H x = (
  λ e. record {
    within = λ r c p q.
        let t = leb-true (nat_abs (x r c)) (range (filter_of f) (level_at L W H r c)) (cells-each W.length H.length test e r c p q) in
        omega (arith, range-is f (level_at L W H r c));
  },
  λ g. each-cells W.length H.length test (λ r c p q.
      le-leb (nat_abs (x r c)) (range (filter_of f) (level_at L W H r c)) (omega (arith, g.within r c p q, range-is f (level_at L W H r c)))),
)
  where
    test : ℕ → ℕ → Bool
    test r c = leb (nat_abs (x r c)) (range (filter_of f) (level_at L W H r c))

module _ (f w h L : ℕ) where
  -- `rest` says which answers follow, and q is one of them
  pub sizes-ask : (a b c : ℕ) (rest : ℕ → Type 0) (q : ℕ) → rest q → MapAsks f w h L a b c rest (size_questions f w h L a b c q)
  unfolding size_questions shape_questions
  sizes-ask a b c rest q r =
      asked (within 1 max_width w) _ (width-exactly w)
      (asked (within 1 max_height h) _ (height-exactly h)
      (asked (is_filter f) _ (known-exactly f)
      (asked (within 1 (filter_of f).levels L) _ (levels-exactly f L)
      (asked (both (leb (w * h) a) (both (leb (w * h) b) (leb (w * h) c))) _ (areas-exactly (w * h) a b c) r))))

module _ (f : ℕ) (W H : Side) (L a b c : ℕ) where
  pub forward_asks : MapAsks f W.length H.length L a b c Passes (forward_question f W H L a b c)
  unfolding forward_question
  forward_asks = sizes-ask f W.length H.length L a b c _ _ refl

  pub forward-passes : forward_question f W H L a b c ≡ 0 ↔ Width W.length × Height H.length × Known f × Levels f L
      × (W.length * H.length ≤ a) × (W.length * H.length ≤ b) × (W.length * H.length ≤ c)
  forward-passes = (
    λ e.
        let p = shape-passed forward_asks e in
        let s = passed (omega arith) p.4 e in
        (p.0, p.1, p.2, p.3, s.0.0, s.0.1, s.0.2),
    λ p. went (shape-went forward_asks p.0 p.1 p.2 p.3) (p.4, p.5, p.6),
  )

  -- of the plane x
  pub backward_asks : (x : Grid) → BackwardAsks f W H L a b c x (backward_question f W H L a b c x)
  unfolding backward_question plane_questions
  backward_asks x =
      sizes-ask f W.length H.length L a b c _ _
      (asked (in-range (filter_of f) L W H x) _ (range-exactly f L W H x)
      (asked (rebuilt_fits (filter_of f) 0 L W H x) _ (λ e. e, λ e. e) refl))
