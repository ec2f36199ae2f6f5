-- The questions of the two calls in plain numbers (wavelet's Asks):
--     round_asks          2, 3, 4, 20 and 5 in their order, of a plane of n numbers
--     round-passes        so the rounding passes exactly where 1 ≤ W ≤ 2,049, 1 ≤ H ≤ 4,294,967,295, 1 ≤ L ≤ 5, 1 ≤ q ≤ 64 and the plane has W × H numbers
--     bound_asks          4 and 20, of the figure
-- Assumes nothing.
use mathlib.Core.Path.{◌≡◌, refl}
use mathlib.Core.Bool.{true}
use mathlib.Core.Logic.{◌↔◌}
use Prim.Native.Nat.{ℕ, ◌*◌, ◌≤◌}
use native.Mathlib.Omega.{arith}
use lib.Dec.{leb}
use Rattle.wavelet.specs.Limits.{max_width, max_height, max_levels}
use Rattle.wavelet.specs.Questions.{within}
use Rattle.wavelet.specs.Asks.{Width, Height, Levels}
use Rattle.wavelet.proofs.QuestionLaws.{within-true, within-yes}
use Rattle.wavelet.proofs.AskLaws.{went, passed, asked, room, width-exactly, height-exactly, levels-exactly}
use Rattle.rounding.specs.Figure.{max_step}
use Rattle.rounding.specs.Calls.{round_question, bound_question}
use Rattle.rounding.specs.Plain.{StepWithin, RoundAsks, BoundAsks}

step-exactly : (q : ℕ) → within 1 max_step q ≡ true ↔ StepWithin q
unfolding max_step
step-exactly q = (
  λ e. let p = within-true 1 max_step q e in (p.0, omega (arith, p.1)),
  λ h. within-yes 1 max_step q h.0 (omega (arith, h.1)),
)

module _ (W H L q n : ℕ) where
  pub round_asks : RoundAsks W H L q n (round_question W H L q n)
  unfolding round_question
  round_asks =
      asked (within 1 max_width W) _ (width-exactly W)
      (asked (within 1 max_height H) _ (height-exactly H)
      (asked (within 1 max_levels L) _ (levels-exactly L)
      (asked (within 1 max_step q) _ (step-exactly q)
      (asked (leb (W * H) n) _ (room (W * H) n) refl))))

  pub round-passes : round_question W H L q n ≡ 0 ↔ Width W × Height H × Levels 0 L × StepWithin q × (W * H ≤ n)
  round-passes = (
    λ e.
        let w = passed (omega arith) round_asks e in
        let h = passed (omega arith) w.1 e in
        let l = passed (omega arith) h.1 e in
        let s = passed (omega arith) l.1 e in
        let a = passed (omega arith) s.1 e in
        (w.0, h.0, l.0, s.0, a.0),
    λ p. went (went (went (went (went round_asks p.0) p.1) p.2) p.3) p.4,
  )

pub bound_asks : (L q : ℕ) → BoundAsks L q (bound_question L q)
unfolding bound_question
bound_asks L q = asked (within 1 max_levels L) _ (levels-exactly L) (asked (within 1 max_step q) _ (step-exactly q) refl)
