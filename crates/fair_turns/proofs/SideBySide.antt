-- Fed at its turns the row it wants, a reader of a whole map or one with a stop (Q-6) gets the first band rows of its own list of steps, whatever the others
-- do and whatever kinds they are: `readers-in-turn`. Assumes nothing.
use mathlib.Core.Path.{◌≡◌, refl}
use mathlib.Core.Bool.{Bool, true, false}
use mathlib.Core.List.{List, []}
use Prim.Native.Nat.{ℕ, zero, suc, ◌≤◌}
use native.Mathlib.Omega.{arith}
use lib.IntN.{ℤ}
use Rattle.lifting.specs.Grid.{Side}
use Rattle.wavelet.specs.Limits.{max_origin}
use Rattle.wavelet.specs.Order.{RowName}
use Rattle.wavelet.proofs.QuestionLaws.{within-true}
use Rattle.calls.specs.Lists.{Area}
use Rattle.reader.specs.Questions.{stop_question}
use Rattle.reader.specs.Stops.{works}
use Rattle.reader.proofs.QuestionLaws.{stop-in}
use Rattle.fair_turns.specs.Reading.{Reading, ReadingLaws}
use Rattle.fair_turns.specs.Together as together
use Rattle.fair_turns.specs.FedInTurn.{moments, InTurn, FedInOrder}
use Rattle.fair_turns.specs.Stopping.{stopping}
use Rattle.fair_turns.specs.SideBySide.{Kind, whole, stopped, stopped_by, reading_of, IsSetUp}
use Rattle.fair_turns.proofs.Fed.{fed-in-turn}
use Rattle.fair_turns.proofs.Standing.{standing-laws}
use Rattle.fair_turns.proofs.Stopping.{stopping-laws, handing-laws}

-- ---- with a stop that passed, which is above 0
module _ (f : ℕ) (W H : Side) (L n : ℕ) (across : W.start ≤ max_origin) (down : H.start ≤ max_origin) (x : ℕ → ℤ) where
  levels-laws : (j : ℕ) → stop_question f W H L j n ≡ 0 → works W H L j ≡ true → ReadingLaws (stopping f W H L j n x)
  levels-laws zero ok on = absurd (omega (arith, within-true 1 L 0 (stop-in f W H L 0 n ok).4))
  levels-laws (suc i) ok on = stopping-laws f W H L i n across down ok on x

  stopped-laws : (j : ℕ) → stop_question f W H L j n ≡ 0 → ReadingLaws (stopped_by (works W H L j) f W H L j n x)
  stopped-laws j ok = go (works W H L j) refl
    where
      go : (t : Bool) → works W H L j ≡ t → ReadingLaws (stopped_by t f W H L j n x)
      go true on = levels-laws j ok on
      go false off = handing-laws f W H L j n across down ok off x

pub kind-laws : (k : Kind) → IsSetUp k → ReadingLaws (reading_of k)
kind-laws (whole f W H L n x) ok = standing-laws f W H L n ok.0 ok.1 ok.2 x
kind-laws (stopped f W H L j n x) ok = stopped-laws f W H L n ok.0 ok.1 x j ok.2

-- ---- sixteen of them, of whatever kinds, of which reader n was set up by a call that passed
module _ (kinds : ℕ → Kind) where
  abbrev R : ℕ → Reading
  R k = reading_of (kinds k)

  pub readers-in-turn : (n : ℕ) → IsSetUp (kinds n) → (disk : RowName → Area) (w : together.World R) → w.readers n ≡ (R n).fresh →
      (cs : List (together.Call R)) → InTurn (R n) n disk false [] (moments R n (together.events R cs w)) →
      FedInOrder R n disk (together.events R cs w) (λ c. (R n).event c ((together.final R cs w).readers n))
  readers-in-turn n ok disk w at cs i = fed-in-turn R n (kind-laws (kinds n) ok) disk w at cs i
