-- After a set-up with a stop that answered 0, a list of C calls shows and leaves what the list of Rattle's calls does, and what Q-6 asks holds of it, with
-- levels to work out and with none: `reader-c-stop`. Assumes nothing.
use mathlib.Core.Bool.{Bool, true, false}
use mathlib.Core.Path.{◌≡◌, refl}
use mathlib.Core.List.{List}
use Prim.Native.Nat.{ℕ, zero, suc, ◌≤◌}
use native.Mathlib.Omega.{arith}
use lib.IntN.{ℤ}
use Rattle.lifting.specs.Grid.{Side}
use Rattle.wavelet.specs.Limits.{max_origin}
use Rattle.wavelet.proofs.QuestionLaws.{within-true}
use Rattle.calls.specs.Lists.{Mixed}
use Rattle.reader.specs.Questions.{stop_question}
use Rattle.reader.specs.Calls.{set_up_store}
use Rattle.reader.specs.Stops.{works, fresh_at, stop_reply}
use Rattle.reader.specs.Demand3.{Call, event, events, final}
use Rattle.reader.proofs.QuestionLaws.{stop-in}
use Rattle.distant.specs.Distant.{stopped_world, Distant}
use Rattle.distant.proofs.Distant.{distant, distant-last}
use Rattle.terrain.specs.Memories.{Memories}
use Rattle.terrain.specs.ReaderLists.{CCall, Stray, holding, calls}
use Rattle.terrain.specs.StopLists.{stop_asked, stop_set_up, ClaimBy, OfStopCalls}
use Rattle.terrain.proofs.ReaderListsHold.{after_holds, answered-0}

module _ (f : ℕ) (W H : Side) (L n : ℕ) (across : W.start ≤ max_origin) (down : H.start ≤ max_origin) (x : ℕ → ℤ) (cs : List Call) where
  -- a stop that passed is above 0
  with-levels : (j : ℕ) → stop_question f W H L j n ≡ 0 → works W H L j ≡ true →
      (let w = stopped_world f W H L j x in Distant f W H L j (events cs w) (λ c. event c (final cs w)))
  with-levels zero ok on = absurd (omega (arith, within-true 1 L 0 (stop-in f W H L 0 n ok).4))
  with-levels (suc i) ok on = distant f W H L i n across down ok on x cs

  claims : (j : ℕ) → stop_question f W H L j n ≡ 0 →
      (let w = stopped_world f W H L j x in ClaimBy (works W H L j) f W H L j (events cs w) (λ c. event c (final cs w)))
  claims j ok = go (works W H L j) refl
    where
      go : (t : Bool) → works W H L j ≡ t →
          (let w = stopped_world f W H L j x in ClaimBy t f W H L j (events cs w) (λ c. event c (final cs w)))
      go true on = with-levels j ok on
      go false off = distant-last f W H L j n across down ok off x cs

module _ (f : ℕ) (W H : Side) (L j n : ℕ) where
  pub stop-passed : stop_asked f W H L j n ≡ 0 → stop_question f W H L j n ≡ 0
  unfolding stop_reply
  stop-passed = answered-0 (stop_question f W H L j n) (fresh_at f W H L j)

  stop-fresh : (m : Memories) → stop_asked f W H L j n ≡ 0 → stop_set_up f W H L j n m ≡ holding (stopped_world f W H L j m.store)
  stop-fresh m e = let z = stop-passed e in unfold stop_reply set_up_store in rw z refl

  pub reader-c-stop : W.start ≤ max_origin → H.start ≤ max_origin → stop_asked f W H L j n ≡ 0 → (m : Memories) (ds : List (Mixed CCall Stray)) →
      OfStopCalls f W H L j n m ds
  reader-c-stop across down e m ds =
      after_holds (stop_set_up f W H L j n m) (stopped_world f W H L j m.store) (ClaimBy (works W H L j) f W H L j) ds (stop-fresh m e)
      (claims f W H L n across down m.store (calls ds) j (stop-passed e))
