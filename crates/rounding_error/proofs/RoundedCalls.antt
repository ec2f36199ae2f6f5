-- Document 02, Q-10, over every list of calls: "from the rounded plane of a map, it draws all rows and no height is off from that map by more than level 1's
-- figure." A set-up of the tolerant reader that passes, on a store of n numbers in which z stood, then any calls.
--     rounded-calls     what holds after any of them
--     rounded-past      likewise, where each call finds numbers of its own past the needed part of the store
--     rounded-played    fed and drawn as it wants: all rows, and Done
-- Assumes nothing.
use mathlib.Core.Path.{◌≡◌}
use mathlib.Core.List.{List}
use Prim.Native.Nat.{ℕ, ◌≤◌}
use lib.IntN.{ℤ}
use lib.ListN.{length}
use borrow.Author.Tests.{leb-true}
use Rattle.lifting.specs.Grid.{side}
use Rattle.lifting.specs.FiveThree.{five_three_filter}
use Rattle.wavelet.specs.Bands.{Grid}
use Rattle.wavelet.specs.Maps.{HasPlane}
use Rattle.wavelet.specs.Order.{RowName}
use Rattle.wavelet.specs.Plane.{cells}
use Rattle.calls.specs.Lists.{Area}
use Rattle.calls.specs.Lists as lists
use Rattle.rounding.specs.Rounding.{rounded_plane}
use Rattle.reader.specs.Questions.{store_fits, tolerant_question}
use Rattle.reader.specs.Demand3.{Call, event, events, final}
use Rattle.reader.specs.Past.{Lent, found, lent_event, lent_next}
use Rattle.reader.specs.Played.{played}
use Rattle.rounding_error.specs.Tolerant.{tolerant_world, steps_of, needed, HasRows, FromRounded, AllNear}
use Rattle.rounding_error.proofs.FedRounded.{from-rounded}
use Rattle.rounding_error.proofs.PlayedRounded.{played-near}
use Rattle.rounding_error.proofs.TolerantLists.{set-up-in, tolerant-calls, tolerant-past}

module _ (W H L n q : ℕ) (ok : tolerant_question W H L n ≡ 0) (step-some : 1 ≤ q) (g : Grid) (x : ℕ → ℤ)
    (has : HasPlane five_three_filter L (side 0 W) (side 0 H) g (cells W x)) (z : ℕ → ℤ) where
  pub rounded-calls : (cs : List Call) →
      FromRounded W H L q g x (events cs (tolerant_world W H L z)) (λ c. event c (final cs (tolerant_world W H L z)))
  rounded-calls cs =
      let s = set-up-in W H L n ok in
      from-rounded W H L s.some q g x step-some s.few has _ _ (tolerant-calls W H L n ok z cs)

  pub rounded-past : (ds : List Lent) (p : ℕ → ℤ) → (let w = tolerant_world W H L z in
      FromRounded W H L q g x (lists.events lent_event lent_next ds w) (λ c. event c (found p (lists.final lent_next ds w))))
  rounded-past ds p =
      let s = set-up-in W H L n ok in
      from-rounded W H L s.some q g x step-some s.few has _ _ (tolerant-past W H L n ok z ds p)

  pub rounded-played : (rows : RowName → Area) → HasRows W H L (rounded_plane L W H q x) rows → (outs : ℕ → Area) → ((i : ℕ) → W ≤ (outs i).size) →
      (let w = tolerant_world W H L z in let cs = played n rows outs (length (steps_of W H L)) w in AllNear W H L q g (events cs w) (λ c. event c (final cs w)))
  unfolding store_fits
  rounded-played rows are outs room =
      let s = set-up-in W H L n ok in
      played-near W H L s.some q g x step-some s.few has (tolerant_world W H L z) (tolerant-calls W H L n ok z) n
      (leb-true (needed W H L) n s.room) rows are outs room
