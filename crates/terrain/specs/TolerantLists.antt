-- Lists of C calls on a tolerant reader (document 02, Q-10), as ReaderLists has them for a strict one: its set-up is its own, its other calls are the reader's.
use Rattle.std.specs.Prelude.{◌≡◌, List, ℕ, ◌≤◌, ℤ}
use Rattle.lifting.specs.Grid.{side}
use Rattle.lifting.specs.FiveThree.{five_three_filter}
use Rattle.wavelet.specs.Bands.{Grid}
use Rattle.wavelet.specs.Maps.{HasPlane}
use Rattle.wavelet.specs.Plane.{cells}
use Rattle.calls.specs.Lists.{Mixed, mine}
use Rattle.reader.specs.Answers.{number}
use Rattle.reader.specs.Questions.{tolerant_question}
use Rattle.reader.specs.Calls.{set_up_store}
use Rattle.reader.specs.Demand3.{World, event, events, final}
use Rattle.rounding_error.specs.Tolerant.{tolerant_world, Tolerant, FromRounded}
use Rattle.terrain.specs.Memories.{Memories}
use Rattle.terrain.specs.ReaderCalls as c
use Rattle.terrain.specs.ReaderLists.{CCall, Stray, shows, seen_all, leaves_all, tell, told_all, holding, calls}

-- what `terrain_tolerant_set_up` answers and leaves, by its contract, of a store of n numbers
abbrev pub set_up_asked : ℕ → ℕ → ℕ → ℕ → ℕ
set_up_asked W H L n = number (c.tolerating W H L n)

abbrev pub set_up : ℕ → ℕ → ℕ → ℕ → Memories → Memories
set_up W H L n m =
    record { state = c.state_of (c.tolerating W H L n) m.state; store = set_up_store 0 (side 0 W) L (tolerant_question W H L n) m.store }

-- ---- any C calls ds after a set-up that answered 0, of W columns, H rows and L levels, on a store of n numbers
module _ (W H L n : ℕ) (m : Memories) (ds : List (Mixed CCall Stray)) where
  abbrev pub fresh : World
  fresh = tolerant_world W H L m.store

  abbrev pub then : Memories
  then = leaves_all ds (set_up W H L n m)

  pub record OfCalls : Type 0 where
    -- the set-up leaves the fresh tolerant reader and its store
    pub set-up : set_up W H L n m ≡ holding fresh
    -- what is seen of the calls is what is seen of Rattle's, so told, and of these hold both claims
    pub shown : seen_all ds (set_up W H L n m) ≡ told_all ds (events (calls ds) fresh)
    pub claim : Tolerant W H L (events (calls ds) fresh) (λ k. event k (final (calls ds) fresh))
    pub rounded : (q : ℕ) → 1 ≤ q → (g : Grid) (x : ℕ → ℤ) → HasPlane five_three_filter L (side 0 W) (side 0 H) g (cells W x) →
        FromRounded W H L q g x (events (calls ds) fresh) (λ k. event k (final (calls ds) fresh))
    -- a further call shows what Rattle's would
    pub next : (d : CCall) → shows (mine d) then ≡ tell d (event d.call (final (calls ds) fresh))
    -- array and store are the reader's and its store's
    pub left : then ≡ holding (final (calls ds) fresh)
