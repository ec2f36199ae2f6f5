-- Lists of C calls that begin with `terrain_reader_set_up_at`, the set-up with a stop (document 02, Q-6), as ReaderLists has them for the set-up without one.
use Rattle.std.specs.Prelude.{Bool, true, false, List, ℕ}
use Rattle.lifting.specs.Grid.{Side}
use Rattle.calls.specs.Lists.{Mixed}
use Rattle.reader.specs.Answers.{number}
use Rattle.reader.specs.Questions.{stop_question}
use Rattle.reader.specs.Calls.{set_up_store}
use Rattle.reader.specs.Stops.{works}
use Rattle.reader.specs.Demand3.{Call, Event}
use Rattle.distant.specs.Distant.{stopped_world, Distant, HandsLow}
use Rattle.terrain.specs.Memories.{Memories}
use Rattle.terrain.specs.ReaderCalls as c
use Rattle.terrain.specs.ReaderLists.{CCall, Stray, AfterSetUp}

-- what it answers and leaves, by its contract, of a store of n numbers
abbrev pub stop_asked : ℕ → Side → Side → ℕ → ℕ → ℕ → ℕ
stop_asked f W H L j n = number (c.stopping f W H L j n)

abbrev pub stop_set_up : ℕ → Side → Side → ℕ → ℕ → ℕ → Memories → Memories
stop_set_up f W H L j n m = record { state = c.state_of (c.stopping f W H L j n) m.state; store = set_up_store f W L (stop_question f W H L j n) m.store }

-- what holds of its reader: with levels to work out, and with none
abbrev pub ClaimBy : Bool → ℕ → Side → Side → ℕ → ℕ → List Event → (Call → Event) → Type 0
ClaimBy true f W H L j = Distant f W H L j
ClaimBy false f W H L j = HandsLow f W H L j

-- any C calls ds after a set-up that answered 0, with a stop at level j
abbrev pub OfStopCalls : ℕ → Side → Side → ℕ → ℕ → ℕ → Memories → List (Mixed CCall Stray) → Type 0
OfStopCalls f W H L j n m ds =
    AfterSetUp (stop_set_up f W H L j n m) (stopped_world f W H L j m.store) (ClaimBy (works W H L j) f W H L j) ds
