-- What the turns ask of a reader, of whatever kind: its steps, wants and feeds. A reader with a stop (Q-6) or a tolerant one (Q-10) is asked no more.
use Rattle.std.specs.Prelude.{◌≡◌, List, [], ◌∷◌, ◌++◌, ℕ, suc, length, drop}
use Rattle.wavelet.specs.Order.{RowName}
use Rattle.calls.specs.Lists.{Area, gathered}
use Rattle.calls.specs.Lists as lists

-- a reader as a machine of its own: its calls, and the world of its state and line store
pub record Reading : Type 1 where
  pub Call : Type 0
  pub World : Type 0
  pub Event : Type 0
  pub event : Call → World → Event
  pub next : Call → World → World
  -- state and store of a set-up that passed
  pub fresh : World
  -- the band rows of its list of steps, in order
  pub rows : List RowName
  -- the calls by which it is asked what it wants, and by which it is fed a run
  pub want : Call
  pub feed : Area → Call
  -- the row that the answer to a want names; no other event names one
  pub names : Event → List RowName
  -- "Fed: the runs that no question before 14 turned away" (document 01): the run that a feed took; no other event takes one
  pub takes : Event → List Area
  -- the runs that a row can be fed by: its length, and numbers within its level's range
  pub Fits : RowName → Area → Type 0

abbrev pub events_of : (R : Reading) → List R.Call → List R.Event
events_of R cs = lists.events R.event R.next cs R.fresh

abbrev pub final_of : (R : Reading) → List R.Call → R.World
final_of R cs = lists.final R.next cs R.fresh

-- the runs that it was fed, one after another
abbrev pub taken_by : (R : Reading) → List R.Event → List Area
taken_by R es = gathered R.takes es

-- ---- the laws, of every list of its own calls on the fresh reader
pub record ReadingLaws (R : Reading) : Type 0 where
  -- the row that a want names is the next of its steps' band rows after as many as it was fed
  pub names_next : (cs : List R.Call) (c : R.Call) (x : RowName) → R.names (R.event c (final_of R cs)) ≡ x ∷ [] →
      drop (length (taken_by R (events_of R cs))) R.rows ≡ x ∷ drop (suc (length (taken_by R (events_of R cs)))) R.rows
  -- it goes on wanting that row through every call that feeds it none
  pub names_stay : (cs : List R.Call) (c d : R.Call) (x : RowName) → R.names (R.event c (final_of R cs)) ≡ x ∷ [] →
      R.takes (R.event d (final_of R cs)) ≡ [] → R.names (R.event R.want (final_of R (cs ++ (d ∷ [])))) ≡ x ∷ []
  -- and takes it when it is fed
  pub takes_named : (cs : List R.Call) (c : R.Call) (x : RowName) (a : Area) → R.names (R.event c (final_of R cs)) ≡ x ∷ [] → R.Fits x a →
      R.takes (R.event (R.feed a) (final_of R cs)) ≡ a ∷ []
