-- Lists of calls on a reader whatever stands past the needed part of its line store, as the writer's: each call finds that part as the call before left it,
-- and past it numbers of its own.
use Rattle.std.specs.Prelude.{ℕ, ℤ}
use Rattle.lifting.specs.Halves.{fronted}
use Rattle.reader.specs.State.{needs}
use Rattle.reader.specs.Demand3.{Call, Event, World, event, next}

pub record Lent : Type 0 where
  pub call : Call
  pub past : ℕ → ℤ

abbrev pub found : (ℕ → ℤ) → World → World
found p w = record { reader = w.reader; store = fronted (needs w.reader) w.store p }

unfoldable pub lent_event : Lent → World → Event
lent_event d w = event d.call (found d.past w)

unfoldable pub lent_next : Lent → World → World
lent_next d w = next d.call (found d.past w)
