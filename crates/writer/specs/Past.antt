-- Lists of calls on a writer whatever stands past the needed part of its line store: each call finds that part as the call before left it, and past it numbers
-- of its own. So one call may be lent more numbers of a memory than another, and what stands past the needed part is the program's.
use Rattle.lifting.specs.Halves.{fronted}
use Rattle.level.specs.Level.{Memory}
use Rattle.filters.specs.Figures.{writer_store_by}
use Rattle.writer.specs.Taking.{columns_of}
use Rattle.writer.specs.History.{Call, Event, World, event, next}

pub record Lent : Type 0 where
  pub call : Call
  pub past : Memory

abbrev pub found : Memory → World → World
found p w = record { writer = w.writer; store = fronted (writer_store_by w.writer.filter (columns_of w.writer) w.writer.levels) w.store p }

unfoldable pub lent_event : Lent → World → Event
lent_event d w = event d.call (found d.past w)

unfoldable pub lent_next : Lent → World → World
lent_next d w = next d.call (found d.past w)
