-- `reader::run_steps::ending` meets its contract: the needed part cleared, and the place ended. Assumes nothing.
use mathlib.Core.Path.{refl}
use Rattle.reader.specs.State.{ended_reader}
use Rattle.reader.proofs.QuestionLaws.{counts-streams}
use Rattle.reader.proofs.run_steps.ending.Goals as goal

pub zero-requires : goal.zero-requires
zero-requires c = (counts-streams c.args.s c.requires.0, c.requires.1)

pub shape_of-store : goal.shape_of-store
shape_of-store c = c.zero.auto.store

pub returns : goal.returns
unfolding ended_reader
returns c = record { result_value = (refl, refl, c.requires.2); store_after = c.zero.ensures }
