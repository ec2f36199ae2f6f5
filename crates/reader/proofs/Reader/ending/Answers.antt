-- `reader::Reader::ending` meets its contract: the needed part cleared, and the definition's record. Assumes nothing.
use mathlib.Core.Path.{refl}
use Rattle.reader.specs.State.{ended_reader}
use Rattle.reader.proofs.QuestionLaws.{counts-streams}
use Rattle.reader.proofs.Reader.ending.Goals as goal

pub zero-requires : goal.zero-requires
zero-requires c = (counts-streams c.args.self c.requires.0, c.requires.1)

pub shape_of-store : goal.shape_of-store
shape_of-store c = c.zero.auto.store

pub returns : goal.returns
unfolding ended_reader
returns c = record { value = refl; store_after = c.zero.ensures }
