-- `rewriting_io::rewrite`: there was a run, on a row area as long as it has to be. Assumes nothing.
use mathlib.Core.Path.{refl}
use Rattle.pgm.specs.Limits.{max_picture_width}
use Rattle.rewriting_io.proofs.RunLaws.{rewritten-is}
use Rattle.rewriting_io.proofs.rewrite.Goals as goal

pub returns : goal.returns
unfolding max_picture_width
returns g c = rewritten-is refl c.start.ensures c.run.ensures
