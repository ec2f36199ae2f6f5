-- `saver::phase_of` meets its contract. Assumes nothing.
use Rattle.ground_file.proofs.SaverLaws.{level-none, level-some}
use Rattle.ground_file.proofs.saver.phase_of.Goals as goal

pub returns-then-level-eq0 : goal.returns-then-level-eq0
returns-then-level-eq0 c = level-none _ c.if-level-eq0.true

pub returns-else-level-eq0 : goal.returns-else-level-eq0
returns-else-level-eq0 c = level-some _ c.if-level-eq0.false
