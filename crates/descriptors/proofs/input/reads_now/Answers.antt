-- `descriptors::input::reads_now` is the test of the definition. Assumes nothing.
use Rattle.descriptors.specs.Left.{reads_now}
use Rattle.descriptors.proofs.input.reads_now.Goals as goal

pub returns-then-wanted : goal.returns-then-wanted
unfolding reads_now
returns-then-wanted c = simp c.if-wanted.true

pub returns : goal.returns
unfolding reads_now
returns c = simp c.if-wanted.false
