-- `limit_all` meets its contract: a sweep over the row. Assumes nothing.
use Rattle.lifting.proofs.EachLaws.{Each}
use Rattle.tolerance.specs.Limits.{clamped}
use Rattle.tolerance.proofs.limit_all.Given as goal

abbrev pub invariant-loop-v : goal.invariant-loop-v
invariant-loop-v l = Each (clamped l.least l.most) l.initial.row l.v-index l.row
