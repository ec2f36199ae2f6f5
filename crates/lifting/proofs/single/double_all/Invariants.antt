-- `lifting::single::double_all` meets its contract: a sweep over the row. Assumes nothing.
use lib.IntN.{pos, ◌*ℤ◌}
use Rattle.numbers.specs.Word.{wrap32}
use Rattle.lifting.proofs.EachLaws.{Each}
use Rattle.lifting.proofs.single.double_all.Given as goal

abbrev pub invariant-loop-v : goal.invariant-loop-v
invariant-loop-v l = Each (λ v. wrap32 (pos 2 *ℤ v)) l.initial.row l.v-index l.row
