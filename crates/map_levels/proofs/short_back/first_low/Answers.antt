-- `short_back::first_low` meets its contract: the two cases of the test. Assumes nothing.
use mathlib.Core.Path.{refl}
use native.Mathlib.Omega.{arith}
use Rattle.map_levels.proofs.short_back.first_low.Goals as goal

pub returns-then-o-gt0 : goal.returns-then-o-gt0
returns-then-o-gt0 c = record { out_after = λ b. absurd (omega arith); out_unchanged = λ b. refl }

pub unupdate_to-requires : goal.unupdate_to-requires
unupdate_to-requires c = (omega arith, omega arith, omega arith, omega arith)

pub shape_of-out : goal.shape_of-out
shape_of-out c = c.unupdate_to.auto.out

pub returns : goal.returns
returns c = record { out_after = λ b. c.unupdate_to.ensures; out_unchanged = λ b. absurd (omega arith) }
