-- `short_back::last_high` meets its contract: the two cases of the test. Assumes nothing.
use mathlib.Core.Path.{refl}
use native.Mathlib.Omega.{arith}
use Rattle.map_levels.proofs.short_back.last_high.Goals as goal

pub overflow_add-m : goal.overflow_add-m
overflow_add-m c = omega arith

pub returns-then-row-m : goal.returns-then-row-m
returns-then-row-m c = record { out_after = λ b. absurd (omega arith); out_unchanged = λ b. refl }

pub overflow_add-m-2 : goal.overflow_add-m-2
overflow_add-m-2 c = omega arith

pub overflow_sub-m : goal.overflow_sub-m
overflow_sub-m c = omega arith

pub overflow_sub-m-2 : goal.overflow_sub-m-2
overflow_sub-m-2 c = omega arith

pub unpredict_to-requires : goal.unpredict_to-requires
unpredict_to-requires c = (omega arith, omega arith, omega arith, omega arith)

pub shape_of-out : goal.shape_of-out
shape_of-out c = c.unpredict_to.auto.out

pub returns : goal.returns
returns c = record { out_after = λ b. c.unpredict_to.ensures; out_unchanged = λ b. absurd (omega arith) }
