use mathlib.Core.Path.{ap, ◌∙◌}
use native.Mathlib.Omega.{arith}
use Rattle.numbers.proofs.Words.{read_back}
use Rattle.ground_loader.specs.Numbers.{value_of}
use Rattle.ground_loader.proofs.NumberLaws.{storing-start, rest-small, storing-place, storing-next, storing-end}
use Rattle.ground_loader.proofs.Clauses.{value-row_after}
use Rattle.ground_loader.proofs.parts.store.Goals as goal

pub loop-i-init : goal.loop-i-init
loop-i-init c = storing-start _ _ _ _ _ c.requires.0 c.requires.1 (omega arith)

pub lowest-requires : goal.lowest-requires
lowest-requires c = c.loop-i.invariant.narrow

pub value_of-requires : goal.value_of-requires
value_of-requires c = rest-small c.loop-i.invariant c.lowest.ensures

pub overflow_add-from : goal.overflow_add-from
overflow_add-from c = let s = c.loop-i.invariant in omega (arith, s.room, s.short, s.some)

pub offset_bounds-row-from : goal.offset_bounds-row-from
offset_bounds-row-from c = let s = c.loop-i.invariant in omega (arith, s.room, s.short, s.some)

pub bounds-row-from : goal.bounds-row-from
bounds-row-from c = storing-place c.loop-i.invariant (omega arith)

pub overflow_shr-rest : goal.overflow_shr-rest
overflow_shr-rest c = omega (arith, c.loop-i.invariant.narrow)

pub loop-i-preserved : goal.loop-i-preserved
loop-i-preserved c =
    storing-next c.loop-i.invariant (omega arith) _
    (read_back c.value_of.result c.value_of.type_inv ∙ c.value_of.ensures ∙ ap value_of c.lowest.ensures)

pub shape_of-row : goal.shape_of-row
shape_of-row c = c.loop-i.invariant.swept.size

pub returns : goal.returns
returns c = value-row_after (storing-end c.loop-i.invariant (omega arith))
