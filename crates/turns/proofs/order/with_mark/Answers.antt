-- `with_mark` meets its contract. Assumes nothing.
use mathlib.Core.Path.{refl, sym, ◌∙◌}
use native.Mathlib.Omega.{arith}
use Rattle.turns.proofs.MarkLaws.{marked-on, marked-off}
use Rattle.turns.proofs.order.with_mark.Goals as goal

pub is_marked-requires : goal.is_marked-requires
is_marked-requires c = c.requires.0

pub returns-then-is_marked : goal.returns-then-is_marked
returns-then-is_marked c = (marked-on _ _ _ refl (sym c.is_marked.ensures ∙ c.if-is_marked.true)).0

pub bit-requires : goal.bit-requires
bit-requires c = c.requires.0

pub overflow_add-result : goal.overflow_add-result
overflow_add-result c = omega arith

pub returns : goal.returns
returns c = (marked-off _ _ _ c.bit.ensures.0 (sym c.is_marked.ensures ∙ c.if-is_marked.false)).0
