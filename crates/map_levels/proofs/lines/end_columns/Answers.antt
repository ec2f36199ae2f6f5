-- `lines::end_columns` meets its contract: it is one of two calls. Assumes nothing.
use native.Mathlib.Omega.{arith}
use Rattle.map_levels.proofs.SweepLines.{from_first, from-work, row_first, row-work}
use Rattle.map_levels.proofs.lines.end_columns.Goals as goal

pub overflow_mul-a : goal.overflow_mul-a
overflow_mul-a c = omega (arith, from_first c.args.first _ _ _ c.requires.0 c.if-first.true)

pub end_all-requires : goal.end_all-requires
end_all-requires c = (
  from_first c.args.first _ _ _ c.requires.0 c.if-first.true,
  c.requires.1,
  c.requires.2,
)

pub shape_of-lines-then-first : goal.shape_of-lines-then-first
shape_of-lines-then-first c = c.end_all.auto.lines

pub returns-then-first : goal.returns-then-first
returns-then-first c = λ p q. row_first _ _ _ _ _ _ p q _ _ c.if-first.true (c.end_all.ensures p q)

pub overflow_mul-a-2 : goal.overflow_mul-a-2
overflow_mul-a-2 c = omega (arith, from-work c.args.first _ _ _ c.requires.0 c.if-first.false)

pub end_all-requires-2 : goal.end_all-requires-2
end_all-requires-2 c = (
  from-work c.args.first _ _ _ c.requires.0 c.if-first.false,
  c.requires.1,
  c.requires.2,
)

pub shape_of-lines : goal.shape_of-lines
shape_of-lines c = c.end_all-2.auto.lines

pub returns : goal.returns
returns c = λ p q. row-work _ _ _ _ _ _ p q _ _ c.if-first.false (c.end_all-2.ensures p q)
