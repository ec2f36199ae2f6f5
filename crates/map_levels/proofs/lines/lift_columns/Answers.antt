-- `lines::lift_columns` meets its contract: it is one of two calls. Assumes nothing.
use native.Mathlib.Omega.{arith}
use Rattle.map_levels.proofs.SweepLines.{from_first, from-work, rows-first, rows-work}
use Rattle.map_levels.proofs.lines.lift_columns.Goals as goal

pub overflow_mul-a : goal.overflow_mul-a
overflow_mul-a c = omega (arith, from_first c.args.first _ _ _ c.requires.0 c.if-first.true)

pub overflow_mul-b : goal.overflow_mul-b
overflow_mul-b c = omega (arith, from_first c.args.first _ _ _ c.requires.1 c.if-first.true)

pub overflow_mul-c : goal.overflow_mul-c
overflow_mul-c c = omega (arith, from_first c.args.first _ _ _ c.requires.2 c.if-first.true)

pub lift_all-requires : goal.lift_all-requires
lift_all-requires c = (
  from_first c.args.first _ _ _ c.requires.0 c.if-first.true,
  from_first
      c.args.first _ _ _ c.requires.1 c.if-first.true,
  from_first
      c.args.first _ _ _ c.requires.2 c.if-first.true,
  c.requires.3,
  c.requires.4,
)

pub shape_of-lines-then-first : goal.shape_of-lines-then-first
shape_of-lines-then-first c = c.lift_all.auto.lines

pub returns-then-first : goal.returns-then-first
returns-then-first c = rows-first _ _ _ _ _ _ _ _ _ _ c.if-first.true c.lift_all.ensures

pub overflow_mul-a-2 : goal.overflow_mul-a-2
overflow_mul-a-2 c = omega (arith, from-work c.args.first _ _ _ c.requires.0 c.if-first.false)

pub overflow_mul-b-2 : goal.overflow_mul-b-2
overflow_mul-b-2 c = omega (arith, from-work c.args.first _ _ _ c.requires.1 c.if-first.false)

pub overflow_mul-c-2 : goal.overflow_mul-c-2
overflow_mul-c-2 c = omega (arith, from-work c.args.first _ _ _ c.requires.2 c.if-first.false)

pub lift_all-requires-2 : goal.lift_all-requires-2
lift_all-requires-2 c = (
  from-work c.args.first _ _ _ c.requires.0 c.if-first.false,
  from-work
      c.args.first _ _ _ c.requires.1 c.if-first.false,
  from-work
      c.args.first _ _ _ c.requires.2 c.if-first.false,
  c.requires.3,
  c.requires.4,
)

pub shape_of-lines : goal.shape_of-lines
shape_of-lines c = c.lift_all-2.auto.lines

pub returns : goal.returns
returns c = rows-work _ _ _ _ _ _ _ _ _ _ c.if-first.false c.lift_all-2.ensures
