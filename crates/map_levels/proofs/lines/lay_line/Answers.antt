-- `lines::lay_line` meets its contract: both halves copied. Assumes nothing.
use mathlib.Core.Path.{◌∙◌}
use native.Mathlib.Omega.{arith}
use Rattle.lifting.specs.Grid.{side}
use Rattle.areas.proofs.HalfLaws.{evens-within, odds-within}
use Rattle.wavelet.specs.Limits.{max_width}
use Rattle.map_levels.specs.Sweep.{line_half}
use Rattle.map_levels.proofs.SweepRows.{line-put}
use Rattle.map_levels.proofs.lines.lay_line.Goals as goal

pub overflow_mul-q : goal.overflow_mul-q
overflow_mul-q c = omega arith

pub overflow_add-even : goal.overflow_add-even
overflow_add-even c = let a = c.args in omega (arith, evens-within (side a.x a.width) _ c.evens.ensures)

pub overflow_add-odd : goal.overflow_add-odd
overflow_add-odd c = let a = c.args in omega (arith, odds-within (side a.x a.width) _ c.odds.ensures)

pub overflow_sub-width : goal.overflow_sub-width
overflow_sub-width c = omega arith

pub copy_part-requires : goal.copy_part-requires
unfolding line_half max_width
copy_part-requires c =
    let a = c.args in (omega arith, omega (arith, evens-within (side a.x a.width) _ c.evens.ensures))

pub overflow_add-base : goal.overflow_add-base
unfolding line_half max_width
overflow_add-base c = omega arith

pub copy_part-requires-2 : goal.copy_part-requires-2
unfolding line_half max_width
copy_part-requires-2 c =
    let a = c.args in (
      omega arith,
      omega (
        arith,
        odds-within (side a.x a.width) _ c.odds.ensures,
        c.copy_part.auto.to,
      ),
    )

pub shape_of-plane : goal.shape_of-plane
shape_of-plane c = c.copy_part-2.auto.to ∙ c.copy_part.auto.to

pub returns : goal.returns
unfolding line_half max_width
returns c =
    let a = c.args in
    λ small z is.
    line-put a.across a.width a.r a.x a.base _ _ _ _ _ _ c.evens.ensures c.odds.ensures c.copy_part.ensures
    c.copy_part-2.ensures small z is
