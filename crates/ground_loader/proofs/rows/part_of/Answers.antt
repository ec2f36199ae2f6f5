-- `rows::part_of` meets its contract: case by case. Assumes nothing.
use native.Mathlib.Omega.{arith}
use Rattle.ground_loader.proofs.ByteLaws.{whole-left, deinterleaved-stay, deinterleaved-second, deinterleaved-over}
use Rattle.ground_loader.proofs.rows.part_of.Goals as goal

pub stay-requires : goal.stay-requires
stay-requires c = c.requires

pub returns-then-s-c : goal.returns-then-s-c
returns-then-s-c c = deinterleaved-stay _ _ _ (omega arith) c.stay.ensures

pub overflow_add-c : goal.overflow_add-c
overflow_add-c c =
    omega (arith, whole-left c.requires.0 _ _ c.requires.1, c.requires.0.room, c.ranges.n.fits)

pub second_of-requires : goal.second_of-requires
second_of-requires c =
    omega (arith, whole-left c.requires.0 _ _ c.requires.1, c.requires.0.room, c.ranges.n.fits)

pub returns-then-c-eq1 : goal.returns-then-c-eq1
returns-then-c-eq1 c = deinterleaved-second _ _ _ (omega arith) (omega arith) c.second_of.ensures

pub overflow_add-c-2 : goal.overflow_add-c-2
overflow_add-c-2 c =
    omega (arith, whole-left c.requires.0 _ _ c.requires.1, c.requires.0.room, c.ranges.n.fits)

pub returns : goal.returns
returns c = deinterleaved-over _ _ _ (omega arith) (λ e. omega arith) c.before_group.ensures
