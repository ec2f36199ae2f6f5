-- `small::magnitude` meets its contract: below 0 it is one less than the magnitude. Assumes nothing.
use mir.Syntax.{w32}
use mir.ValLaws.{to_z-of_z}
use Rattle.map_levels.proofs.SmallLaws.{below-fits, below-cast, below-large, above-cast, above-large}
use Rattle.map_levels.proofs.small.magnitude.Goals as goal

pub overflow_sub-result : goal.overflow_sub-result
overflow_sub-result c = below-fits _ c.args.v (to_z-of_z w32 _ c.ranges.v) c.ranges.v c.if-v-lt0.true

pub overflow_cast-result : goal.overflow_cast-result
overflow_cast-result c = below-cast _ _ c.args.v (to_z-of_z w32 _ c.ranges.v) (to_z-of_z w32 _ (overflow_sub-result c)) c.ranges.v c.if-v-lt0.true

pub returns-then-v-lt0 : goal.returns-then-v-lt0
returns-then-v-lt0 c = below-large _ _ c.args.v (to_z-of_z w32 _ c.ranges.v) (to_z-of_z w32 _ (overflow_sub-result c)) c.if-v-lt0.true

pub overflow_cast-result-2 : goal.overflow_cast-result-2
overflow_cast-result-2 c = above-cast _ c.args.v (to_z-of_z w32 _ c.ranges.v) c.ranges.v c.if-v-lt0.false

pub returns : goal.returns
returns c = above-large _ c.args.v (to_z-of_z w32 _ c.ranges.v)
