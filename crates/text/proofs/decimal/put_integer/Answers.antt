-- `decimal::put_integer` meets its contract: the digits of the magnitude, and the sign before them. Assumes nothing.
use mir.Syntax.{w32}
use mir.ValLaws.{to_z-of_z}
use Rattle.text.proofs.DecimalLaws.{below, above, eleven}
use Rattle.text.proofs.decimal.put_integer.Goals as goal

pub shape_of-out-then-v-lt0 : goal.shape_of-out-then-v-lt0
shape_of-out-then-v-lt0 c = c.put_negative.auto.out

pub returns-then-v-lt0 : goal.returns-then-v-lt0
returns-then-v-lt0 c =
    record { puts = rw (← below c.args.v _ _ (to_z-of_z w32 _ c.ranges.v) c.magnitude-m.ensures c.if-v-lt0.true) c.put_negative.ensures; v_len_bound = eleven c.args.v c.ranges.v }

pub shape_of-out : goal.shape_of-out
shape_of-out c = c.put_number.auto.out

pub returns : goal.returns
returns c =
    record { puts = rw (← above c.args.v _ _ (to_z-of_z w32 _ c.ranges.v) c.magnitude-m.ensures c.if-v-lt0.false) c.put_number.ensures.puts; v_len_bound = eleven c.args.v c.ranges.v }
