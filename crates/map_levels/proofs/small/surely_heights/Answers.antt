use Prim.Native.Nat.{◌+◌}
use native.Mathlib.Omega.{arith}
use borrow.Author.Rules.{sfits_of}
use Rattle.numbers.specs.Signal.{at}
use Rattle.wavelet.specs.Limits.{max_sample}
use Rattle.map_levels.proofs.SmallLaws.{bits_none, bits-read, bits-written, bits-more, bits-end}
use Rattle.map_levels.proofs.small.surely_heights.Goals as goal

pub loop-v-init : goal.loop-v-init
loop-v-init c = bits_none _

pub loop-v-preserved : goal.loop-v-preserved
loop-v-preserved c =
    let x = at c.args.row.now in
    let i = c.loop-v.v-index in
    let before = bits-read i c.loop-v.all-bits x c.loop-v.auto.all c.loop-v.invariant in
    bits-written (i + 1) _ x (bits-more i c.loop-v.all-bits x before (sfits_of c.all-1.given))

pub returns : goal.returns
unfolding max_sample
returns c =
    let x = at c.args.row.now in
    bits-end c.loop-v.v-index _ c.loop-v.all-bits x (omega (arith, c.loop-v-test.false))
    (bits-read c.loop-v.v-index c.loop-v.all-bits x c.loop-v.auto.all c.loop-v.invariant)
