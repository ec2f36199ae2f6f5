-- `nine_seven::sample::update` meets its contract: it is what its two callees ensure, at the numbers that are read back from bits. Assumes nothing.
use mir.Syntax.{w32}
use mir.ValLaws.{to_z-of_z}
use Rattle.numbers.proofs.Words.{read_back}
use Rattle.nine_seven.specs.NineSeven.{updated}
use Rattle.nine_seven.proofs.NineSeven.{turned}
use Rattle.nine_seven.proofs.sample.update.Goals as goal

pub returns : goal.returns
unfolding updated
returns c =
    let f = c.quarter_sum in
    let r = c.more in
    cc (
      to_z-of_z w32 _ c.ranges.x,
      to_z-of_z w32 _ c.ranges.a,
      to_z-of_z w32 _ c.ranges.b,
      read_back f.result f.type_inv,
      f.ensures,
      read_back r.result r.type_inv,
      r.ensures,
      turned c.args.x c.args.a c.args.b,
    )
