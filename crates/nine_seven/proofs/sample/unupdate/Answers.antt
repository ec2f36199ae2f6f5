-- `nine_seven::sample::unupdate` meets its contract: it is what its two callees ensure, at the numbers that are read back from bits. Assumes nothing.
use mir.Syntax.{w32}
use mir.ValLaws.{to_z-of_z}
use Rattle.numbers.proofs.Words.{read_back}
use Rattle.nine_seven.specs.NineSeven.{unupdated}
use Rattle.nine_seven.proofs.NineSeven.{turned-back}
use Rattle.nine_seven.proofs.sample.unupdate.Goals as goal

pub returns : goal.returns
unfolding unupdated
returns c =
    let f = c.quarter_sum in
    let r = c.less in
    cc (
      to_z-of_z w32 _ c.ranges.x,
      to_z-of_z w32 _ c.ranges.a,
      to_z-of_z w32 _ c.ranges.b,
      read_back f.result f.type_inv,
      f.ensures,
      read_back r.result r.type_inv,
      r.ensures,
      turned-back c.args.x c.args.a c.args.b,
    )
