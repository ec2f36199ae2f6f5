-- `open`: the values of its calls, put together. Assumes nothing.
use borrow.Author.Rules.{rules}
use lib.ListN.{length}
use Rattle.profile.specs.Calls.{heights}
use Rattle.profile.proofs.EndLaws.{opened_of}
use Rattle.profile.proofs.ends.open.Goals as goal

pub height-requires : goal.height-requires
height-requires c = search rules

pub returns : goal.returns
returns c =
    let row = c.args.row.now in
    opened_of (length row) (heights row)
    c.height-x.ensures
    c.third_sample-even.ensures
    c.height.ensures
    c.lift_first-first.ensures
    c.lift_second-second.ensures
    c.turn_at-t.ensures
