-- `lows`: each column by itself. Assumes nothing.
use mathlib.Core.Path.{ap, ◌∙◌}
use Rattle.nearest_change.specs.Trials.{lifted_of}
use Rattle.nearest_change.proofs.FiveLaws.{five-eq}
use Rattle.nearest_change.proofs.StepLaws.{column_fits}
use Rattle.nearest_change.proofs.window.lows.Goals as goal

pub lifted-requires : goal.lifted-requires
lifted-requires c = column_fits c.args.w.now c.requires 0 _ c.column.ensures

pub lifted-requires-2 : goal.lifted-requires-2
lifted-requires-2 c = column_fits c.args.w.now c.requires 1 _ c.column-2.ensures

pub lifted-requires-3 : goal.lifted-requires-3
lifted-requires-3 c = column_fits c.args.w.now c.requires 2 _ c.column-3.ensures

pub lifted-requires-4 : goal.lifted-requires-4
lifted-requires-4 c = column_fits c.args.w.now c.requires 3 _ c.column-4.ensures

pub lifted-requires-5 : goal.lifted-requires-5
lifted-requires-5 c =
    column_fits c.args.w.now c.requires 4 _ c.column-5.ensures

pub returns : goal.returns
returns c =
    five-eq (c.lifted.ensures ∙ ap lifted_of
    c.column.ensures) (c.lifted-2.ensures ∙ ap lifted_of c.column-2.ensures)
    (c.lifted-3.ensures ∙ ap lifted_of c.column-3.ensures)
    (c.lifted-4.ensures ∙ ap lifted_of c.column-4.ensures)
    (c.lifted-5.ensures ∙ ap lifted_of c.column-5.ensures)
