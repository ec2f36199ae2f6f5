-- `cell`: the places of its rows and columns, and the low values. Assumes nothing.
use mathlib.Core.Path.{ap, ◌∙◌}
use Prim.Native.Nat.{◌*◌}
use Rattle.nearest_change.specs.Trials.{bias, lifted_of, lows_in}
use Rattle.nearest_change.proofs.StepLaws.{small_of, lows-small, cell-eq}
use Rattle.nearest_change.proofs.cell.Goals as goal

pub lifted-value-requires : goal.lifted-value-requires
lifted-value-requires c =
    small_of (2 * bias) _ (lows_in c.args.window) c.lows-lows.ensures (lows-small c.args.window c.requires.by_index)

pub returns : goal.returns
returns c =
    cell-eq _ _ _ _ _ c.places-rows.ensures c.places-columns.ensures c.lows-lows.ensures (c.lifted-value.ensures ∙ ap lifted_of c.lows-lows.ensures)
