-- `alters`: the column, and then the row of low values, with one number replaced. Assumes nothing.
use Prim.Native.Nat.{◌+◌, ◌-◌, ◌*◌}
use Rattle.nearest_change.proofs.StepLaws.{new-column-fits, new-lows-fit, altered-of}
use Rattle.nearest_change.proofs.trial.Cell.alters.Goals as goal

pub lifted-low-requires : goal.lifted-low-requires
lifted-low-requires c =
    new-column-fits c.args.self.now.window c.requires.0.heights c.args.k (2 * c.args.self.now.row + c.args.i - 2) c.args.new c.args.self.now.rows _ _
    c.requires.5 c.column.ensures
    c.replaced.ensures

pub lifted-requires : goal.lifted-requires
lifted-requires c =
    new-lows-fit c.args.self.now.window c.requires.0.heights c.args.k (2 * c.args.self.now.row + c.args.i - 2) c.args.new c.args.self.now.rows _ _ _
    (2 * c.args.self.now.column + c.args.k - 2) c.args.self.now.lows c.args.self.now.columns _ c.requires.5 c.column.ensures
    c.replaced.ensures c.lifted-low.ensures c.requires.0.lows c.replaced-2.ensures

pub returns : goal.returns
returns c =
    let a = c.args in
    altered-of a.self.now.window a.self.now a.i a.k a.new _ _ _ _ _ c.column.ensures c.replaced.ensures
    c.lifted-low.ensures
    c.replaced-2.ensures c.lifted.ensures
