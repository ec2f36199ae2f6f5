-- `columns::make_columns` meets its contract: the calls are the definition's. Assumes nothing.
use mathlib.Core.Path.{◌∙◌}
use native.Mathlib.Omega.{arith}
use Rattle.lifting.specs.Grid.{side}
use Rattle.analysis.proofs.CallLaws.{columns-made}
use Rattle.analysis.proofs.columns.make_columns.Goals as goal

pub make_high-requires : goal.make_high-requires
make_high-requires c = c.requires

pub shape_of-store : goal.shape_of-store
shape_of-store c =
    c.copy_high.auto.store ∙ c.make_low.auto.store ∙ c.make_high.auto.store

pub returns : goal.returns
returns c =
    let a = c.args in
    columns-made a.filter a.w (side a.y a.m) a.n _ _ _ _ c.make_high.ensures c.make_low.ensures c.copy_high.ensures
