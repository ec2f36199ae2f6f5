-- `synthesis::work::make_first` meets its contract: the test of its own even row, or nothing. Assumes nothing.
use native.Mathlib.Omega.{arith}
use Rattle.lifting.specs.Grid.{side}
use Rattle.synthesis.proofs.WorkLaws.{first-none, first-made}
use Rattle.synthesis.specs.Columns.{columns_of}
use Rattle.synthesis.proofs.work.make_first.Goals as goal

pub returns-then-own_even : goal.returns-then-own_even
returns-then-own_even c =
    let a = c.args in
    first-made (columns_of a.filter) a.k a.w (side a.y a.h) a.n _ _ _ c.own_even.ensures c.if-own_even.true c.admit_row.ensures

pub returns : goal.returns
returns c =
    let a = c.args in
    first-none (columns_of a.filter) a.k a.w (side a.y a.h) a.n _ _ c.own_even.ensures c.if-own_even.false
