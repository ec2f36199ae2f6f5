-- `back::unupdate_next` meets its contract, by whether there is such a row. Assumes nothing.
use native.Mathlib.Omega.{arith}
use Rattle.lifting.specs.Grid.{side, place}
use Rattle.nine_seven_sweep.proofs.CallLaws.{low-own, low-late}
use Rattle.nine_seven_sweep.proofs.back.unupdate_next.Goals as goal

pub returns-then-lows-n : goal.returns-then-lows-n
returns-then-lows-n c =
    let a = c.args in
    low-late (place (side a.y a.height)) _ _ _ (side a.y a.height) a.n 0 _ _ (omega arith) (omega (arith, c.lows.ensures))

pub unupdate-requires : goal.unupdate-requires
unupdate-requires c = (omega arith, omega (arith, c.lows.ensures), omega arith)

pub shape_of-area : goal.shape_of-area
shape_of-area c = c.unupdate.auto.area

pub returns : goal.returns
returns c =
    let a = c.args in
    low-own (place (side a.y a.height)) _ _ _ (side a.y a.height) a.n _ _ _ (omega (arith, c.lows.ensures))
    c.unupdate.ensures
