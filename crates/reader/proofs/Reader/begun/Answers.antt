-- `reader::Reader::begun` meets its contract: the place where row 0 begins. Assumes nothing.
use mathlib.Core.Bool.{false}
use mathlib.Core.Path.{ap}
use Prim.Native.Nat.{◌-◌}
use native.Mathlib.Omega.{arith}
use Rattle.lifting.specs.Grid.{side}
use Rattle.reader.specs.declared.Reader.{Reader}
use Rattle.reader_steps.specs.Places.{Spot}
use Rattle.reader_steps.proofs.EnterLaws.{descend-level}
use Rattle.reader.proofs.CallLaws.{enter-is, fresh-at}
use Rattle.reader.proofs.Reader.begun.Goals as goal

pub moved-requires : goal.moved-requires
moved-requires c =
    let a = c.args in
    let deep = descend-level a.filter (a.levels - 0) 0 (side a.x a.width) (side a.y a.height) 0 0 in
    (c.requires.0, omega (arith, deep, ap (λ (q : Spot). q.level) c.descend_from-p.ensures, c.requires.1))

pub returns : goal.returns
returns c =
    let a = c.args in
    let s : Reader = record {
      width = a.width;
      height = a.height;
      levels = a.levels;
      x = a.x;
      y = a.y;
      drawn = 0;
      level = 0;
      back = 0;
      band = 0;
      ended = false;
      filter = a.filter;
      stop = a.stop;
      spare = a.spare;
      admission = a.admission;
    } in
    fresh-at s _ c.descend_from-p.result (enter-is _ _ _ _ 0 _ c.descend_from-p.ensures) c.moved.ensures
