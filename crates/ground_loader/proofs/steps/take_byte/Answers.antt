-- `steps::take_byte` meets its contract: by what is wanted. Assumes nothing.
use mathlib.Core.Path.{sym, subst}
use native.Mathlib.Omega.{arith}
use lib.ListN.{length}
use Rattle.numbers.specs.Signal.{at}
use Rattle.ground_loader.specs.Loader.{world_of}
use Rattle.ground_loader.specs.Local.{of_step, Became}
use Rattle.ground_loader.proofs.DueLaws.{byte-by}
use Rattle.ground_loader.proofs.steps.take_byte.Goals as goal

pub header_byte-requires : goal.header_byte-requires
header_byte-requires c = (c.requires.0, c.if-d-eq0.true)

pub returns-then-d-eq0 : goal.returns-then-d-eq0
returns-then-d-eq0 c =
    let g = c.args in
    let x = at g.store.now in
    let y = at g.row.now in
    let n = length g.store.now in
    let e = c.header_byte.ensures in
    record {
      became = subst (Became (world_of g.l x y) (of_step g.l g.d c.header_byte.result) x y)
          (sym ((byte-by g.l g.d x y n g.byte c.requires.0.due).0 c.if-d-eq0.true)) (e.header_taken n x y);
      onward = e.onward;
    }

pub row_byte-requires : goal.row_byte-requires
row_byte-requires c = (c.requires.0, c.if-d-eq1.true, c.requires.1)

pub returns-then-d-eq1 : goal.returns-then-d-eq1
returns-then-d-eq1 c =
    let g = c.args in
    let x = at g.store.now in
    let y = at g.row.now in
    let n = length g.store.now in
    let e = c.row_byte.ensures in
    record {
      became = subst (Became (world_of g.l x y) (of_step g.l g.d c.row_byte.result) _ _)
          (sym ((byte-by g.l g.d x y n g.byte c.requires.0.due).1 c.if-d-eq1.true)) e.became;
      onward = e.onward;
    }

pub tail_byte-requires : goal.tail_byte-requires
tail_byte-requires c = (c.requires.0, omega (arith, c.requires.0.bytes))

pub returns : goal.returns
returns c =
    let g = c.args in
    let x = at g.store.now in
    let y = at g.row.now in
    let n = length g.store.now in
    let e = c.tail_byte.ensures in
    record {
      became = subst (Became (world_of g.l x y) (of_step g.l g.d c.tail_byte.result) x y)
          (sym ((byte-by g.l g.d x y n g.byte c.requires.0.due).2 (omega (arith, c.requires.0.bytes)))) (e.tail_taken n x y);
      onward = e.onward;
    }
