use Prim.Native.Nat.{◌-◌}
use native.Mathlib.Omega.{arith}
use lib.ListN.{length}
use Rattle.numbers.specs.Signal.{at}
use Rattle.numbers.proofs.Words.{read_back}
use Rattle.lifting.specs.Grid.{side}
use Rattle.nine_seven.proofs.PutLaws.{Placed, place-start, place-turn, place_end}
use Rattle.nine_seven.proofs.put.put_ends.Goals as goal

pub loop-q-init : goal.loop-q-init
loop-q-init c = place-start _ _ _ _ _ c.requires.2 (omega arith)

pub line_at-requires : goal.line_at-requires
line_at-requires c = let p = c.requires in (p.0, p.1, omega arith)

pub bounds-out-q : goal.bounds-out-q
bounds-out-q c = let size = c.loop-q.invariant.swept.size in omega arith

pub loop-q-preserved : goal.loop-q-preserved
loop-q-preserved c =
    rw (read_back c.line_at.result c.line_at.type_inv)
    (place-turn _ _ _ _ _ _ _ _ c.loop-q.invariant c.loop-q-test.true c.line_at.ensures)

pub shape_of-out : goal.shape_of-out
shape_of-out c = c.loop-q.invariant.swept.size

pub returns : goal.returns
returns c = place_end _ _ _ _ _ _ _ c.loop-q.invariant c.loop-q-test.false
