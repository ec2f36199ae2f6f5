-- `run_steps::draw_and_move` meets its contract: the draw, and then the heights of the spare row on, where nothing waits. Assumes nothing.
use mathlib.Core.Path.{◌∙◌}
use native.Mathlib.Omega.{arith}
use Rattle.writer.proofs.CallLaws.{left-moves, drew-still, drew-none, drew-moved}
use Rattle.writer.proofs.run_steps.draw_and_move.Goals as goal

pub draw_and_close-t-requires : goal.draw_and_close-t-requires
draw_and_close-t-requires c = let p = c.requires in (p.0, p.1)

pub move_on-requires : goal.move_on-requires
move_on-requires c =
    left-moves _ _ _ _ c.draw_and_close-t.ensures _ _ c.requires.2 c.draw_and_close-t.auto.store (omega arith)

pub shape_of-store-then-t-gt0 : goal.shape_of-store-then-t-gt0
shape_of-store-then-t-gt0 c = c.move_on.auto.store ∙ c.draw_and_close-t.auto.store

pub returns-then-t-gt0 : goal.returns-then-t-gt0
returns-then-t-gt0 c = drew-moved _ _ _ _ c.draw_and_close-t.ensures _ _ (omega arith)
    c.move_on.ensures

pub shape_of-store-else-t-gt0 : goal.shape_of-store-else-t-gt0
shape_of-store-else-t-gt0 c = c.draw_and_close-t.auto.store

pub returns-else-t-gt0 : goal.returns-else-t-gt0
returns-else-t-gt0 c =
    drew-none _ _ _ _ c.draw_and_close-t.ensures _ c.requires.2 (omega arith) (omega arith)

pub shape_of-store-else-t-eq0 : goal.shape_of-store-else-t-eq0
shape_of-store-else-t-eq0 c = c.draw_and_close-t.auto.store

pub returns-else-t-eq0 : goal.returns-else-t-eq0
returns-else-t-eq0 c = drew-still _ _ _ _ c.draw_and_close-t.ensures (omega arith)
