-- `patch::copy_patch` meets its contract: a pass over the rows of the patch. Assumes nothing.
use Rattle.std.proofs.Common.{◌≡◌, ℕ, ◌+◌, ◌*◌, ◌≤◌, ◌<◌, length}
use Rattle.numbers.specs.Signal.{at}
use Rattle.wavelet.specs.Plane.{cells}
use Rattle.map_levels.proofs.GridSweep.{RowSwept}
use Rattle.strokes.specs.Local.{patch_copied}
use Rattle.strokes.proofs.patch.copy_patch.Given as goal

abbrev pub invariant-loop-i : goal.invariant-loop-i
invariant-loop-i g l =
    (length l.to ≡ length l.initial.to)
    × (0 < l.across)
    × (l.p.column + l.p.columns ≤ l.across)
    × ((j : ℕ) → j < l.p.rows → l.a + j * l.stride + l.p.columns ≤ length l.from)
    × ((j : ℕ) → j < l.p.rows → (l.p.row + j) * l.across + l.p.column + l.p.columns ≤ length l.initial.to)
    × RowSwept l.across (patch_copied l.p (λ j k. g.T.Element.read l.from (l.a + j * l.stride + k)) (cells l.across (at l.initial.to)))
    (cells l.across (at l.initial.to)) (l.p.row + l.i) (at l.to)
