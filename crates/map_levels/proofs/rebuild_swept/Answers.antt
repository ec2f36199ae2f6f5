-- `rebuild_swept` meets its contract: the levels in sweeps, and the work area cleared. Assumes nothing.
use mathlib.Core.Path.{◌≡◌, refl, ◌∙◌}
use mathlib.Core.Bool.{true}
use Prim.Native.Nat.{ℕ, ◌*◌, ◌≤◌}
use lib.Dec.{leb}
use native.Mathlib.Omega.{arith}
use borrow.Author.Tests.{not-true, not-false, le-leb}
use Rattle.lifting.specs.Grid.{side}
use Rattle.lifting.specs.FiveThree.{five_three_filter}
use Rattle.lifting.proofs.FiveThreeFilter.{five-three-laws}
use Rattle.areas.proofs.AreaLaws.{did}
use Rattle.wavelet.specs.Limits.{max_width}
use Rattle.map_levels.specs.Sweep.{line_half}
use Rattle.map_levels.proofs.CallLaws.{map-room, map-odd, map-swept}
use Rattle.map_levels.proofs.rebuild_swept.Goals as goal

pub slice_bounds-sweep_back-end : goal.slice_bounds-sweep_back-end
slice_bounds-sweep_back-end c = refl

pub sweep_back-requires : goal.sweep_back-requires
unfolding line_half max_width
sweep_back-requires c =
    let p = c.requires in
    (map-room _ _ _ _ _ _ _ _ _ p.0 p.1 p.2 p.3 (omega arith), p.0.levels.0, omega (arith, p.4), p.5)

pub shape_of-heights-then-not-sweep_back : goal.shape_of-heights-then-not-sweep_back
shape_of-heights-then-not-sweep_back c = c.sweep_back.auto.heights

pub shape_of-work-then-not-sweep_back : goal.shape_of-work-then-not-sweep_back
shape_of-work-then-not-sweep_back c = c.sweep_back.auto.work

pub returns-then-not-sweep_back : goal.returns-then-not-sweep_back
returns-then-not-sweep_back c =
    let a = c.args in
    map-odd five_three_filter five-three-laws (side a.sides.x a.sides.width) (side a.sides.y a.sides.height) a.levels _ _ _ _ c.requires.0 _ _
    (not-true _ c.if-not-sweep_back.true-raw) c.sweep_back.ensures

pub shape_of-heights : goal.shape_of-heights
shape_of-heights c = c.sweep_back.auto.heights

pub shape_of-work : goal.shape_of-work
shape_of-work c = c.clear.auto.area ∙ c.sweep_back.auto.work

pub returns : goal.returns
returns c =
    let a = c.args in
    let size = a.sides.width * a.sides.height in
    let room : (m k : ℕ) → m ≡ k → size ≤ k → leb size m ≡ true = λ m k e h. le-leb size m (omega arith) in
    map-swept five_three_filter five-three-laws (side a.sides.x a.sides.width) (side a.sides.y a.sides.height) a.levels _ _ _ _ c.requires.0 _ _ _
    (not-false _ c.if-not-sweep_back.false-raw) c.sweep_back.ensures
    (did _ _ _ _ (room _ _ c.sweep_back.auto.work c.requires.3) c.clear.ensures.area)
