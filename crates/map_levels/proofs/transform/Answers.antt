-- `transform` meets its contract: the levels write the map's plane, and for a map the words are whole numbers. Assumes nothing.
use mathlib.Core.Path.{◌∙◌}
use Prim.Native.Nat.{ℕ, ◌*◌, ◌<◌}
use native.Mathlib.Omega.{arith}
use lib.ListN.{length, get_or}
use borrow.Author.Tests.{le-leb}
use Rattle.lifting.specs.Grid.{side}
use Rattle.areas.proofs.AreaLaws.{did}
use Rattle.filters.specs.Filters.{filter_of}
use Rattle.filters.proofs.Filters.{filter-laws}
use Rattle.map_levels.proofs.CallLaws.{plane-made, cleared}
use Rattle.map_levels.proofs.transform.Goals as goal

pub lift_by-requires : goal.lift_by-requires
lift_by-requires c = let p = c.requires in (p.0, p.1, p.2, p.3, p.4)

pub shape_of-plane : goal.shape_of-plane
shape_of-plane c = c.lift_by.auto.plane

pub shape_of-work : goal.shape_of-work
shape_of-work c = c.clear.auto.area ∙ c.lift_by.auto.work

pub returns : goal.returns
returns c =
    let a = c.args in
    let s = c.requires.0 in
    let done = c.lift_by in
    let room = le-leb (a.sides.width * a.sides.height) (length done.new.work) (omega (arith, c.requires.3, done.auto.work)) in
    let fits : (i : ℕ) → get_or a.heights.now i 0 < 65536 =
    λ i. omega (arith, c.shared_slice_known-1.given i) in
    record {
      plane_after = plane-made (filter_of a.filter) (filter-laws a.filter) (side a.sides.x a.sides.width) (side a.sides.y a.sides.height) a.levels a.heights.now _ _ s
          c.requires.4 fits done.ensures.plane_after;
      work_after = cleared _ _ _ _ _ s.height.0 done.ensures.kept_from (did _ _ _ _ room c.clear.ensures.area);
    }
