-- `restore` meets its contract: the two questions of the plane, and what each answer leaves. Assumes nothing.
use mathlib.Core.Path.{◌≡◌, sym, ◌∙◌}
use mathlib.Core.Bool.{true}
use Prim.Native.Nat.{ℕ, ◌*◌, ◌≤◌}
use lib.Dec.{leb}
use native.Mathlib.Omega.{arith}
use borrow.Author.Tests.{not-true, not-false, le-leb}
use Rattle.areas.proofs.AreaLaws.{did}
use Rattle.filters.proofs.Filters.{filter-laws}
use Rattle.filters.specs.Filters.{filter_of}
use Rattle.map_levels.proofs.CallLaws.{cleared, out_of_range, not-rebuilt, all-rebuilt}
use Rattle.map_questions.proofs.QuestionLaws.{rebuilt-no, rebuilt-yes, rebuilt-zero}
use Rattle.map_levels.proofs.restore.Goals as goal

pub plane_in_range-requires : goal.plane_in_range-requires
plane_in_range-requires c = (c.requires.0, c.requires.1, c.requires.4)

pub returns-then-not-plane_in_range : goal.returns-then-not-plane_in_range
returns-then-not-plane_in_range c =
    record {
      value = out_of_range (filter_of c.args.filter) (filter-laws c.args.filter) _ _ _ _ _ c.plane_in_range.ensures
          (not-true _ c.if-not-plane_in_range.true-raw);
      heights_after = rebuilt-no _ _ _ 7 (omega arith) (omega arith);
      work_after = rebuilt-no _ _ _ 7 (omega arith) (omega arith);
    }

pub rebuild-requires : goal.rebuild-requires
rebuild-requires c =
    let p = c.requires in
    (p.0, p.1, p.2, p.3, p.4, sym c.plane_in_range.ensures ∙ not-false _ c.if-not-plane_in_range.false-raw)

pub shape_of-heights-then-not-rebuild : goal.shape_of-heights-then-not-rebuild
shape_of-heights-then-not-rebuild c =
    c.clear.auto.area ∙ c.rebuild.auto.heights

pub shape_of-work-then-not-rebuild : goal.shape_of-work-then-not-rebuild
shape_of-work-then-not-rebuild c =
    c.clear-then-not-rebuild.auto.area ∙ c.rebuild.auto.work

pub returns-then-not-rebuild : goal.returns-then-not-rebuild
returns-then-not-rebuild c =
    let size = c.args.sides.width * c.args.sides.height in
    let room : (m k : ℕ) → m ≡ k → size ≤ k → leb size m ≡ true = λ m k e h. le-leb size m (omega arith) in
    let b = c.rebuild.ensures in
    record {
      value = not-rebuilt (filter_of c.args.filter) (filter-laws c.args.filter) _ _ _ _ _ c.plane_in_range.ensures
          (not-false _ c.if-not-plane_in_range.false-raw) _ b.answer (not-true _ c.if-not-rebuild.true-raw);
      heights_after = cleared _ _ _ _ _ c.requires.0.height.0 b.kept_heights
          (did _ _ _ _ (room _ _ c.rebuild.auto.heights c.requires.2) c.clear.ensures.area) ∙ sym (rebuilt-zero _ _ _);
      work_after = cleared _ _ _ _ _ c.requires.0.height.0 b.kept
          (did _ _ _ _ (room _ _ c.rebuild.auto.work c.requires.3) c.clear-then-not-rebuild.ensures.area) ∙ sym (rebuilt-zero _ _ _);
    }

pub shape_of-heights : goal.shape_of-heights
shape_of-heights c = c.rebuild.auto.heights

pub shape_of-work : goal.shape_of-work
shape_of-work c = c.rebuild.auto.work

pub returns : goal.returns
returns c =
    let t = not-false _ c.if-not-rebuild.false-raw in
    let b = c.rebuild.ensures in
    record {
      value = all-rebuilt (filter_of c.args.filter) (filter-laws c.args.filter) _ _ _ _ _ c.plane_in_range.ensures
          (not-false _ c.if-not-plane_in_range.false-raw) _ b.answer t;
      heights_after = b.heights t ∙ sym (rebuilt-yes _ _ _);
      work_after = b.cleared t ∙ sym (rebuilt-yes _ _ _);
    }
