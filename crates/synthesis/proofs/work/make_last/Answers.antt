-- `synthesis::work::make_last` meets its contract: no row, an only row, or the last row and its test. Assumes nothing.
use mathlib.Core.Path.{◌∙◌, sym}
use Prim.Native.Nat.{◌+◌, ◌*◌}
use native.Mathlib.Omega.{arith}
use Rattle.lifting.specs.Grid.{side}
use Rattle.level.proofs.KeptLaws.{kept-none, kept-is}
use Rattle.synthesis.proofs.WorkLaws.{last_none, last-single, last-made, others}
use Rattle.synthesis.proofs.KeptLaws.{odd-kept}
use Rattle.synthesis.specs.Columns.{columns_of}
use Rattle.synthesis.proofs.FilterColumns.{columns-laws}
use Rattle.synthesis.proofs.work.make_last.Goals as goal

pub returns-then-y-h : goal.returns-then-y-h
returns-then-y-h c = let a = c.args in
    record { stretch_after = last_none (columns_of a.filter) a.k a.w (side a.y a.h) a.n _ c.if-y-h.true; kept = kept-none _ _ }

pub shape_of-stretch-then-is_single : goal.shape_of-stretch-then-is_single
shape_of-stretch-then-is_single c = c.make_single.auto.stretch

pub returns-then-is_single : goal.returns-then-is_single
returns-then-is_single c =
    let a = c.args in
    record {
      stretch_after = c.make_single.ensures.stretch_after
          ∙ last-single (columns_of a.filter) a.k a.w (side a.y a.h) a.n _ (omega arith) (sym c.is_single.ensures ∙ c.if-is_single.true);
      kept = c.make_single.ensures.kept;
    }

pub undo_odd-requires : goal.undo_odd-requires
undo_odd-requires c =
    let a = c.args in
    omega (arith, others (side a.y a.h) a.n (omega arith) (sym c.is_single.ensures ∙ c.if-is_single.false))

pub shape_of-stretch : goal.shape_of-stretch
shape_of-stretch c = c.undo_odd.auto.stretch

pub returns : goal.returns
returns c =
    let a = c.args in
    record {
      stretch_after = last-made (columns_of a.filter) a.k a.w (side a.y a.h) a.n _ _ _ (omega arith) (sym c.is_single.ensures ∙ c.if-is_single.false)
          c.undo_odd.ensures
          c.admit_row.ensures;
      kept = kept-is _ _ _ _ (odd-kept (columns_of a.filter) (columns-laws a.filter) a.k a.w (side a.y a.h) (2 * a.n + 1) _)
          c.undo_odd.ensures;
    }
