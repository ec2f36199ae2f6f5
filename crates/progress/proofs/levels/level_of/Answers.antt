use Rattle.std.proofs.Common.{◌≡◌, ◌+◌, ◌-◌, refl, ap, ◌∙◌, arith}
use Rattle.lifting.specs.Grid.{side}
use Rattle.progress.specs.Counts.{low_rows}
use Rattle.progress.proofs.CountLaws.{next-is, start_is}
use Rattle.progress.proofs.LevelLaws.{walk-on, walk_end}
use Rattle.progress.proofs.levels.level_of.Goals as goal

pub loop-above-init : goal.loop-above-init
loop-above-init c = let e : c.args.v + 1 - 1 ≡ c.args.v = omega arith in (c.look_ahead-a.ensures, rw e refl)

pub loop-above-preserved : goal.loop-above-preserved
loop-above-preserved c =
    let l = c.loop-above in
    let v = c.args.v + 1 - l._above in
    let e : c.args.v + 1 - (l._above + 1) ≡ v - 1 = omega arith in (
      l.invariant.0,
      rw e
          (walk-on _ (side l.column l.width) l.row l.closed v l.rows _ _ _ _ (omega arith)
          (next-is l.column l.width _ _ c.next_start-column.ensures c.low_count-width.ensures)
          (start_is l.row _ c.next_start-row.ensures) (c.minus-closed.ensures ∙ ap (λ i. l.closed - i) l.invariant.0)
          (c.minus-rows.ensures ∙ ap (low_rows l.row) c.made.ensures))
          ∙ l.invariant.1,
    )

pub returns : goal.returns
returns c =
    let l = c.loop-above in
    walk_end _ (side l.column l.width) l.row l.closed (c.args.v + 1 - l._above) l.rows _ _ (omega arith) c.made-2.ensures c.minus.ensures
    ∙ l.invariant.1
