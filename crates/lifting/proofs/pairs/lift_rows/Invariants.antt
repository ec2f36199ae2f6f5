-- `lifting::pairs::lift_rows` meets its contract: before turn i the first i columns are lifted. Assumes nothing.
use Rattle.lifting.specs.Pairs.{each_column}
use Rattle.lifting.proofs.ColumnLaws.{Passed}
use Rattle.lifting.proofs.pairs.lift_rows.Given as goal

abbrev pub invariant-loop-i : goal.invariant-loop-i
invariant-loop-i g l =
    let p = l.fn.pair in
    Passed (λ k x. each_column g.S.PairStep.column l.stride k p.high p.low p.right p.before x) l.stride l.width p.high p.low p.right p.before l.initial.area
    l.i l.area
