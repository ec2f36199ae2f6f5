-- `reader::questions::row_question` meets its contract: the definition's tests, in its order. Assumes nothing.
use mathlib.Core.Path.{◌∙◌, sym, ap}
use Prim.Native.Nat.{◌+◌}
use native.Mathlib.Omega.{arith}
use borrow.Author.Tests.{not-true, not-false}
use Rattle.reader.proofs.QuestionLaws.{row-done, row-draw, row-13, row-7, row-0}
use Rattle.reader.proofs.StepLaws.{spot_in, level-fits}
use lib.ListN.{length}
use Rattle.numbers.specs.Signal.{at}
use Rattle.reader.specs.Questions.{run_fits}
use Rattle.reader.proofs.questions.row_question.Goals as goal

pub overflow_add-level : goal.overflow_add-level
overflow_add-level c =
    let p = c.requires in
    level-fits c.args.s c.args.n.spot p.0 p.1.spot

pub returns-then-s : goal.returns-then-s
returns-then-s c = row-done _ _ _ c.if-s.true

pub returns-then-n-eq0 : goal.returns-then-n-eq0
returns-then-n-eq0 c =
    row-draw _ _ _ (omega arith) (omega (arith, c.requires.1.spot.level))

pub row_length-requires : goal.row_length-requires
row_length-requires c = (c.requires.1, omega arith)

pub returns-then-run-row_length : goal.returns-then-run-row_length
returns-then-run-row_length c =
    let near = spot_in _ _ c.requires.1.spot (omega arith) in
    row-13 _ _ _ (omega arith) near.2 (λ e. c.if-run-row_length.true (e ∙ sym c.row_length.ensures))

pub run_fits-requires : goal.run_fits-requires
run_fits-requires c =
    let near = spot_in _ _ c.requires.1.spot (omega arith) in
    let counts = c.requires.0 in
    omega (arith, near.0, counts.at, counts.stops)

pub returns-then-not-run_fits : goal.returns-then-not-run_fits
returns-then-not-run_fits c =
    let near = spot_in _ _ c.requires.1.spot (omega arith) in
    let run = c.args.run.now in
    let range = ap (λ k. run_fits c.args.s.filter (c.args.s.stop + k) (length run) (at run)) (sym c.requires.1.spot.level) in
    row-7 _ _ _ (omega arith) near.2 (c.if-run-row_length.false ∙ c.row_length.ensures)
    (range ∙ sym c.run_fits.ensures ∙ not-true _ c.if-not-run_fits.true-raw)

pub returns : goal.returns
returns c =
    let near = spot_in _ _ c.requires.1.spot (omega arith) in
    let run = c.args.run.now in
    let range = ap (λ k. run_fits c.args.s.filter (c.args.s.stop + k) (length run) (at run)) (sym c.requires.1.spot.level) in
    row-0 _ _ _ (omega arith) near.2 (c.if-run-row_length.false ∙ c.row_length.ensures)
    (range ∙ sym c.run_fits.ensures ∙ not-false _ c.if-not-run_fits.false-raw)
