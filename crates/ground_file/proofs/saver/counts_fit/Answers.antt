-- `saver::counts_fit` meets its contract: test by test. Assumes nothing.
use mathlib.Core.Path.{sym, ◌∙◌}
use Rattle.wavelet.specs.Limits.{max_width}
use Rattle.ground_file.specs.File.{prime}
use Rattle.ground_file.proofs.AnswerLaws.{refused-some, passed-none}
use Rattle.ground_file.proofs.SaverAsks.{fits-shape, fits-phase, fits-group, fits-part, fits_sum}
use Rattle.ground_file.proofs.saver.counts_fit.Goals as goal

pub returns-then-is_err : goal.returns-then-is_err
returns-then-is_err c =
    fits-shape c.args.s _ c.set_up_question.ensures (refused-some _ (sym c.is_err.ensures.value ∙ c.if-is_err.true))

pub returns-then-s-gt3 : goal.returns-then-s-gt3
returns-then-s-gt3 c =
    fits-phase c.args.s _ c.set_up_question.ensures (passed-none _ (sym c.is_err.ensures.value ∙ c.if-is_err.false)) c.if-s-gt3.true

pub returns-then-s-gt-MAX_WIDTH : goal.returns-then-s-gt-MAX_WIDTH
unfolding max_width prime
returns-then-s-gt-MAX_WIDTH c =
    fits-group c.args.s _ c.set_up_question.ensures (passed-none _ (sym c.is_err.ensures.value ∙ c.if-is_err.false)) c.if-s-gt3.false c.if-s-gt-MAX_WIDTH.true

pub returns-then-s-gt57 : goal.returns-then-s-gt57
unfolding max_width prime
returns-then-s-gt57 c =
    fits-part c.args.s _ c.set_up_question.ensures (passed-none _ (sym c.is_err.ensures.value ∙ c.if-is_err.false)) c.if-s-gt3.false c.if-s-gt-MAX_WIDTH.false c.if-s-gt57.true

pub returns : goal.returns
unfolding max_width prime
returns c =
    fits_sum c.args.s _ c.set_up_question.ensures (passed-none _ (sym c.is_err.ensures.value ∙ c.if-is_err.false)) c.if-s-gt3.false c.if-s-gt-MAX_WIDTH.false c.if-s-gt57.false
