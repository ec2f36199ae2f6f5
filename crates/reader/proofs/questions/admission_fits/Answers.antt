-- `reader::questions::admission_fits` meets its contract: the definition's tests, in its order. Assumes nothing.
use mathlib.Core.Path.{sym}
use Rattle.reader.proofs.QuestionLaws.{admission-0, tolerant-other, tolerant-ended, tolerant-x, tolerant-y, tolerant-last}
use Rattle.reader.proofs.questions.admission_fits.Goals as goal

pub returns-then-s-eq0 : goal.returns-then-s-eq0
returns-then-s-eq0 c = sym (admission-0 _ c.if-s-eq0.true)

pub returns-then-s-ne1 : goal.returns-then-s-ne1
returns-then-s-ne1 c = tolerant-other _ c.if-s-eq0.false c.if-s-ne1.true

pub returns-then-s : goal.returns-then-s
returns-then-s c =
    tolerant-ended _ c.if-s-eq0.false c.if-s-ne1.false c.if-s.true

pub returns-then-s-ne0 : goal.returns-then-s-ne0
returns-then-s-ne0 c =
    tolerant-x _ c.if-s-eq0.false c.if-s-ne1.false c.if-s.false c.if-s-ne0.true

pub returns-then-s-ne0-2 : goal.returns-then-s-ne0-2
returns-then-s-ne0-2 c =
    tolerant-y _ c.if-s-eq0.false c.if-s-ne1.false c.if-s.false c.if-s-ne0.false c.if-s-ne0-2.true

pub returns : goal.returns
returns c =
    tolerant-last _ c.if-s-eq0.false c.if-s-ne1.false c.if-s.false c.if-s-ne0.false c.if-s-ne0-2.false c.requires
