-- `questions::open_question` meets its contract: each test is the definition's, in its order. Assumes nothing.
use native.Mathlib.Omega.{arith}
use borrow.Author.Tests.{eq-eqb, ne_eqb}
use Rattle.writer.specs.FirstQuestions.{open_question}
use Rattle.writer.proofs.questions.open_question.Goals as goal

pub returns-then-s : goal.returns-then-s
unfolding open_question
returns-then-s c = simp c.if-s.true

pub returns-then-s-gt0 : goal.returns-then-s-gt0
unfolding open_question
returns-then-s-gt0 c = simp (c.if-s.false, ne_eqb c.args.s.level 0 (omega arith))

pub returns : goal.returns
unfolding open_question
returns c = simp (c.if-s.false, eq-eqb c.args.s.level 0 (omega arith))
