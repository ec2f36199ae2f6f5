-- `questions::waits_in_range` meets its contract. Assumes nothing.
use mathlib.Core.Path.{sym, ap, ◌∙◌}
use native.Mathlib.Omega.{arith}
use lib.Dec.{eqb}
use Rattle.writer.specs.Taking.{columns_of}
use Rattle.progress.proofs.CountLaws.{left-none, left-some, start_first}
use Rattle.writer.proofs.QuestionLaws.{left-no, left-yes}
use Rattle.writer.proofs.questions.waits_in_range.Goals as goal

pub returns-then-s-gt0 : goal.returns-then-s-gt0
returns-then-s-gt0 c = let s = c.args.s in left-no s.left 0 _ _ (left-none s.levels s.level (omega arith)) (omega arith)

pub returns-then-s-eq0 : goal.returns-then-s-eq0
returns-then-s-eq0 c =
    let s = c.args.s in
    left-yes s.left 0 _ _ _ (left-none s.levels s.level (omega arith)) (omega arith)
    (ap (eqb s.offset) (sym (start_first s.filter (columns_of s) s.level (omega arith))))

pub returns-then-most-s : goal.returns-then-most-s
returns-then-most-s c =
    let s = c.args.s in
    left-no s.left _ _ _ (c.most.ensures ∙ left-some s.levels s.level (omega arith)) (omega arith)

pub begins-requires : goal.begins-requires
begins-requires c = (c.requires.0, omega arith)

pub returns : goal.returns
returns c =
    let s = c.args.s in
    left-yes s.left _ _ _ _ (c.most.ensures ∙ left-some s.levels s.level (omega arith)) (omega arith) c.begins.ensures
