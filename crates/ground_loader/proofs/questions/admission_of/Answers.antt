-- `questions::admission_of` meets its contract: the two cases of the test. Assumes nothing.
use mathlib.Core.Path.{refl}
use native.Mathlib.Omega.{arith}
use borrow.Author.Tests.{eq-eqb, ne_eqb}
use lib.Dec.{eqb}
use Rattle.ground_loader.proofs.AskLaws.{at-yes, at-no}
use Rattle.ground_loader.proofs.questions.admission_of.Goals as goal

pub returns-then-step-eq1 : goal.returns-then-step-eq1
returns-then-step-eq1 c = at-yes (eqb c.args.step 1) _ _ (eq-eqb c.args.step 1 (omega arith)) refl

pub returns-else-step-eq1 : goal.returns-else-step-eq1
returns-else-step-eq1 c = at-no (eqb c.args.step 1) _ _ (ne_eqb c.args.step 1 (λ e. omega arith)) refl
