-- `reader_order::shape_fits` meets its contract. Assumes nothing.
use Rattle.std.proofs.Common.{◌≡◌, ap, sym, ◌∙◌, refl, Result, Ok, Err}
use Rattle.std.specs.Result.{is_ok}
use lib.Dec.{eqb}
use borrow.Author.Tests.{ne_eqb}
use Rattle.refusal.specs.declared.Refusal.{Refusal}
use Rattle.refusal.specs.Numbers.{number, answer}
use Rattle.refusal.proofs.Laws.{number-some}
use Rattle.reader_order.specs.Order.{shape_fits}
use Rattle.reader_order.proofs.shape_fits.Goals as goal

passed : (r : Result (Unit {0}) Refusal) → is_ok r ≡ eqb (answer r) 0
passed (Ok _) = refl
passed (Err r) = sym (ne_eqb (number r) 0 (number-some r))

pub returns : goal.returns
unfolding shape_fits
returns c = c.is_ok.ensures.value ∙ passed _ ∙ ap (λ q. eqb q 0) c.size_question.ensures
