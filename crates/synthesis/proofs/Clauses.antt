-- Clauses by their names: a proof of several facts, as the parts of a contract.
use Rattle.std.proofs.Common.{◌≡◌, refl, sym, Result, Ok, Err}
use Rattle.std.specs.Result.{is_ok}
use lib.Dec.{eqb}
use borrow.Author.Tests.{ne_eqb}
use Rattle.refusal.specs.declared.Refusal.{Refusal}
use Rattle.refusal.specs.Numbers.{number, answer}
use Rattle.refusal.proofs.Laws.{number-some}

pub stretch_after-kept : {A B : Type 0} → A × B → record { stretch_after : A; kept : B }
stretch_after-kept p = record { stretch_after = p.0; kept = p.1 }

-- whether a call passed, by its number
pub by-answer : {A : Type 0} (r : Result A Refusal) → is_ok r ≡ eqb (answer r) 0
by-answer (Ok a) = refl
by-answer (Err e) = sym (ne_eqb (number e) 0 (number-some e))
