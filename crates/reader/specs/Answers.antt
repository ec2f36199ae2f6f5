-- The answers of the reader's calls in document 01's terms: what a call gives, or the number of the question that turned it away.
use Rattle.std.specs.Prelude.{ℕ, Option, Some, None, Result, Ok, Err}
use Rattle.refusal.specs.declared.Refusal.{Refusal}
use Rattle.refusal.specs.Numbers as question
use Rattle.reader.specs.declared.Reader.{Reader}
use Rattle.reader.specs.declared.Wanted.{Wanted}
use Rattle.reader.specs.declared.Wanted.TheVariants as wanted
use Rattle.reader.specs.declared.ReadError.{ReadError}
use Rattle.reader.specs.declared.ReadError.TheVariants as error

pub data Reply (A : Type 0) : Type 0 where
  gives : A → Reply A
  refused : ℕ → Reply A
  -- 14, and the reader that it ended
  impossible : Reader → Reply A

-- 01's number, 0 where the call passed
abbrev pub number : {A : Type 0} → Reply A → ℕ
number (gives a) = 0
number (refused q) = q
number (impossible s) = 14

-- what is wanted. `row`: level, band's code, number and length of a band row
pub data Want : Type 0 where
  row : ℕ → ℕ → ℕ → ℕ → Want
  draw_now done ended : Want

-- so many heights in the output area and the reader then, or Nothing
pub data Handed : Type 0 where
  a_row : ℕ → Reader → Handed
  nothing : Handed

abbrev pub of_set_up : Result Reader Refusal → Reply Reader
of_set_up (Ok s) = gives s
of_set_up (Err r) = refused (question.number r)

abbrev pub of_wanted : Result Wanted Refusal → Reply Want
of_wanted (Ok (wanted.Row k b r n)) = gives (row k b r n)
of_wanted (Ok wanted.Draw) = gives draw_now
of_wanted (Ok wanted.Done) = gives done
of_wanted (Ok wanted.Ended) = gives ended
of_wanted (Err r) = refused (question.number r)

abbrev pub of_fed : Result Reader ReadError → Reply Reader
of_fed (Ok s) = gives s
of_fed (Err (error.Impossible s)) = impossible s
of_fed (Err (error.Refused r)) = refused (question.number r)

abbrev pub of_drawn : Result (Option (ℕ × Reader)) ReadError → Reply Handed
of_drawn (Ok (Some d)) = gives (a_row d.0 d.1)
of_drawn (Ok None) = gives nothing
of_drawn (Err (error.Impossible s)) = impossible s
of_drawn (Err (error.Refused r)) = refused (question.number r)
