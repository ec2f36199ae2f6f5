-- What a byte of a header brings, in document 02's terms (Q-1): more is to come, the header has ended with width, height and largest value, or question 15
-- says no.
use Rattle.std.specs.Prelude.{ℕ, Result, Ok, Err}
use Rattle.pgm.specs.declared.header.Header.{Header}
use Rattle.pgm.specs.declared.header.Malformed.{Malformed}
use Rattle.pgm.specs.declared.header.Next.{Next}
use Rattle.pgm.specs.declared.header.Next.TheVariants as next

pub data NextAnswer : Type 0 where
  More : Header → NextAnswer
  Done : ℕ → ℕ → ℕ → NextAnswer
  No15 : NextAnswer

abbrev pub of_next : Result Next Malformed → NextAnswer
of_next (Ok (next.More h)) = More h
of_next (Ok (next.Done w h m)) = Done w h m
of_next (Err _) = No15
