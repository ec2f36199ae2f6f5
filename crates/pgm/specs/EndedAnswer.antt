-- What the end of an input brings: all heights came and no more, or question 15 says no ("neither too few nor too many", document 01), or a question said no
-- before.
use Rattle.std.specs.Prelude.{Result, Ok, Err}
use Rattle.pgm.specs.declared.input.Input.{Input}
use Rattle.pgm.specs.declared.input.Incomplete.{Incomplete}
use Rattle.pgm.specs.declared.input.Incomplete.TheVariants as why

pub data EndedAnswer : Type 0 where
  Whole : Input → EndedAnswer
  No15 : Input → EndedAnswer
  Before : EndedAnswer

abbrev pub of_ended : Result Input Incomplete → EndedAnswer
of_ended (Ok i) = Whole i
of_ended (Err (why.Short i)) = No15 i
of_ended (Err why.Before) = Before
