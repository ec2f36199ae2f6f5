-- The answers of the writer's calls in document 01's terms: the number of the question that turned the call away, or what it gives.
use Rattle.std.specs.Prelude.{ℕ, Result, Ok, Err, Option, Some, None}
use Rattle.calls.specs.Lists.{Reply, gives, refused}
use Rattle.writer.specs.declared.Writer.{Writer}
use Rattle.writer.specs.declared.BandRow.{BandRow}
use Rattle.refusal.specs.declared.Refusal.{Refusal}
use Rattle.refusal.specs.Numbers.{number}
use Rattle.writer.specs.declared.Taken.{Taken}
use Rattle.writer.specs.declared.Drawn.{Drawn}

-- the number of heights taken, and the writer then
pub record Took : Type 0 where
  pub taken : ℕ
  pub writer : Writer

-- a band row and the writer then, or Nothing
pub data Handed : Type 0 where
  a_row : BandRow → Writer → Handed
  nothing : Handed

-- nothing waits
abbrev pub no_row : BandRow
no_row = record { level = 0; band = 0; row = 0; length = 0 }

abbrev pub of_set_up : Result Writer Refusal → Reply Writer
of_set_up (Ok w) = gives w
of_set_up (Err r) = refused (number r)

abbrev pub of_offered : Result Taken Refusal → Reply Took
of_offered (Ok t) = gives (record { taken = t.heights; writer = t.writer })
of_offered (Err r) = refused (number r)

abbrev pub of_drawn : Result (Option Drawn) Refusal → Reply Handed
of_drawn (Ok (Some d)) = gives (a_row d.row d.writer)
of_drawn (Ok None) = gives nothing
of_drawn (Err r) = refused (number r)

abbrev pub of_look : Result (Option BandRow) Refusal → Reply BandRow
of_look (Ok (Some b)) = gives b
of_look (Ok None) = gives no_row
of_look (Err r) = refused (number r)

abbrev pub of_finished : Result Writer Refusal → Reply Writer
of_finished = of_set_up
