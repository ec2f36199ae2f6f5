-- What waits to be handed out: nothing, and what waits of levels whose stretches begin at place a, seen from k levels above them.
use Rattle.std.specs.Prelude.{ℕ, ◌+◌, ◌%◌, ◌^◌, ◌==◌}
use Rattle.numbers.specs.Signal.{pick}
use Rattle.progress.specs.declared.waits.Wait.{Wait}
use Rattle.progress.specs.Counts.{deeper_by, further}

abbrev pub no_wait : Wait
no_wait = record { level = 0; left = 0; offset = 0 }

abbrev pub seen_from : ℕ → ℕ → Wait → Wait
seen_from k a r = record { level = deeper_by k r.level; left = r.left; offset = further r.level a r.offset }

-- the same of any numbers, in words of 64 bits
abbrev pub seen_in_words : ℕ → ℕ → Wait → Wait
seen_in_words k a r =
    record { level = pick (r.level == 0) 0 ((k + r.level) % 2 ^ 64); left = r.left; offset = pick (r.level == 0) 0 ((a + r.offset) % 2 ^ 64) }
