-- What each call of the writer answers, and what it leaves in the line store and the output area. s is the writer, x the store and n its length.
use Rattle.std.specs.Prelude.{Bool, true, false, List, ℕ, zero, suc, pos, length}
use Rattle.lifting.specs.Halves.{fronted}
use Rattle.wavelet.specs.Bands.{code}
use Rattle.lifting.specs.Grid.{Side}
use Rattle.calls.specs.Lists.{Reply, unless, changed_unless}
use Rattle.level.specs.Level.{Memory, rest}
use Rattle.filters.specs.Figures.{writer_store_by}
use Rattle.writer.specs.declared.Writer.{Writer}
use Rattle.writer.specs.declared.BandRow.{BandRow}
use Rattle.progress.specs.Counts.{start_of}
use Rattle.writer.specs.Machine.{Out}
use Rattle.writer.specs.Draws.{Waiting, advance}
use Rattle.writer.specs.Closing.{Flushed, flush}
use Rattle.writer.specs.Taking.{kind, columns_of, Taking, offering}
use Rattle.writer.specs.Spare.{holding, moved_on}
use Rattle.writer.specs.Questions.{waiting_row, set_up_question, offer_question, draw_question, waits_question, finish_question}
use Rattle.writer.specs.Answers.{Took, Handed, a_row, nothing}

-- ---- set-up: "Set-up zeroes the needed part."
-- with the filter of number f, of a map whose columns are W and whose rows start at s
abbrev pub fresh : ℕ → Side → ℕ → ℕ → Writer
fresh f W s L = record {
  x = W.start;
  y = s;
  width = W.length;
  levels = L;
  rows = 0;
  column = 0;
  finished = false;
  closed = 0;
  level = 0;
  left = 0;
  offset = 0;
  filter = f;
}

unfoldable pub set_up_reply : ℕ → Side → ℕ → ℕ → ℕ → Reply Writer
set_up_reply f W s L n = unless (set_up_question f W L n) (fresh f W s L)

unfoldable pub set_up_store : ℕ → Side → ℕ → ℕ → Memory → Memory
set_up_store f W L n x = changed_unless (set_up_question f W L n) (fronted (writer_store_by f W L) (λ _. pos 0) x) x

-- ---- offer
abbrev pub took : Taking → Took
took t = record { taken = t.taken; writer = t.writer }

-- while rows wait (v, the writer's level, is above 0), into the spare row. "An offer of no heights that passes takes 0."
abbrev pub offered_at : ℕ → List ℕ → Writer → Memory → Taking
offered_at zero run s x = offering (kind s) run s x
offered_at (suc v) run s x = holding run s x

unfoldable pub offer_reply : Writer → ℕ → List ℕ → Memory → Reply Took
offer_reply s n run x = unless (offer_question s n (length run)) (took (offered_at s.level run s x))

unfoldable pub offer_store : Writer → ℕ → List ℕ → Memory → Memory
offer_store s n run x = changed_unless (offer_question s n (length run)) (offered_at s.level run s x).store x

-- ---- finish: "At the finish level 1 closes first, then level 2, and so on."
-- the writer with what waits, e: finished
abbrev pub waits : Bool → Writer → Flushed → Writer
waits e s r = record {
  x = s.x;
  y = s.y;
  width = s.width;
  levels = s.levels;
  rows = s.rows;
  column = s.column;
  finished = e;
  closed = r.closed;
  level = r.out.level;
  left = r.out.left;
  offset = start_of s.filter (columns_of s) r.out.level;
  filter = s.filter;
}

abbrev pub closing : Writer → Memory → Flushed
closing s x = flush (kind s) s.levels (columns_of s) s.y 0 s.rows x

unfoldable pub finish_reply : Writer → ℕ → Memory → Reply Writer
finish_reply s n x = unless (finish_question s n) (waits true s (closing s x))

unfoldable pub finish_store : Writer → ℕ → Memory → Memory
finish_store s n x = changed_unless (finish_question s n) (closing s x).out.store x

-- ---- draw: the row is handed out; once finished and nothing waits, the levels close on
unfoldable pub resumed : Bool → Writer → Out → ℕ → Flushed
resumed false s o v = record { closed = s.closed; out = o }
resumed true s o zero = flush (kind s) s.levels (columns_of s) s.y s.closed s.rows o.store
resumed true s o (suc v) = record { closed = s.closed; out = o }

abbrev pub advanced : Writer → Memory → Out
advanced s x = advance (kind s) s.levels (columns_of s) s.y s.closed s.level s.left s.rows x

abbrev pub after_draw : Writer → Memory → Flushed
after_draw s x = resumed s.finished s (advanced s x) (advanced s x).level

-- and once nothing waits, the heights of the spare row go on
abbrev pub drawn_on : Writer → Memory → Taking
drawn_on s x = moved_on (after_draw s x).out.level (waits s.finished s (after_draw s x)) (after_draw s x).out.store

abbrev pub band_row : Waiting → BandRow
band_row r = record { level = r.level; band = code r.band; row = r.row; length = r.length }

-- v is the writer's level: 0, and nothing waits
abbrev pub handed : ℕ → Writer → Memory → Handed
handed zero s x = nothing
handed (suc v) s x = a_row (band_row (waiting_row s)) (drawn_on s x).writer

abbrev pub handed_store : ℕ → Writer → Memory → Memory
handed_store zero s x = x
handed_store (suc v) s x = (drawn_on s x).store

abbrev pub handed_area : ℕ → Writer → Memory → Memory → Memory
handed_area zero s x z = z
handed_area (suc v) s x z = fronted (waiting_row s).length (rest (waiting_row s).start x) z

-- k is the length of the output area, z what stands in it
unfoldable pub draw_reply : Writer → ℕ → ℕ → Memory → Reply Handed
draw_reply s n k x = unless (draw_question s n k) (handed s.level s x)

unfoldable pub draw_store : Writer → ℕ → ℕ → Memory → Memory
draw_store s n k x = changed_unless (draw_question s n k) (handed_store s.level s x) x

unfoldable pub draw_area : Writer → ℕ → ℕ → Memory → Memory → Memory
draw_area s n k x z = changed_unless (draw_question s n k) (handed_area s.level s x z) z

-- ---- a look at what waits: the row that the next draw hands out, or level 0 where nothing waits
abbrev pub no_row : BandRow
no_row = record { level = 0; band = 0; row = 0; length = 0 }

abbrev pub awaited : ℕ → Writer → BandRow
awaited zero s = no_row
awaited (suc v) s = band_row (waiting_row s)

-- the row that a draw hands out, as the look before it says it
abbrev pub row_handed : Handed → BandRow
row_handed (a_row r w) = r
row_handed nothing = no_row

unfoldable pub waits_reply : Writer → Reply BandRow
waits_reply s = unless (waits_question s) (awaited s.level s)
