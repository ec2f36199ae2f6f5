-- The writer without an offset: for every row, the walk down the levels (`waiting`, `advance`) finds the level's stretch. It has the spare row of Q-2 too.
-- It is the reference of `same-events` and `same_Store` (proofs/Offset.antt); no contract cites it.
use Rattle.std.specs.Prelude.{Bool, true, false, not, List, [], ◌∷◌, ℕ, zero, suc, ◌+◌, ◌-◌, ◌*◌, ◌/◌, ◌%◌, min, pos, length, leb, ltb, eqb}
use Rattle.numbers.specs.Signal.{pick, both, stored, spliced}
use Rattle.lifting.specs.Grid.{Side}
use Rattle.lifting.specs.Halves.{fronted}
use Rattle.wavelet.specs.Limits.{max_height}
use Rattle.wavelet.specs.Questions.{ask}
use Rattle.calls.specs.Lists.{unless, changed_unless, Area}
use Rattle.calls.specs.Lists as lists
use Rattle.filters.specs.Filters.{filter_of}
use Rattle.level.specs.Level.{Memory, LevelKind, rest}
use Rattle.level.specs.Heights.{height_at}
use Rattle.analysis.specs.Forward.{kind_of, heights_put}
use Rattle.filters.specs.Figures.{store_by, writer_store_by, streamable}
use Rattle.progress.specs.Counts.{most_left}
use Rattle.writer.specs.Machine.{Out, arrive}
use Rattle.writer.specs.Draws.{Waiting, waiting, advance}
use Rattle.writer.specs.Closing.{Flushed, flush}
use Rattle.writer.specs.Questions.{either, on_grid}
use Rattle.writer.specs.declared.BandRow.{BandRow}
use Rattle.writer.specs.Calls.{set_up_store, band_row, no_row}
use Rattle.writer.specs.History.{Call, offer, draw, finish, look, Given, row, none, Event, offered, drew, finished, looked}

pub record Before : Type 0 where
  pub filter : ℕ
  pub columns : Side
  pub start : ℕ
  pub levels : ℕ
  pub rows : ℕ
  pub column : ℕ
  pub finished : Bool
  pub closed : ℕ
  pub level : ℕ
  pub left : ℕ

abbrev pub at : ℕ → Side → (s L r c : ℕ) → Bool → (cl v i : ℕ) → Before
at f W s L r c e cl v i =
    record { filter = f; columns = W; start = s; levels = L; rows = r; column = c; finished = e; closed = cl; level = v; left = i }

abbrev pub kind : Before → LevelKind
kind s = kind_of s.filter

-- ---- heights taken
pub record Taking : Type 0 where
  pub taken : ℕ
  pub writer : Before
  pub store : Memory

unfoldable pub takes : Before → Bool
takes s = both (eqb s.level 0) (ltb s.rows max_height)

abbrev pub begun : Before → Before
begun s = at s.filter s.columns s.start s.levels s.rows (s.column + 1) s.finished s.closed s.level s.left

abbrev pub complete : Before → Out → Before
complete s o = at s.filter s.columns s.start s.levels (s.rows + 1) 0 s.finished s.closed o.level o.left

abbrev pub untaken : Before → Memory → Taking
untaken s x = record { taken = 0; writer = s; store = x }

abbrev pub one_more : Taking → Taking
one_more t = record { taken = suc t.taken; writer = t.writer; store = t.store }

abbrev pub height_put : ℕ → Before → Memory → Memory
height_put h s x = stored ((kind s).cell s.columns s.start s.rows s.column) (pos h) x

abbrev pub row_makes : Before → Memory → Out
row_makes s x = arrive (kind s) s.levels s.columns s.start s.rows x

unfoldable pub offering : List ℕ → Before → Memory → Taking
offering [] s x = untaken s x
offering (h ∷ run) s x =
    pick (takes s)
    (one_more
    (pick (ltb (s.column + 1) s.columns.length)
    (offering run (begun s) (height_put h s x))
    (offering run (complete s (row_makes s (height_put h s x))) (row_makes s (height_put h s x)).store)))
    (untaken s x)

-- ---- the spare row, as the writer's (Spare)
abbrev pub spare_at : Before → ℕ
spare_at s = store_by s.filter s.columns s.levels

abbrev pub spare_room : Before → ℕ → ℕ
spare_room s k = min (s.columns.length - s.column) k

abbrev pub at_column : Before → ℕ → Before
at_column s c = at s.filter s.columns s.start s.levels s.rows c s.finished s.closed s.level s.left

unfoldable pub holding : List ℕ → Before → Memory → Taking
holding run s x = record {
  taken = spare_room s (length run);
  writer = at_column s (s.column + spare_room s (length run));
  store = spliced (spare_at s + s.column) (spare_room s (length run)) (height_at run) x;
}

abbrev pub moved_row : Before → Memory → Memory
moved_row s x = heights_put s.filter s.columns (s.start % 2 + s.rows) 0 s.column (λ j. x (spare_at s + j)) x

unfoldable pub moving : Before → Memory → Taking
moving s x =
    pick (ltb s.column s.columns.length)
    (record { taken = s.column; writer = s; store = moved_row s x })
    (record { taken = s.column; writer = complete s (row_makes s (moved_row s x)); store = (row_makes s (moved_row s x)).store })

-- v is the writer's level: 0, and nothing waits
unfoldable pub moved_on : ℕ → Before → Memory → Taking
moved_on zero s x = moving s x
moved_on (suc v) s x = untaken s x

abbrev pub offered_at : ℕ → List ℕ → Before → Memory → Taking
offered_at zero run s x = offering run s x
offered_at (suc v) run s x = holding run s x

-- ---- the questions
unfoldable pub most_column : Before → ℕ → ℕ
most_column s zero = s.columns.length - 1
most_column s (suc v) = pick (both (not s.finished) (ltb s.rows max_height)) s.columns.length 0

unfoldable pub in_ranges : Before → Bool
in_ranges s =
    both (on_grid s.columns.start s.start)
    (both (streamable s.filter s.columns s.levels)
    (both (leb s.rows max_height)
    (both (leb s.column (most_column s s.level))
    (both (leb s.closed ((filter_of s.filter).ahead * s.levels))
    (both (leb s.level s.levels)
    (leb s.left (most_left s.levels s.level)))))))

unfoldable pub long_enough : ℕ → Before → Bool
long_enough n s = leb (writer_store_by s.filter s.columns s.levels) n

abbrev pub waiting_row : Before → Waiting
waiting_row s = waiting (kind s) s.levels s.columns s.start s.closed s.level s.left s.rows

unfoldable pub offer_question : Before → ℕ → ℕ → ℕ
offer_question s n k =
    ask (in_ranges s) 1
    (ask (long_enough n s) 5
    (ask (not s.finished) 9
    (ask (either (eqb k 0) (ltb (s.rows + s.column / s.columns.length) max_height)) 10
    0)))

unfoldable pub draw_question : Before → ℕ → ℕ → ℕ
draw_question s n k =
    ask (in_ranges s) 1
    (ask (long_enough n s) 5
    (ask (either (eqb s.level 0) (leb (waiting_row s).length k)) 12
    0))

unfoldable pub look_question : Before → ℕ
look_question s = ask (in_ranges s) 1 0

unfoldable pub finish_question : Before → ℕ → ℕ
finish_question s n =
    ask (in_ranges s) 1
    (ask (long_enough n s) 5
    (ask (not s.finished) 9
    (ask (eqb s.level 0) 8
    (ask (both (ltb 0 s.rows) (eqb s.column 0)) 11
    0))))

-- ---- what a finish and a draw leave
abbrev pub waits : Bool → Before → Flushed → Before
waits e s r = at s.filter s.columns s.start s.levels s.rows s.column e r.closed r.out.level r.out.left

abbrev pub closing : Before → Memory → Flushed
closing s x = flush (kind s) s.levels s.columns s.start 0 s.rows x

unfoldable pub resumed : Bool → Before → Out → ℕ → Flushed
resumed false s o v = record { closed = s.closed; out = o }
resumed true s o zero = flush (kind s) s.levels s.columns s.start s.closed s.rows o.store
resumed true s o (suc v) = record { closed = s.closed; out = o }

abbrev pub advanced : Before → Memory → Out
advanced s x = advance (kind s) s.levels s.columns s.start s.closed s.level s.left s.rows x

abbrev pub after_draw : Before → Memory → Flushed
after_draw s x = resumed s.finished s (advanced s x) (advanced s x).level

abbrev pub drawn_on : Before → Memory → Taking
drawn_on s x = moved_on (after_draw s x).out.level (waits s.finished s (after_draw s x)) (after_draw s x).out.store

-- v is the writer's level: 0, and nothing waits
abbrev pub handed : ℕ → Before → Given
handed zero s = none
handed (suc v) s = row (band_row (waiting_row s))

abbrev pub awaited : ℕ → Before → BandRow
awaited zero s = no_row
awaited (suc v) s = band_row (waiting_row s)

abbrev pub handed_writer : ℕ → Before → Memory → Before
handed_writer zero s x = s
handed_writer (suc v) s x = (drawn_on s x).writer

abbrev pub handed_store : ℕ → Before → Memory → Memory
handed_store zero s x = x
handed_store (suc v) s x = (drawn_on s x).store

abbrev pub handed_area : ℕ → Before → Memory → Memory → Memory
handed_area zero s x z = z
handed_area (suc v) s x z = fronted (waiting_row s).length (rest (waiting_row s).start x) z

-- ---- each call is made on the state and store that the one before left
pub record World : Type 0 where
  pub writer : Before
  pub store : Memory

abbrev pub world : Before → Memory → World
world s x = record { writer = s; store = x }

-- what is seen of a call, and what it leaves; q is the number of the question that turns it away, or 0
module _ (w : World) where
  abbrev s : Before
  s = w.writer

  abbrev x : Memory
  x = w.store

  unfoldable pub offer_event : List ℕ → ℕ → Event
  offer_event run q = offered run (unless q (offered_at s.level run s x).taken)

  unfoldable pub offer_next : List ℕ → ℕ → World
  offer_next run q = world (changed_unless q (offered_at s.level run s x).writer s) (changed_unless q (offered_at s.level run s x).store x)

  unfoldable pub draw_event : Area → ℕ → Event
  draw_event a q =
      drew a (unless q (handed s.level s))
      (record { size = a.size; numbers = changed_unless q (handed_area s.level s x a.numbers) a.numbers })

  unfoldable pub draw_next : ℕ → World
  draw_next q = world (changed_unless q (handed_writer s.level s x) s) (changed_unless q (handed_store s.level s x) x)

  unfoldable pub finish_event : ℕ → Event
  finish_event q = finished (unless q tt)

  unfoldable pub finish_next : ℕ → World
  finish_next q = world (changed_unless q (waits true s (closing s x)) s) (changed_unless q (closing s x).out.store x)

unfoldable pub event : Call → World → Event
event (offer n run) w = offer_event w run (offer_question w.writer n (length run))
event (draw n a) w = draw_event w a (draw_question w.writer n a.size)
event (finish n) w = finish_event w (finish_question w.writer n)
event look w = looked (unless (look_question w.writer) (awaited w.writer.level w.writer))

unfoldable pub next : Call → World → World
next (offer n run) w = offer_next w run (offer_question w.writer n (length run))
next (draw n a) w = draw_next w (draw_question w.writer n a.size)
next (finish n) w = finish_next w (finish_question w.writer n)
next look w = w

abbrev pub events : List Call → World → List Event
events = lists.events event next

abbrev pub final : List Call → World → World
final = lists.final next

-- a set-up that passed
abbrev pub fresh_world : ℕ → Side → ℕ → ℕ → ℕ → Memory → World
fresh_world f W s L n x = world (at f W s L 0 0 false 0 0 0) (set_up_store f W L n x)
