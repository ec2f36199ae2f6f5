-- A listing with its line store x and its row area z, and what each step leaves of them. n and k are the lengths of store and area.
use Rattle.std.specs.Prelude.{◌≡◌, [], ◌∷◌, ℕ, ◌+◌, ltb, eqb}
use Rattle.numbers.specs.Signal.{pick}
use Rattle.lifting.specs.Grid.{side}
use Rattle.wavelet.specs.Limits.{max_levels}
use Rattle.pgm.specs.Limits.{max_picture_width}
use Rattle.level.specs.Level.{Memory}
use Rattle.filters.specs.Figures.{writer_store_by}
use Rattle.calls.specs.Lists.{Reply, gives, refused}
use Rattle.writer.specs.Answers.{Took, Handed, a_row, nothing}
use Rattle.writer.specs.Calls.{fresh, set_up_reply, set_up_store, offer_reply, offer_store, draw_reply, draw_store, draw_area, finish_reply, finish_store}
use Rattle.writer.specs.declared.Writer.{Writer}
use Rattle.pgm.specs.InputSteps.{start_at, phased, read_byte, input_ended}
use Rattle.listing.specs.Parts.{no_line, size_part, refused_part, head_part}
use Rattle.pgm.specs.declared.input.Input.{Input}
use Rattle.pgm.specs.StepAnswer.{StepAnswer}
use Rattle.pgm.specs.EndedAnswer.{EndedAnswer}
use Rattle.listing.specs.declared.line.Line.{Line}
use Rattle.listing.specs.declared.listing.Listing.{Listing}
use Rattle.pgm.specs.StepAnswer as steps
use Rattle.pgm.specs.EndedAnswer as ended

-- a line store in which every map that is listed has room; the filter is the 5/3, number 0
abbrev pub map_store : ℕ
map_store = writer_store_by 0 (side 0 max_picture_width) max_levels

pub record State : Type 0 where
  pub listing : Listing
  pub store : Memory
  pub row : Memory

abbrev pub state_of : Listing → Memory → Memory → State
state_of l x z = record { listing = l; store = x; row = z }

-- a call left this state
pub record Leaves (s : State) (l : Listing) (x z : Memory) : Type 0 where
  pub listing : l ≡ s.listing
  pub store : x ≡ s.store
  pub row : z ≡ s.row

abbrev pub listed : Input → Writer → Line → Listing
listed i w l = record { input = i; writer = w; line = l }

-- before the first byte: the writer is none yet
abbrev pub started : Listing
started = listed (start_at 0) (fresh 0 (side 0 1) 0 1) no_line

-- a refusal, whatever its number: no more is read
abbrev pub refused_to : Input → Writer → ℕ → Listing
refused_to i w q = listed (phased 4 i) w (refused_part q)

-- ---- a draw: the row that waits becomes the line
abbrev pub drawn_to : Input → Writer → Reply Handed → Listing
drawn_to i w (gives (a_row r u)) = listed i u (head_part r.level r.band r.row r.length)
drawn_to i w (gives nothing) = listed i w no_line
drawn_to i w (refused q) = refused_to i w q

unfoldable pub draw_state : ℕ → ℕ → Input → Writer → Memory → Memory → State
draw_state n k i w x z = state_of (drawn_to i w (draw_reply w n k x)) (draw_store w n k x) (draw_area w n k x z)

-- ---- the head: a fresh writer, and the line of W, H and L
abbrev pub begun_to : Input → Writer → ℕ → ℕ → Reply Writer → Listing
begun_to i w W H (gives u) = listed i u (size_part W H i.levels)
begun_to i w W H (refused q) = refused_to i w q

unfoldable pub begin_state : ℕ → Input → Writer → ℕ → ℕ → Memory → Memory → State
begin_state n i w W H x z = state_of (begun_to i w W H (set_up_reply 0 (side 0 W) 0 i.levels n)) (set_up_store 0 (side 0 W) i.levels n x) z

-- ---- a height, and the finish
abbrev pub took_to : (ℕ → ℕ → Input → Writer → Memory → Memory → State) → ℕ → ℕ → Input → Writer → Memory → Memory → Reply Took → State
took_to f n k i w x z (gives t) = f n k i t.writer x z
took_to f n k i w x z (refused q) = state_of (refused_to i w q) x z

unfoldable pub offer_state : ℕ → ℕ → Input → Writer → ℕ → Memory → Memory → State
offer_state n k i w h x z = took_to draw_state n k i w (offer_store w n (h ∷ []) x) z (offer_reply w n (h ∷ []) x)

abbrev pub closed_to : ℕ → ℕ → Input → Writer → Memory → Memory → Reply Writer → State
closed_to n k i w x z (gives u) = draw_state n k i u x z
closed_to n k i w x z (refused q) = state_of (refused_to i w q) x z

unfoldable pub finish_state : ℕ → ℕ → Input → Writer → Memory → Memory → State
finish_state n k i w x z = closed_to n k i w (finish_store w n x) z (finish_reply w n x)

-- ---- a byte
abbrev pub step_to : ℕ → ℕ → Writer → Memory → Memory → StepAnswer → State
step_to n k w x z (steps.More i) = state_of (listed i w no_line) x z
step_to n k w x z (steps.Begun i W H) = begin_state n i w W H x z
step_to n k w x z (steps.Height i v) = offer_state n k i w v x z
step_to n k w x z (steps.No i q) = state_of (refused_to i w q) x z

unfoldable pub read_state : ℕ → ℕ → ℕ → State → State
read_state n k b s = step_to n k s.listing.writer s.store s.row (read_byte max_levels s.listing.input b)

-- ---- the end of the input, once no line is being written
abbrev pub end_to : ℕ → ℕ → State → EndedAnswer → State
end_to n k s (ended.Whole i) = finish_state n k i s.listing.writer s.store s.row
end_to n k s (ended.No15 i) = state_of (refused_to i s.listing.writer 15) s.store s.row
end_to n k s ended.Before = s

unfoldable pub end_state : ℕ → ℕ → State → State
end_state n k s = pick (ltb 0 s.listing.line.part) s (end_to n k s (input_ended s.listing.input))

-- ---- a part of the line is written whole: what comes after it
abbrev pub value_part : Line → ℕ → Line
value_part l v = record { part = 4; level = l.level; band = l.band; row = l.row; length = l.length; value = v; done = 0 }

unfoldable pub advance_state : ℕ → ℕ → State → State
advance_state n k s =
    pick (ltb s.listing.line.part 3) (state_of (listed s.listing.input s.listing.writer no_line) s.store s.row)
    (pick (eqb s.listing.line.part 3) (state_of (listed s.listing.input s.listing.writer (value_part s.listing.line 0)) s.store s.row)
    (pick (ltb s.listing.line.value s.listing.line.length)
    (state_of (listed s.listing.input s.listing.writer (value_part s.listing.line (s.listing.line.value + 1))) s.store s.row)
    (draw_state n k s.listing.input s.listing.writer s.store s.row)))
