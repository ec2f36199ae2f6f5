-- What a listing has reached (`Reached`): the events E of the input, whether it was ended whole (f), the bytes o written so far, and the state. What
-- is written of a line keeps it: `partly-reached` here, `wholly-reached` in ListingWrites. A draw keeps it: `draw-begun`. Assumes nothing.
use mathlib.Core.Path.{◌≡◌, refl, sym, ap, ap₂, ◌∙◌}
use mathlib.Core.Bool.{Bool, true, false}
use mathlib.Core.List.{List, [], ◌∷◌, ◌++◌, map, append_assoc, append-nil}
use Prim.Native.Nat.{ℕ, ◌+◌, ◌*◌, ◌≤◌, ◌<◌}
use native.Mathlib.Omega.{arith}
use lib.ListN.{length, take}
use Rattle.lifting.specs.Grid.{side}
use Rattle.wavelet.specs.Limits.{max_levels, max_sample, max_height}
use Rattle.calls.specs.Lists.{Reply, All}
use Rattle.level.specs.Level.{Memory}
use Rattle.writer.specs.Questions.{set_up_question}
use Rattle.writer.specs.Answers.{Handed}
use Rattle.writer.specs.Calls.{draw_reply, draw_store, draw_area}
use Rattle.writer.specs.History.{DrawnRow}
use Rattle.writer.specs.declared.Writer.{Writer}
use Rattle.writer.specs.declared.BandRow.{BandRow}
use Rattle.text.specs.Refusal.{refused_line, answer_line}
use Rattle.pgm.specs.Limits.{max_picture_width}
use Rattle.listing.specs.Lines.{size_line}
use Rattle.listing.specs.Parts.{no_line, head_part}
use Rattle.listing.specs.States.{map_store, State, state_of, drawn_to, draw_state}
use Rattle.listing.specs.Moves.{line_on, Idle, left_on, written_on}
use Rattle.listing.specs.Events.{Event, begins, height, refusal, answer_events}
use Rattle.pgm.specs.declared.input.Input.{Input}
use Rattle.listing.proofs.DrawnText.{drawn_line, drawn_text}
use Rattle.listing.proofs.LineLeft.{line_left, left-none, left-head, left-partly}
use Rattle.listing.proofs.WriterRan.{waits, Ran, DrawOut, all-out, one_out, draw-out}
use Rattle.listing.proofs.WriterTakes.{set-up-passes}

-- ---- what is reached
-- a map that a listing takes
pub record ShapeIn (W H L : ℕ) : Type 0 where
  pub some-columns : 1 ≤ W
  pub columns : W ≤ max_picture_width
  pub some-rows : 1 ≤ H
  pub rows : H ≤ max_height
  pub some-levels : 1 ≤ L
  pub levels : L ≤ max_levels

pub set-up-in : (n : ℕ) {W H L : ℕ} → map_store ≤ n → ShapeIn W H L → set_up_question 0 (side 0 W) L n ≡ 0
set-up-in n {W} {H} {L} h b = set-up-passes W L n h b.some-columns b.columns b.some-levels b.levels

-- the input after hs of c heights, and a refusal (its number, or 0) or the finish (f)
pub data InputAt (i : Input) (c : ℕ) (hs : List ℕ) (number : ℕ) (f : Bool) : Type 0 where
  reads : number ≡ 0 → f ≡ false → i.phase ≡ 3 → i.left + length hs ≡ c → InputAt i c hs number f
  shut : 3 < i.phase → length hs ≤ c → (f ≡ true → length hs ≡ c) → InputAt i c hs number f

-- what is left of the line
abbrev pub left_to : ℕ → State → List ℕ
left_to k s = line_left k s.row (line_on s)

-- writer, store and line: what is written and what is left of the line are the lines of the rows drawn
pub record Begun (n k W H L : ℕ) (hs : List ℕ) (number : ℕ) (f : Bool) (o : List ℕ) (s : State) : Type 0 where
  pub drawn : List DrawnRow
  pub ran : Ran W L n hs f drawn s.listing.writer s.store
  pub text : o ++ left_to k s ≡ (size_line W H L ++ drawn_text drawn) ++ answer_line number
  -- a row is drawn once the row before it is written
  pub idle : (line_on s).part < 3 → waits W L hs f drawn ≡ []
  pub last : 0 < number → (line_on s).part < 3
  pub room : 3 ≤ (line_on s).part → (line_on s).length ≤ k

abbrev pub events_of : ℕ → ℕ → ℕ → List ℕ → ℕ → List Event
events_of W H L hs number = begins (record { width = W; height = H; levels = L }) ∷ (map height hs ++ answer_events number)

pub data Reached (n k : ℕ) (E : List Event) (f : Bool) (o : List ℕ) (s : State) : Type 0 where
  quiet : E ≡ [] → f ≡ false → s.listing.input.phase < 3 → Idle s → o ≡ [] → Reached n k E f o s
  refused : (q : ℕ) → E ≡ refusal q ∷ [] → f ≡ false → 3 < s.listing.input.phase → (line_on s).part < 3 → o ++ left_to k s ≡ refused_line q → Reached n k E f o s
  begun : (W H L : ℕ) (hs : List ℕ) (number : ℕ) → E ≡ events_of W H L hs number → ShapeIn W H L → All (λ h. h ≤ max_sample) hs
      → InputAt s.listing.input (W * H) hs number f → Begun n k W H L hs number f o s → Reached n k E f o s

-- ---- a part of the line is written, not to its end
module _ (n k : ℕ) (s : State) (m : ℕ) (p : 0 < (line_on s).part) (h : m < length (left_on k s)) where
  partly-text : (o : List ℕ) → (o ++ take m (left_on k s)) ++ left_to k (written_on k m s) ≡ o ++ left_to k s
  partly-text o = append_assoc o (take m (left_on k s)) (left_to k (written_on k m s)) ∙ ap (λ y. o ++ y) (sym (left-partly k s.row (line_on s) m p h))

  pub partly-reached : {E : List Event} {f : Bool} {o : List ℕ} → Reached n k E f o s → Reached n k E f (o ++ take m (left_on k s)) (written_on k m s)
  partly-reached (quiet a b c d e) = absurd (omega arith)
  partly-reached {o = o} (refused q a b c d e) = refused q a b c d (partly-text o ∙ e)
  partly-reached {o = o} (begun W H L hs number a b c d e) =
      begun W H L hs number a b c d (record { drawn = e.drawn; ran = e.ran; text = partly-text o ∙ e.text; idle = e.idle; last = e.last; room = e.room })

-- ---- a draw, no line being written
drawn-more : (ds : List DrawnRow) (d : DrawnRow) → drawn_text (ds ++ (d ∷ [])) ≡ drawn_text ds ++ drawn_line d
unfolding drawn_text
drawn-more [] d = append-nil (drawn_line d)
drawn-more (c ∷ ds) d = ap (λ l. drawn_line c ++ l) (drawn-more ds d) ∙ sym (append_assoc (drawn_line c) (drawn_text ds) (drawn_line d))

row_line : (k : ℕ) (y : Memory) (b : BandRow) → line_left k y (head_part b.level b.band b.row b.length) ≡ drawn_line (record { row = b; values = y })
unfolding drawn_line
row_line k y b = left-head k y b.level b.band b.row b.length

module _ (n k W H L : ℕ) (s : set_up_question 0 (side 0 W) L n ≡ 0) (wide : W ≤ k) (i : Input) (w : Writer) (x z : Memory) where
  -- the input stays: the writer does not refuse
  pub drawn-input : (hs : List ℕ) (f : Bool) (ds : List DrawnRow) → Ran W L n hs f ds w x → (draw_state n k i w x z).listing.input ≡ i
  unfolding draw_state
  drawn-input hs f ds r = go (draw_reply w n k x) (draw-out W L n hs f ds w x r k z s wide)
    where
      go : (a : Reply Handed) → DrawOut W L n hs f ds w x r k z a → (drawn_to i w a).input ≡ i
      go a (all-out p q) = refl
      go a (one_out b u p q) = refl

  pub draw-begun : (hs : List ℕ) (f : Bool) (o : List ℕ) (ds : List DrawnRow) → Ran W L n hs f ds w x → o ≡ size_line W H L ++ drawn_text ds
      → Begun n k W H L hs 0 f o (draw_state n k i w x z)
  unfolding draw_state
  draw-begun hs f o ds r e = go (draw_reply w n k x) (draw-out W L n hs f ds w x r k z s wide)
    where
      y : Memory
      y = draw_area w n k x z

      go : (a : Reply Handed) → DrawOut W L n hs f ds w x r k z a → Begun n k W H L hs 0 f o (state_of (drawn_to i w a) (draw_store w n k x) y)
      go a (all-out p q) = record {
        drawn = ds;
        ran = q;
        text = ap (λ l. o ++ l) (left-none k y no_line refl) ∙ append-nil o ∙ e ∙ sym (append-nil _);
        idle = λ _. p;
        last = λ _. omega arith;
        room = λ _. omega arith;
      }
      go a (one_out b u p q) = record {
        drawn = ds ++ (d ∷ []);
        ran = q;
        text =
            ap₂ ◌++◌ e (row_line k y b)
            ∙ append_assoc (size_line W H L) (drawn_text ds) (drawn_line d)
            ∙ ap (λ l. size_line W H L ++ l) (sym (drawn-more ds d))
            ∙ sym (append-nil _);
        idle = λ h. absurd (omega arith);
        last = λ h. absurd (omega arith);
        room = λ _. p;
      }
        where
          d : DrawnRow
          d = record { row = b; values = y }
