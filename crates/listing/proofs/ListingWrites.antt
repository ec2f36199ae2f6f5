-- A part of a line is written to its end, and what comes after it: `wholly-reached`. Assumes nothing.
use mathlib.Core.Path.{◌≡◌, refl, sym, ap, subst, ◌∙◌}
use mathlib.Core.Bool.{Bool}
use mathlib.Core.List.{List, ◌++◌, append_assoc, append-nil}
use Prim.Native.Nat.{ℕ, zero, suc, ◌+◌, ◌*◌, ◌≤◌, ◌<◌}
use native.Mathlib.Omega.{arith}
use native.Mathlib.Decide.{dec_lt, ℕ_discrete}
use borrow.Author.Tests.{lt-ltb, le-ltb, eq-eqb, ne_eqb}
use Rattle.lifting.specs.Grid.{side}
use Rattle.writer.specs.Questions.{set_up_question}
use Rattle.text.specs.Refusal.{answer_line}
use Rattle.pgm.specs.Limits.{max_picture_width}
use Rattle.listing.specs.Lines.{size_line}
use Rattle.listing.specs.Parts.{no_line}
use Rattle.listing.specs.States.{map_store, State, state_of, listed, draw_state, value_part, advance_state}
use Rattle.listing.specs.Moves.{line_on, left_on}
use Rattle.listing.specs.Events.{Event}
use Rattle.listing.specs.declared.line.Line.{Line}
use Rattle.listing.proofs.DrawnText.{drawn_text}
use Rattle.listing.proofs.LineLeft.{left-none, left-short, left-past-head, left-past-value, left-past-end}
use Rattle.listing.proofs.ListingReached.{InputAt, left_to, Begun, Reached, quiet, refused, begun, set-up-in, drawn-input, draw-begun}

-- ---- a part is written to its end
module _ (n k : ℕ) (s : State) where
  abbrev l : Line
  l = line_on s

  -- the same with another line
  abbrev on_line : Line → State
  on_line m = state_of (listed s.listing.input s.listing.writer m) s.store s.row

  to_none : l.part < 3 → advance_state n k s ≡ on_line no_line
  unfolding advance_state
  to_none h = rw (lt-ltb l.part 3 h)

  to_values : l.part ≡ 3 → advance_state n k s ≡ on_line (value_part l 0)
  unfolding advance_state
  to_values h = rw (le-ltb l.part 3 (omega arith), eq-eqb l.part 3 h)

  module _ (g : 3 ≤ l.part) (d : l.part ≡ 3 → ⊥) where
    to-next : l.value < l.length → advance_state n k s ≡ on_line (value_part l (l.value + 1))
    unfolding advance_state
    to-next h = rw (le-ltb l.part 3 g, ne_eqb l.part 3 d, lt-ltb l.value l.length h)

    to-draw : l.length ≤ l.value → advance_state n k s ≡ draw_state n k s.listing.input s.listing.writer s.store s.row
    unfolding advance_state
    to-draw h = rw (le-ltb l.part 3 g, ne_eqb l.part 3 d, le-ltb l.value l.length h)

  -- what was left of the line is the part and what is left then
  module _ (o : List ℕ) {t : List ℕ} where
    moved : (m : Line) → left_to k s ≡ left_on k s ++ left_to k (on_line m) → o ++ left_to k s ≡ t → (o ++ left_on k s) ++ left_to k (on_line m) ≡ t
    moved m e f = append_assoc o (left_on k s) (left_to k (on_line m)) ∙ ap (λ y. o ++ y) (sym e) ∙ f

    short-moved : 0 < l.part → l.part < 3 → o ++ left_to k s ≡ t → (o ++ left_on k s) ++ left_to k (on_line no_line) ≡ t
    short-moved p h =
        moved no_line (left-short k s.row l p h ∙ sym (append-nil (left_on k s)) ∙ ap (λ y. left_on k s ++ y) (sym (left-none k s.row no_line refl)))

  values-begun : {W H L : ℕ} {hs : List ℕ} {number : ℕ} {f : Bool} {o : List ℕ} → Begun n k W H L hs number f o s → 3 ≤ l.part → (v : ℕ)
      → left_to k s ≡ left_on k s ++ left_to k (on_line (value_part l v))
      → Begun n k W H L hs number f (o ++ left_on k s) (on_line (value_part l v))
  values-begun {o = o} e g v q = record {
    drawn = e.drawn;
    ran = e.ran;
    text = moved o (value_part l v) q e.text;
    idle = λ h. absurd (omega arith);
    last = λ h. absurd (omega (arith, e.last h));
    room = λ _. e.room g;
  }

  module _ {W H L : ℕ} {hs : List ℕ} {number : ℕ} {f : Bool} {o : List ℕ} (q : set_up_question 0 (side 0 W) L n ≡ 0) (wide : W ≤ k)
      (e : Begun n k W H L hs number f o s) (p : 0 < l.part) where
    not-refused : 3 ≤ l.part → number ≡ 0
    not-refused g = go number e.last
      where
        go : (b : ℕ) → (0 < b → l.part < 3) → b ≡ 0
        go zero h = refl
        go (suc b) h = absurd (omega (arith, h (omega arith)))

    ended-begun : 3 ≤ l.part → (l.part ≡ 3 → ⊥) → l.length ≤ l.value
        → Begun n k W H L hs number f (o ++ left_on k s) (draw_state n k s.listing.input s.listing.writer s.store s.row)
    ended-begun g d h =
        subst (λ b. Begun n k W H L hs b f (o ++ left_on k s) (draw_state n k s.listing.input s.listing.writer s.store s.row)) (sym (not-refused g))
        (draw-begun n k W H L q wide s.listing.input s.listing.writer s.store s.row hs f (o ++ left_on k s) e.drawn e.ran
        (ap (λ y. o ++ y) (sym (left-past-end k s.row l g d h)) ∙ e.text
        ∙ ap (λ b. (size_line W H L ++ drawn_text e.drawn) ++ answer_line b) (not-refused g) ∙ append-nil _))

    wholly-begun : Begun n k W H L hs number f (o ++ left_on k s) (advance_state n k s)
    wholly-begun =
        elim (dec_lt l.part 3) [
          | yes h ↦ subst (Begun n k W H L hs number f (o ++ left_on k s)) (sym (to_none h))
              (record {
                drawn = e.drawn;
                ran = e.ran;
                text = short-moved o p h e.text;
                idle = λ _. e.idle h;
                last = λ _. omega arith;
                room = λ _. omega arith;
              })
          | no g ↦ elim (ℕ_discrete l.part 3) [
            | yes h ↦
                subst (Begun n k W H L hs number f (o ++ left_on k s)) (sym (to_values h))
                (values-begun {o = o} e (omega arith) 0 (left-past-head k s.row l h (e.room (omega arith))))
            | no d ↦ elim (dec_lt l.value l.length) [
              | yes h ↦ subst (Begun n k W H L hs number f (o ++ left_on k s)) (sym (to-next (omega arith) d h))
                  (values-begun {o = o} e (omega arith) (l.value + 1) (left-past-value k s.row l (omega arith) d h (e.room (omega arith))))
              | no h ↦
                  subst (Begun n k W H L hs number f (o ++ left_on k s)) (sym (to-draw (omega arith) d (omega arith)))
                  (ended-begun (omega arith) d (omega arith))
            ]
          ]
        ]

    wholly-input : (advance_state n k s).listing.input ≡ s.listing.input
    wholly-input =
        elim (dec_lt l.part 3) [
          | yes h ↦ ap (λ y. y.listing.input) (to_none h)
          | no g ↦ elim (ℕ_discrete l.part 3) [
            | yes h ↦ ap (λ y. y.listing.input) (to_values h)
            | no d ↦ elim (dec_lt l.value l.length) [
              | yes h ↦ ap (λ y. y.listing.input) (to-next (omega arith) d h)
              | no h ↦
                  ap (λ y. y.listing.input) (to-draw (omega arith) d (omega arith))
                  ∙ drawn-input n k W H L q wide s.listing.input s.listing.writer s.store s.row hs f e.drawn e.ran
            ]
          ]
        ]

  pub wholly-reached : map_store ≤ n → max_picture_width ≤ k → 0 < l.part → {E : List Event} {f : Bool} {o : List ℕ}
      → Reached n k E f o s → Reached n k E f (o ++ left_on k s) (advance_state n k s)
  wholly-reached store row p (quiet a b c d e) = absurd (omega arith)
  wholly-reached store row p {E} {f} {o} (refused q a b c d e) =
      subst (Reached n k E f (o ++ left_on k s)) (sym (to_none d)) (refused q a b c (omega arith) (short-moved o p d e))
  wholly-reached store row p {E} {f} {o} (begun W H L hs number a b c d e) =
      begun W H L hs number a b c (subst (λ y. InputAt y (W * H) hs number f) (sym (wholly-input (set-up-in n store b) (omega (arith, b.columns)) e p)) d)
      (wholly-begun (set-up-in n store b) (omega (arith, b.columns)) e p)

  pub reached-input : map_store ≤ n → max_picture_width ≤ k → 0 < l.part → {E : List Event} {f : Bool} {o : List ℕ}
      → Reached n k E f o s → (advance_state n k s).listing.input ≡ s.listing.input
  reached-input store row p (quiet a b c d e) = absurd (omega arith)
  reached-input store row p (refused q a b c d e) = ap (λ y. y.listing.input) (to_none d)
  reached-input store row p (begun W H L hs number a b c d e) = wholly-input (set-up-in n store b) (omega (arith, b.columns)) e p
