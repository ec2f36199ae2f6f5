-- The end of the input, no line being written: what a listing has reached then (`end-reached`). Assumes nothing.
use mathlib.Core.Path.{◌≡◌, refl, sym, ap, subst, ◌∙◌}
use mathlib.Core.Bool.{true, false}
use mathlib.Core.List.{List, [], ◌∷◌, ◌++◌, append-nil}
use Prim.Native.Nat.{ℕ, ◌+◌, ◌*◌, ◌≤◌, ◌<◌}
use native.Mathlib.Omega.{arith}
use native.Mathlib.Decide.{dec_lt}
use lib.ListN.{length}
use borrow.Author.Tests.{le-ltb}
use Rattle.calls.specs.Lists.{All}
use Rattle.writer.specs.Calls.{finish_store}
use Rattle.writer.specs.declared.Writer.{Writer}
use Rattle.text.specs.Refusal.{refused_line}
use Rattle.pgm.specs.Limits.{max_picture_width}
use Rattle.wavelet.specs.Limits.{max_sample}
use Rattle.listing.specs.Listing.{Shape, lines_due}
use Rattle.pgm.specs.InputSteps.{phased, input_ended}
use Rattle.listing.specs.Parts.{refused_part}
use Rattle.listing.specs.States.{map_store, State, draw_state, finish_state, end_to, end_state}
use Rattle.listing.specs.Moves.{line_on, Idle}
use Rattle.listing.specs.Events.{Event, refusal, Ending, whole, few, over, ending_of}
use Rattle.pgm.specs.declared.input.Input.{Input}
use Rattle.pgm.specs.EndedAnswer.{EndedAnswer}
use Rattle.pgm.specs.EndedAnswer as ended
use Rattle.pgm.proofs.InputCases.{end-over, end-early, end-few, end_whole}
use Rattle.listing.proofs.DrawnText.{text_of}
use Rattle.listing.proofs.EventText.{text-of}
use Rattle.listing.proofs.LineLeft.{line_left, left-refused}
use Rattle.listing.proofs.StepHow.{Sane, phased-sane}
use Rattle.listing.proofs.WriterTakes.{FinishOut, finish-out}
use Rattle.listing.proofs.ListingReached.{ShapeIn, reads, shut, Begun, events_of, Reached, quiet, refused, begun, set-up-in, drawn-input, draw-begun}
use Rattle.listing.proofs.ListingOffers.{idle-text, then-refused, turned-begun}
use Rattle.listing.proofs.ListingReads.{differ}

-- the events E came, and then the end: all heights came, too few did, or a question had said no
pub data EndReached (n k : ℕ) (E : List Event) (o : List ℕ) (s : State) : Ending → Type 0 where
  all-came : Reached n k E true o s → EndReached n k E o s whole
  few-came : Reached n k (E ++ (refusal 15 ∷ [])) false o s → text_of false (E ++ (refusal 15 ∷ [])) ≡ text_of false E ++ refused_line 15
      → EndReached n k E o s few
  was-over : Reached n k E false o s → EndReached n k E o s over

pub record EndOut (n k : ℕ) (E : List Event) (o : List ℕ) (s : State) (y : Ending) : Type 0 where
  pub reached : EndReached n k E o s y
  pub sane : Sane s.listing.input
  pub after-refusal : 3 < s.listing.input.phase

-- a refusal after heights, and before the head
refusal-text : (W H L : ℕ) (hs : List ℕ) → text_of false (events_of W H L hs 0 ++ (refusal 15 ∷ [])) ≡ text_of false (events_of W H L hs 0) ++ refused_line 15
refusal-text W H L hs =
    let q : Shape = record { width = W; height = H; levels = L } in
    ap (text_of false) (then-refused W H L hs 15 (omega arith))
    ∙ text-of false q hs 15
    ∙ ap (λ l. l ++ refused_line 15) (sym (append-nil (lines_due q hs false)) ∙ sym (text-of false q hs 0))

refusal-first : text_of false (refusal 15 ∷ []) ≡ text_of false [] ++ refused_line 15
unfolding text_of
refusal-first = refl

module _ (n k : ℕ) (store : map_store ≤ n) (row : max_picture_width ≤ k) (s : State) (idle : Idle s) (sane : Sane s.listing.input) where
  abbrev i : Input
  i = s.listing.input

  abbrev w : Writer
  w = s.listing.writer

  abbrev Ends : List Event → List ℕ → Type 0
  Ends E o = EndOut n k E o (end_state n k s) (ending_of (input_ended i))

  end_is : end_state n k s ≡ end_to n k s (input_ended i)
  unfolding end_state
  end_is = rw (le-ltb 0 (line_on s).part (omega arith))

  by : (E : List Event) (o : List ℕ) (y : EndedAnswer) → y ≡ input_ended i → EndOut n k E o (end_to n k s y) (ending_of y) → Ends E o
  by E o y e d = subst (λ t. EndOut n k E o t (ending_of (input_ended i))) (sym end_is) (subst (λ y. EndOut n k E o (end_to n k s y) (ending_of y)) e d)

  -- ---- all heights came: the finish
  module _ (W H L : ℕ) (hs : List ℕ) (o : List ℕ) (b : ShapeIn W H L) (e : Begun n k W H L hs 0 false o s) (whole : length hs ≡ W * H) (j : Input) where
    out : FinishOut W L n (set-up-in n store b) hs e.drawn w s.store e.ran (e.idle (omega arith))
    out = finish-out W L n (set-up-in n store b) hs e.drawn w s.store e.ran (e.idle (omega arith)) H b.some-columns b.some-rows whole

    finish-is : finish_state n k j w s.store s.row ≡ draw_state n k j out.writer (finish_store w n s.store) s.row
    unfolding finish_state
    finish-is = rw out.reply refl

    finish-begun : Begun n k W H L hs 0 true o (finish_state n k j w s.store s.row)
    finish-begun =
        subst (Begun n k W H L hs 0 true o) (sym finish-is)
        (draw-begun n k W H L (set-up-in n store b) (omega (arith, b.columns)) j out.writer (finish_store w n s.store) s.row hs true o e.drawn
        out.ran
        (idle-text k s o _ idle e.text ∙ append-nil _))

    finish-input : (finish_state n k j w s.store s.row).listing.input ≡ j
    finish-input =
        ap (λ t. t.listing.input) finish-is ∙ drawn-input n k W H L (set-up-in n store b) (omega (arith, b.columns)) j out.writer
        (finish_store w n s.store) s.row hs true e.drawn out.ran

  -- ---- the cases
  reads_end : (E : List Event) (W H L : ℕ) (hs : List ℕ) (o : List ℕ) → E ≡ events_of W H L hs 0 → ShapeIn W H L → All (λ h. h ≤ max_sample) hs
      → Begun n k W H L hs 0 false o s
      → i.phase ≡ 3 → i.left + length hs ≡ W * H → Ends E o
  reads_end E W H L hs o a b c e p l =
      elim (dec_lt 0 i.left) [
        | yes q ↦
            by E o (ended.No15 (phased 4 i)) (end-few i (omega arith) (omega arith) q)
            (record {
              reached =
                  few-came (begun W H L hs 15 (ap (λ l. l ++ (refusal 15 ∷ [])) a ∙ then-refused W H L hs 15 (omega arith)) b c
                  (shut (omega arith) (omega arith) (λ z. absurd (differ z)))
                  (turned-begun n k W H L hs false o s (phased 4 i) 15 (omega arith) idle e)) (rw a (refusal-text W H L hs));
              sane = phased-sane i sane;
              after-refusal = omega arith;
            })
        | no q ↦
            let g : length hs ≡ W * H = omega arith in
            let d = finish-input W H L hs o b e g (phased 4 i) in
            by E o (ended.Whole (phased 4 i)) (end_whole i (omega arith) (omega arith) (omega arith))
            (record {
              reached =
                  all-came (begun W H L hs 0 a b c (shut (subst (λ j. 3 < j.phase) (sym d) (omega arith)) (omega arith) (λ _. g))
                  (finish-begun W H L hs o b e g (phased 4 i)));
              sane = subst Sane (sym d) (phased-sane i sane);
              after-refusal = subst (λ j. 3 < j.phase) (sym d) (omega arith);
            })
      ]

  pub end-reached : {E : List Event} {o : List ℕ} → Reached n k E false o s → Ends E o
  end-reached {E} {o} (quiet a b c d e) =
      by E o (ended.No15 (phased 4 i)) (end-early i c)
      (record {
        reached =
            few-came (refused 15 (ap (λ l. l ++ (refusal 15 ∷ [])) a) refl (omega arith) (omega arith)
            (ap (λ l. l ++ line_left k s.row (refused_part 15)) e ∙ left-refused k s.row 15)) (rw a refusal-first);
        sane = phased-sane i sane;
        after-refusal = omega arith;
      })
  end-reached {E} {o} (refused q a b c d e) =
      by E o ended.Before (end-over i c) (record { reached = was-over (refused q a b c d e); sane = sane; after-refusal = c })
  end-reached {E} {o} (begun W H L hs number a b c (shut d g h) e) =
      by E o ended.Before (end-over i d) (record { reached = was-over (begun W H L hs number a b c (shut d g h) e); sane = sane; after-refusal = d })
  end-reached {E} {o} (begun W H L hs number a b c (reads d g j l) e) =
      reads_end E W H L hs o (a ∙ ap (events_of W H L hs) d) b c (subst (λ r. Begun n k W H L hs r false o s) d e) j l
