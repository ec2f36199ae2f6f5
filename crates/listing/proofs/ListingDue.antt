-- The bytes that a listing has written, from what it has reached: while no line is being written they are the text due (`reached-due`), and always
-- its beginning (`reached-prefix`). Assumes nothing.
use mathlib.Core.Path.{◌≡◌, sym, ap, subst, ◌∙◌}
use mathlib.Core.Bool.{Bool, true}
use mathlib.Core.List.{List, [], ◌++◌, append_assoc, append-nil}
use Prim.Native.Nat.{ℕ, zero, suc, ◌*◌, ◌≤◌, ◌<◌}
use native.Mathlib.Omega.{arith}
use lib.ListN.{length}
use Rattle.lifting.specs.Grid.{side}
use Rattle.calls.specs.Lists.{All}
use Rattle.level.specs.Level.{Memory}
use Rattle.writer.specs.History.{DrawnRow, events, fresh_world, finished_by}
use Rattle.writer.specs.declared.Writer.{Writer}
use Rattle.text.specs.Refusal.{answer_line}
use Rattle.wavelet.specs.Limits.{max_sample}
use Rattle.listing.specs.Lines.{size_line}
use Rattle.listing.specs.Listing.{Shape, lines_due}
use Rattle.listing.specs.States.{map_store, State}
use Rattle.listing.specs.Moves.{line_on, Idle}
use Rattle.listing.specs.Events.{Event}
use Rattle.pgm.specs.declared.input.Input.{Input}
use Rattle.listing.proofs.DrawnText.{drawn_text, text_of}
use Rattle.listing.proofs.DrawnLines.{lines-prefix, lines-due}
use Rattle.listing.proofs.EventText.{text-of}
use Rattle.listing.proofs.WriterRan.{waits, Ran, waiting-is}
use Rattle.listing.proofs.ListingReached.{ShapeIn, InputAt, reads, shut, left_to, Begun, Reached, quiet, refused, begun, set-up-in}
use Rattle.listing.proofs.ListingOffers.{idle-text}
use Rattle.listing.proofs.ListingReads.{differ}

-- as many heights as the map has at most, and once finished as many
module _ {i : Input} {c : ℕ} {hs : List ℕ} {number : ℕ} {f : Bool} where
  heights-in : InputAt i c hs number f → length hs ≤ c
  heights-in (reads a b p e) = omega arith
  heights-in (shut p h g) = h

  heights-all : InputAt i c hs number f → f ≡ true → length hs ≡ c
  heights-all (reads a b p e) z = absurd (differ (sym b ∙ z))
  heights-all (shut p h g) z = g z

module _ (n : ℕ) (store : map_store ≤ n) (W H L : ℕ) (hs : List ℕ) (f : Bool) (ds : List DrawnRow) (w : Writer) (x : Memory)
    (b : ShapeIn W H L)
    (small : All (λ h. h ≤ max_sample) hs) (few : length hs ≤ W * H) (all : f ≡ true → length hs ≡ W * H) (r : Ran W L n hs f ds w x) where
  abbrev q : Shape
  q = record { width = W; height = H; levels = L }

  ran-due : waits W L hs f ds ≡ [] → size_line W H L ++ drawn_text ds ≡ lines_due q hs f
  ran-due e =
      ap (λ d. size_line W H L ++ drawn_text d) (sym r.rows)
      ∙ lines-due W L n r.before (set-up-in n store b) r.calls H b.some-rows b.rows (subst (All (λ h. h ≤ max_sample)) (sym r.heights) small)
      (rw r.heights few)
      (λ z. ap length r.heights ∙ all (sym r.ended ∙ z)) (waiting-is W L n hs f ds w x r ∙ e)
      ∙ ap (λ h. lines_due q h (finished_by (events r.calls (fresh_world 0 (side 0 W) 0 L n r.before)))) r.heights
      ∙ ap (lines_due q hs) r.ended

  ran-prefix : (t : List ℕ) × ((size_line W H L ++ drawn_text ds) ++ t ≡ lines_due q hs f)
  ran-prefix =
      let p =
      lines-prefix W L n r.before (set-up-in n store b) r.calls H b.some-rows b.rows (subst (All (λ h. h ≤ max_sample)) (sym r.heights) small)
      (rw r.heights few)
      (λ z. ap length r.heights ∙ all (sym r.ended ∙ z)) in (
        p.0,
        ap (λ d. (size_line W H L ++ drawn_text d) ++ p.0) (sym r.rows) ∙ p.1
            ∙ ap (λ h. lines_due q h (finished_by (events r.calls (fresh_world 0 (side 0 W) 0 L n r.before)))) r.heights
            ∙ ap (lines_due q hs) r.ended,
      )

module _ (n k : ℕ) (store : map_store ≤ n) (s : State) where
  -- nothing waits
  begun-due : (W H L : ℕ) (hs : List ℕ) (number : ℕ) (f : Bool) (o : List ℕ) → ShapeIn W H L → All (λ h. h ≤ max_sample) hs
      → InputAt s.listing.input (W * H) hs number f → Begun n k W H L hs number f o s → (line_on s).part < 3
      → o ++ left_to k s ≡ lines_due (record { width = W; height = H; levels = L }) hs f ++ answer_line number
  begun-due W H L hs number f o b c d e p =
      e.text ∙ ap (λ l. l ++ answer_line number)
      (ran-due n store W H L hs f e.drawn s.listing.writer s.store b c (heights-in d) (heights-all d) e.ran (e.idle p))

  begun-prefix : (W H L : ℕ) (hs : List ℕ) (number : ℕ) (f : Bool) (o : List ℕ) → ShapeIn W H L → All (λ h. h ≤ max_sample) hs
      → InputAt s.listing.input (W * H) hs number f → Begun n k W H L hs number f o s
      → (r : List ℕ) × (o ++ r ≡ lines_due (record { width = W; height = H; levels = L }) hs f ++ answer_line number)
  begun-prefix W H L hs (suc q) f o b c d e = (left_to k s, begun-due W H L hs (suc q) f o b c d e (e.last (omega arith)))
  begun-prefix W H L hs zero f o b c d e =
      let p = ran-prefix n store W H L hs f e.drawn s.listing.writer s.store b c (heights-in d) (heights-all d) e.ran in (
        left_to k s ++ p.0,
        sym (append_assoc o (left_to k s) p.0) ∙ ap (λ l. l ++ p.0) (e.text ∙ append-nil (size_line W H L ++ drawn_text e.drawn))
            ∙ p.1 ∙ sym (append-nil _),
      )

  pub reached-due : {E : List Event} {f : Bool} {o : List ℕ} → Reached n k E f o s → Idle s → o ≡ text_of f E
  unfolding text_of
  reached-due {E} {f} {o} (quiet a b c d e) i = rw a e
  reached-due {E} {f} {o} (refused q a b c d e) i = rw a (idle-text k s o _ i e)
  reached-due {E} {f} {o} (begun W H L hs number a b c d e) i =
      rw a (idle-text k s o _ i (begun-due W H L hs number f o b c d e (omega arith))
      ∙ sym (text-of f (record { width = W; height = H; levels = L }) hs number))

  pub reached-prefix : {E : List Event} {f : Bool} {o : List ℕ} → Reached n k E f o s → (r : List ℕ) × (o ++ r ≡ text_of f E)
  unfolding text_of
  reached-prefix {E} {f} {o} (quiet a b c d e) = ([], rw a (append-nil o ∙ e))
  reached-prefix {E} {f} {o} (refused q a b c d e) = (left_to k s, rw a e)
  reached-prefix {E} {f} {o} (begun W H L hs number a b c d e) =
      rw a (let p = begun-prefix W H L hs number f o b c d e in (p.0, p.1 ∙ sym (text-of f (record { width = W; height = H; levels = L }) hs number)))
