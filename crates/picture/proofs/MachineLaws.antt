-- What a rewriting owes, as it reads and writes. Assumes nothing.
use mathlib.Core.Path.{◌≡◌, refl, sym, ap, subst, ◌∙◌}
use mathlib.Core.Bool.{Bool, true, false}
use mathlib.Core.List.{List, [], ◌∷◌, ◌++◌, append-nil, append_assoc}
use Prim.Native.Nat.{ℕ, zero, suc, ◌+◌, ◌≤◌, ◌<◌}
use native.Mathlib.Omega.{arith}
use lib.ListN.{length, take, drop, set, take-append-drop}
use lib.Seq.{drop-drop}
use borrow.Author.Tests.{eq-eqb, ne_eqb, le-ltb, lt-leb}
use Rattle.numbers.specs.Signal.{pick}
use Rattle.pgm.specs.InputSteps.{read_byte, input_ended}
use Rattle.picture.specs.Machine.{part_of, no_part, part_text, rewriting, moved, text_on, left_on, settled, done_on, row_part, begun_on, height_kept}
use Rattle.picture.specs.Machine.{Kept, step_to, byte_read, owed, end_to, end_of, Move, partly, wholly, reads}
use Rattle.text.specs.Moves.{Goes, stays, then}
use Rattle.pgm.specs.declared.input.Input.{Input}
use Rattle.pgm.specs.StepAnswer.{StepAnswer}
use Rattle.pgm.specs.StepAnswer as steps
use Rattle.pgm.specs.EndedAnswer.{EndedAnswer}
use Rattle.pgm.specs.EndedAnswer as ended
use Rattle.picture.specs.declared.parts.Part.{Part}
use Rattle.picture.specs.declared.rewriting.Rewriting.{Rewriting}

-- ---- the code's choices
module _ (r : Rewriting) (i : Input) (W H room : ℕ) where
  pub begun-room : (p : Part) → W ≤ room → p ≡ part_of 1 0 → rewriting i W H 0 p ≡ begun_on r i W H room
  unfolding begun_on
  begun-room p h g = rw (le-ltb room W h, g)

module _ (r : Rewriting) (i : Input) (v : ℕ) (z : List ℕ) where
  pub kept-some : (p : Part) → r.filled < length z → p ≡ row_part (r.filled + 1) r.width
      → (moved r i (r.filled + 1) p ≡ (height_kept r i v z).state) × (set z r.filled v ≡ (height_kept r i v z).row)
  unfolding height_kept
  kept-some p h g = (rw (lt-leb (length z) r.filled h, g), rw (lt-leb (length z) r.filled h))

-- a row is written once it is whole, and nothing of a begun one is
pub row-whole : (f W : ℕ) → f ≡ W → part_of 2 0 ≡ row_part f W
unfolding row_part
row-whole f W e = subst (λ x. part_of 2 0 ≡ row_part x W) (sym e) (rw (eq-eqb W W refl))

pub row-begun : (f W : ℕ) → (f ≡ W → ⊥) → no_part ≡ row_part f W
unfolding row_part
row-begun f W d = sym (ap (λ t. pick t (part_of 2 0) no_part) (ne_eqb f W d))

pub ends_as : (r : Rewriting) (y : EndedAnswer) → r.part.kind ≡ 0 → y ≡ input_ended r.input → end_to r y ≡ end_of r
unfolding end_of
ends_as r y d e = rw (eq-eqb r.part.kind 0 d) (ap (end_to r) e)

-- ---- what is owed
drop-none : (n : ℕ) → drop {A = ℕ} n [] ≡ []
drop-none zero = refl
drop-none (suc n) = refl

pub left-none : (r : Rewriting) (z : List ℕ) → r.part.kind ≡ 0 → left_on r z ≡ []
unfolding left_on part_text
left-none r z e =
    rw (ne_eqb r.part.kind 1 (λ d. omega arith), ne_eqb r.part.kind 2 (λ d. omega arith), ne_eqb r.part.kind 3 (λ d. omega arith))
    (drop-none r.part.done)

settled-twice : (r : Rewriting) → settled (settled r) ≡ settled r
unfolding settled
settled-twice r = refl

settled-none : (r : Rewriting) (z : List ℕ) → left_on (settled r) z ≡ []
settled-none r z = left-none (settled r) z (unfold settled in refl)

-- the part is written to its end
pub settle-owed : (e : Bool) (r : Rewriting) (z v : List ℕ) → owed e r z v ≡ left_on r z ++ owed e (settled r) z v
unfolding owed
settle-owed e r z [] =
    ap (λ l. left_on r z ++ l)
    (sym (ap (λ l. l ++ pick e (left_on (end_of (settled (settled r))) z) []) (settled-none r z)
    ∙ ap (λ s. pick e (left_on (end_of s) z) []) (settled-twice r)))
settle-owed e r z (b ∷ v) =
    ap (λ l. left_on r z ++ l)
    (sym (ap (λ l. l ++ owed e (byte_read (settled (settled r)) z b).state (byte_read (settled (settled r)) z b).row v) (settled-none r z)
    ∙ ap (λ s. owed e (byte_read s z b).state (byte_read s z b).row v) (settled-twice r)))

-- n bytes of it are
left-done : (r : Rewriting) (z : List ℕ) (n : ℕ) → left_on r z ≡ take n (left_on r z) ++ left_on (done_on (r.part.done + n) r) z
unfolding left_on part_text
left-done r z n =
    sym (take-append-drop n (drop r.part.done (text_on r z)))
    ∙ ap (λ l. take n (drop r.part.done (text_on r z)) ++ l) (drop-drop n r.part.done (text_on r z))

settled-done : (r : Rewriting) (d : ℕ) → settled (done_on d r) ≡ settled r
unfolding settled
settled-done r d = refl

pub write-owed : (e : Bool) (r : Rewriting) (z : List ℕ) (n : ℕ) (v : List ℕ)
    → owed e r z v ≡ take n (left_on r z) ++ owed e (done_on (r.part.done + n) r) z v
write-owed e r z n v =
    let q : Rewriting = done_on (r.part.done + n) r in
    settle-owed e r z v
    ∙ ap (λ l. l ++ owed e (settled r) z v) (left-done r z n)
    ∙ append_assoc (take n (left_on r z)) (left_on q z) (owed e (settled r) z v)
    ∙ ap (λ l. take n (left_on r z) ++ l) (ap (λ s. left_on q z ++ owed e s z v) (sym (settled-done r (r.part.done + n))) ∙ sym (settle-owed e q z v))

end-settled : (r : Rewriting) → r.part.kind ≡ 0 → end_of (settled r) ≡ end_of r
unfolding end_of settled
end-settled r k = rw (eq-eqb r.part.kind 0 k, ne_eqb r.part.kind 2 (λ d. omega arith)) (same (input_ended r.input))
  where
    same : (y : EndedAnswer) → end_to (moved r r.input r.filled no_part) y ≡ end_to r y
    same (ended.Whole i) = refl
    same (ended.No15 i) = refl
    same ended.Before = refl

-- a byte is read
read-settled : (r : Rewriting) (z : List ℕ) (b : ℕ) → r.part.kind ≡ 0 → byte_read (settled r) z b ≡ byte_read r z b
unfolding byte_read settled begun_on height_kept
read-settled r z b e = rw (ne_eqb r.part.kind 2 (λ d. omega arith)) (same (read_byte 0 r.input b))
  where
    same : (y : StepAnswer) → step_to (moved r r.input r.filled no_part) z y ≡ step_to r z y
    same (steps.More i) = refl
    same (steps.Begun i W H) = refl
    same (steps.Height i v) = refl
    same (steps.No i q) = refl

pub read-owed : (e : Bool) (r : Rewriting) (z : List ℕ) (b : ℕ) (v : List ℕ) → r.part.kind ≡ 0
    → owed e r z (b ∷ v) ≡ owed e (byte_read r z b).state (byte_read r z b).row v
unfolding owed
read-owed e r z b v k =
    ap (λ l. l ++ owed e (byte_read (settled r) z b).state (byte_read (settled r) z b).row v) (left-none r z k)
    ∙ ap (λ k. owed e k.state k.row v) (read-settled r z b k)

-- the input ends while nothing is being written: what is owed is what its end brings
pub end-owed : (r : Rewriting) (z : List ℕ) → r.part.kind ≡ 0 → owed true r z [] ≡ owed false (end_of r) z []
unfolding owed
end-owed r z k =
    ap (λ l. l ++ left_on (end_of (settled r)) z) (left-none r z k)
    ∙ ap (λ s. left_on s z) (end-settled r k)
    ∙ sym (append-nil (left_on (end_of r) z))

-- and where nothing is being written, nothing is owed
pub idle-owed : (r : Rewriting) (z : List ℕ) → r.part.kind ≡ 0 → owed false r z [] ≡ []
unfolding owed
idle-owed r z k = append-nil (left_on r z) ∙ left-none r z k

-- ---- moves: what was owed is what they write and what is owed then
move-owed : {s s' : Kept} {u t : List ℕ} → Move s u t s' → (e : Bool) (v : List ℕ)
    → owed e s.state s.row (u ++ v) ≡ t ++ owed e s'.state s'.row v
move-owed {s} (partly m h g eu et es) e v = rw (eu, et, es) (write-owed e s.state s.row m v)
move-owed {s} (wholly h eu et es) e v = rw (eu, et, es) (settle-owed e s.state s.row v)
move-owed {s} (reads b h eu et es) e v = rw (eu, et, es) (read-owed e s.state s.row b v h)

pub goes-owed : {s s' : Kept} {u t : List ℕ} → Goes Move s u t s' → (e : Bool) (v : List ℕ)
    → owed e s.state s.row (u ++ v) ≡ t ++ owed e s'.state s'.row v
goes-owed (stays s) e v = refl
goes-owed {s} {s'} (then {u = u} {v = w} {t = t} {w = x} g m) e v =
    ap (owed e s.state s.row) (append_assoc u w v)
    ∙ goes-owed g e (w ++ v)
    ∙ ap (λ l. t ++ l) (move-owed m e v)
    ∙ sym (append_assoc t x (owed e s'.state s'.row v))
