-- Reading a header a byte at a time gives what the definition reads (`reads`), however the bytes are cut into pieces (`cut-anywhere`).
-- The state keeps a number up to the one after the largest that a header may have; the definition keeps it whole. Assumes nothing.
use mathlib.Core.Path.{◌≡◌, refl, sym, ap, ◌∙◌}
use mathlib.Core.Bool.{Bool, true, false}
use mathlib.Core.List.{List, [], ◌∷◌, ◌++◌, append_assoc, append-nil}
use Prim.Native.Nat.{ℕ, suc, ◌+◌, ◌*◌, ◌≤◌, ◌<◌, min}
use native.Mathlib.Omega.{arith}
use native.Mathlib.Decide.{dec_lt}
use lib.Dec.{leb, eqb}
use borrow.Author.Tests.{lt-leb, le-leb, leb-true, ne_eqb}
use Rattle.numbers.specs.Signal.{pick, both}
use Rattle.pgm.specs.Characters.{space, line_end, digit, digit_value}
use Rattle.pgm.specs.Limits.{max_field, up_to}
use Rattle.pgm.specs.Header.{Read, found, short, wrong, and_then, is, one, comment, gap, after_gaps, number_from, number, field, Size, side, sized}
use Rattle.pgm.specs.Header.{header_end, header_of}
use Rattle.pgm.specs.Steps.{staged, begun, expected, gap_ended, gap_read, comment_read, number_ended, in_number, step_of, Fed, still, ended, bad}
use Rattle.pgm.specs.Steps.{stepped, feed, feed_on, joined, feed_pieces, read_by}
use Rattle.pgm.specs.declared.header.Header.{Header}
use Rattle.pgm.specs.NextAnswer.{NextAnswer}
use Rattle.pgm.specs.NextAnswer.{More, Done, No15}
use Rattle.pgm.proofs.LimitLaws.{up-to}

-- ---- what the state keeps of a number
abbrev cap : ℕ → ℕ
cap v = min v (suc max_field)

cap-digit : (v d : ℕ) → min (10 * cap v + d) (suc max_field) ≡ cap (10 * v + d)
cap-digit v d = omega arith

cap-small : (n : ℕ) → n < suc max_field → cap n ≡ n
cap-small n h = omega arith

cap-large : (n : ℕ) → suc max_field ≤ n → cap n ≡ suc max_field
cap-large n h = omega arith

side-cap : (n : ℕ) → side (cap n) ≡ side n
unfolding side up_to
side-cap n =
    elim (dec_lt n (suc max_field)) [
      | yes p ↦ rw (cap-small n p)
      | no d ↦
          let h : suc max_field ≤ n = omega arith in
          rw (
            cap-large n h,
            le-leb 1 n (omega arith),
            le-leb 1 (suc max_field) (omega arith),
            lt-leb n max_field (omega arith),
            lt-leb (suc max_field) max_field (omega arith),
          )
    ]

side-kept : (n : ℕ) → side n ≡ true → cap n ≡ n
unfolding side
side-kept n e = let h = (up-to max_field n e).1 in omega arith

-- ---- a digit is no byte of a gap
from-digit : (b : ℕ) → digit b ≡ true → 48 ≤ b
unfolding digit
from-digit b e = go (leb 48 b) refl e
  where
    go : (a : Bool) → leb 48 b ≡ a → both a (leb b 57) ≡ true → 48 ≤ b
    go true p h = leb-true 48 b p
    go false p h = let z : ◌≡◌ {A = ℕ} 0 1 = cc in absurd (omega arith)

no-space : (b : ℕ) → 48 ≤ b → space b ≡ false
unfolding space
no-space b h = rw (ne_eqb b 32 (λ e. omega arith), ne_eqb b 9 (λ e. omega arith), ne_eqb b 13 (λ e. omega arith), ne_eqb b 10 (λ e. omega arith))

no-mark : (b : ℕ) → 48 ≤ b → eqb b 35 ≡ false
no-mark b h = ne_eqb b 35 (λ e. omega arith)

-- ---- states and answers
-- the state that has read v of the number of stage k
abbrev kept : ℕ → Bool → ℕ → ℕ → ℕ → ℕ → Header
kept k any v w h m = record { stage = k; comment = false; any = any; number = cap v; width = cap w; height = cap h; largest = cap m }

-- what a step's answer and the bytes s after it come to
abbrev onward : NextAnswer → List ℕ → Read Size
onward x s = read_by (stepped (λ y. feed y s) s x)

-- first a gap, then more: a comment is read to its end
after-comment : (f : List ℕ → Read Size) → f [] ≡ short → (s : List ℕ) → and_then (comment s) (λ _ s. f (after_gaps false s)) ≡ f (after_gaps true s)
unfolding comment after_gaps
after-comment f e [] = sym e
after-comment f e (b ∷ s) = go (line_end b) (after-comment f e s)
  where
    go : (t : Bool) → and_then (comment s) (λ _ s. f (after_gaps false s)) ≡ f (after_gaps true s)
        → and_then (pick t (found b s) (comment s)) (λ _ s. f (after_gaps false s)) ≡ f (pick t (after_gaps false s) (after_gaps true s))
    go true h = refl
    go false h = h

-- ---- a number
-- At a stage whose number's end goes on as f, reading goes by the definition's number and then f.
module _ (k w h m : ℕ) (f : ℕ → List ℕ → Read Size)
    (late : (any : Bool) (v b : ℕ) → step_of (kept k any v w h m) b ≡ in_number (kept k any v w h m) b)
    (talks : (b : ℕ) → step_of (staged k true (cap w) (cap h) (cap m)) b ≡ comment_read (staged k true (cap w) (cap h) (cap m)) b)
    (stays : (c : Bool) → gap_ended (staged k c (cap w) (cap h) (cap m)) ≡ More (kept k false 0 w h m))
    (goes : (v b : ℕ) (s : List ℕ) → onward (gap_read (number_ended (kept k true v w h m)) b) s ≡ f v (b ∷ s)) where
  -- its digits
  digit-turn : (d : Bool) (v b : ℕ) (s : List ℕ) → digit b ≡ d
      → read_by (feed (kept k true (10 * v + digit_value b) w h m) s) ≡ and_then (number_from true (10 * v + digit_value b) s) f
      → onward (in_number (kept k true v w h m) b) s ≡ and_then (number_from true v (b ∷ s)) f
  unfolding in_number number_from
  digit-turn true v b s e r = rw (e, cap-digit) r
  digit-turn false v b s e r = rw e (goes v b s)

  digits : (v : ℕ) (s : List ℕ) → read_by (feed (kept k true v w h m) s) ≡ and_then (number_from true v s) f
  unfolding feed number_from
  digits v [] = refl
  digits v (b ∷ s) =
      ap (λ x. onward x s) (late true v b)
      ∙ digit-turn (digit b) v b s refl (digits (10 * v + digit_value b) s)

  -- the gaps before it
  abbrev Gaps : Bool → List ℕ → Type 0
  Gaps c s = read_by (feed (staged k c (cap w) (cap h) (cap m)) s) ≡ and_then (number (after_gaps c s)) f

  gap-turn : (d p q : Bool) (b : ℕ) (s : List ℕ) → digit b ≡ d → space b ≡ p → eqb b 35 ≡ q → Gaps true s → Gaps false s
      → onward (in_number (kept k false 0 w h m) b) s ≡ and_then (number (after_gaps false (b ∷ s))) f
  unfolding in_number after_gaps number_from gap_read max_field
  gap-turn true p q b s e x y t u =
      let l = from-digit b e in
      rw (no-space b l, no-mark b l, e) (ap (λ n. read_by
      (feed (record { stage = k; comment = false; any = true; number = n; width = cap w; height = cap h; largest = cap m }) s)) (cap-digit 0
      (digit_value b)) ∙ digits (10 * 0 + digit_value b) s)
  gap-turn false true q b s e x y t u = rw (e, x) (ap (λ z. onward z s) (stays false) ∙ u)
  gap-turn false false true b s e x y t u = rw (e, x, y) t
  gap-turn false false false b s e x y t u = rw (e, x, y, e)

  talk-turn : (t : Bool) (b : ℕ) (s : List ℕ) → line_end b ≡ t → Gaps true s → Gaps false s
      → onward (comment_read (staged k true (cap w) (cap h) (cap m)) b) s ≡ and_then (number (after_gaps true (b ∷ s))) f
  unfolding comment_read after_gaps max_field
  talk-turn true b s e t u = rw e (ap (λ z. onward z s) (stays true) ∙ u)
  talk-turn false b s e t u = rw e t

  gaps : (c : Bool) (s : List ℕ) → Gaps c s
  unfolding feed number_from after_gaps max_field
  gaps c [] = refl
  gaps true (b ∷ s) = ap (λ x. onward x s) (talks b) ∙ talk-turn (line_end b) b s refl (gaps true s) (gaps false s)
  gaps false (b ∷ s) =
      ap (λ x. onward x s) (late false 0 b)
      ∙ gap-turn (digit b) (space b) (eqb b 35) b s refl refl refl (gaps true s) (gaps false s)

  -- the first gap, the gaps after it, and the number
  entered : (p q : Bool) (b : ℕ) (s : List ℕ) → space b ≡ p → eqb b 35 ≡ q → onward (gap_read (kept k false 0 w h m) b) s ≡ and_then (field (b ∷ s)) f
  unfolding gap_read field gap number_from max_field
  entered true q b s x y = rw x (ap (λ z. onward z s) (stays false) ∙ gaps false s)
  entered false true b s x y = rw (x, y) (gaps true s ∙ sym (after-comment (λ s. and_then (number s) f) refl s) ∙ sym (then-on (comment s)))
    where
      then-on : (r : Read ℕ) → and_then (and_then r (λ _ s. number (after_gaps false s))) f ≡ and_then r (λ _ s. and_then (number (after_gaps false s)) f)
      then-on (found a s) = refl
      then-on short = refl
      then-on wrong = refl
  entered false false b s x y = rw (x, y)

  enters : (b : ℕ) (s : List ℕ) → onward (gap_read (kept k false 0 w h m) b) s ≡ and_then (field (b ∷ s)) f
  enters b s = entered (space b) (eqb b 35) b s refl refl

-- ---- the header's end
module _ (w h m : ℕ) where
  last : (c a b d : Bool) (s : List ℕ) → side w ≡ a → side h ≡ b → side m ≡ d → onward (gap_ended (staged 6 c (cap w) (cap h) (cap m))) s ≡ header_end w h m s
  unfolding gap_ended header_end sized
  last c true true true s p q r = rw (side-cap w, side-cap h, side-cap m, p, q, r, side-kept w p, side-kept h q, side-kept m r)
  last c true true false s p q r = rw (side-cap w, side-cap h, side-cap m, p, q, r)
  last c true false d s p q r = rw (side-cap w, side-cap h, p, q)
  last c false b d s p q r = rw (side-cap w, p)

  lastly : (c : Bool) (s : List ℕ) → onward (gap_ended (staged 6 c (cap w) (cap h) (cap m))) s ≡ header_end w h m s
  lastly c s = last c (side w) (side h) (side m) s refl refl refl

  abbrev ends : Read ℕ → Read Size
  ends r = and_then r λ _ s. header_end w h m s

  last_turn : (t : Bool) (b : ℕ) (s : List ℕ) → line_end b ≡ t → read_by (feed (staged 6 true (cap w) (cap h) (cap m)) s) ≡ ends (comment s)
      → onward (comment_read (staged 6 true (cap w) (cap h) (cap m)) b) s ≡ ends (comment (b ∷ s))
  unfolding comment_read comment
  last_turn true b s e u = rw e (lastly true s)
  last_turn false b s e u = rw e u

  last-comment : (s : List ℕ) → read_by (feed (staged 6 true (cap w) (cap h) (cap m)) s) ≡ ends (comment s)
  unfolding feed comment step_of
  last-comment [] = refl
  last-comment (b ∷ s) = last_turn (line_end b) b s refl (last-comment s)

  last-entered : (p q : Bool) (b : ℕ) (s : List ℕ) → space b ≡ p → eqb b 35 ≡ q
      → onward (gap_read (staged 6 false (cap w) (cap h) (cap m)) b) s ≡ ends (gap (b ∷ s))
  unfolding gap_read gap
  last-entered true q b s x y = rw x (lastly false s)
  last-entered false true b s x y = rw (x, y) (last-comment s)
  last-entered false false b s x y = rw (x, y)

  last-gap : (b : ℕ) (s : List ℕ) → onward (gap_read (staged 6 false (cap w) (cap h) (cap m)) b) s ≡ ends (gap (b ∷ s))
  last-gap b s = last-entered (space b) (eqb b 35) b s refl refl

-- ---- the three numbers
largest : (w h : ℕ) (b : ℕ) (s : List ℕ) → onward (gap_read (kept 5 false 0 w h 0) b) s ≡ and_then (field (b ∷ s)) λ m s. and_then (gap s) λ _ s. header_end w h m s
unfolding step_of gap_ended number_ended max_field
largest w h = enters 5 w h 0 _ (λ any v b. refl) (λ b. refl) (λ c. refl) (λ v b s. last-gap w h v b s)

height : (w : ℕ) (b : ℕ) (s : List ℕ) → onward (gap_read (kept 4 false 0 w 0 0) b) s
    ≡ and_then (field (b ∷ s)) λ h s. and_then (field s) λ m s. and_then (gap s) λ _ s. header_end w h m s
unfolding step_of gap_ended number_ended max_field
height w = enters 4 w 0 0 _ (λ any v b. refl) (λ b. refl) (λ c. refl) (λ v b s. largest w v b s)

width : (b : ℕ) (s : List ℕ) → onward (gap_read (begun 3) b) s
    ≡ and_then (field (b ∷ s)) λ w s. and_then (field s) λ h s. and_then (field s) λ m s. and_then (gap s) λ _ s. header_end w h m s
unfolding step_of gap_ended number_ended max_field
width = enters 3 0 0 0 _ (λ any v b. refl) (λ b. refl) (λ c. refl) (λ v b s. height v b s)

-- ---- before the numbers
module _ (k : ℕ) (p : ℕ → Bool) (f : List ℕ → Read Size)
    (early : (b : ℕ) → step_of (begun k) b ≡ expected (p b) (suc k))
    (goes : (s : List ℕ) → read_by (feed (begun (suc k)) s) ≡ f s) where
  marked : (t : Bool) (b : ℕ) (s : List ℕ) → p b ≡ t → onward (expected (p b) (suc k)) s ≡ and_then (one p (b ∷ s)) λ _ s. f s
  unfolding expected one
  marked true b s e = rw e (goes s)
  marked false b s e = rw e

  mark : (s : List ℕ) → read_by (feed (begun k) s) ≡ and_then (one p s) λ _ s. f s
  unfolding feed one
  mark [] = refl
  mark (b ∷ s) = ap (λ x. onward x s) (early b) ∙ marked (p b) b s refl

first-gap : (s : List ℕ) → read_by (feed (begun 2) s)
    ≡ and_then (field s) λ w s. and_then (field s) λ h s. and_then (field s) λ m s. and_then (gap s) λ _ s. header_end w h m s
unfolding feed step_of field gap
first-gap [] = refl
first-gap (b ∷ s) = width b s

-- a byte at a time, as the definition
pub reads : (s : List ℕ) → read_by (feed (begun 0) s) ≡ header_of s
unfolding step_of header_of
reads = mark 0 (is 80) _ (λ b. refl) (mark 1 (is 53) _ (λ b. refl) first-gap)

-- ---- cut anywhere
cut_step : (x : NextAnswer) (s t : List ℕ) → ((h : Header) → feed h (s ++ t) ≡ feed_on (feed h s) t)
    → stepped (λ h. feed h (s ++ t)) (s ++ t) x ≡ feed_on (stepped (λ h. feed h s) s x) t
unfolding feed_on
cut_step (More h) s t e = e h
cut_step (Done w n m) s t e = refl
cut_step No15 s t e = refl

pub cut : (s t : List ℕ) (h : Header) → feed h (s ++ t) ≡ feed_on (feed h s) t
unfolding feed feed_on
cut [] t h = refl
cut (b ∷ s) t h = cut_step (step_of h b) s t (cut s t)

pub cut_on : (f : Fed) (s t : List ℕ) → feed_on f (s ++ t) ≡ feed_on (feed_on f s) t
unfolding feed_on
cut_on (still h) s t = cut s t h
cut_on (ended w n m r) s t = ap (ended w n m) (sym (append_assoc r s t))
cut_on bad s t = refl

none : (f : Fed) → feed_on f [] ≡ f
unfolding feed_on feed
none (still h) = refl
none (ended w n m r) = ap (ended w n m) (append-nil r)
none bad = refl

in_pieces : (ps : List (List ℕ)) (f : Fed) → feed_pieces f ps ≡ feed_on f (joined ps)
unfolding feed_pieces
in_pieces [] f = sym (none f)
in_pieces (p ∷ ps) f = in_pieces ps (feed_on f p) ∙ sym (cut_on f p (joined ps))

-- whatever the pieces, the header read is that of the bytes joined
pub cut-anywhere : (ps : List (List ℕ)) → read_by (feed_pieces (still (begun 0)) ps) ≡ header_of (joined ps)
unfolding feed_on
cut-anywhere ps = ap read_by (in_pieces ps (still (begun 0))) ∙ reads (joined ps)
