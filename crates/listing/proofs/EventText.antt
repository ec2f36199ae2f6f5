-- What the definition says is due of the bytes read is what is due of the events that they bring (`due-events`), and with the end of the input too
-- (`listing-events`). Assumes nothing.
use mathlib.Core.Bool.{Bool, true, false}
use mathlib.Core.Path.{◌≡◌, refl, sym, ap, ap₂, ◌∙◌}
use mathlib.Core.List.{List, [], ◌∷◌, ◌++◌, map, append-nil}
use Prim.Native.Nat.{ℕ, zero, suc}
use native.Mathlib.Omega.{arith}
use lib.Dec.{ltb, eqb}
use lib.ListN.{length}
use borrow.Author.Tests.{le-ltb, eqb-true}
use Rattle.numbers.specs.Signal.{pick}
use Rattle.pgm.specs.Header.{Read, found, short, wrong}
use Rattle.text.specs.Refusal.{refused_line, answer_line}
use Rattle.pgm.specs.Heights.{heights_taken, too_large, bytes_of, refusal_in}
use Rattle.listing.specs.Listing.{Shape, Head, cells, head_of, lines_due, body_of, body_due, listing_of, due_of}
use Rattle.listing.specs.Events.{Event, begins, height, answer_events, Ending, whole, few, over, Reading, with_event, heights_reading}
use Rattle.listing.specs.Events.{head_reading, reading_of}
use Rattle.listing.proofs.DrawnText.{heights_in, refused_in, text_of, end_text}

-- ---- the events of some heights, and then some more
pub heights-in : (l : List ℕ) (es : List Event) → heights_in (map height l ++ es) ≡ l ++ heights_in es
unfolding heights_in
heights-in [] es = refl
heights-in (v ∷ l) es = ap (λ k. v ∷ k) (heights-in l es)

pub refused-in : (l : List ℕ) (es : List Event) → refused_in (map height l ++ es) ≡ refused_in es
unfolding refused_in
refused-in [] es = refl
refused-in (v ∷ l) es = refused-in l es

-- a refusal after them is no height
last-heights : (t : ℕ) → heights_in (answer_events t) ≡ []
unfolding heights_in
last-heights zero = refl
last-heights (suc t) = refl

last-refused : (t : ℕ) → refused_in (answer_events t) ≡ t
unfolding refused_in
last-refused zero = refl
last-refused (suc t) = refl

-- what is due of the head, some heights, and perhaps a refusal
pub text-of : (f : Bool) (q : Shape) (l : List ℕ) (t : ℕ) → text_of f (begins q ∷ (map height l ++ answer_events t)) ≡ lines_due q l f ++ answer_line t
unfolding text_of
text-of f q l t =
    ap₂ (λ a b. lines_due q a f ++ answer_line b)
    (heights-in l (answer_events t) ∙ ap (λ k. l ++ k) (last-heights t) ∙ append-nil l)
    (refused-in l (answer_events t) ∙ last-refused t)

-- ---- while more may come
due-body : (q : Shape) (m : ℕ) (r : List ℕ) → body_due q m r ≡ text_of false (begins q ∷ (heights_reading m (cells q) r).events)
unfolding body_due heights_reading
due-body q m r = sym (text-of false q (heights_taken m (cells q) r) (refusal_in false m (cells q) r))

pub due-events : (u : List ℕ) → due_of u ≡ text_of false (reading_of u).events
unfolding due_of reading_of text_of
due-events u = go (head_of u)
  where
    go : (x : Read Head) → elim x [ found h r ↦ body_due h.shape h.largest r | short ↦ [] | wrong ↦ refused_line 15 ] ≡ text_of false (head_reading x).events
    go (found h r) = due-body h.shape h.largest r
    go short = refl
    go wrong = refl

-- ---- with the end of the input
-- the ending, as the three tests of the definition give it: u, is a sample too large; s, are the bytes as many as the samples want; t, are they more
abbrev end_as : Bool → Bool → Bool → Ending
end_as u s t = pick u over (pick s whole (pick t over few))

abbrev answer : Bool → Bool → ℕ
answer u t = pick u 16 (pick t 15 0)

abbrev progress_of : Shape → List ℕ → Bool → Bool → Bool → Reading
progress_of q l u s t = record { events = begins q ∷ (map height l ++ answer_events (answer u t)); ending = end_as u s t }

end_body : (q : Shape) (l : List ℕ) (u s t : Bool) → (s ≡ true → t ≡ false)
    → pick u (lines_due q l false ++ refused_line 16) (pick s (lines_due q l true) (lines_due q l false ++ refused_line 15)) ≡ end_text (progress_of q l u s t)
end_body q l true s t h = sym (text-of false q l 16)
end_body q l false true t h =
    sym (append-nil (lines_due q l true)) ∙ ap (λ b. lines_due q l true ++ answer_line (answer false b)) (sym (h refl)) ∙ sym (text-of true q l (answer false t))
end_body q l false false true h = sym (text-of false q l 15)
end_body q l false false false h = ap (λ k. k ++ refused_line 15) (sym (append-nil (lines_due q l false)) ∙ sym (text-of false q l 0))

same-not-more : (n k : ℕ) → eqb k n ≡ true → ltb n k ≡ false
same-not-more n k e = le-ltb n k (omega (arith, eqb-true k n e))

listing-body : (q : Shape) (m : ℕ) (r : List ℕ) → body_of q m r ≡ end_text (with_event (begins q) (heights_reading m (cells q) r))
unfolding body_of heights_reading refusal_in
listing-body q m r =
    let n : ℕ = bytes_of m (cells q) in
    end_body q (heights_taken m (cells q) r) (too_large m (cells q) r) (eqb (length r) n) (ltb n (length r)) (same-not-more n (length r))

pub listing-events : (u : List ℕ) → listing_of u ≡ end_text (reading_of u)
unfolding listing_of reading_of text_of
listing-events u = go (head_of u)
  where
    go : (x : Read Head) → elim x [ found h r ↦ body_of h.shape h.largest r | short ↦ refused_line 15 | wrong ↦ refused_line 15 ] ≡ end_text (head_reading x)
    go (found h r) = listing-body h.shape h.largest r
    go short = refl
    go wrong = refl
