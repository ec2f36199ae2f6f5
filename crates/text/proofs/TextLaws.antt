-- Bytes put before bytes, and text written after text. Assumes nothing.
use mathlib.Core.Path.{◌≡◌, refl, sym, ap, ◌∙◌}
use mathlib.Core.Bool.{Bool, true, false}
use mathlib.Core.List.{List, [], ◌∷◌, ◌++◌, append_assoc}
use Prim.Native.Nat.{ℕ, suc, ◌+◌, ◌-◌, ◌≤◌, ◌<◌}
use native.Mathlib.Omega.{arith}
use native.Mathlib.Decide.{dec_lt}
use native.Mathlib.Numerals.{add-one}
use lib.ListN.{length, take, drop, set, length-append, length-take, length-drop, take-append-drop}
use lib.Seq.{paste, take-length, take-append-le, take-take, take_at, drop_at, drop-drop, length-take-le, set_split}
use lib.Dec.{leb}
use borrow.Author.Tests.{le-leb, lt-leb, leb-true, leb-false}
use Rattle.text.specs.Text.{Put, Wrote, Puts}

pub nothing : (l : List ℕ) (at : ℕ) → at ≤ length l → Put [] at at l l
nothing l at h = record { place = omega arith; room = h; text = sym (take-append-drop at l) }

pub one : (b : ℕ) (l : List ℕ) (at : ℕ) → 0 < at → at ≤ length l → Put (b ∷ []) at (at - 1) l (set l (at - 1) b)
one b l at h g =
    let e : suc (at - 1) ≡ at = omega arith in
    record { place = omega arith; room = g; text = set_split l (at - 1) b (omega arith) ∙ ap (λ k. take (at - 1) l ++ (b ∷ drop k l)) e }

pub same_size : {s l m : List ℕ} {at r : ℕ} → Put s at r l m → length m ≡ length l
same_size {s} {l} {m} {at} {r} a =
    ap length a.text ∙ simp (length-append, length-take, length-drop) (omega (arith, a.place, a.room))

-- t before s
pub before : {s t l m n : List ℕ} {at p r : ℕ} → Put s at p l m → Put t p r m n → Put (t ++ s) at r l n
before {s} {t} {l} {m} {n} {at} {p} {r} a b =
    let long : length (take p l) ≡ p = length-take-le p l (omega (arith, a.place, a.room)) in
    let front : take r m ≡ take r l =
    ap (take r) a.text ∙ take-append-le r (take p l) (s ++ drop at l) (omega (arith, b.place)) ∙ take-take r p l (omega (arith, b.place)) in
    let back : drop p m ≡ s ++ drop at l = ap (drop p) a.text ∙ drop_at (take p l) (s ++ drop at l) p long in
    record {
      place = simp length-append (omega (arith, a.place, b.place));
      room = a.room;
      text =
          b.text
          ∙ ap (λ x. x ++ (t ++ drop p m)) front
          ∙ ap (λ x. take r l ++ (t ++ x)) back
          ∙ ap (λ x. take r l ++ x) (sym (append_assoc t s (drop at l)));
    }

-- ---- text after text in an area
pub wrote_none : (b : ℕ) (o : List ℕ) → b ≤ length o → Wrote [] b b o o
wrote_none b o h = record { place = omega arith; room = h; text = sym (take-append-drop b o) }

module _ {s l m : List ℕ} {a r : ℕ} (p : Wrote s a r l m) where
  -- what stands before place r then
  front-size : length (take a l ++ s) ≡ r
  front-size = length-append (take a l) s ∙ ap (λ k. k + length s) (length-take-le a l (omega (arith, p.place, p.room))) ∙ sym p.place

  in_parts : m ≡ (take a l ++ s) ++ drop r l
  in_parts = p.text ∙ sym (append_assoc (take a l) s (drop r l))

  pub wrote-size : length m ≡ length l
  wrote-size = ap length p.text ∙ simp (length-append, length-take, length-drop) (omega (arith, p.place, p.room))

  pub wrote_on : {t n : List ℕ} {q : ℕ} → Wrote t r q m n → Wrote (s ++ t) a q l n
  wrote_on {t} {n} {q} w =
      let front : take r m ≡ take a l ++ s = ap (take r) in_parts ∙ take_at (take a l ++ s) (drop r l) r front-size in
      let behind : drop r m ≡ drop r l = ap (drop r) in_parts ∙ drop_at (take a l ++ s) (drop r l) r front-size in
      let back : drop q m ≡ drop q l =
      ap (λ k. drop k m) w.place ∙ sym (drop-drop (length t) r m) ∙ ap (drop (length t)) behind ∙ drop-drop (length t) r l
      ∙ ap (λ k. drop k l) (sym w.place) in
      record {
        place = simp length-append (omega (arith, p.place, w.place));
        room = omega (arith, w.room, wrote-size);
        text =
            w.text
            ∙ ap (λ x. x ++ (t ++ drop q m)) front
            ∙ ap (λ x. (take a l ++ s) ++ (t ++ x)) back
            ∙ append_assoc (take a l) s (t ++ drop q l)
            ∙ ap (λ x. take a l ++ x) (sym (append_assoc s t (drop q l)));
      }

pub wrote-byte : (b : ℕ) (o : List ℕ) (a : ℕ) → a < length o → Wrote (b ∷ []) a (a + 1) o (set o a b)
wrote-byte b o a h = record { place = omega arith; room = omega arith; text = set_split o a b h ∙ ap (λ k. take a o ++ (b ∷ drop k o)) (sym (add-one a)) }

pub put-wrote : {s l m : List ℕ} {at r : ℕ} → Put s at r l m → Wrote s r at l m
put-wrote p = record { place = sym p.place; room = p.room; text = p.text }

-- ---- a text whole, or nothing of it
pub room-test : (l a n : ℕ) → n ≤ l → leb a (l - n) ≡ leb (a + n) l
room-test l a n h =
    elim (dec_lt (l - n) a) [
      | yes p ↦ rw (lt-leb a (l - n) p, lt-leb (a + n) l (omega arith))
      | no p ↦ rw (le-leb a (l - n) (omega arith), le-leb (a + n) l (omega arith))
    ]

pub fits : (k l : ℕ) {r : Bool} → r ≡ leb k l → r ≡ true → k ≤ l
fits k l e h = leb-true k l (sym e ∙ h)

pub fits_not : (k l : ℕ) {r : Bool} → r ≡ leb k l → r ≡ false → l < k
fits_not k l e h = leb-false k l (sym e ∙ h)

pub puts_whole : {s l m : List ℕ} {a r : ℕ} → Wrote s a r l m → Puts s a r l m
puts_whole w = record { whole = λ _. w; none = λ h. absurd (omega (arith, w.place, w.room)) }

pub puts_none : (s l : List ℕ) (a : ℕ) → length l < a + length s → Puts s a a l l
puts_none s l a h = record { whole = λ g. absurd (omega arith); none = λ _. (refl, refl) }

-- all of a text is copied
pub wrote-all : (s l m : List ℕ) (a : ℕ) → a + length s ≤ length l → m ≡ paste l a s (length s) → Wrote s a (a + length s) l m
wrote-all s l m a h e =
    record {
      place = refl;
      room = h;
      text = e ∙ ap (λ x. (take a l ++ x) ++ drop (a + length s) l) (take-length s)
          ∙ append_assoc (take a l) s (drop (a + length s) l);
    }

-- a text put before place a + n stands from place a on, n being its length
pub put-at : {s l m : List ℕ} {a n r : ℕ} → n ≡ length s → Put s (a + n) r l m → Wrote s a (a + n) l m
put-at {s} {l} {m} {a} {n} {r} e p = let b : r ≡ a = omega (arith, p.place) in rw b at (put-wrote p)

-- a text at the front of an area
pub wrote-front : {s l m : List ℕ} {r : ℕ} → Wrote s 0 r l m → take r m ≡ s
wrote-front {s} {l} {m} {r} w = ap (take r) (in_parts w) ∙ take_at (take 0 l ++ s) (drop r l) r (front-size w)

-- a text that fits behind another
module _ {s t l m n : List ℕ} {a p r : ℕ} (w : Wrote s a p l m) (x : Puts t p r m n) (h : p + length t ≤ length l) where
  last-part : Wrote t p r m n
  last-part = x.whole (omega (arith, h, wrote-size w))

  pub puts-on : Wrote (s ++ t) a r l n
  puts-on = wrote_on w last-part

  pub puts-place : r ≡ p + length t
  puts-place = last-part.place

pub front-end : {s l m : List ℕ} {r : ℕ} → Wrote s 0 r l m → r ≡ length (take r m)
front-end w = let e = ap length (wrote-front w) in omega (arith, e, w.place)
