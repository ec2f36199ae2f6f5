-- All that is left of a line to write (`line_left`), and how it changes when bytes of a part, or a part, are written. z is the row area, of k numbers.
-- Assumes nothing.
use mathlib.Core.Path.{◌≡◌, refl, sym, ap, ◌∙◌}
use mathlib.Core.List.{List, [], ◌∷◌, ◌++◌, append_assoc, append-nil}
use Prim.Native.Nat.{ℕ, zero, suc, ◌+◌, ◌-◌, ◌≤◌, ◌<◌}
use native.Mathlib.Omega.{arith}
use native.Mathlib.Decide.{dec_lt}
use lib.Dec.{ltb, eqb}
use lib.IntN.{ℤ}
use lib.ListN.{length, take, drop, length-drop, take-append-drop}
use lib.Seq.{drop-drop}
use borrow.Author.Tests.{lt-ltb, le-ltb, lt-leb, le-leb, eq-eqb, ne_eqb}
use Rattle.numbers.specs.Signal.{pick}
use Rattle.text.specs.Decimal.{integer}
use Rattle.text.specs.Refusal.{refused_line}
use Rattle.listing.specs.Lines.{spaced, size_line}
use Rattle.listing.specs.Parts.{size_text, refused_text, head_text, value_text, part_text, size_part, refused_part, head_part, done_part, start_of, left_of}
use Rattle.listing.specs.States.{value_part}
use Rattle.listing.specs.declared.line.Line.{Line}
use Rattle.listing.proofs.SpellLaws.{start-in, start-anew, start-bound}

-- m values from place v on, a space before each
unfoldable pub values_from : ℕ → ℕ → (ℕ → ℤ) → List ℕ
values_from v zero y = []
values_from v (suc m) y = (32 ∷ integer (y v)) ++ values_from (v + 1) m y

spaced-one : (v : ℕ) (y : ℕ → ℤ) → spaced (v + 1) y ≡ spaced v y ++ (32 ∷ integer (y v))
unfolding spaced
spaced-one v y = let f : v + 1 ≡ suc v = omega arith in rw f refl

spaced-from : (m v : ℕ) (y : ℕ → ℤ) → spaced (v + m) y ≡ spaced v y ++ values_from v m y
unfolding values_from
spaced-from zero v y = ap (λ a. spaced a y) (omega arith) ∙ sym (append-nil (spaced v y))
spaced-from (suc m) v y =
    let e : v + suc m ≡ v + 1 + m = omega arith in
    ap (λ a. spaced a y) e ∙ spaced-from m (v + 1) y ∙ ap (λ l. l ++ values_from (v + 1) m y) (spaced-one v y)
    ∙ append_assoc (spaced v y) (32 ∷ integer (y v)) (values_from (v + 1) m y)

all-values : (n : ℕ) (y : ℕ → ℤ) → spaced n y ≡ values_from 0 n y
unfolding spaced
all-values n y = let e : 0 + n ≡ n = omega arith in sym (ap (λ a. spaced a y) e) ∙ spaced-from n 0 y

-- what comes after the line's part
unfoldable pub line_tail : (ℕ → ℤ) → Line → List ℕ
line_tail z l =
    pick (ltb l.part 3) []
    (pick (eqb l.part 3) (values_from 0 l.length z ++ (10 ∷ []))
    (pick (ltb l.value l.length) (values_from (l.value + 1) (l.length - (l.value + 1)) z ++ (10 ∷ []))
    []))

unfoldable pub line_left : ℕ → (ℕ → ℤ) → Line → List ℕ
line_left k z l = pick (eqb l.part 0) [] (left_of (part_text k z l) l.done ++ line_tail z l)

left-all : (t : List ℕ) → left_of t 0 ≡ t
unfolding left_of
left-all t = ap (λ a. drop a t) (go t)
  where
    go : (t : List ℕ) → start_of (length t) 0 ≡ 0
    go [] = sym (start-anew 0 0 (omega arith))
    go (b ∷ t) = sym (start-in (suc (length t)) 0 (omega arith))

module _ (k : ℕ) (z : ℕ → ℤ) where
  pub left-none : (l : Line) → l.part ≡ 0 → line_left k z l ≡ []
  unfolding line_left
  left-none l e = rw (eq-eqb l.part 0 e)

  some_left : (l : Line) → 0 < l.part → line_left k z l ≡ left_of (part_text k z l) l.done ++ line_tail z l
  unfolding line_left
  some_left l p = rw (ne_eqb l.part 0 (λ e. omega arith))

  -- ---- the lines that begin
  pub left-size : (W H L : ℕ) → line_left k z (size_part W H L) ≡ size_line W H L
  unfolding line_left line_tail part_text size_text
  left-size W H L = append-nil _ ∙ left-all (size_line W H L)

  pub left-refused : (q : ℕ) → line_left k z (refused_part q) ≡ refused_line q
  unfolding line_left line_tail part_text refused_text
  left-refused q = append-nil _ ∙ left-all (refused_line q)

  pub left-head : (a b c n : ℕ) → line_left k z (head_part a b c n) ≡ head_text (head_part a b c n) ++ (spaced n z ++ (10 ∷ []))
  unfolding line_left line_tail part_text
  left-head a b c n =
      ap (λ t. t ++ (values_from 0 n z ++ (10 ∷ []))) (left-all (head_text (head_part a b c n)))
      ∙ ap (λ t. head_text (head_part a b c n) ++ (t ++ (10 ∷ []))) (sym (all-values n z))

  -- ---- bytes of the part are written
  text_same : (l : Line) (d : ℕ) → part_text k z (done_part l d) ≡ part_text k z l
  unfolding part_text size_text refused_text head_text value_text
  text_same l d = refl

  tail-same : (l : Line) (d : ℕ) → line_tail z (done_part l d) ≡ line_tail z l
  unfolding line_tail
  tail-same l d = refl

  left-more : (t : List ℕ) (d m : ℕ) → m < length (left_of t d) → left_of t d ≡ take m (left_of t d) ++ left_of t (start_of (length t) d + m)
  unfolding left_of
  left-more t d m h =
      let s : ℕ = start_of (length t) d in
      let f : s + m < length t = omega (arith, length-drop s t, start-bound (length t) d) in
      sym (take-append-drop m (drop s t)) ∙ ap (λ y. take m (drop s t) ++ y) (drop-drop m s t ∙ ap (λ a. drop a t) (start-in (length t) (s + m) f))

  pub left-partly : (l : Line) (m : ℕ) → 0 < l.part → m < length (left_of (part_text k z l) l.done)
      → line_left k z l ≡ take m (left_of (part_text k z l) l.done) ++ line_left k z (done_part l (start_of (length (part_text k z l)) l.done + m))
  left-partly l m p h =
      let t : List ℕ = part_text k z l in
      let d : ℕ = start_of (length t) l.done + m in
      let o : List ℕ = take m (left_of t l.done) in
      some_left l p
      ∙ ap (λ y. y ++ line_tail z l) (left-more t l.done m h)
      ∙ append_assoc o (left_of t d) (line_tail z l)
      ∙ ap (λ y. o ++ y) (sym (some_left (done_part l d) p ∙ ap (λ y. left_of y d ++ line_tail z (done_part l d)) (text_same l d)
      ∙ ap (λ y. left_of t d ++ y) (tail-same l d)))

  -- ---- the part is written to its end: a line of one part
  pub left-short : (l : Line) → 0 < l.part → l.part < 3 → line_left k z l ≡ left_of (part_text k z l) l.done
  left-short l p h = some_left l p ∙ ap (λ y. left_of (part_text k z l) l.done ++ y) tail ∙ append-nil _
    where
      tail : line_tail z l ≡ []
      tail = unfold line_tail in rw (lt-ltb l.part 3 h) refl

  -- ---- the values
  -- from value v on
  value-left : (l : Line) (v : ℕ) → v ≤ l.length → l.length ≤ k → line_left k z (value_part l v) ≡ values_from v (l.length - v) z ++ (10 ∷ [])
  unfolding line_left line_tail part_text value_text
  value-left l v h f =
      ap (λ y. y ++ line_tail z (value_part l v)) (left-all (value_text k z (value_part l v)))
      ∙ elim (dec_lt v l.length) [
        | yes p ↦
            let e : l.length - v ≡ suc (l.length - (v + 1)) = omega arith in
            rw (lt-ltb v l.length p, lt-leb l.length v p, lt-leb k v (omega arith), e)
            (unfold values_from in ap (λ y. 32 ∷ y) (sym (append_assoc (integer (z v)) (values_from (v + 1) (l.length - (v + 1)) z) (10 ∷ []))))
        | no d ↦
            let e : l.length - v ≡ 0 = omega arith in
            rw (le-ltb v l.length (omega arith), le-leb l.length v (omega arith), e) (unfold values_from in refl)
      ]

  pub left-past-head : (l : Line) → l.part ≡ 3 → l.length ≤ k → line_left k z l ≡ left_of (part_text k z l) l.done ++ line_left k z (value_part l 0)
  left-past-head l e f =
      some_left l (omega arith) ∙ ap (λ y. left_of (part_text k z l) l.done ++ y)
      (tail ∙ sym (value-left l 0 (omega arith) f ∙ ap (λ a. values_from 0 a z ++ (10 ∷ [])) (omega arith)))
    where
      tail : line_tail z l ≡ values_from 0 l.length z ++ (10 ∷ [])
      tail = unfold line_tail in rw (le-ltb l.part 3 (omega arith), eq-eqb l.part 3 e) refl

  pub left-past-value : (l : Line) → 3 ≤ l.part → (l.part ≡ 3 → ⊥) → l.value < l.length → l.length ≤ k
      → line_left k z l ≡ left_of (part_text k z l) l.done ++ line_left k z (value_part l (l.value + 1))
  left-past-value l g d h f =
      some_left l (omega arith) ∙ ap (λ y. left_of (part_text k z l) l.done ++ y) (tail ∙ sym (value-left l (l.value + 1) (omega arith) f))
    where
      tail : line_tail z l ≡ values_from (l.value + 1) (l.length - (l.value + 1)) z ++ (10 ∷ [])
      tail = unfold line_tail in rw (le-ltb l.part 3 g, ne_eqb l.part 3 d, lt-ltb l.value l.length h) refl

  pub left-past-end : (l : Line) → 3 ≤ l.part → (l.part ≡ 3 → ⊥) → l.length ≤ l.value → line_left k z l ≡ left_of (part_text k z l) l.done
  left-past-end l g d h = some_left l (omega arith) ∙ ap (λ y. left_of (part_text k z l) l.done ++ y) tail ∙ append-nil _
    where
      tail : line_tail z l ≡ []
      tail = unfold line_tail in rw (le-ltb l.part 3 g, ne_eqb l.part 3 d, le-ltb l.value l.length h) refl
