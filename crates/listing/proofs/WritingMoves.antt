-- A line's part or its values written: the moves. Assumes nothing.
use mathlib.Core.Path.{◌≡◌, refl, sym, ap, ◌∙◌, subst}
use mathlib.Core.Bool.{Bool, true, false}
use mathlib.Core.List.{List, [], ◌∷◌, ◌++◌, append_assoc}
use Prim.Native.Nat.{ℕ, zero, suc, ◌+◌, ◌-◌, ◌≤◌, ◌<◌, ◌/◌, ◌%◌}
use native.Mathlib.Omega.{arith}
use native.Mathlib.Decide.{dec_lt}
use lib.Dec.{leb, ltb, eqb}
use lib.IntN.{ℤ}
use lib.ListN.{length, take, drop, length-append, length-drop}
use lib.Seq.{take-length, length-take-le}
use borrow.Author.Tests.{lt-leb, ne_eqb}
use Rattle.numbers.specs.Signal.{pick}
use Rattle.level.specs.Level.{Memory}
use Rattle.writer.specs.declared.Writer.{Writer}
use Rattle.text.specs.Decimal.{digits_of, numeral, integer}
use Rattle.listing.specs.Lines.{spaced, size_line}
use Rattle.text.specs.Text.{Wrote}
use Rattle.text.specs.Refusal.{refused_line}
use Rattle.listing.specs.Parts.{first, second, size_text, refused_text, head_text, value_text, part_text, done_part, start_of, left_of, Spelled}
use Rattle.listing.specs.States.{State, state_of, Leaves, listed, value_part, advance_state}
use Rattle.listing.specs.Moves.{line_on, text_on, left_on, Move, partly, wholly, Goes, Writes, WritesOnly}
use Rattle.text.specs.Moves.{then}
use Rattle.text.proofs.MoveLaws.{one}
use Rattle.pgm.specs.declared.input.Input.{Input}
use Rattle.listing.specs.declared.line.Line.{Line}
use Rattle.listing.specs.declared.listing.Listing.{Listing}
use Rattle.listing.specs.declared.spelling.Spelt.{Spelt}
use Rattle.listing.proofs.StateLaws.{past_value}
use Rattle.listing.proofs.SpellLaws.{start-in, start-anew}

-- ---- each text has a byte
record Some (l : List ℕ) : Type 0 where
  pub byte : 0 < length l

either-some : (b : Bool) {x y : List ℕ} → Some x → Some y → Some (pick b x y)
either-some true h g = h
either-some false h g = g

first_some : (a : ℕ) (l : List ℕ) → Some (a ∷ l)
first_some a l = record { byte = omega arith }

some-before : (x y : List ℕ) → Some x → Some (x ++ y)
some-before x y h = record { byte = simp length-append (omega (arith, h.byte)) }

some_after : (x y : List ℕ) → Some y → Some (x ++ y)
some_after x y h = record { byte = simp length-append (omega (arith, h.byte)) }

numeral-some : (n : ℕ) → Some (numeral n)
unfolding numeral digits_of
numeral-some n = either-some (ltb n 10) (first_some (48 + n) []) (some_after (digits_of n (n / 10)) ((48 + n % 10) ∷ []) (first_some (48 + n % 10) []))

size-some : (l : Line) → Some (size_text l)
unfolding size_text size_line
size-some l = some_after (numeral l.length ++ (32 ∷ numeral l.row) ++ (32 ∷ numeral l.level)) (10 ∷ []) (first_some _ _)

refused-some : (l : Line) → Some (refused_text l)
unfolding refused_text refused_line
refused-some l = first_some _ _

head-some : (l : Line) → Some (head_text l)
unfolding head_text
head-some l = some-before (numeral l.level) (32 ∷ first l.band ∷ second l.band ∷ 32 ∷ numeral l.row) (numeral-some l.level)

value-some : (k : ℕ) (y : ℕ → ℤ) (l : Line) → Some (value_text k y l)
unfolding value_text
value-some k y l =
    either-some (leb l.length l.value) (first_some 10 []) (either-some (leb k l.value) (first_some 10 []) (first_some 32 (integer (y l.value))))

part-some : (k : ℕ) (y : ℕ → ℤ) (l : Line) → Some (part_text k y l)
unfolding part_text
part-some k y l =
    either-some (eqb l.part 1) (size-some l)
    (either-some (eqb l.part 2) (refused-some l) (either-some (eqb l.part 3) (head-some l) (value-some k y l)))

start-below : (t d : ℕ) → 0 < t → start_of t d < t
start-below t d h = elim (dec_lt d t) [ yes p ↦ omega (arith, start-in t d p) | no q ↦ omega (arith, start-anew t d (omega arith)) ]

left-some : (t : List ℕ) (d : ℕ) → 0 < length t → 0 < length (left_of t d)
unfolding left_of
left-some t d h = simp length-drop (omega (arith, start-below (length t) d h))

start_none : (t : ℕ) → start_of t 0 ≡ 0
start_none zero = sym (start-anew 0 0 (omega arith))
start_none (suc t) = sym (start-in (suc t) 0 (omega arith))

left-all : (t : List ℕ) (d : ℕ) → d ≡ 0 → left_of t d ≡ t
unfolding left_of
left-all t d e = rw (e, start_none (length t))

-- ---- a state that a step left
pub left_is : {s : State} {l : Listing} {x z : Memory} → Leaves s l x z → state_of l x z ≡ s
left_is {s} {l} {x} {z} p =
    ap (λ y. state_of y x z) p.listing ∙ ap (λ y. state_of s.listing y z) p.store ∙ ap (λ y. state_of s.listing s.store y) p.row

-- ---- a part
module _ (n k : ℕ) (s : State) (h : 0 < (line_on s).part) (o o' : List ℕ) (b : ℕ) (room : b < length o) (r : Spelt)
    (e : Spelled (text_on k s) (line_on s).done b o o' r) where
  most : r.written ≤ length (left_on k s)
  most = omega (arith, e.count)

  some : b < b + r.written
  some = omega (arith, e.count, left-some (text_on k s) (line_on s).done (part-some k s.row (line_on s)).byte)

  text-wrote : Wrote (take r.written (left_on k s)) b (b + r.written) o o'
  text-wrote =
      record {
        place = ap (λ m. b + m) (sym (length-take-le r.written (left_on k s) most));
        room = omega (arith, e.count);
        text = e.bytes ∙ append_assoc (take b o) (take r.written (left_on k s)) (drop (b + r.written) o);
      }

  pub part-on : (l : Listing) → 0 < r.rest → l ≡ listed s.listing.input s.listing.writer (done_part (line_on s) r.done)
      → Writes n k s o o' b (b + r.written) (state_of l s.store s.row)
  part-on l g f =
      record {
        text = take r.written (left_on k s);
        goes = one (partly r.written h (omega (arith, e.rest)) refl refl (cc (f, e.done)));
        wrote = text-wrote;
        some = some;
      }

  pub part-whole : (l : Listing) {x z : Memory} → r.rest ≡ 0 → Leaves (advance_state n k s) l x z → Writes n k s o o' b (b + r.written) (state_of l x z)
  part-whole l g f =
      let all : r.written ≡ length (left_on k s) = omega (arith, e.rest, most) in
      record {
        text = take r.written (left_on k s);
        goes = one (wholly h refl (ap (λ m. take m (left_on k s)) all ∙ take-length (left_on k s)) (left_is f));
        wrote = text-wrote;
        some = some;
      }

-- ---- values
module _ (n k : ℕ) (i : Input) (w : Writer) (x z : Memory) where
  abbrev with : Line → State
  with l = state_of (listed i w l) x z

  value-text : (l : Line) → 3 < l.part → l.value < l.length → l.value < k → part_text k z l ≡ 32 ∷ integer (z l.value)
  unfolding part_text value_text
  value-text l g h f =
      rw (
        ne_eqb l.part 1 (λ e. omega arith),
        ne_eqb l.part 2 (λ e. omega arith),
        ne_eqb l.part 3 (λ e. omega arith),
        lt-leb l.length l.value h,
        lt-leb k l.value f,
      )

  one_value : (l : Line) → 3 < l.part → l.done ≡ 0 → l.value < l.length → l.value < k
      → Move n k (with l) [] (32 ∷ integer (z l.value)) (with (value_part l (l.value + 1)))
  one_value l g d h f =
      wholly (omega arith) refl (sym (left-all (part_text k z l) l.done d ∙ value-text l g h f))
      (left_is (past_value n k (with l) _ (omega arith) (λ e. omega arith) h refl))

  values : (l : Line) (m : ℕ) → 3 < l.part → l.done ≡ 0 → l.value + suc m ≤ l.length → l.value + suc m ≤ k
      → Goes n k (with l) [] (spaced (suc m) (λ j. z (l.value + j))) (with (value_part l (l.value + suc m)))
  unfolding spaced
  values l zero g d h f =
      let e : l.value + 0 ≡ l.value = omega arith in
      rw e (one (one_value l g d (omega arith) (omega arith)))
  values l (suc m) g d h f =
      let e : l.value + suc m + 1 ≡ l.value + suc (suc m) = omega arith in
      rw (← e) (then (values l m g d (omega arith) (omega arith)) (one_value (value_part l (l.value + suc m)) (omega arith) refl (omega arith) (omega arith)))

spaced-some : (m : ℕ) (y : ℕ → ℤ) → Some (spaced (suc m) y)
unfolding spaced
spaced-some m y = some_after (spaced m y) (32 ∷ integer (y m)) (first_some 32 (integer (y m)))

module _ (k : ℕ) (l : Listing) (z : Memory) (m : ℕ) (p : 3 < l.line.part) (d : l.line.done ≡ 0) (h : l.line.value + suc m ≤ l.line.length)
    (f : l.line.value + suc m ≤ k) where
  values-on : (l' : Listing) {o o' : List ℕ} {b b' : ℕ} → Wrote (spaced (suc m) (λ j. z (l.line.value + j))) b b' o o'
      → l' ≡ listed l.input l.writer (value_part l.line (l.line.value + suc m)) → WritesOnly k l z o o' b b' l'
  values-on l' w e n x =
      record {
        text = spaced (suc m) (λ j. z (l.line.value + j));
        goes = rw e (values n k l.input l.writer x z l.line m p d h f);
        wrote = w;
        some = omega (arith, w.place, (spaced-some m (λ j. z (l.line.value + j))).byte);
      }

pub some-values : (k : ℕ) (l l' : Listing) (z : Memory) (v : ℕ) {o o' : List ℕ} {b b' : ℕ} → 3 < l.line.part → l.line.done ≡ 0 → l.line.value < v
    → v ≤ l.line.length → v ≤ k
    → Wrote (spaced (v - l.line.value) (λ j. z (l.line.value + j))) b b' o o' → l' ≡ listed l.input l.writer (value_part l.line v)
    → WritesOnly k l z o o' b b' l'
some-values k l l' z v {o} {o'} {b} {b'} p d h g f w e =
    go (v - l.line.value - 1) (omega arith) (omega arith)
  where
    go : (m : ℕ) → v - l.line.value ≡ suc m → v ≡ l.line.value + suc m → WritesOnly k l z o o' b b' l'
    go m em ev =
        values-on k l z m p d (omega arith) (omega arith) l' (subst (λ y. Wrote (spaced y (λ j. z (l.line.value + j))) b b' o o') em w)
        (e ∙ ap (λ y. listed l.input l.writer (value_part l.line y)) ev)
