-- The fixed form is read back: its header gives width and height (`head_read`), its bytes the heights (`samples-back`). Assumes nothing.
use mathlib.Core.Path.{◌≡◌, refl, sym, ap, ap₂, ◌∙◌}
use mathlib.Core.Bool.{Bool, true, false}
use mathlib.Core.List.{List, [], ◌∷◌, ◌++◌, append_assoc}
use Prim.Native.Nat.{ℕ, zero, suc, ◌+◌, ◌-◌, ◌*◌, ◌/◌, ◌%◌, ◌≤◌, ◌<◌}
use native.Mathlib.Omega.{arith}
use native.Mathlib.Decide.{dec_lt}
use borrow.Author.Tests.{le-leb, ne_eqb}
use Rattle.pgm.specs.Characters.{space, digit}
use Rattle.pgm.specs.Header.{Read, found, and_then, one, gap, after_gaps, number_from, number, field, Size, side, sized, header_end}
use Rattle.pgm.specs.Header.{header_of}
use Rattle.pgm.specs.Limits.{max_field, up_to}
use Rattle.pgm.proofs.LimitLaws.{is-up-to}
use Rattle.pgm.specs.Runs.{wide, pairs_of, samples_of}
use Rattle.text.specs.Decimal.{numeral}
use Rattle.text.proofs.DecimalLaws.{one-digit, last-digit}
use Rattle.picture.specs.Form.{form_largest, form_head, row_bytes}

-- ---- digits
digit-yes : (d : ℕ) → d < 10 → digit (48 + d) ≡ true
unfolding digit
digit-yes d h = rw (le-leb 48 (48 + d) (omega arith), le-leb (48 + d) 57 (omega arith))

digit-more : (any : Bool) (v d : ℕ) (s : List ℕ) → d < 10 → number_from any v ((48 + d) ∷ s) ≡ number_from true (10 * v + d) s
unfolding number_from
digit-more any v d s h = let e : 48 + d - 48 ≡ d = omega arith in rw (digit-yes d h, e)

-- a number's digits are read as the number; n is at most k
digits-read : (k n : ℕ) → n ≤ k → (any : Bool) (s : List ℕ) → number_from any 0 (numeral n ++ s) ≡ number_from true n s
digits-read zero n h any s =
    let z : n < 10 = omega arith in
    let e : 10 * 0 + n ≡ n = omega arith in
    rw (one-digit n z) (digit-more any 0 n s z ∙ ap (λ v. number_from true v s) e)
digits-read (suc k) n h any s =
    elim (dec_lt n 10) [
      | yes z ↦ let e : 10 * 0 + n ≡ n = omega arith in rw (one-digit n z) (digit-more any 0 n s z ∙ ap (λ v. number_from true v s) e)
      | no d ↦
          let e : 10 * (n / 10) + n % 10 ≡ n = omega arith in
          rw (last-digit n (omega arith))
          (ap (number_from any 0) (append_assoc (numeral (n / 10)) ((48 + n % 10) ∷ []) s)
          ∙ digits-read k (n / 10) (omega arith) any ((48 + n % 10) ∷ s)
          ∙ digit-more true (n / 10) (n % 10) s (omega arith)
          ∙ ap (λ v. number_from true v s) e)
    ]

-- and it ends at a space or a newline
pub number_read : (n b : ℕ) (s : List ℕ) → digit b ≡ false → number (numeral n ++ (b ∷ s)) ≡ found n (b ∷ s)
unfolding number_from
number_read n b s e = digits-read n n (omega arith) false (b ∷ s) ∙ rw e

-- no gap stands before it
digit-no-gap : (d : ℕ) (s : List ℕ) → d < 10 → after_gaps false ((48 + d) ∷ s) ≡ (48 + d) ∷ s
unfolding after_gaps space
digit-no-gap d s h =
    rw (
      ne_eqb (48 + d) 32 (λ e. omega arith),
      ne_eqb (48 + d) 9 (λ e. omega arith),
      ne_eqb (48 + d) 13 (λ e. omega arith),
      ne_eqb (48 + d) 10 (λ e. omega arith),
      ne_eqb (48 + d) 35 (λ e. omega arith),
    )

no_gap : (k n : ℕ) → n ≤ k → (s : List ℕ) → after_gaps false (numeral n ++ s) ≡ numeral n ++ s
no_gap zero n h s = let z : n < 10 = omega arith in rw (one-digit n z) (digit-no-gap n s z)
no_gap (suc k) n h s =
    elim (dec_lt n 10) [
      | yes z ↦ rw (one-digit n z) (digit-no-gap n s z)
      | no d ↦
          let e = append_assoc (numeral (n / 10)) ((48 + n % 10) ∷ []) s in
          rw (last-digit n (omega arith)) (ap (after_gaps false) e ∙ no_gap k (n / 10) (omega arith) ((48 + n % 10) ∷ s) ∙ sym e)
    ]

-- a newline or a space, a number, and a byte that is no digit
pub field-read : (g n b : ℕ) (s : List ℕ) → space g ≡ true → digit b ≡ false → field (g ∷ (numeral n ++ (b ∷ s))) ≡ found n (b ∷ s)
unfolding field gap
field-read g n b s e f = rw e (ap number (no_gap n n (omega arith) (b ∷ s)) ∙ number_read n b s f)

-- ---- the header
side-yes : (n : ℕ) → 1 ≤ n → n ≤ max_field → side n ≡ true
unfolding side
side-yes n h g = is-up-to max_field n h g

-- the largest value is one that a header may name, takes two bytes a sample, and holds every sample
largest-side : side form_largest ≡ true
unfolding side up_to max_field form_largest
largest-side = refl

pub largest-wide : wide form_largest ≡ true
unfolding wide form_largest
largest-wide = refl

pub largest-holds : (m : ℕ) → m ≤ max_field → m ≤ form_largest
unfolding max_field form_largest
largest-holds m h = h

abbrev last_part : List ℕ → List ℕ
last_part r = 10 ∷ (numeral form_largest ++ (10 ∷ r))

newline : digit 10 ≡ false
unfolding digit
newline = refl

blank : digit 32 ≡ false
unfolding digit
blank = refl

is_newline : space 10 ≡ true
unfolding space
is_newline = refl

is-blank : space 32 ≡ true
unfolding space
is-blank = refl

gap-read : (r : List ℕ) → gap (10 ∷ r) ≡ found 10 r
unfolding gap space
gap-read r = refl

abbrev after_numbers : ℕ → ℕ → Read ℕ → Read Size
after_numbers W H x = and_then x λ m s. and_then (gap s) λ _ s. header_end W H m s

head-split : (W H : ℕ) (r : List ℕ) → form_head W H ++ r ≡ 80 ∷ 53 ∷ 10 ∷ (numeral W ++ (32 ∷ (numeral H ++ last_part r)))
unfolding form_head
head-split W H r =
    ap (λ l. 80 ∷ 53 ∷ 10 ∷ l)
    (append_assoc (numeral W) (32 ∷ (numeral H ++ last_part [])) r
    ∙ ap (λ l. numeral W ++ (32 ∷ l)) (append_assoc (numeral H) (last_part []) r)
    ∙ ap (λ l. numeral W ++ (32 ∷ (numeral H ++ (10 ∷ l)))) (append_assoc (numeral form_largest) (10 ∷ []) r))

marks : (s : List ℕ) → header_of (80 ∷ 53 ∷ s) ≡ and_then (field s) λ w s. and_then (field s) λ h s. and_then (field s) λ m s. and_then
    (gap s) λ _ s. header_end w h m s
unfolding header_of one
marks s = refl

pub head_read : (W H : ℕ) (r : List ℕ) → 1 ≤ W → W ≤ max_field → 1 ≤ H → H ≤ max_field
    → header_of (form_head W H ++ r) ≡ found (record { width = W; height = H; largest = form_largest }) r
unfolding header_end sized
head_read W H r a b c d =
    ap header_of (head-split W H r)
    ∙ marks (10 ∷ (numeral W ++ (32 ∷ (numeral H ++ last_part r))))
    ∙ ap (λ x. and_then x λ w s. and_then (field s) λ h s. and_then (field s) λ m s. and_then (gap s) λ _ s. header_end w h m s)
    (field-read 10 W 32 (numeral H ++ last_part r) is_newline blank)
    ∙ ap (λ x. and_then x λ h s. and_then (field s) λ m s. and_then (gap s) λ _ s. header_end W h m s)
    (field-read 32 H 10 (numeral form_largest ++ (10 ∷ r)) is-blank newline)
    ∙ ap (after_numbers W H) (field-read 10 form_largest 10 r is_newline newline)
    ∙ ap (λ x. and_then x λ _ s. header_end W H form_largest s) (gap-read r)
    ∙ rw (side-yes W a b, side-yes H c d, largest-side)

-- ---- the heights
pub pairs-back : (l : List ℕ) → pairs_of (row_bytes l) ≡ l
unfolding pairs_of row_bytes
pairs-back [] = refl
pairs-back (h ∷ l) = ap₂ (λ a b. a ∷ b) (omega arith) (pairs-back l)

pub samples-back : (l : List ℕ) → samples_of form_largest (row_bytes l) ≡ l
unfolding samples_of
samples-back l = rw largest-wide (pairs-back l)
