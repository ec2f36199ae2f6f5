-- The lifting of a line in two steps, in general: of each high number is taken what the low ones say of it, then to each low number is put what the high ones
-- say of it. The steps have any reach, and the line starts at either parity. Here stand, once for all such filters, the two inverses and that a number sees
-- neither the places past its reach nor, short of the end, the length: so that a line cut anywhere, or not yet whole, gives the same numbers.
-- The 5/3 takes them in FiveThree. Assumes nothing.
use Prim.Native.Nat.{ℕ, ◌+◌, ◌%◌, ◌≤◌, ◌<◌}
use mathlib.Core.Path.{◌≡◌, refl, sym, ap, ap₂, ◌∙◌, fun_ext}
use mathlib.Core.Bool.{true, false}
use native.Mathlib.Decide.{dec_lt}
use native.Mathlib.Omega.{arith}
use lib.IntN.{ℤ, pos, nat_abs, ◌+ℤ◌, ◌-ℤ◌, ◌*ℤ◌}
use lib.Signed.{shr_z}
use mir.Syntax.{w32}
use mir.Val.{SFits}
use borrow.Author.Tests.{eq-eqb, eqb-true}
use Rattle.numbers.specs.Word.{wrap32, whole}
use Rattle.numbers.proofs.Integers.{each, lin, dif-nat_abs}
use Rattle.numbers.proofs.Words.{wrap-kept}
use Rattle.lifting.specs.Line.{Half, lo, hi}
use Rattle.lifting.specs.Grid.{Side, side, place, count, joined, single_high, is_even, has_line}
use Rattle.lifting.proofs.GridLaws.{other, place-in, in_place, by_place, joined-place, joined-reads}
use Rattle.lifting.proofs.SingleLaws.{single-odd, single-high, has-single, has_other}
use Rattle.lifting.proofs.Keeping.{Keeping}

-- what half h of a line says of number n of the other half
pub record Step (h : Half) : Type 0 where
  pub says : Side → ℕ → (ℕ → ℤ) → ℤ
  -- it goes by numbers that are there, none further on than its reach,
  pub reach : ℕ
  pub ahead : 1 ≤ reach
  pub reads : (S : Side) (n : ℕ) (a b : ℕ → ℤ) → 1 < S.length → n < count (other h) S
      → ((i : ℕ) → i < count h S → place S h i ≤ place S (other h) n + reach → a i ≡ b i) → says S n a ≡ says S n b
  -- and short of the end it does not see the length
  pub inner : (s N N' n : ℕ) (a : ℕ → ℤ) → place (side s N) (other h) n + reach < N → place (side s N') (other h) n + reach < N'
      → says (side s N) n a ≡ says (side s N') n a

-- A filter's two ways, by its two steps. A line's only sample goes apart: doubled and halved at an odd coordinate.
pub record Lifting : Type 0 where
  pub predict : Step lo
  pub update : Step hi
  pub forward : (ℤ → ℤ) → Side → (ℕ → ℤ) → Half → ℕ → ℤ
  pub halves : (ℤ → ℤ) → Side → (Half → ℕ → ℤ) → Half → ℕ → ℤ
  pub high : (keep : ℤ → ℤ) (S : Side) (x : ℕ → ℤ) (n : ℕ) → 1 < S.length → n < count hi S
      → forward keep S x hi n ≡ keep (x (place S hi n) -ℤ predict.says S n (λ i. x (place S lo i)))
  pub low : (keep : ℤ → ℤ) (S : Side) (x : ℕ → ℤ) (n : ℕ) → 1 < S.length → n < count lo S
      → forward keep S x lo n ≡ keep (x (place S lo n) +ℤ update.says S n (forward keep S x hi))
  pub even : (keep : ℤ → ℤ) (S : Side) (c : Half → ℕ → ℤ) (n : ℕ) → 1 < S.length → n < count lo S
      → halves keep S c lo n ≡ keep (c lo n -ℤ update.says S n (c hi))
  pub odd : (keep : ℤ → ℤ) (S : Side) (c : Half → ℕ → ℤ) (n : ℕ) → 1 < S.length → n < count hi S
      → halves keep S c hi n ≡ keep (c hi n +ℤ predict.says S n (halves keep S c lo))
  pub low-one : (keep : ℤ → ℤ) (S : Side) (x : ℕ → ℤ) (n : ℕ) → S.length ≤ 1 → forward keep S x lo n ≡ x (place S lo n)
  pub high_one : (keep : ℤ → ℤ) (S : Side) (x : ℕ → ℤ) (n : ℕ) → S.length ≤ 1 → forward keep S x hi n ≡ keep (pos 2 *ℤ x (place S hi n))
  pub even-one : (keep : ℤ → ℤ) (S : Side) (c : Half → ℕ → ℤ) (n : ℕ) → S.length ≤ 1 → halves keep S c lo n ≡ c lo n
  pub odd-one : (keep : ℤ → ℤ) (S : Side) (c : Half → ℕ → ℤ) (n : ℕ) → S.length ≤ 1 → halves keep S c hi n ≡ shr_z (c hi n) 2

-- an only number of the high half
single-is : (S : Side) (n : ℕ) → S.length ≤ 1 → n < count hi S → (single_high S ≡ true) × (place S hi n ≡ 0) × (n ≡ 0)
unfolding place count
single-is S n g b =
    let e : S.start % 2 ≡ 1 = omega arith in
    let k : S.length ≡ 1 = omega arith in
    (single-odd S e ∙ eq-eqb S.length 1 k, omega arith, omega arith)

half-double : (z : ℤ) → shr_z (pos 2 *ℤ z) 2 ≡ z
half-double = each _ λ p q. simp lin (omega arith)

double-half : (z : ℤ) → nat_abs z % 2 ≡ 0 → pos 2 *ℤ shr_z z 2 ≡ z
double-half = each _ λ p q. simp (lin, dif-nat_abs) (omega arith)

module _ (L : Lifting) where
  open L use {predict, update, forward, halves, high, low, even, odd, low-one, high_one, even-one, odd-one}

  -- how far on a number of each half reads the line, and the other way the values
  abbrev pub span : Half → ℕ
  span lo = update.reach + predict.reach
  span hi = predict.reach

  abbrev pub span_back : Half → ℕ
  span_back lo = update.reach
  span_back hi = predict.reach + update.reach

  abbrev pub back : (ℤ → ℤ) → Side → (Half → ℕ → ℤ) → ℕ → ℤ
  back keep S c = joined S (halves keep S c)

  -- ---- what a number reads
  module _ (keep : ℤ → ℤ) (S : Side) where
    high-reads : (x y : ℕ → ℤ) (n : ℕ) → 1 < S.length → n < count hi S → ((i : ℕ) → i < S.length → i ≤ place S hi n + span hi → x i ≡ y i)
        → forward keep S x hi n ≡ forward keep S y hi n
    high-reads x y n g b e =
        high keep S x n g b
        ∙ ap₂ (λ (v w : ℤ). keep (v -ℤ w)) (e (place S hi n) (place-in S hi n b) (omega arith))
        (predict.reads S n (λ i. x (place S lo i)) (λ i. y (place S lo i)) g b (λ i p q. e (place S lo i) (place-in S lo i p) q))
        ∙ sym (high keep S y n g b)

    pub forward-reads : (x y : ℕ → ℤ) (h : Half) (n : ℕ) → n < count h S → ((i : ℕ) → i < S.length → i ≤ place S h n + span h → x i ≡ y i)
        → forward keep S x h n ≡ forward keep S y h n
    forward-reads x y lo n b e =
        elim (dec_lt 1 S.length) [
          | yes g ↦
              low keep S x n g b
              ∙ ap₂ (λ (v w : ℤ). keep (v +ℤ w)) (e (place S lo n) (place-in S lo n b) (omega arith))
              (update.reads S n (forward keep S x hi) (forward keep S y hi) g b (λ i p q. high-reads x y i g p (λ j r s. e j r (omega arith))))
              ∙ sym (low keep S y n g b)
          | no d ↦ low-one keep S x n (omega arith) ∙ e (place S lo n) (place-in S lo n b) (omega arith) ∙ sym (low-one keep S y n (omega arith))
        ]
    forward-reads x y hi n b e =
        elim (dec_lt 1 S.length) [
          | yes g ↦ high-reads x y n g b e
          | no d ↦
              high_one keep S x n (omega arith)
              ∙ ap (λ (v : ℤ). keep (pos 2 *ℤ v)) (e (place S hi n) (place-in S hi n b) (omega arith))
              ∙ sym (high_one keep S y n (omega arith))
        ]

    -- and of the values, on the way back
    even-reads : (c d : Half → ℕ → ℤ) (n : ℕ) → 1 < S.length → n < count lo S
        → ((h : Half) (i : ℕ) → i < count h S → place S h i ≤ place S lo n + span_back lo → c h i ≡ d h i) → halves keep S c lo n ≡ halves keep S d lo n
    even-reads c d n g b e =
        even keep S c n g b
        ∙ ap₂ (λ (v w : ℤ). keep (v -ℤ w)) (e lo n b (omega arith)) (update.reads S n (c hi) (d hi) g b (e hi))
        ∙ sym (even keep S d n g b)

    pub halves-reads : (c d : Half → ℕ → ℤ) (h : Half) (n : ℕ) → n < count h S
        → ((k : Half) (i : ℕ) → i < count k S → place S k i ≤ place S h n + span_back h → c k i ≡ d k i) → halves keep S c h n ≡ halves keep S d h n
    halves-reads c d lo n b e =
        elim (dec_lt 1 S.length) [
          | yes g ↦ even-reads c d n g b e
          | no f ↦ even-one keep S c n (omega arith) ∙ e lo n b (omega arith) ∙ sym (even-one keep S d n (omega arith))
        ]
    halves-reads c d hi n b e =
        elim (dec_lt 1 S.length) [
          | yes g ↦
              odd keep S c n g b
              ∙ ap₂ (λ (v w : ℤ). keep (v +ℤ w)) (e hi n b (omega arith))
              (predict.reads S n (halves keep S c lo) (halves keep S d lo) g b (λ i p q. even-reads c d i g p (λ k j r s. e k j r (omega arith))))
              ∙ sym (odd keep S d n g b)
          | no f ↦
              odd-one keep S c n (omega arith) ∙ ap (λ (v : ℤ). shr_z v 2) (e hi n b (omega arith)) ∙ sym (odd-one keep S d n (omega arith))
        ]

    pub halves-back-reads : (c d : Half → ℕ → ℤ) → ((h : Half) (n : ℕ) → n < count h S → c h n ≡ d h n) → (h : Half) (n : ℕ) → n < count h S
        → halves keep S c h n ≡ halves keep S d h n
    halves-back-reads c d e h n b = halves-reads c d h n b (λ k i p _. e k i p)

    pub back-reads : (c d : Half → ℕ → ℤ) → ((h : Half) (n : ℕ) → n < count h S → c h n ≡ d h n) → (i : ℕ) → i < S.length → back keep S c i ≡ back keep S d i
    back-reads c d e = joined-reads S (halves keep S c) (halves keep S d) (halves-back-reads c d e)

  -- ---- short of the end a number does not see the length
  same_place : (s N N' : ℕ) (h : Half) (n : ℕ) → place (side s N) h n ≡ place (side s N') h n
  unfolding place
  same_place s N N' lo n = refl
  same_place s N N' hi n = refl

  there : (s N : ℕ) (h : Half) (n r : ℕ) → place (side s N) h n + r < N → n < count h (side s N)
  there s N h n r l = in_place (side s N) h n (omega arith)

  module _ (keep : ℤ → ℤ) (s N N' : ℕ) where
    high-inner : (x : ℕ → ℤ) (n : ℕ) → place (side s N) hi n + span hi < N → place (side s N') hi n + span hi < N'
        → forward keep (side s N) x hi n ≡ forward keep (side s N') x hi n
    unfolding place
    high-inner x n l m =
        let r = predict.ahead in
        high keep (side s N) x n (omega arith) (there s N hi n (span hi) l)
        ∙ ap (λ (v : ℤ). keep (x (place (side s N) hi n) -ℤ v)) (predict.inner s N N' n (λ i. x (place (side s N) lo i)) l m)
        ∙ sym (high keep (side s N') x n (omega arith) (there s N' hi n (span hi) m))

    pub forward-inner : (x : ℕ → ℤ) (h : Half) (n : ℕ) → place (side s N) h n + span h < N → place (side s N') h n + span h < N'
        → forward keep (side s N) x h n ≡ forward keep (side s N') x h n
    unfolding place
    forward-inner x lo n l m =
        let r = predict.ahead in
        low keep (side s N) x n (omega arith) (there s N lo n (span lo) l)
        ∙ ap (λ (v : ℤ). keep (x (place (side s N) lo n) +ℤ v))
        (update.inner s N N' n (forward keep (side s N) x hi) (omega arith) (omega arith)
        ∙ update.reads (side s N') n (forward keep (side s N) x hi) (forward keep (side s N') x hi) (omega arith) (there s N' lo n (span lo) m)
        (λ i p q. high-inner x i (omega arith) (omega arith)))
        ∙ sym (low keep (side s N') x n (omega arith) (there s N' lo n (span lo) m))
    forward-inner x hi n l m = high-inner x n l m

    -- both at once: two lines that agree up to there, whatever comes after
    pub forward-local : (x y : ℕ → ℤ) (h : Half) (n : ℕ) → place (side s N) h n + span h < N → place (side s N') h n + span h < N'
        → ((i : ℕ) → i ≤ place (side s N') h n + span h → x i ≡ y i) → forward keep (side s N) x h n ≡ forward keep (side s N') y h n
    forward-local x y h n l m e =
        forward-inner x h n l m ∙ forward-reads keep (side s N') x y h n (there s N' h n (span h) m) (λ i _ q. e i q)

    -- and the way back
    even-inner : (c : Half → ℕ → ℤ) (n : ℕ) → place (side s N) lo n + span_back lo < N → place (side s N') lo n + span_back lo < N'
        → halves keep (side s N) c lo n ≡ halves keep (side s N') c lo n
    even-inner c n l m =
        let r = update.ahead in
        even keep (side s N) c n (omega arith) (there s N lo n (span_back lo) l)
        ∙ ap (λ (v : ℤ). keep (c lo n -ℤ v)) (update.inner s N N' n (c hi) l m)
        ∙ sym (even keep (side s N') c n (omega arith) (there s N' lo n (span_back lo) m))

    pub halves-inner : (c : Half → ℕ → ℤ) (h : Half) (n : ℕ) → place (side s N) h n + span_back h < N → place (side s N') h n + span_back h < N'
        → halves keep (side s N) c h n ≡ halves keep (side s N') c h n
    halves-inner c lo n l m = even-inner c n l m
    halves-inner c hi n l m =
        let r = update.ahead in
        odd keep (side s N) c n (omega arith) (there s N hi n (span_back hi) l)
        ∙ ap (λ (v : ℤ). keep (c hi n +ℤ v))
        (predict.inner s N N' n (halves keep (side s N) c lo) (omega arith) (omega arith)
        ∙ predict.reads (side s N') n (halves keep (side s N) c lo) (halves keep (side s N') c lo) (omega arith) (there s N' hi n (span_back hi) m)
        (λ i p q.
        let e = same_place s N N' lo i in
        let f = same_place s N N' hi n in
        even-inner c i (omega arith) (omega arith)))
        ∙ sym (odd keep (side s N') c n (omega arith) (there s N' hi n (span_back hi) m))

    pub halves-local : (c d : Half → ℕ → ℤ) (h : Half) (n : ℕ) → place (side s N) h n + span_back h < N → place (side s N') h n + span_back h < N'
        → ((k : Half) (i : ℕ) → place (side s N') k i ≤ place (side s N') h n + span_back h → c k i ≡ d k i)
        → halves keep (side s N) c h n ≡ halves keep (side s N') d h n
    halves-local c d h n l m e =
        halves-inner c h n l m ∙ halves-reads keep (side s N') c d h n (there s N' h n (span_back h) m) (λ k i _ q. e k i q)

  -- ---- the inverse
  module _ {keep : ℤ → ℤ} (K : Keeping keep) (S : Side) where
    open K use {Good, kept, put_back, take_back, same, half-good}

    -- what is stored is good
    pub forward-good : (x : ℕ → ℤ) → ((i : ℕ) → i < S.length → Good (x i)) → (h : Half) (n : ℕ) → n < count h S → Good (forward keep S x h n)
    forward-good x good lo n b =
        elim (dec_lt 1 S.length) [
          | yes g ↦ rw (low keep S x n g b) (kept _)
          | no d ↦ rw (low-one keep S x n (omega arith)) (good (place S lo n) (place-in S lo n b))
        ]
    forward-good x good hi n b =
        elim (dec_lt 1 S.length) [
          | yes g ↦ rw (high keep S x n g b) (kept _)
          | no d ↦ rw (high_one keep S x n (omega arith)) (kept _)
        ]

    pub halves-good : (c : Half → ℕ → ℤ) → ((h : Half) (n : ℕ) → n < count h S → Good (c h n)) → (h : Half) (n : ℕ) → n < count h S
        → Good (halves keep S c h n)
    halves-good c good lo n b =
        elim (dec_lt 1 S.length) [
          | yes g ↦ rw (even keep S c n g b) (kept _)
          | no d ↦ rw (even-one keep S c n (omega arith)) (good lo n b)
        ]
    halves-good c good hi n b =
        elim (dec_lt 1 S.length) [
          | yes g ↦ rw (odd keep S c n g b) (kept _)
          | no d ↦ rw (odd-one keep S c n (omega arith)) (half-good _ (good hi n b))
        ]

    pub back-good : (c : Half → ℕ → ℤ) → ((h : Half) (n : ℕ) → n < count h S → Good (c h n)) → (i : ℕ) → i < S.length → Good (back keep S c i)
    back-good c good =
        by_place S (λ i. i < S.length → Good (joined S (halves keep S c) i))
        (λ h n b. rw (joined-place S (halves keep S c) h n) (halves-good c good h n (in_place S h n b)))

    -- there and back: a single sample at an odd coordinate comes back if its double is good
    module _ (x : ℕ → ℤ) (good : (i : ℕ) → i < S.length → Good (x i)) (double : single_high S ≡ true → Good (pos 2 *ℤ x 0)) where
      abbrev values : Half → ℕ → ℤ
      values = forward keep S x

      even-back : 1 < S.length → (n : ℕ) → n < count lo S → halves keep S values lo n ≡ x (place S lo n)
      even-back g n b =
          let u = update.says S n (values hi) in
          even keep S values n g b
          ∙ ap (λ (v : ℤ). keep (v -ℤ u)) (low keep S x n g b)
          ∙ take_back (x (place S lo n)) u (good (place S lo n) (place-in S lo n b))

      halves-forward : (h : Half) (n : ℕ) → n < count h S → halves keep S values h n ≡ x (place S h n)
      halves-forward lo n b =
          elim (dec_lt 1 S.length) [
            | yes g ↦ even-back g n b
            | no d ↦ even-one keep S values n (omega arith) ∙ low-one keep S x n (omega arith)
          ]
      halves-forward hi n b =
          elim (dec_lt 1 S.length) [
            | yes g ↦
                let u = predict.says S n (λ i. x (place S lo i)) in
                odd keep S values n g b
                ∙ ap (λ (v : ℤ). keep (values hi n +ℤ v)) (predict.reads S n (halves keep S values lo) (λ i. x (place S lo i)) g b (λ i p _. even-back g i p))
                ∙ ap (λ (v : ℤ). keep (v +ℤ u)) (high keep S x n g b)
                ∙ put_back (x (place S hi n)) u (good (place S hi n) (place-in S hi n b))
            | no d ↦
                let one = single-is S n (omega arith) b in
                odd-one keep S values n (omega arith)
                ∙ ap (λ (v : ℤ). shr_z v 2)
                (high_one keep S x n (omega arith) ∙ same _ (rw one.1 (double one.0)))
                ∙ half-double (x (place S hi n))
          ]

      pub back-forward : (i : ℕ) → i < S.length → back keep S values i ≡ x i
      back-forward =
          by_place S (λ i. i < S.length → joined S (halves keep S values) i ≡ x i)
          (λ h n b. joined-place S (halves keep S values) h n ∙ halves-forward h n (in_place S h n b))

    -- and values go there again if they are a line's
    module _ (c : Half → ℕ → ℤ) (good : (h : Half) (n : ℕ) → n < count h S → Good (c h n)) (has : has_line S c ≡ true) where
      abbrev line : ℕ → ℤ
      line = back keep S c

      at_place : (h : Half) (n : ℕ) → line (place S h n) ≡ halves keep S c h n
      at_place = joined-place S (halves keep S c)

      high-forward : 1 < S.length → (n : ℕ) → n < count hi S → forward keep S line hi n ≡ c hi n
      high-forward g n b =
          let u = predict.says S n (halves keep S c lo) in
          high keep S line n g b
          ∙ ap₂ (λ (v : ℤ) (a : ℕ → ℤ). keep (v -ℤ predict.says S n a)) (at_place hi n ∙ odd keep S c n g b) (fun_ext (at_place lo))
          ∙ take_back (c hi n) u (good hi n b)

      pub forward-back : (h : Half) (n : ℕ) → n < count h S → forward keep S line h n ≡ c h n
      unfolding is_even
      forward-back lo n b =
          elim (dec_lt 1 S.length) [
            | yes g ↦
                let u = update.says S n (c hi) in
                low keep S line n g b
                ∙ ap₂ (λ (v w : ℤ). keep (v +ℤ w)) (at_place lo n ∙ even keep S c n g b)
                (update.reads S n (forward keep S line hi) (c hi) g b (λ i p _. high-forward g i p))
                ∙ put_back (c lo n) u (good lo n b)
            | no d ↦ low-one keep S line n (omega arith) ∙ at_place lo n ∙ even-one keep S c n (omega arith)
          ]
      forward-back hi n b =
          elim (dec_lt 1 S.length) [
            | yes g ↦ high-forward g n b
            | no d ↦
                let one = single-is S n (omega arith) b in
                let e : is_even (c hi n) ≡ true = ap (λ (m : ℕ). is_even (c hi m)) one.2 ∙ sym (has-single S c one.0) ∙ has in
                high_one keep S line n (omega arith)
                ∙ ap (λ (v : ℤ). keep (pos 2 *ℤ v)) (at_place hi n ∙ odd-one keep S c n (omega arith))
                ∙ ap keep (double-half (c hi n) (eqb-true _ _ e))
                ∙ same _ (good hi n b)
          ]

  -- ---- where the whole values are 32-bit numbers nothing wraps
  module _ (S : Side) (x : ℕ → ℤ) (fits : (h : Half) (n : ℕ) → n < count h S → SFits w32 (forward whole S x h n)) where
    high-exact : 1 < S.length → (n : ℕ) → n < count hi S → forward wrap32 S x hi n ≡ forward whole S x hi n
    high-exact g n b =
        high wrap32 S x n g b ∙ wrap-kept _ (rw (← high whole S x n g b) (fits hi n b)) ∙ sym (high whole S x n g b)

    pub forward-exact : (h : Half) (n : ℕ) → n < count h S → forward wrap32 S x h n ≡ forward whole S x h n
    forward-exact lo n b =
        elim (dec_lt 1 S.length) [
          | yes g ↦
              low wrap32 S x n g b
              ∙ ap (λ (v : ℤ). wrap32 (x (place S lo n) +ℤ v))
              (update.reads S n (forward wrap32 S x hi) (forward whole S x hi) g b (λ i p _. high-exact g i p))
              ∙ wrap-kept _ (rw (← low whole S x n g b) (fits lo n b))
              ∙ sym (low whole S x n g b)
          | no d ↦ low-one wrap32 S x n (omega arith) ∙ sym (low-one whole S x n (omega arith))
        ]
    forward-exact hi n b =
        elim (dec_lt 1 S.length) [
          | yes g ↦ high-exact g n b
          | no d ↦
              high_one wrap32 S x n (omega arith)
              ∙ wrap-kept _ (rw (← high_one whole S x n (omega arith)) (fits hi n b))
              ∙ sym (high_one whole S x n (omega arith))
        ]

-- the values of a line never give 14: what 32 bits keep of a double is even
even-kept : (z : ℤ) → nat_abs (wrap32 (pos 2 *ℤ z)) % 2 ≡ 0
unfolding wrap32
even-kept = each _ λ p q. simp (lin, dif-nat_abs) (omega arith)

pub forward-has : (L : Lifting) (S : Side) (x : ℕ → ℤ) → has_line S (L.forward wrap32 S x) ≡ true
unfolding is_even
forward-has L S x =
    elim (single_high S) as (λ t. single_high S ≡ t → has_line S (L.forward wrap32 S x) ≡ true) [
      | true ↦ λ e.
          let one = single-high S e in
          has-single S _ e ∙ ap is_even (L.high_one wrap32 S x 0 (omega arith)) ∙ eq-eqb _ 0 (even-kept (x (place S hi 0)))
      | false ↦ λ e. has_other S _ e
    ] refl
