-- What the two passes of a line in halves come to together, and that a line of one number or none is as the 5/3 has it. Assumes nothing.
use mathlib.Core.Path.{◌≡◌, sym, ap, ◌∙◌, fun_ext}
use Prim.Native.Nat.{ℕ, ◌+◌, ◌-◌, ◌≤◌, ◌<◌}
use native.Mathlib.Omega.{arith}
use mathlib.Core.List.{List}
use lib.IntN.{ℤ}
use lib.ListN.{length}
use borrow.Rule.Slice.PartMut.{mid_of, put_mid}
use Rattle.numbers.specs.Signal.{at, windowed, spliced}
use Rattle.numbers.specs.Word.{wrap32}
use Rattle.numbers.proofs.Parts.{window-in, splice-in, splice-past, length-mid, at_mid, at-put}
use Rattle.lifting.specs.Line.{Half, lo, hi}
use Rattle.lifting.specs.Grid.{Side, side, count, deinterleaved, joined}
use Rattle.lifting.specs.Grid as five
use Rattle.lifting.specs.GridHalves.{halves_of, in_halves, deinterleaved_into}
use Rattle.lifting.specs.GridHalves as five-halves
use Rattle.lifting.specs.Halves.{fronted}
use Rattle.lifting.specs.Passes.{lows_changed}
use Rattle.lifting.proofs.GridLaws.{ahead, counts, joined-place, joined-reads, joined-deinterleaved, halves-low, halves-high, halves-past, halves_are}
use Rattle.lifting.proofs.GridLaws as five-laws
use Rattle.lifting.proofs.Neighbours.{left, right, left-in, right-in}
use Rattle.lifting.proofs.PassLaws.{lows-low, lows-past}
use Rattle.nine_seven.specs.NineSeven.{predicted, unpredicted, updated, unupdated, line_forward, line_halves_back, line_back}
use Rattle.nine_seven.specs.Memory.{lifted_in_place, unlifted_in_place, forward_into, backward_into}
use Rattle.nine_seven.specs.Passes.{far_right, high_by, highs_between}
use Rattle.nine_seven.proofs.MirrorLaws.{far_before, far_after, far-before-in, far-after-in}
use Rattle.nine_seven.proofs.NineSevenLaws.{high-near, low_near, even-near, odd-near, low-one, high_one, even-one, odd-one}
use Rattle.nine_seven.proofs.NineSevenReads.{forward-reads}
use Rattle.nine_seven.proofs.HighLaws.{between-below, between-past, between_in}

-- ---- a line of one number or none
module _ (S : Side) (g : S.length ≤ 1) where
  forward-short : (x : ℕ → ℤ) → five.line_forward wrap32 S x ≡ line_forward wrap32 S x
  forward-short x = fun_ext λ h. fun_ext λ n. each h n
    where
      each : (h : Half) (n : ℕ) → five.line_forward wrap32 S x h n ≡ line_forward wrap32 S x h n
      each lo n = five-laws.low-one S g wrap32 x n ∙ sym (low-one S g wrap32 x n)
      each hi n = five-laws.high_one S g wrap32 x n ∙ sym (high_one S g wrap32 x n)

  back-short : (c : Half → ℕ → ℤ) → five.line_halves_back wrap32 S c ≡ line_halves_back wrap32 S c
  back-short c = fun_ext λ h. fun_ext λ n. each h n
    where
      each : (h : Half) (n : ℕ) → five.line_halves_back wrap32 S c h n ≡ line_halves_back wrap32 S c h n
      each lo n = five-laws.even-one S g wrap32 c n ∙ sym (even-one S g wrap32 c n)
      each hi n = five-laws.odd-one S g wrap32 c n ∙ sym (odd-one S g wrap32 c n)

  pub lifted-short : (y : ℕ → ℤ) → five-halves.lifted_in_place S y ≡ lifted_in_place S y
  unfolding lifted_in_place five-halves.lifted_in_place
  lifted-short y = ap (λ (p : Half → ℕ → ℤ). in_halves S p y) (forward-short (joined S (halves_of S y)))

  pub unlifted-short : (y : ℕ → ℤ) → five-halves.unlifted_in_place S y ≡ unlifted_in_place S y
  unfolding unlifted_in_place five-halves.unlifted_in_place
  unlifted-short y = ap (λ (p : Half → ℕ → ℤ). in_halves S p y) (back-short (halves_of S y))

  pub backward-short : (y z : ℕ → ℤ) → five-halves.backward_into S y z ≡ backward_into S y z
  unfolding backward_into five-halves.backward_into line_back five.line_back
  backward-short y z = ap (λ (p : Half → ℕ → ℤ). fronted S.length (joined S p) z) (back-short (halves_of S y))

-- ---- any other line
module _ (S : Side) (y : ℕ → ℤ) (g : 1 < S.length) where
  abbrev low : ℕ
  low = count lo S

  abbrev N : ℕ
  N = S.length

  abbrev highs : (ℤ → ℤ → ℤ → ℤ → ℤ → ℤ) → (ℕ → ℤ) → ℕ → ℤ
  highs f = highs_between f (ahead S lo) low N 0 (N - low)

  abbrev lows : (ℤ → ℤ → ℤ → ℤ) → (ℕ → ℤ) → ℕ → ℤ
  lows f = lows_changed f (ahead S hi) low N

  rest : N - low ≡ count hi S
  rest = let both = counts S in omega arith

  highs-high : (f : ℤ → ℤ → ℤ → ℤ → ℤ → ℤ) (z : ℕ → ℤ) (n : ℕ) → n < count hi S
      → highs f z (low + n) ≡ f (z (low + n)) (z (left lo S n)) (z (right lo S n)) (z (far_before S n)) (z (far_after S n))
  unfolding high_by
  highs-high f z n b =
      between_in f (ahead S lo) low N 0 (N - low) z n (omega arith) (rw rest b)
      ∙ ap (λ (k : ℕ). f (z (low + n)) (z (left lo S n)) (z (right lo S n)) (z (far_before S n)) (z (far_right low k (ahead S lo) n))) rest

  highs-low : (f : ℤ → ℤ → ℤ → ℤ → ℤ → ℤ) (z : ℕ → ℤ) (n : ℕ) → n < low → highs f z n ≡ z n
  highs-low f z n b = between-below f (ahead S lo) low N 0 (N - low) z n (omega arith)

  highs-past : (f : ℤ → ℤ → ℤ → ℤ → ℤ → ℤ) (z : ℕ → ℤ) (j : ℕ) → N ≤ j → highs f z j ≡ z j
  highs-past f z j b = let both = counts S in between-past f (ahead S lo) low N 0 (N - low) z j (omega arith) (omega arith)

  -- a line in halves has these high values, before they are stored
  line-highs : (n : ℕ) → n < count hi S → line_forward wrap32 S (joined S (halves_of S y)) hi n ≡ highs (predicted wrap32) y (low + n)
  unfolding halves_of
  line-highs n h =
      let p = halves_of S y in
      cc (
        high-near S g wrap32 (joined S p) n h,
        highs-high (predicted wrap32) y n h,
        joined-place S p hi n,
        joined-place S p lo (left lo S n),
        joined-place S p lo (right lo S n),
        joined-place S p lo (far_before S n),
        joined-place S p lo (far_after S n),
      )

  pub lifted-is : lifted_in_place S y ≡ lows (updated wrap32) (highs (predicted wrap32) y)
  unfolding lifted_in_place halves_of
  lifted-is =
      let p = halves_of S y in
      let z = highs (predicted wrap32) y in
      halves_are S _ y _
      (λ n h.
      let l = (left-in hi S n g h).0 in
      let r = (right-in hi S n g h).0 in
      cc (
        rest,
        low_near S g wrap32 (joined S p) n h,
        lows-low (updated wrap32) (ahead S hi) low N z n h,
        joined-place S p lo n,
        highs-low (predicted wrap32) y n h,
        line-highs (left hi S n) l,
        line-highs (right hi S n) r,
      ))
      (λ n h. line-highs n h ∙ sym (lows-past (updated wrap32) (ahead S hi) low N z (low + n) (omega arith)))
      (λ j h.
      let both = counts S in
      sym (lows-past (updated wrap32) (ahead S hi) low N z j (omega arith) ∙ highs-past (predicted wrap32) y j h))

  pub unlifted-is : unlifted_in_place S y ≡ highs (unpredicted wrap32) (lows (unupdated wrap32) y)
  unfolding unlifted_in_place halves_of
  unlifted-is =
      let p = halves_of S y in
      let z = lows (unupdated wrap32) y in
      let even : (n : ℕ) → n < low → line_halves_back wrap32 S p lo n ≡ z n =
      λ n h. cc (rest, even-near S g wrap32 p n h, lows-low (unupdated wrap32) (ahead S hi) low N y n h) in
      halves_are S _ y _
      (λ n h. even n h ∙ sym (highs-low (unpredicted wrap32) z n h))
      (λ n h. cc (
        odd-near S g wrap32 p n h,
        highs-high (unpredicted wrap32) z n h,
        lows-past (unupdated wrap32) (ahead S hi) low N y (low + n) (omega arith),
        even (left lo S n) (left-in lo S n g h).0,
        even (right lo S n) (right-in lo S n g h).0,
        even (far_before S n) (far-before-in S n g h).0,
        even (far_after S n) (far-after-in S n g h).0,
      ))
      (λ j h.
      let both = counts S in
      sym (highs-past (unpredicted wrap32) z j h ∙ lows-past (unupdated wrap32) (ahead S hi) low N y j (omega arith)))

-- ---- a line deinterleaved into halves at the front of memory, and lifted there
module _ (S : Side) (x z : ℕ → ℤ) where
  abbrev there : ℕ → ℤ
  there = windowed 0 S.length (deinterleaved_into S x z)

  there-at : (j : ℕ) → j < S.length → there j ≡ deinterleaved_into S x z j
  there-at j b = let k : 0 + j ≡ j = omega arith in window-in 0 S.length (deinterleaved_into S x z) j b ∙ ap (deinterleaved_into S x z) k

  deinterleaved-low : (n : ℕ) → n < count lo S → there n ≡ deinterleaved S x lo n
  unfolding deinterleaved_into
  deinterleaved-low n b = let both = counts S in there-at n (omega arith) ∙ halves-low S (deinterleaved S x) z n b

  deinterleaved-high : (n : ℕ) → n < count hi S → there (count lo S + n) ≡ deinterleaved S x hi n
  unfolding deinterleaved_into
  deinterleaved-high n b =
      let both = counts S in
      let k : count lo S + n - count lo S ≡ n = omega arith in
      there-at (count lo S + n) (omega arith) ∙ halves-high S (deinterleaved S x) z (count lo S + n) (omega arith) (omega arith) ∙ ap (deinterleaved S x hi) k

  -- the halves there are those of the line
  line-there : (i : ℕ) → i < S.length → joined S (halves_of S there) i ≡ x i
  unfolding halves_of
  line-there i b = joined-reads S (halves_of S there) (deinterleaved S x) each i b ∙ joined-deinterleaved S x i
    where
      each : (h : Half) (n : ℕ) → n < count h S → halves_of S there h n ≡ deinterleaved S x h n
      each lo n c = deinterleaved-low n c
      each hi n c = deinterleaved-high n c

  same : (h : Half) (n : ℕ) → n < count h S → line_forward wrap32 S (joined S (halves_of S there)) h n ≡ line_forward wrap32 S x h n
  same h n b = forward-reads wrap32 S (joined S (halves_of S there)) x h n b (λ i l _. line-there i l)

  forward-lifted : spliced 0 S.length (lifted_in_place S there) (deinterleaved_into S x z) ≡ forward_into S x z
  unfolding lifted_in_place forward_into deinterleaved_into
  forward-lifted =
      let both = counts S in
      let c = line_forward wrap32 S (joined S (halves_of S there)) in
      let u = in_halves S c there in
      let v = deinterleaved_into S x z in
      sym
      (halves_are S (line_forward wrap32 S x) z (spliced 0 S.length u v)
      (λ n b.
      let k : n - 0 ≡ n = omega arith in
      sym (splice-in 0 S.length u v n (omega arith) (omega arith) ∙ ap u k ∙ halves-low S c there n b ∙ same lo n b))
      (λ n b.
      let k : count lo S + n - 0 ≡ count lo S + n = omega arith in
      let m : count lo S + n - count lo S ≡ n = omega arith in
      sym
      (splice-in 0 S.length u v (count lo S + n) (omega arith) (omega arith)
      ∙ ap u k
      ∙ halves-high S c there (count lo S + n) (omega arith) (omega arith)
      ∙ ap (c hi) m
      ∙ same hi n b))
      (λ j b. sym (splice-past 0 S.length u v j (omega arith) ∙ halves-past S (deinterleaved S x) z j b)))

pub forward-front : (S : Side) (k : ℕ) (x z : ℕ → ℤ) (to o : List ℤ) → k ≡ S.length → S.length ≤ length to → length o ≡ length (mid_of 0 k to)
    → at o ≡ lifted_in_place (side S.start (length (mid_of 0 k to))) (at (mid_of 0 k to)) → at to ≡ deinterleaved_into S x z
    → at (put_mid 0 k to o) ≡ forward_into S x z
forward-front S k x z to o e room size is from =
    let mid = length-mid 0 k to (omega arith) in
    let one : side S.start (length (mid_of 0 k to)) ≡ S = ap (side S.start) (mid ∙ e) in
    at-put 0 k to o (omega arith) (omega arith)
    ∙ cc (is, one, e, from, at_mid 0 k to)
    ∙ forward-lifted S x z
