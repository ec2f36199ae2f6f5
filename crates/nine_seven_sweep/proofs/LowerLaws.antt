-- The columns back: a turn lifts low row n back, and the high row whose last low row it is. Assumes nothing.
use mathlib.Core.Path.{◌≡◌, refl, sym, ◌∙◌}
use mathlib.Core.Logic.{◌≢◌}
use Prim.Native.Nat.{ℕ, ◌+◌, ◌-◌, ◌*◌, ◌%◌, ◌≤◌, ◌<◌}
use native.Mathlib.Decide.{dec_lt, ℕ_discrete}
use native.Mathlib.Omega.{arith}
use lib.IntN.{ℤ}
use borrow.Author.Tests.{lt-ltb, le-ltb, le-leb, lt-leb}
use Rattle.numbers.specs.Word.{wrap32}
use Rattle.lifting.specs.Line.{Half, lo, hi}
use Rattle.lifting.specs.Grid.{Side, count, place, deinterleaved, joined}
use Rattle.lifting.proofs.GridLaws.{ahead, joined-place, place-in, in_place, by_place}
use Rattle.lifting.proofs.Neighbours.{left, right, left-in, right-in}
use Rattle.nine_seven.specs.NineSeven.{unpredicted, unupdated, line_halves_back, line_back}
use Rattle.nine_seven.proofs.MirrorLaws.{far_before, far_after, far-first, far-more, far-last, far-less, far-before-in, far-after-in}
use Rattle.nine_seven.proofs.NineSevenLaws.{even-near, odd-near}
use Rattle.nine_seven_sweep.specs.Columns.{column, columns_back}
use Rattle.nine_seven_sweep.specs.Passes.{Rows, high_changed, low_changed, high_turn, low_turn}
use Rattle.nine_seven_sweep.proofs.Fronts.{Apart, Fronts, begin, by_two, by-four, low-done, high-done, low-none, end}

apart : (H : Side) → Apart H (place H)
unfolding place
apart H =
    record {
      inside = place-in H;
      one = one';
      two = λ n m i j. omega arith;
    }
  where
    one' : (k : Half) (n m : ℕ) → n ≢ m → place H k n ≢ place H k m
    one' lo n m d = omega arith
    one' hi n m d = omega arith

-- the high rows that low row n goes by are those from n − 2 + b on, b being the parity of the first row
module _ (H : Side) (n : ℕ) (more : 1 < H.length) (g : n < count lo H) where
  left-from : n - (2 - H.start % 2) ≤ left hi H n
  unfolding count
  left-from = omega arith

  right-from : n - (2 - H.start % 2) ≤ right hi H n
  unfolding count
  right-from = omega arith

-- the low rows that high row m goes by are those up to n, where m is n − 2 + b
module _ (H : Side) (m : ℕ) (more : 1 < H.length) (g : m < count hi H) where
  left_below : left lo H m < m + (2 - H.start % 2) + 1
  left_below = omega arith

  right-below : right lo H m < m + (2 - H.start % 2) + 1
  right-below = omega arith

  before-below : far_before H m < m + (2 - H.start % 2) + 1
  before-below =
      elim (ℕ_discrete m 0) [
        | yes e ↦ let f = far-first (count lo H) 0 (ahead H lo) m e in omega arith
        | no d ↦ let f = far-more (count lo H) 0 (ahead H lo) m (omega arith) in omega arith
      ]

  after-below : far_after H m < m + (2 - H.start % 2) + 1
  unfolding count
  after-below =
      elim (ℕ_discrete (m + 1) (count hi H)) [
        | yes e ↦ let f = far-last (count lo H) (count hi H) (ahead H lo) m e in omega arith
        | no d ↦ let f = far-less (count lo H) (count hi H) (ahead H lo) m (omega arith) in omega arith
      ]

up-to : (n d k : ℕ) → d ≤ n → k < n - d + d + 1 → k < n + 1
up-to n d k h g = omega arith

-- before turn n
abbrev backward : ℕ → Side → (ℕ → ℤ) → Half → ℕ → ℕ → ℤ
backward s H x₀ k n c = line_halves_back wrap32 H (deinterleaved H (column s x₀ c)) k n

abbrev pub Lowered : ℕ → ℕ → Side → (ℕ → ℤ) → ℕ → (ℕ → ℤ) → Type 0
Lowered s w H x₀ n x = Fronts s w H (place H) (backward s H x₀) x₀ n (n - (2 - H.start % 2)) x

pub lower-start : (s w : ℕ) (H : Side) (x₀ : ℕ → ℤ) → Lowered s w H x₀ 0 x₀
lower-start s w H x₀ = let z : 0 - (2 - H.start % 2) ≡ 0 = omega arith in rw z (begin s w H (place H) (backward s H x₀) x₀)

module _ (N s w : ℕ) (H : Side) (x₀ : ℕ → ℤ) (R : Rows N s w H.length) (more : 1 < H.length) where
  abbrev halves : ℕ → Half → ℕ → ℤ
  halves c = deinterleaved H (column s x₀ c)

  abbrev made : Half → ℕ → ℕ → ℤ
  made = backward s H x₀

  abbrev P : Half → ℕ → ℕ
  P = place H

  stands : (k : Half) (n c : ℕ) → x₀ (place H k n * s + c) ≡ halves c k n
  unfolding deinterleaved column
  stands k n c = refl

  even_is : (n c : ℕ) → n < count lo H → made lo n c ≡
      unupdated wrap32 (x₀ (P lo n * s + c)) (x₀ (P hi (left hi H n) * s + c)) (x₀ (P hi (right hi H n) * s + c))
  even_is n c b = cc (even-near H more wrap32 (halves c) n b, stands lo n c, stands hi (left hi H n) c, stands hi (right hi H n) c)

  odd_is : (n c : ℕ) → n < count hi H → made hi n c ≡
      unpredicted wrap32 (x₀ (P hi n * s + c)) (made lo (left lo H n) c) (made lo (right lo H n) c) (made lo (far_before H n) c) (made lo (far_after H n) c)
  odd_is n c b = cc (odd-near H more wrap32 (halves c) n b, stands hi n c)

  -- low row n, where there is one
  lower-low : (n : ℕ) (x x' : ℕ → ℤ) → x' ≡ low_turn (unupdated wrap32) (place H) N s w H n 0 x → Lowered s w H x₀ n x →
      Fronts s w H (place H) made x₀ (n + 1) (n - (2 - H.start % 2)) x'
  lower-low n x x' is F =
      let z : n - 0 ≡ n = omega arith in
      elim (dec_lt n (count lo H)) [
        | no d ↦
            let e : x' ≡ x = is ∙ simp (le-leb 0 n (omega arith), z, le-ltb n (count lo H) (omega arith)) in
            rw e (low-none s w H (place H) made x₀ n (n - (2 - H.start % 2)) x (omega arith) F)
        | yes b ↦
            let A = apart H in
            let e : x' ≡ low_changed (unupdated wrap32) (place H) N s w H n x = is ∙ simp (le-leb 0 n (omega arith), z, lt-ltb n (count lo H) b) in
            let l = (left-in hi H n more b).0 in
            let r = (right-in hi H n more b).0 in
            let S = by_two N s w H.length R x x' (unupdated wrap32) (P lo n) (P hi (left hi H n)) (P hi (right hi H n)) (A.inside lo n b)
            (A.inside hi (left hi H n) l) (A.inside hi (right hi H n) r) e in
            low-done s w H (place H) made x₀ A R.wide x x' n (n - (2 - H.start % 2)) F _ b S
            (λ c cw. cc (
              even_is n c b,
              F.rest_lows n c cw (omega arith) b,
              F.rest_highs (left hi H n) c cw (left-from H n more b) l,
              F.rest_highs (right hi H n) c cw (right-from H n more b) r,
            ))
      ]

  -- and the high row behind it
  lower_high : (n : ℕ) (x x' : ℕ → ℤ) → n ≤ count hi H + (1 - H.start % 2) →
      x' ≡ high_turn (unpredicted wrap32) (place H) N s w H n (2 - H.start % 2) x →
      Fronts s w H (place H) made x₀ (n + 1) (n - (2 - H.start % 2)) x → Lowered s w H x₀ (n + 1) x'
  lower_high n x x' nh is F =
      elim (dec_lt n (2 - H.start % 2)) [
        | yes b ↦
            let e : x' ≡ x = is ∙ simp (lt-leb (2 - H.start % 2) n b) in
            let z : n + 1 - (2 - H.start % 2) ≡ n - (2 - H.start % 2) = omega arith in
            rw (e, z) F
        | no d ↦
            let A = apart H in
            let m = n - (2 - H.start % 2) in
            let mh : m < count hi H = omega arith in
            let z : n + 1 - (2 - H.start % 2) ≡ m + 1 = omega arith in
            let e : x' ≡ high_changed (unpredicted wrap32) (place H) N s w H m x =
            is ∙ simp (le-leb (2 - H.start % 2) n (omega arith), lt-ltb m (count hi H) mh) in
            let l = (left-in lo H m more mh).0 in
            let r = (right-in lo H m more mh).0 in
            let f = (far-before-in H m more mh).0 in
            let a = (far-after-in H m more mh).0 in
            let lb = up-to n (2 - H.start % 2) _ (omega arith) (left_below H m more mh) in
            let rb = up-to n (2 - H.start % 2) _ (omega arith) (right-below H m more mh) in
            let fb = up-to n (2 - H.start % 2) _ (omega arith) (before-below H m more mh) in
            let ab = up-to n (2 - H.start % 2) _ (omega arith) (after-below H m more mh) in
            let S = by-four N s w H.length R x x' (unpredicted wrap32) (P hi m) (P lo (left lo H m)) (P lo (right lo H m)) (P lo (far_before H m))
            (P lo (far_after H m)) (A.inside hi m mh) (A.inside lo (left lo H m) l) (A.inside lo (right lo H m) r) (A.inside lo (far_before H m) f)
            (A.inside lo (far_after H m) a) e in
            rw z
            (high-done s w H (place H) made x₀ A R.wide x x' (n + 1) m F _ mh S
            (λ c cw. cc (
              odd_is m c mh,
              F.rest_highs m c cw (omega arith) mh,
              F.lows (left lo H m) c cw lb l,
              F.lows (right lo H m) c cw rb r,
              F.lows (far_before H m) c cw fb f,
              F.lows (far_after H m) c cw ab a,
            )))
      ]

  pub lower-turn : (n : ℕ) (x x₁ x₂ : ℕ → ℤ) → n ≤ count hi H + (1 - H.start % 2) → x₁ ≡ low_turn (unupdated wrap32) (place H) N s w H n 0 x →
      x₂ ≡ high_turn (unpredicted wrap32) (place H) N s w H n (2 - H.start % 2) x₁ → Lowered s w H x₀ n x → Lowered s w H x₀ (n + 1) x₂
  lower-turn n x x₁ x₂ nh e₁ e₂ F = lower_high n x₁ x₂ nh e₂ (lower-low n x x₁ e₁ F)

  pub lower-end : (n : ℕ) (x : ℕ → ℤ) → count hi H + 2 - H.start % 2 ≤ n → Lowered s w H x₀ n x → x ≡ columns_back s w H x₀
  unfolding columns_back line_back count
  lower-end n x b F =
      end s w H (place H) made x₀ n (n - (2 - H.start % 2)) x (λ y. line_back wrap32 H (deinterleaved H y)) (omega (arith, R.some, R.wide)) (omega arith)
      (omega arith) F
      (λ q c qh cw lows highs.
      by_place H (λ i. i < H.length → x (i * s + c) ≡ joined H (line_halves_back wrap32 H (halves c)) i)
      (λ k m i. all c lows highs k m (in_place H k m i) ∙ sym (joined-place H (line_halves_back wrap32 H (halves c)) k m)) q qh)
    where
      all : (c : ℕ) → ((n : ℕ) → n < count lo H → x (P lo n * s + c) ≡ made lo n c) → ((n : ℕ) → n < count hi H → x (P hi n * s + c) ≡ made hi n c) →
          (k : Half) (m : ℕ) → m < count k H → x (P k m * s + c) ≡ made k m c
      all c lows highs lo m i = lows m i
      all c lows highs hi m i = highs m i
