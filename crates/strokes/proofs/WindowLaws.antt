-- A window of a line, lifted by itself: away from its ends, or at ends that are the line's own, its values are the line's. The window has w places of N, from
-- the even place a = 2t on. v places at its beginning are not right, and u at its end: none where the end is the line's own, else two, at this level and so at
-- every level below. Assumes nothing.
use mathlib.Core.Path.{◌≡◌, sym, ap, ◌∙◌}
use mathlib.Core.Logic.{⊎_elim}
use Prim.Native.Nat.{ℕ, ◌+◌, ◌-◌, ◌*◌, ◌/◌, ◌≤◌, ◌<◌}
use native.Mathlib.Decide.{dec_lt}
use native.Mathlib.Omega.{arith}
use lib.IntN.{ℤ}
use Rattle.lifting.specs.Line.{Half, lo, hi, predicted, updated}
use Rattle.lifting.specs.Grid.{side, place, count, line_forward}
use Rattle.lifting.proofs.GridLaws.{low-one}
use Rattle.strokes.specs.Local.{Cut, Sound}
use Rattle.strokes.proofs.LineAtZero.{high-inner, high_end, low-inner, low_end}

by_three : (f : ℤ → ℤ → ℤ → ℤ) {x x' a a' b b' : ℤ} → x ≡ x' → a ≡ a' → b ≡ b' → f x a b ≡ f x' a' b'
by_three f p q r = λ i. f (p i) (q i) (r i)

module _ (keep : ℤ → ℤ) (u v N a t w : ℕ) (K : Cut u v N a t w) (x y : ℕ → ℤ) (e : (p : ℕ) → Sound u v w p → y p ≡ x (a + p)) where
  at : (p q : ℕ) → v ≤ p → p + u < w → a + p ≡ q → y p ≡ x q
  at p q l r same = e p (record { left = l; right = r }) ∙ ap x same

  -- a high value away from the end, and at the end of both
  high : (n : ℕ) → v ≤ 2 * n → 2 * n + 2 + u < w → line_forward keep (side 0 w) y hi n ≡ line_forward keep (side 0 N) x hi (t + n)
  high n l r =
      let c = K.even in
      let i = K.inside in
      high-inner keep w y n (omega arith)
      ∙ by_three (predicted keep) (at _ _ (omega arith) (omega arith) (omega arith)) (at _ _ (omega arith) (omega arith) (omega arith))
      (at _ _ (omega arith) (omega arith) (omega arith))
      ∙ sym (high-inner keep N x (t + n) (omega arith))

  high-last : (n : ℕ) → v ≤ 2 * n → u ≡ 0 → a + w ≡ N → 2 * n + 2 ≡ w → line_forward keep (side 0 w) y hi n ≡ line_forward keep (side 0 N) x hi (t + n)
  high-last n l z i r =
      let c = K.even in
      high_end keep w y n r
      ∙ by_three (predicted keep) (at _ _ (omega arith) (omega arith) (omega arith)) (at _ _ (omega arith) (omega arith) (omega arith))
      (at _ _ (omega arith) (omega arith) (omega arith))
      ∙ sym (high_end keep N x (t + n) (omega arith))

  highs : (n : ℕ) → v ≤ 2 * n → 2 * n + 1 < w → n + u < (w + 1) / 2 → line_forward keep (side 0 w) y hi n ≡ line_forward keep (side 0 N) x hi (t + n)
  highs n l b r =
      ⊎_elim
      (λ k. elim (dec_lt (2 * n + 2) w) [ yes p ↦ high n l (omega arith) | no p ↦ high-last n l k.0 k.1 (omega arith) ])
      (λ k. high n l (omega arith)) K.right

  highs-to : (n m k : ℕ) → v ≤ 2 * n → 2 * n + 1 < w → n + u < (w + 1) / 2 → n ≡ k → t + n ≡ m →
      line_forward keep (side 0 w) y hi k ≡ line_forward keep (side 0 N) x hi m
  highs-to n m k l b r from to = ap (line_forward keep (side 0 w) y hi) (sym from) ∙ highs n l b r ∙ ap (line_forward keep (side 0 N) x hi) to

  -- a low value with a high one after it, and without
  low : (n : ℕ) → v ≤ n → 2 * n + 1 < w → n + u < (w + 1) / 2 → line_forward keep (side 0 w) y lo n ≡ line_forward keep (side 0 N) x lo (t + n)
  low n l b r =
      let c = K.even in
      let i = K.inside in
      let z : n - 1 + t ≡ t + n - 1 = ⊎_elim (λ k. omega arith) (λ k. omega arith) K.left in
      low-inner keep w y n b
      ∙ by_three (updated keep) (at _ _ (omega arith) (omega arith) (omega arith))
      (⊎_elim (λ k. highs-to (n - 1) _ _ (omega arith) (omega arith) (omega arith) (omega arith) (omega arith))
      (λ k. highs-to (n - 1) _ _ (omega arith) (omega arith) (omega arith) (omega arith) (omega arith)) K.left)
      (highs n (omega arith) b r)
      ∙ sym (low-inner keep N x (t + n) (omega arith))

  low-last : (n : ℕ) → v ≤ n → 1 < w → u ≡ 0 → a + w ≡ N → 2 * n + 1 ≡ w → line_forward keep (side 0 w) y lo n ≡ line_forward keep (side 0 N) x lo (t + n)
  low-last n l g z i b =
      let c = K.even in
      let h : line_forward keep (side 0 w) y hi (n - 1) ≡ line_forward keep (side 0 N) x hi (t + n - 1) =
      ⊎_elim (λ k. highs-to (n - 1) _ _ (omega arith) (omega arith) (omega arith) (omega arith) (omega arith))
      (λ k. highs-to (n - 1) _ _ (omega arith) (omega arith) (omega arith) (omega arith) (omega arith)) K.left in
      low_end keep w y n b g
      ∙ by_three (updated keep) (at _ _ (omega arith) (omega arith) (omega arith)) h h
      ∙ sym (low_end keep N x (t + n) (omega arith) (omega arith))

  low-single : (n : ℕ) → v ≤ n → n < w → w ≤ 1 → u ≡ 0 → a + w ≡ N → line_forward keep (side 0 w) y lo n ≡ line_forward keep (side 0 N) x lo (t + n)
  unfolding place
  low-single n l b g z i =
      let c = K.even in
      let k : a ≡ 0 = ⊎_elim (λ k. omega arith) (λ k. omega arith) K.left in
      low-one (side 0 w) g keep y n ∙ at _ _ (omega arith) (omega arith) (omega arith) ∙ sym (low-one (side 0 N) (omega arith) keep x (t + n))

  -- the values of the window are the line's
  pub line-window : (h : Half) (n : ℕ) → n < count h (side 0 w) → v ≤ n → n + u < (w + 1) / 2 →
      line_forward keep (side 0 w) y h n ≡ line_forward keep (side 0 N) x h (t + n)
  unfolding count
  line-window hi n b l r = highs n (omega arith) (omega arith) r
  line-window lo n b l r =
      elim (dec_lt (2 * n + 1) w) [
        | yes p ↦ low n l p r
        | no p ↦
            ⊎_elim
            (λ k. elim (dec_lt 1 w) [ yes g ↦ low-last n l g k.0 k.1 (omega arith) | no g ↦ low-single n l (omega arith) (omega arith) k.0 k.1 ])
            (λ k. absurd (omega arith)) K.right
      ]
