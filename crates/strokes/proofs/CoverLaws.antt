-- The window of one direction holds all that the reach of the changed places depends on, at every level. Q is 2 to the power of the levels left. Assumes
-- nothing.
use mathlib.Core.Path.{◌≡◌}
use mathlib.Core.Logic.{inl, inr, ⊎_elim}
use mathlib.Core.Bool.{true}
use Prim.Native.Nat.{ℕ, ◌+◌, ◌-◌, ◌*◌, ◌/◌, ◌≤◌, ◌<◌}
use native.Mathlib.Nat.{mul_assoc}
use native.Mathlib.Omega.{arith}
use borrow.Author.Tests.{leb-true}
use Rattle.numbers.proofs.Sweep.{both as both_yes}
use Rattle.lifting.specs.Line.{Half, lo, hi}
use Rattle.lifting.specs.Grid.{side, count}
use Rattle.strokes.specs.Reach.{Span, reached, low_span}
use Rattle.strokes.specs.Local.{Cut, Cover}

-- number n of a half, in a window: its number there, and that it is right
pub record Held (u v t w : ℕ) (h : Half) (n : ℕ) : Type 0 where
  pub past : t ≤ n
  pub in-half : n - t < count h (side 0 w)
  pub left : v ≤ n - t
  pub right : n - t + u < (w + 1) / 2

module _ (u v N a t w : ℕ) (s : Span) (C : Cut u v N a t w) where
  -- the window of the next level
  pub cut-next : (t' : ℕ) → t ≡ 2 * t' → Cut u v (count lo (side 0 N)) t t' (count lo (side 0 w))
  unfolding count
  cut-next t' e =
      let c = C.even in
      let i = C.inside in
      record {
        even = e;
        inside = omega arith;
        left = ⊎_elim (λ k. inl (k.0, omega arith)) (λ k. inr k) C.left;
        right = ⊎_elim (λ k. inl (k.0, omega arith)) (λ k. inr k) C.right;
      }

  pub cover-next : (q : ℕ) → Cover u v (2 * q) a w s → Cover u v q t (count lo (side 0 w)) (low_span s)
  unfolding count low_span
  cover-next q K =
      let c = C.even in
      let m = mul_assoc 2 q K.times in
      record {
        times = K.times;
        left = ⊎_elim (λ e. inl e) (λ e. inr (omega arith)) K.left;
        right = ⊎_elim (λ e. inl e) (λ e. inr (omega arith, omega arith)) K.right;
      }

  -- at each end of the window: it is the line's own, or the changed places are far from it
  leftly : {A : Type 0} (Q : ℕ) → ((v ≡ 0) × (a ≡ 0) → A) → ((v ≤ 2) × (a + 3 * Q ≤ s.first + 1) → A) → Cover u v Q a w s → A
  leftly Q own far K = ⊎_elim own (λ two. ⊎_elim (λ z. absurd (omega arith)) (λ k. far (omega arith, k)) K.left) C.left

  rightly : {A : Type 0} (Q : ℕ) (K : Cover u v Q a w s) → ((u ≡ 0) × (a + w ≡ N) → A) →
      ((u ≤ 2) × (a + w ≡ Q * K.times + 1) × (s.last + 3 * Q ≤ a + w) → A) → A
  rightly Q K own far = ⊎_elim own (λ two. ⊎_elim (λ z. absurd (omega arith)) (λ k. far (omega arith, k.0, k.1)) K.right) C.right

  near : (h : Half) (n : ℕ) → reached s h n ≡ true → (2 * n ≤ s.last + 2) × (s.first ≤ 2 * n + 2)
  unfolding reached
  near lo n e = let k = both_yes _ _ e in (leb-true (2 * n) (s.last + 2) k.0, leb-true s.first (2 * n + 2) k.1)
  near hi n e = let k = both_yes _ _ e in let m = leb-true (2 * n) s.last k.0 in (omega arith, leb-true s.first (2 * n + 2) k.1)

  -- what is reached is held
  pub held : (q : ℕ) → 1 ≤ q → Cover u v (2 * q) a w s → (h : Half) (n : ℕ) → n < count h (side 0 N) → reached s h n ≡ true → Held u v t w h n
  unfolding count
  held q some K lo n b e =
      let c = C.even in
      let i = C.inside in
      let k = near lo n e in
      let m = mul_assoc 2 q K.times in
      leftly (2 * q) (λ l. rightly (2 * q) K (λ r. omega arith) (λ r. omega arith)) (λ l. rightly (2 * q) K (λ r. omega arith) (λ r. omega arith)) K
  held q some K hi n b e =
      let c = C.even in
      let i = C.inside in
      let k = near hi n e in
      let m = mul_assoc 2 q K.times in
      leftly (2 * q) (λ l. rightly (2 * q) K (λ r. omega arith) (λ r. omega arith)) (λ l. rightly (2 * q) K (λ r. omega arith) (λ r. omega arith)) K
