-- Questions asked in plain numbers (specs/Asks): there is one answer, a yes goes on, and a test that says exactly what is asked gives it; the limits of Limits
-- are the plain ones. Assumes nothing.
use mathlib.Core.Path.{◌≡◌, refl}
use mathlib.Core.Bool.{Bool, true, false}
use mathlib.Core.Logic.{◌↔◌}
use Prim.Native.Nat.{ℕ, ◌≤◌, ◌<◌}
use native.Mathlib.Omega.{arith}
use lib.Dec.{leb}
use borrow.Author.Tests.{leb-true, le-leb}
use Rattle.wavelet.specs.Limits.{max_width, max_height, max_levels}
use Rattle.wavelet.specs.Questions.{ask, within}
use Rattle.wavelet.specs.Asks.{Asks, yes, no, Width, Height, Known, Levels, ShapeAsks}
use Rattle.wavelet.proofs.QuestionLaws.{within-true, within-yes}

-- ---- one answer
abbrev pub One : (ℕ → Type 0) → Type 0
One R = (p q : ℕ) → R p → R q → p ≡ q

module _ {n : ℕ} {P : Type 0} {rest : ℕ → Type 0} where
  pub one-asks : One rest → One (Asks n P rest)
  one-asks o p q (yes a r) (yes b s) = o p q r s
  one-asks o p q (yes a r) (no h) = absurd (h a)
  one-asks o p q (no h) (yes b s) = absurd (h b)
  one-asks o p q (no h) (no g) = refl

  -- ---- a yes, by what was asked and by the answer 0
  pub went : {q : ℕ} → Asks n P rest q → P → rest q
  went (yes a r) p = r
  went (no h) p = absurd (h p)

  pub passed : {q : ℕ} → 0 < n → Asks n P rest q → q ≡ 0 → P × rest q
  passed s (yes a r) e = (a, r)
  passed s (no h) e = absurd (omega arith)

  -- ---- a test that says exactly P
  pub asked : (b : Bool) (q : ℕ) → (b ≡ true ↔ P) → rest q → Asks n P rest (ask b n q)
  asked true q e r = yes (e.0 refl) r
  asked false q e r = no (λ p. let t : false ≡ true = e.1 p in let z : ◌≡◌ {A = ℕ} 0 1 = cc in omega arith)

-- 2, 3, 18 and 4 pass, and what follows them
module _ {f w h L : ℕ} {rest : ℕ → Type 0} where
  pub shape-went : {q : ℕ} → ShapeAsks f w h L rest q → Width w → Height h → Known f → Levels f L → rest q
  shape-went a p r k l = went (went (went (went a p) r) k) l

  pub shape-passed : {q : ℕ} → ShapeAsks f w h L rest q → q ≡ 0 → Width w × Height h × Known f × Levels f L × rest q
  shape-passed a e =
      let p = passed (omega arith) a e in
      let r = passed (omega arith) p.1 e in
      let k = passed (omega arith) r.1 e in
      let l = passed (omega arith) k.1 e in
      (p.0, r.0, k.0, l.0, l.1)

-- ---- tests of numbers
pub least-most : (b n : ℕ) → within 1 b n ≡ true ↔ (1 ≤ n) × (n ≤ b)
least-most b n = (within-true 1 b n, λ h. within-yes 1 b n h.0 h.1)

pub room : (m n : ℕ) → leb m n ≡ true ↔ m ≤ n
room m n = (leb-true m n, le-leb m n)

-- ---- the limits
pub width-exactly : (w : ℕ) → within 1 max_width w ≡ true ↔ Width w
unfolding max_width
width-exactly w = (
  λ e. let p = within-true 1 max_width w e in (p.0, omega (arith, p.1)),
  λ h. within-yes 1 max_width w h.0 (omega (arith, h.1)),
)

pub height-exactly : (h : ℕ) → within 1 max_height h ≡ true ↔ Height h
unfolding max_height
height-exactly h = (
  λ e. let p = within-true 1 max_height h e in (p.0, omega (arith, p.1)),
  λ d. within-yes 1 max_height h d.0 (omega (arith, d.1)),
)

pub levels-exactly : (L : ℕ) → within 1 max_levels L ≡ true ↔ Levels 0 L
unfolding max_levels
levels-exactly L = (
  λ e. let p = within-true 1 max_levels L e in (p.0, omega (arith, p.1)),
  λ d. within-yes 1 max_levels L d.0 (omega (arith, d.1)),
)
