-- The writer's set-up in plain numbers (wavelet's Asks):
--     set-up-asks          its answer is the number of the first question that says no, and 0 where none does
--     set-up-passes        so it passes exactly where 1 ≤ W ≤ 2,049, the filter is 0 or 1, 1 ≤ L ≤ 5 (4 by the 9/7) and the store is as long as is needed
-- Assumes nothing.
use mathlib.Core.Path.{◌≡◌, refl}
use mathlib.Core.Bool.{Bool, true, false}
use mathlib.Core.Logic.{◌↔◌}
use Prim.Native.Nat.{ℕ, ◌≤◌}
use native.Mathlib.Omega.{arith}
use lib.Dec.{leb}
use borrow.Author.Tests.{leb-true, leb-false, le-leb, eqb-true, eqb-false}
use Rattle.lifting.specs.Grid.{Side}
use Rattle.wavelet.specs.Limits.{max_width}
use Rattle.wavelet.specs.Questions.{within}
use Rattle.wavelet.specs.Asks.{Width, Known, Levels}
use Rattle.wavelet.proofs.AskLaws.{went, passed, asked, width-exactly}
use Rattle.filters.specs.Filters.{filter_of, is_filter}
use Rattle.filters.specs.Figures.{writer_store_by}
use Rattle.filters.proofs.PlainFigures.{levels-exactly, needed-is}
use Rattle.writer.specs.Questions.{known, set_up_question}
use Rattle.writer.specs.Asks.{writer_needed, WriterSetUpAsks}

-- question 18
known_is : (f : ℕ) → known f ≡ true ↔ Known f
unfolding is_filter
known_is f = (λ e. omega (arith, leb-true, eqb-true), λ h. go (known f) refl h)
  where
    go : (t : Bool) → known f ≡ t → f ≤ 1 → t ≡ true
    go true e h = refl
    go false e h = absurd (omega (arith, leb-false, eqb-false))

module _ (f : ℕ) (W : Side) (L n : ℕ) where
  store_is : leb (writer_store_by f W L) n ≡ true ↔ writer_needed f W L ≤ n
  store_is = (
    λ e. omega (arith, leb-true (writer_store_by f W L) n e, needed-is f W L),
    λ h. le-leb (writer_store_by f W L) n (omega (arith, h, needed-is f W L)),
  )

  pub set-up-asks : WriterSetUpAsks f W L n (set_up_question f W L n)
  unfolding set_up_question
  set-up-asks =
      asked (within 1 max_width W.length) _ (width-exactly W.length)
      (asked (known f) _ (known_is f)
      (asked (within 1 (filter_of f).levels L) _ (levels-exactly f L)
      (asked (leb (writer_store_by f W L) n) _ store_is refl)))

  pub set-up-passes : set_up_question f W L n ≡ 0 ↔ Width W.length × Known f × Levels f L × (writer_needed f W L ≤ n)
  set-up-passes = (
    λ e.
        let w = passed (omega arith) set-up-asks e in
        let k = passed (omega arith) w.1 e in
        let l = passed (omega arith) k.1 e in
        let s = passed (omega arith) l.1 e in
        (w.0, k.0, l.0, s.0),
    λ p. went (went (went (went set-up-asks p.0) p.1) p.2) p.3,
  )
