-- The reader's set-up and feed in plain numbers (wavelet's Asks):
--     set-up-asks          the set-up's answer is the number of the first question that says no, and 0 where none does
--     set-up-passes        so it passes exactly where 1 ≤ W ≤ 2,049, 1 ≤ H ≤ 4,294,967,295, the filter is 0 or 1, 1 ≤ L ≤ 5 (4 by the 9/7) and the store is as
--                          long as is needed
--     feed-asks            a feed's answer is the number of the first question that says no; 7: a number's size is above 65,535 × 4^k (6^k by the 9/7)
-- Assumes nothing.
use mathlib.Core.Path.{◌≡◌, refl}
use mathlib.Core.Bool.{Bool, true, false, not}
use mathlib.Core.Logic.{◌↔◌}
use Prim.Native.Nat.{ℕ, ◌+◌, ◌≤◌, ◌<◌}
use native.Mathlib.Omega.{arith}
use lib.IntN.{ℤ, nat_abs}
use lib.Dec.{leb, eqb}
use borrow.Author.Tests.{leb-true, le-leb, eqb-true, eq-eqb}
use Rattle.numbers.proofs.TestLaws.{every-each, each-every}
use Rattle.lifting.specs.Grid.{Side}
use Rattle.wavelet.specs.Limits.{max_width, max_height, range}
use Rattle.wavelet.specs.Questions.{within}
use Rattle.wavelet.specs.Asks.{Width, Height, Known, Levels, needed, largest, ReaderSetUpAsks}
use Rattle.wavelet.proofs.AskLaws.{went, passed, asked, shape-went, shape-passed, width-exactly, height-exactly}
use Rattle.filters.specs.Filters.{filter_of, is_filter}
use Rattle.filters.specs.Figures.{store_by}
use Rattle.filters.proofs.PlainFigures.{known-exactly, levels-exactly, store-exactly, range-is}
use Rattle.level.specs.Tried.{fits}
use Rattle.reader.specs.declared.Reader.{Reader}
use Rattle.reader.specs.State.{columns, needs, next, next_length, row_due, feeds}
use Rattle.reader.specs.Questions.{counts_fit, store_fits, run_fits, set_up_question, feed_question}
use Rattle.reader.specs.Plain.{FeedAsks}

pub store-fits-exactly : (f : ℕ) (W : Side) (L n : ℕ) → store_fits (store_by f W L) n ≡ true ↔ needed f W L ≤ n
unfolding store_fits
store-fits-exactly f W L n = store-exactly f W L n

-- e numbers more
needed-is : (f : ℕ) (W : Side) (L : ℕ) → needed f W L ≡ store_by f W L
needed-is f W L =
    let a = (store-exactly f W L (needed f W L)).1 (omega arith) in
    let b = (store-exactly f W L (store_by f W L)).0 (le-leb (store_by f W L) (store_by f W L) (omega arith)) in
    omega (arith, leb-true (store_by f W L) (needed f W L) a, b)

pub spare-fits-exactly : (f e : ℕ) (W : Side) (L n : ℕ) → store_fits (e + store_by f W L) n ≡ true ↔ e + needed f W L ≤ n
unfolding store_fits
spare-fits-exactly f e W L n =
    let z = needed-is f W L in
    (λ h. omega (arith, z, leb-true (e + store_by f W L) n h), λ h. le-leb (e + store_by f W L) n (omega (arith, z)))

module _ (f : ℕ) (W H : Side) (L n : ℕ) where
  pub set-up-asks : ReaderSetUpAsks f W H L n (set_up_question f W H L n)
  unfolding set_up_question
  set-up-asks =
      asked (within 1 max_width W.length) _ (width-exactly W.length)
      (asked (within 1 max_height H.length) _ (height-exactly H.length)
      (asked (is_filter f) _ (known-exactly f)
      (asked (within 1 (filter_of f).levels L) _ (levels-exactly f L)
      (asked (store_fits (store_by f W L) n) _ (store-fits-exactly f W L n) refl))))

  pub set-up-passes : set_up_question f W H L n ≡ 0 ↔ Width W.length × Height H.length × Known f × Levels f L × (needed f W L ≤ n)
  set-up-passes = (
    λ e. let p = shape-passed set-up-asks e in (p.0, p.1, p.2, p.3, (passed (omega arith) p.4 e).0),
    λ p. went (shape-went set-up-asks p.0 p.1 p.2 p.3) p.4,
  )

-- ---- a feed
not-exactly : (t : Bool) → not t ≡ true ↔ t ≡ false
not-exactly true = (λ e. let z : ◌≡◌ {A = ℕ} 0 1 = cc in absurd (omega arith), λ e. let z : ◌≡◌ {A = ℕ} 0 1 = cc in absurd (omega arith))
not-exactly false = (λ e. refl, λ e. refl)

-- a run of n numbers v, fed as a row of level k
pub run-exactly : (f k n : ℕ) (v : ℕ → ℤ) → run_fits f k n v ≡ true ↔ ((i : ℕ) → i < n → nat_abs (v i) ≤ largest f k)
unfolding run_fits
run-exactly f k n v = (
  λ e i h. omega (arith, leb-true (nat_abs (v i)) (range (filter_of f) k) (every-each n (λ i. leb (nat_abs (v i)) (range (filter_of f) k)) e i h), range-is f k),
  λ g. each-every n (λ i. leb (nat_abs (v i)) (range (filter_of f) k)) (λ i h. le-leb (nat_abs (v i)) (range (filter_of f) k) (omega (arith, g i h, range-is f k))),
)

pub feed-asks : (s : Reader) (n : ℕ) (x : ℕ → ℤ) (m : ℕ) (v : ℕ → ℤ) → FeedAsks s n x m v (feed_question s n x m v)
unfolding feed_question
feed-asks s n x m v =
    asked (counts_fit s) _ (λ e. e, λ e. e)
    (asked (store_fits (needs s) n) _ (spare-fits-exactly s.filter s.spare (columns s) s.levels n)
    (asked (not s.ended) _ (not-exactly s.ended)
    (asked (row_due s) _ (λ e. e, λ e. e)
    (asked (eqb m (next_length s)) _ (eqb-true m (next_length s), eq-eqb m (next_length s))
    (asked (run_fits s.filter (s.stop + (next s).level) m v) _ (run-exactly s.filter (s.stop + (next s).level) m v)
    (asked (fits (feeds s v x)) _ (λ e. e, λ e. e) refl))))))
