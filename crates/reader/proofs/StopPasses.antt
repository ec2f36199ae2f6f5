-- The set-up with a stop and the size of a level in plain numbers (specs/StopAsks):
--     stop-asks            the set-up's answer is the number of the first of 2, 3, 18, 4, 17 and 5 that says no, and 0 where none does
--     stop-passes          so it passes exactly where 1 ≤ W ≤ 2,049, 1 ≤ H ≤ 4,294,967,295, the filter is 0 or 1, 1 ≤ L ≤ 5 (4 by the 9/7), 1 ≤ j ≤ L and the
--                          store is as long as the whole map needs
--     size-asks            the size's answer is that of 2, 3, 18, 4 and 17
--     size-passes          so it passes where the set-up does, whatever the store
-- Assumes nothing.
use mathlib.Core.Path.{◌≡◌, refl}
use mathlib.Core.Bool.{true}
use mathlib.Core.Logic.{◌↔◌}
use Prim.Native.Nat.{ℕ, ◌≤◌}
use native.Mathlib.Omega.{arith}
use Rattle.lifting.specs.Grid.{Side}
use Rattle.wavelet.specs.Limits.{max_width, max_height}
use Rattle.wavelet.specs.Questions.{within}
use Rattle.wavelet.specs.Asks.{Width, Height, Known, Levels, needed}
use Rattle.wavelet.proofs.AskLaws.{went, passed, asked, shape-went, shape-passed, least-most, width-exactly, height-exactly}
use Rattle.filters.specs.Filters.{filter_of, is_filter}
use Rattle.filters.specs.Figures.{store_by}
use Rattle.filters.proofs.PlainFigures.{known-exactly, levels-exactly}
use Rattle.reader.specs.Questions.{store_fits, stop_and_store, stop_question, level_question}
use Rattle.reader.specs.StopAsks.{Stop, StopAsks, SizeAsks}
use Rattle.reader.proofs.SetUpPasses.{store-fits-exactly}

module _ (f : ℕ) (W H : Side) (L j n : ℕ) where
  pub stop-asks : StopAsks f W H L j n (stop_question f W H L j n)
  unfolding stop_question stop_and_store
  stop-asks =
      asked (within 1 max_width W.length) _ (width-exactly W.length)
      (asked (within 1 max_height H.length) _ (height-exactly H.length)
      (asked (is_filter f) _ (known-exactly f)
      (asked (within 1 (filter_of f).levels L) _ (levels-exactly f L)
      (asked (within 1 L j) _ (least-most L j)
      (asked (store_fits (store_by f W L) n) _ (store-fits-exactly f W L n) refl)))))

  pub stop-passes : stop_question f W H L j n ≡ 0 ↔
      Width W.length × Height H.length × Known f × Levels f L × Stop L j × (needed f W L ≤ n)
  stop-passes = (
    λ e.
        let p = shape-passed stop-asks e in
        let s = passed (omega arith) p.4 e in
        (p.0, p.1, p.2, p.3, s.0, (passed (omega arith) s.1 e).0),
    λ p. went (went (shape-went stop-asks p.0 p.1 p.2 p.3) p.4) p.5,
  )

module _ (f w h L k : ℕ) where
  pub size-asks : SizeAsks f w h L k (level_question f w h L k)
  unfolding level_question
  size-asks =
      asked (within 1 max_width w) _ (width-exactly w)
      (asked (within 1 max_height h) _ (height-exactly h)
      (asked (is_filter f) _ (known-exactly f)
      (asked (within 1 (filter_of f).levels L) _ (levels-exactly f L)
      (asked (within 1 L k) _ (least-most L k) refl))))

  pub size-passes : level_question f w h L k ≡ 0 ↔ Width w × Height h × Known f × Levels f L × Stop L k
  size-passes = (
    λ e. let p = shape-passed size-asks e in (p.0, p.1, p.2, p.3, (passed (omega arith) p.4 e).0),
    λ p. went (shape-went size-asks p.0 p.1 p.2 p.3) p.4,
  )
