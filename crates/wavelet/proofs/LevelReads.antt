-- What a band row of a map on the grid reads of the map: rows that are there, and none after row `need`; and where row `need` is there, not the height. So a
-- band row can be made as soon as that row is.
-- Assumes nothing.
use mathlib.Core.Path.{◌≡◌, refl, ap, ◌∙◌}
use Prim.Native.Nat.{ℕ, zero, suc, ◌+◌, ◌*◌, ◌%◌, ◌≤◌, ◌<◌}
use native.Mathlib.Omega.{arith}
use lib.IntN.{ℤ}
use Rattle.lifting.specs.Line.{Half, lo, hi}
use Rattle.lifting.specs.Grid.{Side, side, place, count}
use Rattle.lifting.specs.Filter.{Filter}
use Rattle.lifting.proofs.FilterLaws.{FilterLaws}
use Rattle.wavelet.specs.Bands.{Grid, Band, LL, across, down, subband}
use Rattle.wavelet.specs.Levels.{next, side_at, approximation, level_band}
use Rattle.wavelet.proofs.SideLaws.{start-same}
use Rattle.wavelet.proofs.LevelTheory.{subband-reads, subband-inner}

-- the last row of the map that row r of level k reads, for a filter that reads so far ahead: each level reads up to the place of its low row r + a in the one
-- before it
unfoldable pub need : ℕ → Side → ℕ → ℕ → ℕ
need a H zero r = r
need a H (suc k) r = need a H k (place (side_at k H) lo (r + a))

place_is : (S : Side) (n : ℕ) → place S lo n ≡ 2 * n + S.start % 2
unfolding place
place_is S n = refl

pub need-up : (a : ℕ) (H : Side) (k r s : ℕ) → r ≤ s → need a H k r ≤ need a H k s
unfolding need
need-up a H zero r s h = h
need-up a H (suc k) r s h =
    need-up a H k (place (side_at k H) lo (r + a)) (place (side_at k H) lo (s + a)) (omega (arith, place_is (side_at k H) (r + a), place_is (side_at k H) (s + a)))

-- it goes by the start, not by the height
pub need-same : (a s N N' k r : ℕ) → need a (side s N) k r ≡ need a (side s N') k r
unfolding need place
need-same a s N N' zero r = refl
need-same a s N N' (suc k) r =
    need-same a s N N' k (place (side_at k (side s N)) lo (r + a))
    ∙ ap (λ (c : ℕ). need a (side s N') k (2 * (r + a) + c % 2)) (start-same k s N N')

in-half : (a : ℕ) → 1 ≤ a → (h : Half) (S : Side) (r : ℕ) → place S lo (r + a) < S.length → r < count h S
unfolding place count
in-half a some lo S r p = omega arith
in-half a some hi S r p = omega arith

-- a row whose need is there is there
pub need-there : (a : ℕ) → 1 ≤ a → (H : Side) (k r : ℕ) → need a H k r < H.length → r < (side_at k H).length
unfolding need side_at next
need-there a some H zero r h = h
need-there a some H (suc k) r h = in-half a some lo (side_at k H) r (need-there a some H k (place (side_at k H) lo (r + a)) h)

-- and so is row r of either half of level k, which reads as a row of level k + 1
pub need-in-half : (a : ℕ) → 1 ≤ a → (h : Half) (H : Side) (k r : ℕ) → need a H (suc k) r < H.length → r < count h (side_at k H)
unfolding need
need-in-half a some h H k r p = in-half a some h (side_at k H) r (need-there a some H k (place (side_at k H) lo (r + a)) p)

-- two grids agree on the rows that are there, up to row m
abbrev pub SameTo : Side → Side → ℕ → Grid → Grid → Type 0
SameTo W H m g g' = (i j : ℕ) → i < H.length → i ≤ m → j < W.length → g i j ≡ g' i j

module _ (F : Filter) (laws : FilterLaws F) where
  abbrev a : ℕ
  a = F.ahead

  some : 1 ≤ a
  some = laws.ahead-some

  -- ---- two maps of one size
  module _ (keep : ℤ → ℤ) (W H : Side) (g g' : Grid) where
    pub approximation-reads : (k r c : ℕ) → r < (side_at k H).length → c < (side_at k W).length → SameTo W H (need a H k r) g g' →
        approximation F keep W H g k r c ≡ approximation F keep W H g' k r c
    unfolding approximation side_at next need across down
    approximation-reads zero r c p q e = e r c p (omega arith) q
    approximation-reads (suc k) r c p q e =
        subband-reads F laws keep (side_at k W) (side_at k H) (approximation F keep W H g k) (approximation F keep W H g' k) LL r c p q
        (λ i j u v w. approximation-reads k i j u w
        (λ i' j' u' v' w'. e i' j' u' (omega (arith, need-up a H k i (place (side_at k H) lo (r + a)) v)) w'))

    pub band-reads : (k : ℕ) (b : Band) (r c : ℕ) → r < count (down b) (side_at k H) → c < count (across b) (side_at k W) →
        SameTo W H (need a H (suc k) r) g g' → level_band F keep W H g (suc k) b r c ≡ level_band F keep W H g' (suc k) b r c
    unfolding level_band need
    band-reads k b r c p q e =
        subband-reads F laws keep (side_at k W) (side_at k H) (approximation F keep W H g k) (approximation F keep W H g' k) b r c p q
        (λ i j u v w. approximation-reads k i j u w
        (λ i' j' u' v' w'. e i' j' u' (omega (arith, need-up a H k i (place (side_at k H) lo (r + a)) v)) w'))

  -- ---- one map of two heights that both have row `need`
  -- a level of two grids that agree up to the place of low row r + a, before the end of both
  subband-local : (keep : ℤ → ℤ) (W H H' : Side) (g g' : Grid) (b : Band) (r c : ℕ) → H.start ≡ H'.start → c < count (across b) W →
      place H lo (r + a) < H.length → place H' lo (r + a) < H'.length → SameTo W H (place H lo (r + a)) g g' →
      subband F keep W H g b r c ≡ subband F keep W H' g' b r c
  unfolding place
  subband-local keep W H H' g g' b r c same q h h' e =
      subband-reads F laws keep W H g g' b r c (in-half a some (down b) H r h) q e
      ∙ ap (λ (x : ℕ → ℤ). x c) (subband-inner F laws keep W H.start H.length H'.length g' b r h (rw same h'))
      ∙ ap (λ (s : ℕ). subband F keep W (side s H'.length) g' b r c) same

  module _ (keep : ℤ → ℤ) (W : Side) (s N N' : ℕ) (g : Grid) where
    abbrev H : Side
    H = side s N

    abbrev H' : Side
    H' = side s N'

    -- the other height has the place of low row r + 1 of level k too
    there-too : (k r : ℕ) → need a H (suc k) r < N' → place (side_at k H') lo (r + a) < (side_at k H').length
    unfolding need
    there-too k r h = need-there a some H' k (place (side_at k H') lo (r + a)) (omega (arith, need-same a s N N' (suc k) r))

    pub approximation-inner : (k r c : ℕ) → c < (side_at k W).length → need a H k r < N → need a H k r < N' →
        approximation F keep W H g k r c ≡ approximation F keep W H' g k r c
    unfolding approximation side_at next need across
    approximation-inner zero r c q h h' = refl
    approximation-inner (suc k) r c q h h' =
        subband-local keep (side_at k W) (side_at k H) (side_at k H') (approximation F keep W H g k) (approximation F keep W H' g k) LL r c (start-same k s N N') q
        (need-there a some H k (place (side_at k H) lo (r + a)) h) (there-too k r h')
        (λ i j u v w. let up = need-up a H k i (place (side_at k H) lo (r + a)) v in approximation-inner k i j w (omega arith) (omega arith))

    pub band-inner : (k : ℕ) (b : Band) (r c : ℕ) → c < count (across b) (side_at k W) → need a H (suc k) r < N → need a H (suc k) r < N' →
        level_band F keep W H g (suc k) b r c ≡ level_band F keep W H' g (suc k) b r c
    unfolding level_band need
    band-inner k b r c q h h' =
        subband-local keep (side_at k W) (side_at k H) (side_at k H') (approximation F keep W H g k) (approximation F keep W H' g k) b r c (start-same k s N N') q
        (need-there a some H k (place (side_at k H) lo (r + a)) h) (there-too k r h')
        (λ i j u v w. let up = need-up a H k i (place (side_at k H) lo (r + a)) v in approximation-inner k i j w (omega arith) (omega arith))

  -- both at once: two maps of the same columns and first row, whatever comes after row `need`
  pub band-local : (keep : ℤ → ℤ) (W : Side) (s N N' : ℕ) (g g' : Grid) (k : ℕ) (b : Band) (r c : ℕ) → c < count (across b) (side_at k W) →
      need a (side s N) (suc k) r < N → need a (side s N) (suc k) r < N' → ((i j : ℕ) → i ≤ need a (side s N) (suc k) r → j < W.length → g i j ≡ g' i j) →
      level_band F keep W (side s N) g (suc k) b r c ≡ level_band F keep W (side s N') g' (suc k) b r c
  band-local keep W s N N' g g' k b r c q h h' e =
      let same = need-same a s N N' (suc k) r in
      band-inner keep W s N N' g k b r c q h h'
      ∙ band-reads keep W (side s N') g g' k b r c (need-in-half a some (down b) (side s N') k r (omega arith)) q (λ i j _ v w. e i j (omega arith) w)
