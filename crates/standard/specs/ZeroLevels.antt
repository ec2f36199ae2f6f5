-- The levels of a map: "Each level is the same work on the low-low part of the level before it, until L levels are done. Level 1 is the finest."
use Rattle.std.specs.Prelude.{ℕ, zero, suc, ℤ}
use Rattle.lifting.specs.Line.{lo, count}
use Rattle.wavelet.specs.Bands.{Grid, Band, LL}
use Rattle.standard.specs.ZeroBands.{subband}

-- W(0) = W, W(k) = ⌈W(k−1) / 2⌉, and H(k) likewise
unfoldable pub size : ℕ → ℕ → ℕ
size zero N = N
size (suc k) N = count lo (size k N)

-- the low-low part of level k; of level 0 it is the map
unfoldable pub approximation : (ℤ → ℤ) → ℕ → ℕ → Grid → ℕ → Grid
approximation keep W H g zero = g
approximation keep W H g (suc k) = subband keep (size k W) (size k H) (approximation keep W H g k) LL

-- a band of level k, from 1: level k is the low-low part of level k − 1, lifted once
unfoldable pub level_band : (ℤ → ℤ) → ℕ → ℕ → Grid → ℕ → Band → Grid
level_band keep W H g zero b = g
level_band keep W H g (suc k) b = subband keep (size k W) (size k H) (approximation keep W H g k) b
