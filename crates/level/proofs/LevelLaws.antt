-- What the theorems above ask of a level, whatever it does: `LevelLaws`. Assumes nothing.
use mathlib.Core.Path.{◌≡◌}
use mathlib.Core.Bool.{false}
use Prim.Native.Nat.{ℕ, suc, ◌+◌, ◌*◌, ◌%◌, ◌≤◌, ◌<◌}
use lib.IntN.{ℤ}
use Rattle.numbers.specs.Signal.{stored}
use Rattle.lifting.specs.Grid.{Side, count}
use Rattle.wavelet.specs.Bands.{Grid, Band, across}
use Rattle.wavelet.specs.Order.{last_set, unmade}
use Rattle.level.specs.Level.{Memory, LevelKind, completes, Meaning, Ending, SetStands, ahead}

-- Held W H g m c x: what a level holds after m rows of g and c columns of row m; Ended W H g n x: once all rows are there, n being the first set not made
pub record LevelLaws (K : LevelKind) (Held : Meaning) (Ended : Ending) : Type 0 where
  -- a set is made by a row after it
  pub ahead-some : 1 ≤ ahead K
  -- at first, whatever stands in the store
  pub held_none : (W H : Side) (g : Grid) (x : Memory) → Held W H g 0 0 x
  -- a number of row m more, or all of row m
  pub held-cell : (W H : Side) (g : Grid) (m c : ℕ) (x : Memory) → c < W.length → Held W H g m c x
      → Held W H g m (suc c) (stored (K.cell W H.start m c) (g m c) x)
  pub held-put : (W H : Side) (g : Grid) (m : ℕ) (row : ℕ → ℤ) (x : Memory) → ((i : ℕ) → i < W.length → row i ≡ g m i)
      → Held W H g m 0 x → Held W H g m W.length (K.put W H.start m row x)
  -- row m is there: a row more, and it may complete a set
  pub held-still : (W H : Side) (g : Grid) (m : ℕ) (x : Memory) → m < H.length → completes (ahead K) H.start m ≡ false
      → Held W H g m W.length x → Held W H g (m + 1) 0 x
  pub held-make : (W H : Side) (g : Grid) (m n : ℕ) (x : Memory) → H.start % 2 + m ≡ 2 * n + 2 * ahead K → m < H.length
      → Held W H g m W.length x → Held W H g (m + 1) 0 (K.make W H.start n x)
  pub make-stands : (W H : Side) (g : Grid) (m n : ℕ) (x : Memory) → H.start % 2 + m ≡ 2 * n + 2 * ahead K → m < H.length
      → Held W H g m W.length x → SetStands K W H g n (K.make W H.start n x)
  -- all rows are there: the sets left are made, one after the other
  pub held-ended : (W H : Side) (g : Grid) (x : Memory) → 0 < H.length → Held W H g H.length 0 x → Ended W H g (unmade (ahead K) H) x
  pub close-ended : (W H : Side) (g : Grid) (n : ℕ) (x : Memory) → n ≤ last_set H → Ended W H g n x → Ended W H g (suc n) (K.close W H n x)
  pub close-stands : (W H : Side) (g : Grid) (n : ℕ) (x : Memory) → n ≤ last_set H → Ended W H g n x → SetStands K W H g n (K.close W H n x)
  -- all this is in the level's stretch
  pub held_reads : (W H : Side) (g : Grid) (m c : ℕ) (x y : Memory) → c ≤ W.length → ((j : ℕ) → j < K.stretch W → y j ≡ x j)
      → Held W H g m c x → Held W H g m c y
  pub ended-reads : (W H : Side) (g : Grid) (n : ℕ) (x y : Memory) → ((j : ℕ) → j < K.stretch W → y j ≡ x j) → Ended W H g n x → Ended W H g n y
  pub place-in : (W : Side) (s n : ℕ) (b : Band) (i : ℕ) → i < count (across b) W → K.place W s n b + i < K.stretch W
  pub cell-past : (W : Side) (s m c : ℕ) (v : ℤ) (x : Memory) (j : ℕ) → c < W.length → K.stretch W ≤ j → stored (K.cell W s m c) v x j ≡ x j
  pub put-past : (W : Side) (s m : ℕ) (row : ℕ → ℤ) (x : Memory) (j : ℕ) → K.stretch W ≤ j → K.put W s m row x j ≡ x j
  pub make-past : (W : Side) (s n : ℕ) (x : Memory) (j : ℕ) → K.stretch W ≤ j → K.make W s n x j ≡ x j
  pub close-past : (W H : Side) (n : ℕ) (x : Memory) (j : ℕ) → K.stretch W ≤ j → K.close W H n x j ≡ x j
