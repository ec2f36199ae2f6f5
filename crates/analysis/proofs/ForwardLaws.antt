-- A level by its filter's number, as the streams above take it: the laws of a level (`laws-of`), and what its calls come to. Assumes nothing.
use mathlib.Core.Path.{◌≡◌, refl, ap, ◌∙◌}
use Prim.Native.Nat.{ℕ, suc, ◌+◌, ◌%◌, ◌^◌, ◌<◌, ◌≤◌}
use native.Mathlib.Omega.{arith}
use lib.IntN.{ℤ}
use lib.Dec.{ltb}
use borrow.Author.Tests.{lt-ltb, le-leb}
use Rattle.numbers.specs.Signal.{pick, stored}
use Rattle.lifting.specs.Grid.{Side, count}
use Rattle.wavelet.specs.Bands.{Band, LL, across, code}
use Rattle.wavelet.specs.Levels.{next}
use Rattle.wavelet.specs.ViewCall.{named}
use Rattle.wavelet.proofs.ViewLaws.{named-at}
use Rattle.level.specs.Level.{Memory, rest, join_at}
use Rattle.level.proofs.LevelLaws.{LevelLaws}
use Rattle.analysis.specs.Columns.{columns_of}
use Rattle.analysis.specs.Forward.{kind_of, held_of, ended_of, level_fits, next_fits, countable, delivered, heights_put, heights_fit}
use Rattle.analysis.proofs.LevelLaws as level
use Rattle.analysis.proofs.FilterColumns.{columns-laws}

pub laws-of : (f : ℕ) → LevelLaws (kind_of f) (held_of f) (ended_of f)
laws-of f = level.level-laws (columns_of f) (columns-laws f)

-- ---- by what a level is to the streams: a height more, and the LL row passed on
pub height-more : (f : ℕ) (W : Side) (s m c n : ℕ) (h x : ℕ → ℤ)
    → heights_put f W (s % 2 + m) c (suc n) h x ≡ stored ((kind_of f).cell W s m (c + n)) (h n) (heights_put f W (s % 2 + m) c n h x)
unfolding heights_put
height-more f W s m c n h x = refl

pub height-none : (f : ℕ) (W : Side) (q c : ℕ) (h x : ℕ → ℤ) → heights_put f W q c 0 h x ≡ x
unfolding heights_put
height-none f W q c h x = refl

pub passed_on : (f : ℕ) (W : Side) (s n t m : ℕ) (x : Memory) → delivered f W n (t % 2 + m) x
    ≡ join_at ((kind_of f).stretch W) x ((kind_of f).put (next W) t m (λ i. x ((kind_of f).place W s n LL + i)) (rest ((kind_of f).stretch W) x))
unfolding delivered
passed_on f W s n t m x = refl

-- ---- where a band row stands: by the set alone, within the level's stretch
pub place-room : (f : ℕ) (W : Side) (s n : ℕ) (b : Band) → (kind_of f).place W s n b + count (across b) W ≤ (kind_of f).stretch W
place-room f W s n b = level.place-room (columns_of f) (columns-laws f) W n b

pub place-code : (f : ℕ) (W : Side) (s n : ℕ) (b : Band) (c r : ℕ) → W.length < 2 ^ 16 → c ≡ code b →
    r ≡ pick (ltb W.length countable) (named c ((kind_of f).place W 0 n) 0) 0 → r ≡ (kind_of f).place W s n b
place-code f W s n b c r h e d =
    d ∙ ap (λ t. pick t (named c ((kind_of f).place W 0 n) 0) 0) (lt-ltb W.length countable (omega arith))
    ∙ ap (λ (i : ℕ). named i ((kind_of f).place W 0 n) 0) e ∙ named-at b ((kind_of f).place W 0 n) 0

-- ---- what a call leaves that has its room
module _ (f n : ℕ) (W : Side) (x y z : Memory) where
  pub level-done : (kind_of f).stretch W ≤ n → z ≡ pick (level_fits f n W) y x → z ≡ y
  unfolding level_fits
  level-done h e = e ∙ ap (λ t. pick t y x) (le-leb ((kind_of f).stretch W) n h)

  pub next-done : (kind_of f).stretch W + (kind_of f).stretch (next W) ≤ n → z ≡ pick (next_fits f n W) y x → z ≡ y
  unfolding next_fits
  next-done h e = e ∙ ap (λ t. pick t y x) (le-leb ((kind_of f).stretch W + (kind_of f).stretch (next W)) n h)

  pub heights-done : (c k l i : ℕ) → (kind_of f).stretch W ≤ n → c + k ≤ W.length → i + k ≤ l → z ≡ pick (heights_fit f n W c k l i) y x → z ≡ y
  unfolding heights_fit level_fits
  heights-done c k l i h a b e =
      e ∙ simp (le-leb ((kind_of f).stretch W) n h, le-leb (c + k) W.length a, le-leb (i + k) l b)
