-- The gate questions in plain numbers. Each limit stands here once more, as documents 01 and 02 give it; theorems (`set-up-asks`, `forward_asks`, `view_asks`
-- and their kin) say that the answers of the definitions that the contracts cite are these, for every argument. So a limit, a question or an order that is
-- changed there alone is refused.
use Rattle.std.specs.Prelude.{◌≡◌, ℕ, zero, suc, ◌*◌, ◌^◌, ◌≤◌}
use Rattle.lifting.specs.Grid.{Side}
use Rattle.wavelet.specs.Bands.{Band, code}
use Rattle.wavelet.specs.Store.{widths}
use Rattle.wavelet.specs.View.{Kept}

-- "Asked in this order, each only of the calls named. The first no gives its number": question n asks P; `rest` says which answers follow a yes
pub data Asks (n : ℕ) (P : Type 0) (rest : ℕ → Type 0) : ℕ → Type 0 where
  yes : {q : ℕ} → P → rest q → Asks n P rest q
  no : (P → ⊥) → Asks n P rest n

-- no question is left
abbrev pub Passes : ℕ → Type 0
Passes q = q ≡ 0

-- ---- what is asked
-- 2: "Is W from 1 to 2,049?"
abbrev pub Width : ℕ → Type 0
Width w = (1 ≤ w) × (w ≤ 2049)

-- 3: "Is H from 1 to 65,535?", with the limit of document 02, Q-5: "up to 4,294,967,295 rows"
abbrev pub Height : ℕ → Type 0
Height h = (1 ≤ h) × (h ≤ 4294967295)

-- 18: "0 the 5/3, 1 this one"
abbrev pub Known : ℕ → Type 0
Known f = f ≤ 1

-- a figure of the 5/3, or of the 9/7
abbrev pub by_filter : ℕ → ℕ → ℕ → ℕ
by_filter zero a b = a
by_filter (suc f) a b = b

-- 4: "Is L from 1 to 5?"; Q-8: "1 to 4 levels"
abbrev pub Levels : ℕ → ℕ → Type 0
Levels f L = (1 ≤ L) × (L ≤ by_filter f 5 4)

-- 5: a line store "needs 4 × (W(0) + ... + W(L−1)) numbers"; Q-8: "eight rows of line store a level"
abbrev pub needed : ℕ → Side → ℕ → ℕ
needed f W L = by_filter f 4 8 * widths W L

-- 7: "every level-k coefficient of a map lies within ±65,535 × 4^k"; Q-8: "range ±65,535 × 6^k"
abbrev pub largest : ℕ → ℕ → ℕ
largest f k = 65535 * by_filter f 4 6 ^ k

-- 6: "Does that band row exist?", of level k, the band's code c and row r
pub record BandRowStands (W H : Side) (L k c r : ℕ) : Type 0 where
  pub band : Band
  pub code_is : c ≡ code band
  pub kept : Kept W H L k band r

-- ---- which answers a call gives
-- 2, 3, 18 and 4 of a map of w columns and h rows, and then `rest`
abbrev pub ShapeAsks : ℕ → ℕ → ℕ → ℕ → (ℕ → Type 0) → ℕ → Type 0
ShapeAsks f w h L rest = Asks 2 (Width w) (Asks 3 (Height h) (Asks 18 (Known f) (Asks 4 (Levels f L) rest)))

-- and 5, of three areas of W × H numbers
abbrev pub MapAsks : ℕ → ℕ → ℕ → ℕ → ℕ → ℕ → ℕ → (ℕ → Type 0) → ℕ → Type 0
MapAsks f w h L a b c rest = ShapeAsks f w h L (Asks 5 ((w * h ≤ a) × (w * h ≤ b) × (w * h ≤ c)) rest)

-- a reader's set-up, with a line store of n numbers (the writer's: crate writer)
abbrev pub ReaderSetUpAsks : ℕ → Side → Side → ℕ → ℕ → ℕ → Type 0
ReaderSetUpAsks f W H L n = ShapeAsks f W.length H.length L (Asks 5 (needed f W L ≤ n) Passes)

-- the view of a band row in a plane of n numbers: it is not told the filter, so 4 is that of the 5/3, which has the most levels
abbrev pub ViewAsks : ℕ → Side → Side → ℕ → ℕ → ℕ → ℕ → ℕ → Type 0
ViewAsks n W H L k c r =
    Asks 2 (Width W.length)
    (Asks 3 (Height H.length)
    (Asks 4 (Levels 0 L)
    (Asks 5 (W.length * H.length ≤ n)
    (Asks 6 (BandRowStands W H L k c r)
    Passes))))
