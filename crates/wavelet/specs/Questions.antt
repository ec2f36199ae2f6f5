-- The gate questions that the whole map and the view share. Document 01, "The gate questions": "Asked in this order, each only of the calls named. The first
-- no gives its number, and nothing changes."
use Rattle.std.specs.Prelude.{Bool, ℕ, ◌≤◌, leb}
use Rattle.numbers.specs.Signal.{pick, both}
use Rattle.wavelet.specs.Limits.{max_width, max_height, max_levels}

-- a question, the number that a no gives, and what a yes goes on to
abbrev pub ask : Bool → ℕ → ℕ → ℕ
ask q n rest = pick q rest n

-- is n from a to b?
unfoldable pub within : ℕ → ℕ → ℕ → Bool
within a b n = both (leb a n) (leb n b)

-- questions 2, 3 and 4: W, H and L within the limits
unfoldable pub size_question : ℕ → ℕ → ℕ → ℕ
size_question W H L =
    ask (within 1 max_width W) 2
    (ask (within 1 max_height H) 3
    (ask (within 1 max_levels L) 4
    0))

-- all three answered yes
pub record Sized (W H L : ℕ) : Type 0 where
  pub width : (1 ≤ W) × (W ≤ max_width)
  pub height : (1 ≤ H) × (H ≤ max_height)
  pub levels : (1 ≤ L) × (L ≤ max_levels)
