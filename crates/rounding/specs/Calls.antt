-- What the two calls ask. Document 02, Q-10: "The rounding asks 2 to 5 as of the whole map. Refused: 20, after 4, if q is outside its range."
use Rattle.std.specs.Prelude.{ℕ, ◌*◌, leb}
use Rattle.wavelet.specs.Limits.{max_width, max_height, max_levels}
use Rattle.wavelet.specs.Questions.{ask, within}
use Rattle.rounding.specs.Figure.{max_step}

-- of a plane of n numbers; the 5/3 has the most levels
unfoldable pub round_question : ℕ → ℕ → ℕ → ℕ → ℕ → ℕ
round_question W H L q n =
    ask (within 1 max_width W) 2
    (ask (within 1 max_height H) 3
    (ask (within 1 max_levels L) 4
    (ask (within 1 max_step q) 20
    (ask (leb (W * H) n) 5
    0))))

-- of the figure
unfoldable pub bound_question : ℕ → ℕ → ℕ
bound_question L q = ask (within 1 max_levels L) 4 (ask (within 1 max_step q) 20 0)
