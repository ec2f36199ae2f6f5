-- The first questions that the calls on a writer share: 1 and 5; 9 and 8. Private functions alone cite them.
use Rattle.std.specs.Prelude.{not, ℕ, eqb}
use Rattle.wavelet.specs.Questions.{ask}
use Rattle.writer.specs.declared.Writer.{Writer}
use Rattle.writer.specs.Questions.{in_ranges, long_enough}

unfoldable pub state_question : Writer → ℕ → ℕ
state_question s n = ask (in_ranges s) 1 (ask (long_enough n s) 5 0)

unfoldable pub open_question : Writer → ℕ
open_question s = ask (not s.finished) 9 (ask (eqb s.level 0) 8 0)
