-- `synthesis::back::has_set` meets its contract, by whether there is a row. Assumes nothing.
use mathlib.Core.Path.{sym, ap, ◌∙◌}
use mathlib.Core.Bool.{Bool}
use native.Mathlib.Omega.{arith}
use lib.Dec.{leb}
use borrow.Author.Tests.{le-ltb, lt-ltb}
use Rattle.numbers.specs.Signal.{both}
use Rattle.lifting.specs.Grid.{side}
use Rattle.wavelet.specs.Order.{last_set}
use Rattle.synthesis.proofs.back.has_set.Goals as goal

pub returns-then-h-gt0 : goal.returns-then-h-gt0
unfolding last_set
returns-then-h-gt0 c =
    let a = c.args in
    sym (ap (λ (t : Bool). both t (leb a.n (last_set (side a.y a.h)))) (lt-ltb 0 a.h (omega arith)))

pub returns-else-h-gt0 : goal.returns-else-h-gt0
returns-else-h-gt0 c =
    let a = c.args in
    le-ltb 0 a.h (omega arith) ∙ sym (ap (λ (t : Bool). both t (leb a.n (last_set (side a.y a.h)))) (le-ltb 0 a.h (omega arith)))
