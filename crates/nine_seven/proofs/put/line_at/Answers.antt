-- `nine_seven::put::line_at` meets its contract, by the parity of the coordinate. Assumes nothing.
use mathlib.Core.Path.{◌∙◌}
use native.Mathlib.Omega.{arith}
use lib.ListN.{length}
use Rattle.numbers.specs.Signal.{at}
use Rattle.numbers.proofs.Words.{read_back}
use Rattle.lifting.specs.Grid.{side}
use Rattle.nine_seven.proofs.PutLaws.{at-even, at-odd, low-there, high-there}
use Rattle.nine_seven.proofs.put.line_at.Goals as goal

pub overflow_add-start : goal.overflow_add-start
overflow_add-start c = omega arith

pub even_of-requires : goal.even_of-requires
even_of-requires c =
    let a = c.args in
    (c.requires.0, c.requires.1, low-there (side a.start (length a.coefficients.now)) a.low a.q c.requires.0 c.requires.2 (omega arith))

pub returns-then-start-q-eq0 : goal.returns-then-start-q-eq0
returns-then-start-q-eq0 c =
    let a = c.args in
    read_back c.even_of.result c.even_of.type_inv
    ∙ c.even_of.ensures
    ∙ at-even (side a.start (length a.coefficients.now)) (at a.coefficients.now) a.q (omega arith)

pub odd_of-requires : goal.odd_of-requires
odd_of-requires c =
    let a = c.args in
    (c.requires.0, c.requires.1, high-there (side a.start (length a.coefficients.now)) a.low a.q c.requires.0 c.requires.2 (omega arith))

pub returns : goal.returns
returns c =
    let a = c.args in
    read_back c.odd_of.result c.odd_of.type_inv
    ∙ c.odd_of.ensures
    ∙ at-odd (side a.start (length a.coefficients.now)) (at a.coefficients.now) a.q (omega arith)
