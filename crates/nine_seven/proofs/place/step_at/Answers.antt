-- `nine_seven::place::step_at` meets its contract: what is read and stored are 32-bit numbers read back. Assumes nothing.
use Rattle.numbers.specs.Signal.{at}
use Rattle.numbers.proofs.Words.{read_back}
use borrow.Author.Rules.{rules}
use Rattle.nine_seven.proofs.place.step_at.Goals as goal

pub returns : goal.returns
returns g c =
    let a = c.args in
    let l = a.area.now in
    rw (
      read_back _ c.step.type_inv,
      c.step.ensures,
      read_back (at l a.p) c.step-arg-1.given,
      read_back (at l a.a) c.step-arg-2-1.given,
      read_back (at l a.b) c.step-arg-3-1.given,
      read_back (at l a.c) c.step-arg-4-1.given,
      read_back (at l a.e) c.step-arg-5-1.given,
    )
