-- `lifting::line::put_first` meets its contract: what is read and stored are 32-bit numbers read back. Assumes nothing.
use borrow.Author.Tests.{eq-eqb, ne_eqb}
use mir.Syntax.{w32}
use mir.ValLaws.{to_z-of_z}
use Rattle.numbers.specs.Signal.{at}
use Rattle.numbers.proofs.Words.{read_back}
use Rattle.lifting.proofs.line.put_first.Goals as goal

pub returns-then-b-eq1 : goal.returns-then-b-eq1
returns-then-b-eq1 c =
    let y = at c.args.coefficients.now in
    simp (eq-eqb c.args.b 1 c.if-b-eq1.true)
    (rw (read_back _ c.unpredict.type_inv, c.unpredict.ensures, read_back (y c.args.low) c.unpredict-arg-1.given, to_z-of_z w32 _ c.ranges.even))

pub returns-else-b-eq1 : goal.returns-else-b-eq1
returns-else-b-eq1 c = simp (ne_eqb c.args.b 1 c.if-b-eq1.false)
