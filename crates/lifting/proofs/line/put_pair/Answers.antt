-- `lifting::line::put_pair` meets its contract: what is read and stored are 32-bit numbers read back. Assumes nothing.
use mir.Syntax.{w32}
use mir.ValLaws.{to_z-of_z}
use Rattle.numbers.specs.Signal.{at}
use Rattle.numbers.proofs.Words.{read_back}
use Rattle.lifting.proofs.line.put_pair.Goals as goal

pub returns : goal.returns
returns c =
    let a = c.args in
    let y = at a.coefficients.now in
    rw (
      to_z-of_z w32 _ c.ranges.even,
      read_back _ c.unpredict.type_inv,
      c.unpredict.ensures,
      read_back (y a.p)
          c.unpredict-arg-1.given,
      to_z-of_z w32 _ c.ranges.next,
    ) (rw (to_z-of_z w32 _ c.ranges.even))
