-- `nine_seven::put::put_pair` meets its contract: what is read and stored are 32-bit numbers read back. Assumes nothing.
use mir.Syntax.{w32}
use mir.ValLaws.{to_z-of_z}
use Rattle.numbers.specs.Signal.{at}
use Rattle.numbers.proofs.Words.{read_back}
use borrow.Author.Rules.{rules}
use Rattle.nine_seven.proofs.put.put_pair.Goals as goal

pub returns : goal.returns
returns c =
    let f = c.ranges in
    let a = c.args in
    let y = at a.coefficients.now in
    rw (
      to_z-of_z w32 _ f.e1,
      read_back _ c.unpredict.type_inv,
      c.unpredict.ensures,
      read_back (y a.p) c.unpredict-arg-1.given,
      to_z-of_z w32 _ f.e2,
      to_z-of_z w32 _ f.e0,
      to_z-of_z w32 _ f.e3,
    )
    (rw (to_z-of_z w32 _ f.e1))
