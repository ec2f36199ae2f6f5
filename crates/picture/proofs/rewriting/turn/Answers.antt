-- `rewriting::turn` meets its contract: it reads, or it writes, or there is nothing to do. Assumes nothing.
use native.Mathlib.Omega.{arith}
use borrow.Author.Tests.{eq-eqb, ne_eqb}
use Rattle.text.specs.Moves.{full, idle}
use Rattle.picture.proofs.GoneLaws.{write-on}
use Rattle.picture.proofs.rewriting.turn.Goals as goal

pub returns-then-used-piece-clause-stops : goal.returns-then-used-piece-clause-stops
returns-then-used-piece-clause-stops c = rw (eq-eqb _ _ c.if-rewriting-eq0.true) (idle c.if-rewriting-eq0.true (omega arith))

pub returns-then-written-out-clause-stops : goal.returns-then-written-out-clause-stops
returns-then-written-out-clause-stops c = rw (ne_eqb _ _ c.if-rewriting-eq0.false) (full (omega arith) (omega arith))

pub returns-clause-onward : goal.returns-clause-onward
returns-clause-onward c = write-on _ c.if-rewriting-eq0.false (omega arith) c.write_on-wrote.ensures
