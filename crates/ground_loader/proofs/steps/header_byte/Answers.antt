-- `steps::header_byte` meets its contract: the two cases of the test. Assumes nothing.
use mathlib.Core.Path.{refl, ap}
use native.Mathlib.Omega.{arith}
use Rattle.std.proofs.Common.{Ok}
use Rattle.ground_loader.specs.Local.{of_step}
use Rattle.ground_loader.proofs.DueLaws.{in-header, header-fits}
use Rattle.ground_loader.proofs.StepLaws.{header-away, header-on}
use Rattle.ground_loader.proofs.Clauses.{header_taken-onward}
use Rattle.ground_loader.proofs.steps.header_byte.Goals as goal

pub byte_at-requires : goal.byte_at-requires
byte_at-requires c = header-fits c.args.l c.args.d c.requires.0 c.requires.1

pub returns-then-byte_at-byte : goal.returns-then-byte_at-byte
returns-then-byte_at-byte c =
    header_taken-onward (header-away c.args.l c.args.d c.args.byte c.requires.0 c.requires.1 _ _ c.byte_at.ensures c.if-byte_at-byte.true
    refl)

pub overflow_add-l : goal.overflow_add-l
overflow_add-l c =
    omega (
      arith,
      (in-header c.args.l c.args.d
          c.requires.0.due c.requires.1).1,
    )

pub returns : goal.returns
returns c =
    header_taken-onward (header-on c.args.l c.args.d c.args.byte c.requires.0 c.requires.1 _ _ _ _ c.byte_at.ensures
    c.if-byte_at-byte.false c.sum_on.ensures
    refl (ap (λ n. of_step c.args.l c.args.d (Ok n)) c.taken.ensures))
