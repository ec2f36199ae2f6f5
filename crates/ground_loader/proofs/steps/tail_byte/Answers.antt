-- `steps::tail_byte` meets its contract: the two cases of the test. Assumes nothing.
use mathlib.Core.Path.{refl, ap}
use native.Mathlib.Omega.{arith}
use borrow.Author.Tests.{not-true, not-false}
use Rattle.std.proofs.Common.{Ok}
use Rattle.ground_loader.specs.Local.{of_step}
use Rattle.ground_loader.proofs.DueLaws.{in_tail}
use Rattle.ground_loader.proofs.StepLaws.{tail-away, tail-on}
use Rattle.ground_loader.proofs.Clauses.{tail_taken-onward}
use Rattle.ground_loader.proofs.steps.tail_byte.Goals as goal

pub is_sum_byte-requires : goal.is_sum_byte-requires
is_sum_byte-requires c = (in_tail c.args.l c.args.d c.requires.0.due c.requires.1).1

pub returns-then-not-is_sum_byte : goal.returns-then-not-is_sum_byte
returns-then-not-is_sum_byte c =
    tail_taken-onward (tail-away c.args.l c.args.d c.args.byte c.requires.0 c.requires.1 _ _ c.is_sum_byte.ensures
    (not-true _ c.if-not-is_sum_byte.true-raw) refl)

pub overflow_add-l : goal.overflow_add-l
overflow_add-l c =
    omega (
      arith,
      (in_tail c.args.l c.args.d
          c.requires.0.due c.requires.1).1,
    )

pub returns : goal.returns
returns c =
    tail_taken-onward (tail-on c.args.l c.args.d c.args.byte c.requires.0 c.requires.1 _ _ _ c.is_sum_byte.ensures
    (not-false _ c.if-not-is_sum_byte.false-raw)
    refl (ap (λ n. of_step c.args.l c.args.d (Ok n)) c.taken.ensures))
