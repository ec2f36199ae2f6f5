-- `sums::sum_on` meets its contract: the sum has room. Assumes nothing.
use mathlib.Core.Path.{refl}
use native.Mathlib.Omega.{arith}
use Rattle.ground_file.specs.File.{prime}
use Rattle.ground_loader.proofs.SumLaws.{prime-small}
use Rattle.ground_loader.proofs.sums.sum_on.Goals as goal

pub overflow_mul-result : goal.overflow_mul-result
overflow_mul-result c = omega (arith, c.requires, prime-small)

pub overflow_add-result : goal.overflow_add-result
overflow_add-result c = omega (arith, c.requires, prime-small)

pub returns : goal.returns
unfolding prime
returns c = refl
