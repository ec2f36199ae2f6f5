-- `lifting::sample::unpredict` meets its contract: it is what its two callees ensure, at the numbers that are read back from bits. Assumes nothing.
use lib.IntN.{ℤ, ◌+ℤ◌}
use lib.Signed.{shr_z}
use mir.Syntax.{w32}
use mir.ValLaws.{to_z-of_z}
use Rattle.numbers.specs.Word.{wrap32}
use Rattle.numbers.proofs.Words.{read_back}
use Rattle.lifting.specs.Line.{unpredicted}
use Rattle.lifting.proofs.Fits.{step-parts}
use Rattle.lifting.proofs.sample.unpredict.Goals as goal

pub returns : goal.returns
unfolding unpredicted
returns c =
    let s = c.ranges in
    let f = c.half_sum in
    let r = c.more in
    step-parts (λ (x f : ℤ). wrap32 (x +ℤ f)) (λ (a b : ℤ). shr_z (a +ℤ b) 2) _ _ _ _ _ _ _ _ _ _ (to_z-of_z w32 _ s.x) (to_z-of_z w32 _ s.a)
    (to_z-of_z w32 _ s.b)
    (read_back f.result f.type_inv) (read_back r.result r.type_inv) f.ensures r.ensures
