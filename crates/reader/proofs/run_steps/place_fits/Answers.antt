-- `reader::run_steps::place_fits` meets its contract: the definition's tests, in its order. Assumes nothing.
use mathlib.Core.Path.{◌∙◌, ap}
use Prim.Native.Nat.{◌-◌, ◌*◌}
use native.Mathlib.Omega.{arith}
use lib.Dec.{leb}
use Rattle.reader_steps.proofs.SetLaws.{ahead-fits}
use Rattle.reader.proofs.RunPlaces.{fits-1, fits-2, fits-3, fits-4}
use Rattle.reader.proofs.run_steps.place_fits.Goals as goal

pub returns-then-s : goal.returns-then-s
returns-then-s c = fits-1 _ c.if-s.true

pub returns-then-s-2 : goal.returns-then-s-2
returns-then-s-2 c = fits-2 _ c.if-s.false c.if-s-2.true

pub returns-then-s-gt4 : goal.returns-then-s-gt4
returns-then-s-gt4 c = fits-3 _ c.if-s.false c.if-s-2.false c.if-s-gt4.true

pub overflow_mul-result : goal.overflow_mul-result
overflow_mul-result c = omega (arith, ahead-fits _ _ c.look_ahead.ensures)

pub overflow_sub-result : goal.overflow_sub-result
overflow_sub-result c = omega (arith, ahead-fits _ _ c.look_ahead.ensures)

pub returns : goal.returns
returns c =
    ap (λ n. leb c.args.s.back (2 * n - 1)) c.look_ahead.ensures
    ∙ fits-4 _ c.if-s.false c.if-s-2.false c.if-s-gt4.false
