-- `nine_seven::sample::sixteenths` meets its contract: 32 bits hold each step. Assumes nothing.
use mathlib.Core.Path.{refl, ◌∙◌}
use mir.Syntax.{w32}
use mir.ValLaws.{to_z-of_z}
use Rattle.nine_seven.proofs.Fits.{sixteenth-fits, sixteenths-fit}
use Rattle.nine_seven.proofs.sample.sixteenths.Goals as goal

pub overflow_add-result : goal.overflow_add-result
overflow_add-result c =
    let f = c.ranges in
    rw (to_z-of_z w32 _ f.a, to_z-of_z w32 _ f.b, to_z-of_z w32 _ (sixteenth-fits _ f.a), to_z-of_z w32 _ (sixteenth-fits _ f.b))
    (sixteenths-fit c.args.a c.args.b f.a f.b)

pub returns : goal.returns
returns c =
    let f = c.ranges in
    to_z-of_z w32 _ (overflow_add-result c)
    ∙ rw (to_z-of_z w32 _ f.a, to_z-of_z w32 _ f.b, to_z-of_z w32 _ (sixteenth-fits _ f.a), to_z-of_z w32 _ (sixteenth-fits _ f.b)) refl
