-- `nine_seven::sample::lesser_part` meets its contract: 32 bits hold each step. Assumes nothing.
use mathlib.Core.Path.{refl, ◌∙◌}
use mir.Syntax.{w32}
use mir.ValLaws.{to_z-of_z}
use Rattle.nine_seven.proofs.Fits.{apart_fits, ninefold, nine-less, nine-more, part_small, part-fits, sixteenth-fits}
use Rattle.nine_seven.proofs.sample.lesser_part.Goals as goal

pub overflow_sub-result : goal.overflow_sub-result
overflow_sub-result c =
    let f = c.ranges in
    rw (to_z-of_z w32 _ f.s, to_z-of_z w32 _ f.t) (apart_fits c.args.s c.args.t c.requires.0 c.requires.1)

pub overflow_mul-result : goal.overflow_mul-result
overflow_mul-result c = rw (to_z-of_z w32 _ c.ranges.u) (ninefold c.args.u c.requires.2)

pub overflow_sub-result-2 : goal.overflow_sub-result-2
overflow_sub-result-2 c =
    let f = c.ranges in
    rw (to_z-of_z w32 _ (overflow_mul-result c), to_z-of_z w32 _ f.u, to_z-of_z w32 _ f.v) (nine-less c.args.u c.args.v c.requires.2 c.requires.3)

pub overflow_add-result : goal.overflow_add-result
overflow_add-result c =
    let f = c.ranges in
    rw (to_z-of_z w32 _ (overflow_sub-result-2 c), to_z-of_z w32 _ (overflow_mul-result c), to_z-of_z w32 _ f.u, to_z-of_z w32 _ f.v)
    (nine-more c.args.u c.args.v c.requires.2 c.requires.3)

pub overflow_add-result-2 : goal.overflow_add-result-2
overflow_add-result-2 c =
    let f = c.ranges in
    let u = c.args.u in
    let v = c.args.v in
    rw (
      to_z-of_z w32 _ (overflow_sub-result c),
      to_z-of_z w32 _ (overflow_add-result c),
      to_z-of_z w32 _ (overflow_sub-result-2 c),
      to_z-of_z w32 _ (overflow_mul-result c),
      to_z-of_z w32 _ f.s,
      to_z-of_z w32 _ f.t,
      to_z-of_z w32 _ f.u,
      to_z-of_z w32 _ f.v,
      to_z-of_z w32 _ (sixteenth-fits _ (nine-more u v c.requires.2 c.requires.3)),
    )
    (part-fits c.args.s c.args.t _ c.requires.0 c.requires.1 (part_small u v c.requires.2 c.requires.3))

pub returns : goal.returns
returns c =
    let f = c.ranges in
    let u = c.args.u in
    let v = c.args.v in
    to_z-of_z w32 _ (overflow_add-result-2 c)
    ∙ rw (
      to_z-of_z w32 _ (overflow_sub-result c),
      to_z-of_z w32 _ (overflow_add-result c),
      to_z-of_z w32 _ (overflow_sub-result-2 c),
      to_z-of_z w32 _ (overflow_mul-result c),
      to_z-of_z w32 _ f.s,
      to_z-of_z w32 _ f.t,
      to_z-of_z w32 _ f.u,
      to_z-of_z w32 _ f.v,
      to_z-of_z w32 _ (sixteenth-fits _ (nine-more u v c.requires.2 c.requires.3)),
    ) refl
