-- `reader::steps::own_band` meets its contract: the first band that the level's set asks for. Assumes nothing.
use mathlib.Core.Path.{◌∙◌}
use native.Mathlib.Omega.{arith}
use Rattle.reader.specs.State.{columns, rows}
use Rattle.reader.proofs.QuestionLaws.{counts-small}
use Rattle.reader.proofs.WalkLaws.{up-here}
use Rattle.reader.proofs.StepLaws.{next-own}
use Rattle.reader.proofs.steps.own_band.Goals as goal

pub overflow_sub-s : goal.overflow_sub-s
overflow_sub-s c = omega arith

pub band_at-requires : goal.band_at-requires
band_at-requires c =
    let counts = c.requires.0 in
    (counts-small c.args.s counts, c.requires.2.0, omega (arith, counts.at, counts.few))

pub returns : goal.returns
returns c =
    let s = c.args.s in
    λ h. up-here _ (columns s) (rows s) s.levels s.level s.band c.band_at.result c.args.l.set c.requires.1
    c.band_at.ensures h ∙ next-own s _ c.requires.2.1
