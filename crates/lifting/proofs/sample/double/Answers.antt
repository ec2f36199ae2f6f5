-- `lifting::sample::double` meets its contract: a sample and itself is twice the sample. Assumes nothing.
use mathlib.Core.Path.{ap, ◌∙◌}
use mir.Syntax.{w32}
use mir.ValLaws.{to_z-of_z}
use Rattle.numbers.specs.Word.{wrap32}
use Rattle.numbers.proofs.Words.{read_back}
use Rattle.lifting.proofs.Fits.{twice}
use Rattle.lifting.proofs.sample.double.Goals as goal

pub returns : goal.returns
returns c =
    read_back _ c.more.type_inv ∙ c.more.ensures ∙ ap wrap32 (cc (to_z-of_z w32 _ c.ranges.x, twice c.args.x))
