-- `values::sign` meets its contract: 1 below 0. Assumes nothing.
use mathlib.Core.Path.{ap, ◌∙◌}
use lib.IntN.{pos}
use lib.Signed.{lt_z}
use mir.Val.{bool_byte}
use Rattle.ground_file.proofs.ValueLaws.{read, sign_from}
use Rattle.ground_file.proofs.values.sign.Goals as goal

pub returns : goal.returns
returns c = c.from.ensures ∙ ap (λ z. bool_byte (lt_z z (pos 0))) (read _ c.ranges.v) ∙ sign_from c.args.v
