-- `heads::largest` meets its contract: the definition's number. Assumes nothing.
use mathlib.Core.Path.{refl}
use Rattle.picture.specs.Form.{form_largest}
use Rattle.picture.proofs.heads.largest.Goals as goal

pub returns : goal.returns
unfolding form_largest
returns c = refl
