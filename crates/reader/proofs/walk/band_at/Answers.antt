-- `reader::walk::band_at` meets its contract: the first band that the level's set asks for. Assumes nothing.
use mathlib.Core.Path.{◌∙◌}
use native.Mathlib.Omega.{arith}
use Rattle.lifting.specs.Grid.{side}
use Rattle.wavelet.specs.Limits.{max_levels}
use Rattle.reader.proofs.WalkLaws.{band-is}
use Rattle.reader.proofs.walk.band_at.Goals as goal

pub overflow_add-k : goal.overflow_add-k
unfolding max_levels
overflow_add-k c = omega arith

pub returns : goal.returns
returns c =
    let a = c.args in
    c.next_band.ensures
    ∙ band-is a.filter (side a.x a.width) (side a.y a.height) a.levels a.drawn a.k a.band a.l c.requires.1
