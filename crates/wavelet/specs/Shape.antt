-- A map on the grid as the calls take it: its columns and its rows are sides.
use Rattle.lifting.specs.Grid.{Side, side}
use Rattle.wavelet.specs.declared.shape.Shape.{Shape}

abbrev pub columns : Shape → Side
columns s = side s.x s.width

abbrev pub rows : Shape → Side
rows s = side s.y s.height
