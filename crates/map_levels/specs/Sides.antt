-- The columns and the rows of a level as sides of the grid.
use Rattle.lifting.specs.Grid.{Side, side}
use Rattle.map_levels.specs.declared.sides.Sides.{Sides}

abbrev pub columns : Sides → Side
columns s = side s.x s.width

abbrev pub rows : Sides → Side
rows s = side s.y s.height
