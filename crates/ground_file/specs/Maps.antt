-- The file of a map: that of its plane, with step 1. docs/FORMAT.md.
use Rattle.std.specs.Prelude.{List, ℕ, ◌<◌, ℤ}
use Rattle.numbers.specs.Word.{whole}
use Rattle.wavelet.specs.declared.shape.Shape.{Shape}
use Rattle.wavelet.specs.Shape.{columns, rows}
use Rattle.wavelet.specs.Bands.{Grid}
use Rattle.wavelet.specs.Plane.{plane_of}
use Rattle.wavelet.specs.Maps.{IsMap}
use Rattle.wavelet.specs.Asks.{Width, Height, Known, Levels}
use Rattle.filters.specs.Filters.{filter_of}
use Rattle.ground_file.specs.File.{file_of}

-- a map within the limits: questions 2, 3, 18 and 4, an origin of 16 bits, and heights
pub record MapOf (s : Shape) (g : Grid) : Type 0 where
  pub width : Width s.width
  pub height : Height s.height
  pub filter : Known s.filter
  pub levels : Levels s.filter s.levels
  pub across : s.x < 65536
  pub down : s.y < 65536
  pub map : IsMap s.width s.height g

abbrev pub plane_in : Shape → Grid → ℕ → ℤ
plane_in s g = plane_of (filter_of s.filter) whole s.levels (columns s) (rows s) g

abbrev pub map_file : Shape → Grid → List ℕ
map_file s g = file_of s 1 (plane_in s g)
