-- What the private functions of the order require and ensure of each other. No public contract cites it.
use Rattle.std.specs.Prelude.{◌≡◌, ℕ}
use Rattle.wavelet.specs.Levels.{side_at}
use Rattle.wavelet.specs.declared.shape.Shape.{Shape}
use Rattle.wavelet.specs.Shape.{columns, rows}
use Rattle.reader_steps.specs.Places as machine
use Rattle.reader_steps.specs.declared.places.Spot.{Spot}
use Rattle.reader_steps.specs.declared.places.Sides.{Sides}

-- v is the columns and the rows that level k + 1 splits
pub record IsAt (s : Shape) (k : ℕ) (v : Sides) : Type 0 where
  pub x : v.x ≡ (side_at k (columns s)).start
  pub width : v.width ≡ (side_at k (columns s)).length
  pub y : v.y ≡ (side_at k (rows s)).start
  pub height : v.height ≡ (side_at k (rows s)).length

-- p is a place
pub record Is (q : machine.Spot) (p : Spot) : Type 0 where
  pub level : p.level ≡ q.level
  pub set : p.set ≡ q.set
  pub band : p.band ≡ q.band
