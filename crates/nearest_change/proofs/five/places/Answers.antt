-- `places`: each place by itself. Assumes nothing.
use native.Mathlib.Omega.{arith}
use Rattle.nearest_change.proofs.FiveLaws.{five-eq}
use Rattle.nearest_change.proofs.five.places.Goals as goal

pub mirrored-requires : goal.mirrored-requires
mirrored-requires c = (omega arith, omega arith)

pub mirrored-requires-2 : goal.mirrored-requires-2
mirrored-requires-2 c = (omega arith, omega arith)

pub mirrored-requires-3 : goal.mirrored-requires-3
mirrored-requires-3 c = (omega arith, omega arith)

pub mirrored-requires-4 : goal.mirrored-requires-4
mirrored-requires-4 c = (omega arith, omega arith)

pub mirrored-requires-5 : goal.mirrored-requires-5
mirrored-requires-5 c = (omega arith, omega arith)

pub returns : goal.returns
returns c =
    five-eq c.mirrored.ensures c.mirrored-2.ensures c.mirrored-3.ensures
    c.mirrored-4.ensures
    c.mirrored-5.ensures
