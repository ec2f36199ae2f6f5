-- `forward::band_place` meets its contract. Assumes nothing.
use native.Mathlib.Omega.{arith}
use Prim.Native.Nat.{◌^◌}
use borrow.Author.Tests.{lt-ltb, le-ltb}
use Rattle.analysis.proofs.forward.band_place.Goals as goal

pub returns-then-w-lt2305843009213693952 : goal.returns-then-w-lt2305843009213693952
returns-then-w-lt2305843009213693952 c = let a = c.args in simp (lt-ltb a.w (2 ^ 61) (omega arith)) c.placed.ensures

pub returns : goal.returns
returns c = let a = c.args in simp (le-ltb a.w (2 ^ 61) (omega arith))
