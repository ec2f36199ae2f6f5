-- `height`: the element at its place, a 16-bit number. Assumes nothing.
use mathlib.Core.Path.{refl}
use Prim.Native.Nat.{◌+◌, ◌*◌}
use native.Mathlib.Omega.{arith}
use Rattle.nearest_change.proofs.window.height.Goals as goal

pub overflow_cast-result : goal.overflow_cast-result
overflow_cast-result c = omega (arith, c.type_inv.heights (c.args.r * c.args.width + c.args.c))

pub returns : goal.returns
returns c = (refl, omega (arith, c.type_inv.heights (c.args.r * c.args.width + c.args.c)))
