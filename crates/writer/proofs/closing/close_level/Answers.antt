use mathlib.Core.Path.{◌≡◌, refl, ◌∙◌}
use Prim.Native.Nat.{◌-◌}
use native.Mathlib.Omega.{arith}
use lib.ListN.{length}
use Rattle.numbers.specs.Signal.{at}
use Rattle.lifting.specs.Grid.{side}
use Rattle.filters.specs.Filters.{filter_of}
use Rattle.writer.proofs.ClosingLaws.{from, level-done, level-waits, level-on}
use Rattle.writer.proofs.closing.close_level.Goals as goal

pub loop-k-init : goal.loop-k-init
loop-k-init c = (refl, c.look_ahead-a.ensures, refl, omega arith)

pub close_step-o-requires : goal.close_step-o-requires
close_step-o-requires c = omega (arith, c.loop-k.invariant.0, c.requires)

pub shape_of-store-then-o-gt0 : goal.shape_of-store-then-o-gt0
shape_of-store-then-o-gt0 c = c.close_step-o.auto.store ∙ c.loop-k.invariant.0

pub returns-then-o-gt0 : goal.returns-then-o-gt0
returns-then-o-gt0 c =
    let loop = c.loop-k in
    let a = c.args in
    level-waits a.filter a.l (side a.x a.w) a.y a.m a.c loop.k _ (at loop.store) loop.invariant.2 (omega (arith, loop.invariant.1)) _ _
    c.close_step-o.ensures _ refl (omega arith)

pub loop-k-preserved : goal.loop-k-preserved
loop-k-preserved c =
    let loop = c.loop-k in
    let a = c.args in (
      omega (arith, loop.invariant.0, c.close_step-o),
      loop.invariant.1,
      level-on a.filter a.l (side a.x a.w) a.y a.m a.c loop.k _ (at loop.store) loop.invariant.2 (omega (arith, loop.invariant.1)) _ _
          c.close_step-o.ensures _ refl (omega arith),
      omega arith,
    )

pub shape_of-store : goal.shape_of-store
shape_of-store c = c.loop-k.invariant.0

pub returns : goal.returns
returns c =
    let loop = c.loop-k in
    let a = c.args in
    let e : c.max.result ≡ loop.k = omega (arith, c.max.ensures, loop.invariant.3) in
    rw e
    (level-done a.filter a.l (side a.x a.w) a.y a.m a.c loop.k _ (at loop.store) loop.invariant.2 _ c.nothing.ensures
    (omega (arith, loop.invariant.1)))
