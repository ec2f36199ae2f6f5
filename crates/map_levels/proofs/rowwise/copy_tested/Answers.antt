use mathlib.Core.Path.{sym}
use native.Mathlib.Omega.{arith}
use lib.ListN.{length}
use mir.Syntax.{w32}
use mir.ValLaws.{to_z-of_z}
use Rattle.numbers.specs.Signal.{at}
use Rattle.numbers.proofs.Words.{read_back}
use Rattle.numbers.proofs.Sweep.{start, store, finish}
use Rattle.areas.proofs.AreaLaws.{front_at, front_rest, between_start, between-turn, between-end}
use Rattle.map_levels.proofs.rowwise.copy_tested.Goals as goal

pub loop-i-init : goal.loop-i-init
loop-i-init c = (between_start _, start _ _ 0 (λ j lt. absurd (omega arith)))

pub bounds-to-i : goal.bounds-to-i
bounds-to-i c = let sw = c.loop-i.invariant.1 in omega (arith, sw.size)

pub loop-i-preserved : goal.loop-i-preserved
loop-i-preserved c =
    let x = c.args.from.now in
    let i = c.loop-i.i in
    let inv = c.loop-i.invariant in (
      rw (read_back (at x i) c.ok-in-loop-i-1.given) (between-turn _ i _ _ (at x) inv.0),
      rw (read_back (at x i) c.ok-in-loop-i-1.given) (store _ inv.1 (omega arith) (sym (front_at (length x) (at x) _ i (omega arith)))),
    )

pub shape_of-to : goal.shape_of-to
shape_of-to c = c.loop-i.invariant.1.size

pub returns : goal.returns
returns c =
    let fits = c.ranges in
    let inv = c.loop-i.invariant in
    record { value = between-end _ _ _ _ _ _ _ _ (to_z-of_z w32 _ fits.low) (to_z-of_z w32 _ fits.high) (omega arith) c.loop-i-test.false inv.0; to_after = finish inv.1 (λ j le. front_rest _ _ _ j (omega arith)) }
