-- `nine_seven::line::change_end` meets its contract: the numbers that it goes by are the definition's. Assumes nothing.
use native.Mathlib.Omega.{arith}
use lib.ListN.{length}
use Prim.Native.Nat.{◌-◌}
use Rattle.nine_seven.specs.Passes.{high_by}
use Rattle.nine_seven.proofs.HighLaws.{fars-low}
use Rattle.nine_seven.proofs.line.change_end.Goals as goal

pub step_at-requires : goal.step_at-requires
step_at-requires g c =
    let a = c.args in
    let l = c.left-a.ensures in
    let r = c.nearest-b.ensures in
    let u = c.far_left-c.ensures in
    let v = c.far_right-e.ensures in
    let f = fars-low a.low (length a.line.now - a.low) a.o a.n c.requires.0 c.requires.3 (omega arith) in
    (c.requires.1, omega arith, omega arith, omega arith, omega arith)

pub returns : goal.returns
unfolding high_by
returns g c =
    cc (
      c.step_at.ensures,
      c.far_right-e.ensures,
      c.far_left-c.ensures,
      c.nearest-b.ensures,
      c.left-a.ensures,
    )
