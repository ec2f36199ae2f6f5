-- `mend_map` meets its contract: the local work in the part of the work area that it needs, and that part cleared. Assumes nothing.
use Prim.Native.Nat.{◌-◌, ◌*◌}
use native.Mathlib.Omega.{arith}
use Rattle.strokes.proofs.MapCall.{cleared-part}
use Rattle.strokes.proofs.mend_map.Goals as goal

pub returns : goal.returns
returns c =
    let a = c.args in
    let n = a.s.width * a.s.height in
    record {
      plane_after = c.mend_window.ensures;
      work_after = cleared-part n (n - 0) a.work.now c.mend_window.new.work _ (omega arith) c.requires.3
          c.mend_window.auto.work c.clear.ensures.area;
    }
