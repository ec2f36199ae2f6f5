-- `terrain_nearest_change` meets its contract: what `find` answers, in its two cases. Assumes nothing.
use mathlib.Core.Path.{sym, ◌∙◌}
use Rattle.nearest_change.specs.NearestChange.{ground_of}
use Rattle.nearest_change.proofs.FindLaws.{takes-change, takes-number, stays}
use Rattle.terrain.proofs.near.terrain_nearest_change.Goals as goal

pub returns-in-Ok : goal.returns-in-Ok
returns-in-Ok c =
    let a = c.args in
    let t = takes-change _ a.width a.height (ground_of a.width a.heights.now) a.row a.column _ c.find.ensures c.in-Ok.c c.in-Ok.is in
    record { value = sym t.0; pick = t.1 }

pub returns-in-Err : goal.returns-in-Err
returns-in-Err c =
    let a = c.args in
    let t = takes-number _ a.width a.height (ground_of a.width a.heights.now) a.row a.column _ c.find.ensures c.in-Err.why c.in-Err.is in
    record { value = c.number.ensures ∙ sym t.0; pick = rw c.number.ensures (stays _ _ _ t.1) }
