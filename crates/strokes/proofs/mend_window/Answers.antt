-- `mend_window` meets its contract: the window of the map loaded, and its levels. Assumes nothing.
use Prim.Native.Nat.{ℕ, ◌<◌}
use native.Mathlib.Omega.{arith}
use lib.ListN.{get_or}
use Rattle.wavelet.specs.Limits.{max_levels}
use Rattle.wavelet.proofs.LimitLaws.{width_small, height-small}
use Rattle.strokes.proofs.MapCall.{lies-yes, map-window, window-load, window-levels, window-mended}
use Rattle.strokes.proofs.mend_window.Goals as goal

pub widened-columns-requires : goal.widened-columns-requires
unfolding max_levels
widened-columns-requires c =
    let p = c.requires in
    let s = p.0 in
    let l = lies-yes _ _ _ p.4 in
    (s.levels.0, s.levels.1, l.0, l.1, omega (arith, s.width.1, width_small))

pub widened-rows-requires : goal.widened-rows-requires
unfolding max_levels
widened-rows-requires c =
    let p = c.requires in
    let s = p.0 in
    let l = lies-yes _ _ _ p.4 in
    (s.levels.0, s.levels.1, l.2, l.3, omega (arith, s.height.1, height-small))

pub load-requires : goal.load-requires
load-requires c =
    let p = c.requires in
    let w = map-window c.args.s.rectangle p.0 p.4 c.widened-columns.ensures c.widened-rows.ensures in
    window-load w p.0 p.1 p.3

pub mend_levels-requires : goal.mend_levels-requires
mend_levels-requires c =
    let p = c.requires in
    let w = map-window c.args.s.rectangle p.0 p.4 c.widened-columns.ensures c.widened-rows.ensures in
    window-levels w p.0 p.2 (omega (arith, c.load.auto.work, p.3))

pub returns : goal.returns
returns c =
    let p = c.requires in
    let fits : (i : ℕ) → get_or c.args.heights.now i 0 < 65536 = λ i. omega (arith, c.type_inv.heights i) in
    let w = map-window c.args.s.rectangle p.0 p.4 c.widened-columns.ensures c.widened-rows.ensures in
    window-mended w p.0 c.args.heights.now _ _ _ _ c.args.s.rectangle fits c.widened-columns.ensures c.widened-rows.ensures
    c.load.ensures c.mend_levels.ensures
