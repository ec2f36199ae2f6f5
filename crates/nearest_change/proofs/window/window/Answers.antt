use Rattle.std.proofs.Common.{◌/◌, ◌%◌, ◌≤◌, ◌∙◌, arith}
use mathlib.Core.Path.{ap₂}
use Rattle.nearest_change.specs.NearestChange.{ground_of}
use Rattle.nearest_change.proofs.FillLaws.{fill_start, fill_more}
use Rattle.nearest_change.proofs.window.window.Goals as goal

pub loop-j-init : goal.loop-j-init
loop-j-init c = let a = c.args in fill_start (ground_of a.width a.heights.now) a.rows a.columns

pub height-requires : goal.height-requires
height-requires c =
    let e = c.number.ensures in
    let f = c.number-in-loop-j.ensures in
    rw (e, f) (c.requires (c.loop-j.j % 5) (c.loop-j.j / 5))

pub loop-j-preserved : goal.loop-j-preserved
loop-j-preserved c =
    let l = c.loop-j in
    let a = c.args in
    fill_more (ground_of a.width a.heights.now) a.rows a.columns l.j l.w c.height.result l.invariant (omega arith)
    (c.height.ensures.0 ∙ ap₂ (ground_of a.width a.heights.now) c.number.ensures c.number-in-loop-j.ensures) c.height.ensures.1

pub returns : goal.returns
returns c =
    let l = c.loop-j in
    let h : 25 ≤ l.j = omega arith in
    record { window = λ j k. l.invariant.done j (omega arith); by_index = l.invariant.small }
