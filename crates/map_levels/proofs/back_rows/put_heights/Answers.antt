-- `back_rows::put_heights` meets its contract: the parts lent, and the row come back. Assumes nothing.
use mathlib.Core.Path.{◌∙◌}
use Prim.Native.Nat.{◌+◌, ◌-◌, ◌*◌}
use native.Mathlib.Omega.{arith}
use lib.IntN.{pos}
use Rattle.numbers.specs.Signal.{at}
use Rattle.areas.specs.Areas.{between}
use Rattle.wavelet.specs.Limits.{max_sample}
use Rattle.map_levels.proofs.BackRowLaws.{lent-test, all-heights, heights-put, heights-test}
use Rattle.map_levels.proofs.back_rows.put_heights.Goals as goal

pub returns-then-sure : goal.returns-then-sure
returns-then-sure c =
    let a = c.args in
    let p = a.r * a.width in
    let m = a.from + a.width - a.from in
    let k = p + a.width - p in
    λ x₀.
    heights-put a.x a.width a.r a.from m k a.lines.now (omega arith) (omega arith) c.requires.0 a.heights.now
    c.interleave_line.new.line _ x₀
    c.requires.1 c.interleave_line.auto.line c.interleave_line.ensures.area
    (all-heights a.width (λ j. at a.lines.now (a.from + j)) (c.requires.2 c.if-sure.true))

pub returns : goal.returns
returns c =
    let a = c.args in
    let p = a.r * a.width in
    let m = a.from + a.width - a.from in
    let k = p + a.width - p in
    λ x₀.
    heights-put a.x a.width a.r a.from m k a.lines.now (omega arith) (omega arith) c.requires.0 a.heights.now
    c.interleave_line.new.line _ x₀
    c.requires.1 c.interleave_line.auto.line c.interleave_line.ensures.area
    (c.all_heights.ensures ∙ lent-test (between (pos 0) (pos max_sample)) a.from m a.width a.lines.now (omega arith) c.requires.0
    ∙ heights-test a.width (λ j. at a.lines.now (a.from + j)))
