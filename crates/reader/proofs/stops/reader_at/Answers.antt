-- `reader::stops::reader_at` meets its contract: the sides of the level, then the reader of its low-low part. Assumes nothing.
use mathlib.Core.Path.{◌≡◌, sym, ap, ◌∙◌}
use mathlib.Core.Bool.{Bool}
use Prim.Native.Nat.{ℕ, ◌-◌, ◌<◌}
use native.Mathlib.Omega.{arith}
use Rattle.numbers.specs.Signal.{pick}
use Rattle.numbers.proofs.Sweep.{both as halves}
use Rattle.lifting.specs.Grid.{side}
use Rattle.wavelet.specs.Limits.{max_width}
use Rattle.wavelet.specs.Questions.{within}
use Rattle.wavelet.specs.Levels.{side_at}
use Rattle.wavelet.proofs.LimitLaws.{width_small}
use Rattle.filters.specs.Figures.{store_by}
use Rattle.filters.proofs.FigureLaws.{levels-most}
use Rattle.reader_steps.proofs.SetLaws.{none_of, some_of}
use Rattle.reader.proofs.StopLaws.{works-not, part-last, part-begun, part-own, part_small, part-streams, streams-in, works-parts, works-some}
use Rattle.reader.proofs.stops.reader_at.Goals as goal

pub returns-then-stop-levels : goal.returns-then-stop-levels
returns-then-stop-levels c =
    let a = c.args in
    let p = c.requires in
    part-last a.filter (side a.x a.width) (side a.y a.height) a.levels a.stop a.n _ _ _ _ p.5 (c.start_at-across.ensures a.width)
    c.size_at-w.ensures
    (c.start_at-down.ensures a.height) c.size_at-h.ensures _ (works-not _ _ _ _ (omega arith)) c.last_at.ensures

pub returns-then-w-h : goal.returns-then-w-h
returns-then-w-h c =
    let a = c.args in
    let p = c.requires in
    let none = works-parts a.filter (side a.x a.width) (side a.y a.height) a.levels a.stop a.n _ _ _ _ p.5
    (c.start_at-across.ensures a.width) c.size_at-w.ensures
    (c.start_at-down.ensures a.height) c.size_at-h.ensures
    (none_of (side c.start_at-across.result c.size_at-w.result) (side c.start_at-down.result c.size_at-h.result) c.if-w-h.true) in
    part-last a.filter (side a.x a.width) (side a.y a.height) a.levels a.stop a.n _ _ _ _ p.5 (c.start_at-across.ensures a.width)
    c.size_at-w.ensures
    (c.start_at-down.ensures a.height) c.size_at-h.ensures _ none c.last_at-then-w-h.ensures

pub overflow_sub-levels : goal.overflow_sub-levels
overflow_sub-levels c =
    let a = c.args in
    let p = c.requires in
    p.4

pub overflow_sub-levels-2 : goal.overflow_sub-levels-2
overflow_sub-levels-2 c =
    let a = c.args in
    let p = c.requires in
    p.4

pub overflow_sub-n : goal.overflow_sub-n
overflow_sub-n c =
    let a = c.args in
    let p = c.requires in
    let S = side c.start_at-across.result c.size_at-w.result in
    let some = some_of S (side c.start_at-down.result c.size_at-h.result) c.if-w-h.false in
    let lt : a.stop < a.levels = omega (arith, p.4, c.if-stop-levels.false) in
    let k = c.store_length-own.ensures ∙ ap (λ (t : Bool). pick {A = ℕ} t (store_by a.filter S (a.levels - a.stop)) 0)
    (part-streams a.filter (side a.x a.width) (side a.y a.height) a.levels a.stop a.n _ _ _ _ p.5
    (c.start_at-across.ensures a.width) c.size_at-w.ensures
    (c.start_at-down.ensures a.height) c.size_at-h.ensures p.0 lt some.0) in
    part-own a.filter (side a.x a.width) (side a.y a.height) a.levels a.stop a.n _ _ _ _ p.5 (c.start_at-across.ensures a.width)
    c.size_at-w.ensures
    (c.start_at-down.ensures a.height) c.size_at-h.ensures _ p.4 k

pub begun-requires : goal.begun-requires
begun-requires c =
    let a = c.args in
    let p = c.requires in
    let in-limits = streams-in _ _ _ p.0 in (
      part_small a.filter (side a.x a.width) (side a.y a.height) a.levels a.stop a.n _ _ _ _ p.5 (c.start_at-across.ensures a.width)
          c.size_at-w.ensures
          (c.start_at-down.ensures a.height) c.size_at-h.ensures (omega (arith, in-limits.0, width_small)) p.2 p.1 p.3,
      omega (arith, in-limits.1, levels-most a.filter),
    )

pub returns : goal.returns
returns c =
    let a = c.args in
    let p = c.requires in
    let S = side c.start_at-across.result c.size_at-w.result in
    let some = some_of S (side c.start_at-down.result c.size_at-h.result) c.if-w-h.false in
    let lt : a.stop < a.levels = omega (arith, p.4, c.if-stop-levels.false) in
    let k = c.store_length-own.ensures ∙ ap (λ (t : Bool). pick {A = ℕ} t (store_by a.filter S (a.levels - a.stop)) 0)
    (part-streams a.filter (side a.x a.width) (side a.y a.height) a.levels a.stop a.n _ _ _ _ p.5
    (c.start_at-across.ensures a.width) c.size_at-w.ensures
    (c.start_at-down.ensures a.height) c.size_at-h.ensures p.0 lt some.0) in
    part-begun a.filter (side a.x a.width) (side a.y a.height) a.levels a.stop a.n _ _ _ _ p.5 (c.start_at-across.ensures a.width)
    c.size_at-w.ensures
    (c.start_at-down.ensures a.height) c.size_at-h.ensures _ _
    (works-some a.filter (side a.x a.width) (side a.y a.height) a.levels a.stop a.n _ _ _ _ p.5
    (c.start_at-across.ensures a.width) c.size_at-w.ensures
    (c.start_at-down.ensures a.height) c.size_at-h.ensures lt some) k c.begun.ensures
