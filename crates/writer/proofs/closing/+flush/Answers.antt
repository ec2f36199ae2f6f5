-- `closing::flush` meets its contract, by induction on the levels. Assumes nothing.
use mathlib.Core.Path.{◌≡◌, ap, ◌∙◌}
use Prim.Native.Nat.{ℕ, ◌+◌, ◌-◌, ◌*◌, ◌<◌}
use native.Mathlib.Omega.{arith}
use lib.ListN.{length}
use borrow.Author.Rules.{rules}
use Rattle.numbers.specs.Signal.{at}
use Rattle.lifting.specs.Grid.{side}
use Rattle.wavelet.proofs.SideLaws.{count-lo}
use Rattle.wavelet.proofs.StoreLaws.{store-back}
use Rattle.filters.specs.Filters.{filter_of}
use Rattle.filters.specs.Figures.{store_by}
use Rattle.filters.proofs.FigureLaws.{steps-few, row-few}
use Rattle.level.proofs.RestLaws.{at_rest, at_join}
use Rattle.progress.proofs.CountLaws.{steps-more, next-is, start_is}
use Rattle.writer.proofs.CascadeLaws.{room-below}
use Rattle.writer.proofs.ClosingLaws.{flush-none, flush-waits, flush-goes}
use Rattle.progress.proofs.WaitLaws.{seen-fits}
use Rattle.writer.proofs.closing.+flush.Goals as goal

pub returns-then-l-eq0 : goal.returns-then-l-eq0
returns-then-l-eq0 t c =
    let a = c.args in
    flush-none a.filter a.l (side a.x a.w) a.y a.c a.m _ _ c.nothing.ensures (omega arith) (omega arith)

pub overflow_sub-l : goal.overflow_sub-l
overflow_sub-l t c = omega arith

pub close_level-o-requires : goal.close_level-o-requires
close_level-o-requires t c =
    let a = c.args in
    let k : a.l - 1 + 1 ≡ a.l = omega arith in
    omega (arith, ap (store_by a.filter (side a.x a.w)) k)

pub shape_of-store-then-o-gt0 : goal.shape_of-store-then-o-gt0
shape_of-store-then-o-gt0 t c = c.close_level-o.auto.store

pub returns-then-o-gt0 : goal.returns-then-o-gt0
returns-then-o-gt0 t c =
    let a = c.args in
    flush-waits a.filter a.l (side a.x a.w) a.y a.c a.m _ _ _ (omega arith) c.close_level-o.ensures (omega arith)

pub stretch-a-requires : goal.stretch-a-requires
stretch-a-requires t c = omega arith

pub offset_bounds-store-a : goal.offset_bounds-store-a
offset_bounds-store-a t c =
    let a = c.args in
    let e : c.stretch-a.result ≡ (filter_of a.filter).rows * a.w = c.stretch-a.ensures in
    omega (arith, e, c.requires, row-few a.filter a.w)

pub slice_bounds-flush-count : goal.slice_bounds-flush-count
slice_bounds-flush-count t c =
    let a = c.args in
    let e : c.stretch-a.result ≡ (filter_of a.filter).rows * a.w = c.stretch-a.ensures in
    omega (arith, e, store-back (filter_of a.filter).rows (side a.x a.w) a.l (omega arith))

pub slice_bounds-flush-start : goal.slice_bounds-flush-start
slice_bounds-flush-start t c =
    let a = c.args in
    let e : c.stretch-a.result ≡ (filter_of a.filter).rows * a.w = c.stretch-a.ensures in
    omega (arith, e, store-back (filter_of a.filter).rows (side a.x a.w) a.l (omega arith))

pub slice_bounds-flush-end : goal.slice_bounds-flush-end
slice_bounds-flush-end t c = omega arith

pub overflow_sub-l-2 : goal.overflow_sub-l-2
overflow_sub-l-2 t c = omega arith

pub flush-r-requires : goal.flush-r-requires
flush-r-requires t c =
    let a = c.args in
    let h : 0 < a.l = omega (arith, c.if-l-eq0.false) in
    let few = count-lo (side a.y a.m) in (
      omega arith,
      (
        room-below a.filter a.l (a.l - 1) (side a.x a.w) _ a.m _ (length a.store.now) c.stretch-a.result _ (omega (arith, h))
            c.requires.0 c.stretch-a.ensures
            (next-is a.x a.w _ _ c.next_start.ensures c.low_count.ensures)
            (omega (arith, few, c.low_count-2.ensures, c.requires.0.rows))
            (omega (arith, c.before.before.before.before.before, c.close_level-o.auto.store)),
        omega (arith, c.minus.ensures, c.look_ahead-ahead.ensures, steps-more (filter_of a.filter).ahead a.l h, c.requires.1),
      ),
    )

pub overflow_add-result : goal.overflow_add-result
overflow_add-result t c =
    let a = c.args in
    omega (
      arith,
      c.look_ahead-ahead.ensures,
      c.flush-r.ensures.all,
      steps-more (filter_of a.filter).ahead a.l (omega (arith, c.if-l-eq0.false)),
      c.requires,
      steps-few a.filter a.l,
    )

pub returns : goal.returns
returns t c =
    let a = c.args in
    let l = c.close_level-o.new.store in
    let h : 0 < a.l = omega (arith, c.if-l-eq0.false) in
    let s = store-back (filter_of a.filter).rows (side a.x a.w) a.l h in
    let j : c.stretch-a.result ≡ (filter_of a.filter).rows * a.w = c.stretch-a.ensures in
    flush-goes a.filter a.l (side a.x a.w) a.y a.c a.m _ (at l) _ h c.close_level-o.ensures _ _ _ _ _ _
    (at c.flush-r.new.store) _ _ _ c.requires.0.wide c.requires.0.deep (omega (arith, c.before)) c.stretch-a.ensures
    (next-is a.x a.w _ _ c.next_start.ensures c.low_count.ensures) (start_is a.y _ c.next_start-2.ensures)
    (c.minus.ensures ∙ ap (λ (i : ℕ). a.c - i) c.look_ahead-ahead.ensures) c.low_count-2.ensures
    (rw (at_rest c.stretch-a.result l) at c.flush-r.ensures) (at_join c.stretch-a.result l c.flush-r.new.store (omega (arith, c.before, j)))
    c.look_ahead-ahead.ensures (seen-fits _ _ _ c.seen_from.ensures)
