-- `cascade::arrive` meets its contract, by induction on the levels: each way out is the machine's step. Assumes nothing.
use mathlib.Core.Path.{◌≡◌, sym, ap, refl, ◌∙◌}
use Prim.Native.Nat.{ℕ, ◌+◌, ◌-◌, ◌*◌, ◌/◌, ◌%◌, ◌<◌}
use native.Mathlib.Omega.{arith}
use lib.ListN.{length}
use borrow.Author.Rules.{rules}
use borrow.Author.Tests.{not-true}
use Rattle.numbers.specs.Signal.{at}
use Rattle.lifting.specs.Grid.{side}
use Rattle.wavelet.specs.Levels.{next}
use Rattle.wavelet.proofs.SideLaws.{next-length}
use Rattle.wavelet.proofs.StoreLaws.{store-back}
use Rattle.filters.specs.Filters.{filter_of}
use Rattle.level.proofs.RestLaws.{at_rest, at_join}
use Rattle.filters.proofs.FigureLaws.{row-few}
use Rattle.analysis.proofs.ForwardLaws.{level-done, next-done}
use Rattle.progress.specs.Counts.{skip}
use Rattle.progress.proofs.CountLaws.{completes-set, next-is, start_is}
use Rattle.writer.proofs.CascadeLaws.{room-below, left-still, goes, arrive-still, makes_set, came-waits, came-last, came-goes}
use Rattle.progress.proofs.WaitLaws.{seen-fits}
use Rattle.writer.proofs.cascade.+arrive.Goals as goal

pub returns-then-not-makes_set : goal.returns-then-not-makes_set
returns-then-not-makes_set t c =
    let a = c.args in
    left-still a.filter a.l (side a.x a.w) _ _ _ c.nothing.ensures
    (arrive-still a.filter a.l (side a.x a.w) a.y a.m _ (sym c.makes_set.ensures ∙ not-true _ c.if-not-makes_set.true-raw))

pub overflow_add-n : goal.overflow_add-n
overflow_add-n t c = omega arith

pub overflow_sub-n : goal.overflow_sub-n
overflow_sub-n t c =
    let a = c.args in
    let off = makes_set a.filter a.l a.y a.m _ c.makes_set.ensures c.if-not-makes_set.false-raw in
    omega (arith, c.look_ahead.ensures, completes-set (filter_of a.filter).ahead a.y a.m off.1)

pub overflow_add-m : goal.overflow_add-m
overflow_add-m t c = omega arith

pub overflow_sub-l : goal.overflow_sub-l
overflow_sub-l t c =
    let a = c.args in
    omega (arith, (makes_set a.filter a.l a.y a.m _ c.makes_set.ensures c.if-not-makes_set.false-raw).0)

pub shape_of-store-then-i-gt0 : goal.shape_of-store-then-i-gt0
shape_of-store-then-i-gt0 t c = c.make.auto.store

pub returns-then-i-gt0 : goal.returns-then-i-gt0
returns-then-i-gt0 t c =
    let a = c.args in
    let n = (a.y % 2 + a.m) / 2 - c.look_ahead.result in
    let off = makes_set a.filter a.l a.y a.m _ c.makes_set.ensures c.if-not-makes_set.false-raw in
    let room = store-back (filter_of a.filter).rows (side a.x a.w) a.l off.0 in
    came-waits a.filter a.l (side a.x a.w) a.y a.m n _ _ _ _ c.makes_set.ensures c.if-not-makes_set.false-raw
    (ap (λ (i : ℕ). (a.y % 2 + a.m) / 2 - i) c.look_ahead.ensures)
    (level-done a.filter (length a.store.now) (side a.x a.w) _ _ _ (omega (arith, c.requires)) c.make.ensures.store_after)
    (c.next_band-i.ensures ∙ ap (skip (side a.x a.w) (side a.y (a.m + 1)) n) c.most.ensures) (omega arith)

pub overflow_sub-l-2 : goal.overflow_sub-l-2
overflow_sub-l-2 t c =
    let a = c.args in
    omega (arith, (makes_set a.filter a.l a.y a.m _ c.makes_set.ensures c.if-not-makes_set.false-raw).0)

pub shape_of-store-then-not-gives_row : goal.shape_of-store-then-not-gives_row
shape_of-store-then-not-gives_row t c = c.make.auto.store

pub returns-then-not-gives_row : goal.returns-then-not-gives_row
returns-then-not-gives_row t c =
    let a = c.args in
    let n = (a.y % 2 + a.m) / 2 - c.look_ahead.result in
    let off = makes_set a.filter a.l a.y a.m _ c.makes_set.ensures c.if-not-makes_set.false-raw in
    let room = store-back (filter_of a.filter).rows (side a.x a.w) a.l off.0 in
    came-last a.filter a.l (side a.x a.w) a.y a.m n _ _ _ _ c.makes_set.ensures c.if-not-makes_set.false-raw
    (ap (λ (i : ℕ). (a.y % 2 + a.m) / 2 - i) c.look_ahead.ensures)
    (level-done a.filter (length a.store.now) (side a.x a.w) _ _ _ (omega (arith, c.requires)) c.make.ensures.store_after)
    (c.next_band-i.ensures ∙ ap (skip (side a.x a.w) (side a.y (a.m + 1)) n) c.most.ensures)
    (omega arith) _ c.gives_row.ensures c.if-not-gives_row.true-raw _ c.nothing-then-not-gives_row.ensures

pub overflow_sub-k : goal.overflow_sub-k
overflow_sub-k t c =
    let a = c.args in
    omega (arith, goes (a.l - 1) a.y ((a.y % 2 + a.m) / 2 - c.look_ahead.result) _ c.gives_row.ensures c.if-not-gives_row.false-raw)

pub overflow_add-s : goal.overflow_add-s
overflow_add-s t c = omega arith

pub stretch-a-requires : goal.stretch-a-requires
stretch-a-requires t c = omega arith

pub offset_bounds-store-a : goal.offset_bounds-store-a
offset_bounds-store-a t c =
    let a = c.args in
    let e : c.stretch-a.result ≡ (filter_of a.filter).rows * a.w = c.stretch-a.ensures in
    omega (arith, e, c.requires, row-few a.filter a.w)

pub slice_bounds-arrive-count : goal.slice_bounds-arrive-count
slice_bounds-arrive-count t c =
    let a = c.args in
    let off = makes_set a.filter a.l a.y a.m _ c.makes_set.ensures c.if-not-makes_set.false-raw in
    let e : c.stretch-a.result ≡ (filter_of a.filter).rows * a.w = c.stretch-a.ensures in
    omega (arith, e, store-back (filter_of a.filter).rows (side a.x a.w) a.l off.0)

pub slice_bounds-arrive-start : goal.slice_bounds-arrive-start
slice_bounds-arrive-start t c =
    let a = c.args in
    let off = makes_set a.filter a.l a.y a.m _ c.makes_set.ensures c.if-not-makes_set.false-raw in
    let e : c.stretch-a.result ≡ (filter_of a.filter).rows * a.w = c.stretch-a.ensures in
    omega (arith, e, store-back (filter_of a.filter).rows (side a.x a.w) a.l off.0)

pub slice_bounds-arrive-end : goal.slice_bounds-arrive-end
slice_bounds-arrive-end t c = omega arith

pub overflow_sub-l-3 : goal.overflow_sub-l-3
overflow_sub-l-3 t c =
    let a = c.args in
    omega (arith, (makes_set a.filter a.l a.y a.m _ c.makes_set.ensures c.if-not-makes_set.false-raw).0)

pub arrive-r-requires : goal.arrive-r-requires
arrive-r-requires t c =
    let a = c.args in
    let off = makes_set a.filter a.l a.y a.m _ c.makes_set.ensures c.if-not-makes_set.false-raw in (
      omega arith,
      room-below a.filter a.l (a.l - 1) (side a.x a.w) _ a.m _ (length a.store.now) c.stretch-a.result _ (omega (arith, off.0))
          c.requires c.stretch-a.ensures (next-is a.x a.w _ _ c.next_start.ensures c.low_count.ensures)
          (omega (arith, c.requires.rows))
          (omega (arith, c.deliver, c.make)),
    )

pub returns : goal.returns
returns t c =
    let a = c.args in
    let l = c.deliver.new.store in
    let n = (a.y % 2 + a.m) / 2 - c.look_ahead.result in
    let off = makes_set a.filter a.l a.y a.m _ c.makes_set.ensures c.if-not-makes_set.false-raw in
    let room = store-back (filter_of a.filter).rows (side a.x a.w) a.l off.0 in
    let g = goes (a.l - 1) a.y n _ c.gives_row.ensures c.if-not-gives_row.false-raw in
    let q = store-back (filter_of a.filter).rows (next (side a.x a.w)) (a.l - 1) g.0 in
    let h = next-length (side a.x a.w) in
    let j : c.stretch-a.result ≡ (filter_of a.filter).rows * a.w = c.stretch-a.ensures in
    came-goes a.filter a.l (side a.x a.w) a.y a.m n _ _ _ _ c.makes_set.ensures c.if-not-makes_set.false-raw
    (ap (λ (i : ℕ). (a.y % 2 + a.m) / 2 - i) c.look_ahead.ensures)
    (level-done a.filter (length a.store.now) (side a.x a.w) _ _ _ (omega (arith, c.requires)) c.make.ensures.store_after)
    (c.next_band-i.ensures ∙ ap (skip (side a.x a.w) (side a.y (a.m + 1)) n) c.most.ensures)
    (omega (arith, c.before)) _ c.gives_row.ensures c.if-not-gives_row.false-raw
    _ _ _ _ _ _ (at l) (at c.arrive-r.new.store) _ _ _ c.requires.wide c.requires.deep
    (record {
      columns = next-is a.x a.w _ _ c.next_start.ensures c.low_count.ensures;
      start = start_is a.y _ c.next_start-s.ensures;
      row = refl;
    }) refl c.stretch-a.ensures
    (next-done a.filter (length c.make.new.store) (side a.x a.w) _ _ _ (omega (arith, c.requires, c.make)) c.deliver.ensures.store_after)
    (rw (at_rest c.stretch-a.result l) at c.arrive-r.ensures) (at_join c.stretch-a.result l c.arrive-r.new.store
    (omega (arith, c.before, j))) (seen-fits _ _ _ c.seen_from.ensures)
