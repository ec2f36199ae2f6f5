-- `cascade::pass_on` meets its contract: the LL row delivered, and what it makes below. Assumes nothing.
use mathlib.Core.Path.{◌≡◌, sym, refl, ◌∙◌}
use Prim.Native.Nat.{◌+◌, ◌*◌}
use native.Mathlib.Omega.{arith}
use lib.ListN.{length}
use borrow.Author.Tests.{not-true}
use Rattle.numbers.specs.Signal.{at}
use Rattle.lifting.specs.Grid.{side}
use Rattle.wavelet.specs.Levels.{next}
use Rattle.wavelet.proofs.SideLaws.{next-length}
use Rattle.wavelet.proofs.StoreLaws.{store-next, store-back}
use Rattle.filters.specs.Filters.{filter_of}
use Rattle.filters.proofs.FigureLaws.{row-few}
use Rattle.analysis.proofs.ForwardLaws.{next-done}
use Rattle.level.proofs.RestLaws.{at_rest, at_join}
use Rattle.progress.proofs.CountLaws.{next-is, start_is}
use Rattle.progress.proofs.WaitLaws.{seen-fits}
use Rattle.writer.proofs.CascadeLaws.{room-below, left-still, goes, pass-none, passed-goes}
use borrow.Author.Rules.{rules}
use Rattle.writer.proofs.cascade.pass_on.Goals as goal

pub returns-then-not-gives_row : goal.returns-then-not-gives_row
returns-then-not-gives_row c =
    let a = c.args in
    left-still a.filter (a.l + 1) (side a.x a.w) _ _ _ c.nothing.ensures
    (pass-none a.filter (side a.x a.w) a.y a.n _ a.l (sym c.gives_row.ensures ∙ not-true _ c.if-not-gives_row.true-raw))

pub overflow_sub-k : goal.overflow_sub-k
overflow_sub-k c = let a = c.args in omega (arith, goes a.l a.y a.n _ c.gives_row.ensures c.if-not-gives_row.false-raw)

pub offset_bounds-store-a : goal.offset_bounds-store-a
offset_bounds-store-a c =
    let a = c.args in
    let e : c.stretch-a.result ≡ (filter_of a.filter).rows * a.w = c.stretch-a.ensures in
    omega (arith, e, c.requires, row-few a.filter a.w)

pub slice_bounds-arrive-count : goal.slice_bounds-arrive-count
slice_bounds-arrive-count c =
    let a = c.args in
    let e : c.stretch-a.result ≡ (filter_of a.filter).rows * a.w = c.stretch-a.ensures in
    omega (arith, e, store-next (filter_of a.filter).rows (side a.x a.w) a.l)

pub slice_bounds-arrive-start : goal.slice_bounds-arrive-start
slice_bounds-arrive-start c =
    let a = c.args in
    let e : c.stretch-a.result ≡ (filter_of a.filter).rows * a.w = c.stretch-a.ensures in
    omega (arith, e, store-next (filter_of a.filter).rows (side a.x a.w) a.l)

pub arrive-r-requires : goal.arrive-r-requires
arrive-r-requires c =
    let a = c.args in
    room-below a.filter (a.l + 1) a.l (side a.x a.w) _ a.n _ (length a.store.now) c.stretch-a.result _ refl c.requires
    c.stretch-a.ensures (next-is a.x a.w _ _ c.next_start.ensures c.low_count.ensures) (omega (arith, c.requires.rows))
    (omega (arith, c.deliver))

pub returns : goal.returns
returns c =
    let a = c.args in
    let l = c.deliver.new.store in
    let g = goes a.l a.y a.n _ c.gives_row.ensures c.if-not-gives_row.false-raw in
    let s = store-next (filter_of a.filter).rows (side a.x a.w) a.l in
    let q = store-back (filter_of a.filter).rows (next (side a.x a.w)) a.l g.0 in
    let h = next-length (side a.x a.w) in
    let j : c.stretch-a.result ≡ (filter_of a.filter).rows * a.w = c.stretch-a.ensures in
    passed-goes a.filter a.l (side a.x a.w) a.y a.n _ _ _ _ _ _ _ (at l) (at c.arrive-r.new.store) _ _ _ c.requires.wide
    (omega (arith, c.requires.deep)) g.0 g.1
    (record {
      columns = next-is a.x a.w _ _ c.next_start.ensures c.low_count.ensures;
      start = start_is a.y _ c.next_start-s.ensures;
      row = refl;
    }) refl c.stretch-a.ensures
    (next-done a.filter (length a.store.now) (side a.x a.w) _ _ _ (omega (arith, c.requires)) c.deliver.ensures.store_after)
    (rw (at_rest c.stretch-a.result l) at c.arrive-r.ensures)
    (at_join c.stretch-a.result l c.arrive-r.new.store (omega (arith, c.requires, c.deliver, j)))
    (seen-fits _ _ _ c.seen_from.ensures)
