-- `lifting::line::forward` meets its contract: the line's places copied into its halves, and these lifted, each in a part of `out` that is lent.
-- Assumes nothing.
use mathlib.Core.Path.{◌≡◌, refl, sym}
use Prim.Native.Nat.{◌-◌}
use native.Mathlib.Omega.{arith}
use lib.ListN.{length}
use borrow.Author.Tests.{le-leb}
use borrow.Rule.Slice.PartMut.{put_mid, same_len_mid}
use Rattle.numbers.specs.Signal.{at}
use Rattle.lifting.specs.Grid.{side}
use Rattle.lifting.proofs.AreaLaws.{Parts, part-starts, low-room, high-room}
use Rattle.lifting.proofs.AreaLaws.{less_none, forward-parts, forward-none}
use Rattle.lifting.proofs.line.forward.Goals as goal

pub slice_bounds-copy_evens-end-then-n-gt0 : goal.slice_bounds-copy_evens-end-then-n-gt0
slice_bounds-copy_evens-end-then-n-gt0 c =
    let facts : Parts (side c.args.start (length c.args.line.now))
    (length c.args.out.now) c.lows-low.result = record {
      some = c.if-n-gt0.true;
      room = c.if-out-n.false;
      small = c.well_formed.0.1;
      lows = c.lows-low.ensures;
    } in
    (part-starts (facts)).3

pub copy_evens-requires : goal.copy_evens-requires
copy_evens-requires c =
    let facts : Parts (side c.args.start (length c.args.line.now))
    (length c.args.out.now) c.lows-low.result = record {
      some = c.if-n-gt0.true;
      room = c.if-out-n.false;
      small = c.well_formed.0.1;
      lows = c.lows-low.ensures;
    } in
    low-room (facts) _ _ refl refl

pub slice_bounds-copy_evens-count-then-n-gt0-3 : goal.slice_bounds-copy_evens-count-then-n-gt0-3
slice_bounds-copy_evens-count-then-n-gt0-3 c =
    let facts : Parts (side c.args.start (length c.args.line.now))
    (length c.args.out.now) c.lows-low.result = record {
      some = c.if-n-gt0.true;
      room = c.if-out-n.false;
      small = c.well_formed.0.1;
      lows = c.lows-low.ensures;
    } in
    (part-starts (facts)).2

pub slice_bounds-copy_evens-start-then-n-gt0-3 : goal.slice_bounds-copy_evens-start-then-n-gt0-3
slice_bounds-copy_evens-start-then-n-gt0-3 c =
    let facts : Parts (side c.args.start (length c.args.line.now))
    (length c.args.out.now) c.lows-low.result = record {
      some = c.if-n-gt0.true;
      room = c.if-out-n.false;
      small = c.well_formed.0.1;
      lows = c.lows-low.ensures;
    } in
    (part-starts (facts)).2

pub copy_evens-requires-then-n-gt0 : goal.copy_evens-requires-then-n-gt0
copy_evens-requires-then-n-gt0 c =
    let facts : Parts (side c.args.start (length c.args.line.now))
    (length c.args.out.now) c.lows-low.result = record {
      some = c.if-n-gt0.true;
      room = c.if-out-n.false;
      small = c.well_formed.0.1;
      lows = c.lows-low.ensures;
    } in
    let size-once : length ((put_mid 0 (c.lows-low.result - 0) c.args.out.now c.copy_evens.new.out)) ≡ length c.args.out.now = same_len_mid 0 (c.lows-low.result - 0) c.args.out.now c.copy_evens.new.out c.copy_evens.auto.out in
    high-room (facts) _ ((put_mid 0 (c.lows-low.result - 0) c.args.out.now c.copy_evens.new.out)) refl (size-once)

pub returns-then-n-gt0 : goal.returns-then-n-gt0
returns-then-n-gt0 c =
    let facts : Parts (side c.args.start (length c.args.line.now))
    (length c.args.out.now) c.lows-low.result = record {
      some = c.if-n-gt0.true;
      room = c.if-out-n.false;
      small = c.well_formed.0.1;
      lows = c.lows-low.ensures;
    } in
    let a = c.args in
    let x = a.line.now in
    let S = side a.start (length x) in
    let N = length x in
    let low = c.lows-low.result in
    let p = facts in
    let ok = le-leb N (length a.out.now) p.room in
    record {
      value = simp ok;
      out_after = simp ok
          (forward-parts S x a.out.now ((put_mid 0 (c.lows-low.result - 0) c.args.out.now c.copy_evens.new.out)) ((put_mid c.lows-low.result (length c.args.line.now - c.lows-low.result) ((put_mid 0 (c.lows-low.result - 0) c.args.out.now c.copy_evens.new.out)) c.copy_evens-then-n-gt0.new.out)) c.copy_evens.new.out c.copy_evens-then-n-gt0.new.out
          c.lift.new.line low (low - 0)
          (N - 0) p.some refl p.room c.lows-low.ensures (less_none low) (less_none N)
          c.copy_evens.auto.out c.copy_evens.ensures refl
          c.copy_evens-then-n-gt0.auto.out c.copy_evens-then-n-gt0.ensures refl
          c.lift.auto.line c.lift.ensures);
    }

pub returns-else-n-gt0 : goal.returns-else-n-gt0
returns-else-n-gt0 c =
    let a = c.args in
    let x = a.line.now in
    let ok = le-leb (length x) (length a.out.now) c.if-out-n.false in
    record { value = simp ok; out_after = simp ok (sym (forward-none (side a.start (length x)) (at x) (at a.out.now) (omega arith))) }
