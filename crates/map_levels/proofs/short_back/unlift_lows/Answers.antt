use Prim.Native.Nat.{◌-◌}
use lib.ListN.{length}
use mathlib.Core.Path.{◌≡◌, refl, sym, ◌∙◌}
use native.Mathlib.Omega.{arith}
use Rattle.map_levels.proofs.BackLineLaws.{low_run, lows-end}
use Rattle.map_levels.proofs.short_back.unlift_lows.Goals as goal

pub loop-n-init : goal.loop-n-init
loop-n-init c =
    let p = c.requires in
    record {
      some = p.0;
      both = p.1;
      few = p.2;
      least = p.3;
      most = p.4;
      lows = refl;
      last = refl;
      room = c.well_formed.1.0.1;
      within = omega arith;
      size = p.5;
      done = λ j jb pos. absurd (omega arith);
    }

pub overflow_add-m : goal.overflow_add-m
overflow_add-m c = let i = c.loop-n.invariant in omega (arith, i.room, i.least, i.last, i.few)

pub overflow_add-m-in-loop-n : goal.overflow_add-m-in-loop-n
overflow_add-m-in-loop-n c = let i = c.loop-n.invariant in omega (arith, i.room, i.least, i.last, i.few)

pub overflow_sub-m : goal.overflow_sub-m
overflow_sub-m c = let i = c.loop-n.invariant in omega (arith, i.some)

pub overflow_add-m-in-loop-n-2 : goal.overflow_add-m-in-loop-n-2
overflow_add-m-in-loop-n-2 c = let i = c.loop-n.invariant in omega (arith, i.room, i.least, i.last, i.few)

pub overflow_add-m-in-loop-n-3 : goal.overflow_add-m-in-loop-n-3
overflow_add-m-in-loop-n-3 c = let i = c.loop-n.invariant in omega (arith, i.room, i.least, i.last, i.few)

pub unupdate_to-requires : goal.unupdate_to-requires
unupdate_to-requires c =
    let i = c.loop-n.invariant in
    let t = c.loop-n-test.true in
    (omega (arith, i.lows, i.last, i.most), omega (arith, i.last, i.some), omega (arith, i.last), omega (arith, i.size, i.last, i.both))

pub loop-n-preserved : goal.loop-n-preserved
loop-n-preserved c = low_run c.loop-n.invariant _ c.loop-n-test.true c.unupdate_to.ensures

pub last_low-requires : goal.last_low-requires
last_low-requires c = let i = c.loop-n.invariant in (omega (arith, i.both), omega (arith, i.size, i.lows, i.both))

pub first_low-requires : goal.first_low-requires
first_low-requires c =
    let i = c.loop-n.invariant in
    let kept = c.last_low.auto.out in
    (omega (arith, i.some, i.lows), omega (arith, i.lows, i.both), omega (arith, kept, i.size, i.lows, i.both))

pub shape_of-out : goal.shape_of-out
shape_of-out c =
    c.first_low.auto.out ∙ c.last_low.auto.out
    ∙ c.loop-n.invariant.size
    ∙ sym c.requires.5

pub returns : goal.returns
returns c =
    let last = c.last_low.ensures in
    let first = c.first_low.ensures in
    let end = length c.args.row.now - length c.args.low.now - c.args.o in
    let all : c.loop-n.n ≡ end = omega (arith, c.loop-n-test.false, c.loop-n.invariant.within) in
    lows-end (rw all at c.loop-n.invariant) _ _ (omega arith) last.out_after last.out_unchanged first.out_after first.out_unchanged
