use Prim.Native.Nat.{◌-◌}
use mathlib.Core.Path.{◌≡◌, refl, sym, ◌∙◌}
use native.Mathlib.Omega.{arith}
use Rattle.map_levels.proofs.BackLineLaws.{high-run, highs-end}
use Rattle.map_levels.proofs.Clauses.{by_index-by_index_2}
use Rattle.map_levels.proofs.short_back.unlift_highs.Goals as goal

pub loop-n-init : goal.loop-n-init
loop-n-init c =
    let p = c.requires in
    record {
      some = p.0;
      both = p.1;
      few = p.2;
      least = p.3;
      most = p.4;
      last = refl;
      room = c.well_formed.0.1;
      begun = omega arith;
      within = omega arith;
      size = p.5;
      lows = λ j b. refl;
      done = λ k kb pos inn. absurd (omega arith);
    }

pub overflow_add-m : goal.overflow_add-m
overflow_add-m c = let i = c.loop-n.invariant in omega (arith, i.room, i.both, i.within)

pub overflow_add-n : goal.overflow_add-n
overflow_add-n c = let i = c.loop-n.invariant in omega (arith, i.room, i.both, i.within, i.few)

pub overflow_sub-n : goal.overflow_sub-n
overflow_sub-n c = let i = c.loop-n.invariant in omega (arith, i.begun)

pub overflow_add-n-in-loop-n : goal.overflow_add-n-in-loop-n
overflow_add-n-in-loop-n c = let i = c.loop-n.invariant in omega (arith, i.room, i.both, i.within, i.few)

pub unpredict_to-requires : goal.unpredict_to-requires
unpredict_to-requires c =
    let i = c.loop-n.invariant in
    let t = c.loop-n-test.true in (
      omega (arith, i.last, i.least, t),
      omega (arith, i.size, i.last, i.both, t),
      omega (arith, i.size, i.last, i.both, t),
      omega (arith, i.size, i.last, i.least, t),
    )

pub loop-n-preserved : goal.loop-n-preserved
loop-n-preserved c = high-run c.loop-n.invariant _ c.loop-n-test.true c.unpredict_to.ensures

pub last_high-requires : goal.last_high-requires
last_high-requires c = let i = c.loop-n.invariant in (i.some, i.both, omega arith, i.size)

pub first_high-requires : goal.first_high-requires
first_high-requires c = let i = c.loop-n.invariant in (i.both, c.last_high.auto.out ∙ i.size)

pub shape_of-out : goal.shape_of-out
shape_of-out c =
    c.first_high.auto.out ∙ c.last_high.auto.out
    ∙ c.loop-n.invariant.size
    ∙ sym c.requires.5

pub returns : goal.returns
returns c =
    let last = c.last_high.ensures in
    let first = c.first_high.ensures in
    let all : c.loop-n.n ≡ c.args.m - c.args.o = omega (arith, c.loop-n-test.false, c.loop-n.invariant.within) in
    by_index-by_index_2 (highs-end (rw all at c.loop-n.invariant) _ _ (omega arith) last.out_after last.out_unchanged first.out_after
    first.out_unchanged)
