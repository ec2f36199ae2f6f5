use mathlib.Core.Path.{sym, ◌∙◌}
use native.Mathlib.Omega.{arith}
use borrow.Author.Tests.{not-true, not-false}
use Rattle.pgm.proofs.RunReads.{start, room, next, stop, stands, end, finish}
use Rattle.pgm.proofs.runs.read.Goals as goal

pub loop-i-init : goal.loop-i-init
loop-i-init c = start _ _ _ _ _ _ c.is_wide-wide.ensures c.whole-n.ensures

pub sample_at-sample-requires : goal.sample_at-sample-requires
sample_at-sample-requires c = room _ c.loop-i.invariant (omega arith) c.is_wide-wide.ensures

pub shape_of-run-then-not-is_within : goal.shape_of-run-then-not-is_within
shape_of-run-then-not-is_within c = c.loop-i.invariant.size

pub returns-then-not-is_within : goal.returns-then-not-is_within
returns-then-not-is_within c =
    record {
      value = stop _ _ c.loop-i.invariant (omega arith) c.is_wide-wide.ensures c.sample_at-sample.ensures
          (sym c.is_within.ensures ∙ not-true _ c.if-not-is_within.true-raw);
      run_after = stands c.loop-i.invariant;
    }

pub loop-i-preserved : goal.loop-i-preserved
loop-i-preserved c =
    next _ _ c.loop-i.invariant (omega arith) c.is_wide-wide.ensures c.sample_at-sample.ensures
    (sym c.is_within.ensures ∙ not-false _ c.if-not-is_within.false-raw)

pub shape_of-run : goal.shape_of-run
shape_of-run c = c.loop-i.invariant.size

pub returns : goal.returns
returns c = record { value = end c.loop-i.invariant (omega arith); run_after = finish c.loop-i.invariant (omega arith) }
