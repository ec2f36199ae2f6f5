use mathlib.Core.Path.{sym, ap, ◌∙◌}
use native.Mathlib.Omega.{arith}
use Rattle.numbers.proofs.Sweep.{start, store, finish}
use Rattle.numbers.proofs.Words.{read_back}
use Rattle.rounding.specs.Rounding.{toward_zero}
use Rattle.rounding.proofs.RoundLaws.{from-before, from_at, from_past}
use Rattle.rounding.proofs.rows.round_between.Goals as goal

pub loop-i-init : goal.loop-i-init
loop-i-init c = (
  c.requires.1,
  c.requires.0,
  start _ _ _ (λ j lt. from-before _ _ _ _ j lt),
)

pub offset_bounds-plane-i : goal.offset_bounds-plane-i
offset_bounds-plane-i c = let h = c.loop-i.invariant in record { fits = omega (arith, h.0) }

pub slice_copy_out-rounded : goal.slice_copy_out-rounded
slice_copy_out-rounded c = let h = c.loop-i.invariant in omega (arith, h.0, h.2.size)

pub rounded-requires : goal.rounded-requires
rounded-requires c = c.loop-i.invariant.1

pub offset_bounds-plane-i-in-loop-i : goal.offset_bounds-plane-i-in-loop-i
offset_bounds-plane-i-in-loop-i c = let h = c.loop-i.invariant in record { fits = omega (arith, h.0) }

pub bounds-plane-i : goal.bounds-plane-i
bounds-plane-i c = let h = c.loop-i.invariant in omega (arith, h.0, h.2.size)

pub loop-i-preserved : goal.loop-i-preserved
loop-i-preserved c =
    let h = c.loop-i in
    let i = h.invariant in
    let x = c.args in (
      i.0,
      i.1,
      store _ i.2 (omega (arith, i.0))
          (read_back _ c.rounded.type_inv ∙ c.rounded.ensures
          ∙ ap (toward_zero x.q.step) (read_back _ c.rounded-arg-1.given ∙ i.2.rest h.i (omega arith))
          ∙ sym (from_at _ _ _ _ h.i (omega arith) (omega arith))),
    )

pub shape_of-plane : goal.shape_of-plane
shape_of-plane c = c.loop-i.invariant.2.size

pub returns : goal.returns
returns c = finish c.loop-i.invariant.2 (λ j le. from_past _ _ _ _ j (omega arith))
