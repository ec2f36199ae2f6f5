use mathlib.Core.Path.{◌≡◌, sym, ap, ◌∙◌}
use Prim.Native.Nat.{◌-◌}
use native.Mathlib.Omega.{arith}
use Rattle.wavelet.specs.Limits.{max_levels}
use Rattle.tolerance.specs.Figure.{level_error, error_after}
use Rattle.rounding.specs.Figure.{max_step, error_bound}
use Rattle.rounding.proofs.FigureLaws.{level-small, after_none, after_next}
use Rattle.rounding.proofs.error.bound_of.Goals as goal

pub overflow_sub-e : goal.overflow_sub-e
overflow_sub-e c = c.requires.1

pub loop-k-init : goal.loop-k-init
unfolding max_step
loop-k-init c = (omega (arith, c.requires), omega arith, sym (after_none _))

pub level_error-f-requires : goal.level_error-f-requires
unfolding max_levels
level_error-f-requires c = (omega (arith, c.loop-k.invariant.0), omega (arith, c.loop-k.invariant, c.requires.0))

pub loop-k-preserved : goal.loop-k-preserved
loop-k-preserved c =
    let h = c.loop-k in
    let i = h.invariant in (
      i.0,
      omega (arith, c.level_error-f.ensures, level-small (c.args.step - 1) h.f i.0, i.1),
      c.level_error-f.ensures ∙ ap (level_error (c.args.step - 1)) i.2 ∙ sym (after_next _ _),
    )

pub returns : goal.returns
unfolding error_bound
returns c =
    let i = c.loop-k.invariant in
    let e : c.loop-k._k ≡ c.args.levels = omega arith in
    i.2 ∙ ap (error_after (c.args.step - 1)) e
