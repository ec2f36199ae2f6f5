use Rattle.numbers.proofs.Words.{read_back}
use mathlib.Core.Path.{◌≡◌, refl, ap, ◌∙◌}
use mathlib.Core.Bool.{true}
use Prim.Native.Nat.{◌+◌, ◌<◌}
use lib.ListN.{length}
use native.Mathlib.Omega.{arith}
use Rattle.wavelet.specs.Limits.{max_width}
use Rattle.map_levels.specs.Sweep.{line_half}
use Rattle.map_levels.proofs.SweepLines.{made_none, ended-more}
use Rattle.map_levels.proofs.lines.end_all.Goals as goal

pub loop-i-init : goal.loop-i-init
loop-i-init g c = (refl, λ b c. made_none true _ _ _ _)

pub overflow_mul-i : goal.overflow_mul-i
unfolding line_half max_width
overflow_mul-i g c = omega arith

pub overflow_add-i : goal.overflow_add-i
unfolding line_half max_width
overflow_add-i g c = omega arith

pub end_place-requires : goal.end_place-requires
unfolding line_half max_width
end_place-requires g c = (omega arith, omega arith)

pub loop-i-preserved : goal.loop-i-preserved
unfolding line_half max_width
loop-i-preserved g c =
    let e = g.T.Element in
    let l = c.args.area.now in
    let i = c.loop-i.i in
    let h : c.args.a + i < length l = omega arith in
    let v = c.value.ensures ∙ ap e.whole c.index-area-a.is ∙ e.laws.place l (c.args.a + i) c.index-area-a.result h in (
      c.end_place.auto.lines ∙ c.loop-i.invariant.0,
      λ b d. ended-more i _ b d _ _ _ (omega arith) (c.end_place.ensures ∙ rw (read_back c.value.result c.value.type_inv, v)) (c.loop-i.invariant.1 b d),
    )

pub shape_of-lines : goal.shape_of-lines
shape_of-lines g c = c.loop-i.invariant.0

pub returns : goal.returns
returns g c =
    let e : c.loop-i.i ≡ c.args.width = omega arith in
    λ b d. rw e at (c.loop-i.invariant.1 b d)
