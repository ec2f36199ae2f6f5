-- `lines::lift_elements` meets its contract: the step at three elements. Assumes nothing.
use mathlib.Core.Path.{ap, ◌∙◌}
use native.Mathlib.Omega.{arith}
use Rattle.numbers.proofs.Words.{read_back}
use Rattle.map_levels.proofs.lines.lift_elements.Goals as goal

pub returns : goal.returns
returns g c =
    let e = g.T.Element in
    let l = c.args.area.now in
    let p = c.value.ensures ∙ ap e.whole c.index-area-p.is ∙ e.laws.place l c.args.p c.index-area-p.result c.requires.0 in
    let q = c.value-2.ensures ∙ ap e.whole c.index-area-q.is ∙ e.laws.place l c.args.q c.index-area-q.result c.requires.1 in
    let r = c.value-3.ensures ∙ ap e.whole c.index-area-r.is ∙ e.laws.place l c.args.r c.index-area-r.result c.requires.2 in
    c.lift_place.ensures ∙ rw (
      read_back c.value.result c.value.type_inv,
      read_back c.value-2.result c.value-2.type_inv,
      read_back c.value-3.result c.value-3.type_inv,
      p,
      q,
      r,
    )
