use Rattle.std.proofs.Common.{◌≡◌, ◌+◌, ◌-◌, sym, refl, ap, ◌∙◌, arith}
use Rattle.lifting.specs.Grid.{side}
use Rattle.progress.specs.Counts.{skip}
use Rattle.progress.proofs.CountLaws.{skip_all, skip_stop, skip-go, skip-none}
use Rattle.progress.proofs.counts.next_band.Goals as goal

pub returns-then-all_have : goal.returns-then-all_have
returns-then-all_have c = skip_all _ _ _ _ c.all_have.ensures c.if-all_have.true _

pub loop-k-init : goal.loop-k-init
loop-k-init c = refl

pub returns-then-has_row : goal.returns-then-has_row
returns-then-has_row c =
    let k = c.loop-k.k in
    let e : k - 1 + 1 ≡ k = omega arith in
    e ∙ skip_stop _ _ _ _ c.loop-k-test.true (sym c.has_row.ensures ∙ c.if-has_row.true) ∙ c.loop-k.invariant

pub loop-k-preserved : goal.loop-k-preserved
loop-k-preserved c =
    skip-go _ _ _ _ c.loop-k-test.true (sym c.has_row.ensures ∙ c.if-has_row.false) ∙ c.loop-k.invariant

pub returns : goal.returns
returns c =
    let a = c.args in
    let l = c.loop-k in
    let z : l.k ≡ 0 = omega arith in
    skip-none (side a.x a.w) (side a.y a.m) a.n ∙ ap (skip (side a.x a.w) (side a.y a.m) a.n) (sym z) ∙ l.invariant
