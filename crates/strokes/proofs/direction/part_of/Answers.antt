-- `direction::part_of` meets its contract: number by number, for either half. Assumes nothing.
use Rattle.std.proofs.Common.{ℕ, ◌-◌, ◌/◌, ap, ap₂, ◌∙◌, arith}
use Rattle.strokes.proofs.CallLaws.{part_low, part-high}
use Rattle.strokes.proofs.direction.part_of.Goals as goal

pub returns-then-high-eq0 : goal.returns-then-high-eq0
returns-then-high-eq0 c =
    let a = c.args in
    let e = ap (λ (x : ℕ). x / 2) c.saturating_sub-first.ensures in
    let p = part_low a.high (a.d.length - a.d.length / 2) (a.d.size - a.d.size / 2) ((a.d.first - 1) / 2) (a.d.start / 2) _ (omega arith) e in
    (p.0, p.1, p.2, c.saturating_sub.ensures ∙ ap₂ (λ (x y : ℕ). x - y) c.min-end.ensures e)

pub returns : goal.returns
returns c =
    let a = c.args in
    let e = ap (λ (x : ℕ). x / 2) c.saturating_sub-first.ensures in
    let p = part-high a.high (a.d.length - a.d.length / 2) (a.d.size - a.d.size / 2) ((a.d.first - 1) / 2) (a.d.start / 2) _ (omega arith) e in
    (p.0, p.1, p.2, c.saturating_sub-2.ensures ∙ ap₂ (λ (x y : ℕ). x - y) c.min-end.ensures e)
