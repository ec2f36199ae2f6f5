-- `works`: its place, and then the trial. Assumes nothing.
use mathlib.Core.Path.{sym, ◌∙◌}
use native.Mathlib.Omega.{arith}
use Rattle.nearest_change.proofs.StepLaws.{outside-rows, outside-columns, tried_of, inside-from}
use Rattle.nearest_change.proofs.trial.Cell.works.Goals as goal

pub returns-then-not-is_inside : goal.returns-then-not-is_inside
returns-then-not-is_inside c =
    let a = c.args in
    outside-rows a.self.now.window a.self.now a.t (sym c.is_inside.ensures ∙ c.if-not-is_inside.true)

pub returns-then-not-is_inside-2 : goal.returns-then-not-is_inside-2
returns-then-not-is_inside-2 c =
    let a = c.args in
    outside-columns a.self.now.window a.self.now a.t (sym c.is_inside.ensures ∙ c.if-not-is_inside.false)
    (sym c.is_inside-2.ensures ∙ c.if-not-is_inside-2.true)

pub alters_by-requires : goal.alters_by-requires
alters_by-requires c =
    let f = inside-from _ _ (sym c.is_inside.ensures ∙ c.if-not-is_inside.false) in
    let g = inside-from _ _ (sym c.is_inside-2.ensures ∙ c.if-not-is_inside-2.false) in
    (c.requires.0, omega arith, omega arith, f, g, omega arith)

pub returns : goal.returns
returns c =
    let a = c.args in
    tried_of a.self.now.window a.self.now a.t _ (sym c.is_inside.ensures ∙ c.if-not-is_inside.false)
    (sym c.is_inside-2.ensures ∙ c.if-not-is_inside-2.false) c.alters_by.ensures
