-- `number`: by cases. Assumes nothing.
use Rattle.nearest_change.proofs.FiveLaws.{number-0, number-1, number-2, number-3, number-rest}
use Rattle.nearest_change.proofs.five.number.Goals as goal

pub returns-in-0 : goal.returns-in-0
returns-in-0 c = let a = c.args in number-0 a.f a.i c.in-0.is

pub returns-in-1 : goal.returns-in-1
returns-in-1 c = let a = c.args in number-1 a.f a.i c.in-1.is

pub returns-in-2 : goal.returns-in-2
returns-in-2 c = let a = c.args in number-2 a.f a.i c.in-2.is

pub returns-in-3 : goal.returns-in-3
returns-in-3 c = let a = c.args in number-3 a.f a.i c.in-3.is

pub returns-in_default : goal.returns-in_default
returns-in_default c =
    let a = c.args in
    number-rest a.f a.i c.in_default.in_default-own.rest.0.0.0.1 c.in_default.in_default-own.rest.0.0.1 c.in_default.in_default-own.rest.0.1 c.in_default.in_default-own.rest.1
