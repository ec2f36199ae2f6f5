-- `synthesis::back::row_place` meets its contract: a slot of those kept, or 0. Assumes nothing.
use mathlib.Core.Path.{◌∙◌, sym, ap}
use mathlib.Core.Bool.{Bool}
use native.Mathlib.Omega.{arith}
use borrow.Author.Tests.{le-leb, lt-leb}
use Rattle.numbers.specs.Signal.{pick}
use Rattle.level.specs.Rebuilding.{widest}
use Rattle.synthesis.specs.Back.{row_place_of}
use Rattle.synthesis.proofs.BackLaws.{place-room}
use Rattle.synthesis.proofs.back.row_place.Goals as goal

pub returns-then-w-gt-WIDEST : goal.returns-then-w-gt-WIDEST
returns-then-w-gt-WIDEST c =
    let a = c.args in
    record { place = sym (ap (λ (t : Bool). pick t (row_place_of a.filter a.w a.r) 0) (lt-leb a.w widest (omega arith))); room = omega (arith, place-room a.filter a.w 0) }

pub returns : goal.returns
unfolding row_place_of
returns c =
    let a = c.args in
    record { place = c.row_place.ensures.0 ∙ sym (ap (λ (t : Bool). pick t (row_place_of a.filter a.w a.r) 0) (le-leb a.w widest (omega arith))); room = c.row_place.ensures.1 }
