-- `lifting::place::lift_at` meets its contract: what is read and stored are 32-bit numbers read back. Assumes nothing.
use mathlib.Core.Path.{◌≡◌, ◌∙◌}
use lib.ListN.{set}
use mir.Syntax.{w32}
use mir.Val.{to_z, of_z}
use Rattle.numbers.specs.Signal.{at}
use Rattle.numbers.specs.Word.{wrap32}
use Rattle.numbers.proofs.Words.{read_back}
use Rattle.lifting.specs.Line.{predicted, updated}
use Rattle.lifting.proofs.ColumnLaws.{two-stores, stays}
use Rattle.lifting.proofs.place.lift_at.Goals as goal

pub returns : goal.returns
returns c =
    let a = c.args in
    let m = a.area.now in
    let d = to_z w32 (of_z w32 c.predict-d.result) in
    let x = read_back (at m a.p.low) c.x-1.given in
    let ed : d ≡ predicted wrap32 (at m a.p.high) (at m a.p.low) (at m a.p.right) =
    read_back c.predict-d.result c.predict-d.type_inv
    ∙ c.predict-d.ensures
    ∙ rw (read_back (at m a.p.high) c.predict-arg-1.given, x, read_back (at m a.p.right) c.predict-arg-2-1.given) in
    let eu : to_z w32 (of_z w32 c.update.result) ≡ updated wrap32 (to_z w32 (of_z w32 (at m a.p.low))) (at (set m a.p.high d) a.p.before) d =
    read_back c.update.result c.update.type_inv ∙ c.update.ensures ∙ rw (read_back (at (set m a.p.high d) a.p.before) c.update-arg-1.given) in
    record { value = stays m a.p.high a.p.low a.p.right a.p.before _ _ _ c.requires.0 c.requires.1 c.requires.4 ed x eu; area_after = two-stores m a.p.high a.p.low a.p.right a.p.before _ _ _ c.requires.0 c.requires.1 c.requires.4 ed x eu }
