-- `forward::make` meets its contract: the stretch lies in the store, or 5 is given. Assumes nothing.
use mathlib.Core.Path.{sym, ◌∙◌}
use lib.ListN.{length}
use Rattle.lifting.specs.Grid.{side}
use Rattle.analysis.proofs.StretchLaws.{level_in}
use Rattle.analysis.proofs.forward.make.Goals as goal

pub make_next-requires : goal.make_next-requires
make_next-requires c =
    let a = c.args in
    level_in a.filter (length a.store.now) (side a.x a.w) (sym (c.level_fits.ensures a.x) ∙ c.if-level_fits.true)

pub shape_of-store-then-level_fits : goal.shape_of-store-then-level_fits
shape_of-store-then-level_fits c = c.make_next.auto.store

pub returns-then-level_fits : goal.returns-then-level_fits
returns-then-level_fits c =
    let a = c.args in
    let ok = sym (c.level_fits.ensures a.x) ∙ c.if-level_fits.true in
    record { value = simp ok; store_after = simp ok c.make_next.ensures }

pub returns : goal.returns
returns c =
    let a = c.args in
    let bad = sym (c.level_fits.ensures a.x) ∙ c.if-level_fits.false in
    record { value = simp bad; store_after = simp bad }
