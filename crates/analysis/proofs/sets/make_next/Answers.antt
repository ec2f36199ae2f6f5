-- `sets::make_next` meets its contract: in one pass, or as the set of a small number that has the same slots. Assumes nothing.
use mathlib.Core.Path.{sym, ap, ◌∙◌}
use Prim.Native.Nat.{ℕ, ◌+◌, ◌-◌, ◌*◌, ◌%◌}
use native.Mathlib.Omega.{arith}
use lib.ListN.{length}
use Rattle.numbers.specs.Signal.{at}
use Rattle.lifting.specs.Grid.{side}
use Rattle.filters.proofs.FigureLaws.{ahead-few}
use Rattle.analysis.specs.Columns.{columns_of}
use Rattle.analysis.specs.Sets.{rows_to, set_made}
use Rattle.analysis.proofs.PairLaws.{pair-in}
use Rattle.analysis.proofs.SameSets.{reduced-set, reduced-small}
use Rattle.analysis.proofs.SetLaws.{next-set, pair-room, pair-slot}
use Rattle.analysis.proofs.sets.make_next.Goals as goal

pub make_pair-requires : goal.make_pair-requires
make_pair-requires c =
    let a = c.args in
    let i = pair-in a.filter (rows_to 1 a.y a.n) a.n (sym c.is_next_pair.ensures ∙ c.if-is_next_pair.true) in
    (pair-room a.filter a.w (length a.store.now) i.five c.requires, pair-slot _ _ c.slot_on.ensures.0)

pub shape_of-store-then-is_next_pair : goal.shape_of-store-then-is_next_pair
shape_of-store-then-is_next_pair c = c.make_pair.auto.store

pub returns-then-is_next_pair : goal.returns-then-is_next_pair
returns-then-is_next_pair c =
    let a = c.args in
    next-set (side a.x a.w) a.n _ _ _ a.filter a.y (sym c.is_next_pair.ensures ∙ c.if-is_next_pair.true) c.slot_on.ensures.0
    c.make_pair.ensures

pub overflow_mul-m : goal.overflow_mul-m
overflow_mul-m c = let a = c.args in omega (arith, reduced-small a.n c.reduced-k.result c.reduced-k.ensures)

pub overflow_mul-m-2 : goal.overflow_mul-m-2
overflow_mul-m-2 c = let a = c.args in omega (arith, c.look_ahead.ensures, ahead-few a.filter)

pub overflow_add-m : goal.overflow_add-m
overflow_add-m c =
    let a = c.args in
    omega (arith, c.look_ahead.ensures, ahead-few a.filter, reduced-small a.n c.reduced-k.result c.reduced-k.ensures)

pub overflow_add-m-2 : goal.overflow_add-m-2
overflow_add-m-2 c =
    let a = c.args in
    omega (arith, c.look_ahead.ensures, ahead-few a.filter, reduced-small a.n c.reduced-k.result c.reduced-k.ensures)

pub make_set-requires : goal.make_set-requires
make_set-requires c = c.requires

pub shape_of-store : goal.shape_of-store
shape_of-store c = c.make_set.auto.store

pub returns : goal.returns
returns c =
    let a = c.args in
    let k = c.reduced-k.result in
    let W = side a.x a.w in
    reduced-set a.filter W a.y a.n k _ _ c.reduced-k.ensures
    (c.make_set.ensures
    ∙ ap (λ (i : ℕ). set_made (columns_of a.filter) W (side a.y (2 * k + 2 * i + 1 - a.y % 2)) k (at a.store.now)) c.look_ahead.ensures)
