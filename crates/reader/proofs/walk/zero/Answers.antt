-- `reader::walk::zero` meets its contract: the needed part cleared. Assumes nothing.
use mathlib.Core.Path.{◌∙◌, ap}
use mathlib.Core.Bool.{Bool}
use Prim.Native.Nat.{ℕ, ◌+◌}
use native.Mathlib.Omega.{arith}
use lib.ListN.{length}
use Rattle.numbers.specs.Signal.{pick}
use Rattle.lifting.specs.Grid.{side}
use Rattle.filters.specs.Figures.{store_by}
use Rattle.reader.proofs.CallLaws.{zero-front}
use Rattle.reader.proofs.walk.zero.Goals as goal

pub overflow_add-n : goal.overflow_add-n
overflow_add-n c =
    let a = c.args in
    let N = store_by a.filter (side a.x a.width) a.levels in
    let e = c.store_length.ensures ∙ ap (λ (b : Bool). pick b N 0) c.requires.0 in
    omega (arith, e, c.requires.1)

pub shape_of-store : goal.shape_of-store
shape_of-store c = c.clear.auto.area

pub returns : goal.returns
returns c =
    let a = c.args in
    let N = store_by a.filter (side a.x a.width) a.levels in
    zero-front (a.spare + N) _ (length a.store.now) _ _
    (ap (λ (n : ℕ). a.spare + n) (c.store_length.ensures ∙ ap (λ (b : Bool). pick b N 0) c.requires.0)) c.requires.1 c.clear.ensures.area
