-- `closing::close_step` meets its contract: each way out is the machine's step. Assumes nothing.
use mathlib.Core.Path.{◌∙◌}
use Prim.Native.Nat.{◌+◌}
use native.Mathlib.Omega.{arith}
use lib.ListN.{length}
use Rattle.lifting.specs.Grid.{side}
use Rattle.wavelet.proofs.StoreLaws.{store-next}
use Rattle.filters.specs.Filters.{filter_of}
use Rattle.analysis.proofs.ForwardLaws.{level-done}
use Rattle.progress.proofs.CountLaws.{made-most}
use Rattle.writer.proofs.CascadeLaws.{left-still}
use Rattle.writer.proofs.ClosingLaws.{step-none, step_waits, step-goes}
use Rattle.writer.proofs.closing.close_step.Goals as goal

pub returns-then-not-is_left : goal.returns-then-not-is_left
returns-then-not-is_left c =
    let a = c.args in
    left-still a.filter (a.l + 1) (side a.x a.w) _ _ _ c.nothing.ensures
    (step-none a.filter a.l (side a.x a.w) a.y a.c a.m _ _ c.made-n.ensures _ c.is_left.ensures
    c.if-not-is_left.true-raw)

pub shape_of-store-then-i-gt0 : goal.shape_of-store-then-i-gt0
shape_of-store-then-i-gt0 c = c.close.auto.store

pub returns-then-i-gt0 : goal.returns-then-i-gt0
returns-then-i-gt0 c =
    let a = c.args in
    step_waits a.filter a.l (side a.x a.w) a.y a.c a.m _ _ c.made-n.ensures _ c.is_left.ensures
    c.if-not-is_left.false-raw _ _ _
    (level-done a.filter (length a.store.now) (side a.x a.w) _ _ _
    (omega (arith, store-next (filter_of a.filter).rows (side a.x a.w) a.l)) c.close.ensures.store_after)
    c.most.ensures c.next_band-i.ensures (omega arith)

pub pass_on-requires : goal.pass_on-requires
pass_on-requires c =
    let a = c.args in
    omega (arith, c.made-n.ensures, made-most (filter_of a.filter).ahead a.c a.y a.m)

pub shape_of-store : goal.shape_of-store
shape_of-store c = c.pass_on.auto.store ∙ c.close.auto.store

pub returns : goal.returns
returns c =
    let a = c.args in
    step-goes a.filter a.l (side a.x a.w) a.y a.c a.m _ _ c.made-n.ensures _ c.is_left.ensures
    c.if-not-is_left.false-raw _ _ _
    (level-done a.filter (length a.store.now) (side a.x a.w) _ _ _
    (omega (arith, store-next (filter_of a.filter).rows (side a.x a.w) a.l)) c.close.ensures.store_after)
    c.most.ensures c.next_band-i.ensures _ _ (omega arith) c.pass_on.ensures
