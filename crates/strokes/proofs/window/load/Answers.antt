-- `window::load` meets its contract: the patch of the window that is read. Assumes nothing.
use mathlib.Core.Path.{refl, ap₂}
use Prim.Native.Nat.{ℕ, ◌+◌, ◌-◌}
use native.Mathlib.Omega.{arith}
use Rattle.areas.specs.Areas.{heights_at}
use Rattle.numbers.specs.Signal.{at}
use Rattle.strokes.proofs.MapCall.{load-place, load_asks, load-made}
use Rattle.strokes.proofs.window.load.Goals as goal

pub overflow_sub-p : goal.overflow_sub-p
overflow_sub-p c = omega (arith, c.before-top.ensures, c.requires.7)

pub past-requires : goal.past-requires
past-requires c = let p = c.requires in omega (arith, p.3, p.5)

pub overflow_sub-p-2 : goal.overflow_sub-p-2
overflow_sub-p-2 c = omega (arith, c.past.ensures, c.before-top.ensures, c.requires.7)

pub overflow_sub-p-3 : goal.overflow_sub-p-3
overflow_sub-p-3 c = omega (arith, c.before-left.ensures, c.requires.6)

pub past-requires-2 : goal.past-requires-2
past-requires-2 c = let p = c.requires in omega (arith, p.2, p.4)

pub overflow_sub-p-4 : goal.overflow_sub-p-4
overflow_sub-p-4 c = omega (arith, c.past-2.ensures, c.before-left.ensures, c.requires.6)

pub overflow_add-a : goal.overflow_add-a
overflow_add-a c =
    let p = c.requires in
    omega (arith, c.before-top.ensures, p.3, p.5, p.7)

pub overflow_mul-a : goal.overflow_mul-a
overflow_mul-a c =
    let p = c.requires in
    let k = load-place (c.args.rows.start + c.before-top.result) c.args.across 0 (omega (arith, c.before-top.ensures, p.3, p.5, p.7))
    p.4 (omega arith) in
    omega (arith, k)

pub overflow_add-a-2 : goal.overflow_add-a-2
overflow_add-a-2 c =
    let p = c.requires in
    omega (arith, c.before-left.ensures, p.2, p.4, p.6)

pub overflow_add-a-3 : goal.overflow_add-a-3
overflow_add-a-3 c =
    let p = c.requires in
    let k = load-place (c.args.rows.start + c.before-top.result) c.args.across (c.args.columns.start + c.before-left.result)
    (omega (arith, c.before-top.ensures, p.3, p.5, p.7)) p.4 (omega (arith, c.before-left.ensures, p.2, p.4, p.6)) in
    omega (arith, k)

pub copy_patch-requires : goal.copy_patch-requires
copy_patch-requires c =
    let a = c.args in
    let p = c.requires in
    load_asks _ _ a.across a.columns a.rows p.0 p.1 p.2 p.3 _ _ _ _ _ c.before-left.ensures c.before-top.ensures
    (ap₂ (λ (x y : ℕ). a.columns.size - x - y) c.before-left.ensures c.past-2.ensures)
    (ap₂ (λ (x y : ℕ). a.rows.size - x - y) c.before-top.ensures c.past.ensures) refl p.6 p.7

pub shape_of-work : goal.shape_of-work
shape_of-work c = c.copy_patch.auto.to

pub returns : goal.returns
returns c =
    let a = c.args in
    let p = c.requires in
    load-made _ _ a.across a.columns a.rows p.0 p.1 p.2 p.3 _ _ _ _ 0 c.before-left.ensures c.before-top.ensures
    (ap₂ (λ (x y : ℕ). a.columns.size - x - y) c.before-left.ensures c.past-2.ensures)
    (ap₂ (λ (x y : ℕ). a.rows.size - x - y) c.before-top.ensures c.past.ensures) (heights_at a.heights.now) _ (at a.work.now)
    c.copy_patch.ensures
