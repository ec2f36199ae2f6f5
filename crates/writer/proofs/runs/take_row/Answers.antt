-- `runs::take_row` meets its contract: an offer of the heights up to the end of the row. Assumes nothing.
use mathlib.Core.Path.{◌≡◌, ap}
use Prim.Native.Nat.{ℕ, ◌+◌, ◌-◌}
use native.Mathlib.Omega.{arith}
use lib.ListN.{length, take, drop, length-take, length-drop}
use borrow.Author.Rules.{rules}
use Rattle.numbers.specs.Signal.{at}
use Rattle.writer.proofs.RunLaws.{no-offer, one-offer}
use Rattle.writer.proofs.RunSets.{column-in, offer-takes-row}
use Rattle.writer.proofs.runs.take_row.Goals as goal

pub next-n-requires : goal.next-n-requires
next-n-requires c = let p = c.requires in
    column-in _ _ p.0 p.1

pub returns-then-n-eq0 : goal.returns-then-n-eq0
returns-then-n-eq0 c = let p = c.requires in
    let a = c.args in
    λ k m z l h g. no-offer (length a.store.now) a.heights.now k m a.done a.s (at a.store.now) z l
    (record { sound = p.0; numbers = h; rows = g }) p.1 p.2 p.3 _ c.next-n.ensures (omega arith)

pub overflow_add-e : goal.overflow_add-e
overflow_add-e c = let t = offer-takes-row _ _ c.requires.0 c.requires.1 _ _ c.next-n.ensures (omega arith) in
    omega (arith, t.3, c.requires.3)

pub slice_bounds-put_heights-end : goal.slice_bounds-put_heights-end
slice_bounds-put_heights-end c = let t = offer-takes-row _ _ c.requires.0 c.requires.1 _ _ c.next-n.ensures (omega arith) in
    omega (arith, t.3, c.requires.3)

pub put_heights-requires : goal.put_heights-requires
put_heights-requires c = let t = offer-takes-row _ _ c.requires.0 c.requires.1 _ _ c.next-n.ensures (omega arith) in
    (t.0, t.1, t.2, simp (length-take, length-drop) (omega (arith, t.3, c.requires.3)))

pub shape_of-store : goal.shape_of-store
shape_of-store c = c.put_heights.auto.store

pub returns : goal.returns
returns c = let a = c.args in
    let p = c.requires in
    let e : a.done.taken + c.next-n.result - a.done.taken ≡ c.next-n.result = omega arith in
    λ k m z l h g.
    one-offer (length a.store.now) a.heights.now k m a.done a.s (at a.store.now) z l
    (record { sound = p.0; numbers = h; rows = g }) p.1 p.2 p.3 _ c.next-n.ensures (omega arith)
    _ (ap (λ (i : ℕ). take i (drop a.done.taken a.heights.now)) e) _ _ _ c.put_heights.ensures
