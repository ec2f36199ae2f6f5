use mathlib.Core.Path.{◌≡◌, ap, ◌∙◌}
use Prim.Native.Nat.{◌+◌, ◌*◌, ◌-◌}
use native.Mathlib.Omega.{arith}
use lib.ListN.{length-set}
use Rattle.numbers.specs.Signal.{at}
use Rattle.numbers.proofs.Words.{read_back}
use Rattle.writer.proofs.SpareCells.{Pairs, pairs_start, pairs-read, pairs-again, pairs-turn, pairs_end}
use Rattle.writer.proofs.spare.separate.Goals as goal

pub loop-j-init : goal.loop-j-init
loop-j-init c = pairs_start _ _ _ _ _ (omega arith) (omega arith) (omega arith)

pub slice_copy_out-store-in-loop-j : goal.slice_copy_out-store-in-loop-j
slice_copy_out-store-in-loop-j c = simp length-set (omega arith)

pub bounds-store-seconds : goal.bounds-store-seconds
bounds-store-seconds c = simp length-set (omega arith)

pub loop-j-preserved : goal.loop-j-preserved
loop-j-preserved c =
    let l = c.loop-j in
    let a = c.args in
    let p = a.from + 2 * l.j in
    let k : p + 1 ≡ a.from + (2 * l.j + 1) = omega arith in
    let read = pairs-read a.from a.firsts a.seconds a.count a.store.now l.j l.store l.invariant p (omega arith) in
    let again = pairs-again a.from a.firsts a.seconds a.count a.store.now l.j l.store _ l.invariant (omega arith) (p + 1) (omega arith) in
    let v = read_back _ c.store-1.given ∙ read in
    let u = read_back _ c.store-in-loop-j-1.given ∙ again ∙ ap (at a.store.now) k in
    pairs-turn _ _ _ _ _ _ _ _ _ l.invariant (omega arith) v u

pub shape_of-store : goal.shape_of-store
shape_of-store c = c.loop-j.invariant.size

pub returns : goal.returns
returns c = pairs_end _ _ _ _ _ _ _ c.loop-j.invariant c.loop-j-test.false
