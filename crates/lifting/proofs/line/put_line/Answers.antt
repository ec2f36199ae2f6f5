use mathlib.Core.Path.{refl}
use lib.ListN.{length}
use Rattle.numbers.proofs.Words.{read_back}
use Rattle.lifting.specs.Grid.{side}
use Rattle.lifting.proofs.PassLaws.{highs-beside, low-begins, low-first-in, first-in, first-sum, turn-left, turned}
use Rattle.lifting.proofs.AreaLaws.{carried-at}
use Rattle.lifting.proofs.AreaLaws.{carried-end, first-turn, line-turn, line-put}
use Rattle.lifting.proofs.line.put_line.Goals as goal

pub overflow_sub-high : goal.overflow_sub-high
overflow_sub-high c =
    (low-begins _ _ _ (highs-beside (side c.args.start (length c.args.coefficients.now)) _ _ refl c.requires.1 c.requires.0)).0

pub nearest-requires : goal.nearest-requires
nearest-requires c =
    (low-begins _ _ _ (highs-beside (side c.args.start (length c.args.coefficients.now)) _ _ refl c.requires.1 c.requires.0)).2

pub even_of-even-requires : goal.even_of-even-requires
even_of-even-requires c =
    (low-first-in _ _ _ _ (highs-beside (side c.args.start (length c.args.coefficients.now)) _ _ refl c.requires.1 c.requires.0) c.well_formed.0.1
    c.nearest.ensures).1

pub put_first-requires : goal.put_first-requires
put_first-requires c =
    first-in _ _ _ _ (highs-beside (side c.args.start (length c.args.coefficients.now)) _ _ refl c.requires.1 c.requires.0) c.requires.2

pub overflow_add-from : goal.overflow_add-from
overflow_add-from c =
    first-sum _ _ _ (highs-beside (side c.args.start (length c.args.coefficients.now)) _ _ refl c.requires.1 c.requires.0) c.well_formed.0.1

pub overflow_sub-end : goal.overflow_sub-end
overflow_sub-end c =
    (low-begins _ _ _ (highs-beside (side c.args.start (length c.args.coefficients.now)) _ _ refl c.requires.1 c.requires.0)).1

pub loop-n-init : goal.loop-n-init
loop-n-init c =
    first-turn (side c.args.start (length c.args.coefficients.now)) _ _ _ _ _ _ _ _ _ _
    (carried-at _ _ _ _ c.requires.1 c.requires.0 c.requires.2 c.well_formed.1.0.1 c.put_first.auto.out) c.nearest.ensures
    (read_back _ c.even_of-even.type_inv) c.even_of-even.ensures

pub loop-n-preserved : goal.loop-n-preserved
loop-n-preserved c =
    line-turn c.loop-n.invariant _ _ _ (turn-left _ _ _ c.saturating_sub-turns.ensures c.loop-n-test.true) (read_back _ c.even_of-next.type_inv)
    c.even_of-next.ensures c.put_pair.ensures

pub put_end-requires : goal.put_end-requires
put_end-requires c =
    let i = c.loop-n.invariant in
    let p = i.places in
    let t = turned _ _ _ c.saturating_sub-turns.ensures c.loop-n-test.false c.loop-n.auto.n-end in
    let e = carried-end p _ i.size t.1 in
    rw t.0 (p.lows, p.more, e.0, p.within, e.1, i.carried)

pub returns : goal.returns
returns c =
    let t = turned _ _ _ c.saturating_sub-turns.ensures c.loop-n-test.false c.loop-n.auto.n-end in
    line-put c.loop-n.invariant c.args.out.now c.put_end.new.out _ _ _ c.requires.2 c.nearest.ensures
    (read_back _ c.even_of-even.type_inv) c.even_of-even.ensures c.put_first.ensures (rw t.0 at c.put_end.ensures)
