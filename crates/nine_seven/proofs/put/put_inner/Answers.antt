use mathlib.Core.Path.{◌∙◌}
use mir.Syntax.{w32}
use mir.Val.{to_z}
use Prim.Native.Nat.{◌+◌, ◌*◌, ◌%◌, ◌-◌}
use native.Mathlib.Omega.{arith}
use lib.ListN.{length}
use Rattle.numbers.specs.Signal.{at}
use Rattle.numbers.proofs.Words.{read_back}
use Rattle.numbers.proofs.Sweep.{start}
use Rattle.lifting.specs.Grid.{side}
use Rattle.lifting.proofs.GridLaws.{beside-lows}
use Rattle.nine_seven.proofs.PutLaws.{Carried, put-below, long, carry-turn, carry-end}
use Rattle.nine_seven.proofs.put.put_inner.Goals as goal

pub even_of-e0-requires : goal.even_of-e0-requires
even_of-e0-requires c =
    let a = c.args in
    let d = beside-lows (side a.start (length a.coefficients.now)) in
    let e = c.requires.0 in
    (e, c.requires.1, omega arith)

pub even_of-e1-requires : goal.even_of-e1-requires
even_of-e1-requires c =
    let a = c.args in
    let d = beside-lows (side a.start (length a.coefficients.now)) in
    let e = c.requires.0 in
    (e, c.requires.1, omega arith)

pub even_of-e2-requires : goal.even_of-e2-requires
even_of-e2-requires c =
    let a = c.args in
    let d = beside-lows (side a.start (length a.coefficients.now)) in
    let e = c.requires.0 in
    (e, c.requires.1, omega arith)

pub loop-n-init : goal.loop-n-init
loop-n-init c =
    let a = c.args in
    let S = side a.start (length a.coefficients.now) in
    let y = at a.coefficients.now in
    record {
      more = c.requires.1;
      lows = c.requires.0;
      first = c.requires.2;
      least = c.requires.4;
      fits = c.requires.5;
      begun = omega arith;
      within = c.requires.3;
      past = read_back c.even_of-e0.result c.even_of-e0.type_inv ∙ c.even_of-e0.ensures;
      this = read_back c.even_of-e1.result c.even_of-e1.type_inv ∙ c.even_of-e1.ensures;
      next = read_back c.even_of-e2.result c.even_of-e2.type_inv ∙ c.even_of-e2.ensures;
      swept = start a.out.now _ _ (λ j b. put-below S (2 * a.from + a.start % 2) (2 * a.to + a.start % 2) y (at a.out.now) j b);
    }

pub next_even-e3-requires : goal.next_even-e3-requires
next_even-e3-requires c = let h = c.loop-n.invariant in (omega arith, omega arith)

pub put_pair-requires : goal.put_pair-requires
put_pair-requires c =
    let h = c.loop-n.invariant in
    let size = h.swept.size in
    let far = long _ _ _ h.lows h.least in
    (omega arith, omega arith)

pub loop-n-preserved : goal.loop-n-preserved
loop-n-preserved c =
    let v = c.loop-n in
    let r = c.next_even-e3 in
    rw (read_back r.result r.type_inv)
    (carry-turn _ _ _ _ _ _ v.n (to_z w32 v.e0-bits) (to_z w32 v.e1-bits) (to_z w32 v.e2-bits) r.result v.out _ v.invariant c.loop-n-test.true r.ensures
    (rw (read_back r.result r.type_inv) at c.put_pair.ensures))

pub shape_of-out : goal.shape_of-out
shape_of-out c = c.loop-n.invariant.swept.size

pub returns : goal.returns
returns c = carry-end _ _ _ _ _ _ _ _ _ _ _ c.loop-n.invariant c.loop-n-test.false
