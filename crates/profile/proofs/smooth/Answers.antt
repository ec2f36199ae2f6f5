-- `smooth`: turned away, one sample, or the one pass. Assumes nothing.
use mathlib.Core.Path.{refl}
use native.Mathlib.Omega.{arith}
use lib.ListN.{length}
use Rattle.std.proofs.lemmas.Result.{err_from_is_err_and}
use Rattle.refusal.proofs.Laws.{number-some}
use Rattle.profile.specs.Calls.{heights, floats}
use Rattle.profile.proofs.CallLaws.{passed, refused, single, several}
use Rattle.profile.proofs.smooth.Goals as goal

pub returns-in_err-question : goal.returns-in_err-question
returns-in_err-question c =
    let a = c.args in
    let p = err_from_is_err_and c.from_residual.result c.from_residual.ensures.1 in
    rw (p.1, p.2)
    record { value = c.in_err-question.ensures; out_after = refused (length a.row.now) (heights a.row.now) (floats a.out.now) (number-some _) }

pub height-requires : goal.height-requires
height-requires c = omega (arith, c.if-row-eq1.true)

pub bounds-out-0 : goal.bounds-out-0
bounds-out-0 c = let p = passed _ _ c.in_ok-question.ensures refl in omega (arith, p.0, p.1)

pub one_pass-requires : goal.one_pass-requires
one_pass-requires c =
    let p = passed _ _ c.in_ok-question.ensures refl in
    let d = c.if-row-eq1.false in
    (omega (arith, p.0, d), p.1)

pub returns-then-row-eq1 : goal.returns-then-row-eq1
returns-then-row-eq1 c =
    let a = c.args in
    let p = passed _ _ c.in_ok-question.ensures refl in
    record { value = c.in_ok-question.ensures; out_after = single (length a.row.now) (heights a.row.now) a.out.now refl c.if-row-eq1.true p.1 c.height.ensures }

pub returns-else-row-eq1 : goal.returns-else-row-eq1
returns-else-row-eq1 c =
    let a = c.args in
    record { value = c.in_ok-question.ensures; out_after = several (length a.row.now) (heights a.row.now) (floats a.out.now) refl c.if-row-eq1.false c.one_pass.ensures }
