-- `Writer::draw` meets its contract. Assumes nothing.
use mathlib.Core.Path.{◌≡◌, refl, sym}
use Rattle.std.proofs.lemmas.Result.{err_from_is_err_and}
use native.Mathlib.Omega.{arith}
use lib.ListN.{length}
use Rattle.numbers.specs.Signal.{at}
use Rattle.level.specs.Level.{rest}
use Rattle.writer.specs.FirstQuestions.{state_question}
use Rattle.writer.proofs.QuestionLaws.{sound}
use Rattle.writer.proofs.DrawLaws.{reached}
use Rattle.writer.proofs.CallLaws.{number-past, sound-walk, sound-drawable, sound-spares, draw-refused, draw-nothing, draw-no-room, draw-row}
use Rattle.writer.proofs.CallsKeep.{draw-kept}
use Rattle.writer.proofs.Writer.draw.Goals as goal

pub returns-in_err-state_question : goal.returns-in_err-state_question
returns-in_err-state_question c =
    let p = err_from_is_err_and c.from_residual.result c.from_residual.ensures.1 in
    let t = draw-refused _ _ _ _ _ _ c.in_err-state_question.ensures (number-past _) in
    rw (p.1, p.2) (record { result_value = t.0; store_after = t.1; out_after = t.2; draw_keeps = draw-kept _ _ _ _ _ _ _ _ t.0 t.1 t.2 })

pub returns-then-self-eq0 : goal.returns-then-self-eq0
returns-then-self-eq0 c = let t = draw-nothing _ _ _ _ _ _ c.in_ok-state_question.ensures refl (omega arith) in
    record { result_value = t.0; store_after = t.1; out_after = t.2; draw_keeps = draw-kept _ _ _ _ _ _ _ _ t.0 t.1 t.2 }

pub waiting-spot-requires : goal.waiting-spot-requires
waiting-spot-requires c =
    let a = c.args in
    let q : state_question a.self (length a.store.now) ≡ 0 = sym c.in_ok-state_question.ensures in
    let f = sound a.self (length a.store.now) q in
    let walk = sound-walk a.self (length a.store.now) f (omega arith) in
    (walk, f.placed, reached a.self.filter _ _ _ _ _ _ _ walk c.level_of-q.ensures)

pub returns-then-out-spot : goal.returns-then-out-spot
returns-then-out-spot c =
    let a = c.args in
    let t = draw-no-room a.self (length a.store.now) (length a.out.now) _ (at a.store.now) (at a.out.now)
    c.in_ok-state_question.ensures _ c.waiting-spot.ensures refl
    (omega arith) (omega arith) in
    record { result_value = t.0; store_after = t.1; out_after = t.2; draw_keeps = draw-kept _ _ _ _ _ _ _ _ t.0 t.1 t.2 }

pub hand_out-requires : goal.hand_out-requires
hand_out-requires c =
    let a = c.args in
    let q : state_question a.self (length a.store.now) ≡ 0 = sym c.in_ok-state_question.ensures in
    let f = sound a.self (length a.store.now) q in
    omega arith

pub draw_and_move-next-requires : goal.draw_and_move-next-requires
draw_and_move-next-requires c =
    let a = c.args in
    let q : state_question a.self (length a.store.now) ≡ 0 = sym c.in_ok-state_question.ensures in
    let f = sound a.self (length a.store.now) q in
    let d = sound-drawable a.self (length a.store.now) f (omega arith) in (
      d,
      reached a.self.filter _ _ _ _ _ _ _ d.walk c.level_of-q.ensures,
      sound-spares a.self (length a.store.now) f (omega arith),
    )

pub shape_of-store : goal.shape_of-store
shape_of-store c = c.draw_and_move-next.auto.store

pub shape_of-out : goal.shape_of-out
shape_of-out c = c.hand_out.auto.out

pub returns : goal.returns
unfolding rest
returns c =
    let a = c.args in
    let t = draw-row a.self (length a.store.now) (length a.out.now) _ (at a.store.now) (at a.out.now)
    c.in_ok-state_question.ensures _
    c.waiting-spot.ensures refl (omega arith) _ _ _
    (omega arith) c.hand_out.ensures c.draw_and_move-next.ensures in
    record { result_value = t.0; store_after = t.1; out_after = t.2; draw_keeps = draw-kept _ _ _ _ _ _ _ _ t.0 t.1 t.2 }
