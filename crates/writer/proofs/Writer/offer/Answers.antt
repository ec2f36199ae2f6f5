use mathlib.Core.Path.{◌≡◌, refl, sym}
use Rattle.std.proofs.lemmas.Result.{err_from_is_err_and}
use Prim.Native.Nat.{◌-◌}
use native.Mathlib.Omega.{arith}
use lib.ListN.{length}
use borrow.Author.Rules.{rules}
use Rattle.numbers.specs.Signal.{at}
use Rattle.writer.specs.Questions.{offer_question}
use Rattle.writer.proofs.CallLaws.{number-past, offer-sound}
use Rattle.writer.proofs.OfferLaws.{next-first, Offering, offer-start, offer-turn, offer-ready, offer-no, offer-yes, offer-held, gone-all, sound-taker}
use Rattle.writer.proofs.CallsKeep.{offer-kept}
use Rattle.writer.proofs.Writer.offer.Goals as goal

pub returns-in_err-offer_question : goal.returns-in_err-offer_question
returns-in_err-offer_question c =
    let p = err_from_is_err_and c.from_residual.result c.from_residual.ensures.1 in
    let t = offer-no _ _ _ _ _ c.in_err-offer_question.ensures (number-past _) in
    rw (p.1, p.2) (record { result_value = t.0; store_after = t.1; offer_keeps = offer-kept _ _ _ _ _ _ t.0 t.1 })

pub room-held-requires : goal.room-held-requires
room-held-requires c =
    let a = c.args in
    let q : offer_question a.self (length a.store.now) (length a.run.now) ≡ 0 = sym c.in_ok-offer_question.ensures in
    (offer-sound a.self (length a.store.now) (length a.run.now) q).spare

pub hold-requires : goal.hold-requires
hold-requires c =
    let a = c.args in
    let q : offer_question a.self (length a.store.now) (length a.run.now) ≡ 0 = sym c.in_ok-offer_question.ensures in
    let f = offer-sound a.self (length a.store.now) (length a.run.now) q in
    (record { sized = f.sized; row = omega (arith, f.spare, c.room-held.ensures); room = f.whole }, omega (arith, c.room-held.ensures))

pub shape_of-store-then-self-gt0 : goal.shape_of-store-then-self-gt0
shape_of-store-then-self-gt0 c = c.hold.auto.store

pub returns-then-self-gt0 : goal.returns-then-self-gt0
returns-then-self-gt0 c =
    let t = offer-held _ _ _ _ _ c.in_ok-offer_question.ensures _ _ _ refl (omega arith) c.room-held.ensures
    c.hold.ensures.value c.hold.ensures.store_after in
    record { result_value = t.0; store_after = t.1; offer_keeps = offer-kept _ _ _ _ _ _ t.0 t.1 }

pub first-n-requires : goal.first-n-requires
first-n-requires c =
    let a = c.args in
    let q : offer_question a.self (length a.store.now) (length a.run.now) ≡ 0 = sym c.in_ok-offer_question.ensures in
    (offer-sound a.self (length a.store.now) (length a.run.now) q).column (omega arith)

pub loop-n-init : goal.loop-n-init
loop-n-init c =
    let a = c.args in
    let q : offer_question a.self (length a.store.now) (length a.run.now) ≡ 0 = sym c.in_ok-offer_question.ensures in
    let z : a.self.level ≡ 0 = omega arith in
    offer-start _ _ _ _ (sound-taker _ _ (offer-sound a.self (length a.store.now) (length a.run.now) q) z)
    (next-first _ _ _ _ q z c.first-n.ensures)

pub put_heights-s-requires : goal.put_heights-s-requires
put_heights-s-requires c =
    let o = offer-ready _ _ _ _ _ _ _ c.loop-n.invariant c.loop-n-test.true in
    (o.taker, o.rows, o.row, o.heights)

pub overflow_add-taken : goal.overflow_add-taken
overflow_add-taken c =
    let o = offer-ready _ _ _ _ _ _ _ c.loop-n.invariant c.loop-n-test.true in
    omega (arith, o.heights)

pub overflow_sub-run : goal.overflow_sub-run
overflow_sub-run c =
    let o = offer-ready _ _ _ _ _ _ _ c.loop-n.invariant c.loop-n-test.true in
    omega (arith, o.heights)

pub next-n-requires : goal.next-n-requires
next-n-requires c = c.put_heights-s.ensures.reaching.taker.column

pub loop-n-smaller : goal.loop-n-smaller
loop-n-smaller c =
    let o = offer-ready _ _ _ _ _ _ _ c.loop-n.invariant c.loop-n-test.true in
    omega (arith, o.heights)

pub loop-n-preserved : goal.loop-n-preserved
loop-n-preserved c =
    offer-turn _ _ _ _ _ _ _ _ _ _ c.loop-n.invariant c.loop-n-test.true c.put_heights-s.ensures (omega arith) c.next-n.ensures

pub shape_of-store : goal.shape_of-store
shape_of-store c = c.loop-n.invariant.size

pub returns : goal.returns
returns c =
    let a = c.args in
    let i = c.loop-n.invariant in
    let all = gone-all a.run.now a.self (at a.store.now) _ _ _ i.gone _ i.next (omega arith) i.taker.column i.within in
    let t = offer-yes _ _ _ _ _ c.in_ok-offer_question.ensures _ _ _ refl (omega arith) all in
    record { result_value = t.0; store_after = t.1; offer_keeps = offer-kept _ _ _ _ _ _ t.0 t.1 }
