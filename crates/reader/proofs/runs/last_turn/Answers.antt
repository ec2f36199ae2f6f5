-- `reader::runs::last_turn` meets its contract: turned away, or a row is fed or drawn. Assumes nothing.
use mathlib.Core.Path.{refl, sym, ◌∙◌}
use native.Mathlib.Omega.{arith}
use lib.ListN.{length}
use Rattle.numbers.specs.Signal.{at}
use Rattle.areas.specs.Areas.{heights_at}
use Rattle.reader.proofs.RunLaws.{turn-stays, own-stays}
use Rattle.refusal.proofs.Laws.{number-some, not-refused}
use Rattle.reader.proofs.RunLast.{last-early, last-says, last-done}
use Rattle.reader.proofs.runs.last_turn.Goals as goal

pub returns-in-Err : goal.returns-in-Err
returns-in-Err c =
    let a = c.args in
    let p = c.requires in
    let e = c.stays.ensures in
    let n = length a.store.now in
    let m = length a.run.now in
    let k = length a.out.now in
    let q = c.in-Err.ensures in
    record {
      turned = turn-stays n m (at a.run.now) k a.done a.s (at a.store.now) (heights_at a.out.now) a.p _ _ _ _ _ e.0 e.1 e.2 e.3 p.2
          (last-early n m (at a.run.now) k a.done a.s (at a.store.now) (heights_at a.out.now) p.0 _ q (number-some _))
          (last-says n m (at a.run.now) k a.done a.s (at a.store.now) (heights_at a.out.now) p.0 _ q (number-some _) p.1)
          p.4 p.5;
      own = own-stays a.s a.p _ e.3 p.2 p.3;
    }

pub returns-then-s : goal.returns-then-s
returns-then-s c =
    let a = c.args in
    let p = c.requires in
    let e = c.stays-then-s.ensures in
    let n = length a.store.now in
    let m = length a.run.now in
    let k = length a.out.now in
    let one = sym c.store_question.ensures ∙ not-refused _ c.in_default.not-Err in
    let u = last-done n m (at a.run.now) k a.done a.s (at a.store.now) (heights_at a.out.now) p.0 one c.if-s.true in
    record {
      turned = turn-stays n m (at a.run.now) k a.done a.s (at a.store.now) (heights_at a.out.now) a.p _ _ _ _ _ e.0
          (e.1 ∙ c.where_some.ensures) e.2 e.3 p.2 u.0 (λ _ _. u.1) p.4 p.5;
      own = own-stays a.s a.p _ e.3 p.2 p.3;
    }

pub last_feed-requires : goal.last_feed-requires
last_feed-requires c =
    let p = c.requires in
    (p.0, sym c.store_question.ensures ∙ not-refused _ c.in_default.not-Err, c.if-s.false, c.if-s-eq0.true, p.2, p.3, p.4)

pub shape_of-store-then-s-eq0 : goal.shape_of-store-then-s-eq0
shape_of-store-then-s-eq0 c = c.last_feed.auto.store

pub returns-then-s-eq0 : goal.returns-then-s-eq0
returns-then-s-eq0 c =
    let a = c.args in
    record { turned = c.last_feed.ensures.by_index (length a.out.now) (heights_at a.out.now) c.requires.5; own = c.last_feed.ensures.own }

pub last_draw-requires : goal.last_draw-requires
last_draw-requires c =
    let p = c.requires in
    (p.0, sym c.store_question.ensures ∙ not-refused _ c.in_default.not-Err, c.if-s.false, omega (arith, c.if-s-eq0.false), p.2, p.3, p.5)

pub shape_of-store : goal.shape_of-store
shape_of-store c = refl

pub shape_of-out : goal.shape_of-out
shape_of-out c = c.last_draw.auto.out

pub returns : goal.returns
returns c =
    let a = c.args in
    record { turned = c.last_draw.ensures.by_index (length a.run.now) (at a.run.now) c.requires.4; own = c.last_draw.ensures.own }
