-- `reader::Reader::feed` meets its contract: by its levels. Assumes nothing.
use lib.ListN.{length}
use Rattle.numbers.specs.Signal.{at}
use Rattle.reader.specs.Questions as levels
use Rattle.reader.specs.Calls as levels-call
use Rattle.reader.specs.Last as last
use Rattle.reader.proofs.ByLevels.{by-none, by-some}
use Rattle.reader.proofs.Reader.feed.Goals as goal

pub shape_of-store-then-self-eq0 : goal.shape_of-store-then-self-eq0
shape_of-store-then-self-eq0 c = c.feed.auto.store

pub returns-then-self-eq0 : goal.returns-then-self-eq0
returns-then-self-eq0 c =
    let a = c.args in
    let s = a.self in
    let x = at a.store.now in
    let v = at a.run.now in
    let p = last.feed_question s (length a.store.now) (length a.run.now) v in
    let q = levels.feed_question s (length a.store.now) x (length a.run.now) v in
    record { answer = by-none s.levels (last.feed_reply s) (levels-call.feed_reply s) p q c.if-self-eq0.true c.feed.ensures.result_value; kept = by-none s.levels (λ i. last.feed_store s i v x) (λ i. levels-call.feed_store s i v x) p q c.if-self-eq0.true c.feed.ensures.store_after }

pub shape_of-store : goal.shape_of-store
shape_of-store c = c.feed_set.auto.store

pub returns : goal.returns
returns c =
    let a = c.args in
    let s = a.self in
    let x = at a.store.now in
    let v = at a.run.now in
    let p = last.feed_question s (length a.store.now) (length a.run.now) v in
    let q = levels.feed_question s (length a.store.now) x (length a.run.now) v in
    record { answer = by-some s.levels (last.feed_reply s) (levels-call.feed_reply s) p q c.if-self-eq0.false c.feed_set.ensures.answer; kept = by-some s.levels (λ i. last.feed_store s i v x) (λ i. levels-call.feed_store s i v x) p q c.if-self-eq0.false c.feed_set.ensures.kept }
