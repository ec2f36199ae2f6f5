-- `reader::Reader::draw` meets its contract: by its levels. Assumes nothing.
use mathlib.Core.Path.{refl}
use Prim.Native.Nat.{ℕ}
use lib.ListN.{length}
use borrow.Author.Rules.{rules}
use Rattle.numbers.specs.Signal.{at}
use Rattle.areas.specs.Areas.{heights_at}
use Rattle.reader.specs.Questions as levels
use Rattle.reader.specs.Calls as levels-call
use Rattle.reader.specs.Last as last
use Rattle.reader.proofs.ByLevels.{by-none, by-some}
use Rattle.reader.proofs.Reader.draw.Goals as goal

pub returns-then-self-eq0 : goal.returns-then-self-eq0
returns-then-self-eq0 c =
    let a = c.args in
    let s = a.self in
    let x = at a.store.now in
    let z = heights_at a.out.now in
    let p = last.draw_question s (length a.store.now) (length a.out.now) in
    let q = levels.draw_question s (length a.store.now) x (length a.out.now) in
    record { answer = by-none s.levels (last.draw_reply s) (levels-call.draw_reply s) p q c.if-self-eq0.true c.draw.ensures.result_value; kept = by-none s.levels (λ (i : ℕ). x) (λ i. levels-call.draw_store s i x) p q c.if-self-eq0.true refl; heights = by-none s.levels (λ i. last.draw_area s i x z) (λ i. levels-call.draw_area s i x z) p q c.if-self-eq0.true c.draw.ensures.out_after }

pub returns : goal.returns
returns c =
    let a = c.args in
    let s = a.self in
    let x = at a.store.now in
    let z = heights_at a.out.now in
    let p = last.draw_question s (length a.store.now) (length a.out.now) in
    let q = levels.draw_question s (length a.store.now) x (length a.out.now) in
    record { answer = by-some s.levels (last.draw_reply s) (levels-call.draw_reply s) p q c.if-self-eq0.false c.draw_row.ensures.answer; kept = by-some s.levels (λ (i : ℕ). x) (λ i. levels-call.draw_store s i x) p q c.if-self-eq0.false c.draw_row.ensures.kept; heights = by-some s.levels (λ i. last.draw_area s i x z) (λ i. levels-call.draw_area s i x z) p q c.if-self-eq0.false c.draw_row.ensures.heights }
