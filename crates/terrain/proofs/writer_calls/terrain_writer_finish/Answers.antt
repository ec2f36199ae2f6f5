-- `terrain_writer_finish` meets its contract: what the call on the unpacked writer answers, in its two cases, and 1 where the array is none. Assumes nothing.
use mathlib.Core.Path.{◌≡◌, sym, ap, ◌∙◌}
use lib.ListN.{length}
use borrow.Author.Rules.{rules}
use Rattle.numbers.specs.Signal.{at}
use Rattle.calls.specs.Lists.{Reply, refused}
use Rattle.writer.specs.declared.Writer.{Writer}
use Rattle.writer.specs.Answers.{of_finished}
use Rattle.writer.specs.Calls.{finish_reply, finish_store}
use Rattle.states.specs.WriterState.{is_writer, writer_of}
use Rattle.states.specs.WriterAnswers.{number}
use Rattle.terrain.specs.WriterCalls.{finished, state_of}
use Rattle.terrain.proofs.CallLaws.{turned, went}
use Rattle.terrain.proofs.writer_calls.terrain_writer_finish.Goals as goal

pub returns-then-not-is_writer : goal.returns-then-not-is_writer
returns-then-not-is_writer c =
    let a = c.args in
    let e : finished a.state.now (length a.store.now) (at a.store.now) ≡ refused 1 =
    turned (is_writer a.state.now) c.is_writer.result c.is_writer.ensures _ _ c.if-not-is_writer.true-raw in
    record { value = sym (ap number e); state_after = sym (ap (λ (q : Reply Writer). state_of q a.state.now) e); store_after = sym (turned (is_writer a.state.now) c.is_writer.result c.is_writer.ensures _ (at a.store.now) c.if-not-is_writer.true-raw) }

pub shape_of-store : goal.shape_of-store
shape_of-store c = c.finish.auto.store

pub returns : goal.returns
returns c =
    let a = c.args in
    let e =
    went (is_writer a.state.now) c.is_writer.result c.is_writer.ensures (λ (w : Writer). finish_reply w (length a.store.now) (at a.store.now))
    (writer_of a.state.now) c.unpack_writer-w.result (refused 1) _ c.if-not-is_writer.false-raw c.unpack_writer-w.ensures
    c.finish.ensures.result_value in
    record {
      value = c.pack_next.ensures.value ∙ sym (ap number e);
      state_after = c.pack_next.ensures.state_after ∙ sym (ap (λ (q : Reply Writer). state_of q a.state.now) e);
      store_after = sym (went (is_writer a.state.now) c.is_writer.result c.is_writer.ensures
          (λ (w : Writer). finish_store w (length a.store.now) (at a.store.now)) (writer_of a.state.now) c.unpack_writer-w.result
          (at a.store.now) _ c.if-not-is_writer.false-raw c.unpack_writer-w.ensures c.finish.ensures.store_after);
    }
