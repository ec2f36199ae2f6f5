-- `terrain_writer_waits` meets its contract: what the look at the unpacked writer answers, in its two cases, and 1 where the array is none. Assumes nothing.
use mathlib.Core.Path.{◌≡◌, sym, ap, ◌∙◌}
use borrow.Author.Rules.{rules}
use Rattle.calls.specs.Lists.{Reply, refused}
use Rattle.writer.specs.declared.BandRow.{BandRow}
use Rattle.writer.specs.Answers.{of_look}
use Rattle.writer.specs.Calls.{waits_reply}
use Rattle.states.specs.WriterState.{is_writer, writer_of}
use Rattle.states.specs.WriterAnswers.{number}
use Rattle.terrain.specs.WriterCalls.{waiting, look_of}
use Rattle.terrain.proofs.CallLaws.{turned, went}
use Rattle.terrain.proofs.writer_calls.terrain_writer_waits.Goals as goal

pub returns-then-not-is_writer : goal.returns-then-not-is_writer
returns-then-not-is_writer c =
    let a = c.args in
    let e : waiting a.state.now ≡ refused 1 = turned (is_writer a.state.now) c.is_writer.result c.is_writer.ensures _ _ c.if-not-is_writer.true-raw in
    record { value = sym (ap number e); row_after = sym (ap (λ (q : Reply BandRow). look_of q a.row.now) e) }

pub returns : goal.returns
returns c =
    let a = c.args in
    let e =
    went (is_writer a.state.now) c.is_writer.result c.is_writer.ensures waits_reply (writer_of a.state.now) c.unpack_writer-w.result
    (refused 1) _ c.if-not-is_writer.false-raw c.unpack_writer-w.ensures c.waits.ensures.value in
    record {
      value = c.pack_look.ensures.value ∙ sym (ap number e);
      row_after = c.pack_look.ensures.row_after ∙ sym (ap (λ (q : Reply BandRow). look_of q a.row.now) e);
    }
