-- `terrain_reader_want` meets its contract: what the call on the unpacked reader answers, in its five cases, and 1 where the array is none. Assumes nothing.
use mathlib.Core.Path.{◌≡◌, sym, ap, ◌∙◌}
use Rattle.std.proofs.Common.{Ok}
use Rattle.reader.specs.declared.Reader.{Reader}
use Rattle.reader.specs.Answers.{Reply, refused, number, Want, of_wanted}
use Rattle.reader.specs.Reading.{want_question, want_reply}
use Rattle.terrain.specs.ReaderCalls.{wanting, want_of}
use Rattle.states.specs.ReaderState.{is_reader, reader_of}
use Rattle.terrain.proofs.CallLaws.{turned, went}
use Rattle.terrain.proofs.reader_calls.terrain_reader_want.Goals as goal

pub returns-then-not-is_reader : goal.returns-then-not-is_reader
returns-then-not-is_reader c =
    let a = c.args in
    let e : wanting a.state.now ≡ refused 1 = turned (is_reader a.state.now) c.is_reader.result c.is_reader.ensures _ _ c.if-not-is_reader.true-raw in
    record { value = sym (ap number e); want_after = sym (ap (λ (q : Reply Want). want_of q a.want.now) e) }

pub returns-in-Ok-Row : goal.returns-in-Ok-Row
returns-in-Ok-Row c =
    let a = c.args in
    let e = went (is_reader a.state.now) c.is_reader.result c.is_reader.ensures (λ (r : Reader). want_reply r (want_question r))
    (reader_of a.state.now) c.unpack_reader-s.result (refused 1) _ c.if-not-is_reader.false-raw c.unpack_reader-s.ensures c.want.ensures.answer
    ∙ ap of_wanted (c.in-Ok-Row.is ∙ ap Ok c.in-Ok-Row.field-0-is) in
    record { value = sym (ap number e); want_after = sym (ap (λ (q : Reply Want). want_of q a.want.now) e) }

pub returns-in-Ok-Draw : goal.returns-in-Ok-Draw
returns-in-Ok-Draw c =
    let a = c.args in
    let e = went (is_reader a.state.now) c.is_reader.result c.is_reader.ensures (λ (r : Reader). want_reply r (want_question r))
    (reader_of a.state.now) c.unpack_reader-s.result (refused 1) _ c.if-not-is_reader.false-raw c.unpack_reader-s.ensures c.want.ensures.answer
    ∙ ap of_wanted (c.in-Ok-Draw.is ∙ ap Ok c.in-Ok-Draw.field-0-is) in
    record { value = sym (ap number e); want_after = sym (ap (λ (q : Reply Want). want_of q a.want.now) e) }

pub returns-in-Ok-Done : goal.returns-in-Ok-Done
returns-in-Ok-Done c =
    let a = c.args in
    let e = went (is_reader a.state.now) c.is_reader.result c.is_reader.ensures (λ (r : Reader). want_reply r (want_question r))
    (reader_of a.state.now) c.unpack_reader-s.result (refused 1) _ c.if-not-is_reader.false-raw c.unpack_reader-s.ensures c.want.ensures.answer
    ∙ ap of_wanted (c.in-Ok-Done.is ∙ ap Ok c.in-Ok-Done.field-0-is) in
    record { value = sym (ap number e); want_after = sym (ap (λ (q : Reply Want). want_of q a.want.now) e) }

pub returns-in-Ok-Ended : goal.returns-in-Ok-Ended
returns-in-Ok-Ended c =
    let a = c.args in
    let e = went (is_reader a.state.now) c.is_reader.result c.is_reader.ensures (λ (r : Reader). want_reply r (want_question r))
    (reader_of a.state.now) c.unpack_reader-s.result (refused 1) _ c.if-not-is_reader.false-raw c.unpack_reader-s.ensures c.want.ensures.answer
    ∙ ap of_wanted (c.in-Ok-Ended.is ∙ ap Ok c.in-Ok-Ended.field-0-is) in
    record { value = sym (ap number e); want_after = sym (ap (λ (q : Reply Want). want_of q a.want.now) e) }

pub returns-in-Err : goal.returns-in-Err
returns-in-Err c =
    let a = c.args in
    let e = went (is_reader a.state.now) c.is_reader.result c.is_reader.ensures (λ (r : Reader). want_reply r (want_question r))
    (reader_of a.state.now) c.unpack_reader-s.result (refused 1) _ c.if-not-is_reader.false-raw c.unpack_reader-s.ensures c.want.ensures.answer
    ∙ ap of_wanted c.in-Err.is in
    record { value = c.number.ensures ∙ sym (ap number e); want_after = sym (ap (λ (q : Reply Want). want_of q a.want.now) e) }
