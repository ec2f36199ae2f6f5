-- `terrain_load_want` meets its contract: what the call on the unpacked loader answers, in its five cases, and 1 where the array is none. Assumes nothing.
use mathlib.Core.Path.{◌≡◌, sym, ap, ◌∙◌}
use borrow.Author.Rules.{rules}
use Rattle.std.proofs.Common.{Ok}
use Rattle.ground_loader.specs.declared.loader.Loader.{Loader}
use Rattle.ground_loader.specs.Loader.{Want, want_question}
use Rattle.ground_loader.specs.LoaderAnswers.{Reply, refused, of_want, want_reply}
use Rattle.terrain.specs.LoaderCalls.{number, wanting, want_of}
use Rattle.states.specs.LoaderState.{is_loader, loader_of}
use Rattle.terrain.proofs.CallLaws.{turned, went}
use Rattle.terrain.proofs.loader_calls.terrain_load_want.Goals as goal

pub returns-then-not-is_loader : goal.returns-then-not-is_loader
returns-then-not-is_loader c =
    let a = c.args in
    let e : wanting a.state.now ≡ refused 1 = turned (is_loader a.state.now) c.is_loader.result c.is_loader.ensures _ _ c.if-not-is_loader.true-raw in
    record { value = sym (ap number e); want_after = sym (ap (λ (q : Reply Want). want_of q a.want.now) e) }

pub returns-in-Ok-Bytes : goal.returns-in-Ok-Bytes
returns-in-Ok-Bytes c =
    let a = c.args in
    let e = went (is_loader a.state.now) c.is_loader.result c.is_loader.ensures (λ (l : Loader). want_reply l (want_question l))
    (loader_of a.state.now) c.unpack_loader-l.result (refused 1) _ c.if-not-is_loader.false-raw c.unpack_loader-l.ensures c.want.ensures
    ∙ ap of_want (c.in-Ok-Bytes.is ∙ ap Ok c.in-Ok-Bytes.field-0-is) in
    record { value = sym (ap number e); want_after = sym (ap (λ (q : Reply Want). want_of q a.want.now) e) }

pub returns-in-Ok-Draw : goal.returns-in-Ok-Draw
returns-in-Ok-Draw c =
    let a = c.args in
    let e = went (is_loader a.state.now) c.is_loader.result c.is_loader.ensures (λ (l : Loader). want_reply l (want_question l))
    (loader_of a.state.now) c.unpack_loader-l.result (refused 1) _ c.if-not-is_loader.false-raw c.unpack_loader-l.ensures c.want.ensures
    ∙ ap of_want (c.in-Ok-Draw.is ∙ ap Ok c.in-Ok-Draw.field-0-is) in
    record { value = sym (ap number e); want_after = sym (ap (λ (q : Reply Want). want_of q a.want.now) e) }

pub returns-in-Ok-Done : goal.returns-in-Ok-Done
returns-in-Ok-Done c =
    let a = c.args in
    let e = went (is_loader a.state.now) c.is_loader.result c.is_loader.ensures (λ (l : Loader). want_reply l (want_question l))
    (loader_of a.state.now) c.unpack_loader-l.result (refused 1) _ c.if-not-is_loader.false-raw c.unpack_loader-l.ensures c.want.ensures
    ∙ ap of_want (c.in-Ok-Done.is ∙ ap Ok c.in-Ok-Done.field-0-is) in
    record { value = sym (ap number e); want_after = sym (ap (λ (q : Reply Want). want_of q a.want.now) e) }

pub returns-in-Ok-Ended : goal.returns-in-Ok-Ended
returns-in-Ok-Ended c =
    let a = c.args in
    let e = went (is_loader a.state.now) c.is_loader.result c.is_loader.ensures (λ (l : Loader). want_reply l (want_question l))
    (loader_of a.state.now) c.unpack_loader-l.result (refused 1) _ c.if-not-is_loader.false-raw c.unpack_loader-l.ensures c.want.ensures
    ∙ ap of_want (c.in-Ok-Ended.is ∙ ap Ok c.in-Ok-Ended.field-0-is) in
    record { value = sym (ap number e); want_after = sym (ap (λ (q : Reply Want). want_of q a.want.now) e) }

pub returns-in-Err : goal.returns-in-Err
returns-in-Err c =
    let a = c.args in
    let e = went (is_loader a.state.now) c.is_loader.result c.is_loader.ensures (λ (l : Loader). want_reply l (want_question l))
    (loader_of a.state.now) c.unpack_loader-l.result (refused 1) _ c.if-not-is_loader.false-raw c.unpack_loader-l.ensures c.want.ensures
    ∙ ap of_want c.in-Err.is in
    record { value = c.number.ensures ∙ sym (ap number e); want_after = sym (ap (λ (q : Reply Want). want_of q a.want.now) e) }
