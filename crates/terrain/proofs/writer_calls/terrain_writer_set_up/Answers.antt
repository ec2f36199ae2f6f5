-- `terrain_writer_set_up` meets its contract: what the set-up answers, in its two cases. Assumes nothing.
use mathlib.Core.Path.{◌≡◌, sym, ap, ◌∙◌}
use lib.ListN.{length}
use borrow.Author.Rules.{rules}
use Rattle.calls.specs.Lists.{Reply}
use Rattle.wavelet.specs.Shape.{columns}
use Rattle.writer.specs.declared.Writer.{Writer}
use Rattle.writer.specs.Answers.{of_set_up}
use Rattle.writer.specs.Calls.{set_up_reply}
use Rattle.states.specs.WriterAnswers.{number}
use Rattle.terrain.specs.WriterCalls.{state_of}
use Rattle.terrain.proofs.writer_calls.terrain_writer_set_up.Goals as goal

pub shape_of-store : goal.shape_of-store
shape_of-store c = c.set_up.auto.store

pub returns : goal.returns
returns c =
    let a = c.args in
    let e = c.set_up.ensures.result_value in
    record {
      value = c.pack_next.ensures.value ∙ ap number e;
      state_after = c.pack_next.ensures.state_after ∙ ap (λ (q : Reply Writer). state_of q a.state.now) e;
      store_after = c.set_up.ensures.store_after;
    }
