-- `forward` meets its contract: it is `map_levels`' call, of the map's shape. Assumes nothing.
use Rattle.map_questions.specs.Calls.{forward_question}
use Rattle.whole_map.proofs.forward.Goals as goal

pub returns : goal.returns
unfolding forward_question
returns c =
    let s = c.of.ensures in
    let lifted = c.lift_map.ensures in
    record {
      value = rw (s.width, s.height) at lifted.value;
      plane_after = rw (s.x, s.width, s.y, s.height) at lifted.plane_after;
      work_after = rw (s.width, s.height) at lifted.work_after;
    }
