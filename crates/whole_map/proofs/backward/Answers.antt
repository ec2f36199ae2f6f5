-- `backward` meets its contract: it is `map_levels`' call, of the map's shape. Assumes nothing.
use Rattle.map_questions.specs.Calls.{backward_question}
use Rattle.whole_map.proofs.backward.Goals as goal

pub returns : goal.returns
unfolding backward_question
returns c =
    let s = c.of.ensures in
    let lifted = c.unlift_map.ensures in
    record {
      value = rw (s.x, s.width, s.y, s.height) at lifted.value;
      heights_after = rw (s.x, s.width, s.y, s.height) at lifted.heights_after;
      work_after = rw (s.width, s.height) at lifted.work_after;
    }
