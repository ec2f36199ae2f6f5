-- `lifting::place::unlift_at` meets its contract: what is read and stored are 32-bit numbers read back. Assumes nothing.
use mathlib.Core.Path.{◌≡◌, ◌∙◌}
use lib.ListN.{set}
use mir.Syntax.{w32}
use mir.Val.{to_z, of_z}
use mir.ValLaws.{to_z-of_z}
use Rattle.numbers.specs.Signal.{at}
use Rattle.numbers.specs.Word.{wrap32}
use Rattle.numbers.proofs.Words.{read_back}
use Rattle.lifting.specs.Line.{unpredicted, unupdated}
use Rattle.lifting.proofs.BackLaws.{back-stores, back-tested}
use Rattle.lifting.proofs.place.unlift_at.Goals as goal

pub returns : goal.returns
returns c =
    let a = c.args in
    let m = a.area.now in
    let s = to_z w32 (of_z w32 c.unupdate-s.result) in
    let v = to_z w32 (of_z w32 c.unpredict-x.result) in
    let d = read_back (at m a.p.high) c.d-1.given in
    let es : s ≡ unupdated wrap32 (at m a.p.low) (to_z w32 (of_z w32 (at m a.p.high))) (at m a.p.right) =
    read_back c.unupdate-s.result c.unupdate-s.type_inv
    ∙ c.unupdate-s.ensures
    ∙ rw (read_back (at m a.p.low) c.unupdate-arg-1.given, read_back (at m a.p.right) c.unupdate-arg-2-1.given) in
    let ev : v ≡ unpredicted wrap32 (to_z w32 (of_z w32 (at m a.p.high))) (at (set m a.p.low s) a.p.before) s =
    read_back c.unpredict-x.result c.unpredict-x.type_inv
    ∙ c.unpredict-x.ensures
    ∙ rw (read_back (at (set m a.p.low s) a.p.before) c.unpredict-arg-1.given) in
    let other = c.requires.4 in
    let least = to_z-of_z w32 a.least c.ranges.least in
    let most = to_z-of_z w32 a.most c.ranges.most in
    record {
      value = back-tested m a.p.high a.p.low a.p.right a.p.before s v _ c.requires.0 c.requires.1 other d es ev _ _ a.least a.most _ _ least most
          c.is_within.ensures c.is_within-2.ensures;
      area_after = back-stores m a.p.high a.p.low a.p.right a.p.before s v _ c.requires.0 c.requires.1 other d es ev;
    }
