-- `tolerant::make_rows` meets its contract: what the set makes, row by row (`rows-made`). Assumes nothing.
use mathlib.Core.Path.{sym, ap, ◌∙◌}
use native.Mathlib.Omega.{arith}
use Rattle.lifting.specs.Grid.{side}
use Rattle.level.specs.Tried.{passed}
use Rattle.level.proofs.KeptLaws.{kept-is}
use Rattle.synthesis.specs.Tolerant.{pair_limited, last_limited}
use Rattle.synthesis.proofs.TolerantCalls.{rows-made, all-kept}
use Rattle.synthesis.proofs.tolerant.make_rows.Goals as goal

pub shape_of-stretch : goal.shape_of-stretch
shape_of-stretch c =
    c.make_last.auto.stretch ∙ c.make_before.auto.stretch ∙ c.make_even.auto.stretch

pub returns : goal.returns
returns c =
    let a = c.args in
    let H = side 0 a.h in
    let e = c.make_last.ensures
    ∙ ap (last_limited a.k a.w H a.n) (c.make_before.ensures
    ∙ ap (pair_limited a.k a.w H a.n) c.make_even.ensures) in
    record { stretch_after = ap passed e ∙ sym (rows-made a.k a.w a.h a.n c.requires.5 _); kept = kept-is _ _ _ _ (all-kept a.k a.w H a.n _) e }
