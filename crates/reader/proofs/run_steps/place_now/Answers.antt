-- `reader::run_steps::place_now` meets its contract: no level, or the reader's own. Assumes nothing.
use mathlib.Core.Path.{sym, subst}
use native.Mathlib.Omega.{arith}
use Rattle.reader.specs.Inside.{Collected}
use Rattle.reader.specs.declared.walk.Level.{Level}
use Rattle.reader.proofs.run_steps.place_now.Goals as goal

pub returns-then-s-eq0 : goal.returns-then-s-eq0
returns-then-s-eq0 c = (c.place_at.ensures.0, λ h. absurd (omega (arith, c.if-s-eq0.true)))

pub own_level-requires : goal.own_level-requires
own_level-requires c = (c.requires (omega arith), omega arith)

pub returns : goal.returns
returns c =
    let s = c.args.s in
    (c.place_at-2.ensures.0, λ _. subst (λ (l : Level). Collected s l) (sym c.place_at-2.ensures.1) c.own_level.ensures)
