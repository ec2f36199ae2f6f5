-- `reader::steps::last_of` meets its contract: row d, or the walk to the level. Assumes nothing.
use mathlib.Core.Path.{◌≡◌, ◌∙◌, ap, sym}
use Prim.Native.Nat.{suc, ◌-◌}
use native.Mathlib.Omega.{arith}
use Rattle.reader_steps.specs.Sets.{needed}
use Rattle.reader.specs.State.{rows}
use Rattle.reader_steps.proofs.OpenedSets.{needed_here}
use Rattle.reader.proofs.steps.last_of.Goals as goal

pub returns-then-level-eq0 : goal.returns-then-level-eq0
returns-then-level-eq0 c =
    let a = c.args in
    sym (ap (needed _ (rows a.s) 0 a.d) c.if-level-eq0.true ∙ needed_here _ (rows a.s) 0 a.d)

pub overflow_sub-level : goal.overflow_sub-level
overflow_sub-level c = omega arith

pub level_at-requires : goal.level_at-requires
level_at-requires c = (c.requires.0, omega (arith, c.requires.1))

pub returns : goal.returns
returns c =
    let a = c.args in
    let k : suc (a.level - 1) ≡ a.level = omega arith in
    c.level_at.ensures.level.last ∙ ap (needed _ (rows a.s) 0 a.d) k
