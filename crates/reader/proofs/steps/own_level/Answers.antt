-- `reader::steps::own_level` meets its contract: the walk to the reader's level, at its set. Assumes nothing.
use mathlib.Core.Path.{◌≡◌, ◌∙◌, ap}
use Prim.Native.Nat.{ℕ, suc, ◌-◌, ◌≤◌, ◌^◌}
use native.Mathlib.Omega.{arith}
use Rattle.reader_steps.specs.Sets.{needed}
use Rattle.reader.specs.State.{columns, rows}
use Rattle.reader.proofs.QuestionLaws.{counts-small}
use Rattle.reader.proofs.StoreLaws.{set-level}
use Rattle.reader.proofs.steps.own_level.Goals as goal

pub overflow_sub-s : goal.overflow_sub-s
overflow_sub-s c = omega arith

pub level_at-l-requires : goal.level_at-l-requires
level_at-l-requires c =
    let counts = c.requires.0 in
    (counts-small c.args.s counts, omega (arith, counts.at, counts.few))

pub returns : goal.returns
returns c =
    let s = c.args.s in
    let at = c.level_at-l.ensures in
    let small : c.less.result ≤ 2 ^ 32 = omega (arith, c.less.ensures, at.now, at.level.last, at.level.set) in
    let k : suc (s.level - 1) ≡ s.level = omega (arith, c.requires.1) in
    let last = at.level.last ∙ ap (needed _ (rows s) 0 s.drawn) k in (
      set-level _ (columns s) (rows s) s.drawn (s.level - 1) c.less.result c.level_at-l.result c.at_set.result small at.level
          c.at_set.ensures,
      c.at_set.ensures.5 ∙ c.less.ensures ∙ ap (λ (i : ℕ). i - s.back) last,
    )
