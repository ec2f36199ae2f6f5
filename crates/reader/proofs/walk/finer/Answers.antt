-- `reader::walk::finer` meets its contract: the level before, at the set that takes the first row that waits. Assumes nothing.
use mathlib.Core.Path.{◌∙◌, ap}
use Prim.Native.Nat.{◌+◌, ◌-◌, ◌%◌, ◌≤◌, ◌^◌}
use native.Mathlib.Omega.{arith}
use Rattle.lifting.specs.Grid.{Side, side}
use Rattle.reader_steps.specs.Sets.{first_row}
use Rattle.reader_steps.proofs.OpenedSets.{row_in}
use Rattle.reader.proofs.PartLaws.{level_in, level-high}
use Rattle.reader.proofs.StoreLaws.{set-level, waiting-is}
use Rattle.reader.proofs.walk.finer.Goals as goal

pub overflow_sub-k : goal.overflow_sub-k
overflow_sub-k c = omega arith

pub level_at-m-requires : goal.level_at-m-requires
level_at-m-requires c = (c.requires.0, omega arith)

pub overflow_add-first_row : goal.overflow_add-first_row
overflow_add-first_row c =
    let l = c.args.l in
    let there = row_in c.args.filter (side l.y l.height) l.set in
    omega (arith, c.first_row.ensures, there, (level_in _ _ _ _ _ l c.requires.1 (omega arith) (omega arith)).2)

pub returns : goal.returns
returns c =
    let a = c.args in
    let l = a.l in
    let is = c.requires.1 in
    let at = c.level_at-m.ensures.level in
    let n = c.first_row.result + c.level_at-m.result.y % 2 in
    let small : n ≤ 2 ^ 32 =
    omega (
      arith,
      c.first_row.ensures,
      row_in a.filter (side l.y l.height) l.set,
      (level_in _ _ _ _ _ l is (omega arith) (omega arith)).2,
    ) in
    let first = c.first_row.ensures ∙ ap (λ (S : Side). first_row a.filter S l.set) (level-high _ _ _ _ _ l is) in (
      set-level a.filter (side a.x a.width) (side a.y a.height) a.drawn (a.k - 1) n c.level_at-m.result c.at_set.result small at
          c.at_set.ensures,
      c.at_set.ensures.5 ∙ waiting-is a.filter (side a.y a.height) a.k l.set _ _ c.requires.2 first at.y,
    )
