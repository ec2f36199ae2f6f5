use mathlib.Core.Path.{◌≡◌, refl, ap, ◌∙◌}
use Prim.Native.Nat.{ℕ}
use native.Mathlib.Omega.{arith}
use lib.ListN.{length}
use Rattle.numbers.specs.Signal.{at}
use Rattle.numbers.specs.Tests.{every}
use Rattle.numbers.proofs.Words.{read_back}
use Rattle.ground_file.specs.Values.{is_multiple}
use Rattle.ground_file.proofs.ValueLaws.{every_more}
use Rattle.ground_file.proofs.values.multiples.Goals as goal

pub loop-v-init : goal.loop-v-init
unfolding every
loop-v-init c = (omega arith, refl)

pub loop-v-preserved : goal.loop-v-preserved
loop-v-preserved c =
    let row = c.args.row.now in
    let l = c.loop-v in (
      omega arith,
      every_more l.v-index _ l.ok _ l.invariant.1
          (c.is_multiple-ok.ensures ∙ ap (is_multiple c.args.step) (read_back (at row l.v-index) c.is_multiple-arg-1.given)),
    )

pub returns : goal.returns
returns c =
    let l = c.loop-v in
    let e : l.v-index ≡ length c.args.row.now = omega (arith, l.invariant.0) in
    l.invariant.1 ∙ ap (λ (i : ℕ). every i (λ j. is_multiple c.args.step (at c.args.row.now j))) e
