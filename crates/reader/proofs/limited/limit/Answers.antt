-- `reader::limited::limit` meets its contract: below, above, or the value. Assumes nothing.
use mathlib.Core.Path.{◌≡◌, sym, ap, ◌∙◌}
use native.Mathlib.Omega.{arith}
use lib.IntN.{pos}
use lib.Signed.{lt_z}
use mir.Syntax.{w32}
use mir.ValLaws.{to_z-of_z}
use Rattle.reader.proofs.LimitedLaws.{kept, small, limited-low, limited-high, limited-same}
use Rattle.reader.proofs.limited.limit.Goals as goal

pub overflow_cast-result : goal.overflow_cast-result
overflow_cast-result c =
    let f = c.ranges.v in
    let r = to_z-of_z w32 c.args.v f in
    let n = kept c.args.v (sym (ap (λ x. lt_z x (pos 0)) r) ∙ c.if-v-lt0.false) in
    let s = small c.args.v n (sym (ap (λ x. lt_z (pos 65535) x) r) ∙ c.if-v-gt-MAX_SAMPLE.false) in
    rw r (n, record { fits = omega (arith, s) })

pub returns-then-v-lt0 : goal.returns-then-v-lt0
returns-then-v-lt0 c =
    limited-low c.args.v (sym (ap (λ x. lt_z x (pos 0)) (to_z-of_z w32 c.args.v c.ranges.v)) ∙ c.if-v-lt0.true)

pub returns-then-v-gt-MAX_SAMPLE : goal.returns-then-v-gt-MAX_SAMPLE
returns-then-v-gt-MAX_SAMPLE c =
    limited-high c.args.v (sym (ap (λ x. lt_z (pos 65535) x) (to_z-of_z w32 c.args.v c.ranges.v)) ∙ c.if-v-gt-MAX_SAMPLE.true)

pub returns-else-v-gt-MAX_SAMPLE : goal.returns-else-v-gt-MAX_SAMPLE
returns-else-v-gt-MAX_SAMPLE c =
    let r = to_z-of_z w32 c.args.v c.ranges.v in
    let n = kept c.args.v (sym (ap (λ x. lt_z x (pos 0)) r) ∙ c.if-v-lt0.false) in
    rw r (limited-same c.args.v n (small c.args.v n (sym (ap (λ x. lt_z (pos 65535) x) r) ∙ c.if-v-gt-MAX_SAMPLE.false)))
