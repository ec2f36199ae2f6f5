-- `values::magnitude` meets its contract: the opposite of a number below 0, plus 1, fits. Assumes nothing.
use mathlib.Core.Path.{sym, ap, ◌∙◌}
use native.Mathlib.Omega.{arith}
use lib.IntN.{pos}
use lib.Signed.{lt_z}
use Rattle.ground_file.proofs.ValueLaws.{read, add-fits, sub-fits, turned, above, not-below, mag-below, mag-above, mag-small}
use Rattle.ground_file.proofs.values.magnitude.Goals as goal

pub overflow_add-result : goal.overflow_add-result
overflow_add-result c = add-fits c.args.v c.ranges.v (sym (ap (λ x. lt_z x (pos 0)) (read _ c.ranges.v)) ∙ c.if-v-lt0.true)

pub overflow_sub-result : goal.overflow_sub-result
overflow_sub-result c = sub-fits c.args.v c.ranges.v (sym (ap (λ x. lt_z x (pos 0)) (read _ c.ranges.v)) ∙ c.if-v-lt0.true)

pub overflow_cast-result : goal.overflow_cast-result
overflow_cast-result c =
    let f = c.ranges.v in
    let low = sym (ap (λ x. lt_z x (pos 0)) (read _ f)) ∙ c.if-v-lt0.true in
    rw (turned c.args.v f low) (above c.args.v low, record { fits = omega (arith, mag-below c.args.v low, mag-small c.args.v f) })

pub overflow_cast-result-else-v-lt0 : goal.overflow_cast-result-else-v-lt0
overflow_cast-result-else-v-lt0 c =
    let f = c.ranges.v in
    let high = sym (ap (λ x. lt_z x (pos 0)) (read _ f)) ∙ c.if-v-lt0.false in
    rw (read c.args.v f) (not-below c.args.v high, record { fits = omega (arith, mag-above c.args.v high, mag-small c.args.v f) })

pub returns-then-v-lt0 : goal.returns-then-v-lt0
returns-then-v-lt0 c =
    let f = c.ranges.v in
    let low = sym (ap (λ x. lt_z x (pos 0)) (read _ f)) ∙ c.if-v-lt0.true in
    rw (turned c.args.v f low) (mag-below c.args.v low)

pub returns-else-v-lt0 : goal.returns-else-v-lt0
returns-else-v-lt0 c =
    let f = c.ranges.v in
    let high = sym (ap (λ x. lt_z x (pos 0)) (read _ f)) ∙ c.if-v-lt0.false in
    rw (read c.args.v f) (mag-above c.args.v high)
