-- `reader::runs::first_no` meets its contract: numbers used, rows drawn, ended, or none of these. Assumes nothing.
use mathlib.Core.Path.{◌≡◌, refl, ap, ◌∙◌}
use Prim.Native.Nat.{◌+◌}
use native.Mathlib.Omega.{arith}
use Rattle.reader.proofs.RunPlaces.{false-not-true}
use Rattle.refusal.specs.Numbers.{answer}
use Rattle.reader.proofs.RunOver.{told-is}
use Rattle.reader.proofs.runs.first_no.Goals as goal

pub returns-then-done-gt0 : goal.returns-then-done-gt0
returns-then-done-gt0 c = record { value = λ e _ _. absurd (omega (arith, c.if-done-gt0.true)); value_2 = λ _. refl; rows_value = λ h. absurd (h refl) }

pub returns-then-done-gt0-2 : goal.returns-then-done-gt0-2
returns-then-done-gt0-2 c = record { value = λ _ e _. absurd (omega (arith, c.if-done-gt0-2.true)); value_2 = λ _. refl; rows_value = λ h. absurd (h refl) }

pub returns-then-ended : goal.returns-then-ended
returns-then-ended c = record { value = λ _ _ e. false-not-true e c.if-ended.true; value_2 = λ _. refl; rows_value = λ h. absurd (h refl) }

pub returns-else-ended : goal.returns-else-ended
returns-else-ended c =
    let none : c.args.done.used + c.args.done.rows ≡ 0 = omega arith in
    record { value = λ _ _ _. ap answer c.unwrap_or.ensures ∙ told-is _ _; value_2 = λ h. false-not-true c.if-ended.false (h none); rows_value = λ _. (none, c.if-ended.false) }
