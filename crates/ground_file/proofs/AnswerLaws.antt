-- What the number of an answer says. Assumes nothing.
use mathlib.Core.Path.{◌≡◌, refl}
use mathlib.Core.Bool.{true, false}
use Prim.Native.Nat.{ℕ, ◌<◌}
use native.Mathlib.Omega.{arith}
use Rattle.std.proofs.Common.{Result, Ok, Err}
use Rattle.std.specs.Result.{is_err}
use Rattle.refusal.specs.declared.Refusal.{Refusal}
use Rattle.refusal.specs.Numbers.{number, answer}
use Rattle.refusal.proofs.Laws.{number-some}

pub number-above : (r : Refusal) → 0 < number r
number-above r = omega (arith, number-some r)

pub refused-some : {A : Type 0} (r : Result A Refusal) → is_err r ≡ true → answer r ≡ 0 → ⊥
refused-some (Ok a) e z = cc
refused-some (Err why) e z = omega (arith, number-above why)

pub passed-none : {A : Type 0} (r : Result A Refusal) → is_err r ≡ false → answer r ≡ 0
passed-none (Ok a) e = refl
passed-none (Err why) e = cc
