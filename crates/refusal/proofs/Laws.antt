-- What is known of the numbers of the questions. Assumes nothing.
use Rattle.std.proofs.Common.{◌≡◌, refl, sym, ap, ◌∙◌, ℕ, Result, Ok, Err, arith}
use Rattle.std.specs.Result.{IsErrAnd}
use Rattle.refusal.specs.declared.Refusal.{Refusal}
use Rattle.refusal.specs.declared.Refusal.TheVariants as why
use Rattle.refusal.specs.Numbers.{number, answer}

-- none is 0, the answer of a call that passed
pub number-some : (r : Refusal) → number r ≡ 0 → ⊥
number-some why.BadState = λ e. omega arith
number-some why.BadWidth = λ e. omega arith
number-some why.BadHeight = λ e. omega arith
number-some why.BadLevels = λ e. omega arith
number-some why.AreaShort = λ e. omega arith
number-some why.NoBandRow = λ e. omega arith
number-some why.OutOfRange = λ e. omega arith
number-some why.NotItsTurn = λ e. omega arith
number-some why.IsOver = λ e. omega arith
number-some why.RowsFull = λ e. omega arith
number-some why.RowOpen = λ e. omega arith
number-some why.OutShort = λ e. omega arith
number-some why.WrongLength = λ e. omega arith
number-some why.NoMap = λ e. omega arith
number-some why.BadInput = λ e. omega arith
number-some why.BadSample = λ e. omega arith
number-some why.BadLevel = λ e. omega arith
number-some why.BadFilter = λ e. omega arith
number-some why.BadRectangle = λ e. omega arith
number-some why.BadStep = λ e. omega arith
number-some why.BadReader = λ e. omega arith
number-some why.NoFile = λ e. omega arith

-- a call that was not turned away
pub not-refused : {A : Type 0} (r : Result A Refusal) → ((e : Refusal) → r ≡ Err e → ⊥) → answer r ≡ 0
not-refused (Ok a) h = refl
not-refused (Err e) h = absurd (h e refl)

-- what a `?` hands on, by what its `From` gives
pub handed-on : {A E : Type 0} (r : Result A E) {e : E} → IsErrAnd r (λ z. z ≡ e) → r ≡ Err e
handed-on (Ok a) h = absurd h
handed-on (Err z) h = ap Err h
