-- The numbers of the questions of documents 01 and 02, and what a call gives in them.
use Rattle.std.specs.Prelude.{ℕ, Result, Ok, Err}
use Rattle.refusal.specs.declared.Refusal.{Refusal}
use Rattle.refusal.specs.declared.Refusal.TheVariants as why

abbrev pub number : Refusal → ℕ
number why.BadState = 1
number why.BadWidth = 2
number why.BadHeight = 3
number why.BadLevels = 4
number why.AreaShort = 5
number why.NoBandRow = 6
number why.OutOfRange = 7
number why.NotItsTurn = 8
number why.IsOver = 9
number why.RowsFull = 10
number why.RowOpen = 11
number why.OutShort = 12
number why.WrongLength = 13
number why.NoMap = 14
number why.BadInput = 15
number why.BadSample = 16
number why.BadLevel = 17
number why.BadFilter = 18
number why.BadRectangle = 19
number why.BadStep = 20
number why.BadReader = 21
number why.NoFile = 22

-- 0 where the call passed
abbrev pub answer : {A : Type 0} → Result A Refusal → ℕ
answer (Ok _) = 0
answer (Err r) = number r
