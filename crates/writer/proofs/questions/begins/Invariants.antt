-- `questions::begins` meets its contract. The loop's invariant: what is asked of the levels left is what was asked of all. Assumes nothing.
use mathlib.Core.Path.{◌≡◌, refl, ◌∙◌}
use Prim.Native.Nat.{◌<◌, ◌^◌, ◌+◌, ◌-◌}
use native.Mathlib.Omega.{arith}
use lib.Dec.{eqb}
use Rattle.lifting.specs.Grid.{side}
use Rattle.wavelet.proofs.SideLaws.{count-lo}
use Rattle.progress.specs.Counts.{start_of}
use Rattle.progress.proofs.CountLaws.{next-is}
use Rattle.writer.proofs.QuestionLaws.{begins-short, begins-on, begins-first}
use Rattle.writer.proofs.questions.begins.Given as goal

abbrev pub invariant-loop-above : goal.invariant-loop-above
invariant-loop-above l =
    (l.width < 2 ^ 16) × (0 < l.v) × (eqb l.rest (start_of l.filter (side l.column l.width) (l.v + 1 - l._above)) ≡ eqb l.o (start_of l.filter (side l.x l.w) l.v))
