-- The program's own run put together. Assumes nothing.
use mathlib.Core.Path.{◌≡◌, subst}
use mathlib.Core.Bool.{Bool}
use mathlib.Core.List.{List}
use Prim.Native.Nat.{ℕ}
use native.Mathlib.Omega.{arith}
use lib.ListN.{length}
use Rattle.pgm.specs.Limits.{max_picture_width}
use Rattle.picture.specs.Machine.{started, kept, end_kept}
use Rattle.picture.specs.declared.rewriting.Rewriting.{Rewriting}
use Rattle.rounds.specs.Rounds.{Answers}
use Rattle.rewriting_io.specs.Rewritten.{rewriting_machine, Rewritten}

pub rewritten-is : {r : Rewriting} {z : List ℕ} {b : Bool} → length z ≡ max_picture_width → r ≡ started
    → Answers rewriting_machine 65536 end_kept (kept r z) b → Rewritten b
rewritten-is {r} {z} {b} h e g = record {
  z = z;
  row = h;
  A = 65536;
  area = omega arith;
  answers = subst (λ y. Answers rewriting_machine 65536 end_kept (kept y z) b) e g;
}
