-- `bytes::copy_some` meets its contract: after i turns i bytes are copied. Assumes nothing.
use mathlib.Core.Path.{◌≡◌}
use mathlib.Core.List.{List}
use Prim.Native.Nat.{ℕ, ◌+◌, ◌≤◌}
use lib.ListN.{length, drop}
use lib.Seq.{paste}
use Rattle.text.proofs.bytes.copy_some.Given as goal

-- i bytes of t from place f on stand in o from place a on
pub record Copied (t d o : List ℕ) (f a n i : ℕ) : Type 0 where
  pub within : i ≤ n
  pub from : f + n ≤ length t
  pub room : a + n ≤ length d
  pub size : length o ≡ length d
  pub bytes : o ≡ paste d a (drop f t) i

abbrev pub invariant-loop-i : goal.invariant-loop-i
invariant-loop-i l = Copied l.text l.initial.out l.out l.from l.at l.n l.i
