-- Where a set begins: a set of a level as the code has it, and the search from the next sides on. Assumes nothing.
use mathlib.Core.Bool.{Bool}
use mathlib.Core.Path.{◌≡◌, refl, sym, ap}
use Prim.Native.Nat.{ℕ, ◌-◌, ◌%◌, ◌≤◌, ◌<◌}
use native.Mathlib.Omega.{arith}
use lib.Dec.{leb}
use borrow.Author.Tests.{lt-leb, le-leb}
use Rattle.numbers.specs.Signal.{pick}
use Rattle.lifting.specs.Line.{lo}
use Rattle.lifting.specs.Grid.{Side, side, count}
use Rattle.wavelet.specs.Levels.{next}
use Rattle.wavelet.specs.Order.{first_set}
use Rattle.reader_steps.specs.Places.{Spot, descend}
use Rattle.reader_steps.proofs.OpenedSets.{first-low}

pub begin-alone : (S : Side) (n : ℕ) (to sp : Spot) → n < S.start % 2 → sp ≡ pick (leb (first_set S lo) n) to sp
begin-alone S n to sp h = sym (ap (λ (t : Bool). pick t to sp) (lt-leb (first_set S lo) n (omega (arith, first-low S))))

pub begin-on : (f : ℕ) (X S : Side) (m k n wx w hy h r : ℕ) (sp : Spot) → S.start % 2 ≤ n → wx ≡ (next X).start → w ≡ count lo X → hy ≡ (next S).start →
    h ≡ count lo S →
    r ≡ n - S.start % 2 →
    descend f m k (side wx w) (side hy h) n r ≡ pick (leb (first_set S lo) n) (descend f m k (next X) (next S) n (n - first_set S lo)) sp
unfolding next
begin-on f X S m k n wx w hy h r sp low ex ew ey eh er =
    let z : r ≡ n - first_set S lo = omega (arith, er, first-low S) in
    rw (ex, ew, ey, eh, z, le-leb (first_set S lo) n (omega (arith, first-low S))) refl
