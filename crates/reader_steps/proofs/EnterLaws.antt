-- The place where a number of a level begins, found level by level. Assumes nothing.
use mathlib.Core.Bool.{Bool, true, false}
use mathlib.Core.Path.{◌≡◌, refl, sym, ap, ◌∙◌}
use Prim.Native.Nat.{ℕ, zero, suc, ◌+◌, ◌-◌, ◌%◌, ◌≤◌, ◌<◌}
use native.Mathlib.Omega.{arith}
use lib.Dec.{leb}
use borrow.Author.Tests.{lt-leb, le-leb}
use Rattle.numbers.specs.Signal.{pick, both}
use Rattle.lifting.specs.Line.{lo}
use Rattle.lifting.specs.Grid.{Side, side, count}
use Rattle.wavelet.specs.Levels.{next}
use Rattle.wavelet.specs.Order.{first_set}
use Rattle.wavelet.specs.Steps.{sets_before}
use Rattle.level.specs.Sets.{opens}
use Rattle.reader_steps.specs.Sets.{ahead}
use Rattle.reader_steps.specs.Places.{has_cells, Spot, spot, descend}
use Rattle.reader_steps.proofs.OpenedSets.{first-low}

-- at level k of L: the sides, the number and the row that are looked at, and the place q that is searched for
module _ (f L k wx w hy h n r : ℕ) (q : Spot) (goes : descend f (L - k) k (side wx w) (side hy h) n r ≡ q) where
  abbrev W : Side
  W = side wx w

  abbrev H : Side
  H = side hy h

  pub down-end : L ≤ k → spot k n 0 ≡ q
  down-end end =
      let left : L - k ≡ 0 = omega arith in
      sym (ap (λ (m : ℕ). descend f m k W H n r) left ∙ unfold descend in refl) ∙ goes

  module _ (more : k < L) where
    left : L - k ≡ suc (L - suc k)
    left = omega arith

    here : q ≡ pick (both (has_cells W H) (opens (ahead f) H r))
        (pick (leb (first_set H lo) (sets_before (ahead f) H r))
        (descend f (L - suc k) (suc k) (next W) (next H) (sets_before (ahead f) H r) (sets_before (ahead f) H r - first_set H lo))
        (spot (suc k) (sets_before (ahead f) H r) 1))
        (spot k n 1)
    here = sym goes ∙ ap (λ (m : ℕ). descend f m k W H n r) left ∙ unfold descend in refl

    pub down_out : both (has_cells W H) (opens (ahead f) H r) ≡ false → spot k n 1 ≡ q
    down_out e = sym (here ∙ rw e refl)

    module _ (into : both (has_cells W H) (opens (ahead f) H r) ≡ true) (m : ℕ) (set : m ≡ sets_before (ahead f) H r) where
      pub down-alone : m < hy % 2 → spot (k + 1) m 1 ≡ q
      down-alone h =
          let one : k + 1 ≡ suc k = omega arith in
          sym (here ∙ rw (into, one, set, lt-leb (first_set H lo) (sets_before (ahead f) H r) (omega (arith, set, first-low H))) refl)

      pub down-on : hy % 2 ≤ m → (wx' w' hy' h' r' : ℕ) → r' ≡ m - hy % 2 → w' ≡ count lo W → wx' ≡ (next W).start → h' ≡ count lo H →
          hy' ≡ (next H).start → descend f (L - (k + 1)) (k + 1) (side wx' w') (side hy' h') m r' ≡ q
      unfolding next
      down-on low wx' w' hy' h' r' er ew ex eh ey =
          let one : k + 1 ≡ suc k = omega arith in
          let row : r' ≡ sets_before (ahead f) H r - first_set H lo = omega (arith, er, set, first-low H) in
          rw (one, row, set, ew, ex, eh, ey)
          (sym (here ∙ rw (into, le-leb (first_set H lo) (sets_before (ahead f) H r) (omega (arith, set, first-low H))) refl))

-- it is no deeper than the last level
pub descend-level : (f m k : ℕ) (W H : Side) (n r : ℕ) → (descend f m k W H n r).level ≤ k + m
unfolding descend
descend-level f zero k W H n r = omega arith
descend-level f (suc m) k W H n r =
    go (both (has_cells W H) (opens (ahead f) H r)) (leb (first_set H lo) (sets_before (ahead f) H r))
    (descend-level f m (suc k) (next W) (next H) (sets_before (ahead f) H r) (sets_before (ahead f) H r - first_set H lo))
  where
    to : Spot
    to = descend f m (suc k) (next W) (next H) (sets_before (ahead f) H r) (sets_before (ahead f) H r - first_set H lo)

    go : (t u : Bool) → to.level ≤ suc k + m → (pick t (pick u to (spot (suc k) (sets_before (ahead f) H r) 1)) (spot k n 1)).level ≤ k + suc m
    go true true ih = omega (arith, ih)
    go true false ih = omega arith
    go false u ih = omega arith
