-- When 14 comes, in grid coordinates. Document 01, "The reader": "A set completed by a fed row is worked out in that feed. A set without a fed row of its own,
-- once the set asked for one level finer lacks its row (at level 1: once no made row is left), is worked out in the next feed, or draw with a row to give, that
-- passes all questions before 14, ahead of that call's own work."
-- The map has the columns W and the rows H of the grid and L levels; level k + 1 parts the low-low part of level k.
use Rattle.std.specs.Prelude.{◌≡◌, Bool, true, not, List, [], ◌∷◌, ℕ, zero, suc, ◌+◌, ◌-◌, ◌*◌, ◌≤◌, ◌<◌, eqb}
use Rattle.numbers.specs.Signal.{both}
use Rattle.calls.specs.Lists.{All}
use Rattle.wavelet.specs.Bands.{down}
use Rattle.wavelet.specs.Order.{RowName}
use Rattle.wavelet.specs.Steps.{Step, feed, draw}
use Rattle.standard.specs.Line.{Interval, half_of}
use Rattle.standard.specs.Transform.{level_of, size}
use Rattle.standard.specs.WriterOrder.{waiting}
use Rattle.standard.specs.ReaderSteps.{made_with}
use Rattle.standard.specs.Schedule.{Action, worked}

-- The sets that row v of the low-low part of level k needs, one of each coarser level: of level k + 1 that which makes it, of the next that which makes the row
-- that this one takes (LL's row n is taken by set n), and so on. All their steps come before anything that uses row v (`set_steps`).
unfoldable pub needed_set : ℕ → Interval → ℕ → ℕ → ℕ → ℕ
needed_set f H k v zero = made_with f (level_of k H) v
needed_set f H k v (suc j) = made_with f (level_of (k + suc j) H) (needed_set f H k v j)

-- The set of a band row: set n has of each band the row at the band's own coordinate n. A fed row completes its set where the next step is no row of it.
unfoldable pub set_of_row : Interval → RowName → ℕ
set_of_row H x = x.row + (half_of (down x.band) (level_of (x.level - 1) H)).i0

unfoldable pub completes : Interval → RowName → List Step → Bool
completes H x [] = true
completes H x (draw r ∷ t) = true
completes H x (feed y ∷ t) = not (both (eqb y.level x.level) (eqb (set_of_row H y) (set_of_row H x)))

module _ (f : ℕ) (W H : Interval) (L : ℕ) where
  -- a low-low part that is not empty
  abbrev pub Some : ℕ → Type 0
  Some k = (0 < size (level_of k W)) × (0 < size (level_of k H))

  -- set n of level k + 1 has no row of its own to feed; it has one
  abbrev pub Unfed : ℕ → ℕ → Type 0
  Unfed k n = waiting (L - suc k) (suc k) (level_of k W) (level_of k H) n ≡ []

  abbrev pub Fed : ℕ → ℕ → Type 0
  Fed k n = Unfed k n → ⊥

  -- `Fits k n`: set n of level k + 1 fits, that is, the values of the rows that it makes do, and no value that it halves is odd.
  module _ (Fits : ℕ → ℕ → Type 0) where
    -- all sets that are worked out in p, a part of the schedule, fit
    abbrev pub AllFit : List Action → Type 0
    AllFit p = (k : ℕ) → k < L → Some k → All (Fits k) (worked (suc k) p)

    -- of the sets that row v of the low-low part of level k needs, those of one kind fit
    pub record NeededFit (k v : ℕ) (Kind : ℕ → ℕ → Type 0) : Type 0 where
      pub fit : (j : ℕ) → k + j < L → Some (k + j) → Kind (k + j) (needed_set f H k v j) → Fits (k + j) (needed_set f H k v j)

    -- What is due in a draw of height row v: the sets without a fed row that it needs.
    abbrev pub DrawDue : ℕ → Type 0
    DrawDue v = NeededFit 0 v Unfed

    -- What is due in the feed of a row of set n of level k + 1: the sets without a fed row that its set's LL row needs, if it has one, and its own set, if that
    -- row completes it.
    pub record FeedDue (k n : ℕ) (full : Bool) : Type 0 where
      pub unfed : (level_of k H).i0 ≤ 2 * n → NeededFit (suc k) n Unfed
      pub own : full ≡ true → Fits k n

    -- What was due before: the needed sets with a fed row, each in the feed of its last row.
    abbrev pub FeedPast : ℕ → ℕ → Type 0
    FeedPast k n = (level_of k H).i0 ≤ 2 * n → NeededFit (suc k) n Fed

    abbrev pub DrawPast : ℕ → Type 0
    DrawPast v = NeededFit 0 v Fed
