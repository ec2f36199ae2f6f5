-- 14 in a named call: what each of some calls on a fresh reader answers, by the definitions that the calls' contracts cite.
use Rattle.std.specs.Prelude.{◌≡◌, List, [], ◌∷◌, map as each, ℕ, ℤ, pos}
use Rattle.numbers.specs.Signal.{at}
use Rattle.lifting.specs.Grid.{Side, side}
use Rattle.calls.specs.Lists.{gives, refused, Area}
use Rattle.reader.specs.Demand3.{Call, feed, draw, Event, wanted, fed, drew, events, fresh_world}

-- a run or an output area of one number
abbrev pub one : ℤ → Area
one z = record { size = 1; numbers = at (z ∷ []) }

-- the number of the question that turned a call away; 0: it passed
unfoldable pub outcome : Event → ℕ
outcome (wanted v) = 0
outcome (fed a (gives u)) = 0
outcome (fed a (refused q)) = q
outcome (drew a (gives u) b) = 0
outcome (drew a (refused q) b) = q

-- a reader's filter, levels, columns and rows, the calls, and what they answer
pub record Reading : Type 0 where
  pub filter : ℕ
  pub levels : ℕ
  pub columns : Side
  pub rows : Side
  pub calls : List Call
  pub answers : List ℕ

pub data AllRead : List Reading → Type 0 where
  none : AllRead []
  also : {x : Reading} {l : List Reading} →
      each outcome (events x.calls (fresh_world x.filter 0 0 x.columns x.rows x.levels (λ _. pos 0))) ≡ x.answers → AllRead l → AllRead (x ∷ l)

abbrev pub readings : List Reading
readings =
    -- 1 × 1 at L = 5 holding 65,536: the feed of 5 LL 0 works out the set of level 5, which fits; those of levels 4 to 1 have no fed row, and the draw gives 14
    record {
      filter = 0;
      levels = 5;
      columns = side 0 1;
      rows = side 0 1;
      calls = feed 20 (one (pos 65536)) ∷ draw 20 (one (pos 0)) ∷ [];
      answers = 0 ∷ 14 ∷ [];
    }
    ∷ record {
      filter = 0;
      levels = 5;
      columns = side 0 1;
      rows = side 0 1;
      calls = feed 20 (one (pos 65535)) ∷ draw 20 (one (pos 0)) ∷ [];
      answers = 0 ∷ 0 ∷ [];
    }
    -- one column of 7 rows by the 9/7, LL row 1 = 70,000, all else 0: height row 2 is made, and asked 14, with set 2, in the feed of LH row 2
    ∷ record {
      filter = 1;
      levels = 1;
      columns = side 0 1;
      rows = side 0 7;
      calls = feed 8 (one (pos 0)) ∷ feed 8 (one (pos 0)) ∷ draw 8 (one (pos 0)) ∷ feed 8 (one (pos 70000)) ∷ feed 8 (one (pos 0)) ∷ feed 8 (one (pos 0))
          ∷ feed 8 (one (pos 0)) ∷ [];
      answers = 0 ∷ 0 ∷ 0 ∷ 0 ∷ 0 ∷ 0 ∷ 14 ∷ [];
    }
    -- by the 5/3 with set 1, in the feed of LH row 1
    ∷ record {
      filter = 0;
      levels = 1;
      columns = side 0 1;
      rows = side 0 7;
      calls = feed 4 (one (pos 0)) ∷ feed 4 (one (pos 0)) ∷ draw 4 (one (pos 0)) ∷ feed 4 (one (pos 70000)) ∷ feed 4 (one (pos 0)) ∷ [];
      answers = 0 ∷ 0 ∷ 0 ∷ 0 ∷ 14 ∷ [];
    }
    -- 1 × 3 at (1, 1): an odd value of HH row 0 is halved, and gives 14, in its own feed, though its set makes no row
    ∷ record {
      filter = 0;
      levels = 1;
      columns = side 1 1;
      rows = side 1 3;
      calls = feed 4 (one (pos 1)) ∷ [];
      answers = 14 ∷ [];
    }
    ∷ []
