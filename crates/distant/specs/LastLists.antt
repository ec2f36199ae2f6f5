-- Lists of calls on a reader with no level to work out. Document 02, Q-6: "at j = L each fed row is the next to draw." By the calls' arguments and answers
-- alone,
-- as demand 3: how many rows are fed and drawn says what comes next.
use Rattle.std.specs.Prelude.{◌≡◌, false, List, [], ◌∷◌, ℕ, suc, ◌≤◌, ◌<◌, ℤ, pos, length, get_or, leb, ltb, eqb}
use Rattle.numbers.specs.Signal.{pick, both}
use Rattle.wavelet.specs.Bands.{LL, code}
use Rattle.wavelet.specs.Questions.{ask}
use Rattle.calls.specs.Lists.{Reply, gives, refused, unless, Area, gathered}
use Rattle.reader.specs.Answers.{Want, row, draw_now, done}
use Rattle.reader.specs.Limited.{limited}
use Rattle.reader.specs.Questions.{store_fits, run_fits}
use Rattle.reader.specs.Demand3.{Call, want, feed, draw, Given, heights, nothing, Event, wanted, fed, drew, ended_by, drawn_rows}

-- the runs that were fed
unfoldable pub fed_run : Event → List (ℕ → ℤ)
fed_run (wanted v) = []
fed_run (fed a (gives u)) = a.numbers ∷ []
fed_run (fed a (refused q)) = []
fed_run (drew a v b) = []

abbrev pub fed_runs : List Event → List (ℕ → ℤ)
fed_runs = gathered fed_run

-- ---- the next call, with p rows fed and d drawn, of h rows of w numbers of level j by the filter f; m numbers of the store are needed
module _ (f j w h m : ℕ) where
  -- the row fed can be drawn, or the next is wanted, or all are drawn
  unfoldable pub last_says : ℕ → ℕ → Want
  last_says p d = pick (ltb d p) draw_now (pick (ltb d h) (row j (code LL) d w) done)

  -- the number of the question that turns a feed away, lent a store of n numbers: 5, 8, 13, 7, or 0
  unfoldable pub last_feed : ℕ → ℕ → ℕ → Area → ℕ
  last_feed p d n a =
      ask (store_fits m n) 5
      (ask (both (ltb d h) (leb p d)) 8
      (ask (eqb a.size w) 13
      (ask (run_fits f j a.size a.numbers) 7
      0)))

  -- what a draw into an area of k heights gives
  unfoldable pub last_draw : ℕ → ℕ → ℕ → ℕ → Reply Given
  last_draw p d n k = pick (store_fits m n) (pick (ltb d p) (pick (leb w k) (gives (heights w)) (refused 12)) (gives nothing)) (refused 5)

-- what is seen of a draw into a: its answer, the area of the same length, past the row as it was
pub record HandsRow (w : ℕ) (a : Area) (answer : Reply Given) (seen : Event) : Type 0 where
  pub after : Area
  pub is : seen ≡ drew a answer after
  pub size : after.size ≡ a.size
  pub untouched : (i : ℕ) → w ≤ i → after.numbers i ≡ a.numbers i

-- ---- the claim, of the events es of any list of calls; `then` is what would be seen of a further call
pub record HandsOn (f j w h m : ℕ) (es : List Event) (then : Call → Event) : Type 0 where
  pub wants : then want ≡ wanted (gives (last_says f j w h m (length (fed_runs es)) (length (drawn_rows es))))
  -- a feed passes where no question before 14 turns it away; 14 never comes
  pub feeds : (n : ℕ) (a : Area) → then (feed n a) ≡ fed a (unless (last_feed f j w h m (length (fed_runs es)) (length (drawn_rows es)) n a) tt)
  pub draws : (n : ℕ) (a : Area) →
      HandsRow w a (last_draw f j w h m (length (fed_runs es)) (length (drawn_rows es)) n a.size) (then (draw n a))
  pub lives : ended_by es ≡ false
  -- each row fed is the next drawn, so no more than one waits, and none is past the last
  pub waits : (length (drawn_rows es) ≤ length (fed_runs es)) × (length (fed_runs es) ≤ suc (length (drawn_rows es))) × (length (fed_runs es) ≤ h)
  -- "each value limited to 0 to 65,535"
  pub rows : (r c : ℕ) → r < length (drawn_rows es) → c < w →
      get_or (drawn_rows es) r (λ _. pos 0) c ≡ limited (get_or (fed_runs es) r (λ _. pos 0) c)
