-- Demand 1 of the set-up with a stop and of the size of a level (document 02, Q-6), Rattle's and C's. n is the length of the line store, x what stands in it, s
-- C's state array. The calls on a reader with a stop are those of Readers.
use Rattle.std.specs.Prelude.{◌≡◌, List, ◌↔◌, ℕ, ◌≤◌}
use Rattle.lifting.specs.Grid.{Side}
use Rattle.wavelet.specs.Asks.{Width, Height, Known, Levels, needed}
use Rattle.wavelet.specs.Levels.{side_at}
use Rattle.reader.specs.Answers.{number}
use Rattle.reader.specs.Questions.{stop_question}
use Rattle.reader.specs.Calls.{set_up_store}
use Rattle.reader.specs.StopAsks.{Stop, StopAsks, SizeAsks}
use Rattle.terrain.specs.ReaderCalls as c
use Rattle.level.specs.Level.{Memory}
use Rattle.demand_1.specs.Words.{Kept, Zeroed}

-- a stop at level j of a map of the columns W and the rows H at L levels, by the filter f
pub record StopSetUp (f : ℕ) (W H : Side) (L j n : ℕ) (x : Memory) (s : List ℕ) : Type 0 where
  pub answer : StopAsks f W H L j n (number (c.stopping f W H L j n))
  pub passes : number (c.stopping f W H L j n) ≡ 0 ↔
      Width W.length × Height H.length × Known f × Levels f L × Stop L j × (needed f W L ≤ n)
  pub store : Kept (number (c.stopping f W H L j n)) x (set_up_store f W L (stop_question f W H L j n) x)
  pub array : Kept (number (c.stopping f W H L j n)) s (c.state_of (c.stopping f W H L j n) s)
  pub passed : number (c.stopping f W H L j n) ≡ 0 → Zeroed (needed f W L) x (set_up_store f W L (stop_question f W H L j n) x)

-- the size of level k; the out-parameters held a and b
pub record Size (f : ℕ) (W H : Side) (L k a b : ℕ) : Type 0 where
  pub answer : SizeAsks f W.length H.length L k (c.size_number (c.sizing f W H L k))
  pub passes : c.size_number (c.sizing f W H L k) ≡ 0 ↔ Width W.length × Height H.length × Known f × Levels f L × Stop L k
  pub columns : Kept (c.size_number (c.sizing f W H L k)) a (c.columns_of (c.sizing f W H L k) a)
  pub rows : Kept (c.size_number (c.sizing f W H L k)) b (c.rows_of (c.sizing f W H L k) b)
  -- the low-low part's
  pub passed : c.size_number (c.sizing f W H L k) ≡ 0 →
      (c.columns_of (c.sizing f W H L k) a ≡ (side_at k W).length) × (c.rows_of (c.sizing f W H L k) b ≡ (side_at k H).length)

pub record StopCalls : Type 0 where
  pub set-up : (f : ℕ) (W H : Side) (L j n : ℕ) (x : Memory) (s : List ℕ) → StopSetUp f W H L j n x s
  pub size : (f : ℕ) (W H : Side) (L k a b : ℕ) → Size f W H L k a b
