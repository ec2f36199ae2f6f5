-- Demand 1 of the tolerant reader (document 02, Q-10). Its set-up of w columns, h rows and L levels, on a line store of n numbers in which x stands; s is C's
-- state array. Its want, feed and draw are the reader's (Readers): here that no state with an admission other than 0, whatever stands in the store, is ended
-- by one.
use Rattle.std.specs.Prelude.{◌≡◌, true, List, ◌↔◌, ℕ, ◌≤◌}
use Rattle.lifting.specs.Grid.{side}
use Rattle.wavelet.specs.Asks.{Width, Height, Levels, needed}
use Rattle.reader.specs.declared.Reader.{Reader}
use Rattle.reader.specs.Answers.{number}
use Rattle.reader.specs.Questions.{tolerant_question}
use Rattle.reader.specs.Calls.{set_up_store}
use Rattle.reader.specs.Reading.{counts_fit}
use Rattle.reader.specs.Tolerant.{TolerantAsks, Tolerates, NeverEnds}
use Rattle.states.specs.ReaderState.{reader_of}
use Rattle.terrain.specs.ReaderCalls as c
use Rattle.level.specs.Level.{Memory}
use Rattle.demand_1.specs.Words.{Kept, Zeroed}

-- the store afterwards
abbrev pub store_then : ℕ → ℕ → ℕ → ℕ → Memory → Memory
store_then w h L n x = set_up_store 0 (side 0 w) L (tolerant_question w h L n) x

pub record TolerantSetUp (w h L n : ℕ) (x : Memory) (s : List ℕ) : Type 0 where
  pub answer : TolerantAsks w h L n (number (c.tolerating w h L n))
  pub passes : number (c.tolerating w h L n) ≡ 0 ↔ Width w × Height h × Levels 0 L × (needed 0 (side 0 w) L ≤ n)
  pub store : Kept (number (c.tolerating w h L n)) x (store_then w h L n x)
  pub array : Kept (number (c.tolerating w h L n)) s (c.state_of (c.tolerating w h L n) s)
  pub passed : number (c.tolerating w h L n) ≡ 0 → Zeroed (needed 0 (side 0 w) L) x (store_then w h L n x)

-- for every argument, and whatever stands in state and store
pub record TolerantCalls : Type 0 where
  pub set-up : (w h L n : ℕ) (x : Memory) (s : List ℕ) → TolerantSetUp w h L n x s
  pub state : (r : Reader) → (r.admission ≡ 0 → ⊥) → counts_fit r ≡ true → Tolerates r
  pub never : (r : Reader) → (r.admission ≡ 0 → ⊥) → NeverEnds r
  -- C's: 9 and 14 of no feed and no draw on a state array
  pub c_feed : (s : List ℕ) → ((reader_of s).admission ≡ 0 → ⊥) → (n : ℕ) (x : Memory) (m : ℕ) (v : Memory) →
      (number (c.feeding s n x m v) ≡ 9 → ⊥) × (number (c.feeding s n x m v) ≡ 14 → ⊥)
  pub c_draw : (s : List ℕ) → ((reader_of s).admission ≡ 0 → ⊥) → (n : ℕ) (x : Memory) (m : ℕ) →
      (number (c.drawing s n x m) ≡ 9 → ⊥) × (number (c.drawing s n x m) ≡ 14 → ⊥)
