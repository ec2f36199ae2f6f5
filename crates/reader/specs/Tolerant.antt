-- The tolerant reader in plain numbers (wavelet's Asks), by any state and whatever stands in its store. Document 02, Q-10: "A tolerant reader, its set-up
-- without origin, filter or stop, limits each rebuilt value ... instead of giving 14." So nothing ends it: it gives neither 14 nor 9, and its wants are never
-- Ended.
use Rattle.std.specs.Prelude.{◌≡◌, false, ℕ, ◌≤◌, ℤ}
use Rattle.lifting.specs.Grid.{side}
use Rattle.wavelet.specs.Asks.{Asks, Passes, Width, Height, Levels, needed}
use Rattle.reader.specs.declared.Reader.{Reader}
use Rattle.reader.specs.Answers.{gives, ended}
use Rattle.reader.specs.Reading.{want_question, want_reply, feed_question, draw_question}

-- which answer its set-up gives: w columns, h rows, L levels, a line store of n numbers
abbrev pub TolerantAsks : ℕ → ℕ → ℕ → ℕ → ℕ → Type 0
TolerantAsks w h L n =
    Asks 2 (Width w)
    (Asks 3 (Height h)
    (Asks 4 (Levels 0 L)
    (Asks 5 (needed 0 (side 0 w) L ≤ n)
    Passes)))

-- a state that is not strict and passes question 1
pub record Tolerates (s : Reader) : Type 0 where
  pub admission : s.admission ≡ 1
  pub ended : s.ended ≡ false
  pub levels : Levels 0 s.levels
  pub filter : s.filter ≡ 0
  pub origin : (s.x ≡ 0) × (s.y ≡ 0)
  pub stop : (s.stop ≡ 0) × (s.spare ≡ 0)

-- on a store of n numbers in which x stands
pub record NeverEnds (s : Reader) : Type 0 where
  pub want : want_reply s (want_question s) ≡ gives ended → ⊥
  pub feed : (n : ℕ) (x : ℕ → ℤ) (m : ℕ) (v : ℕ → ℤ) → (feed_question s n x m v ≡ 9 → ⊥) × (feed_question s n x m v ≡ 14 → ⊥)
  pub draw : (n : ℕ) (x : ℕ → ℤ) (m : ℕ) → (draw_question s n x m ≡ 9 → ⊥) × (draw_question s n x m ≡ 14 → ⊥)
