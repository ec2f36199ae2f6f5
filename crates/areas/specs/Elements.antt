-- What a line may be made of: 32-bit numbers, or heights, u16.
use Rattle.std.specs.Prelude.{◌≡◌, ℕ, ◌<◌, ℤ, pos, List, length, set, get_or}
use Rattle.numbers.specs.Signal.{at}

-- an area of such elements as a list of whole numbers, `wholes`, and as a signal, `read`; `whole` is one element, `kept` what an element keeps of a number
pub record Elements {A : Type 0} (wholes : List A → List ℤ) (whole : A → ℤ) (read : List A → ℕ → ℤ) (kept : ℤ → ℤ) : Type 0 where
  pub size : (l : List A) → length (wholes l) ≡ length l
  pub put : (l : List A) (k : ℕ) (v : A) → wholes (set l k v) ≡ set (wholes l) k (whole v)
  pub place : (l : List A) (i : ℕ) (d : A) → i < length l → whole (get_or l i d) ≡ read l i
  pub signal : (l : List A) → at (wholes l) ≡ read l
  pub none : kept (pos 0) ≡ pos 0
