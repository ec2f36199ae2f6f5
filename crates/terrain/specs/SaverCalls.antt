-- What a C saving call answers and leaves: what `ground_file` says of the call on the saver that the array holds, and 1 where it holds none.
use Rattle.std.specs.Prelude.{◌≡◌, true, false, List, ℕ, ℤ}
use Rattle.ground_file.specs.Saving.{Saved}
use Rattle.ground_file.specs.Saving.{Saves}
use Rattle.states.specs.SaverState.{is_saver, saver_of, saved_words, written_of}

-- p is the plane; s, o and z stood in the array, the output area and the count, s', o' and z' stand there; q is the answer
pub record Saving (p : List ℤ) (s o : List ℕ) (z q : ℕ) (s' o' : List ℕ) (z' : ℕ) : Type 0 where
  pub other : is_saver s ≡ false → (q ≡ 1) × (s' ≡ s) × (o' ≡ o) × (z' ≡ z)
  pub own : is_saver s ≡ true → (r : Saved) × Saves (saver_of s) p o o' r × (q ≡ r.answer) × (s' ≡ saved_words r s) × (z' ≡ written_of r z)
