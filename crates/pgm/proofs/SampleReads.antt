-- Samples taken a byte at a time are the heights of the bytes (`taken-heights`), one is too large where the definition says so (`taken-over`), and a
-- cut anywhere changes nothing (`cut-heights`).
-- Assumes nothing.
use mathlib.Core.Path.{◌≡◌, refl, ap}
use mathlib.Core.Bool.{Bool, true, false}
use mathlib.Core.List.{List, [], ◌∷◌, ◌++◌}
use Prim.Native.Nat.{ℕ, ◌+◌, ◌*◌}
use lib.Dec.{leb}
use Rattle.numbers.specs.Signal.{pick}
use Rattle.pgm.specs.Runs.{wide, pairs_of, samples_of, fitting, exceeds, heights_of}
use Rattle.pgm.specs.Samples.{no_byte, sampled, sample_of, Taken, taken_on, takes}
use Rattle.pgm.specs.declared.samples.Samples.{Samples}
use Rattle.pgm.specs.SampleAnswer.{SampleAnswer}
use Rattle.pgm.specs.SampleAnswer.{Half, Height, No16}

abbrev state : ℕ → Bool → ℕ → Samples
state m h v = record { largest = m; half = h; high = v }

-- what is taken of the samples l
record Takes (m : ℕ) (l : List ℕ) (t : Taken) : Type 0 where
  pub heights : t.heights ≡ fitting m l
  pub over : t.over ≡ exceeds m l

module _ (m : ℕ) where
  none : {x : Samples} → Takes m [] (record { heights = []; over = false; state = x })
  unfolding fitting exceeds
  none = record { heights = refl; over = refl }

  one-more : (v : ℕ) (l : List ℕ) (f : Samples → Taken) (h : Bool) (u : ℕ) (b : Bool) → leb v m ≡ b → Takes m l (f (no_byte m))
      → Takes m (v ∷ l) (taken_on f (state m h u) (sampled m v))
  unfolding fitting exceeds sampled
  one-more v l f h u true e t = record { heights = rw e (ap (λ k. v ∷ k) t.heights); over = rw e t.over }
  one-more v l f h u false e t = record { heights = rw e refl; over = rw e refl }

  pairs : wide m ≡ true → (u : ℕ) (s : List ℕ) → Takes m (pairs_of s) (takes (state m false u) s)
  unfolding takes sample_of pairs_of
  pairs e u [] = none
  pairs e u (b ∷ []) = rw e none
  pairs e u (b ∷ c ∷ s) = rw (e, e) (one-more (256 * b + c) (pairs_of s) (λ y. takes y s) true b (leb (256 * b + c) m) refl (pairs e 0 s))

  singles : wide m ≡ false → (u : ℕ) (s : List ℕ) → Takes m s (takes (state m false u) s)
  unfolding takes sample_of
  singles e u [] = none
  singles e u (b ∷ s) = rw e (one-more b s (λ y. takes y s) false u (leb b m) refl (singles e 0 s))

  taken : (s : List ℕ) → Takes m (samples_of m s) (takes (no_byte m) s)
  unfolding samples_of
  taken s = go (wide m) refl
    where
      go : (w : Bool) → wide m ≡ w → Takes m (pick w (pairs_of s) s) (takes (no_byte m) s)
      go true e = pairs e 0 s
      go false e = singles e 0 s

  pub taken-heights : (s : List ℕ) → (takes (no_byte m) s).heights ≡ heights_of m s
  unfolding heights_of
  taken-heights s = (taken s).heights

  pub taken-over : (s : List ℕ) → (takes (no_byte m) s).over ≡ exceeds m (samples_of m s)
  taken-over s = (taken s).over

-- ---- cut anywhere: more bytes, after what came before
abbrev pub takes_on : Taken → List ℕ → List ℕ
takes_on t s = t.heights ++ pick t.over [] (takes t.state s).heights

cut_step : (x : Samples) (y : SampleAnswer) (s t : List ℕ) → ((x : Samples) → (takes x (s ++ t)).heights ≡ takes_on (takes x s) t)
    → (taken_on (λ y. takes y (s ++ t)) x y).heights ≡ takes_on (taken_on (λ y. takes y s) x y) t
cut_step x (Half y) s t e = e y
cut_step x (Height v) s t e = ap (λ l. v ∷ l) (e (no_byte x.largest))
cut_step x No16 s t e = refl

pub cut-heights : (s t : List ℕ) (x : Samples) → (takes x (s ++ t)).heights ≡ takes_on (takes x s) t
unfolding takes
cut-heights [] t x = refl
cut-heights (b ∷ s) t x = cut_step x (sample_of x b) s t (cut-heights s t)
