-- The heights of bytes one sample after the other, and the refusal that the bytes bring. Assumes nothing.
use mathlib.Core.Path.{◌≡◌, refl, sym, ◌∙◌}
use mathlib.Core.Bool.{Bool, true, false}
use mathlib.Core.List.{List, [], ◌∷◌}
use Prim.Native.Nat.{ℕ, suc, ◌+◌, ◌*◌, ◌<◌}
use native.Mathlib.Omega.{arith}
use native.Mathlib.Decide.{ℕ_discrete, dec_lt}
use lib.Dec.{leb, ltb, eqb}
use lib.ListN.{length}
use borrow.Author.Tests.{lt-ltb, le-ltb, eq-eqb, ne_eqb}
use Rattle.numbers.specs.Signal.{pick, both}
use Rattle.pgm.specs.Runs.{wide, sample_size, pairs_of, samples_of, fitting, exceeds, heights_of}
use Rattle.pgm.specs.Heights.{heights_taken, too_large, bytes_of, refusal_in}

-- ---- one sample more, of two bytes (w) or one: too many bytes, too few, or as many as there are samples
pub more_lt : (w : Bool) (n k l : ℕ) → l ≡ pick w 2 1 + k → ltb (pick w 2 1 * suc n) l ≡ ltb (pick w 2 1 * n) k
more_lt true n k l e =
    elim (dec_lt (2 * n) k) [
      | yes p ↦ lt-ltb (2 * suc n) l (omega arith) ∙ sym (lt-ltb (2 * n) k p)
      | no d ↦ le-ltb (2 * suc n) l (omega arith) ∙ sym (le-ltb (2 * n) k (omega arith))
    ]
more_lt false n k l e =
    elim (dec_lt (1 * n) k) [
      | yes p ↦ lt-ltb (1 * suc n) l (omega arith) ∙ sym (lt-ltb (1 * n) k p)
      | no d ↦ le-ltb (1 * suc n) l (omega arith) ∙ sym (le-ltb (1 * n) k (omega arith))
    ]

pub more-gt : (w : Bool) (n k l : ℕ) → l ≡ pick w 2 1 + k → ltb l (pick w 2 1 * suc n) ≡ ltb k (pick w 2 1 * n)
more-gt true n k l e =
    elim (dec_lt k (2 * n)) [
      | yes p ↦ lt-ltb l (2 * suc n) (omega arith) ∙ sym (lt-ltb k (2 * n) p)
      | no d ↦ le-ltb l (2 * suc n) (omega arith) ∙ sym (le-ltb k (2 * n) (omega arith))
    ]
more-gt false n k l e =
    elim (dec_lt k (1 * n)) [
      | yes p ↦ lt-ltb l (1 * suc n) (omega arith) ∙ sym (lt-ltb k (1 * n) p)
      | no d ↦ le-ltb l (1 * suc n) (omega arith) ∙ sym (le-ltb k (1 * n) (omega arith))
    ]

pub more-eq : (w : Bool) (n k l : ℕ) → l ≡ pick w 2 1 + k → eqb l (pick w 2 1 * suc n) ≡ eqb k (pick w 2 1 * n)
more-eq true n k l e =
    elim (ℕ_discrete k (2 * n)) [
      | yes p ↦ eq-eqb l (2 * suc n) (omega arith) ∙ sym (eq-eqb k (2 * n) p)
      | no d ↦ ne_eqb l (2 * suc n) (λ z. d (omega arith)) ∙ sym (ne_eqb k (2 * n) d)
    ]
more-eq false n k l e =
    elim (ℕ_discrete k (1 * n)) [
      | yes p ↦ eq-eqb l (1 * suc n) (omega arith) ∙ sym (eq-eqb k (1 * n) p)
      | no d ↦ ne_eqb l (1 * suc n) (λ z. d (omega arith)) ∙ sym (ne_eqb k (1 * n) d)
    ]

-- the bytes s are a sample v and then r
pub record Leads (m v : ℕ) (s r : List ℕ) : Type 0 where
  pub samples : samples_of m s ≡ v ∷ samples_of m r
  pub bytes : length s ≡ sample_size m + length r

pub leads-two : (m a b : ℕ) (r : List ℕ) → wide m ≡ true → Leads m (256 * a + b) (a ∷ b ∷ r) r
unfolding samples_of pairs_of sample_size
leads-two m a b r e = record { samples = rw e; bytes = rw e (omega arith) }

pub leads_one : (m b : ℕ) (r : List ℕ) → wide m ≡ false → Leads m b (b ∷ r) r
unfolding samples_of sample_size
leads_one m b r e = record { samples = rw e; bytes = rw e (omega arith) }

pub no-sample : (m : ℕ) → samples_of m [] ≡ []
unfolding samples_of pairs_of
no-sample m = go (wide m)
  where
    go : (w : Bool) → pick {A = List ℕ} w [] [] ≡ []
    go true = refl
    go false = refl

pub some_byte : (m : ℕ) → 0 < sample_size m
unfolding sample_size
some_byte m = go (wide m)
  where
    go : (w : Bool) → 0 < pick w 2 1
    go true = omega arith
    go false = omega arith

pub bytes-none : (m : ℕ) → bytes_of m 0 ≡ 0
bytes-none m = omega arith

-- ---- the refusal that the bytes bring
module _ (e : Bool) (m : ℕ) where
  pub too-large-says : (n v : ℕ) (s r : List ℕ) → Leads m v s r → leb v m ≡ false → (heights_taken m (suc n) s ≡ []) × (refusal_in e m (suc n) s ≡ 16)
  unfolding heights_taken heights_of fitting refusal_in too_large exceeds
  too-large-says n v s r l h = (rw (l.samples, h), rw (l.samples, h))

  -- no whole sample, and fewer bytes than the next has
  pub short-says : (n : ℕ) (s : List ℕ) → samples_of m s ≡ [] → length s < sample_size m
      → (heights_taken m (suc n) s ≡ []) × (refusal_in e m (suc n) s ≡ pick e 15 0)
  unfolding heights_taken heights_of fitting refusal_in too_large exceeds sample_size
  short-says n s h k = (rw h, rw (h, (below (wide m) k).0, (below (wide m) k).1) (ends e))
    where
      below : (w : Bool) → length s < pick w 2 1 → (ltb (pick w 2 1 * suc n) (length s) ≡ false) × (ltb (length s) (pick w 2 1 * suc n) ≡ true)
      below true h = (le-ltb (2 * suc n) (length s) (omega arith), lt-ltb (length s) (2 * suc n) (omega arith))
      below false h = (le-ltb (1 * suc n) (length s) (omega arith), lt-ltb (length s) (1 * suc n) (omega arith))

      ends : (e : Bool) → ◌≡◌ {A = ℕ} (pick (both e true) 15 0) (pick e 15 0)
      ends true = refl
      ends false = refl

  pub surplus-says : (b : ℕ) (r : List ℕ) → refusal_in e m 0 (b ∷ r) ≡ 15
  unfolding refusal_in too_large exceeds
  surplus-says b r = rw (bytes-none m, lt-ltb 0 (suc (length r)) (omega arith))

  pub whole_says : refusal_in e m 0 [] ≡ 0
  unfolding refusal_in too_large exceeds
  whole_says = rw (bytes-none m) (over e)
    where
      over : (e : Bool) → ◌≡◌ {A = ℕ} (pick (both e false) 15 0) 0
      over true = refl
      over false = refl
