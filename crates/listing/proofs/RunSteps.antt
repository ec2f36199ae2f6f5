-- Heights that come together bring what their bytes bring one by one (`run-read`). Assumes nothing.
use mathlib.Core.Path.{◌≡◌, refl, sym, ap, subst, ◌∙◌}
use mathlib.Core.Bool.{Bool, true, false}
use mathlib.Core.List.{List, [], ◌∷◌, map}
use Prim.Native.Nat.{ℕ, zero, suc, ◌+◌, ◌-◌, ◌*◌, ◌≤◌, ◌<◌}
use native.Mathlib.Omega.{arith}
use lib.Dec.{leb}
use lib.ListN.{length, take}
use Rattle.numbers.specs.Signal.{pick}
use Rattle.pgm.specs.Runs.{wide, sample_size, pairs_of, samples_of, fitting, heights_of}
use Rattle.pgm.specs.declared.header.Header.{Header}
use Rattle.wavelet.specs.Limits.{max_levels, max_sample}
use Rattle.calls.specs.Lists.{All, all_none, all_more}
use Rattle.pgm.specs.InputSteps.{heights_came}
use Rattle.listing.specs.Events.{height, Progress, and_on, step_then, read_all}
use Rattle.pgm.specs.declared.input.Input.{Input}
use Rattle.pgm.proofs.HeightLaws.{Leads, leads-two, leads_one, no-sample}
use Rattle.listing.proofs.StepHow.{two_bytes, one_byte}
use Rattle.pgm.proofs.InputReads.{at, first_byte, second-byte, single-byte}

-- ---- bytes and heights
small-pairs : (s : List ℕ) → All (λ b. b ≤ 255) s → All (λ h. h ≤ max_sample) (pairs_of s)
unfolding pairs_of
small-pairs [] p = all_none
small-pairs (a ∷ []) p = all_none
small-pairs (a ∷ b ∷ s) (all_more p (all_more q r)) = all_more (two_bytes a b p q) (small-pairs s r)

small-singles : (s : List ℕ) → All (λ b. b ≤ 255) s → All (λ h. h ≤ max_sample) s
small-singles [] p = all_none
small-singles (b ∷ s) (all_more p r) = all_more (one_byte b p) (small-singles s r)

all-fitting : {P : ℕ → Type 0} (m : ℕ) (l : List ℕ) → All P l → All P (fitting m l)
unfolding fitting
all-fitting m [] p = all_none
all-fitting {P} m (v ∷ l) (all_more p r) = go (leb v m) (all-fitting m l r)
  where
    go : (b : Bool) → All P (fitting m l) → All P (pick b (v ∷ fitting m l) [])
    go true t = all_more p t
    go false t = all_none

pub small-heights : (m : ℕ) (s : List ℕ) → All (λ b. b ≤ 255) s → All (λ h. h ≤ max_sample) (heights_of m s)
unfolding heights_of samples_of
small-heights m s p = go (wide m)
  where
    go : (w : Bool) → All (λ h. h ≤ max_sample) (fitting m (pick w (pairs_of s) s))
    go true = all-fitting m (pairs_of s) (small-pairs s p)
    go false = all-fitting m s (small-singles s p)

-- ---- read one by one
abbrev ran : ℕ → Header → ℕ → ℕ → ℕ → List ℕ → Progress
ran L h m n j s = record { events = map height (take j (heights_of m s)); input = at 3 L h (n - j) m false 0 }

-- a sample v that fits, and then the bytes r
heights-lead : (m v : ℕ) (s r : List ℕ) → Leads m v s r → leb v m ≡ true → heights_of m s ≡ v ∷ heights_of m r
unfolding heights_of fitting
heights-lead m v s r l e = rw (l.samples, e)

-- no bytes, or half a sample
no-height : (m : ℕ) → heights_of m [] ≡ []
unfolding heights_of fitting
no-height m = rw (no-sample m)

half-height : (m a : ℕ) → wide m ≡ true → heights_of m (a ∷ []) ≡ []
unfolding heights_of samples_of pairs_of fitting
half-height m a w = rw w

twice : (j : ℕ) → 2 * suc j ≡ suc (suc (2 * j))
twice j = omega arith

once : (j : ℕ) → 1 * suc j ≡ suc (1 * j)
once j = omega arith

-- one that does not
heights-stop : (m v : ℕ) (s r : List ℕ) → Leads m v s r → leb v m ≡ false → heights_of m s ≡ []
unfolding heights_of fitting
heights-stop m v s r l e = rw (l.samples, e)

module _ (L : ℕ) (h : Header) (m : ℕ) where
  -- j heights of the bytes s, n being still to come
  abbrev Runs : ℕ → ℕ → ℕ → List ℕ → Type 0
  Runs j n u s = read_all (at 3 L h n m false u) (take (sample_size m * j) s) ≡ ran L h m n j s

  one-more : (f : Bool) (n u j v : ℕ) (s r : List ℕ) → leb v m ≡ f → Leads m v s r → suc j ≤ suc n → suc j ≤ length (heights_of m s)
      → (leb v m ≡ true → read_all (at 3 L h (suc n) m false u) (take (sample_size m * suc j) s) ≡ and_on (height v)
      (read_all (at 3 L h n m false 0) (take (sample_size m * j) r)))
      → (j ≤ n → j ≤ length (heights_of m r) → Runs j n 0 r) → Runs (suc j) (suc n) u s
  one-more true n u j v s r e l p q step g =
      let c : suc n - suc j ≡ n - j = omega arith in
      let k = heights-lead m v s r l e in
      step e
      ∙ ap (and_on (height v)) (g (omega arith) (omega (arith, ap length k, q)))
      ∙ rw (c, k)
  one-more false n u j v s r e l p q step g = absurd (omega (arith, q, ap length (heights-stop m v s r l e)))

  step-two : (n u j a b : ℕ) (s : List ℕ) → wide m ≡ true → leb (256 * a + b) m ≡ true
      → read_all (at 3 L h (suc n) m false u) (take (sample_size m * suc j) (a ∷ b ∷ s)) ≡ and_on (height (256 * a + b))
      (read_all (at 3 L h n m false 0) (take (sample_size m * j) s))
  unfolding read_all sample_size
  step-two n u j a b s w e =
      rw (w, twice j)
      (ap (step_then (λ i. read_all i (b ∷ take (2 * j) s))) (first_byte max_levels L h n m u a w)
      ∙ ap (step_then (λ i. read_all i (take (2 * j) s))) ((second-byte max_levels L h n m a b w).0 e))

  step-one : (n u j b : ℕ) (s : List ℕ) → wide m ≡ false → leb b m ≡ true
      → read_all (at 3 L h (suc n) m false u) (take (sample_size m * suc j) (b ∷ s)) ≡ and_on (height b)
      (read_all (at 3 L h n m false 0) (take (sample_size m * j) s))
  unfolding read_all sample_size
  step-one n u j b s w e = rw (w, once j) (ap (step_then (λ i. read_all i (take (1 * j) s))) ((single-byte max_levels L h n m false u b w).0 e))

  no_more : (n u : ℕ) (s : List ℕ) → u ≡ 0 → Runs 0 n u s
  unfolding read_all
  no_more n u s e = let z : sample_size m * 0 ≡ 0 = omega arith in let d : n - 0 ≡ n = omega arith in rw (z, d, e)

  pairs-on : wide m ≡ true → (j n u : ℕ) (s : List ℕ) → (j ≡ 0 → u ≡ 0) → j ≤ n → j ≤ length (heights_of m s) → Runs j n u s
  pairs-on w zero n u s z p q = no_more n u s (z refl)
  pairs-on w (suc j) zero u s z p q = absurd (omega arith)
  pairs-on w (suc j) (suc n) u [] z p q = absurd (omega (arith, q, ap length (no-height m)))
  pairs-on w (suc j) (suc n) u (a ∷ []) z p q = absurd (omega (arith, q, ap length (half-height m a w)))
  pairs-on w (suc j) (suc n) u (a ∷ b ∷ s) z p q =
      one-more (leb (256 * a + b) m) n u j (256 * a + b) (a ∷ b ∷ s) s refl (leads-two m a b s w) p q (step-two n u j a b s w) (pairs-on w j n 0 s (λ _. refl))

  singles-on : wide m ≡ false → (j n u : ℕ) (s : List ℕ) → (j ≡ 0 → u ≡ 0) → j ≤ n → j ≤ length (heights_of m s) → Runs j n u s
  singles-on w zero n u s z p q = no_more n u s (z refl)
  singles-on w (suc j) zero u s z p q = absurd (omega arith)
  singles-on w (suc j) (suc n) u [] z p q = absurd (omega (arith, q, ap length (no-height m)))
  singles-on w (suc j) (suc n) u (b ∷ s) z p q =
      one-more (leb b m) n u j b (b ∷ s) s refl (leads_one m b s w) p q (step-one n u j b s w) (singles-on w j n 0 s (λ _. refl))

  heights-on : (j n u : ℕ) (s : List ℕ) → 0 < j → j ≤ n → j ≤ length (heights_of m s) → Runs j n u s
  heights-on j n u s z p q = go (wide m) refl
    where
      go : (w : Bool) → wide m ≡ w → Runs j n u s
      go true e = pairs-on e j n u s (λ d. absurd (omega arith)) p q
      go false e = singles-on e j n u s (λ d. absurd (omega arith)) p q

-- in phase 3, at the first byte of a sample
pub run-read : (i : Input) (s : List ℕ) (j : ℕ) → i.phase ≡ 3 → i.samples.half ≡ false → length (heights_of i.samples.largest s) ≤ i.left → 0 < j
    → j ≤ length (heights_of i.samples.largest s)
    → read_all i (take (sample_size i.samples.largest * j) s) ≡ record
    { events = map height (take j (heights_of i.samples.largest s)); input = heights_came j i }
run-read i s j e f fits q r = go i.phase i.samples.half e f
  where
    L : ℕ
    L = i.levels

    m : ℕ
    m = i.samples.largest

    go : (p : ℕ) (t : Bool) → p ≡ 3 → t ≡ false
        → read_all (at p L i.header i.left m t i.samples.high) (take (sample_size m * j) s) ≡ record
        { events = map height (take j (heights_of m s)); input = at p L i.header (i.left - j) m false 0 }
    go p t e f =
        subst (λ p. read_all (at p L i.header i.left m t i.samples.high) (take (sample_size m * j) s) ≡ record
        { events = map height (take j (heights_of m s)); input = at p L i.header (i.left - j) m false 0 }) (sym e)
        (subst (λ t. read_all (at 3 L i.header i.left m t i.samples.high) (take (sample_size m * j) s) ≡ ran L i.header m i.left j s) (sym f)
        (heights-on L i.header m j i.left i.samples.high s q (omega arith) r))
