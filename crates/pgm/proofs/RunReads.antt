-- Heights of a stretch of bytes: how many there are, each of them, and the first n. Assumes nothing.
use mathlib.Core.Path.{◌≡◌, refl, sym, ap, ◌∙◌}
use mathlib.Core.Bool.{Bool, true, false}
use mathlib.Core.List.{List, [], ◌∷◌, ◌++◌}
use Prim.Native.Nat.{ℕ, zero, suc, ◌+◌, ◌-◌, ◌*◌, ◌/◌, ◌≤◌, ◌<◌, min}
use native.Mathlib.Omega.{arith}
use native.Mathlib.Numerals.{add-one}
use native.Mathlib.Nat.{zero-add}
use lib.Dec.{leb}
use lib.ListN.{length, take, drop, get_or, set, length-set, length-drop}
use lib.Seq.{paste, paste-zero, paste-suc, get_or-drop}
use Rattle.numbers.specs.Signal.{pick}
use Rattle.pgm.specs.Runs.{wide, sample_size, pairs_of, samples_of, fitting, heights_of}

-- ---- samples of two bytes
pairs-count : (s : List ℕ) → length (pairs_of s) ≡ length s / 2
unfolding pairs_of
pairs-count [] = omega arith
pairs-count (h ∷ []) = omega arith
pairs-count (h ∷ l ∷ s) = omega (arith, pairs-count s)

pair-at : (s : List ℕ) (i : ℕ) → i < length (pairs_of s) → get_or (pairs_of s) i 0 ≡ 256 * get_or s (2 * i) 0 + get_or s (2 * i + 1) 0
unfolding pairs_of
pair-at [] i h = absurd (omega arith)
pair-at (a ∷ []) i h = absurd (omega arith)
pair-at (a ∷ b ∷ s) zero h = refl
pair-at (a ∷ b ∷ s) (suc i) h =
    let e : 2 * suc i ≡ suc (suc (2 * i)) = omega arith in
    let f : 2 * suc i + 1 ≡ suc (suc (2 * i + 1)) = omega arith in
    rw (f, e) (pair-at s i (omega arith))

pairs_first : (s : List ℕ) (n : ℕ) → pairs_of (take (2 * n) s) ≡ take n (pairs_of s)
unfolding pairs_of
pairs_first s zero = refl
pairs_first [] (suc n) = let e : 2 * suc n ≡ suc (suc (2 * n)) = omega arith in rw e
pairs_first (a ∷ []) (suc n) = let e : 2 * suc n ≡ suc (suc (2 * n)) = omega arith in rw e
pairs_first (a ∷ b ∷ s) (suc n) =
    let e : 2 * suc n ≡ suc (suc (2 * n)) = omega arith in
    rw e (ap (λ l. (256 * a + b) ∷ l) (pairs_first s n))

-- ---- samples of either size
pub samples-count : (m : ℕ) (s : List ℕ) → length (samples_of m s) ≡ pick (wide m) (length s / 2) (length s)
unfolding samples_of
samples-count m s = go (wide m)
  where
    go : (w : Bool) → length (pick w (pairs_of s) s) ≡ pick w (length s / 2) (length s)
    go true = pairs-count s
    go false = refl

pub sample-at : (m : ℕ) (s : List ℕ) (i : ℕ) → i < length (samples_of m s)
    → get_or (samples_of m s) i 0 ≡ pick (wide m) (256 * get_or s (2 * i) 0 + get_or s (2 * i + 1) 0) (get_or s i 0)
unfolding samples_of
sample-at m s i = go (wide m)
  where
    go : (w : Bool) → i < length (pick w (pairs_of s) s) → get_or (pick w (pairs_of s) s) i 0 ≡ pick w (256 * get_or s (2 * i) 0 + get_or s (2 * i + 1) 0) (get_or s i 0)
    go true h = pair-at s i h
    go false h = refl

pub samples-first : (m : ℕ) (s : List ℕ) (n : ℕ) → samples_of m (take (sample_size m * n) s) ≡ take n (samples_of m s)
unfolding samples_of sample_size
samples-first m s n = go (wide m)
  where
    go : (w : Bool) → pick w (pairs_of (take (pick w 2 1 * n) s)) (take (pick w 2 1 * n) s) ≡ take n (pick w (pairs_of s) s)
    go true = pairs_first s n
    go false = let e : 1 * n ≡ n = omega arith in ap (λ k. take k s) e

-- ---- samples that fit
pub fitting-most : (m : ℕ) (l : List ℕ) → length (fitting m l) ≤ length l
unfolding fitting
fitting-most m [] = omega arith
fitting-most m (v ∷ l) = go (leb v m) (fitting-most m l)
  where
    go : (b : Bool) → length (fitting m l) ≤ length l → length (pick b (v ∷ fitting m l) []) ≤ suc (length l)
    go true e = omega (arith, e)
    go false e = omega arith

pub fitting-first : (m : ℕ) (l : List ℕ) (n : ℕ) → fitting m (take n l) ≡ take n (fitting m l)
unfolding fitting
fitting-first m l zero = refl
fitting-first m [] (suc n) = refl
fitting-first m (v ∷ l) (suc n) = go (leb v m) (fitting-first m l n)
  where
    go : (b : Bool) → fitting m (take n l) ≡ take n (fitting m l) → pick b (v ∷ fitting m (take n l)) [] ≡ take (suc n) (pick b (v ∷ fitting m l) [])
    go true e = ap (λ k. v ∷ k) e
    go false e = refl

-- the first of them are the first samples
pub fitting-prefix : (m : ℕ) (l : List ℕ) (n : ℕ) → n ≤ length (fitting m l) → take n (fitting m l) ≡ take n l
unfolding fitting
fitting-prefix m l zero h = refl
fitting-prefix m [] (suc n) h = refl
fitting-prefix m (v ∷ l) (suc n) h = go (leb v m) (fitting-prefix m l n) h
  where
    go : (b : Bool) → (n ≤ length (fitting m l) → take n (fitting m l) ≡ take n l)
        → suc n ≤ length (pick b (v ∷ fitting m l) []) → take (suc n) (pick b (v ∷ fitting m l) []) ≡ v ∷ take n l
    go true e h = ap (λ k. v ∷ k) (e (omega arith))
    go false e h = absurd (omega arith)

-- one sample more, and the first that does not fit
pub fitting-on : (m : ℕ) (l : List ℕ) (i : ℕ) → i ≤ length (fitting m l) → i < length l → leb (get_or l i 0) m ≡ true → i < length (fitting m l)
unfolding fitting
fitting-on m [] i h g e = absurd (omega arith)
fitting-on m (v ∷ l) zero h g e = rw e (omega arith)
fitting-on m (v ∷ l) (suc i) h g e = go (leb v m) (λ d. fitting-on m l i d (omega arith) e) h
  where
    go : (b : Bool) → (i ≤ length (fitting m l) → i < length (fitting m l))
        → suc i ≤ length (pick b (v ∷ fitting m l) []) → suc i < length (pick b (v ∷ fitting m l) [])
    go true d h = omega (arith, d (omega arith))
    go false d h = absurd (omega arith)

pub fitting-stop : (m : ℕ) (l : List ℕ) (i : ℕ) → i ≤ length (fitting m l) → i < length l → leb (get_or l i 0) m ≡ false → length (fitting m l) ≡ i
unfolding fitting
fitting-stop m [] i h g e = absurd (omega arith)
fitting-stop m (v ∷ l) zero h g e = rw e refl
fitting-stop m (v ∷ l) (suc i) h g e = go (leb v m) (λ d. fitting-stop m l i d (omega arith) e) h
  where
    go : (b : Bool) → (i ≤ length (fitting m l) → length (fitting m l) ≡ i)
        → suc i ≤ length (pick b (v ∷ fitting m l) []) → length (pick b (v ∷ fitting m l) []) ≡ suc i
    go true d h = omega (arith, d (omega arith))
    go false d h = absurd (omega arith)

-- ---- heights
pub heights-first : (m : ℕ) (s : List ℕ) (n : ℕ) → heights_of m (take (sample_size m * n) s) ≡ take n (heights_of m s)
unfolding heights_of
heights-first m s n = ap (fitting m) (samples-first m s n) ∙ fitting-first m (samples_of m s) n

-- the bytes of n of them
pub bytes-room : (m : ℕ) (s : List ℕ) (n : ℕ) → n ≤ length (heights_of m s) → sample_size m * n ≤ length s
unfolding heights_of samples_of sample_size
bytes-room m s n = go (wide m)
  where
    go : (w : Bool) → n ≤ length (fitting m (pick w (pairs_of s) s)) → pick w 2 1 * n ≤ length s
    go true h = omega (arith, fitting-most m (pairs_of s), pairs-count s)
    go false h = omega (arith, fitting-most m s)

pub bytes-more : (m j n : ℕ) → j ≤ n → (sample_size m * j ≤ sample_size m * n) × (j ≤ sample_size m * j)
unfolding sample_size
bytes-more m j n h = go (wide m)
  where
    go : (w : Bool) → (pick w 2 1 * j ≤ pick w 2 1 * n) × (j ≤ pick w 2 1 * j)
    go true = (omega arith, omega arith)
    go false = (omega arith, omega arith)

-- ---- i heights of the bytes t from place f on stand in the run
pub record Run (t d o : List ℕ) (m f n i : ℕ) : Type 0 where
  pub within : i ≤ n
  pub count : n ≡ min (length (samples_of m (drop f t))) (length d)
  pub size : length o ≡ length d
  pub fit : i ≤ length (heights_of m (drop f t))
  pub heights : o ≡ paste d 0 (samples_of m (drop f t)) i

pub start : (t d : List ℕ) (m f n : ℕ) (w : Bool) → w ≡ wide m → n ≡ min (pick w ((length t - f) / 2) (length t - f)) (length d) → Run t d d m f n 0
start t d m f n w e h = record {
  within = omega arith;
  count =
      h ∙ ap (λ k. min k (length d)) (ap (λ w. pick w ((length t - f) / 2) (length t - f)) e
      ∙ sym (samples-count m (drop f t) ∙ ap (λ k. pick (wide m) (k / 2) k) (length-drop f t)));
  size = refl;
  fit = omega arith;
  heights = paste-zero d 0 (samples_of m (drop f t));
}

-- where sample i stands
pub room : {t d o : List ℕ} {m f n i : ℕ} (w : Bool) → Run t d o m f n i → i < n → w ≡ wide m
    → (w ≡ true → f + 2 * i + 2 ≤ length t) × (w ≡ false → f + i < length t)
room {t} {d} {o} {m} {f} {n} {i} w c h e =
    let k : i < pick w (length (drop f t) / 2) (length (drop f t)) = rw (e, ← samples-count m (drop f t)) (omega (arith, c.count)) in
    (λ p. two w p k, λ p. one w p k)
  where
    two : (w : Bool) → w ≡ true → i < pick w (length (drop f t) / 2) (length (drop f t)) → f + 2 * i + 2 ≤ length t
    two true p k = omega (arith, k, length-drop f t)
    two false p k = let z : ◌≡◌ {A = ℕ} 0 1 = cc in absurd (omega arith)

    one : (w : Bool) → w ≡ false → i < pick w (length (drop f t) / 2) (length (drop f t)) → f + i < length t
    one true p k = let z : ◌≡◌ {A = ℕ} 0 1 = cc in absurd (omega arith)
    one false p k = omega (arith, k, length-drop f t)

-- and what it is
value : (t : List ℕ) (m f i : ℕ) (w : Bool) (v : ℕ) → w ≡ wide m → i < length (samples_of m (drop f t))
    → v ≡ pick w (256 * get_or t (f + 2 * i) 0 + get_or t (f + 2 * i + 1) 0) (get_or t (f + i) 0) → v ≡ get_or (samples_of m (drop f t)) i 0
value t m f i w v e h g =
    let low : f + 2 * i + 1 ≡ f + (2 * i + 1) = omega arith in
    g ∙ rw (low, e, ← get_or-drop f t (2 * i) 0, ← get_or-drop f t (2 * i + 1) 0, ← get_or-drop f t i 0) (sym (sample-at m (drop f t) i h))

module _ {t d o : List ℕ} {m f n i : ℕ} (w : Bool) (v : ℕ) (c : Run t d o m f n i) (h : i < n) (e : w ≡ wide m)
    (g : v ≡ pick w (256 * get_or t (f + 2 * i) 0 + get_or t (f + 2 * i + 1) 0) (get_or t (f + i) 0)) where
  abbrev s : List ℕ
  s = samples_of m (drop f t)

  long : i < length s
  long = omega (arith, c.count)

  is : v ≡ get_or s i 0
  is = value t m f i w v e long g

  -- sample i fits
  pub next : leb v m ≡ true → Run t d (set o i v) m f n (i + 1)
  unfolding heights_of
  next b = record {
    within = omega arith;
    count = c.count;
    size = length-set o i v ∙ c.size;
    fit = on;
    heights =
        ap (λ l. set l i v) c.heights
        ∙ ap (λ k. set (paste d 0 s i) k v) (sym (zero-add i))
        ∙ ap (set (paste d 0 s i) (0 + i)) is
        ∙ paste-suc d 0 s i 0 (omega (arith, c.count)) long
        ∙ ap (paste d 0 s) (sym (add-one i));
  }
    where
      on : i + 1 ≤ length (heights_of m (drop f t))
      on = omega (arith, fitting-on m s i c.fit long (ap (λ k. leb k m) (sym is) ∙ b))

  -- it does not
  pub stop : leb v m ≡ false → i ≡ min (length (heights_of m (drop f t))) (length d)
  unfolding heights_of
  stop b = omega (arith, c.count, fitting-stop m s i c.fit long (ap (λ k. leb k m) (sym is) ∙ b))

module _ {t d o : List ℕ} {m f n i : ℕ} (c : Run t d o m f n i) where
  pub stands : o ≡ take i (heights_of m (drop f t)) ++ drop i d
  unfolding heights_of
  stands =
      c.heights ∙ ap (λ k. take i (samples_of m (drop f t)) ++ drop k d) (zero-add i)
      ∙ ap (λ l. l ++ drop i d) (sym (fitting-prefix m (samples_of m (drop f t)) i c.fit))

  pub end : n ≤ i → n ≡ min (length (heights_of m (drop f t))) (length d)
  unfolding heights_of
  end h = omega (arith, c.within, c.count, c.fit, fitting-most m (samples_of m (drop f t)))

  pub finish : n ≤ i → o ≡ take n (heights_of m (drop f t)) ++ drop n d
  finish h = let e : i ≡ n = omega (arith, c.within) in stands ∙ ap (λ k. take k (heights_of m (drop f t)) ++ drop k d) e
