-- Every value of a profile is a number: no NaN and no infinity, so that equal floats are equal bits. Heights are below 2^16; a pass makes
-- values at most 2^6 times as large, since each of its three roundings at most doubles. The bounds are crude: nothing needs them sharp.
-- Assumes nothing.
use mathlib.Core.Path.{◌≡◌, sym, ap, ◌∙◌, subst}
use mathlib.Core.List.{List}
use mathlib.Core.Bool.{Bool, true, false, ◌&&◌, beq, cond}
use Prim.Native.Nat.{ℕ, ◌+◌, ◌-◌, ◌*◌, ◌/◌, ◌%◌, ◌^◌, ◌≤◌, ◌<◌, compare}
use native.Mathlib.Nat.{le_trans, le_of_eq, lt_of_le_of_lt, mul_comm, mul_assoc, mul_right_comm, mul-mul-mul_comm}
use native.Mathlib.Nat.{mul-le-mul, mul-le-mul_right, le_of_mul-le-mul_right, div-div-eq-div-mul, div-le_of_le-mul, mul-pos}
use native.Mathlib.Omega.{arith}
use lib.Dec.{T, ltb, eqb}
use lib.IntN.{pos}
use lib.ListN.{get_or}
use lib.Pow.{pow-add, pow-lt, pow_mono, pow_pos}
use lib.Ieee.{Float, nan, inf, fin, binary32, up, down, size, nearest, units, round, sum, add, mul, of_int, of_bits}
use lib.Ieee.Digits.{size-le}
use lib.Ieee.Fits.{kept-lt, nearest-le, round_is, down_pos}
use lib.Ieee.Exact.{HasValue, units_val}
use lib.Ieee.Scale.{finite}
use Rattle.wavelet.specs.Limits.{max_sample}
use Rattle.wavelet.proofs.LimitLaws.{sample-small}
use Rattle.numbers.specs.Signal.{pick}
use Rattle.profile.specs.Profile.{alpha, beta, gamma, delta, lifted, before, after, pass, four_passes, profile}
use Rattle.profile.specs.Calls.{heights}

-- x is a number, at most 2^j in magnitude
unfoldable pub Below : ℕ → Float → Type 0
Below j nan = ⊥
Below j (inf s) = ⊥
Below j (fin s m e) = m * up e ≤ 2 ^ j * down e

wider : (i j : ℕ) (x : Float) → i ≤ j → Below i x → Below j x
unfolding Below
wider i j nan h b = b
wider i j (inf s) h b = b
wider i j (fin s m e) h b = le_trans b (mul-le-mul_right (down e) (pow_mono h))

-- a value in units of the smallest float, 2^-149
of-value : (j : ℕ) (x : Float) (s : Bool) (a : ℕ) → a ≤ 2 ^ (j + 149) → HasValue x s a (2 ^ 149) → Below j x
unfolding Below
of-value j nan s a h v = v
of-value j (inf t) s a h v = v
of-value j (fin t m e) s a h v =
    le_of_mul-le-mul_right {k = 2 ^ 149}
    (le_trans (le_of_eq v.1)
    (le_trans (mul-le-mul_right (down e) h)
    (le_of_eq (ap (λ (z : ℕ). z * down e) (pow-add 2 j 149) ∙ mul_right_comm (2 ^ j) (2 ^ 149) (down e)))))
    (pow_pos 149)

round-below : (j : ℕ) (s : Bool) (a b : ℕ) → j < 127 → 0 < b → a ≤ 2 ^ j * b → Below (j + 1) (round binary32 s a b)
round-below j s a b g B h =
    let n = a * 2 ^ 149 in
    let w = n / b in
    let k = size w - 24 in
    let u = b * 2 ^ k in
    let q = nearest (n / u) (compare (n % u * 2) u) in
    let n-le : n ≤ b * 2 ^ (j + 149) =
    le_trans (mul-le-mul_right (2 ^ 149) h)
    (le_of_eq (mul_right_comm (2 ^ j) b (2 ^ 149) ∙ ap (λ (z : ℕ). z * b) (sym (pow-add 2 j 149)) ∙ mul_comm (2 ^ (j + 149)) b)) in
    let w_le : w ≤ 2 ^ (j + 149) = div-le_of_le-mul b n-le in
    let size_is : size w ≤ j + 150 = size-le w (j + 150) (lt_of_le_of_lt w_le (pow-lt (omega arith))) in
    let q-le : q ≤ 2 ^ 24 =
    le_trans (nearest-le (n / u) (compare (n % u * 2) u)) (subst (λ (z : ℕ). z < 2 ^ 24) (div-div-eq-div-mul n b (2 ^ k)) (kept-lt 24 w)) in
    let all : q * 2 ^ k ≤ 2 ^ (j + 1 + 149) = le_trans (mul-le-mul_right (2 ^ k) q-le) (le_trans (le_of_eq (sym (pow-add 2 24 k))) (pow_mono (omega arith))) in
    subst (Below (j + 1)) (sym (round_is binary32 s a b))
    (of-value (j + 1) (units binary32 s q k) s (q * 2 ^ k) all
    (units_val binary32 s q k (lt_of_le_of_lt all (pow-lt {i = j + 1 + 149} {j = 277} (omega arith)))))

-- ---- the operations
twice : (j c : ℕ) → 2 ^ (j + 1) * c ≡ 2 ^ j * c + 2 ^ j * c
twice j c = let e : 2 ^ j * 2 * c ≡ 2 ^ j * c * 2 = mul_right_comm (2 ^ j) 2 c in ap (λ (z : ℕ). z * c) (pow-add 2 j 1) ∙ e ∙ omega arith

module _ (j : ℕ) (s t : Bool) (a b c : ℕ) (g : j < 126) (C : 0 < c) (h : a ≤ 2 ^ j * c) (k : b ≤ 2 ^ j * c) where
  sum_below : Below (j + 2) (sum binary32 s a t b c)
  unfolding sum
  sum_below = go (beq s t) (ltb a b) (s && ltb b a)
    where
      go : (u v w : Bool) → Below (j + 2) (cond u (round binary32 s (a + b) c) (cond v (round binary32 t (b - a) c) (round binary32 w (a - b) c)))
      go true v w = wider (j + 1 + 1) (j + 2) _ (omega arith) (round-below (j + 1) s (a + b) c (omega arith) C (let e = twice j c in omega (arith, e)))
      go false true w = wider (j + 1) (j + 2) _ (omega arith) (round-below j t (b - a) c (omega arith) C (omega arith))
      go false false w = wider (j + 1) (j + 2) _ (omega arith) (round-below j w (a - b) c (omega arith) C (omega arith))

-- m / e ≤ 2^j, with the other's denominator d
across : (j m e d : ℕ) → m ≤ 2 ^ j * e → m * d ≤ 2 ^ j * (e * d)
across j m e d h = le_trans (mul-le-mul_right d h) (le_of_eq (mul_assoc (2 ^ j) e d))

add-below : (j : ℕ) (x y : Float) → j < 126 → Below j x → Below j y → Below (j + 2) (add binary32 x y)
unfolding add Below
add-below j nan y g h k = absurd h
add-below j (inf s) y g h k = absurd h
add-below j (fin s m e) nan g h k = absurd k
add-below j (fin s m e) (inf t) g h k = absurd k
add-below j (fin s m e) (fin t n d) g h k =
    sum_below j s t _ _ _ g (mul-pos (down_pos e) (down_pos d)) (across j (m * up e) (down e) (down d) h)
    (subst (λ (z : ℕ). n * up d * down e ≤ 2 ^ j * z) (mul_comm (down d) (down e)) (across j (n * up d) (down d) (down e) k))

mul-below : (i j : ℕ) (x y : Float) → i + j < 127 → Below i x → Below j y → Below (i + j + 1) (mul binary32 x y)
unfolding mul Below
mul-below i j nan y g h k = absurd h
mul-below i j (inf s) y g h k = absurd h
mul-below i j (fin s m e) nan g h k = absurd k
mul-below i j (fin s m e) (inf t) g h k = absurd k
mul-below i j (fin s m e) (fin t n d) g h k =
    round-below (i + j) _ _ _ g (mul-pos (down_pos e) (down_pos d))
    (le_trans (mul-le-mul h k) (le_of_eq (mul-mul-mul_comm (2 ^ i) (down e) (2 ^ j) (down d) ∙ ap (λ (z : ℕ). z * (down e * down d)) (sym (pow-add 2 i j)))))

lifted-below : (j : ℕ) (c l x r : Float) → j < 100 → Below 1 c → Below j l → Below j x → Below j r → Below (j + 6) (lifted c l x r)
unfolding lifted
lifted-below j c l x r g C L X R =
    wider (j + 4 + 2) (j + 6) _ (omega arith)
    (add-below (j + 4) x _ (omega arith) (wider j (j + 4) x (omega arith) X)
    (wider (1 + (j + 2) + 1) (j + 4) _ (omega arith) (mul-below 1 (j + 2) c _ (omega arith) C (add-below j l r (omega arith) L R))))

-- ---- the passes
pass_below : (q : ℕ) (c : Float) (n : ℕ) (x : ℕ → Float) (j : ℕ) → j < 100 → Below 1 c → ((i : ℕ) → Below j (x i)) → (i : ℕ) → Below (j + 6) (pass q c n x i)
unfolding pass
pass_below q c n x j g C h i = go (eqb (i % 2) q)
  where
    go : (t : Bool) → Below (j + 6) (pick t (lifted c (x (before i)) (x i) (x (after n i))) (x i))
    go true = lifted-below j c _ _ _ g C (h (before i)) (h i) (h (after n i))
    go false = wider j (j + 6) _ (omega arith) (h i)

alpha-below : Below 1 alpha
unfolding alpha of_bits Below
alpha-below = omega arith

beta-below : Below 1 beta
unfolding beta of_bits Below
beta-below = omega arith

gamma-below : Below 1 gamma
unfolding gamma of_bits Below
gamma-below = omega arith

delta-below : Below 1 delta
unfolding delta of_bits Below
delta-below = omega arith

height-below : (h : ℕ) → h ≤ max_sample → Below 17 (of_int binary32 (pos h))
unfolding of_int
height-below h g = round-below 16 false h 1 (omega arith) (omega arith) (omega (arith, sample-small))

module _ (n : ℕ) (l : List ℕ) (g : (i : ℕ) → get_or l i 0 ≤ max_sample) where
  row_below : (i : ℕ) → Below 17 (heights l i)
  unfolding heights
  row_below i = height-below (get_or l i 0) (g i)

  four_below : (i : ℕ) → Below 41 (four_passes n (heights l) i)
  unfolding four_passes
  four_below =
      pass_below 0 delta n _ 35 (omega arith) delta-below
      (pass_below 1 gamma n _ 29 (omega arith) gamma-below
      (pass_below 0 beta n _ 23 (omega arith) beta-below
      (pass_below 1 alpha n _ 17 (omega arith) alpha-below row_below)))

  profile-below : (i : ℕ) → Below 41 (profile n (heights l) i)
  unfolding profile
  profile-below i = go (eqb n 1)
    where
      go : (t : Bool) → Below 41 (pick t (heights l) (four_passes n (heights l)) i)
      go true = wider 17 41 _ (omega arith) (row_below i)
      go false = four_below i

  -- for every row of 16-bit heights
  pub profile-finite : (i : ℕ) → T (finite (profile n (heights l) i))
  unfolding Below
  profile-finite i = number (profile n (heights l) i) (profile-below i)
    where
      number : (x : Float) → Below 41 x → T (finite x)
      number nan h = h
      number (inf s) h = h
      number (fin s m e) h = tt
