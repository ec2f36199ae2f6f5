-- Numbers as digits and as bytes: digits below the base are told by their number, and a number with room in k bytes by these. Assumes nothing.
use mathlib.Core.Path.{◌≡◌, refl, ap, ap₂, ◌∙◌}
use mathlib.Core.List.{List, [], ◌∷◌, ◌++◌}
use Prim.Native.Nat.{ℕ, zero, suc, ◌+◌, ◌*◌, ◌/◌, ◌%◌, ◌^◌, ◌≤◌, ◌<◌}
use native.Mathlib.Nat.{mul-add, mul-le-mul_left, mul-one, mul-zero, mul-suc, mul_comm}
use native.Mathlib.Omega.{arith}
use native.Mathlib.Decide.{dec_lt}
use lib.ListN.{length, get_or}
use lib.Pow.{pow-add}
use Rattle.ground_file.specs.Groups.{digits, bytes_of}

-- ---- lists
pub head-is : {A : Type 0} {x y : A} {l m : List A} → x ∷ l ≡ y ∷ m → x ≡ y
head-is {x = x} e = ap (first x) e
  where
    first : {A : Type 0} → A → List A → A
    first d [] = d
    first d (z ∷ t) = z

pub tail-is : {A : Type 0} {x y : A} {l m : List A} → x ∷ l ≡ y ∷ m → l ≡ m
tail-is e = ap rest e
  where
    rest : {A : Type 0} → List A → List A
    rest [] = []
    rest (z ∷ t) = t

-- two texts of one length, each followed by another: both are the same
pub append-is : (l m : List ℕ) {t u : List ℕ} → length l ≡ length m → l ++ t ≡ m ++ u → (l ≡ m) × (t ≡ u)
append-is [] [] n e = (refl, e)
append-is [] (y ∷ m) n e = absurd (omega arith)
append-is (x ∷ l) [] n e = absurd (omega arith)
append-is (x ∷ l) (y ∷ m) n e = let r = append-is l m (omega arith) (tail-is e) in (ap₂ ◌∷◌ (head-is e) r.0, r.1)

-- ---- bytes
pub bytes-length : (k n : ℕ) → length (bytes_of k n) ≡ k
unfolding bytes_of
bytes-length zero n = refl
bytes-length (suc k) n = ap suc (bytes-length k (n / 256))

-- one byte more
byte_more : (k : ℕ) → 2 ^ (8 * suc k) ≡ 2 ^ (8 * k) * 256
byte_more k = ap (λ e. 2 ^ e) (mul-suc 8 k) ∙ pow-add 2 (8 * k) 8

pub bytes-told : (k m n : ℕ) → m < 2 ^ (8 * k) → n < 2 ^ (8 * k) → bytes_of k m ≡ bytes_of k n → m ≡ n
unfolding bytes_of
bytes-told zero m n p q e = omega arith
bytes-told (suc k) m n p q e =
    let first : m % 256 ≡ n % 256 = head-is e in
    let rest : m / 256 ≡ n / 256 =
    bytes-told k (m / 256) (n / 256) (omega (arith, byte_more k)) (omega (arith, byte_more k)) (tail-is e) in
    omega arith

-- ---- digits
-- a digit and what stands above it
pub digit-told : (b x y u v : ℕ) → x < b → y < b → x + b * u ≡ y + b * v → (x ≡ y) × (u ≡ v)
digit-told b x y u v p q e =
    elim (dec_lt u v) [
      | yes h ↦ absurd (omega (arith, above u v h))
      | no h ↦ elim (dec_lt v u) [
        | yes g ↦ absurd (omega (arith, above v u g))
        | no g ↦ let same : u ≡ v = omega arith in (omega (arith, ap (λ i. b * i) same), same)
      ]
    ]
  where
    above : (i j : ℕ) → i < j → b * i + b ≤ b * j
    above i j h = let l : b * (i + 1) ≤ b * j = mul-le-mul_left b (omega arith) in omega (arith, mul-add b i 1, mul-one b)

pub data Below (b : ℕ) : List ℕ → Type 0 where
  none : Below b []
  more : {x : ℕ} {l : List ℕ} → x < b → Below b l → Below b (x ∷ l)

pub below_at : (b : ℕ) (l : List ℕ) (i : ℕ) → Below b l → i < length l → get_or l i 0 < b
below_at b [] i p h = absurd (omega arith)
below_at b (x ∷ l) zero (more q p) h = q
below_at b (x ∷ l) (suc i) (more q p) h = below_at b l i p (omega arith)

pub digits-told : (b : ℕ) (l m : List ℕ) → length l ≡ length m → Below b l → Below b m → digits b l ≡ digits b m → l ≡ m
unfolding digits
digits-told b [] [] n p q e = refl
digits-told b [] (y ∷ m) n p q e = absurd (omega arith)
digits-told b (x ∷ l) [] n p q e = absurd (omega arith)
digits-told b (x ∷ l) (y ∷ m) n (more p ps) (more q qs) e =
    let r = digit-told b x y (digits b l) (digits b m) p q e in
    ap₂ ◌∷◌ r.0 (digits-told b l m (omega arith) ps qs r.1)

-- digits of w bits each are below two to the bits of all of them
pub digits-below : (w : ℕ) (l : List ℕ) → Below (2 ^ w) l → digits (2 ^ w) l < 2 ^ (w * length l)
unfolding digits
digits-below w [] none = rw (mul-zero w) (omega arith)
digits-below w (x ∷ l) (more p ps) =
    let below : digits (2 ^ w) l + 1 ≤ 2 ^ (w * length l) = omega (arith, digits-below w l ps) in
    let times : 2 ^ w * (digits (2 ^ w) l + 1) ≤ 2 ^ w * 2 ^ (w * length l) = mul-le-mul_left (2 ^ w) below in
    let parts : 2 ^ w * (digits (2 ^ w) l + 1) ≡ 2 ^ w * digits (2 ^ w) l + 2 ^ w =
    mul-add (2 ^ w) (digits (2 ^ w) l) 1 ∙ ap (λ k. 2 ^ w * digits (2 ^ w) l + k) (mul-one (2 ^ w)) in
    let power : 2 ^ (w * length (x ∷ l)) ≡ 2 ^ (w * length l) * 2 ^ w = ap (λ e. 2 ^ e) (mul-suc w (length l)) ∙ pow-add 2 (w * length l) w in
    let swapped : 2 ^ (w * length l) * 2 ^ w ≡ 2 ^ w * 2 ^ (w * length l) = mul_comm (2 ^ (w * length l)) (2 ^ w) in
    omega (arith, times, parts, power, swapped)
