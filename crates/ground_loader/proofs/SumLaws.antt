-- The checksum, byte by byte: the sum with one byte more (`sum_more`), and the four bytes that end a file (`sum-bytes`). Assumes nothing.
use mathlib.Core.Path.{◌≡◌, refl, sym, ap, ◌∙◌}
use mathlib.Core.List.{List, [], ◌∷◌, ◌++◌}
use Prim.Native.Nat.{ℕ, zero, suc, ◌+◌, ◌*◌, ◌/◌, ◌%◌, ◌^◌, ◌<◌}
use native.Mathlib.Nat.{mul-suc, div-one, add-mul-mod_self_left}
use native.Mathlib.Omega.{arith}
use lib.ListN.{get_or}
use lib.Pow.{shr-shr}
use Rattle.ground_file.specs.Groups.{bytes_of}
use Rattle.ground_file.specs.File.{as_number, prime}

pub prime-small : prime < 2 ^ 32
unfolding prime
prime-small = omega arith

pub prime-some : 0 < prime
unfolding prime
prime-some = omega arith

number-on : (m : ℕ) (l : List ℕ) (b : ℕ) → as_number m (l ++ (b ∷ [])) ≡ 256 * as_number m l + b
unfolding as_number
number-on m [] b = refl
number-on m (x ∷ l) b = number-on (256 * m + x) l b

pub sum_more : (l : List ℕ) (b : ℕ) → (256 * (as_number 0 l % prime) + b) % prime ≡ as_number 0 (l ++ (b ∷ [])) % prime
unfolding prime
sum_more l b = same (as_number 0 l) ∙ ap (λ v. v % prime) (sym (number-on 0 l b))
  where
    same : (m : ℕ) → (256 * (m % 4293501227) + b) % 4293501227 ≡ (256 * m + b) % 4293501227
    same m =
        let low = 256 * (m % 4293501227) + b in
        let all : 256 * m + b ≡ low + 4293501227 * (256 * (m / 4293501227)) = omega arith in
        sym (ap (λ v. v % 4293501227) all ∙ add-mul-mod_self_left low 4293501227 (256 * (m / 4293501227)))

-- byte k of a number
pub sum-bytes : (k i n : ℕ) → i < k → get_or (bytes_of k n) i 0 ≡ n / 2 ^ (8 * i) % 256
unfolding bytes_of
sum-bytes zero i n h = absurd (omega arith)
sum-bytes (suc k) zero n h = sym (ap (λ v. v % 256) (div-one n))
sum-bytes (suc k) (suc i) n h =
    let shift : 8 + 8 * i ≡ 8 * suc i = omega (arith, mul-suc 8 i) in
    sum-bytes k i (n / 256) (omega arith) ∙ ap (λ v. v % 256) (shr-shr n 8 (8 * i) ∙ ap (λ e. n / 2 ^ e) shift)
