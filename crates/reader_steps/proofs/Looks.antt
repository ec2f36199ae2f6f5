-- The bands that a set still asks for: none, or a first one and those after it. Assumes nothing.
use mathlib.Core.Bool.{Bool, true, false}
use mathlib.Core.Path.{◌≡◌, refl, sym, subst, ◌∙◌}
use mathlib.Core.List.{List, [], ◌∷◌}
use Prim.Native.Nat.{ℕ, zero, suc, ◌+◌, ◌≤◌, ◌<◌}
use native.Mathlib.Omega.{arith}
use lib.Dec.{T}
use Rattle.numbers.specs.Signal.{pick}
use Rattle.wavelet.specs.Bands.{Band, LL, HL, LH, HH, code}
use Rattle.reader_steps.specs.Asked.{bands_from, those, first_code, named}

pub named-code : (b : Band) → named (code b) ≡ b
unfolding named code
named-code LL = refl
named-code HL = refl
named-code LH = refl
named-code HH = refl

pub code_lt : (b : Band) → code b < 4
unfolding code
code_lt LL = omega arith
code_lt HL = omega arith
code_lt LH = omega arith
code_lt HH = omega arith

pub not-both : {A : Type 0} (t : Bool) → t ≡ true → t ≡ false → A
not-both t e f = absurd (subst T (sym e ∙ f) tt)

module _ (p : Band → Bool) where
  -- none, or a first one and those after it
  pub data Look : List Band → Type 0 where
    nothing : Look []
    first : (b : Band) → p b ≡ true → Look (b ∷ those p (bands_from (code b + 1)))

  look-step : (b : Band) (bs : List Band) → bands_from (code b + 1) ≡ bs → Look (those p bs) → Look (those p (b ∷ bs))
  unfolding those
  look-step b bs e f = go (p b) refl
    where
      go : (t : Bool) → p b ≡ t → Look (pick t (b ∷ those p bs) (those p bs))
      go true q = subst (λ r. Look (b ∷ those p r)) e (first b q)
      go false q = f

  look-three : Look (those p (bands_from 3))
  unfolding bands_from code
  look-three = look-step HH [] refl (unfold those in nothing)

  look-two : Look (those p (bands_from 2))
  unfolding bands_from code
  look-two = look-step LH (HH ∷ []) refl look-three

  look_one : Look (those p (bands_from 1))
  unfolding bands_from code
  look_one = look-step HL (LH ∷ HH ∷ []) refl look-two

  pub look_is : (b : ℕ) → Look (those p (bands_from b))
  unfolding bands_from code
  look_is zero = look-step LL (HL ∷ LH ∷ HH ∷ []) refl look_one
  look_is (suc zero) = look_one
  look_is (suc (suc zero)) = look-two
  look_is (suc (suc (suc zero))) = look-three
  look_is (suc (suc (suc (suc b)))) = unfold those in nothing

  -- of two bands, the second asked for and the first not
  after : (b c : Band) → p c ≡ true → p b ≡ false → code b ≤ code c → code b < code c
  unfolding code
  after LL LL x y z = not-both (p LL) x y
  after LL HL x y z = omega arith
  after LL LH x y z = omega arith
  after LL HH x y z = omega arith
  after HL LL x y z = absurd (omega arith)
  after HL HL x y z = not-both (p HL) x y
  after HL LH x y z = omega arith
  after HL HH x y z = omega arith
  after LH LL x y z = absurd (omega arith)
  after LH HL x y z = absurd (omega arith)
  after LH LH x y z = not-both (p LH) x y
  after LH HH x y z = omega arith
  after HH LL x y z = absurd (omega arith)
  after HH HL x y z = absurd (omega arith)
  after HH LH x y z = absurd (omega arith)
  after HH HH x y z = not-both (p HH) x y

  -- the first is the first: a band from b on that is asked for is not before it
  first_step : (b c : Band) (bs : List Band) → p c ≡ true → code b ≤ code c → (code b < code c → first_code (those p bs) ≤ code c) →
      first_code (those p (b ∷ bs)) ≤ code c
  unfolding those first_code
  first_step b c bs e h f = go (p b) refl
    where
      go : (t : Bool) → p b ≡ t → first_code (pick t (b ∷ those p bs) (those p bs)) ≤ code c
      go true q = h
      go false q = f (after b c e q h)

  first_three : (c : Band) → p c ≡ true → 3 ≤ code c → first_code (those p (bands_from 3)) ≤ code c
  unfolding bands_from
  first_three c e h = first_step HH c [] e (unfold code in omega arith) (λ q. absurd (unfold code in omega (arith, code_lt c)))

  first_two : (c : Band) → p c ≡ true → 2 ≤ code c → first_code (those p (bands_from 2)) ≤ code c
  unfolding bands_from
  first_two c e h = first_step LH c (HH ∷ []) e (unfold code in omega arith) (λ q. first_three c e (unfold code in omega arith))

  first_one : (c : Band) → p c ≡ true → 1 ≤ code c → first_code (those p (bands_from 1)) ≤ code c
  unfolding bands_from
  first_one c e h = first_step HL c (LH ∷ HH ∷ []) e (unfold code in omega arith) (λ q. first_two c e (unfold code in omega arith))

  pub first-le : (b : ℕ) (c : Band) → p c ≡ true → b ≤ code c → first_code (those p (bands_from b)) ≤ code c
  unfolding bands_from
  first-le zero c e h = first_step LL c (HL ∷ LH ∷ HH ∷ []) e (unfold code in omega arith) (λ q. first_one c e (unfold code in omega arith))
  first-le (suc zero) c e h = first_one c e h
  first-le (suc (suc zero)) c e h = first_two c e h
  first-le (suc (suc (suc zero))) c e h = first_three c e h
  first-le (suc (suc (suc (suc b)))) c e h = absurd (omega (arith, code_lt c))
