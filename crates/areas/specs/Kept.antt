-- 32-bit numbers and heights are elements of lines.
use Rattle.std.specs.Prelude.{◌≡◌, refl, ℕ, zero, suc, ℤ, pos, List, [], ◌∷◌, set}
use mathlib.Core.Path.{ap, fun_ext}
use Rattle.std.proofs.lemmas.List.{get_or_default}
use lib.ListN.{length-map, get_or-map}
use Rattle.numbers.specs.Signal.{at}
use Rattle.areas.specs.Areas.{heights_at, height16, wholes}
use Rattle.areas.specs.Elements.{Elements}

pub wholes-at : (l : List ℕ) → at (wholes l) ≡ heights_at l
wholes-at l = fun_ext λ i. get_or-map pos l i 0

pub wholes-set : (l : List ℕ) (k v : ℕ) → wholes (set l k v) ≡ set (wholes l) k (pos v)
wholes-set [] k v = refl
wholes-set (x ∷ xs) zero v = refl
wholes-set (x ∷ xs) (suc k) v = ap (λ (r : List ℤ). pos x ∷ r) (wholes-set xs k v)

height-none : height16 (pos 0) ≡ pos 0
unfolding height16
height-none = refl

pub numbers_are : Elements {A = ℤ} (λ l. l) (λ z. z) at (λ z. z)
numbers_are = record {
  size = λ l. refl;
  put = λ l k v. refl;
  place = λ l i d h. get_or_default l i d (pos 0) h;
  signal = λ l. refl;
  none = refl;
}

pub heights_are : Elements {A = ℕ} wholes pos heights_at height16
heights_are = record {
  size = λ l. length-map l pos;
  put = wholes-set;
  place = λ l i d h. ap pos (get_or_default l i d 0 h);
  signal = wholes-at;
  none = height-none;
}
