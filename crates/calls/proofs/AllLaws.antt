-- What holds of every element of a list: lists put together and cut, and by the elements themselves (`In`). Assumes nothing.
use mathlib.Core.List.{List, [], ◌∷◌, ◌++◌}
use Prim.Native.Nat.{ℕ, zero, suc}
use lib.ListN.{take, get_or}
use Rattle.calls.specs.Lists.{All, all_none, all_more}

-- x stands in a list
pub data In {A : Type 0} (x : A) : List A → Type 0 where
  first : {xs : List A} → In x (x ∷ xs)
  later : {y : A} {xs : List A} → In x xs → In x (y ∷ xs)

module _ {A : Type 0} where
  pub in_left : (x : A) (s t : List A) → In x s → In x (s ++ t)
  in_left x [] t i = elim i [ ]
  in_left x (y ∷ s) t first = first
  in_left x (y ∷ s) t (later i) = later (in_left x s t i)

  pub in_right : (x : A) (s t : List A) → In x t → In x (s ++ t)
  in_right x [] t i = i
  in_right x (y ∷ s) t i = later (in_right x s t i)

module _ {A : Type 0} {P : A → Type 0} where
  pub all_append : {s t : List A} → All P s → All P t → All P (s ++ t)
  all_append all_none q = q
  all_append (all_more p ps) q = all_more p (all_append ps q)

  pub all_left : (s t : List A) → All P (s ++ t) → All P s
  all_left [] t a = all_none
  all_left (x ∷ s) t (all_more p a) = all_more p (all_left s t a)

  pub all-last : (s : List A) (x : A) → All P (s ++ (x ∷ [])) → P x
  all-last [] x (all_more p a) = p
  all-last (y ∷ s) x (all_more p a) = all-last s x a

  pub all_take : (n : ℕ) {s : List A} → All P s → All P (take n s)
  all_take zero a = all_none
  all_take (suc n) all_none = all_none
  all_take (suc n) (all_more p ps) = all_more p (all_take n ps)

  pub all_map : {Q : A → Type 0} {s : List A} → ((x : A) → P x → Q x) → All P s → All Q s
  all_map f all_none = all_none
  all_map f (all_more p ps) = all_more (f _ p) (all_map f ps)

  pub all-at : (d : A) → P d → {s : List A} → All P s → (j : ℕ) → P (get_or s j d)
  all-at d p all_none j = p
  all-at d p (all_more q a) zero = q
  all-at d p (all_more q a) (suc j) = all-at d p a j

  pub all_in : (xs : List A) → ((x : A) → In x xs → P x) → All P xs
  all_in [] f = all_none
  all_in (x ∷ xs) f = all_more (f x first) (all_in xs (λ y i. f y (later i)))

  pub in_all : (x : A) (xs : List A) → In x xs → All P xs → P x
  in_all x [] i _ = elim i [ ]
  in_all x (y ∷ xs) first (all_more p a) = p
  in_all x (y ∷ xs) (later i) (all_more p a) = in_all x xs i a
