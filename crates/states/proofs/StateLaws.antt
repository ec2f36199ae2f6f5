-- The laws of the tests of a state array. Assumes nothing.
use mathlib.Core.Path.{◌≡◌, refl, ◌∙◌}
use mathlib.Core.Bool.{Bool, true, false}
use mathlib.Core.List.{List}
use Prim.Native.Nat.{ℕ, suc, ◌+◌, ◌-◌, ◌<◌, ◌≤◌}
use native.Mathlib.Omega.{arith}
use lib.Dec.{eqb}
use lib.ListN.{get_or}
use borrow.Author.Tests.{eq-eqb, ne_eqb, le-leb, lt-leb}
use Rattle.numbers.specs.Signal.{pick, both}
use Rattle.states.specs.States.{zero_next, zero_to, zero_from, is_state}
use Rattle.states.specs.SaverState.{is_saver}
use Rattle.states.specs.LoaderState.{is_loader}

-- of n numbers
module _ (n : ℕ) (s : List ℕ) (i : ℕ) where
  next : i < n → zero_to n i s ≡ both (eqb (get_or s i 0) 0) (zero_to n (i + 1) s)
  unfolding zero_to zero_next
  next h = let e : n - i ≡ suc (n - (i + 1)) = omega arith in rw e refl

  none : n ≤ i → zero_to n i s ≡ true
  unfolding zero_to zero_next
  none h = let e : n - i ≡ 0 = omega arith in rw e refl

  -- a 0 leaves the answer to the places after it; another number is a no. z is what was found before, y with place i
  pub zero_same : (z y : Bool) → i < n → get_or s i 0 ≡ 0 → y ≡ z → both z (zero_to n i s) ≡ both y (zero_to n (i + 1) s)
  zero_same z y h e g = let k : zero_to n i s ≡ zero_to n (i + 1) s = next h ∙ simp (eq-eqb (get_or s i 0) 0 e) in rw (k, g)

  pub zero-lost : (z y : Bool) → i < n → (get_or s i 0 ≡ 0 → ⊥) → y ≡ false → both z (zero_to n i s) ≡ both y (zero_to n (i + 1) s)
  zero-lost z y h e g = let k : zero_to n i s ≡ false = next h ∙ simp (ne_eqb (get_or s i 0) 0 e) in rw (k, g) (no z)
    where
      no : (z : Bool) → both z false ≡ false
      no true = refl
      no false = refl

  pub zero-end : (z : Bool) → n ≤ i → both z (zero_to n i s) ≡ z
  zero-end z h = rw (none h) (same z)
    where
      same : (z : Bool) → both z true ≡ z
      same true = refl
      same false = refl

-- the tests of a state one after the other
module _ (kind f k : ℕ) (s : List ℕ) where
  pub no_kind : (get_or s 0 0 ≡ kind → ⊥) → is_state kind f k s ≡ false
  unfolding is_state
  no_kind h = simp (ne_eqb (get_or s 0 0) kind h)

  pub no_flag : get_or s 0 0 ≡ kind → 1 < get_or s f 0 → is_state kind f k s ≡ false
  unfolding is_state
  no_flag h g = simp (eq-eqb (get_or s 0 0) kind h, lt-leb (get_or s f 0) 1 g)

  pub rest-left : get_or s 0 0 ≡ kind → get_or s f 0 ≤ 1 → is_state kind f k s ≡ zero_from k s
  unfolding is_state
  rest-left h g = simp (eq-eqb (get_or s 0 0) kind h, le-leb (get_or s f 0) 1 g)

-- ---- a saver's
module _ (s : List ℕ) where
  pub saver-kind : (get_or s 0 0 ≡ 4 → ⊥) → false ≡ is_saver s
  unfolding is_saver
  saver-kind h = rw (ne_eqb (get_or s 0 0) 4 h) refl

  module _ (kind : get_or s 0 0 ≡ 4) where
    pub saver-across : 65535 < get_or s 4 0 → false ≡ is_saver s
    unfolding is_saver
    saver-across h = rw (eq-eqb (get_or s 0 0) 4 kind, lt-leb (get_or s 4 0) 65535 h) refl

    module _ (x : get_or s 4 0 ≤ 65535) where
      pub saver-down : 65535 < get_or s 5 0 → false ≡ is_saver s
      unfolding is_saver
      saver-down h = rw (eq-eqb (get_or s 0 0) 4 kind, le-leb (get_or s 4 0) 65535 x, lt-leb (get_or s 5 0) 65535 h) refl

      module _ (y : get_or s 5 0 ≤ 65535) where
        pub saver-filter : 4294967295 < get_or s 6 0 → false ≡ is_saver s
        unfolding is_saver
        saver-filter h =
            rw
            (eq-eqb (get_or s 0 0) 4 kind, le-leb (get_or s 4 0) 65535 x, le-leb (get_or s 5 0) 65535 y, lt-leb (get_or s 6 0) 4294967295 h)
            refl

        pub saver-rest : get_or s 6 0 ≤ 4294967295 → zero_to 32 16 s ≡ is_saver s
        unfolding is_saver
        saver-rest h =
            rw
            (eq-eqb (get_or s 0 0) 4 kind, le-leb (get_or s 4 0) 65535 x, le-leb (get_or s 5 0) 65535 y, le-leb (get_or s 6 0) 4294967295 h)
            refl

-- ---- a loader's
module _ (s : List ℕ) where
  pub loader-kind : (get_or s 0 0 ≡ 5 → ⊥) → false ≡ is_loader s
  unfolding is_loader
  loader-kind h = rw (ne_eqb (get_or s 0 0) 5 h) refl

  module _ (kind : get_or s 0 0 ≡ 5) where
    pub loader-flag : 1 < get_or s 7 0 → false ≡ is_loader s
    unfolding is_loader
    loader-flag h = rw (eq-eqb (get_or s 0 0) 5 kind, lt-leb (get_or s 7 0) 1 h) refl

    pub loader-rest : get_or s 7 0 ≤ 1 → zero_to 32 27 s ≡ is_loader s
    unfolding is_loader
    loader-rest h = rw (eq-eqb (get_or s 0 0) 5 kind, le-leb (get_or s 7 0) 1 h) refl

-- what is left where a saving call answers a number, and where it does not
pub saved-no : {A : Type 0} (q : ℕ) (a b : A) → (q ≡ 0 → ⊥) → b ≡ pick (eqb q 0) a b
saved-no q a b e = rw (ne_eqb q 0 e) refl

pub saved-yes : {A : Type 0} (q : ℕ) (a b : A) → q ≡ 0 → a ≡ pick (eqb q 0) a b
saved-yes q a b e = rw (eq-eqb q 0 e) refl
