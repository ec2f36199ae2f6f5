-- There always is a nearest change, with a difference of at most 4, and there is one only; 4 is attained. Over the definitions alone. Assumes nothing.
use mathlib.Core.Path.{◌≡◌, refl, sym, ap, ◌∙◌, subst}
use mathlib.Core.Logic.{◌⊎◌, ⊎_elim}
use mathlib.Core.Bool.{Bool, true, false, not}
use mathlib.Core.List.{List}
use Prim.Native.Nat.{ℕ, zero, suc, ◌*◌, ◌/◌, ◌%◌, ◌≤◌, ◌<◌}
use native.Mathlib.Decide.{dec_lt, ℕ_discrete}
use native.Mathlib.Omega.{arith}
use lib.ListN.{set, replicate, get_or-replicate}
use borrow.Author.Tests.{not-true}
use Rattle.numbers.specs.Tests.{every}
use Rattle.numbers.proofs.TestLaws.{every-each}
use Rattle.lifting.specs.Line.{lo}
use Rattle.lifting.specs.Grid.{side, count}
use Rattle.wavelet.specs.Limits.{max_sample}
use Rattle.wavelet.proofs.LimitLaws.{sample-small}
use Rattle.nearest_change.specs.NearestChange.{Ground, difference, Before, IsNearest}
use Rattle.nearest_change.specs.Trials.{places_of, mirrored, lifted_of, number_of, cell_in, altered, altered_by, tried, made_by}
use Rattle.nearest_change.specs.declared.Change.{Change}
use Rattle.nearest_change.proofs.WindowLaws.{Heights, places-there}
use Rattle.nearest_change.proofs.NearLaws.{four-enough}
use Rattle.nearest_change.proofs.NearestTheorem.{twice, first-nearest}
use Rattle.nearest_change.proofs.FillLaws.{Filled, fill_start, fill_more}

-- ---- one only
after : {m n : ℕ} {A B : Type 0} → (m < n) ⊎ ((m ≡ n) × A) → (n < m) ⊎ ((n ≡ m) × B) → (A → B → ⊥) → ⊥
after p q f = ⊎_elim (λ h. ⊎_elim (λ k. omega arith) (λ k. let e = k.0 in omega arith) q)
    (λ h. let d = h.0 in ⊎_elim (λ k. omega arith) (λ k. f h.1 k.1) q) p

before-once : (g : Ground) (d e : Change) → Before g d e → Before g e d → ⊥
unfolding Before
before-once g d e p q = after p q (λ a b. after a b (λ s t. after s t (λ k l. omega arith)))

pub nearest-one : (W H : ℕ) (g : Ground) (r c : ℕ) (d e : Change) → IsNearest W H g r c d → IsNearest W H g r c e → d ≡ e
nearest-one W H g r c d e m n =
    ⊎_elim (λ h. sym h) (λ h. ⊎_elim (λ k. k) (λ k. absurd (before-once g d e h k)) (n.others d m.alters)) (m.others e n.alters)

-- ---- at most 4
before-less : (g : Ground) (d e : Change) → Before g d e → difference g d ≤ difference g e
unfolding Before
before-less g d e = ⊎_elim (λ h. omega arith) (λ h. let k = h.0 in omega arith)

module _ (W H : ℕ) (g : Ground) (heights : Heights W H g) (r c : ℕ) (p : r < count lo (side 0 H)) (q : c < count lo (side 0 W)) where
  pub nearest-four : (d : Change) → IsNearest W H g r c d → difference g d ≤ 4
  nearest-four d n =
      let e = four-enough W H r c g p q (heights (2 * r) (2 * c) (twice H r p) (twice W c q)) in
      let f = e.2 in
      ⊎_elim (λ h. let k = ap (difference g) h in omega arith) (λ h. let k = before-less g d e.0 h in omega arith) (n.others e.0 e.1)

  -- ---- there is one
  abbrev value : ℕ → ℕ
  value j = g (number_of (places_of H r) (j % 5)) (number_of (places_of W c) (j / 5))

  filled_to : ℕ → List ℕ
  filled_to zero = replicate 25 0
  filled_to (suc j) = set (filled_to j) j (value j)

  filled : (j : ℕ) → j ≤ 25 → Filled g (places_of H r) (places_of W c) j (filled_to j)
  unfolding filled_to
  filled zero h = fill_start g (places_of H r) (places_of W c)
  filled (suc j) h =
      let a = twice H r p in
      let b = twice W c q in
      let s = sample-small in
      let v = heights _ _ (places-there H r (j % 5) (omega arith)) (places-there W c (j / 5) (omega arith)) in
      subst (λ (n : ℕ). Filled g (places_of H r) (places_of W c) n (filled_to (suc j))) (omega arith)
      (fill_more g (places_of H r) (places_of W c) j (filled_to j) (value j) (filled j (omega arith)) (omega arith) refl (omega arith))

  -- the first number below n that passes, or n
  first_of : (t : ℕ → Bool) (n : ℕ) → (m : ℕ) × (m ≤ n) × ((s : ℕ) → s < m → t s ≡ false) × (m < n → t m ≡ true)
  first_of t zero = (0, omega arith, λ s h. absurd (omega arith), λ h. absurd (omega arith))
  first_of t (suc n) =
      let f = first_of t n in
      let k = f.1 in
      elim (dec_lt f.0 n) [
        | yes h ↦ (f.0, omega arith, f.2, λ _. f.3 h)
        | no h ↦ try (t n) refl (λ s l. f.2 s (omega arith))
      ]
    where
      try : {n : ℕ} (b : Bool) → t n ≡ b → ((s : ℕ) → s < n → t s ≡ false) → (m : ℕ) × (m ≤ suc n) × ((s : ℕ) → s < m → t s ≡ false) × (m < suc n → t m ≡ true)
      try {n} true e f = (n, omega arith, f, λ _. e)
      try {n} false e f =
          (suc n, omega arith, λ s h. elim (ℕ_discrete s n) [ yes d ↦ ap t d ∙ e | no d ↦ f s (omega arith) ], λ h. absurd (omega arith))

  pub nearest-exists : (d : Change) × IsNearest W H g r c d × (difference g d ≤ 4)
  nearest-exists =
      let w = filled_to 25 in
      let f = first_of (tried w (cell_in w H W r c)) 200 in
      let n = first-nearest W H g heights r c p q w (filled 25 (omega arith)).done f.0 (record { few = f.1; none = f.2; works = f.3 }) in
      (made_by w r c f.0, n, nearest-four (made_by w r c f.0) n)

-- ---- 4 is attained: 2 × 2 heights of 65,535
abbrev top : Ground
top _ _ = 65535

abbrev tops : List ℕ
tops = replicate 25 65535

all_none : every 187 (λ t. not (tried tops (cell_in tops 2 2 0 0) t)) ≡ true
unfolding every tried altered_by altered lifted_of mirrored max_sample
all_none = refl

works-187 : tried tops (cell_in tops 2 2 0 0) 187 ≡ true
unfolding tried altered_by altered lifted_of mirrored max_sample
works-187 = refl

pub four-attained : IsNearest 2 2 top 0 0 (record { row = 0; column = 0; height = 65531 })
unfolding made_by max_sample count
four-attained =
    first-nearest 2 2 top (λ _ _ _ _. omega arith) 0 0 (omega arith) (omega arith) tops (λ j h. get_or-replicate 25 j 65535 0 h) 187
    (record {
      few = omega arith;
      none = λ s h. not-true _ (every-each 187 _ all_none s h);
      works = λ _. works-187;
    })

pub four_is : difference top (record { row = 0; column = 0; height = 65531 }) ≡ 4
unfolding difference
four_is = refl
