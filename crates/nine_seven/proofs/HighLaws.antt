-- The pass over the high numbers in pieces: a turn of its loops, for any rule f, and what the pieces come to together. Assumes nothing.
use mathlib.Core.Path.{◌≡◌, sym, ap, ◌∙◌, subst, fun_ext}
use mathlib.Core.List.{List}
use Prim.Native.Nat.{ℕ, ◌+◌, ◌-◌, ◌≤◌, ◌<◌}
use native.Mathlib.Decide.{dec_lt, ℕ_discrete}
use native.Mathlib.Omega.{arith}
use lib.IntN.{ℤ}
use lib.ListN.{length, set}
use borrow.Author.Tests.{lt-ltb, le-ltb, le-leb, lt-leb}
use Rattle.numbers.specs.Signal.{at}
use Rattle.numbers.proofs.Sweep.{Swept, start, store, finish}
use Rattle.lifting.specs.Passes.{near}
use Rattle.nine_seven.specs.Passes.{far_left, far_right, high_by, highs_between}
use Rattle.nine_seven.proofs.MirrorLaws.{far-first, far-more, far-last, far-less}

-- the farther low numbers are there
far-left-low : (low o n : ℕ) → 0 < low → n + o ≤ low → far_left low o n < low
far-left-low low o n g b =
    elim (ℕ_discrete n 0) [
      | yes e ↦ let f = far-first low 0 o n e in omega arith
      | no d ↦ let f = far-more low 0 o n (omega arith) in omega arith
    ]

far-right-low : (low high o n : ℕ) → 0 < low → n < high → far_right low high o n < low
far-right-low low high o n g b =
    elim (ℕ_discrete (n + 1) high) [
      | yes e ↦ let f = far-last low high o n e in omega arith
      | no d ↦ let f = far-less low high o n (omega arith) in omega arith
    ]

pub fars-low : (low high o n : ℕ) → 0 < low → n + o ≤ low → n < high → (far_left low o n < low) × (far_right low high o n < low)
fars-low low high o n g b h = (far-left-low low o n g b, far-right-low low high o n g h)

room_after : (low N n : ℕ) → low + n + 1 < N → n + 1 < N - low
room_after low N n h = omega arith

module _ (f : ℤ → ℤ → ℤ → ℤ → ℤ → ℤ) (o low N : ℕ) where
  -- a high number goes by its own place and by low numbers
  pub by-reads : (y z : ℕ → ℤ) (n : ℕ) → 0 < low → n + o ≤ low → low + n < N → y (low + n) ≡ z (low + n) → ((j : ℕ) → j < low → y j ≡ z j)
      → high_by f o low N y n ≡ high_by f o low N z n
  unfolding high_by
  by-reads y z n g b h own lows =
      let l = lows (near low (n + o - 1)) (omega arith) in
      let r = lows (near low (n + o)) (omega arith) in
      let c = lows (far_left low o n) (far-left-low low o n g b) in
      let e = lows (far_right low (N - low) o n) (far-right-low low (N - low) o n g (omega arith)) in
      λ i. f (own i) (l i) (r i) (c i) (e i)

  -- away from the ends nothing is mirrored
  pub by-inner : (y : ℕ → ℤ) (n : ℕ) → 2 ≤ n → n + o + 1 < low → low + n + 1 < N → o ≤ 1
      → high_by f o low N y n ≡ f (y (low + n)) (y (n + o - 1)) (y (n + o)) (y (n + o - 2)) (y (n + o + 1))
  unfolding high_by
  by-inner y n g b h few =
      let l : near low (n + o - 1) ≡ n + o - 1 = omega arith in
      let r : near low (n + o) ≡ n + o = omega arith in
      let c = far-more low 0 o n (omega arith) in
      let k : near low (n + o + 1) ≡ n + o + 1 = omega arith in
      let e = far-less low (N - low) o n (room_after low N n h) ∙ k in
      λ i. f (y (low + n)) (y (l i)) (y (r i)) (y (c i)) (y (e i))

  module _ (a b : ℕ) (y : ℕ → ℤ) where
    pub between-below : (j : ℕ) → j < low + a → highs_between f o low N a b y j ≡ y j
    unfolding highs_between
    between-below j h = simp (lt-leb (low + a) j h)

    pub between-past : (j : ℕ) → low + b ≤ j → a ≤ b → highs_between f o low N a b y j ≡ y j
    unfolding highs_between
    between-past j h g = simp (le-leb (low + a) j (omega arith), le-ltb j (low + b) h)

    pub between_in : (n : ℕ) → a ≤ n → n < b → highs_between f o low N a b y (low + n) ≡ high_by f o low N y n
    unfolding highs_between
    between_in n g h =
        let k : low + n - low ≡ n = omega arith in
        simp (le-leb (low + a) (low + n) (omega arith), lt-ltb (low + n) (low + b) (omega arith), k)

  -- two pieces are one
  pub between_join : (a b c : ℕ) (y : ℕ → ℤ) → a ≤ b → b ≤ c → 0 < low → c + o ≤ low + 1 → low + c ≤ N
      → highs_between f o low N b c (highs_between f o low N a b y) ≡ highs_between f o low N a c y
  between_join a b c y ab bc g near room = fun_ext λ j.
      elim (dec_lt j (low + b)) [
        | yes p ↦
            between-below b c _ j p
            ∙ elim (dec_lt j (low + a)) [
              | yes q ↦ between-below a b y j q ∙ sym (between-below a c y j q)
              | no d ↦
                  let e : j ≡ low + (j - low) = omega arith in
                  ap (highs_between f o low N a b y) e
                  ∙ between_in a b y (j - low) (omega arith) (omega arith)
                  ∙ sym (ap (highs_between f o low N a c y) e ∙ between_in a c y (j - low) (omega arith) (omega arith))
            ]
        | no d ↦
            elim (dec_lt j (low + c)) [
              | yes q ↦
                  let e : j ≡ low + (j - low) = omega arith in
                  ap (highs_between f o low N b c (highs_between f o low N a b y)) e
                  ∙ between_in b c (highs_between f o low N a b y) (j - low) (omega arith) (omega arith)
                  ∙ by-reads (highs_between f o low N a b y) y (j - low) g (omega arith) (omega arith)
                  (between-past a b y (low + (j - low)) (omega arith) ab) (λ k h. between-below a b y k (omega arith))
                  ∙ sym (ap (highs_between f o low N a c y) e ∙ between_in a c y (j - low) (omega arith) (omega arith))
              | no h ↦
                  between-past b c _ j (omega arith) bc
                  ∙ between-past a b y j (omega arith) ab
                  ∙ sym (between-past a c y j (omega arith) (omega arith))
            ]
      ]

-- before turn n of a loop over the high numbers from `from` to `to`: l₀ is the line where it began
pub record Highs (f : ℤ → ℤ → ℤ → ℤ → ℤ → ℤ) (l₀ : List ℤ) (low o from to n : ℕ) (l : List ℤ) : Type 0 where
  pub some : 0 < low
  pub few : o ≤ 1
  pub room : low + to ≤ length l₀
  pub least : to + o ≤ low + 1
  pub begun : from ≤ n
  pub within : n ≤ to
  pub swept : Swept (length l₀) (highs_between f o low (length l₀) from to (at l₀)) (at l₀) (low + n) l

module _ (f : ℤ → ℤ → ℤ → ℤ → ℤ → ℤ) (l₀ : List ℤ) (low o from to : ℕ) where
  pub highs-start : 0 < low → o ≤ 1 → low + to ≤ length l₀ → to + o ≤ low + 1 → from ≤ to → Highs f l₀ low o from to from l₀
  highs-start g few room least h =
      record {
        some = g;
        few = few;
        room = room;
        least = least;
        begun = omega arith;
        within = h;
        swept = start l₀ _ (low + from) (λ j b. between-below f o low (length l₀) from to (at l₀) j b);
      }

  -- a turn stores what the definition says, of the line as it stands
  pub highs-turn : (n : ℕ) (l l' : List ℤ) → Highs f l₀ low o from to n l → n < to
      → l' ≡ set l (low + n) (high_by f o low (length l) (at l) n) → Highs f l₀ low o from to (n + 1) l'
  highs-turn n l l' h b is =
      let N = length l₀ in
      let y = highs_between f o low N from to (at l₀) in
      let s = h.swept in
      let same : high_by f o low (length l) (at l) n ≡ y (low + n) =
      ap (λ (k : ℕ). high_by f o low k (at l) n) s.size
      ∙ by-reads f o low N (at l) (at l₀) n h.some (omega arith) (omega arith) (s.rest (low + n) (omega arith))
      (λ j p. s.done j (omega arith) ∙ between-below f o low N from to (at l₀) j (omega arith))
      ∙ sym (between_in f o low N from to (at l₀) n h.begun b) in
      record {
        some = h.some;
        few = h.few;
        room = h.room;
        least = h.least;
        begun = omega arith;
        within = omega arith;
        swept = rw is (subst (λ (k : ℕ). Swept N y (at l₀) k (set l (low + n) (high_by f o low (length l) (at l) n))) (omega arith)
            (store _ s (omega arith) same));
      }

  pub highs-end : (n : ℕ) (l : List ℤ) → Highs f l₀ low o from to n l → to ≤ n → at l ≡ highs_between f o low (length l₀) from to (at l₀)
  highs-end n l h b = finish h.swept (λ j p. between-past f o low (length l₀) from to (at l₀) j (omega arith) (omega arith))

-- the first two, those between, and the last two are all
pub all-highs : (f : ℤ → ℤ → ℤ → ℤ → ℤ → ℤ) (o low N high : ℕ) (y y₁ y₂ y₃ : ℕ → ℤ) → 0 < low → 4 ≤ high → high + o ≤ low + 1 → low + high ≤ N
    → y₁ ≡ highs_between f o low N 0 2 y → y₂ ≡ highs_between f o low N 2 (high - 2) y₁ → y₃ ≡ highs_between f o low N (high - 2) high y₂
    → y₃ ≡ highs_between f o low N 0 high y
all-highs f o low N high y y₁ y₂ y₃ g long near room e₁ e₂ e₃ =
    e₃
    ∙ ap (highs_between f o low N (high - 2) high)
    (e₂
    ∙ ap (highs_between f o low N 2 (high - 2)) e₁
    ∙ between_join f o low N 0 2 (high - 2) y (omega arith) (omega arith) g (omega arith) (omega arith))
    ∙ between_join f o low N 0 (high - 2) high y (omega arith) (omega arith) g near room
