-- The mirror worked out: the places one and three off, as numbers of the other half. Assumes nothing.
use mathlib.Core.Path.{◌≡◌, refl, sym, ap, ◌∙◌}
use Prim.Native.Nat.{ℕ, zero, suc, ◌+◌, ◌-◌, ◌*◌, ◌/◌, ◌%◌, ◌≤◌, ◌<◌, min}
use native.Mathlib.Decide.{dec_lt, ℕ_discrete}
use native.Mathlib.Nat.{mod-eq_of_lt, mod_self}
use native.Mathlib.Omega.{arith}
use lib.IntN.{ℤ, pos, nat_abs, ◌-ℤ◌}
use borrow.Author.Tests.{eq-eqb, ne_eqb}
use Rattle.numbers.proofs.Integers.{dif, dif-nat_abs}
use Rattle.lifting.specs.Line.{Half, lo, hi}
use Rattle.lifting.specs.Line as line
use Rattle.lifting.specs.Grid.{Side, place, count}
use Rattle.lifting.specs.Grid as grid
use Rattle.lifting.specs.Passes.{near}
use Rattle.lifting.proofs.GridLaws.{ahead, other}
use Rattle.lifting.proofs.GridLaws as grid-laws
use Rattle.lifting.proofs.Neighbours.{left, right}
use Rattle.nine_seven.specs.NineSeven.{mirror, before, after}
use Rattle.nine_seven.specs.Passes.{far_left, far_right}

-- ---- a place a, from 0 on
abbrev folded : ℕ → ℕ → ℕ
folded N a = mirror N (pos a)

mirror-abs : (N : ℕ) (p : ℤ) → mirror N p ≡ folded N (nat_abs p)
unfolding mirror
mirror-abs N p = refl

-- in a line of two samples, and at the farthest place of one of three, it is mirrored more than once
fold-two : (N a : ℕ) → N ≡ 2 → folded N a ≡ a % 2
unfolding mirror
fold-two N a e = let p : 2 * (N - 1) ≡ 2 = omega arith in rw p (omega arith)

fold-three : (N a : ℕ) → N ≡ 3 → a ≡ 5 → folded N a ≡ 1
unfolding mirror
fold-three N a e f = let p : 2 * (N - 1) ≡ 4 = omega arith in rw (p, f) (omega arith)

fold-in : (N a : ℕ) → 1 < N → a < N → folded N a ≡ a
unfolding mirror
fold-in N a g b = let e : a % (2 * (N - 1)) ≡ a = mod-eq_of_lt {m = 2 * (N - 1)} (omega arith) in rw e (omega arith)

fold_over : (N a : ℕ) → 1 < N → N ≤ a → a ≤ 2 * (N - 1) → folded N a ≡ 2 * (N - 1) - a
unfolding mirror
fold_over N a g b c =
    elim (ℕ_discrete a (2 * (N - 1))) [
      | yes e ↦ let z : a % (2 * (N - 1)) ≡ 0 = ap (λ (k : ℕ). k % (2 * (N - 1))) e ∙ mod_self (2 * (N - 1)) in rw z (omega arith)
      | no d ↦ let z : a % (2 * (N - 1)) ≡ a = mod-eq_of_lt {m = 2 * (N - 1)} (omega arith) in rw z (omega arith)
    ]

-- ---- the farther neighbours
module _ (low high o n : ℕ) where
  pub far-first : n ≡ 0 → far_left low o n ≡ near low 1
  unfolding far_left
  far-first e = simp (eq-eqb n 0 e)

  pub far-more : 0 < n → far_left low o n ≡ n + o - 2
  unfolding far_left
  far-more e = simp (ne_eqb n 0 (omega arith))

  pub far-last : n + 1 ≡ high → far_right low high o n ≡ low - 2
  unfolding far_right
  far-last e = simp (eq-eqb (n + 1) high e)

  pub far-less : n + 1 < high → far_right low high o n ≡ near low (n + o + 1)
  unfolding far_right
  far-less e = simp (ne_eqb (n + 1) high (omega arith))

-- how far place q is from place k
abbrev gap : ℕ → ℕ → ℕ
gap q k = (q - k) + (k - q)

gap-one : (q : ℕ) → nat_abs (pos q -ℤ pos 1) ≡ gap q 1
unfolding dif
gap-one q = dif-nat_abs q 1

gap-three : (q : ℕ) → nat_abs (pos q -ℤ pos 3) ≡ gap q 3
unfolding dif
gap-three q = dif-nat_abs q 3

three : (N : ℕ) → 1 < N → N ≡ 3 → folded N 3 ≡ 1
three N g e = fold_over N 3 g (omega arith) (omega arith) ∙ omega arith

third : (l : ℕ) → l ≡ 0 → 1 ≡ 2 * l + 1
third l k = omega arith

-- by the parity b of the start
before-three : (N b n : ℕ) → b < 2 → 1 < N → n < (N + b) / 2
    → folded N (gap (2 * n + (1 - b)) 3) ≡ 2 * far_left ((N + 1 - b) / 2) (1 - b) n + b
before-three N zero n two g l =
    elim (ℕ_discrete n 0) [
      | yes e ↦
          let f = far-first ((N + 1 - 0) / 2) 0 (1 - 0) n e in
          elim (ℕ_discrete N 2) [
            | yes t ↦ fold-two N (gap (2 * n + (1 - 0)) 3) t ∙ omega arith
            | no d ↦ fold-in N (gap (2 * n + (1 - 0)) 3) g (omega arith) ∙ omega arith
          ]
      | no d ↦
          let f = far-more ((N + 1 - 0) / 2) 0 (1 - 0) n (omega arith) in
          fold-in N (gap (2 * n + (1 - 0)) 3) g (omega arith) ∙ omega arith
    ]
before-three N (suc zero) n two g l =
    elim (ℕ_discrete n 0) [
      | yes e ↦
          let f = far-first ((N + 1 - 1) / 2) 0 (1 - 1) n e in
          elim (dec_lt 3 N) [
            | yes t ↦ fold-in N (gap (2 * n + (1 - 1)) 3) g (omega arith) ∙ omega arith
            | no d ↦
                elim (ℕ_discrete N 2) [
                  | yes t ↦ fold-two N (gap (2 * n + (1 - 1)) 3) t ∙ omega arith
                  | no c ↦
                      let a : gap (2 * n + (1 - 1)) 3 ≡ 3 = omega arith in
                      let k : N ≡ 3 = omega arith in
                      let h : near ((N + 1 - 1) / 2) 1 ≡ 0 = omega arith in
                      ap (folded N) a ∙ three N g k ∙ third _ (f ∙ h)
                ]
          ]
      | no d ↦
          let f = far-more ((N + 1 - 1) / 2) 0 (1 - 1) n (omega arith) in
          fold-in N (gap (2 * n + (1 - 1)) 3) g (omega arith) ∙ omega arith
    ]
before-three N (suc (suc _)) n two g l = absurd (omega arith)

after-three : (N b n : ℕ) → b < 2 → 1 < N → n < (N + b) / 2
    → folded N (2 * n + (1 - b) + 3) ≡ 2 * far_right ((N + 1 - b) / 2) ((N + b) / 2) (1 - b) n + b
after-three N zero n two g l =
    elim (ℕ_discrete (n + 1) ((N + 0) / 2)) [
      | yes e ↦
          let f = far-last ((N + 1 - 0) / 2) ((N + 0) / 2) (1 - 0) n e in
          elim (ℕ_discrete N 2) [
            | yes t ↦ fold-two N (2 * n + (1 - 0) + 3) t ∙ omega arith
            | no d ↦ fold_over N (2 * n + (1 - 0) + 3) g (omega arith) (omega arith) ∙ omega arith
          ]
      | no d ↦
          let f = far-less ((N + 1 - 0) / 2) ((N + 0) / 2) (1 - 0) n (omega arith) in
          elim (dec_lt (2 * n + (1 - 0) + 3) N) [
            | yes t ↦ fold-in N (2 * n + (1 - 0) + 3) g t ∙ omega arith
            | no c ↦ fold_over N (2 * n + (1 - 0) + 3) g (omega arith) (omega arith) ∙ omega arith
          ]
    ]
after-three N (suc zero) n two g l =
    elim (ℕ_discrete (n + 1) ((N + 1) / 2)) [
      | yes e ↦
          let f = far-last ((N + 1 - 1) / 2) ((N + 1) / 2) (1 - 1) n e in
          elim (ℕ_discrete N 2) [
            | yes t ↦ fold-two N (2 * n + (1 - 1) + 3) t ∙ omega arith
            | no d ↦
                elim (ℕ_discrete N 3) [
                  | yes t ↦ fold-three N (2 * n + (1 - 1) + 3) t (omega arith) ∙ omega arith
                  | no c ↦ fold_over N (2 * n + (1 - 1) + 3) g (omega arith) (omega arith) ∙ omega arith
                ]
          ]
      | no d ↦
          let f = far-less ((N + 1 - 1) / 2) ((N + 1) / 2) (1 - 1) n (omega arith) in
          elim (dec_lt (2 * n + (1 - 1) + 3) N) [
            | yes t ↦ fold-in N (2 * n + (1 - 1) + 3) g t ∙ omega arith
            | no c ↦ fold_over N (2 * n + (1 - 1) + 3) g (omega arith) (omega arith) ∙ omega arith
          ]
    ]
after-three N (suc (suc _)) n two g l = absurd (omega arith)

-- ---- one reflection is enough one place off
once : (N a : ℕ) → 1 < N → a ≤ N → folded N a ≡ min a (2 * (N - 1) - a)
once N a g b =
    elim (dec_lt a N) [
      | yes l ↦ fold-in N a g l ∙ omega arith
      | no d ↦ fold_over N a g (omega arith) (omega arith) ∙ omega arith
    ]

-- ---- the places beside a number of half h, and those farther off a high one
abbrev pub far_before : Side → ℕ → ℕ
far_before S n = far_left (count lo S) (ahead S lo) n

abbrev pub far_after : Side → ℕ → ℕ
far_after S n = far_right (count lo S) (count hi S) (ahead S lo) n

module _ (S : Side) (g : 1 < S.length) where
  pub before-is : (h : Half) (n : ℕ) → n < count h S → before S.length 1 (place S h n) ≡ place S (other h) (left (other h) S n)
  unfolding before grid.before line.mirror
  before-is h n b =
      let q = place S h n in
      let p = grid-laws.place-in S h n b in
      let e = gap-one q in
      mirror-abs S.length (pos q -ℤ pos 1)
      ∙ once S.length (nat_abs (pos q -ℤ pos 1)) g (omega arith)
      ∙ grid-laws.before-is S g h n b

  pub after_is : (h : Half) (n : ℕ) → n < count h S → after S.length 1 (place S h n) ≡ place S (other h) (right (other h) S n)
  unfolding after grid.after line.mirror
  after_is h n b =
      let q = place S h n in
      let p = grid-laws.place-in S h n b in
      once S.length (q + 1) g (omega arith) ∙ grid-laws.after_is S g h n b

  pub far-before-is : (n : ℕ) → n < count hi S → before S.length 3 (place S hi n) ≡ place S lo (far_before S n)
  unfolding before place count
  far-before-is n b =
      mirror-abs S.length (pos (place S hi n) -ℤ pos 3)
      ∙ ap (folded S.length) (gap-three (place S hi n))
      ∙ before-three S.length (S.start % 2) n (omega arith) g b

  pub far-after-is : (n : ℕ) → n < count hi S → after S.length 3 (place S hi n) ≡ place S lo (far_after S n)
  unfolding after place count
  far-after-is n b = after-three S.length (S.start % 2) n (omega arith) g b

-- the farther ones are there, no more than three places off, and short of the end they are so whatever the length
pub far-before-in : (S : Side) (n : ℕ) → 1 < S.length → n < count hi S → (far_before S n < count lo S) × (place S lo (far_before S n) ≤ place S hi n + 3)
unfolding place count
far-before-in S n g b =
    elim (ℕ_discrete n 0) [
      | yes e ↦ let f = far-first (count lo S) 0 (ahead S lo) n e in (omega arith, omega arith)
      | no d ↦ let f = far-more (count lo S) 0 (ahead S lo) n (omega arith) in (omega arith, omega arith)
    ]

pub far-after-in : (S : Side) (n : ℕ) → 1 < S.length → n < count hi S → (far_after S n < count lo S) × (place S lo (far_after S n) ≤ place S hi n + 3)
unfolding place count
far-after-in S n g b =
    elim (ℕ_discrete (n + 1) (count hi S)) [
      | yes e ↦ let f = far-last (count lo S) (count hi S) (ahead S lo) n e in (omega arith, omega arith)
      | no d ↦ let f = far-less (count lo S) (count hi S) (ahead S lo) n (omega arith) in (omega arith, omega arith)
    ]

pub far-before-inner : (S : Side) (n : ℕ) → place S hi n + 3 < S.length → far_before S n ≡ far_left 2 (ahead S lo) n
unfolding place count
far-before-inner S n l =
    elim (ℕ_discrete n 0) [
      | yes e ↦
          let f = far-first (count lo S) 0 (ahead S lo) n e in
          let h = far-first 2 0 (ahead S lo) n e in
          omega arith
      | no d ↦ far-more (count lo S) 0 (ahead S lo) n (omega arith) ∙ sym (far-more 2 0 (ahead S lo) n (omega arith))
    ]

pub far-after-inner : (S : Side) (n : ℕ) → place S hi n + 3 < S.length → far_after S n ≡ n + ahead S lo + 1
unfolding place count
far-after-inner S n l = let f = far-less (count lo S) (count hi S) (ahead S lo) n (omega arith) in omega arith
