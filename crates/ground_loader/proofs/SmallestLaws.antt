-- A code is that of the smallest width exactly where the width before it does not hold the largest number (`smallest`). Assumes nothing.
use mathlib.Core.Path.{◌≡◌, refl, sym, ap, ◌∙◌, subst}
use mathlib.Core.Bool.{Bool, true, false}
use mathlib.Core.List.{List, [], ◌∷◌}
use Prim.Native.Nat.{ℕ, zero, suc, ◌+◌, ◌*◌, ◌-◌, ◌/◌, ◌^◌, ◌≤◌, ◌<◌}
use native.Mathlib.Nat.{lt_of_lt_of_le}
use native.Mathlib.Omega.{arith}
use native.Mathlib.Decide.{dec_lt}
use lib.Dec.{ltb, eqb}
use lib.Pow.{pow_mono, shr_lt, shr_mono, shl-shr}
use borrow.Author.Tests.{lt-ltb, le-ltb, eq-eqb, ne_eqb}
use Rattle.numbers.specs.Signal.{pick}
use Rattle.ground_file.specs.Groups.{width_of, holds, code_from, code_of}
use Rattle.ground_file.proofs.Digits.{Below, none, more}
use Rattle.ground_file.proofs.GroupLaws.{code_holds}
use Rattle.ground_file.proofs.WidthLaws.{width-own, width-13, width-16, width-20, width-28}

-- ---- the widths rise
wide-next : (i : ℕ) → width_of i ≤ width_of (i + 1)
wide-next i =
    elim (dec_lt 10 i) [
      | no p ↦ omega (arith, width-own i (omega arith), width-own (i + 1) (omega arith))
      | yes p ↦ elim (dec_lt 11 i) [
        | no q ↦ omega (arith, width-own i (omega arith), width-13 (i + 1) (omega arith) (omega arith))
        | yes q ↦ elim (dec_lt 12 i) [
          | no r ↦ omega (arith, width-13 i (omega arith) (omega arith), width-16 (i + 1) (omega arith) (omega arith))
          | yes r ↦ elim (dec_lt 13 i) [
            | no s ↦ omega (arith, width-16 i (omega arith) (omega arith), width-20 (i + 1) (omega arith) (omega arith))
            | yes s ↦ elim (dec_lt 14 i) [
              | no t ↦ omega (arith, width-20 i (omega arith) (omega arith), width-28 (i + 1) (omega arith))
              | yes t ↦ omega (arith, width-28 i (omega arith), width-28 (i + 1) (omega arith))
            ]
          ]
        ]
      ]
    ]

wide-on : (k i : ℕ) → width_of i ≤ width_of (i + k)
wide-on zero i = let e : i + 0 ≡ i = omega arith in rw e (omega arith)
wide-on (suc k) i = let e : i + suc k ≡ (i + k) + 1 = omega arith in rw e (omega (arith, wide-on k i, wide-next (i + k)))

pub wider : (i j : ℕ) → i ≤ j → width_of i ≤ width_of j
wider i j h = let e : i + (j - i) ≡ j = omega arith in subst (λ k. width_of i ≤ width_of k) e (wide-on (j - i) i)

pub widest : (c : ℕ) → width_of c ≤ 28
widest c = elim (dec_lt c 15) [
  | yes p ↦ omega (arith, wider c 15 (omega arith), width-28 15 (omega arith))
  | no p ↦ omega (arith, width-28 c (omega arith))
]

pub some-width : (c : ℕ) → 0 < c → 0 < width_of c
some-width c h = omega (arith, wider 1 c (omega arith), width-own 1 (omega arith))

-- ---- the first code whose width holds a number
holds-one : (w m : ℕ) → m < 2 ^ w → holds w (m ∷ []) ≡ true
unfolding holds
holds-one w m h = rw (lt-ltb m (2 ^ w) h) refl

code-least : (n c i : ℕ) (l : List ℕ) → n + c ≡ 15 → c ≤ i → holds (width_of i) l ≡ true → code_from n c l ≤ i
unfolding code_from
code-least zero c i l e p h = p
code-least (suc n) c i l e p h = go (holds (width_of c) l) refl (λ q. code-least n (c + 1) i l (omega arith) q h)
  where
    apart : true ≡ false → ⊥
    apart z = let y : ◌≡◌ {A = ℕ} 0 1 = ap (λ t. pick t 0 1) z in omega arith

    go : (t : Bool) → holds (width_of c) l ≡ t → (c + 1 ≤ i → code_from n (c + 1) l ≤ i) → pick t c (code_from n (c + 1) l) ≤ i
    go true f next = p
    go false f next =
        elim (dec_lt c i) [
          | yes q ↦ next (omega arith)
          | no q ↦ let same : c ≡ i = omega arith in absurd (apart (sym h ∙ ap (λ k. holds (width_of k) l) (sym same) ∙ f))
        ]

least : (m i : ℕ) → m < 2 ^ width_of i → code_of (m ∷ []) ≤ i
unfolding code_of
least m i h = code-least 15 0 i (m ∷ []) (omega arith) (omega arith) (holds-one (width_of i) m h)

head-below : {b m : ℕ} {l : List ℕ} → Below b (m ∷ l) → m < b
head-below (more h p) = h

held : (m c : ℕ) → m < 2 ^ width_of c → m < 2 ^ width_of (code_of (m ∷ []))
held m c h = head-below (code_holds (m ∷ []) (more (lt_of_lt_of_le h (pow_mono (widest c))) none))

pub smallest-none : (m : ℕ) → m < 2 ^ width_of 0 → true ≡ eqb (code_of (m ∷ [])) 0
smallest-none m h = let e : code_of (m ∷ []) ≡ 0 = omega (arith, least m 0 h) in sym (eq-eqb (code_of (m ∷ [])) 0 e)

pub smallest : (m c : ℕ) → 0 < c → m < 2 ^ width_of c → ltb 0 (m / 2 ^ width_of (c - 1)) ≡ eqb (code_of (m ∷ [])) c
smallest m c p h =
    elim (dec_lt m (2 ^ width_of (c - 1))) [
      | yes q ↦
          let none_left : m / 2 ^ width_of (c - 1) < 2 ^ 0 = shr_lt 0 (width_of (c - 1)) (subst (λ k. m < 2 ^ k) (zero-plus (width_of (c - 1))) q) in
          le-ltb 0 (m / 2 ^ width_of (c - 1)) (omega arith)
          ∙ sym (ne_eqb (code_of (m ∷ [])) c (λ e. omega (arith, least m (c - 1) q)))
      | no q ↦
          let one : 1 * 2 ^ width_of (c - 1) / 2 ^ width_of (c - 1) ≤ m / 2 ^ width_of (c - 1) = shr_mono (width_of (c - 1)) (omega arith) in
          lt-ltb 0 (m / 2 ^ width_of (c - 1)) (omega (arith, one, shl-shr 1 (width_of (c - 1))))
          ∙ sym (eq-eqb (code_of (m ∷ [])) c (same q))
    ]
  where
    zero-plus : (k : ℕ) → k ≡ 0 + k
    zero-plus k = omega arith

    same : (m < 2 ^ width_of (c - 1) → ⊥) → code_of (m ∷ []) ≡ c
    same q =
        elim (dec_lt (code_of (m ∷ [])) c) [
          | yes r ↦ absurd (q (lt_of_lt_of_le (held m c h) (pow_mono (wider (code_of (m ∷ [])) (c - 1) (omega arith)))))
          | no r ↦ omega (arith, least m c h)
        ]
