-- A row in halves laid in its own order, a pair a turn, for a line that starts at any coordinate: the sweeps of the loops that do it. Assumes nothing.
use mathlib.Core.Path.{◌≡◌, refl, sym, ap, ◌∙◌, subst, fun_ext}
use mathlib.Core.List.{List}
use Prim.Native.Nat.{ℕ, ◌+◌, ◌-◌, ◌*◌, ◌/◌, ◌%◌, ◌≤◌, ◌<◌}
use native.Mathlib.Decide.{dec_lt, ℕ_discrete}
use native.Mathlib.Omega.{arith}
use lib.IntN.{ℤ}
use lib.ListN.{length, set}
use borrow.Author.Tests.{eq-eqb, ne_eqb}
use Rattle.numbers.specs.Signal.{at, windowed, spliced}
use Rattle.numbers.proofs.Sweep.{Swept, store, finish}
use borrow.Rule.Slice.PartMut.{mid_of}
use Rattle.numbers.proofs.Parts.{length-mid, at_mid, window-in, splice-below, splice-in, splice-past}
use Rattle.lifting.specs.Grid.{Side, joined}
use Rattle.lifting.specs.GridHalves.{halves_of}
use Rattle.lifting.specs.Halves.{fronted}
use Rattle.areas.specs.Places.{begins}
use Rattle.areas.specs.Areas.{alternated, in_turn, heights_at, wholes}
use Rattle.areas.proofs.AreaLaws.{front_at, front_rest}
use Rattle.areas.proofs.HalfLaws.{evens, odds}
use Rattle.areas.proofs.PartLaws.{half-at, even_place, odd_place, Halves}
use Rattle.areas.proofs.HeightLaws.{finish-heights}

-- two places stored
store_pair : (L : ℕ) (y x : ℕ → ℤ) (q : ℕ) (l : List ℤ) (a b : ℤ) → Swept L y x q l → q + 1 < L → a ≡ y q → b ≡ y (q + 1) →
    Swept L y x (q + 1 + 1) (set (set l q a) (q + 1) b)
store_pair L y x q l a b sw h ea eb = store b (store a sw (omega arith) ea) (omega arith) eb

-- ---- two rows a and b in turn
module _ (n : ℕ) (a b z : ℕ → ℤ) where
  first-is : (j : ℕ) → alternated a b (2 * j) ≡ a j
  unfolding alternated
  first-is j = let k : 2 * j / 2 ≡ j = omega arith in rw (eq-eqb (2 * j % 2) 0 (omega arith), k) refl

  second_is : (j : ℕ) → alternated a b (2 * j + 1) ≡ b j
  unfolding alternated
  second_is j = let k : (2 * j + 1) / 2 ≡ j = omega arith in rw (ne_eqb ((2 * j + 1) % 2) 0 (omega arith), k) refl

-- and at the front of an area z, each number by f
module _ (f : ℤ → ℤ) (n : ℕ) (a b z : ℕ → ℤ) where
  abbrev pub turns : ℕ → ℤ
  turns = fronted n (λ i. f (alternated a b i)) z

  module _ (L j : ℕ) (l : List ℤ) (room : n ≤ L) (sw : Swept L turns z (2 * j) l) where
    pub pair_turn : 2 * j + 1 < n → Swept L turns z (2 * (j + 1)) (set (set l (2 * j) (f (a j))) (2 * j + 1) (f (b j)))
    pair_turn h =
        subst (λ (m : ℕ). Swept L turns z m (set (set l (2 * j) (f (a j))) (2 * j + 1) (f (b j)))) (omega arith)
        (store_pair L turns z (2 * j) l _ _ sw (omega arith) (sym (front_at n _ z (2 * j) (omega arith) ∙ ap f (first-is n a b z j)))
        (sym (front_at n _ z (2 * j + 1) h ∙ ap f (second_is n a b z j))))

    pub pair-last : 2 * j < n → Swept L turns z (2 * j + 1) (set l (2 * j) (f (a j)))
    pair-last h = store _ sw (omega arith) (sym (front_at n _ z (2 * j) h ∙ ap f (first-is n a b z j)))

-- the even and the odd places of a row in halves, in turn, are the line
turns-are : (S : Side) (f : ℤ → ℤ) (x z : ℕ → ℤ) (e o p q n : ℕ) → Halves S 0 e o → p ≡ S.length - S.length / 2 → q ≡ S.length / 2 → n ≡ p + q →
    fronted n (λ i. f (alternated (windowed e p x) (windowed o q x) i)) z ≡ fronted S.length (λ i. f (joined S (halves_of S x) i)) z
turns-are S f x z e o p q n h ep eq en =
    let a = windowed e p x in
    let b = windowed o q x in
    let y = joined S (halves_of S x) in
    fun_ext λ j.
    elim (dec_lt j S.length) [
      | yes l ↦
          front_at n _ z j (omega arith)
          ∙ ap f (elim (ℕ_discrete (j % 2) 0) [
            | yes z ↦
                let k : j ≡ 2 * (j / 2) = omega arith in
                let m : e + j / 2 ≡ begins S (evens S) + j / 2 = omega arith in
                ap (alternated a b) k ∙ first-is n a b x (j / 2) ∙ window-in e p x (j / 2) (omega arith) ∙ ap x m
                ∙ sym (ap y k ∙ even_place S (halves_of S x) (j / 2) ∙ half-at S x (evens S) (j / 2))
            | no d ↦
                let k : j ≡ 2 * (j / 2) + 1 = omega arith in
                let m : o + j / 2 ≡ begins S (odds S) + j / 2 = omega arith in
                ap (alternated a b) k ∙ second_is n a b x (j / 2) ∙ window-in o q x (j / 2) (omega arith) ∙ ap x m
                ∙ sym (ap y k ∙ odd_place S (halves_of S x) (j / 2) ∙ half-at S x (odds S) (j / 2))
          ])
          ∙ sym (front_at S.length _ z j l)
      | no l ↦ front_rest n _ z j (omega arith) ∙ sym (front_rest S.length _ z j (omega arith))
    ]

-- the same of two parts of a row that are lent
module _ (S : Side) (l : List ℤ) (a b p q : ℕ) (h : Halves S 0 a b) (room : S.length ≤ length l) (ep : p ≡ S.length - S.length / 2)
    (eq : q ≡ S.length / 2) where
  sizes : (length (mid_of a p l) ≡ p) × (length (mid_of b q l) ≡ q)
  sizes = (length-mid a p l (omega arith), length-mid b q l (omega arith))

  pub parts-fit : (L : ℕ) → S.length ≤ L → (length (mid_of b q l) ≤ length (mid_of a p l)) × (length (mid_of a p l) ≤ length (mid_of b q l) + 1)
      × (length (mid_of a p l) + length (mid_of b q l) ≤ L)
  parts-fit L le = let s = sizes in (omega arith, omega arith, omega arith)

  pub parts-interleaved : (f : ℤ → ℤ) (z w : ℕ → ℤ)
      → w ≡ fronted (length (mid_of a p l) + length (mid_of b q l)) (λ i. f (alternated (at (mid_of a p l)) (at (mid_of b q l)) i)) z
      → w ≡ fronted S.length (λ i. f (joined S (halves_of S (at l)) i)) z
  parts-interleaved f z w e =
      let s = sizes in
      let n = length (mid_of a p l) + length (mid_of b q l) in
      e ∙ ap (λ (v : ℕ → ℤ). fronted n (λ i. f (alternated v (at (mid_of b q l)) i)) z) (at_mid a p l)
      ∙ ap (λ (v : ℕ → ℤ). fronted n (λ i. f (alternated (windowed a p (at l)) v i)) z) (at_mid b q l)
      ∙ turns-are S f (at l) z a b p q n h ep eq (omega arith)

-- ---- within one area: the numbers at `even` and at `odd` in turn, n of them, laid from `to` on, before both
module _ (to even odd n : ℕ) (x : ℕ → ℤ) where
  abbrev pub interleaved : ℕ → ℤ
  interleaved = spliced to n (in_turn even odd x) x

  interleaved-even : (j q : ℕ) → 2 * j < n → q ≡ to + 2 * j → x (even + j) ≡ interleaved q
  interleaved-even j q h e =
      let k : q - to ≡ 2 * j = omega arith in
      sym (splice-in to n _ x q (omega arith) (omega arith) ∙ ap (in_turn even odd x) k ∙ first-is n _ _ x j)

  interleaved-odd : (j q : ℕ) → 2 * j + 1 < n → q ≡ to + 2 * j + 1 → x (odd + j) ≡ interleaved q
  interleaved-odd j q h e =
      let k : q - to ≡ 2 * j + 1 = omega arith in
      sym (splice-in to n _ x q (omega arith) (omega arith) ∙ ap (in_turn even odd x) k ∙ second_is n _ _ x j)

  module _ (L j : ℕ) (l : List ℤ) (ae : to + n ≤ even) (ao : to + n ≤ odd) (room : to + n ≤ L) (sw : Swept L interleaved x (to + 2 * j) l) where
    pub interleave-turn : 2 * j + 1 < n
        → Swept L interleaved x (to + 2 * (j + 1)) (set (set l (to + 2 * j) (at l (even + j))) (to + 2 * j + 1) (at l (odd + j)))
    interleave-turn h =
        subst (λ (m : ℕ). Swept L interleaved x m (set (set l (to + 2 * j) (at l (even + j))) (to + 2 * j + 1) (at l (odd + j)))) (omega arith)
        (store_pair L interleaved x (to + 2 * j) l _ _ sw (omega arith)
        (sw.rest (even + j) (omega arith) ∙ interleaved-even j (to + 2 * j) (omega arith) refl)
        (sw.rest (odd + j) (omega arith) ∙ interleaved-odd j (to + 2 * j + 1) h refl))

    pub interleave-last : 2 * j < n → Swept L interleaved x (to + 2 * j + 1) (set l (to + 2 * j) (at l (even + j)))
    interleave-last h = store _ sw (omega arith) (sw.rest (even + j) (omega arith) ∙ interleaved-even j (to + 2 * j) h refl)

    turn_on : (k q : ℕ) → 2 * j + k < n → q ≡ to + 2 * j + k → in_turn (even + j) (odd + j) (at l) k ≡ interleaved q
    turn_on k q h e =
        let m = k / 2 in
        elim (ℕ_discrete (k % 2) 0) [
          | yes z ↦
              let c : k ≡ 2 * m = omega arith in
              let d : even + j + m ≡ even + (j + m) = omega arith in
              ap (in_turn (even + j) (odd + j) (at l)) c ∙ first-is n _ _ x m ∙ sw.rest (even + j + m) (omega arith) ∙ ap x d
              ∙ interleaved-even (j + m) q (omega arith) (omega arith)
          | no z ↦
              let c : k ≡ 2 * m + 1 = omega arith in
              let d : odd + j + m ≡ odd + (j + m) = omega arith in
              ap (in_turn (even + j) (odd + j) (at l)) c ∙ second_is n _ _ x m ∙ sw.rest (odd + j + m) (omega arith) ∙ ap x d
              ∙ interleaved-odd (j + m) q (omega arith) (omega arith)
        ]

    -- the next m numbers laid at once
    pub interleave-on : (m : ℕ) (f : ℕ → ℤ) (r : List ℤ) → 2 * j + m ≤ n → ((k : ℕ) → k < m → f k ≡ in_turn (even + j) (odd + j) (at l) k) → length r ≡ L
        → at r ≡ spliced (to + 2 * j) m f (at l) → Swept L interleaved x (to + 2 * j + m) r
    interleave-on m f r h is size e =
        let q = to + 2 * j in
        record {
          size = size;
          done = λ i lt.
              ap (λ (g : ℕ → ℤ). g i) e
              ∙ elim (dec_lt i q) [
                | yes b ↦ splice-below q m f (at l) i b ∙ sw.done i b
                | no b ↦ splice-in q m f (at l) i (omega arith) lt ∙ is (i - q) (omega arith) ∙ turn_on (i - q) i (omega arith) (omega arith)
              ];
          rest = λ i le. ap (λ (g : ℕ → ℤ). g i) e ∙ splice-past q m f (at l) i le ∙ sw.rest i (omega arith);
        }

    pub interleave-eight : (v r : List ℤ) → 2 * j + 8 ≤ n → ((k : ℕ) → k < 8 → at v k ≡ in_turn (even + j) (odd + j) (at l) k) → length r ≡ L
        → at r ≡ spliced (to + 2 * j) 8 (at v) (at l) → Swept L interleaved x (to + 2 * (j + 4)) r
    interleave-eight v r h is size e = subst (λ (m : ℕ). Swept L interleaved x m r) (omega arith) (interleave-on 8 (at v) r h is size e)

    -- and all that are left
    pub interleave-end : (r : List ℤ) → 2 * j ≤ n → length r ≡ L
        → at r ≡ spliced (to + 2 * j) (n - 2 * j) (in_turn (even + j) (odd + j) (at l)) (at l) → at r ≡ interleaved
    interleave-end r h size e =
        finish (interleave-on (n - 2 * j) (in_turn (even + j) (odd + j) (at l)) r (omega arith) (λ k lt. refl) size e)
        (λ i le. splice-past to n _ x i (omega arith))

-- the even and the odd places of the row at place `from` in turn are the line
pub interleaved-line : (S : Side) (from to e o : ℕ) (x : ℕ → ℤ) → Halves S from e o
    → interleaved to e o S.length x ≡ spliced to S.length (joined S (halves_of S (windowed from S.length x))) x
interleaved-line S from to e o x h =
    let N = S.length in
    let w = windowed from N x in
    let y = joined S (halves_of S w) in
    let same : (i : ℕ) → i < N → in_turn e o x i ≡ y i = λ i lt.
    let m = i / 2 in
    elim (ℕ_discrete (i % 2) 0) [
      | yes z ↦
          let k : i ≡ 2 * m = omega arith in
          let d : e + m ≡ from + (begins S (evens S) + m) = omega arith in
          ap (in_turn e o x) k ∙ first-is N _ _ x m ∙ ap x d
          ∙ sym (ap y k ∙ even_place S (halves_of S w) m ∙ half-at S w (evens S) m ∙ window-in from N x (begins S (evens S) + m) (omega arith))
      | no z ↦
          let k : i ≡ 2 * m + 1 = omega arith in
          let d : o + m ≡ from + (begins S (odds S) + m) = omega arith in
          ap (in_turn e o x) k ∙ second_is N _ _ x m ∙ ap x d
          ∙ sym (ap y k ∙ odd_place S (halves_of S w) m ∙ half-at S w (odds S) m ∙ window-in from N x (begins S (odds S) + m) (omega arith))
    ] in
    fun_ext λ j.
    elim (dec_lt j to) [
      | yes b ↦ splice-below to N _ x j b ∙ sym (splice-below to N _ x j b)
      | no b ↦
          elim (dec_lt j (to + N)) [
            | yes c ↦ splice-in to N _ x j (omega arith) c ∙ same (j - to) (omega arith) ∙ sym (splice-in to N _ x j (omega arith) c)
            | no c ↦ splice-past to N _ x j (omega arith) ∙ sym (splice-past to N _ x j (omega arith))
          ]
    ]

-- ---- from a row x to the front of an area z, each number by f
module _ (S : Side) (f : ℤ → ℤ) (x z : ℕ → ℤ) where
  abbrev pub laid : ℕ → ℤ
  laid = fronted S.length (λ c. f (joined S (halves_of S x) c)) z

  module _ (even odd : ℕ) (h : Halves S 0 even odd) where
    laid-even : (j : ℕ) → 2 * j < S.length → f (x (even + j)) ≡ laid (2 * j)
    laid-even j b =
        let m : begins S (evens S) + j ≡ even + j = omega arith in
        sym (front_at S.length _ z (2 * j) b ∙ ap f (even_place S (halves_of S x) j ∙ half-at S x (evens S) j ∙ ap x m))

    laid-odd : (j : ℕ) → 2 * j + 1 < S.length → f (x (odd + j)) ≡ laid (2 * j + 1)
    laid-odd j b =
        let m : begins S (odds S) + j ≡ odd + j = omega arith in
        sym (front_at S.length _ z (2 * j + 1) b ∙ ap f (odd_place S (halves_of S x) j ∙ half-at S x (odds S) j ∙ ap x m))

    module _ (L j : ℕ) (l : List ℤ) (room : S.length ≤ L) (sw : Swept L laid z (2 * j) l) where
      pub lay-turn : 2 * j + 1 < S.length → Swept L laid z (2 * (j + 1)) (set (set l (2 * j) (f (x (even + j)))) (2 * j + 1) (f (x (odd + j))))
      lay-turn b =
          subst (λ (m : ℕ). Swept L laid z m (set (set l (2 * j) (f (x (even + j)))) (2 * j + 1) (f (x (odd + j))))) (omega arith)
          (store_pair L laid z (2 * j) l _ _ sw (omega arith) (laid-even j (omega arith)) (laid-odd j b))

      pub lay-last : 2 * j < S.length → Swept L laid z (2 * j + 1) (set l (2 * j) (f (x (even + j))))
      lay-last b = store _ sw (omega arith) (laid-even j b)

  -- the last height drawn, and the row with it
  pub finish-drawn : (L j : ℕ) (out : List ℕ) (l : List ℤ) → Swept L laid z (2 * j + 1) l → wholes out ≡ l → S.length ≤ 2 * j + 1 → heights_at out ≡ laid
  finish-drawn L j out l sw is h = finish-heights out (rw (← is) at sw) (λ i le. front_rest S.length _ z i (omega arith))
