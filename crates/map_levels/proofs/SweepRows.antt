-- A line of a sweep put into a row of the plane: its even columns to one half, its odd ones to the other, and the row lifted. Assumes nothing.
use mathlib.Core.Path.{◌≡◌, sym, ap, ◌∙◌, fun_ext}
use mathlib.Core.Logic.{◌⊎◌, inl, inr, ⊎_elim}
use Prim.Native.Nat.{ℕ, ◌+◌, ◌-◌, ◌*◌, ◌/◌, ◌%◌, ◌^◌, ◌≤◌, ◌<◌}
use native.Mathlib.Decide.{dec_lt, ℕ_discrete}
use native.Mathlib.Omega.{arith}
use lib.IntN.{ℤ, pos, nat_abs}
use Rattle.numbers.specs.Signal.{windowed, spliced}
use Rattle.numbers.specs.Word.{wrap32}
use Rattle.numbers.proofs.Parts.{window-in, splice-below, splice-in, splice-past}
use Rattle.lifting.specs.Grid.{Side, side, half, joined, line_forward}
use Rattle.lifting.specs.GridHalves.{halves_of, lifted_in_place, forward_into}
use Rattle.lifting.proofs.GridReads.{forward-reads}
use Rattle.areas.specs.Places.{begins}
use Rattle.areas.proofs.HalfLaws.{evens, odds, evens-first, odds-last, evens-last, odds-first, evens-fit, odds-fit}
use Rattle.areas.proofs.PartLaws.{half-at, even_place, odd_place}
use Rattle.wavelet.specs.Plane.{half_at, place_in}
use Rattle.map_levels.specs.Sweep.{line_half, line_at, short_lifted, SmallLine, line_lifted}
use Rattle.map_levels.proofs.CellLaws.{halves-half, half_in}
use Rattle.map_levels.proofs.ShortSums.{short-same}
use Rattle.map_levels.proofs.SweepLines.{column_place, even_place as even-column, odd_place as odd-column}

-- E and O are where the even and the odd columns begin in row r of the plane z, whose rows are s apart
module _ (s w r x base E O : ℕ) (L z x₁ x₂ : ℕ → ℤ) (e_e : E ≡ begins (side x w) (half x)) (e_o : O ≡ begins (side x w) (half (x + 1)))
    (e₁ : x₁ ≡ spliced (r * s + E) (w - w / 2) (windowed base (w - w / 2) L) z)
    (e₂ : x₂ ≡ spliced (r * s + O) (w / 2) (windowed (base + line_half) (w / 2) L) x₁) where
  abbrev S : Side
  S = side x w

  abbrev row : ℕ → ℤ
  row = windowed (r * s) w x₂

  -- they do not overlap
  pub apart : ((E + (w - w / 2) ≤ O) ⊎ (O + w / 2 ≤ E)) × (E + (w - w / 2) ≤ w) × (O + w / 2 ≤ w)
  apart =
      let a = evens-fit S in
      let b = odds-fit S in (
        elim (ℕ_discrete (x % 2) 0) [
          | yes e ↦ inl (omega (arith, evens-first S e, odds-last S e))
          | no d ↦ let o : x % 2 ≡ 1 = omega arith in inr (omega (arith, evens-last S o, odds-first S o))
        ],
        omega arith,
        omega arith,
      )

  put₁ : (j : ℕ) → x₁ j ≡ spliced (r * s + E) (w - w / 2) (windowed base (w - w / 2) L) z j
  put₁ j = ap (λ (f : ℕ → ℤ). f j) e₁

  put₂ : (j : ℕ) → x₂ j ≡ spliced (r * s + O) (w / 2) (windowed (base + line_half) (w / 2) L) x₁ j
  put₂ j = ap (λ (f : ℕ → ℤ). f j) e₂

  even-in : (j : ℕ) → j < w - w / 2 → x₂ (r * s + (E + j)) ≡ L (base + j)
  even-in j b =
      let k : r * s + (E + j) - (r * s + E) ≡ j = omega arith in
      put₂ (r * s + (E + j))
      ∙ ⊎_elim (λ l. splice-below (r * s + O) (w / 2) _ x₁ (r * s + (E + j)) (omega arith))
      (λ l. splice-past (r * s + O) (w / 2) _ x₁ (r * s + (E + j)) (omega arith)) apart.0
      ∙ put₁ (r * s + (E + j))
      ∙ splice-in (r * s + E) (w - w / 2) _ z (r * s + (E + j)) (omega arith) (omega arith)
      ∙ ap (windowed base (w - w / 2) L) k
      ∙ window-in base (w - w / 2) L j b

  odd-in : (j : ℕ) → j < w / 2 → x₂ (r * s + (O + j)) ≡ L (base + line_half + j)
  odd-in j b =
      let k : r * s + (O + j) - (r * s + O) ≡ j = omega arith in
      put₂ (r * s + (O + j))
      ∙ splice-in (r * s + O) (w / 2) _ x₁ (r * s + (O + j)) (omega arith) (omega arith)
      ∙ ap (windowed (base + line_half) (w / 2) L) k
      ∙ window-in (base + line_half) (w / 2) L j b

  -- the row is the line in halves
  line-is : (i : ℕ) → i < w → joined S (halves_of S row) i ≡ line_at base L i
  unfolding line_at
  line-is i b =
      let fit = apart in
      elim (ℕ_discrete (i % 2) 0) [
        | yes e ↦
            let j = i / 2 in
            let t : 2 * j ≡ i = omega arith in
            ap (joined S (halves_of S row)) (sym t)
            ∙ even_place S (halves_of S row) j
            ∙ half-at S row (evens S) j
            ∙ ap (λ (k : ℕ). row (k + j)) (sym e_e)
            ∙ window-in (r * s) w x₂ (E + j) (omega arith)
            ∙ even-in j (omega arith)
            ∙ ap (λ (k : ℕ). L (base + k)) (sym (even-column j))
            ∙ ap (λ (k : ℕ). L (base + column_place k)) t
        | no d ↦
            let j = i / 2 in
            let t : 2 * j + 1 ≡ i = omega arith in
            ap (joined S (halves_of S row)) (sym t)
            ∙ odd_place S (halves_of S row) j
            ∙ half-at S row (odds S) j
            ∙ ap (λ (k : ℕ). row (k + j)) (sym e_o)
            ∙ window-in (r * s) w x₂ (O + j) (omega arith)
            ∙ odd-in j (omega arith)
            ∙ ap L (omega arith)
            ∙ ap (λ (k : ℕ). L (base + k)) (sym (odd-column j))
            ∙ ap (λ (k : ℕ). L (base + column_place k)) t
      ]

  -- its numbers are the columns', so they are small where these are
  row_small : SmallLine w (line_at base L) → (j : ℕ) → j < w → nat_abs (row j) ≤ 2 ^ 27
  unfolding line_at
  row_small small j b =
      let fit = apart in
      let even : (k : ℕ) → k < w - w / 2 → j ≡ E + k → nat_abs (row j) ≤ 2 ^ 27 =
      λ k kb e. rw (ap row e ∙ window-in (r * s) w x₂ (E + k) (omega arith) ∙ even-in k kb ∙ ap (λ (i : ℕ). L (base + i)) (sym (even-column k)))
      (small (2 * k) (omega arith)) in
      let odd : (k : ℕ) → k < w / 2 → j ≡ O + k → nat_abs (row j) ≤ 2 ^ 27 =
      λ k kb e. rw (ap row e ∙ window-in (r * s) w x₂ (O + k) (omega arith) ∙ odd-in k kb ∙ ap L (omega arith)
      ∙ ap (λ (i : ℕ). L (base + i)) (sym (odd-column k))) (small (2 * k + 1) (omega arith)) in
      ⊎_elim
      (λ l. elim (dec_lt j O) [ yes h ↦ even (j - E) (omega arith) (omega arith) | no h ↦ odd (j - O) (omega arith) (omega arith) ])
      (λ l. elim (dec_lt j E) [ yes h ↦ odd (j - O) (omega arith) (omega arith) | no h ↦ even (j - E) (omega arith) (omega arith) ]) fit.0

  row_is : SmallLine w (line_at base L) → (i : ℕ) → i < w → short_lifted S row i ≡ line_lifted S (line_at base L) i
  unfolding lifted_in_place forward_into
  row_is small i b =
      short-same S row (row_small small) i b
      ∙ halves-half S (line_forward wrap32 S (joined S (halves_of S row))) row i b
      ∙ forward-reads wrap32 S _ _ (half_at S i) (place_in S i) (half_in S i b) (λ k kb _. line-is k kb)
      ∙ sym (halves-half S (line_forward wrap32 S (line_at base L)) (λ _. pos 0) i b)

  -- and nothing else has changed
  outside_low : (j : ℕ) → j < r * s → x₂ j ≡ z j
  outside_low j b =
      put₂ j ∙ splice-below (r * s + O) (w / 2) _ x₁ j (omega arith) ∙ put₁ j ∙ splice-below (r * s + E) (w - w / 2) _ z j (omega arith)

  outside_high : (j : ℕ) → r * s + w ≤ j → x₂ j ≡ z j
  outside_high j b =
      let fit = apart in
      put₂ j ∙ splice-past (r * s + O) (w / 2) _ x₁ j (omega arith) ∙ put₁ j ∙ splice-past (r * s + E) (w - w / 2) _ z j (omega arith)

  pub line-put : SmallLine w (line_at base L) → (x₃ : ℕ → ℤ) → x₃ ≡ spliced (r * s) w (short_lifted S row) x₂ →
      x₃ ≡ spliced (r * s) w (line_lifted S (line_at base L)) z
  line-put small x₃ is =
      is ∙ fun_ext λ j.
      elim (dec_lt j (r * s)) [
        | yes a ↦ splice-below (r * s) w _ x₂ j a ∙ outside_low j a ∙ sym (splice-below (r * s) w _ z j a)
        | no a ↦
            elim (dec_lt j (r * s + w)) [
              | yes b ↦ splice-in (r * s) w _ x₂ j (omega arith) b ∙ row_is small (j - r * s) (omega arith) ∙ sym (splice-in (r * s) w _ z j (omega arith) b)
              | no b ↦ splice-past (r * s) w _ x₂ j (omega arith) ∙ outside_high j (omega arith) ∙ sym (splice-past (r * s) w _ z j (omega arith))
            ]
      ]
