-- What the calls of the way forward come to: heights laid in halves, a grid copied and spread, a row lifted. Assumes nothing.
use mathlib.Core.Path.{◌≡◌, refl, sym, ap, ◌∙◌, fun_ext}
use mathlib.Core.List.{List}
use Prim.Native.Nat.{ℕ, ◌+◌, ◌-◌, ◌*◌, ◌/◌, ◌%◌, ◌^◌, ◌≤◌, ◌<◌}
use mir.Syntax.{w64}
use mir.Val.{Fits}
use native.Mathlib.Decide.{dec_lt, ℕ_discrete}
use native.Mathlib.Omega.{arith}
use lib.IntN.{ℤ}
use lib.Dec.{leb}
use lib.ListN.{length}
use borrow.Rule.Slice.PartMut.{mid_of, put_mid}
use borrow.Author.Tests.{le-leb}
use Rattle.numbers.specs.Signal.{at, pick, windowed, spliced}
use Rattle.numbers.proofs.Parts.{window-in, splice-in, splice-past, length-mid}
use Rattle.lifting.specs.Line.{Half, lo, hi}
use Rattle.lifting.specs.Grid.{Side, side, count, place, deinterleaved}
use Rattle.lifting.specs.Halves.{fronted}
use Rattle.lifting.specs.GridHalves.{in_halves, deinterleaved_into}
use Rattle.lifting.proofs.GridLaws.{counts, halves-low, halves-high}
use Rattle.lifting.proofs.RowLaws.{row-order}
use Rattle.areas.proofs.AreaLaws.{front_at, front_rest, did}
use Rattle.areas.proofs.Splices.{splice-swap}
use Rattle.wavelet.specs.Bands.{Grid}
use Rattle.wavelet.specs.Plane.{cells, flat}
use Rattle.map_levels.specs.Rowwise.{heights_at, cut, deinterleaved_in_place}
use Rattle.map_levels.specs.Passes.{Rows, level_row, grid_halved, grid_copied}
use Rattle.map_levels.proofs.GridSweep.{RowSwept, Fronts, row_room, few as rows_few, fronts-turn, fronts-end, fronts-last, fronts-high}
use Rattle.map_levels.proofs.RowwiseLaws.{cut_in, cut-deinterleaved}
use Rattle.map_levels.proofs.HeightRows.{heights-length, heights-row}
use Rattle.map_levels.proofs.CellLaws.{level-low, level-high, outside-rows, halved-in, halved-out, copied-in, copied-out, outside-columns}
use Rattle.map_levels.proofs.LevelCalls.{moved-part, lent-part, mid-length, same_parts, row-lent, fill-turn}

-- within the halves, memory does not count
halves-inside : (S : Side) (p : Half → ℕ → ℤ) (y z : ℕ → ℤ) (c : ℕ) → c < S.length → in_halves S p y c ≡ in_halves S p z c
halves-inside S p y z c h =
    elim (dec_lt c (count lo S)) [
      | yes a ↦ halves-low S p y c a ∙ sym (halves-low S p z c a)
      | no d ↦ halves-high S p y c (omega arith) h ∙ sym (halves-high S p z c (omega arith) h)
    ]

-- ---- a part laid in halves in another, and a part changed in place, as a line is lifted; x is where they start on the grid
pub halved-part : (x a b n k k' : ℕ) (from to z : List ℤ) → k ≡ n → k' ≡ n → a + n ≤ length from → b + n ≤ length to → length z ≡ length (mid_of b k to) →
    at z ≡ pick (leb (length (mid_of a k' from)) (length (mid_of b k to)))
    (deinterleaved_into (side x (length (mid_of a k' from))) (at (mid_of a k' from)) (at (mid_of b k to))) (at (mid_of b k to)) →
    at (put_mid b k to z) ≡ spliced b n (deinterleaved_in_place (side x n) (windowed a n (at from))) (at to)
unfolding deinterleaved_in_place deinterleaved_into
halved-part x a b n k k' from to z e e' fa fb size is =
    let y = windowed a n (at from) in
    let mid = mid-length a b n k k' from to z e e' fa fb size in
    let room = le-leb (length (mid_of a k' from)) (length (mid_of b k to)) (omega (arith, same_parts a b n k k' from to z e e' fa fb size)) in
    let is' : at z ≡ in_halves (side x n) (deinterleaved (side x n) y) (at (mid_of b k to)) = cc (did _ _ _ _ room is, mid, lent-part a n k' from e') in
    moved-part b n k to z _ e fb size (λ i h. ap (λ (u : ℕ → ℤ). u i) is' ∙ halves-inside (side x n) (deinterleaved (side x n) y) _ y i h)

pub changed-part : (F : Side → (ℕ → ℤ) → ℕ → ℤ) (x a n k : ℕ) (l z : List ℤ) → k ≡ n → a + n ≤ length l → length z ≡ length (mid_of a k l) →
    at z ≡ F (side x (length (mid_of a k l))) (at (mid_of a k l)) → at (put_mid a k l z) ≡ spliced a n (F (side x n) (windowed a n (at l))) (at l)
changed-part F x a n k l z e room size is =
    let mid : length (mid_of a k l) ≡ n = length-mid a k l (omega arith) ∙ e in
    let is' : at z ≡ F (side x n) (windowed a n (at l)) = cc (is, mid, lent-part a n k l e) in
    moved-part a n k l z _ e room size (λ i h. ap (λ (y : ℕ → ℤ). y i) is')

-- each number of a part at the front changed by f
pub mapped-part : (f : ℤ → ℤ) (n k : ℕ) (l z : List ℤ) → k ≡ n → n ≤ length l → length z ≡ length (mid_of 0 k l) →
    at z ≡ fronted (length (mid_of 0 k l)) (λ i. f (at (mid_of 0 k l) i)) (at (mid_of 0 k l)) → at (put_mid 0 k l z) ≡ fronted n (λ i. f (at l i)) (at l)
mapped-part f n k l z e room size is =
    let mid : length (mid_of 0 k l) ≡ n = length-mid 0 k l (omega arith) ∙ e in
    moved-part 0 n k l z (λ i. f (at l i)) e (omega arith) size
    (λ i h.
    let t : 0 + i ≡ i = omega arith in
    ap (λ (u : ℕ → ℤ). u i) is
    ∙ front_at _ _ _ i (omega arith)
    ∙ ap f (ap (λ (u : ℕ → ℤ). u i) (lent-part 0 n k l e) ∙ window-in 0 n (at l) i h ∙ ap (at l) t))
    ∙ fun_ext λ j.
    elim (dec_lt j n) [
      | yes a ↦ splice-in 0 n _ (at l) j (omega arith) (omega arith) ∙ ap (λ (i : ℕ). f (at l i)) (omega arith) ∙ sym (front_at n _ _ j a)
      | no a ↦ splice-past 0 n _ (at l) j (omega arith) ∙ sym (front_rest n _ _ j (omega arith))
    ]

-- ---- heights g, row m of them laid in halves in row i of the plane
pub height-part : (x w m i k k' : ℕ) (g : List ℕ) (l z : List ℤ) → 0 < w → k ≡ w → k' ≡ w → m * w + w ≤ length g → i * w + w ≤ length l →
    length z ≡ length (mid_of (i * w) k l) →
    at z ≡ pick (leb (length (mid_of (m * w) k' g)) (length (mid_of (i * w) k l)))
    (deinterleaved_into (side x (length (mid_of (m * w) k' g))) (heights_at (mid_of (m * w) k' g)) (at (mid_of (i * w) k l))) (at (mid_of (i * w) k l)) →
    at (put_mid (i * w) k l z) ≡ spliced (i * w) w (deinterleaved_in_place (side x w) (cells w (heights_at g) m)) (at l)
unfolding deinterleaved_in_place deinterleaved_into
height-part x w m i k k' g l z some e e' fg fl size is =
    let S = side x w in
    let G = cells w (heights_at g) m in
    let t : m + 1 - 1 ≡ m = omega arith in
    let R : Rows (length g) w w (m + 1) = record { apart = some; wide = omega arith; some = omega arith; room = rw t fg } in
    let long = heights-length w w (m + 1) m k' e' (omega arith) g R in
    let mid = length-mid (i * w) k l (omega arith) in
    let room = le-leb (length (mid_of (m * w) k' g)) (length (mid_of (i * w) k l)) (omega arith) in
    let is' : at z ≡ in_halves S (deinterleaved S G) (at (mid_of (i * w) k l)) =
    cc (did _ _ _ _ room is, long, heights-row w w (m + 1) m k' e' (omega arith) g, cut-deinterleaved S G (at (mid_of (i * w) k l))) in
    moved-part (i * w) w k l z _ e fl size (λ c h. ap (λ (u : ℕ → ℤ). u c) is' ∙ halves-inside S (deinterleaved S G) _ G c h)

-- where the last row of an odd number goes: b is the parity of the first, `low` the number of low rows
pub last_row : (H : Side) (low b : ℕ) → low ≡ count lo H → b ≡ H.start % 2 → b * low + H.length / 2 + H.length % 2 ≤ H.length
unfolding count
last_row H low b el eb =
    elim (ℕ_discrete b 0) [
      | yes z ↦ let m : b * low ≡ 0 = rw z (omega arith) in omega arith
      | no d ↦
          let one : b ≡ 1 = omega arith in
          let m : b * low ≡ low = rw one (omega arith) in
          omega arith
    ]

-- and where the second row of a pair goes
pub second-row : (low b p h : ℕ) → low + p ≤ h → (1 - b) * low + p ≤ h
second-row low b p h e =
    elim (ℕ_discrete b 0) [
      | yes z ↦ let m : (1 - b) * low ≡ low = rw z (omega arith) in omega arith
      | no d ↦
          let n : 1 - b ≡ 0 = omega (arith, d) in
          let m : (1 - b) * low ≡ 0 = rw n (omega arith) in
          omega arith
    ]

-- ---- the rows of a map read two at a turn: b is the parity of the first, and an area of m numbers takes them
pub record Pairs (m y height b low pairs : ℕ) : Type 0 where
  pub parity : b ≡ y % 2
  pub lows : low ≡ count lo (side y height)
  pub half : pairs ≡ height / 2
  pub firsts : b * low + pairs + height % 2 ≤ height
  pub seconds : (1 - b) * low + pairs ≤ height
  pub few : height ≤ m + 1
  pub small : m < 2 ^ 63

pub pairs-of : (m w y height low : ℕ) → Rows m w w height → low ≡ count lo (side y height) → m < 2 ^ 63 → Pairs m y height (y % 2) low (height / 2)
unfolding count
pairs-of m w y height low R e small =
    record {
      parity = refl;
      lows = e;
      half = refl;
      firsts = last_row (side y height) low (y % 2) e refl;
      seconds = second-row low (y % 2) (height / 2) height (omega arith);
      few = rows_few m w w height R;
      small = small;
    }

module _ (m y height b low pairs n : ℕ) (P : Pairs m y height b low pairs) where
  -- the sums and products of a turn
  pub pair-sums : n < pairs → Fits w64 (2 * n) × Fits w64 (b * low) × Fits w64 (b * low + n) × Fits w64 (2 * n + 1) × (b ≤ 1) × Fits w64 ((1 - b) * low)
      × Fits w64 ((1 - b) * low + n) × Fits w64 (n + 1)
  pair-sums below = omega arith

  pub last-sums : n ≤ pairs → Fits w64 (2 * n)
  last-sums below = omega arith

  pub odd-sums : n ≤ pairs → 2 * n < height → Fits w64 (b * low) × Fits w64 (b * low + n)
  odd-sums below odd = omega arith

  -- and the rows: k numbers of heights, and the plane as long as it was
  module _ (k m' w : ℕ) (R : Rows k w w height) (Q : Rows m w w height) (size : m' ≡ m) where
    pub first_load : n < pairs → (0 < w) × (2 * n * w + w ≤ k) × ((b * low + n) * w + w ≤ m')
    first_load below =
        let h = P.half in
        let f = P.firsts in
        (R.apart, row_room k w w height (2 * n) R (omega arith), rw size (row_room m w w height (b * low + n) Q (omega arith)))

    pub second-load : n < pairs → (0 < w) × ((2 * n + 1) * w + w ≤ k) × (((1 - b) * low + n) * w + w ≤ m')
    second-load below =
        let h = P.half in
        let f = P.seconds in
        (R.apart, row_room k w w height (2 * n + 1) R (omega arith), rw size (row_room m w w height ((1 - b) * low + n) Q (omega arith)))

    pub odd-load : n ≤ pairs → 2 * n < height → (0 < w) × (2 * n * w + w ≤ k) × ((b * low + n) * w + w ≤ m')
    odd-load below odd =
        let h = P.half in
        let f = P.firsts in
        (R.apart, row_room k w w height (2 * n) R odd, rw size (row_room m w w height (b * low + n) Q (omega arith)))

  pub pairs-on : n < pairs → (n + 1 ≤ pairs) × (n < height / 2)
  pairs-on below = let h = P.half in (omega arith, omega arith)

  pub pairs_end : n ≤ pairs → pairs ≤ n → 2 * n < height → 2 * n + 1 ≡ height
  pairs_end below past odd = let h = P.half in omega arith

-- the grid of them, a low row and a high one a turn; the last of an odd number is alone
module _ (W H : Side) (G : Grid) (x₀ : ℕ → ℤ) where
  abbrev w : ℕ
  w = W.length

  abbrev laid : Grid
  laid = grid_halved W H G (cells w x₀)

  abbrev pub Laid : ℕ → (ℕ → ℤ) → Type 0
  Laid k x = Fronts w (count lo H) laid (cells w x₀) k x

  laid-past : (r c : ℕ) → H.length ≤ r → laid r c ≡ cells w x₀ r c
  laid-past r c b = halved-out W H G (cells w x₀) r c (outside-rows w H.length r c b)

  laid-wide : (r c : ℕ) → w ≤ c → laid r c ≡ cells w x₀ r c
  laid-wide r c b = halved-out W H G (cells w x₀) r c (outside-columns w H.length r c b)

  low-laid : (k : ℕ) → k < count lo H → (c : ℕ) → c < w → deinterleaved_in_place W (G (place H lo k)) c ≡ laid k c
  low-laid k kl c cw =
      let both = counts H in
      sym (halved-in W H G (cells w x₀) k c (omega arith) cw ∙ ap (λ (r : ℕ). deinterleaved_in_place W (G r) c) (level-low H k kl))

  high-laid : (k : ℕ) → k < count hi H → (c : ℕ) → c < w → deinterleaved_in_place W (G (place H hi k)) c ≡ laid (count lo H + k) c
  high-laid k kh c cw =
      let both = counts H in
      let t : count lo H + k - count lo H ≡ k = omega arith in
      sym (halved-in W H G (cells w x₀) (count lo H + k) c (omega arith) cw ∙
      ap (λ (r : ℕ). deinterleaved_in_place W (G r) c) (level-high H (count lo H + k) (omega arith) ∙ ap (place H hi) t))

  -- what the loop reads of the rows: b is the parity of the first, `low` the number of low rows
  module _ (low b : ℕ) (el : low ≡ count lo H) (eb : b ≡ H.start % 2) where
    laid-pair : (k : ℕ) (x x₁ x₂ : ℕ → ℤ) → k < H.length / 2 → x₁ ≡ spliced (k * w) w (deinterleaved_in_place W (G (2 * k + H.start % 2))) x →
        x₂ ≡ spliced ((count lo H + k) * w) w (deinterleaved_in_place W (G (2 * k + (1 - H.start % 2)))) x₁ → Laid k x → Laid (k + 1) x₂
    unfolding count place
    laid-pair k x x₁ x₂ kh f₁ f₂ sw =
        fronts-turn w (count lo H) _ _ w k (omega arith) (omega arith) _ x x₁ f₁ (low-laid k (omega arith)) (laid-wide k) sw _ x₂ f₂
        (high-laid k (omega arith)) (laid-wide (count lo H + k))

    low-some : (k : ℕ) → k < H.length / 2 → 0 < count lo H
    unfolding count
    low-some k h = omega arith

    -- the two rows are read one after the other, whichever of them is low
    pub laid-turn : (k : ℕ) (x x₁ x₂ : ℕ → ℤ) → k < H.length / 2 → x₁ ≡ spliced ((b * low + k) * w) w (deinterleaved_in_place W (G (2 * k))) x →
        x₂ ≡ spliced (((1 - b) * low + k) * w) w (deinterleaved_in_place W (G (2 * k + 1))) x₁ → Laid k x → Laid (k + 1) x₂
    laid-turn k x x₁ x₂ kh e₁ e₂ sw =
        elim (ℕ_discrete b 0) [
          | yes z ↦
              let m : b * low + k ≡ k = rw z (omega arith) in
              let o : (1 - b) * low + k ≡ count lo H + k = rw z (omega arith) in
              let p : 2 * k ≡ 2 * k + H.start % 2 = omega arith in
              let q : 2 * k + 1 ≡ 2 * k + (1 - H.start % 2) = omega arith in
              laid-pair k x x₁ x₂ kh (rw (m, p) at e₁) (rw (o, q) at e₂) sw
          | no d ↦
              let one : b ≡ 1 = omega arith in
              let m : b * low + k ≡ count lo H + k = rw one (omega arith) in
              let o : (1 - b) * low + k ≡ k = rw one (omega arith) in
              let p : 2 * k ≡ 2 * k + (1 - H.start % 2) = omega arith in
              let q : 2 * k + 1 ≡ 2 * k + H.start % 2 = omega arith in
              let A = deinterleaved_in_place W (G (2 * k + H.start % 2)) in
              let B = deinterleaved_in_place W (G (2 * k + (1 - H.start % 2))) in
              let f₁ : x₁ ≡ spliced ((count lo H + k) * w) w B x = rw (m, p) at e₁ in
              let f₂ : x₂ ≡ spliced (k * w) w A x₁ = rw (o, q) at e₂ in
              let some : 0 < count lo H = low-some k kh in
              laid-pair k x (spliced (k * w) w A x) x₂ kh refl
              (f₂ ∙ ap (spliced (k * w) w A) f₁ ∙ splice-swap (k * w) w ((count lo H + k) * w) w A B x (row-order w k (count lo H + k) (omega arith))) sw
        ]

    pub laid-even : (k : ℕ) (x : ℕ → ℤ) → 0 < w → H.length ≤ 2 * k → Laid k x → x ≡ flat w laid
    unfolding count
    laid-even k x some d sw = fronts-end w (count lo H) _ _ H.length k x some (omega arith) (omega arith) laid-past sw (omega arith)

    pub laid-odd : (k : ℕ) (x x₁ : ℕ → ℤ) → 0 < w → 2 * k + 1 ≡ H.length → x₁ ≡ spliced ((b * low + k) * w) w (deinterleaved_in_place W (G (2 * k))) x
        → Laid k x →
        x₁ ≡ flat w laid
    unfolding count place
    laid-odd k x x₁ some ek e₁ sw =
        elim (ℕ_discrete b 0) [
          | yes z ↦
              let m : b * low + k ≡ k = rw z (omega arith) in
              let p : 2 * k ≡ 2 * k + H.start % 2 = omega arith in
              let f₁ : x₁ ≡ spliced (k * w) w (deinterleaved_in_place W (G (2 * k + H.start % 2))) x = rw (m, p) at e₁ in
              fronts-last w (count lo H) _ _ w k (omega arith) (omega arith) _ x x₁ f₁ (low-laid k (omega arith)) (laid-wide k) sw H.length some
              (omega arith) (omega arith) laid-past
          | no d ↦
              let one : b ≡ 1 = omega arith in
              let m : b * low + k ≡ count lo H + k = rw one (omega arith) in
              let p : 2 * k ≡ 2 * k + (1 - H.start % 2) = omega arith in
              let f₁ : x₁ ≡ spliced ((count lo H + k) * w) w (deinterleaved_in_place W (G (2 * k + (1 - H.start % 2)))) x = rw (m, p) at e₁ in
              fronts-high w (count lo H) _ _ w k H.length _ x x₁ some (omega arith) (omega arith) (omega arith) f₁ (high-laid k (omega arith))
              (laid-wide (count lo H + k)) laid-past sw
        ]

-- ---- a grid copied, and laid in halves
pub copied-turn : (A s w h i : ℕ) (z x₀ x x' : ℕ → ℤ) → w ≤ s → i < h → x' ≡ spliced (i * s) w (windowed (i * A) w z) x →
    RowSwept s (grid_copied w h (cells A z) (cells s x₀)) (cells s x₀) i x → RowSwept s (grid_copied w h (cells A z) (cells s x₀)) (cells s x₀) (i + 1) x'
copied-turn A s w h i z x₀ x x' ws ih is sw =
    fill-turn s w h i _ _ (windowed (i * A) w z) x x' ws is
    (λ c cw. ap (λ (u : ℕ → ℤ). u c) (row-lent A w i z) ∙ cut_in w (cells A z i) c cw ∙ sym (copied-in w h (cells A z) (cells s x₀) i c ih cw))
    (λ c b. copied-out w h (cells A z) (cells s x₀) i c (outside-columns w h i c b))
    sw

pub halved-turn : (s A : ℕ) (W H : Side) (i l : ℕ) (x z₀ z z' : ℕ → ℤ) → W.length ≤ A → i < H.length → l ≡ level_row H i →
    z' ≡ spliced (i * A) W.length (deinterleaved_in_place W (windowed (l * s) W.length x)) z →
    RowSwept A (grid_halved W H (cells s x) (cells A z₀)) (cells A z₀) i z → RowSwept A (grid_halved W H (cells s x) (cells A z₀)) (cells A z₀) (i + 1) z'
unfolding deinterleaved_in_place
halved-turn s A W H i l x z₀ z z' wa ih e is sw =
    let v = W.length in
    let y = windowed (l * s) v x in
    let g = cells s x (level_row H i) in
    fill-turn A v H.length i _ _ (in_halves W (deinterleaved W y) y) z z' wa is
    (λ c cw.
    ap (λ (u : ℕ → ℤ). in_halves W (deinterleaved W u) y c) (row-lent s v l x ∙ ap (λ (m : ℕ). cut v (cells s x m)) e)
    ∙ ap (λ (u : ℕ → ℤ). u c) (cut-deinterleaved W g y)
    ∙ halves-inside W (deinterleaved W g) y g c cw
    ∙ sym (halved-in W H (cells s x) (cells A z₀) i c ih cw))
    (λ c b. halved-out W H (cells s x) (cells A z₀) i c (outside-columns v H.length i c b))
    sw
