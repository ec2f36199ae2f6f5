-- A level's stretch of m rows, row by row: what a row fed, a row lifted back, a row changed by others, and a row taken from the next level leave of every row.
-- A row is told by its two halves, c : Half → ℕ → ℤ: the numbers of two bands, or the even and the odd coordinates of a line. Assumes nothing.
use mathlib.Core.Path.{◌≡◌, refl, sym, ap, subst, ◌∙◌}
use Prim.Native.Nat.{ℕ, ◌+◌, ◌-◌, ◌*◌, ◌/◌, ◌≤◌, ◌<◌}
use native.Mathlib.Decide.{dec_lt}
use native.Mathlib.Nat.{mod-lt, mod-add-div, mul-le-mul_left, mul-suc}
use native.Mathlib.Omega.{arith}
use lib.IntN.{ℤ}
use lib.Signed.{shr_z}
use Rattle.numbers.specs.Signal.{windowed, spliced}
use Rattle.numbers.proofs.Parts.{window-in, splice-below, splice-in, splice-past}
use Rattle.lifting.specs.Line.{Half, lo, hi}
use Rattle.lifting.specs.Grid.{Side, place, count, deinterleaved, joined, has_line}
use Rattle.lifting.specs.GridHalves.{halves_of, in_halves, has_line_in}
use Rattle.lifting.proofs.GridLaws as grid
use Rattle.lifting.proofs.GridLaws.{counts, place-in, joined-place, joined-deinterleaved, halves-low, halves-high}
use Rattle.lifting.proofs.SingleLaws.{has-reads}
use Rattle.lifting.proofs.RowLaws.{row-order, row-at, row-past, row_other}
use Rattle.wavelet.specs.Bands.{Band, across, down}
use Rattle.wavelet.specs.Levels.{next}
use Rattle.wavelet.specs.Order.{first_set}
use Rattle.level.specs.Stretch.{slot, row_place, local, row_of_set, half_place, band_fed, row_in, row_has_line, row_by, row_halved, low_row_taken, RowStands}
use Rattle.level.specs.Stretch.{row_unlifted}

-- ---- slots
module _ (m : ℕ) where
  no_gap : (a b : ℕ) → m * a < m * b → m * b < m * a + m → ⊥
  no_gap a b l g = elim (dec_lt a b) [
    | yes h ↦ let e = mul-le-mul_left m h in omega (arith, mul-suc m a)
    | no h ↦ let e = mul-le-mul_left m (at_most b a h) in omega arith
  ]
    where
      at_most : (b a : ℕ) → (a < b → ⊥) → b ≤ a
      at_most b a h = omega (arith, h)

  above : (r q : ℕ) → r < q → q < r + m → slot m r ≡ slot m q → ⊥
  above r q l g z = no_gap (r / m) (q / m) (omega (arith, mod-add-div r m, mod-add-div q m)) (omega (arith, mod-add-div r m, mod-add-div q m))

-- two rows less than m apart have two slots
pub apart : (m t q : ℕ) → (t ≡ q → ⊥) → t < q + m → q < t + m → slot m t ≡ slot m q → ⊥
apart m t q d a b z = elim (dec_lt t q) [
  | yes l ↦ above m t q l b z
  | no l ↦ above m q t (omega (arith, d)) a (sym z)
]

-- ---- the places of a row by its halves
pub half-end : (h : Half) (W : Side) → half_place h W + count h W ≤ W.length
unfolding half_place
half-end lo W = omega (arith, counts W)
half-end hi W = omega (arith, counts W)

pub half-inside : (h : Half) (W : Side) (i : ℕ) → i < count h W → half_place h W + i < W.length
half-inside h W i b = omega (arith, half-end h W)

pub by-halves : (W : Side) (P : ℕ → Type 0) → ((h : Half) (i : ℕ) → i < count h W → P (half_place h W + i)) → (j : ℕ) → j < W.length → P j
unfolding half_place
by-halves W P f j b = elim (dec_lt j (count lo W)) [
  | yes l ↦ subst P (omega arith) (f lo j l)
  | no l ↦ subst P (omega arith) (f hi (j - count lo W) (omega (arith, counts W)))
]

pub in-halves : (W : Side) (p : Half → ℕ → ℤ) (z : ℕ → ℤ) (h : Half) (i : ℕ) → i < count h W → in_halves W p z (half_place h W + i) ≡ p h i
unfolding half_place
in-halves W p z lo i b = let e : 0 + i ≡ i = omega arith in rw e (halves-low W p z i b)
in-halves W p z hi i b =
    let e : count lo W + i - count lo W ≡ i = omega arith in
    halves-high W p z (count lo W + i) (omega arith) (omega (arith, counts W)) ∙ ap (p hi) e

pub halves-at : (W : Side) (y : ℕ → ℤ) (h : Half) (i : ℕ) → halves_of W y h i ≡ y (half_place h W + i)
unfolding halves_of half_place
halves-at W y lo i = let e : 0 + i ≡ i = omega arith in rw e refl
halves-at W y hi i = refl

-- a line by its halves
pub joined-reads : (S : Side) (p : Half → ℕ → ℤ) (row : ℕ → ℤ) → ((h : Half) (i : ℕ) → i < count h S → p h i ≡ deinterleaved S row h i) → (i : ℕ)
    → i < S.length →
    joined S p i ≡ row i
joined-reads S p row e i b = grid.joined-reads S p (deinterleaved S row) e i b ∙ joined-deinterleaved S row i

-- y differs from x in the slot of row t alone, of the m
pub record Only (m w t : ℕ) (x y : ℕ → ℤ) : Type 0 where
  pub row : (q i : ℕ) → (slot m t ≡ slot m q → ⊥) → i < w → y (row_place m w q + i) ≡ x (row_place m w q + i)
  pub past : (j : ℕ) → m * w ≤ j → y j ≡ x j

module _ {m : ℕ} (some : 0 < m) where
  module _ (w t : ℕ) where
    -- a place of another row, and one past the m, is before row t or past it
    beside : (q i : ℕ) → (slot m t ≡ slot m q → ⊥) → i < w → (p n : ℕ) → row_place m w t ≤ p → p + n ≤ row_place m w t + w → (v x : ℕ → ℤ) →
        spliced p n v x (row_place m w q + i) ≡ x (row_place m w q + i)
    unfolding row_place
    beside q i d h p n a b v x =
        elim (dec_lt (slot m q) (slot m t)) [
          | yes l ↦ let o = row-order w (slot m q) (slot m t) l in splice-below p n v x (slot m q * w + i) (omega arith)
          | no l ↦ let o = row-order w (slot m t) (slot m q) (omega (arith, d)) in splice-past p n v x (slot m q * w + i) (omega arith)
        ]

    pub row-end : row_place m w t + w ≤ m * w
    unfolding row_place
    row-end = row-order w (slot m t) m (mod-lt t some)

    pub only-splice : (p n : ℕ) → row_place m w t ≤ p → p + n ≤ row_place m w t + w → (v x : ℕ → ℤ) → Only m w t x (spliced p n v x)
    only-splice p n a b v x = record {
      row = λ q i d h. beside q i d h p n a b v x;
      past = λ j h. splice-past p n v x j (omega (arith, row-end));
    }

    pub only-by : (f : ℤ → ℤ → ℤ → ℤ) (l r : ℕ) (x : ℕ → ℤ) → Only m w t x (row_by m f w t l r x)
    unfolding row_by row_place
    only-by f l r x = record {
      row = λ q i d h. row_other f w w (slot m t) (slot m l) (slot m r) x (slot m q) i (λ z. d (sym z)) (omega arith) h;
      past = λ j h. row-past f w w (slot m t) (slot m l) (slot m r) x j (omega (arith, row-order w (slot m t) m (mod-lt t some)));
    }

  -- what stands in another slot still does
  pub is-old : (W : Side) (t : ℕ) (x y : ℕ → ℤ) (q : ℕ) (c : Half → ℕ → ℤ) → Only m W.length t x y → (slot m t ≡ slot m q → ⊥) →
      RowStands m W x q c → RowStands m W y q c
  is-old W t x y q c o d e h i b = o.row q (half_place h W + i) d (half-inside h W i b) ∙ e h i b

  -- ---- a band row fed
  module _ (W : Side) (b : Band) (n : ℕ) (v x : ℕ → ℤ) where
    abbrev row : ℕ
    row = row_place m W.length (row_of_set (down b) n)

    pub only-fed : Only m W.length (row_of_set (down b) n) x (band_fed m W b n v x)
    unfolding band_fed
    only-fed = only-splice W.length (row_of_set (down b) n) _ _ (omega arith) (omega (arith, half-end (across b) W)) v x

    pub fed-here : (h : Half) → across b ≡ h → (i : ℕ) → i < count h W → band_fed m W b n v x (row + (half_place h W + i)) ≡ v i
    unfolding band_fed
    fed-here h e i p =
        let f : row + (half_place h W + i) ≡ row + half_place (across b) W + i = omega (arith, ap (λ (u : Half). half_place u W) e) in
        let q : i < count (across b) W = rw e p in
        let g : row + half_place (across b) W + i - (row + half_place (across b) W) ≡ i = omega arith in
        ap (spliced _ _ v x) f ∙ splice-in _ _ v x _ (omega arith) (omega arith) ∙ ap v g

    pub fed-beside : (h : Half) → (across b ≡ h → ⊥) → (i : ℕ) → i < count h W → band_fed m W b n v x (row + (half_place h W + i)) ≡ x (row + (half_place h W + i))
    unfolding band_fed
    fed-beside h d i p = go (across b) h d p
      where
        go : (a h : Half) → (a ≡ h → ⊥) → i < count h W →
            spliced (row + half_place a W) (count a W) v x (row + (half_place h W + i)) ≡ x (row + (half_place h W + i))
        go lo lo d p = absurd (d refl)
        go lo hi d p = splice-past _ _ v x _ (unfold half_place in omega arith)
        go hi lo d p = splice-below _ _ v x _ (unfold half_place in omega arith)
        go hi hi d p = absurd (d refl)

  -- ---- a row lifted back
  -- the halves of a row, as they are read from memory
  pub row-halves : (W : Side) (x : ℕ → ℤ) (q : ℕ) (c : Half → ℕ → ℤ) → RowStands m W x q c → (h : Half) (i : ℕ) → i < count h W →
      halves_of W (row_in m W.length q x) h i ≡ c h i
  unfolding row_in
  row-halves W x q c e h i b =
      halves-at W _ h i ∙ window-in (row_place m W.length q) W.length x (half_place h W + i) (half-inside h W i b) ∙ e h i b

  module _ (back : Side → (ℕ → ℤ) → ℕ → ℤ) (W : Side) (q : ℕ) (x : ℕ → ℤ) where
    pub only-unlifted : Only m W.length q x (row_unlifted m back W q x)
    unfolding row_unlifted
    only-unlifted = only-splice W.length q _ _ (omega arith) (omega arith) _ x

    -- the row becomes what is made of it in place
    pub unlifted-by : (p : Half → ℕ → ℤ) → back W (row_in m W.length q x) ≡ in_halves W p (row_in m W.length q x) →
        RowStands m W (row_unlifted m back W q x) q p
    unfolding row_unlifted
    unlifted-by p is h i b =
        let f : row_place m W.length q + (half_place h W + i) - row_place m W.length q ≡ (half_place h W + i) = omega arith in
        splice-in _ _ _ x _ (omega arith) (omega (arith, half-inside h W i b))
        ∙ ap (back W (row_in m W.length q x)) f
        ∙ ap (λ (y : ℕ → ℤ). y (half_place h W + i)) is
        ∙ in-halves W p _ h i b

  module _ (W : Side) (q : ℕ) (x : ℕ → ℤ) where
    -- the test tells whether it is a line's
    pub line-is : (c : Half → ℕ → ℤ) → RowStands m W x q c → row_has_line m W q x ≡ has_line W c
    unfolding row_has_line has_line_in
    line-is c e = has-reads W _ c (row-halves W x q _ e)

  -- ---- a row changed by two others
  pub by-is : (f : ℤ → ℤ → ℤ → ℤ) (W : Side) (t l r : ℕ) (x : ℕ → ℤ) (a b c : Half → ℕ → ℤ) → RowStands m W x t a → RowStands m W x l b → RowStands m W x r c →
      RowStands m W (row_by m f W.length t l r x) t (λ h i. f (a h i) (b h i) (c h i))
  unfolding row_by row_place
  by-is f W t l r x a b c p q s h i z =
      row-at f W.length W.length (slot m t) (slot m l) (slot m r) x (half_place h W + i) (half-inside h W i z)
      ∙ (λ j. f (p h i z j) (q h i z j) (s h i z j))

  -- ---- a row halved
  module _ (W : Side) (q : ℕ) (x : ℕ → ℤ) where
    pub only-halved : Only m W.length q x (row_halved m W.length q x)
    unfolding row_halved
    only-halved = only-splice W.length q _ _ (omega arith) (omega arith) _ x

    pub halved_is : (c : Half → ℕ → ℤ) → RowStands m W x q c → RowStands m W (row_halved m W.length q x) q (λ h i. shr_z (c h i) 2)
    unfolding row_halved row_in
    halved_is c e h i b =
        let f : row_place m W.length q + (half_place h W + i) - row_place m W.length q ≡ (half_place h W + i) = omega arith in
        splice-in _ _ _ x _ (omega arith) (omega (arith, half-inside h W i b))
        ∙ ap (λ (j : ℕ). shr_z (windowed (row_place m W.length q) W.length x j) 2) f
        ∙ ap (λ (v : ℤ). shr_z v 2) (window-in (row_place m W.length q) W.length x (half_place h W + i) (half-inside h W i b) ∙ e h i b)

  -- ---- a line read out of its slot says what stands there by halves
  pub half-reads : (W : Side) (x : ℕ → ℤ) (q : ℕ) (row : ℕ → ℤ) → ((i : ℕ) → i < W.length → joined W (halves_of W (row_in m W.length q x)) i ≡ row i) →
      (h : Half) (i : ℕ) → i < count h W → x (row_place m W.length q + (half_place h W + i)) ≡ deinterleaved W row h i
  unfolding row_in deinterleaved
  half-reads W x q row e h i b =
      sym (halves-at W _ h i ∙ window-in (row_place m W.length q) W.length x (half_place h W + i) (half-inside h W i b))
      ∙ sym (joined-place W (halves_of W (windowed (row_place m W.length q) W.length x)) h i) ∙ e (place W h i) (place-in W h i b)

  -- ---- the low-low row taken from the next level
  module _ (W H : Side) (n : ℕ) (x : ℕ → ℤ) where
    pub only-taken : Only m W.length (2 * n) x (low_row_taken m W H n x)
    unfolding low_row_taken
    only-taken = only-splice W.length (2 * n) _ _ (omega arith) (omega (arith, counts W)) _ x

    abbrev from : ℕ
    from = row_place m (count lo W) (local (next H).start (n - first_set H lo))

    pub taken_is : (row : ℕ → ℤ) →
        ((h : Half) (i : ℕ) → i < count h (next W) → x (m * W.length + (from + (half_place h (next W) + i))) ≡ deinterleaved (next W) row h i) →
        (i : ℕ) → i < count lo W → low_row_taken m W H n x (row_place m W.length (2 * n) + (half_place lo W + i)) ≡ row i
    unfolding low_row_taken half_place next
    taken_is row e i b =
        let f : row_place m W.length (2 * n) + (0 + i) - row_place m W.length (2 * n) ≡ i = omega arith in
        splice-in _ _ _ x _ (omega arith) (omega arith)
        ∙ ap (joined (next W) _) f
        ∙ joined-reads (next W) _ row read i b
      where
        read : (h : Half) (i : ℕ) → i < count h (next W) →
            halves_of (next W) (windowed (m * W.length + from) (count lo W) x) h i ≡ deinterleaved (next W) row h i
        read h i b =
            let g : m * W.length + from + (half_place h (next W) + i) ≡ m * W.length + (from + (half_place h (next W) + i)) = omega arith in
            halves-at (next W) _ h i ∙ window-in _ (count lo W) x (half_place h (next W) + i) (half-inside h (next W) i b) ∙ ap x g ∙ e h i b

    pub taken-beside : (i : ℕ) → i < count hi W →
        low_row_taken m W H n x (row_place m W.length (2 * n) + (half_place hi W + i)) ≡ x (row_place m W.length (2 * n) + (half_place hi W + i))
    unfolding low_row_taken half_place
    taken-beside i b = splice-past _ _ _ x _ (omega arith)
