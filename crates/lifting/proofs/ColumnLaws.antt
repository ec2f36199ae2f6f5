-- Row steps in one pass over the columns: one column more of a row step is that step in the column (`column-more`), and a row step on columns before it
-- can come before or after (`column-swap`). So a pass that does several steps in each column is the steps, each over the whole row. Assumes nothing.
use mathlib.Core.Path.{◌≡◌, refl, sym, ap, ◌∙◌, fun_ext}
use mathlib.Core.List.{List}
use mathlib.Core.Bool.{true, false, false≢true}
use Prim.Native.Nat.{ℕ, zero, suc, ◌+◌, ◌-◌, ◌*◌, ◌≤◌, ◌<◌}
use native.Mathlib.Decide.{ℕ_discrete, dec_lt}
use native.Mathlib.Omega.{arith}
use lib.IntN.{ℤ, pos}
use lib.ListN.{length, set, length-set}
use lib.Seq.{get_or-set_same, get_or-set_other}
use borrow.Author.Tests.{eq-eqb, ne_eqb}
use Rattle.numbers.specs.Signal.{at, stored, pick}
use Rattle.numbers.specs.Word.{wrap32}
use Rattle.numbers.proofs.Stores.{stored_at, stored-off, at_stored}
use Rattle.numbers.proofs.Sweep.{both}
use Rattle.lifting.specs.Line.{predicted, updated}
use Rattle.lifting.specs.Rows.{row_fits, rows_fit, row_changed}
use Rattle.lifting.specs.Pairs.{first, pair_fits, pair_lifted, pair_copied, changed_at, lifted_at, copied_at, each_column}
use Rattle.lifting.proofs.RowLaws.{row_within, row-place, RowIn, RowsIn, row_in, row-fits, rows-in}
use Rattle.lifting.proofs.RowLaws.{rows-fit, row-at, row-before, row-past, row_other, row-order}

-- places in different columns differ
pub columns-apart : (s q t i c : ℕ) → c < i → i < s → t * s + c ≡ q * s + i → ⊥
columns-apart s q t i c h g e =
    elim (ℕ_discrete t q) [
      | yes p ↦ let k : t * s ≡ q * s = ap (λ (z : ℕ). z * s) p in omega arith
      | no d ↦
          elim (dec_lt t q) [
            | yes p ↦ let a = row-order s t q p in omega arith
            | no n ↦ let a = row-order s q t (omega (arith, d)) in omega arith
          ]
    ]

-- and so do places in one column of different rows
pub rows_apart : (s q t i : ℕ) → i < s → (t ≡ q → ⊥) → t * s + i ≡ q * s + i → ⊥
rows_apart s q t i g d e =
    elim (dec_lt t q) [
      | yes p ↦ let a = row-order s t q p in omega arith
      | no n ↦ let a = row-order s q t (omega (arith, d)) in omega arith
    ]

-- ---- the first i columns of row t changed
module _ (f : ℤ → ℤ → ℤ → ℤ) (s t l r i : ℕ) (h : i < s) where
  -- column i is as it was, in every row
  column-left : (x : ℕ → ℤ) (q : ℕ) → row_changed f s i t l r x (q * s + i) ≡ x (q * s + i)
  column-left x q =
      elim (ℕ_discrete q t) [
        | yes p ↦ let k : q * s ≡ t * s = ap (λ (z : ℕ). z * s) p in row-past f s i t l r x (q * s + i) (omega arith)
        | no d ↦ row_other f s i t l r x q i d (omega arith) h
      ]

  -- one column more is the step in that column
  pub column-more : (x : ℕ → ℤ) → row_changed f s (i + 1) t l r x ≡ changed_at f (t * s + i) (l * s + i) (r * s + i) (row_changed f s i t l r x)
  column-more x = grown ∙ rw (column-left x t, column-left x l, column-left x r) refl
    where
      v : ℤ
      v = f (x (t * s + i)) (x (l * s + i)) (x (r * s + i))

      grown : row_changed f s (i + 1) t l r x ≡ stored (t * s + i) v (row_changed f s i t l r x)
      grown =
          fun_ext λ j.
          elim (ℕ_discrete j (t * s + i)) [
            | yes e ↦ ap (row_changed f s (i + 1) t l r x) e ∙ row-at f s (i + 1) t l r x i (omega arith) ∙ sym (stored_at (t * s + i) j v _ e)
            | no d ↦
                elim (dec_lt j (t * s)) [
                  | yes p ↦ row-before f s (i + 1) t l r x j p ∙ sym (stored-off (t * s + i) j v _ d ∙ row-before f s i t l r x j p)
                  | no n ↦
                      elim (dec_lt j (t * s + i)) [
                        | yes p ↦
                            let k : j ≡ t * s + (j - t * s) = omega arith in
                            ap (row_changed f s (i + 1) t l r x) k
                            ∙ row-at f s (i + 1) t l r x (j - t * s) (omega arith)
                            ∙ sym (stored-off (t * s + i) j v _ d ∙ ap (row_changed f s i t l r x) k ∙ row-at f s i t l r x (j - t * s) (omega arith))
                        | no m ↦
                            row-past f s (i + 1) t l r x j (omega (arith, d)) ∙ sym (stored-off (t * s + i) j v _ d ∙ row-past f s i t l r x j (omega arith))
                      ]
                ]
          ]

  -- a store in column i can come before or after
  store_swap : (x : ℕ → ℤ) (q : ℕ) (v : ℤ) → row_changed f s i t l r (stored (q * s + i) v x) ≡ stored (q * s + i) v (row_changed f s i t l r x)
  store_swap x q v =
      let y : ℕ → ℤ = stored (q * s + i) v x in
      fun_ext λ j.
      elim (ℕ_discrete j (q * s + i)) [
        | yes e ↦
            ap (row_changed f s i t l r y) e
            ∙ column-left y q
            ∙ stored_at (q * s + i) (q * s + i) v x refl
            ∙ sym (stored_at (q * s + i) j v _ e)
        | no d ↦
            elim (dec_lt j (t * s)) [
              | yes p ↦ row-before f s i t l r y j p ∙ stored-off (q * s + i) j v x d ∙ sym (stored-off (q * s + i) j v _ d ∙ row-before f s i t l r x j p)
              | no n ↦
                  elim (dec_lt j (t * s + i)) [
                    | yes p ↦
                        let c : ℕ = j - t * s in
                        let k : j ≡ t * s + c = omega arith in
                        let g : c < i = omega arith in
                        let u : (z : ℕ) → y (z * s + c) ≡ x (z * s + c) = λ z. stored-off (q * s + i) (z * s + c) v x (columns-apart s q z i c g h) in
                        ap (row_changed f s i t l r y) k
                        ∙ row-at f s i t l r y c g
                        ∙ cc (u t, u l, u r)
                        ∙ sym (stored-off (q * s + i) j v _ d ∙ ap (row_changed f s i t l r x) k ∙ row-at f s i t l r x c g)
                    | no m ↦
                        row-past f s i t l r y j (omega arith)
                        ∙ stored-off (q * s + i) j v x d
                        ∙ sym (stored-off (q * s + i) j v _ d ∙ row-past f s i t l r x j (omega arith))
                  ]
            ]
      ]

  -- and so can a step in it
  pub column-swap : (g : ℤ → ℤ → ℤ → ℤ) (x : ℕ → ℤ) (q a b : ℕ) →
      row_changed f s i t l r (changed_at g (q * s + i) (a * s + i) (b * s + i) x) ≡ changed_at g (q * s + i) (a * s + i) (b * s + i) (row_changed f s i t l r x)
  column-swap g x q a b = store_swap x q _ ∙ rw (column-left x q, column-left x a, column-left x b) refl

-- ---- the stores of one column of a pair, d and u being what is stored and z the low number as it was
module _ (m : List ℤ) (h l r b : ℕ) (d u z : ℤ) (ih : h < length m) (il : l < length m) (other : l ≡ h → ⊥)
    (ed : d ≡ predicted wrap32 (at m h) (at m l) (at m r))
    (ez : z ≡ at m l) (eu : u ≡ updated wrap32 z (at (set m h d) b) d) where
  first_store : at (set m h d) ≡ changed_at (predicted wrap32) h l r (at m)
  first_store = at_stored m h d ih ∙ ap (λ (v : ℤ). stored h v (at m)) ed

  pub two-stores : at (set (set m h d) l u) ≡ lifted_at h l r b (at m)
  two-stores =
      let n = length-set m h d in
      let o : at (set m h d) l ≡ z = get_or-set_other m h l d (pos 0) other ∙ sym ez in
      let k : at (set m h d) h ≡ d = get_or-set_same m h d (pos 0) ih in
      let v : u ≡ updated wrap32 (at (set m h d) l) (at (set m h d) b) (at (set m h d) h) = cc (eu, o, k) in
      at_stored (set m h d) l u (omega arith)
      ∙ ap (λ (y : ℤ). stored l y (at (set m h d))) v
      ∙ ap (changed_at (updated wrap32) l b h) first_store

  pub stays : d ≡ at (set (set m h d) l u) h
  stays = sym (get_or-set_other (set m h d) l h u (pos 0) (λ e. other (sym e)) ∙ get_or-set_same m h d (pos 0) ih)

-- ---- one column of a pair more
module _ (s h l r b i : ℕ) (x : ℕ → ℤ) (g : i < s) where
  pub lifted-more : pair_lifted s (i + 1) h l r b x ≡ lifted_at (h * s + i) (l * s + i) (r * s + i) (b * s + i) (pair_lifted s i h l r b x)
  unfolding pair_lifted
  lifted-more =
      ap (row_changed (updated wrap32) s (i + 1) l b h) (column-more (predicted wrap32) s h l r i g x)
      ∙ column-more (updated wrap32) s l b h i g _
      ∙ ap (changed_at (updated wrap32) (l * s + i) (b * s + i) (h * s + i)) (column-swap (updated wrap32) s l b h i g (predicted wrap32) _ h l r)

  pub copied_more : pair_copied s (i + 1) h l r b x
      ≡ changed_at first (b * s + i) (h * s + i) (h * s + i) (lifted_at (h * s + i) (l * s + i) (r * s + i) (b * s + i) (pair_copied s i h l r b x))
  unfolding pair_copied
  copied_more =
      ap (row_changed first s (i + 1) b h h) lifted-more
      ∙ column-more first s b h h i g _
      ∙ ap (changed_at first (b * s + i) (h * s + i) (h * s + i))
      (column-swap first s b h h i g (updated wrap32) _ l b h
      ∙ ap (changed_at (updated wrap32) (l * s + i) (b * s + i) (h * s + i)) (column-swap first s b h h i g (predicted wrap32) _ h l r))

-- no column yet
pub row-none : (f : ℤ → ℤ → ℤ → ℤ) (s t l r : ℕ) (x : ℕ → ℤ) → row_changed f s 0 t l r x ≡ x
row-none f s t l r x =
    fun_ext λ j.
    elim (dec_lt j (t * s)) [
      | yes p ↦ row-before f s 0 t l r x j p
      | no n ↦ row-past f s 0 t l r x j (omega arith)
    ]

pub lifted-none : (s h l r b : ℕ) (x : ℕ → ℤ) → pair_lifted s 0 h l r b x ≡ x
unfolding pair_lifted
lifted-none s h l r b x = row-none _ s l b h _ ∙ row-none _ s h l r x

pub copied_none : (s h l r b : ℕ) (x : ℕ → ℤ) → pair_copied s 0 h l r b x ≡ x
unfolding pair_copied
copied_none s h l r b x = row-none _ s b h h _ ∙ lifted-none s h l r b x

-- the columns one after the other, by any f, and so by these two
pub each-none : (f : ℕ → ℕ → ℕ → ℕ → (ℕ → ℤ) → ℕ → ℤ) (s h l r b : ℕ) (x : ℕ → ℤ) → each_column f s 0 h l r b x ≡ x
unfolding each_column
each-none f s h l r b x = refl

pub each-more : (f : ℕ → ℕ → ℕ → ℕ → (ℕ → ℤ) → ℕ → ℤ) (s h l r b i : ℕ) (x : ℕ → ℤ)
    → each_column f s (i + 1) h l r b x ≡ f (h * s + i) (l * s + i) (r * s + i) (b * s + i) (each_column f s i h l r b x)
unfolding each_column
each-more f s h l r b i x = let e : i + 1 ≡ suc i = omega arith in rw e refl

pub lifted-each : (s h l r b w : ℕ) (x : ℕ → ℤ) → w ≤ s → each_column lifted_at s w h l r b x ≡ pair_lifted s w h l r b x
lifted-each s h l r b zero x le = each-none lifted_at s h l r b x ∙ sym (lifted-none s h l r b x)
lifted-each s h l r b (suc w) x le =
    let e : suc w ≡ w + 1 = omega arith in
    rw e
    (each-more lifted_at s h l r b w x
    ∙ ap (lifted_at (h * s + w) (l * s + w) (r * s + w) (b * s + w)) (lifted-each s h l r b w x (omega arith))
    ∙ sym (lifted-more s h l r b w x (omega arith)))

pub copied-each : (s h l r b w : ℕ) (x : ℕ → ℤ) → w ≤ s → each_column copied_at s w h l r b x ≡ pair_copied s w h l r b x
copied-each s h l r b zero x le = each-none copied_at s h l r b x ∙ sym (copied_none s h l r b x)
copied-each s h l r b (suc w) x le =
    let e : suc w ≡ w + 1 = omega arith in
    rw e
    (each-more copied_at s h l r b w x
    ∙ ap (copied_at (h * s + w) (l * s + w) (r * s + w) (b * s + w)) (copied-each s h l r b w x (omega arith))
    ∙ sym (copied_more s h l r b w x (omega arith)))

-- ---- the loop: before turn i, m₀ being the list at the start and F what the pass makes of the first columns
pub record PairIn (n s w h l r b : ℕ) : Type 0 where
  pub rows : RowsIn n s w h l r
  pub last : RowIn n s w b
  pub other : l ≡ h → ⊥

pub pair-in : (n s w h l r b : ℕ) → pair_fits n s w h l r b ≡ true → PairIn n s w h l r b
unfolding pair_fits
pair-in n s w h l r b e =
    elim (ℕ_discrete l h) [
      | yes q ↦ absurd (false≢true (rw (eq-eqb l h q) at e))
      | no q ↦
          let a = both (rows_fit n s w h l r) (row_fits n s w b) (rw (ne_eqb l h q) at e) in
          record { rows = rows-in n s w h l r a.0; last = row_in n s w b a.1; other = q }
    ]

pub pair-fits : (n s w h l r b : ℕ) → (l ≡ h → ⊥) → w ≤ s → h * s + w ≤ n → l * s + w ≤ n → r * s + w ≤ n → b * s + w ≤ n → pair_fits n s w h l r b ≡ true
unfolding pair_fits
pair-fits n s w h l r b q wide a d e f = simp (ne_eqb l h q, rows-fit n s w h l r wide a d e, row-fits n s w b wide f)

-- where the rows fit, they are as wide as the stride or less
pub where-fit : (n s w h l r b : ℕ) (y z x : ℕ → ℤ) → (w ≤ s → y ≡ z) → pick (pair_fits n s w h l r b) y x ≡ pick (pair_fits n s w h l r b) z x
where-fit n s w h l r b y z x e =
    elim (pair_fits n s w h l r b) as (λ t. pair_fits n s w h l r b ≡ t → pick t y x ≡ pick t z x) [
      | true ↦ λ fit. e (pair-in n s w h l r b fit).last.wide
      | false ↦ λ fit. refl
    ] refl

pub pair-places : {n s w h l r b : ℕ} → PairIn n s w h l r b → (M i : ℕ) → M ≡ n → i < w
    → (h * s + i < M) × (l * s + i < M) × (r * s + i < M) × (b * s + i < M) × (l * s + i ≡ h * s + i → ⊥)
pair-places {n} {s} {w} {h} {l} {r} {b} p M i e k = (
  row-place p.rows.one M i e k,
  row-place p.rows.two M i e k,
  row-place p.rows.three M i e k,
  row-place p.last M i e k,
  rows_apart s h l i (row_within p.last i k) p.other,
)

pub record Passed (F : ℕ → (ℕ → ℤ) → ℕ → ℤ) (s w h l r b : ℕ) (m₀ : List ℤ) (i : ℕ) (m : List ℤ) : Type 0 where
  pub within : i ≤ w
  pub rows : PairIn (length m₀) s w h l r b
  pub size : length m ≡ length m₀
  pub value : at m ≡ F i (at m₀)

module _ (F : ℕ → (ℕ → ℤ) → ℕ → ℤ) (s w h l r b : ℕ) (m₀ : List ℤ) where
  pub pass-start : F 0 (at m₀) ≡ at m₀ → PairIn (length m₀) s w h l r b → Passed F s w h l r b m₀ 0 m₀
  pass-start e p = record { within = omega arith; rows = p; size = refl; value = sym e }

  pub pass-turn : (G : (ℕ → ℤ) → ℕ → ℤ) (i : ℕ) (m m' : List ℤ) → Passed F s w h l r b m₀ i m → i < w → length m' ≡ length m → at m' ≡ G (at m)
      → F (i + 1) (at m₀) ≡ G (F i (at m₀)) → Passed F s w h l r b m₀ (i + 1) m'
  pass-turn G i m m' c g k e q =
      record { within = omega arith; rows = c.rows; size = k ∙ c.size; value = e ∙ ap G c.value ∙ sym q }

  pub pass-end : (i : ℕ) (m : List ℤ) → Passed F s w h l r b m₀ i m → w ≤ i → at m ≡ F w (at m₀)
  pass-end i m c g = let e : i ≡ w = omega (arith, c.within) in c.value ∙ ap (λ (k : ℕ). F k (at m₀)) e
