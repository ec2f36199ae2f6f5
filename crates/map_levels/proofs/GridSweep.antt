-- A pass over the rows of an area, row by row. Rows below k are done: they are Y's. From row k on they are X's.
--     start, finish    a pass begins, and the area it leaves as a signal
--     store-row        one row stored, as a call on any part of the area or on the row itself leaves it
--     part-turn        a turn that lends the row out as a part
--     map-turn         such a turn of a pass that changes each row by G, the row's length and its numbers given
-- Assumes nothing.
use mathlib.Core.Path.{◌≡◌, refl, sym, ap, ◌∙◌, fun_ext}
use mathlib.Core.Logic.{◌≢◌}
use mathlib.Core.List.{List}
use mathlib.Core.Bool.{true, false}
use Prim.Native.Nat.{ℕ, ◌+◌, ◌-◌, ◌*◌, ◌/◌, ◌%◌, ◌≤◌, ◌<◌}
use native.Mathlib.Nat.{mul-le-mul_right, mul-le-mul_left, div-add-mod', mod-lt}
use native.Mathlib.Decide.{dec_lt, ℕ_discrete}
use native.Mathlib.Omega.{arith}
use lib.IntN.{ℤ}
use lib.ListN.{length}
use borrow.Author.Tests.{lt-ltb, le-ltb}
use borrow.Rule.Slice.PartMut.{mid_of, put_mid, same_len_mid}
use Rattle.numbers.specs.Signal.{at, spliced}
use Rattle.numbers.proofs.Parts.{splice-below, splice-in, splice-past, length-mid, at_mid, at-put}
use Rattle.lifting.specs.Grid.{Side}
use Rattle.lifting.proofs.RowLaws.{row-order}
use Rattle.wavelet.specs.Bands.{Grid}
use Rattle.wavelet.specs.Plane.{cells, flat}
use Rattle.map_levels.specs.Rowwise.{cut}
use Rattle.map_levels.specs.Passes.{Rows, KeptFrom, within, rows_mapped}
use Rattle.map_levels.specs.LevelPasses.{LevelRoom}
use Rattle.map_levels.proofs.RowwiseLaws.{window-cut}

-- ---- rows in an area
pub row_room : (n s w h r : ℕ) → Rows n s w h → r < h → r * s + w ≤ n
row_room n s w h r g lt = let m : r * s ≤ (h - 1) * s = mul-le-mul_right s (omega arith) in omega (arith, g.room)

-- an area that kept its length
pub rows-kept : {n n' s w h : ℕ} → n' ≡ n → Rows n s w h → Rows n' s w h
rows-kept e g = rw e g

pub room-kept : {n m m' A s from : ℕ} {W H : Side} → m' ≡ m → LevelRoom n m A s from W H → LevelRoom n m' A s from W H
room-kept e R = record { plane = R.plane; work = rows-kept e R.work; few = R.few }

pub few : (n s w h : ℕ) → Rows n s w h → h ≤ n + 1
few n s w h g = let m : (h - 1) * 1 ≤ (h - 1) * s = mul-le-mul_left (h - 1) g.apart in omega (arith, g.room)

-- a cell among the rows, below them, and beside them
module _ (w h r c : ℕ) where
  pub within_in : r < h → c < w → within w h r c ≡ true
  unfolding within
  within_in p q = simp (lt-ltb r h p, lt-ltb c w q)

  pub within-past : h ≤ r → within w h r c ≡ false
  unfolding within
  within-past p = simp (le-ltb r h p)

  pub within-wide : w ≤ c → within w h r c ≡ false
  unfolding within
  within-wide q = elim (dec_lt r h) [ yes p ↦ simp (lt-ltb r h p, le-ltb c w q) | no d ↦ within-past (omega arith) ]

-- y in the place of row i: any other row, the row, and the columns after it
module _ (s w i : ℕ) (y x : ℕ → ℤ) (wide : w ≤ s) where
  pub put_other : (r c : ℕ) → c < s → r ≢ i → spliced (i * s) w y x (r * s + c) ≡ x (r * s + c)
  put_other r c lt ne =
      elim (dec_lt r i) [
        | yes p ↦ let a = row-order s r i p in splice-below (i * s) w y x (r * s + c) (omega arith)
        | no d ↦ let a = row-order s i r (omega arith) in splice-past (i * s) w y x (r * s + c) (omega arith)
      ]

  pub put_in : (c : ℕ) → c < w → spliced (i * s) w y x (i * s + c) ≡ y c
  put_in c h =
      let k : i * s + c - i * s ≡ c = omega arith in
      splice-in (i * s) w y x (i * s + c) (omega arith) (omega arith) ∙ ap y k

  pub put-wide : (c : ℕ) → w ≤ c → spliced (i * s) w y x (i * s + c) ≡ x (i * s + c)
  put-wide c h = splice-past (i * s) w y x (i * s + c) (omega arith)

-- ---- the sweep, over signals
pub record RowSwept (s : ℕ) (Y X : Grid) (k : ℕ) (x : ℕ → ℤ) : Type 0 where
  pub done : (r c : ℕ) → c < s → r < k → x (r * s + c) ≡ Y r c
  pub rest : (r c : ℕ) → c < s → k ≤ r → x (r * s + c) ≡ X r c

pub start : (s : ℕ) (Y : Grid) (k : ℕ) (x : ℕ → ℤ) → ((r c : ℕ) → r < k → Y r c ≡ cells s x r c) → RowSwept s Y (cells s x) k x
unfolding cells
start s Y k x h = record { done = λ r c lt rk. sym (h r c rk); rest = λ r c lt kr. refl }

pub finish : {s : ℕ} {Y X : Grid} {k : ℕ} {x : ℕ → ℤ} → 0 < s → RowSwept s Y X k x → ((r c : ℕ) → k ≤ r → Y r c ≡ X r c) → x ≡ flat s Y
unfolding flat
finish {s} {Y} {X} {k} {x} apart sw h =
    fun_ext λ j.
    let lt : j % s < s = mod-lt j apart in
    ap x (sym (div-add-mod' j s))
    ∙ elim (dec_lt (j / s) k) [
      | yes p ↦ sw.done (j / s) (j % s) lt p
      | no d ↦ sw.rest (j / s) (j % s) lt (omega arith) ∙ sym (h (j / s) (j % s) (omega arith))
    ]

pub store-row : {s : ℕ} {Y X : Grid} {k : ℕ} {x : ℕ → ℤ} (x' : ℕ → ℤ) → RowSwept s Y X k x → ((r c : ℕ) → c < s → r ≢ k → x' (r * s + c) ≡ x (r * s + c)) →
    ((c : ℕ) → c < s → x' (k * s + c) ≡ Y k c) → RowSwept s Y X (k + 1) x'
store-row {s} {Y} {X} {k} {x} x' sw other here =
    record {
      done = λ r c lt rk.
          elim (ℕ_discrete r k) [
            | yes p ↦ ap (λ (m : ℕ). x' (m * s + c)) p ∙ here c lt ∙ ap (λ (m : ℕ). Y m c) (sym p)
            | no d ↦ other r c lt d ∙ sw.done r c lt (omega arith)
          ];
      rest = λ r c lt kr. other r c lt (omega arith) ∙ sw.rest r c lt (omega arith);
    }

-- a row that the pass leaves is as it was, passed or not
pub left-row : {s : ℕ} {Y X : Grid} {k : ℕ} {x : ℕ → ℤ} (r c : ℕ) → RowSwept s Y X k x → c < s → Y r c ≡ X r c → x (r * s + c) ≡ X r c
left-row {k = k} r c sw lt e = elim (dec_lt r k) [ yes p ↦ sw.done r c lt p ∙ e | no d ↦ sw.rest r c lt (omega arith) ]

-- ---- a sweep over rows of two halves, a row of each a turn: row k, and row low + k
pub record Fronts (s low : ℕ) (Y X : Grid) (k : ℕ) (x : ℕ → ℤ) : Type 0 where
  pub lows : (r c : ℕ) → c < s → r < k → x (r * s + c) ≡ Y r c
  pub highs : (r c : ℕ) → c < s → r < k → x ((low + r) * s + c) ≡ Y (low + r) c
  pub rest_lows : (r c : ℕ) → c < s → k ≤ r → r < low → x (r * s + c) ≡ X r c
  pub rest_highs : (r c : ℕ) → c < s → k ≤ r → x ((low + r) * s + c) ≡ X (low + r) c

pub fronts-start : (s low : ℕ) (Y : Grid) (x : ℕ → ℤ) → Fronts s low Y (cells s x) 0 x
unfolding cells
fronts-start s low Y x =
    record {
      lows = λ r c cs b. absurd (omega arith);
      highs = λ r c cs b. absurd (omega arith);
      rest_lows = λ r c cs b l. refl;
      rest_highs = λ r c cs b. refl;
    }

module _ (s low : ℕ) (Y X : Grid) where
  pub fronts-end : (h k : ℕ) (x : ℕ → ℤ) → 0 < s → low ≤ k → h ≤ low + k → ((r c : ℕ) → h ≤ r → Y r c ≡ X r c) → Fronts s low Y X k x → low ≤ h → x ≡ flat s Y
  fronts-end h k x apart a b past sw lh =
      let swept : RowSwept s Y X h x = record {
        done = λ r c cs rh.
            elim (dec_lt r low) [
              | yes l ↦ sw.lows r c cs (omega arith)
              | no l ↦ let e : low + (r - low) ≡ r = omega arith in rw e at (sw.highs (r - low) c cs (omega arith))
            ];
        rest = λ r c cs hr.
            let e : low + (r - low) ≡ r = omega arith in
            elim (dec_lt (r - low) k) [
              | yes l ↦ (rw e at (sw.highs (r - low) c cs l)) ∙ past r c hr
              | no l ↦ rw e at (sw.rest_highs (r - low) c cs (omega arith))
            ];
      } in
      finish apart swept past

  module _ (w k : ℕ) (ws : w ≤ s) (kl : k < low) (y x x₁ : ℕ → ℤ) (e₁ : x₁ ≡ spliced (k * s) w y x) (in₁ : (c : ℕ) → c < w → y c ≡ Y k c)
      (out₁ : (c : ℕ) → w ≤ c → Y k c ≡ X k c) (sw : Fronts s low Y X k x) where
    put₁ : (j : ℕ) → x₁ j ≡ spliced (k * s) w y x j
    put₁ j = ap (λ (u : ℕ → ℤ). u j) e₁

    low-put : (c : ℕ) → c < s → x₁ (k * s + c) ≡ Y k c
    low-put c cs =
        put₁ (k * s + c)
        ∙ elim (dec_lt c w) [
          | yes l ↦ put_in s w k y x ws c l ∙ in₁ c l
          | no l ↦ put-wide s w k y x ws c (omega arith) ∙ sw.rest_lows k c cs (omega arith) kl ∙ sym (out₁ c (omega arith))
        ]

    low-other : (r c : ℕ) → c < s → r ≢ k → x₁ (r * s + c) ≡ x (r * s + c)
    low-other r c cs d = put₁ (r * s + c) ∙ put_other s w k y x ws r c cs d

    -- the last low row, where there is one more; the high rows past it are none
    pub fronts-last : (h : ℕ) → 0 < s → k + 1 ≡ low → h ≡ low + k → ((r c : ℕ) → h ≤ r → Y r c ≡ X r c) → x₁ ≡ flat s Y
    fronts-last h apart el eh past =
        fronts-end h (k + 1) x₁ apart (omega arith) (omega arith) past
        (record {
          lows = λ r c cs b. elim (ℕ_discrete r k) [ yes e ↦ rw e (low-put c cs) | no d ↦ low-other r c cs d ∙ sw.lows r c cs (omega arith) ];
          highs = λ r c cs b.
              low-other (low + r) c cs (omega arith)
              ∙ elim (dec_lt r k) [
                | yes l ↦ sw.highs r c cs l
                | no l ↦ sw.rest_highs r c cs (omega arith) ∙ sym (past (low + r) c (omega arith))
              ];
          rest_lows = λ r c cs b l. absurd (omega arith);
          rest_highs = λ r c cs b. low-other (low + r) c cs (omega arith) ∙ sw.rest_highs r c cs (omega arith);
        })
        (omega arith)

    -- and the high row
    pub fronts-turn : (u x₂ : ℕ → ℤ) → x₂ ≡ spliced ((low + k) * s) w u x₁ → ((c : ℕ) → c < w → u c ≡ Y (low + k) c) →
        ((c : ℕ) → w ≤ c → Y (low + k) c ≡ X (low + k) c) → Fronts s low Y X (k + 1) x₂
    fronts-turn u x₂ e₂ in₂ out₂ =
        let t = low + k in
        let put₂ : (j : ℕ) → x₂ j ≡ spliced (t * s) w u x₁ j = λ j. ap (λ (v : ℕ → ℤ). v j) e₂ in
        let other : (r c : ℕ) → c < s → r ≢ t → x₂ (r * s + c) ≡ x₁ (r * s + c) = λ r c cs d. put₂ (r * s + c) ∙ put_other s w t u x₁ ws r c cs d in
        let high : (c : ℕ) → c < s → x₂ (t * s + c) ≡ Y t c =
        λ c cs.
        put₂ (t * s + c)
        ∙ elim (dec_lt c w) [
          | yes l ↦ put_in s w t u x₁ ws c l ∙ in₂ c l
          | no l ↦ put-wide s w t u x₁ ws c (omega arith) ∙ low-other t c cs (omega arith) ∙ sw.rest_highs k c cs (omega arith) ∙ sym (out₂ c (omega arith))
        ] in
        record {
          lows = λ r c cs b. other r c cs (omega arith) ∙ elim (ℕ_discrete r k)
              [ yes e ↦ rw e (low-put c cs) | no d ↦ low-other r c cs d ∙ sw.lows r c cs (omega arith) ];
          highs = λ r c cs b. elim (ℕ_discrete r k) [
            | yes e ↦ rw e (high c cs)
            | no d ↦ other (low + r) c cs (omega arith) ∙
                low-other (low + r) c cs (omega arith) ∙ sw.highs r c cs (omega arith)
          ];
          rest_lows = λ r c cs b l. other r c cs (omega arith) ∙ low-other r c cs (omega arith) ∙ sw.rest_lows r c cs (omega arith) l;
          rest_highs = λ r c cs b. other (low + r) c cs (omega arith) ∙ low-other (low + r) c cs (omega arith) ∙ sw.rest_highs r c cs (omega arith);
        }

-- the last high row, where there is one more
pub fronts-high : (s low : ℕ) (Y X : Grid) (w k h : ℕ) (y x x₁ : ℕ → ℤ) → 0 < s → w ≤ s → k ≡ low → h ≡ low + k + 1 →
    x₁ ≡ spliced ((low + k) * s) w y x → ((c : ℕ) → c < w → y c ≡ Y (low + k) c) → ((c : ℕ) → w ≤ c → Y (low + k) c ≡ X (low + k) c) →
    ((r c : ℕ) → h ≤ r → Y r c ≡ X r c) → Fronts s low Y X k x → x₁ ≡ flat s Y
fronts-high s low Y X w k h y x x₁ apart ws ek eh e₁ in₁ out₁ past sw =
    let t = low + k in
    let put₁ : (j : ℕ) → x₁ j ≡ spliced (t * s) w y x j = λ j. ap (λ (u : ℕ → ℤ). u j) e₁ in
    let other : (r c : ℕ) → c < s → r ≢ t → x₁ (r * s + c) ≡ x (r * s + c) = λ r c cs d. put₁ (r * s + c) ∙ put_other s w t y x ws r c cs d in
    let here : (c : ℕ) → c < s → x₁ (t * s + c) ≡ Y t c =
    λ c cs.
    put₁ (t * s + c)
    ∙ elim (dec_lt c w) [
      | yes l ↦ put_in s w t y x ws c l ∙ in₁ c l
      | no l ↦ put-wide s w t y x ws c (omega arith) ∙ sw.rest_highs k c cs (omega arith) ∙ sym (out₁ c (omega arith))
    ] in
    let swept : RowSwept s Y X h x₁ = record {
      done = λ r c cs rh.
          elim (ℕ_discrete r t) [
            | yes e ↦ rw e (here c cs)
            | no d ↦
                other r c cs d
                ∙ elim (dec_lt r low) [
                  | yes l ↦ sw.lows r c cs (omega arith)
                  | no l ↦ let e : low + (r - low) ≡ r = omega arith in rw e at (sw.highs (r - low) c cs (omega arith))
                ]
          ];
      rest = λ r c cs hr.
          let e : low + (r - low) ≡ r = omega arith in
          other r c cs (omega arith) ∙ (rw e at (sw.rest_highs (r - low) c cs (omega arith)));
    } in
    finish apart swept past

-- ---- the loop over an area, l₀ being the area at its start and l the area before row k
pub record Passed (s w h : ℕ) (Y : Grid) (l₀ : List ℤ) (k : ℕ) (l : List ℤ) : Type 0 where
  pub rows : Rows (length l₀) s w h
  pub few : h ≤ length l₀ + 1
  pub size : length l ≡ length l₀
  pub swept : RowSwept s Y (cells s (at l₀)) k (at l)

pub pass-start : (s w h : ℕ) (Y : Grid) (l₀ : List ℤ) (k : ℕ) → Rows (length l₀) s w h → ((r c : ℕ) → r < k → Y r c ≡ cells s (at l₀) r c) →
    Passed s w h Y l₀ k l₀
pass-start s w h Y l₀ k g e = record { rows = g; few = few (length l₀) s w h g; size = refl; swept = start s Y k (at l₀) e }

-- row k lies in the area
pub pass-room : {s w h : ℕ} {Y : Grid} {l₀ : List ℤ} {k : ℕ} {l : List ℤ} → Passed s w h Y l₀ k l → k < h → k * s + w ≤ length l
pass-room {s} {w} {h} {l₀ = l₀} {k = k} p lt = let room = row_room (length l₀) s w h k p.rows lt in omega (arith, p.size)

pub pass-end : {s w h : ℕ} {Y : Grid} {l₀ : List ℤ} {k : ℕ} {l : List ℤ} → Passed s w h Y l₀ k l → ((r c : ℕ) → k ≤ r → Y r c ≡ cells s (at l₀) r c) →
    at l ≡ flat s Y
pass-end p e = finish p.rows.apart p.swept e

-- row i, lent as a part of k numbers, which are its w: its length
pub row-length : (s w h : ℕ) (Y : Grid) (l₀ : List ℤ) (i k : ℕ) (l : List ℤ) → k ≡ w → i < h → Passed s w h Y l₀ i l → length (mid_of (i * s) k l) ≡ w
row-length s w h Y l₀ i k l e lt p =
    let room = row_room (length l₀) s w h i p.rows lt in
    length-mid (i * s) k l (omega (arith, p.size)) ∙ e

-- and come back as z
pub part-turn : (s w h : ℕ) (Y : Grid) (l₀ : List ℤ) (i k : ℕ) (l z : List ℤ) → k ≡ w → i < h → length z ≡ length (mid_of (i * s) k l) →
    ((c : ℕ) → c < w → at z c ≡ Y i c) → ((c : ℕ) → w ≤ c → Y i c ≡ cells s (at l₀) i c) → Passed s w h Y l₀ i l →
    Passed s w h Y l₀ (i + 1) (put_mid (i * s) k l z)
part-turn s w h Y l₀ i k l z e lt ez here beside p =
    let room = row_room (length l₀) s w h i p.rows lt in
    let wide = p.rows.wide in
    let size = p.size in
    let mid = row-length s w h Y l₀ i k l e lt p in
    let put : (j : ℕ) → at (put_mid (i * s) k l z) j ≡ spliced (i * s) w (at z) (at l) j =
    λ j. ap (λ (f : ℕ → ℤ). f j) (at-put (i * s) k l z (omega arith) (omega arith)) ∙ ap (λ (m : ℕ). spliced (i * s) m (at z) (at l) j) e in
    record {
      rows = p.rows;
      few = p.few;
      size = same_len_mid (i * s) k l z ez ∙ size;
      swept =
          store-row _ p.swept
          (λ r c cs d. put (r * s + c) ∙ put_other s w i (at z) (at l) wide r c cs d)
          (λ c cs.
          put (i * s + c)
          ∙ elim (dec_lt c w) [
            | yes q ↦ put_in s w i (at z) (at l) wide c q ∙ here c q
            | no d ↦ put-wide s w i (at z) (at l) wide c (omega arith) ∙ p.swept.rest i c cs (omega arith) ∙ sym (beside c (omega arith))
          ]);
    }

-- what is lent: the row as it was
pub lent_row : (s w h : ℕ) (Y : Grid) (l₀ : List ℤ) (i k : ℕ) (l : List ℤ) → k ≡ w → Passed s w h Y l₀ i l → at (mid_of (i * s) k l) ≡ cut w (cells s (at l₀) i)
lent_row s w h Y l₀ i k l e p =
    let wide = p.rows.wide in
    at_mid (i * s) k l ∙ rw e (window-cut (i * s) w (at l) (cells s (at l₀) i) (λ c q. p.swept.rest i c (omega arith) (omega arith)))

-- ---- each row changed by itself
module _ (F : (ℕ → ℤ) → ℕ → ℤ) (w h : ℕ) (X : Grid) (r c : ℕ) where
  pub mapped_in : r < h → c < w → rows_mapped F w h X r c ≡ F (cut w (X r)) c
  unfolding rows_mapped
  mapped_in p q = simp (within_in w h r c p q)

  pub mapped-past : h ≤ r → rows_mapped F w h X r c ≡ X r c
  unfolding rows_mapped
  mapped-past p = simp (within-past w h r c p)

  pub mapped-wide : w ≤ c → rows_mapped F w h X r c ≡ X r c
  unfolding rows_mapped
  mapped-wide q = simp (within-wide w h r c q)

pub map-turn : (G : ℕ → (ℕ → ℤ) → ℕ → ℤ) (s w h : ℕ) (l₀ : List ℤ) (i k : ℕ) (l z : List ℤ) → k ≡ w → i < h → length z ≡ length (mid_of (i * s) k l) →
    at z ≡ G (length (mid_of (i * s) k l)) (at (mid_of (i * s) k l)) → Passed s w h (rows_mapped (G w) w h (cells s (at l₀))) l₀ i l →
    Passed s w h (rows_mapped (G w) w h (cells s (at l₀))) l₀ (i + 1) (put_mid (i * s) k l z)
map-turn G s w h l₀ i k l z e lt ez is p =
    let X = cells s (at l₀) in
    let mid = row-length s w h _ l₀ i k l e lt p in
    let is' : at z ≡ G w (cut w (X i)) = cc (is, mid, lent_row s w h _ l₀ i k l e p) in
    part-turn s w h _ l₀ i k l z e lt ez
    (λ c q. ap (λ (f : ℕ → ℤ). f c) is' ∙ sym (mapped_in (G w) w h X i c lt q))
    (λ c q. mapped-wide (G w) w h X i c q)
    p

-- a pass that leaves what is not in its rows leaves all past them
pub pass_kept : {s w h : ℕ} {Y : Grid} {l₀ : List ℤ} {k : ℕ} {l : List ℤ} → Passed s w h Y l₀ k l →
    ((r c : ℕ) → within w h r c ≡ false → Y r c ≡ cells s (at l₀) r c) → KeptFrom ((h - 1) * s + w) (at l₀) (at l)
unfolding cells
pass_kept {s} {w} {h} {Y} {l₀} {k} {l} p e =
    record {
      kept = λ j b.
          let apart = p.rows.apart in
          let some = p.rows.some in
          let lt : j % s < s = mod-lt j apart in
          let k' = div-add-mod' j s in
          let out : within w h (j / s) (j % s) ≡ false =
          elim (dec_lt (j / s) h) [
            | yes a ↦
                elim (dec_lt (j % s) w) [
                  | yes c ↦ let m : j / s * s ≤ (h - 1) * s = mul-le-mul_right s (omega arith) in absurd (omega arith)
                  | no c ↦ within-wide w h (j / s) (j % s) (omega arith)
                ]
            | no a ↦ within-past w h (j / s) (j % s) (omega arith)
          ] in
          ap (at l) (sym k') ∙ left-row (j / s) (j % s) p.swept lt (e (j / s) (j % s) out) ∙ ap (at l₀) k';
    }
