-- A stop at level j of a map: the sides, the store and the fresh reader of its low-low part. Assumes nothing.
use mathlib.Core.Path.{◌≡◌, refl, sym, ap, ap₂, ◌∙◌}
use mathlib.Core.Bool.{Bool, true, false}
use Prim.Native.Nat.{ℕ, zero, suc, ◌+◌, ◌-◌, ◌*◌, ◌≤◌, ◌<◌, ◌^◌}
use native.Mathlib.Nat.{mul-add}
use native.Mathlib.Omega.{arith}
use lib.IntN.{ℤ}
use lib.Dec.{ltb, eqb}
use borrow.Author.Tests.{lt-ltb, le-ltb, eq-eqb, ne_eqb, ltb-true}
use Rattle.numbers.specs.Signal.{pick, both}
use Rattle.numbers.proofs.Sweep.{both as halves}
use Rattle.lifting.specs.Grid.{Side, side}
use Rattle.wavelet.specs.Limits.{max_width, max_levels}
use Rattle.wavelet.specs.Levels.{next, side_at}
use Rattle.wavelet.specs.Questions.{within}
use Rattle.wavelet.specs.Store.{widths}
use Rattle.wavelet.proofs.LimitLaws.{width_small}
use Rattle.wavelet.proofs.QuestionLaws.{within-true, within-yes}
use Rattle.wavelet.proofs.SideLaws.{next_start, size-le}
use Rattle.wavelet.proofs.StoreLaws.{widths-more, widths-none, store_is}
use Rattle.filters.specs.Filters.{filter_of, is_filter}
use Rattle.filters.specs.Figures.{store_by, streamable}
use Rattle.filters.proofs.FigureLaws.{levels-most}
use Rattle.reader_steps.specs.Places.{has_cells}
use Rattle.reader_steps.proofs.CellLaws.{Empty, wide, high, cells-yes}
use Rattle.reader.specs.declared.Reader.{Reader}
use Rattle.reader.specs.Answers.{gives, refused}
use Rattle.reader.specs.Store.{zeroed}
use Rattle.reader.specs.Calls.{fresh_over, set_up_store}
use Rattle.reader.specs.Stops.{last_at, works, left, fresh_at, stop_reply}
use Rattle.reader.specs.Inside.{Small}
use Rattle.lifting.specs.Halves.{fronted}
use lib.IntN.{pos}

-- ---- levels further on
pub side-on : (j m : ℕ) (S : Side) → side_at (j + m) S ≡ side_at m (side_at j S)
unfolding side_at
side-on j zero S = let e : j + 0 ≡ j = omega arith in ap (λ (i : ℕ). side_at i S) e
side-on j (suc m) S = let e : j + suc m ≡ suc (j + m) = omega arith in ap (λ (i : ℕ). side_at i S) e ∙ ap next (side-on j m S)

pub start-le : (k : ℕ) (S : Side) → (side_at k S).start ≤ S.start
unfolding side_at
start-le zero S = omega arith
start-le (suc k) S = omega (arith, next_start (side_at k S), start-le k S)

pub widths-on : (j m : ℕ) (W : Side) → widths W (j + m) ≡ widths W j + widths (side_at j W) m
widths-on j zero W = let e : j + 0 ≡ j = omega arith in ap (widths W) e ∙ omega (arith, widths-none (side_at j W))
widths-on j (suc m) W =
    let e : j + suc m ≡ suc (j + m) = omega arith in
    let s = ap (λ (S : Side). S.length) (side-on j m W) in
    ap (widths W) e ∙ omega (arith, widths-more W (j + m), widths-on j m W, widths-more (side_at j W) m, s)

-- the store's need falls with the stop
pub store-falls : (f : ℕ) (W : Side) (L j : ℕ) → j ≤ L → store_by f (side_at j W) (L - j) ≤ store_by f W L
store-falls f W L j h =
    let r = (filter_of f).rows in
    let e : j + (L - j) ≡ L = omega arith in
    let s = widths-on j (L - j) W in
    let a : store_by f W L ≡ r * (widths W j + widths (side_at j W) (L - j)) =
    store_is r W L ∙ ap (λ (i : ℕ). r * i) (sym (ap (widths W) e) ∙ s) in
    omega (arith, a, mul-add r (widths W j) (widths (side_at j W) (L - j)), store_is r (side_at j W) (L - j))

-- ---- whether levels are to be worked out
pub works-not : (W H : Side) (L j : ℕ) → L ≤ j → works W H L j ≡ false
unfolding works
works-not W H L j h = rw (le-ltb j L h) refl

pub works-empty : (W H : Side) (L j : ℕ) → Empty (side_at j W) (side_at j H) → works W H L j ≡ false
unfolding works has_cells
works-empty W H L j (wide e) = go (ltb j L)
  where
    go : (t : Bool) → both t (both (ltb 0 (side_at j W).length) (ltb 0 (side_at j H).length)) ≡ false
    go true = rw (le-ltb 0 (side_at j W).length (omega arith)) refl
    go false = refl
works-empty W H L j (high e) = go (ltb j L) (ltb 0 (side_at j W).length)
  where
    go : (t u : Bool) → both t (both u (ltb 0 (side_at j H).length)) ≡ false
    go true true = rw (le-ltb 0 (side_at j H).length (omega arith)) refl
    go true false = refl
    go false u = refl

pub works-yes : (W H : Side) (L j : ℕ) → j < L → 0 < (side_at j W).length → 0 < (side_at j H).length → works W H L j ≡ true
unfolding works
works-yes W H L j h a b = rw (lt-ltb j L h, cells-yes (side_at j W) (side_at j H) a b) refl

-- ---- the fresh reader, of the sides as the code has them
side-is : (S : Side) (a n : ℕ) → a ≡ S.start → n ≡ S.length → side a n ≡ S
side-is S a n ea en = ap₂ side ea en

module _ (f : ℕ) (W H : Side) (L j n a w b h : ℕ) (en : n ≡ store_by f W L) (ea : a ≡ (side_at j W).start) (ew : w ≡ (side_at j W).length)
    (eb : b ≡ (side_at j H).start) (eh : h ≡ (side_at j H).length) where
  pub part-last : (r : Reader) → works W H L j ≡ false → r ≡ last_at f j n (side a w) (side b h) → r ≡ fresh_at f W H L j
  unfolding fresh_at
  part-last r off e =
      e ∙ ap₂ (λ (S T : Side). last_at f j n S T) (side-is (side_at j W) a w ea ew) (side-is (side_at j H) b h eb eh)
      ∙ ap (λ (i : ℕ). last_at f j i (side_at j W) (side_at j H)) en ∙ rw off refl

  pub part-begun : (r : Reader) (k : ℕ) → works W H L j ≡ true → k ≡ store_by f (side a w) (L - j) →
      r ≡ fresh_over f j (n - k) (side a w) (side b h) (L - j) → r ≡ fresh_at f W H L j
  unfolding fresh_at left
  part-begun r k on ek e =
      let sw = side-is (side_at j W) a w ea ew in
      let sh = side-is (side_at j H) b h eb eh in
      let own : k ≡ store_by f (side_at j W) (L - j) = ek ∙ ap (λ (S : Side). store_by f S (L - j)) sw in
      e ∙ ap₂ (λ (S T : Side). fresh_over f j (n - k) S T (L - j)) sw sh
      ∙ ap₂ (λ (p q : ℕ). fresh_over f j (p - q) (side_at j W) (side_at j H) (L - j)) en own ∙ rw on refl

  -- its numbers are small, and its store a stream's
  pub part-own : (k : ℕ) → j ≤ L → k ≡ store_by f (side a w) (L - j) → k ≤ n
  part-own k le ek =
      let own : k ≡ store_by f (side_at j W) (L - j) = ek ∙ ap (λ (S : Side). store_by f S (L - j)) (side-is (side_at j W) a w ea ew) in
      omega (arith, own, en, store-falls f W L j le)

  pub part_small : W.length ≤ 2 ^ 16 → W.start ≤ 2 ^ 16 → H.length < 2 ^ 32 → H.start ≤ 2 ^ 16 → Small (side a w) (side b h) 0
  part_small p q r s = (
    omega (arith, ew, size-le j W),
    omega (arith, ea, start-le j W),
    omega (arith, eh, size-le j H),
    omega (arith, eb, start-le j H),
    omega arith,
  )

  pub part-streams : streamable f W L ≡ true → j < L → 0 < w → streamable f (side a w) (L - j) ≡ true
  unfolding streamable
  part-streams s lt some =
      let x = halves (is_filter f) _ s in
      let y = halves (within 1 max_width W.length) _ x.1 in
      let u = within-true 1 max_width W.length y.0 in
      let v = within-true 1 (filter_of f).levels L y.1 in
      rw (
        x.0,
        within-yes 1 max_width w (omega arith) (omega (arith, ew, size-le j W, u.1)),
        within-yes 1 (filter_of f).levels (L - j) (omega arith) (omega (arith, v.1)),
      ) refl

  pub works-parts : Empty (side a w) (side b h) → works W H L j ≡ false
  works-parts e = works-empty W H L j (moved e)
    where
      moved : Empty (side a w) (side b h) → Empty (side_at j W) (side_at j H)
      moved (wide z) = wide (sym ew ∙ z)
      moved (high z) = high (sym eh ∙ z)

  pub works-some : j < L → (0 < w) × (0 < h) → works W H L j ≡ true
  works-some lt s = works-yes W H L j lt (omega (arith, s.0, ew)) (omega (arith, s.1, eh))

-- ---- a stream's sizes
pub streams-are : (f : ℕ) (W : Side) (L : ℕ) → is_filter f ≡ true → within 1 max_width W.length ≡ true → within 1 (filter_of f).levels L ≡ true →
    streamable f W L ≡ true
unfolding streamable
streams-are f W L k a b = rw (k, a, b) refl

pub streams-in : (f : ℕ) (W : Side) (L : ℕ) → streamable f W L ≡ true → (W.length ≤ max_width) × (L ≤ (filter_of f).levels)
unfolding streamable
streams-in f W L s =
    let x = halves (is_filter f) _ s in
    let y = halves (within 1 max_width W.length) _ x.1 in
    ((within-true 1 max_width W.length y.0).1, (within-true 1 (filter_of f).levels L y.1).1)

-- ---- the set-up
module _ (f : ℕ) (W H : Side) (L j Q : ℕ) (x : ℕ → ℤ) where
  pub stop-no : (r : ℕ) → r ≡ Q → (r ≡ 0 → ⊥) → (refused r ≡ stop_reply f W H L j Q) × (x ≡ set_up_store f W L Q x)
  unfolding stop_reply set_up_store
  stop-no r e n = let u = ne_eqb r 0 n in (rw (← e, u), rw (← e, u))

  pub stop-yes : (s : Reader) (y : ℕ → ℤ) (n : ℕ) → s ≡ fresh_at f W H L j → Q ≡ 0 → n ≡ store_by f W L → y ≡ fronted n (λ _. pos 0) x →
      (gives s ≡ stop_reply f W H L j Q) × (y ≡ set_up_store f W L Q x)
  unfolding stop_reply set_up_store zeroed
  stop-yes s y n es e en ey = let t = eq-eqb Q 0 e in (rw t (ap gives es), rw t (ey ∙ ap (λ (i : ℕ). fronted i (λ _. pos 0) x) en))
