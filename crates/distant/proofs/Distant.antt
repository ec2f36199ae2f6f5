-- Readers with a stop, over every list of calls: `distant` where levels are to be worked out, `distant-last` where none is, after a set-up that passed.
-- Assumes nothing.
use mathlib.Core.Bool.{Bool, true, false, true≢false}
use mathlib.Core.Logic.{◌⊎◌, inl, inr, ⊎_elim}
use mathlib.Core.Path.{◌≡◌, refl, sym, ap, subst, ◌∙◌}
use mathlib.Core.List.{List, [], ◌∷◌, ◌++◌}
use Prim.Native.Nat.{ℕ, zero, suc, ◌+◌, ◌-◌, ◌*◌, ◌≤◌, ◌<◌}
use native.Mathlib.Nat.{mul-le-mul_left, mul_left_comm, mul-add, suc-mul}
use native.Mathlib.Omega.{arith}
use lib.IntN.{ℤ, pos}
use lib.ListN.{length, get_or}
use lib.Dec.{leb, ltb, eqb}
use borrow.Author.Tests.{le-leb, ltb-true}
use Rattle.numbers.specs.Signal.{pick, both}
use Rattle.numbers.specs.Word.{whole}
use Rattle.numbers.proofs.Sweep.{both as halves}
use Rattle.lifting.specs.Grid.{Side}
use Rattle.wavelet.specs.Limits.{max_width, max_height, max_origin}
use Rattle.wavelet.specs.Bands.{Grid, Band, LL}
use Rattle.wavelet.specs.Maps.{IsMap}
use Rattle.wavelet.specs.Questions.{within}
use Rattle.wavelet.specs.Levels.{next, side_at, approximation, level_band}
use Rattle.wavelet.specs.View.{band_columns}
use Rattle.wavelet.specs.ViewCall.{band_row_exists}
use Rattle.wavelet.specs.Order.{RowName, row_name, same_name, times}
use Rattle.wavelet.specs.Steps.{steps, Step, band_rows_of}
use Rattle.wavelet.specs.Steps as step
use Rattle.wavelet.specs.Store.{widths}
use Rattle.wavelet.proofs.Bridge.{map-approximation-range}
use Rattle.wavelet.proofs.QuestionLaws.{within-true, within-yes}
use Rattle.wavelet.proofs.SideLaws.{next_start, size-le}
use Rattle.wavelet.proofs.StoreLaws.{widths-more, widths-none, store_is, first-room}
use Rattle.filters.specs.Filters.{filter_of, is_filter}
use Rattle.filters.specs.Figures.{store_by}
use Rattle.filters.proofs.Filters.{filter-laws}
use Rattle.calls.specs.Lists.{Reply, gives, refused, Area, All, all_none, all_more}
use Rattle.calls.proofs.AllLaws.{In, first, later, all_in, in_all}
use Rattle.reader_steps.specs.Sets.{ahead}
use Rattle.reader_steps.specs.Places.{has_cells}
use Rattle.reader_steps.proofs.CellLaws.{cells_are}
use Rattle.reader.specs.Answers.{Want, row, draw_now, done, ended}
use Rattle.reader.specs.Limited.{limited, drawn_as}
use Rattle.reader.specs.Store.{zeroed}
use Rattle.reader.specs.Questions.{stop_fits, stop_question}
use Rattle.reader.specs.Calls.{fresh_over, set_up_store}
use Rattle.reader.specs.Stops.{works, left, fresh_at}
use Rattle.reader.specs.Demand3.{Call, want, Event, wanted, fed, drew, World, event, events, final, fresh_world, on_top, left_by, goes_on, rest, ended_by, FedRow}
use Rattle.reader.specs.Demand3.{fed_as, fed_by, fed_rows, drawn_rows, IsPart, IsRow, HasFed, Demand3, want_says, OfCalls}
use Rattle.reader.specs.Demand3 as demand
use Rattle.reader.proofs.CallViews.{Limits, on-top}
use Rattle.reader.proofs.CallLists.{done-only}
use Rattle.reader.proofs.Demand3.{demand-3-over}
use Rattle.reader.proofs.Played.{exists-parts}
use Rattle.reader.proofs.Rebuilt.{same_self}
use Rattle.reader.proofs.QuestionLaws.{stop-in}
use Rattle.reader.proofs.StopLaws.{side-on, start-le, widths-on, store-falls}
use Rattle.reader.specs.Last.{max_spare}
use Rattle.reader.specs.Stops.{last_at}
use Rattle.wavelet.specs.Limits.{max_levels}
use Rattle.filters.proofs.FigureLaws.{levels-most, store-few}
use Rattle.distant.specs.Distant.{stopped_world, of_map, FirstLow, Distant, HandsLow}
use Rattle.distant.proofs.LastLists.{Last, world, hands_on}
use Rattle.distant.proofs.LevelsOn.{part-on, band-on, columns-on}

-- ---- the rows fed, and the row wanted, are among the steps' rows
rest_in : (x : RowName) (t : List Step) → In x (band_rows_of (rest t)) → In x (band_rows_of t)
unfolding band_rows_of
rest_in x [] i = i
rest_in x (step.feed y ∷ t) i = later i
rest_in x (step.draw r ∷ t) i = i

left-in : (x : RowName) (t : List Step) (e : Event) → In x (band_rows_of (left_by t e)) → In x (band_rows_of t)
unfolding left_by
left-in x t e = go (goes_on e)
  where
    go : (b : Bool) → In x (band_rows_of (pick b (rest t) t)) → In x (band_rows_of t)
    go true i = rest_in x t i
    go false i = i

lefts_in : (x : RowName) (t : List Step) (es : List Event) → In x (band_rows_of (demand.left t es)) → In x (band_rows_of t)
unfolding demand.left
lefts_in x t [] i = i
lefts_in x t (e ∷ es) i = left-in x t e (lefts_in x (left_by t e) es i)

as-in : (u : FedRow) (t : List Step) (a : Area) → In u (fed_as t a) → In u.row (band_rows_of t)
unfolding band_rows_of
as-in u [] a i = elim i [ ]
as-in u (step.feed y ∷ t) a first = first
as-in u (step.feed y ∷ t) a (later i) = elim i [ ]
as-in u (step.draw _ ∷ t) a i = elim i [ ]

by_in : (u : FedRow) (t : List Step) (e : Event) → In u (fed_by t e) → In u.row (band_rows_of t)
unfolding fed_by
by_in u t (wanted _) i = elim i [ ]
by_in u t (drew _ _ _) i = elim i [ ]
by_in u t (fed a (gives v)) i = as-in u t a i
by_in u t (fed a (refused q)) i = go (eqb q 14) i
  where
    go : (b : Bool) → In u (pick b (fed_as t a) []) → In u.row (band_rows_of t)
    go true i = as-in u t a i
    go false i = elim i [ ]

split-in : {A : Type 0} (u : A) (xs ys : List A) → In u (xs ++ ys) → In u xs ⊎ In u ys
split-in u [] ys i = inr i
split-in u (x ∷ xs) ys first = inl first
split-in u (x ∷ xs) ys (later i) = ⊎_elim (λ p. inl (later p)) (λ q. inr q) (split-in u xs ys i)

fed-in : (u : FedRow) (t : List Step) (es : List Event) → In u (fed_rows t es) → In u.row (band_rows_of t)
unfolding fed_rows
fed-in u t [] i = elim i [ ]
fed-in u t (e ∷ es) i =
    ⊎_elim (λ p. by_in u t e p) (λ q. left-in u.row t e (fed-in u (left_by t e) es q)) (split-in u (fed_by t e) (fed_rows (left_by t e) es) i)

in-times : (x : RowName) (xs : List RowName) → In x xs → 1 ≤ times x xs
unfolding times
in-times x [] i = elim i [ ]
in-times x (y ∷ xs) first = rw (same_self x) (omega arith)
in-times x (y ∷ xs) (later i) = let a = in-times x xs i in omega arith

-- ---- what follows from the claim, of a stop at level i + 1
module _ (f : ℕ) (W H : Side) (L i : ℕ) (es : List Event) (then : Call → Event)
    (cl : Demand3 f (suc i) (left f W L (suc i)) (side_at (suc i) W) (side_at (suc i) H) (L - suc i) es then) where
  abbrev j : ℕ
  j = suc i

  abbrev Wj : Side
  Wj = side_at (suc i) W

  abbrev Hj : Side
  Hj = side_at (suc i) H

  abbrev T₀ : List Step
  T₀ = steps (ahead f) Wj Hj (L - suc i)

  level-from : (x : RowName) → In x (band_rows_of T₀) → 1 ≤ x.level
  level-from x p = go (band_row_exists Wj Hj (L - suc i) x.level x.band x.row) refl (cl.rows_once x) (in-times x (band_rows_of T₀) p)
    where
      go : (u : Bool) → band_row_exists Wj Hj (L - suc i) x.level x.band x.row ≡ u → times x (band_rows_of T₀) ≡ pick u 1 0 →
          1 ≤ times x (band_rows_of T₀) → 1 ≤ x.level
      go true e t n = (exists-parts Wj Hj (L - suc i) x.level x.band x.row e).0
      go false e t n = absurd (omega arith)

  coarser : (k c r n : ℕ) → then want ≡ wanted (gives (row k c r n)) → suc i < k
  unfolding want_says band_rows_of
  coarser k c r n e =
      let z : ◌≡◌ {A = Event} (wanted (gives (want_says (suc i) Wj (ended_by es) (demand.left T₀ es)))) (wanted (gives (row k c r n))) = sym cl.wants ∙ e in
      let y : want_says (suc i) Wj (ended_by es) (demand.left T₀ es) ≡ row k c r n = cc in
      go (ended_by es) (demand.left T₀ es) refl y
    where
      go : (u : Bool) (v : List Step) → demand.left T₀ es ≡ v → want_says (suc i) Wj u v ≡ row k c r n → suc i < k
      go true v q z = absurd (let p : ◌≡◌ {A = ℕ} 0 1 = cc in omega arith)
      go false [] q z = absurd (let p : ◌≡◌ {A = ℕ} 0 1 = cc in omega arith)
      go false (step.draw d ∷ t) q z = absurd (let p : ◌≡◌ {A = ℕ} 0 1 = cc in omega arith)
      go false (step.feed x ∷ t) q z =
          let s : suc i + x.level ≡ k = cc in
          let p = level-from x (lefts_in x T₀ es (subst (λ l. In x (band_rows_of l)) (sym q) first)) in
          omega (arith, s, p)

  module _ (g : Grid) (m : IsMap W.length H.length g) where
    abbrev a : Grid
    a = approximation (filter_of f) whole W H g (suc i)

    part : IsPart (filter_of f) (suc i) Wj.length Hj.length a
    part = λ r c p q. map-approximation-range (filter_of f) (filter-laws f) W H g m (suc i) r c p q

    -- a row of the map is the row of its low-low part
    row_on : (k : ℕ) (b : Band) (r : ℕ) (u : Area) → IsRow f W H g (row_name (suc i + suc k) b r) u → IsRow f Wj Hj a (row_name (suc k) b r) u
    row_on k b r u h = record {
      size = h.size ∙ columns-on W (suc i) k b;
      values = λ c p.
          h.values c (subst (λ v. c < v) (sym (columns-on W (suc i) k b)) p)
          ∙ ap (λ (z : Grid). z r c) (band-on (filter_of f) whole W H g (suc i) k b);
    }

    row-of : (x : RowName) (u : Area) → 1 ≤ x.level → IsRow f W H g (of_map (suc i) x) u → IsRow f Wj Hj a x u
    row-of x u some h = go x.level refl some h
      where
        go : (v : ℕ) → x.level ≡ v → 1 ≤ v → IsRow f W H g (row_name (suc i + x.level) x.band x.row) u → IsRow f Wj Hj a x u
        go zero e n h = absurd (omega arith)
        go (suc k) e n h =
            subst (λ v. IsRow f Wj Hj a (row_name v x.band x.row) u) (sym e)
            (row_on k x.band x.row u (subst (λ v. IsRow f W H g (row_name (suc i + v) x.band x.row) u) e h))

    module _ (all : All (λ u. IsRow f W H g (of_map (suc i) u.row) u.run) (fed_rows T₀ es)) where
      has : HasFed f (suc i) Wj Hj (L - suc i) a es
      has = record {
        map = part;
        rows = all_in (fed_rows T₀ es) (λ u p. row-of u.row u.run (level-from u.row (fed-in u T₀ es p)) (in_all u (fed_rows T₀ es) p all));
      }

      lives : ended_by es ≡ false
      lives = go (ended_by es) refl
        where
          go : (u : Bool) → ended_by es ≡ u → u ≡ false
          go true e = absurd (cl.impossible e a has)
          go false e = refl

      firsts : FirstLow f W H (suc i) g (drawn_rows es)
      unfolding approximation level_band
      firsts = record { are = λ r c p q. (cl.first a has).are r c p q ∙ ap limited (same r c) }
        where
          same : (r c : ℕ) → a r c ≡ level_band (filter_of f) whole W H g (suc i) LL r c
          same r c = refl

  abbrev Holds : Type 0
  Holds = Distant f W H L (suc i) es then

  holds : Holds
  holds = record {
    claim = cl;
    coarser = coarser;
    hands_out = λ g m all. (
      lives g m all,
      firsts g m all,
      (
        λ z. (cl.finished.0 z).all,
        λ z. cl.finished.1 (record { map = a g m; has = has g m all; all = z; first = cl.first (a g m) (has g m all) }),
      ),
    );
  }

-- ---- the set-up
widths-few : (W : Side) (k : ℕ) → widths W k ≤ k * W.length
widths-few W zero = omega (arith, widths-none W)
widths-few W (suc k) = omega (arith, widths-more W k, widths-few W k, size-le k W, suc-mul k W.length)

module _ (f : ℕ) (W H : Side) (L i n : ℕ) (across : W.start ≤ max_origin) (down : H.start ≤ max_origin) (ok : stop_question f W H L (suc i) n ≡ 0)
    (on : works W H L (suc i) ≡ true) where
  below : suc i < L
  unfolding works
  below = ltb-true (suc i) L (halves (ltb (suc i) L) _ on).0

  cells : (0 < (side_at (suc i) W).length) × (0 < (side_at (suc i) H).length)
  unfolding works
  cells = cells_are (side_at (suc i) W) (side_at (suc i) H) (halves (ltb (suc i) L) _ on).1

  asked :
      (within 1 max_width W.length ≡ true) × (within 1 max_height H.length ≡ true) × (is_filter f ≡ true) × (within 1 (filter_of f).levels L ≡ true)
      × (within 1 L (suc i) ≡ true) × (store_by f W L ≤ n)
  asked = stop-in f W H L (suc i) n ok

  pub whole-store : left f W L (suc i) + store_by f (side_at (suc i) W) (L - suc i) ≡ store_by f W L
  unfolding left
  whole-store = omega (arith, store-falls f W L (suc i) (omega (arith, below)))

  spare-few : left f W L (suc i) ≤ suc i * ((filter_of f).rows * max_width)
  spare-few =
      let r = (filter_of f).rows in
      let w = within-true 1 max_width W.length asked.0 in
      let e : suc i + (L - suc i) ≡ L = omega (arith, below) in
      let a : store_by f W L ≡ r * (widths W (suc i) + widths (side_at (suc i) W) (L - suc i)) =
      store_is r W L ∙ ap (λ (v : ℕ). r * v) (sym (ap (widths W) e) ∙ widths-on (suc i) (L - suc i) W) in
      let b = mul-add r (widths W (suc i)) (widths (side_at (suc i) W) (L - suc i)) in
      let c = store_is r (side_at (suc i) W) (L - suc i) in
      let few = mul-le-mul_left r (widths-few W (suc i)) in
      let most = mul-le-mul_left r (mul-le-mul_left (suc i) w.1) in
      let turn = mul_left_comm r (suc i) max_width in
      omega (arith, whole-store, a, b, c, few, most, turn)

  limits : (l : ℕ) → L - suc i ≡ suc l → Limits 0 f (suc i) (left f W L (suc i)) (side_at (suc i) W) (side_at (suc i) H) l
  unfolding stop_fits
  limits l e =
      let w = within-true 1 max_width W.length asked.0 in
      let h = within-true 1 max_height H.length asked.1 in
      let d = within-true 1 (filter_of f).levels L asked.3 in
      record {
        across = omega (arith, start-le (suc i) W, across);
        down = omega (arith, start-le (suc i) H, down);
        wide = within-yes 1 max_width (side_at (suc i) W).length cells.0 (omega (arith, size-le (suc i) W, w.1));
        high = within-yes 1 max_height (side_at (suc i) H).length cells.1 (omega (arith, size-le (suc i) H, h.1));
        known = asked.2;
        deep = within-yes 1 (filter_of f).levels (suc l) (omega arith) (omega (arith, e, d.1));
        stop = stops l e d.1;
        admits = λ some. absurd (omega (arith, some));
      }
    where
      stops : (l : ℕ) → L - suc i ≡ suc l → L ≤ (filter_of f).levels → stop_fits f (suc l) (suc i) (left f W L (suc i)) ≡ true
      stops l e d = rw (
        le-leb (suc i) ((filter_of f).levels - suc l) (omega (arith, e, d, below)),
        le-leb (left f W L (suc i)) (suc i * ((filter_of f).rows * max_width)) spare-few,
      ) refl

  pub of_calls : (x : ℕ → ℤ) (cs : List Call) (m : ℕ) → L - suc i ≡ m → OfCalls f (suc i) (left f W L (suc i)) (side_at (suc i) W) (side_at (suc i) H) m x cs
  of_calls x cs zero e = absurd (omega (arith, e, below))
  of_calls x cs (suc l) e = demand-3-over f (suc i) (left f W L (suc i)) (side_at (suc i) W) (side_at (suc i) H) l (limits l e) x cs

  pub world_is : (x : ℕ → ℤ) → stopped_world f W H L (suc i) x ≡ fresh_world f (suc i) (left f W L (suc i)) (side_at (suc i) W) (side_at (suc i) H) (L - suc i) x
  unfolding fresh_at set_up_store
  world_is x =
      let z : store_by f W L ≡ on_top (left f W L (suc i)) (store_by f (side_at (suc i) W) (L - suc i)) =
      sym whole-store ∙ sym (on-top (left f W L (suc i)) (store_by f (side_at (suc i) W) (L - suc i))) in
      rw on (ap (λ (v : ℕ). record {
        reader = fresh_over f (suc i) (left f W L (suc i)) (side_at (suc i) W) (side_at (suc i) H) (L - suc i);
        store = zeroed v x;
      }) z)

  pub distant : (x : ℕ → ℤ) (cs : List Call) →
      (let w = stopped_world f W H L (suc i) x in Distant f W H L (suc i) (events cs w) (λ c. event c (final cs w)))
  distant x cs =
      subst (λ w. Distant f W H L (suc i) (events cs w) (λ c. event c (final cs w))) (sym (world_is x))
      (holds f W H L i _ _ (of_calls x cs (L - suc i) refl).claim)

-- ---- no level to work out
module _ (f : ℕ) (W H : Side) (L j n : ℕ) (across : W.start ≤ max_origin) (down : H.start ≤ max_origin) (ok : stop_question f W H L j n ≡ 0)
    (off : works W H L j ≡ false) where
  abbrev height : ℕ
  height = pick (eqb (side_at j W).length 0) 0 (side_at j H).length

  height-le : height ≤ (side_at j H).length
  height-le = go (eqb (side_at j W).length 0)
    where
      go : (t : Bool) → pick t 0 (side_at j H).length ≤ (side_at j H).length
      go true = omega arith
      go false = omega arith

  rows-some : (f w : ℕ) → w ≤ (filter_of f).rows * w
  unfolding filter_of
  rows-some zero w = omega arith
  rows-some (suc f) w = omega arith

  last-limits : Last f j (side_at j W).length height (store_by f W L) (side_at j W).start (side_at j H).start
  unfolding max_spare max_width max_levels
  last-limits =
      let a = stop-in f W H L j n ok in
      let w = within-true 1 max_width W.length a.0 in
      let h = within-true 1 max_height H.length a.1 in
      let d = within-true 1 (filter_of f).levels L a.3 in
      let s = within-true 1 L j a.4 in
      record {
        known = a.2;
        stop = within-yes 1 (filter_of f).levels j s.0 (omega (arith, s.1, d.1));
        wide = omega (arith, size-le j W, w.1);
        high = omega (arith, height-le, size-le j H, h.1);
        across = omega (arith, start-le j W, across);
        down = omega (arith, start-le j H, down);
        room = omega (arith, size-le j W, rows-some f W.length, first-room (filter_of f).rows W L d.0);
        most = most-is w.1 d.1;
      }
    where
      most-is : W.length ≤ max_width → L ≤ (filter_of f).levels → store_by f W L ≤ max_spare
      most-is w d = omega (arith, store-few f W L, levels-most f)

  world-last : (x : ℕ → ℤ) → stopped_world f W H L j x ≡
      world f j (side_at j W).length height (store_by f W L) (side_at j W).start (side_at j H).start last-limits 0 false (zeroed (store_by f W L) x)
  unfolding fresh_at last_at set_up_store
  world-last x = rw off refl

  pub distant-last : (x : ℕ → ℤ) (cs : List Call) →
      (let w = stopped_world f W H L j x in HandsLow f W H L j (events cs w) (λ c. event c (final cs w)))
  distant-last x cs =
      subst (λ w. HandsLow f W H L j (events cs w) (λ c. event c (final cs w))) (sym (world-last x))
      (hands_on f j (side_at j W).length height (store_by f W L) (side_at j W).start (side_at j H).start last-limits (zeroed (store_by f W L) x) cs)
