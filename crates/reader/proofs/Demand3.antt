-- Demand 3 for the reader: the theorem. From a fresh reader and store, for every list of calls. Assumes nothing.
use mathlib.Core.Bool.{Bool, true, false}
use mathlib.Core.Path.{◌≡◌, refl, sym, ap, ap₂, subst, ◌∙◌}
use mathlib.Core.List.{List, [], ◌∷◌, ◌++◌, append-nil}
use Prim.Native.Nat.{ℕ, zero, suc, ◌+◌, ◌-◌, ◌≤◌, ◌<◌}
use native.Mathlib.Omega.{arith}
use lib.IntN.{ℤ}
use lib.ListN.{length}
use mir.Syntax.{w32}
use mir.Val.{SFits}
use Rattle.numbers.specs.Signal.{pick}
use Rattle.numbers.specs.Word.{wrap32, whole}
use Rattle.lifting.specs.Grid.{Side, count}
use Rattle.wavelet.specs.Limits.{max_width, max_height, max_origin}
use Rattle.wavelet.specs.Bands.{Grid, Band, across, down, level_has}
use Rattle.wavelet.specs.Maps.{value_fits}
use Rattle.wavelet.specs.Questions.{within}
use Rattle.wavelet.specs.Order.{row_name, times}
use Rattle.wavelet.specs.Steps.{Step, band_rows_of, steps}
use Rattle.wavelet.proofs.QuestionLaws.{within-true}
use Rattle.wavelet.specs.Levels.{side_at, approximation, level_band}
use Rattle.wavelet.specs.View.{band_columns}
use Rattle.wavelet.specs.ViewCall.{band_row_exists}
use Rattle.wavelet.proofs.StepLaws.{steps-once, steps-heights}
use Rattle.calls.specs.Lists.{gives, All, all_none, all_more}
use Rattle.calls.proofs.AllLaws.{In, all_in, in_all}
use Rattle.calls.proofs.QuestionLaws.{asked-yes}
use Rattle.filters.specs.Filters.{filter_of, is_filter}
use Rattle.filters.specs.Figures.{store_by}
use Rattle.reader.specs.Rebuilt.{Rows, rebuilt, bands_at, part_at, SetsFit}
use Rattle.reader_steps.specs.Places.{has_cells, Place}
use Rattle.reader.specs.Answers.{done}
use Rattle.reader_steps.specs.Sets.{ahead}
use Rattle.reader.specs.Limited.{drawn_as}
use Rattle.reader.specs.Reading as all
use Rattle.reader.specs.Questions.{set_up_question}
use Rattle.reader.specs.Demand3.{Call, want, Event, wanted}
use Rattle.reader.specs.Demand3.{World, event, ends, FedRow}
use Rattle.reader.specs.Demand3.{IsPart, HasRow, FirstRows, HasFedRow, want_says}
use Rattle.reader.specs.Demand3.{Demand3, OfCalls}
use Rattle.reader.proofs.Outcomes.{kept-last}
use Rattle.reader.proofs.Holds.{Fits}
use Rattle.reader.proofs.CallViews.{Limits, limits, on-top, View, counts}
use Rattle.reader.proofs.Reached.{names_of, Good, Agrees, Kept, reached, world}
use Rattle.reader.proofs.BaseLaws.{part-band, part-values, value-part}
use Rattle.reader.proofs.Rebuilt.{lookup, lookup-words, found, back, back-has, rows_of, part_same, bands-have}
use Rattle.reader_steps.proofs.CellLaws.{cells_are}
use Rattle.level.proofs.LevelHas.{sets-have, have-sets}
use Rattle.reader_steps.proofs.OpenedSets.{looks, last-needed}
use Rattle.reader.proofs.CallLists.{done-only, Then, tall, few, then-reached, in-band, viewed, want_is, feed-turned, feed-on, draw-is}
use Rattle.reader.proofs.CallLists.{feed-works-here, feed-ends-here, draw-works-here, draw-ends-here, all_drawn, none_left}

-- a set-up of no levels does not pass
pub no-levels : (f : ℕ) (W H : Side) (n : ℕ) → set_up_question f W H 0 n ≡ 0 → ⊥
unfolding set_up_question
no-levels f W H n e =
    let a = asked-yes (within 1 max_height H.length) _ _ (asked-yes (within 1 max_width W.length) _ _ e).1 in
    let b = asked-yes (is_filter f) 17 _ a.1 in
    omega (arith, (within-true 1 (filter_of f).levels 0 (asked-yes (within 1 (filter_of f).levels 0) 3 _ b.1).0).0)

-- ---- the strict reader: maps that have the rows fed
module _ (f base spare : ℕ) (W H : Side) (l : ℕ) (lim : Limits 0 f base spare W H l) where
  few₀ : base + suc l ≤ (filter_of f).levels
  few₀ = few 0 f base spare W H l lim

  abbrev Map : Grid → Type 0
  Map g = IsPart (filter_of f) base W.length H.length g

  -- the rows of its plane over words
  abbrev own : (g : Grid) → Map g → Rows
  own g m = rows_of f base W H g m l few₀

  exact : (g : Grid) → Map g → (fr : FedRow) → Good 0 f base spare W H l fr → (i : ℕ) → i < band_columns W fr.row.level fr.row.band →
      level_band (filter_of f) wrap32 W H g fr.row.level fr.row.band fr.row.row i
      ≡ level_band (filter_of f) whole W H g fr.row.level fr.row.band fr.row.row i
  exact g m fr good =
      in-band 0 f base spare W H l lim fr (λ v i. level_band (filter_of f) wrap32 W H g v fr.row.band fr.row.row i
      ≡ level_band (filter_of f) whole W H g v fr.row.band fr.row.row i) good
      (λ i p. part-band f base W H g m good.k (omega (arith, good.inside, few₀)) fr.row.band fr.row.row i
      good.in_rows p)

  words_of : (g : Grid) (m : Map g) (fs : List FedRow) → All (Good 0 f base spare W H l) fs → All (HasRow f W H g) fs → All (HasFedRow W (own g m)) fs
  words_of g m [] all_none all_none = all_none
  words_of g m (fr ∷ fs) (all_more good gs) (all_more h hs) = all_more (λ i p. h.values i p ∙ sym (exact g m fr good i p)) (words_of g m fs gs hs)

  wholes-of : (g : Grid) (m : Map g) (fs : List FedRow) → All (Good 0 f base spare W H l) fs → All (HasFedRow W (own g m)) fs → All (HasRow f W H g) fs
  wholes-of g m [] all_none all_none = all_none
  wholes-of g m (fr ∷ fs) (all_more good gs) (all_more h hs) =
      all_more (record { size = good.size; values = λ i p. h i p ∙ exact g m fr good i p }) (wholes-of g m fs gs hs)

  -- every value of a map and of its low-low parts fits
  map-value : (g : Grid) (m : Map g) (k r c : ℕ) → k ≤ l → r < (side_at k H).length → c < (side_at k W).length →
      value_fits (filter_of f) (base + k) (approximation (filter_of f) wrap32 W H g k r c) ≡ true
  map-value g m k r c h p q = part-values f base W H g m k (omega (arith, few₀)) r c p q

  map-fitting : (g : Grid) (m : Map g) → Fits 0 f base W H l (own g m)
  map-fitting g m k live i there = record {
    fit = λ r c p _ q. subst (λ v. value_fits (filter_of f) (base + k) v ≡ true) (sym (part_same f base W H g m l few₀ k live.0 r c p q))
        (map-value g m k r c live.0 p q);
    has = have-sets (filter_of f) (ahead f) (side_at k W) (side_at k H) _ (bands-have f base W H g m l few₀ k live.0)
        (cells_are (side_at k W) (side_at k H) live.1).1 i there;
  }

  module _ (d : ℕ) (p : Place) (e : Bool) (x : ℕ → ℤ) (t : List Step) (fs : List FedRow) (ds : List (ℕ → ℤ))
      (kept : Kept 0 f base spare W H l d p e x t fs ds) where
    -- ---- maps that have the rows fed
    agrees : (g : Grid) (m : Map g) → All (HasRow f W H g) fs → Agrees 0 f base spare W H l (own g m) d p e x ds
    agrees g m has = kept.rows (own g m) (words_of g m fs kept.good has)

    first_rows : (g : Grid) → Map g → All (HasRow f W H g) fs → FirstRows base W g ds
    unfolding approximation side_at
    first_rows g m has = record {
      are = λ r c b q. (agrees g m has).shows r c (omega (arith, kept.drawn)) q
          ∙ ap (drawn_as base) (part_same f base W H g m l few₀ 0 (omega arith) r c (omega (arith, kept.drawn, kept.drawn_le)) q);
    }

    none_has : e ≡ true → (g : Grid) → Map g → All (HasRow f W H g) fs → ⊥
    none_has z g m has = (agrees g m has).refuses z (map-fitting g m)

    -- the grid that has the rows fed
    module _ (live : e ≡ false) (over : t ≡ []) where
      all-names : names_of fs ≡ band_rows_of (steps (ahead f) W H (suc l))
      unfolding band_rows_of
      all-names = sym (append-nil (names_of fs)) ∙ ap (λ v. names_of fs ++ band_rows_of v) (sym over) ∙ kept.names live

      once : (fr : FedRow) → times fr.row (names_of fs) ≤ 1
      once fr = rw (all-names, steps-once (ahead f) (looks f) W H (suc l) (omega arith) fr.row)
          (go (band_row_exists W H (suc l) fr.row.level fr.row.band fr.row.row))
        where
          go : (u : Bool) → pick u 1 0 ≤ 1
          go true = omega arith
          go false = omega arith

      found_in : (fr : FedRow) → In fr fs → lookup fs fr.row ≡ fr.run.numbers
      found_in fr i = found fr fs i (once fr)

      fed-has : All (HasFedRow W (lookup fs)) fs
      fed-has = all_in fs (λ fr i j b. ap (λ (u : ℕ → ℤ). u j) (sym (found_in fr i)))

      fed-agrees : Agrees 0 f base spare W H l (lookup fs) d p e x ds
      fed-agrees = kept.rows (lookup fs) fed-has

      d-is : d ≡ H.length
      d-is = omega (
        arith,
        kept.drawn_le,
        all_drawn 0 f base spare W H l lim d p e x t fs ds kept
            (subst (View f W H l d p) over (viewed 0 f base spare W H l lim d p e x t fs ds kept)),
      )

      words-at : (k : ℕ) (c : Band) (r i : ℕ) → k ≤ l → r < count (down c) (side_at k H) → i < count (across c) (side_at k W) →
          SFits w32 (lookup fs (row_name (suc k) c r) i)
      unfolding band_columns
      words-at k c r i h b q = let z : suc k - 1 ≡ k = omega arith in lookup-words 0 f base spare W H l few₀ fs kept.good (row_name (suc k) c r) i (rw z q)

      -- the last row drawn has had every set of every level worked out
      lines_at : (k : ℕ) → k ≤ l → has_cells (side_at k W) (side_at k H) ≡ true
          → level_has (filter_of f) (side_at k W) (side_at k H) (bands_at 0 f base W H (lookup fs) (suc l) k) ≡ true
      lines_at k h cells = sets-have (filter_of f) (ahead f) (side_at k W) (side_at k H) _ (λ m q.
          fed-agrees.has (H.length - 1) (omega (arith, d-is, (tall 0 f base spare W H l lim))) k (h, cells) m
          (omega (arith, q, last-needed f H k (cells_are (side_at k W) (side_at k H) cells).1)))

      abbrev grid : Grid
      grid = back f base W H l (lookup fs) words-at lines_at

      grid-is : grid ≡ part_at 0 f base W H (lookup fs) (suc l) 0
      unfolding rebuilt
      grid-is = let z : suc l - 1 ≡ l = omega arith in rw z refl

      grid-map : Map grid
      grid-map = value-part f base W.length H.length grid (λ r c b q.
          subst (λ (g : Grid). value_fits (filter_of f) base (g r c) ≡ true) (sym grid-is) (fed-agrees.fit r c (omega (arith, d-is)) q))

      grid-has : All (HasFedRow W (own grid grid-map)) fs
      grid-has = all_in fs (λ fr i. one fr (in_all fr fs i kept.good) (found_in fr i))
        where
          one : (fr : FedRow) → Good 0 f base spare W H l fr → lookup fs fr.row ≡ fr.run.numbers → HasFedRow W (own grid grid-map) fr
          one fr good eq i b =
              sym (in-band 0 f base spare W H l lim fr (λ v j. level_band (filter_of f) wrap32 W H grid v fr.row.band fr.row.row j
              ≡ lookup fs (row_name v fr.row.band fr.row.row) j) good
              (λ j q. back-has f base W H l (lookup fs) words-at lines_at good.k fr.row.band good.inside
              (kept-last good.k l fr.row.band good.kept) fr.row.row j good.in_rows q) i b
              ∙ ap (λ u. u i) eq)

      grid-rows : All (HasRow f W H grid) fs
      grid-rows = wholes-of grid grid-map fs kept.good grid-has

    finished-then : event want (world 0 f base spare W H l lim d p e x) ≡ wanted (gives done) →
        (g : Grid) × Map g × All (HasRow f W H g) fs × (length ds ≡ H.length) × FirstRows base W g ds
    finished-then z =
        let w : ◌≡◌ {A = Event} (wanted (gives (want_says base W e t))) (wanted (gives done)) = sym (want_is 0 f base spare W H l lim d p e x t fs ds kept)
        ∙ z in
        let v : want_says base W e t ≡ done = cc in
        let o = done-only base W e t v in (
          grid o.0 o.1,
          grid-map o.0 o.1,
          grid-rows o.0 o.1,
          kept.drawn
              ∙ d-is o.0 o.1,
          first_rows (grid o.0 o.1) (grid-map o.0 o.1) (grid-rows o.0 o.1),
        )

    not-ended : (u : Bool) → (u ≡ true → ⊥) → u ≡ false
    not-ended true h = absurd (h refl)
    not-ended false h = refl

    then-finished : (g : Grid) → Map g → All (HasRow f W H g) fs → length ds ≡ H.length → event want (world 0 f base spare W H l lim d p e x) ≡ wanted
        (gives done)
    unfolding want_says
    then-finished g m has all =
        let live : e ≡ false = not-ended e (λ z. none_has z g m has) in
        let over : t ≡ [] = none_left 0 f base spare W H l lim d p e x t fs ds kept t (viewed 0 f base spare W H l lim d p e x t fs ds kept)
        (omega (arith, kept.drawn, all)) in
        (want_is 0 f base spare W H l lim d p e x t fs ds kept) ∙ ap₂ (λ u v. wanted (gives (want_says base W u v))) live over

  -- ---- the claim, for a world that is reached
  pub claim : (es : List Event) (w : World) → Then 0 f base spare W H l lim es w → (all.counts_fit w.reader ≡ true)
      × Demand3 f base spare W H (suc l) es (λ c. event c w)
  claim es _ (reached d p e x t fs ds kept) = (
    counts 0 f base spare W H l lim d p kept.drawn_le kept.level-le kept.band-le kept.back-le e kept.lives,
    record {
      rows_once = steps-once (ahead f) (looks f) W H (suc l) (omega arith);
      heights_once = steps-heights (ahead f) W H (suc l);
      wants = want_is 0 f base spare W H l lim d p e x t fs ds kept;
      feeds_turned = rw (on-top spare (store_by f W (suc l))) (feed-turned 0 f base spare W H l lim d p e x t fs ds kept);
      feeds_on = rw (on-top spare (store_by f W (suc l))) (feed-on 0 f base spare W H l lim d p e x t fs ds kept);
      draws = rw (on-top spare (store_by f W (suc l))) (draw-is 0 f base spare W H l lim d p e x t fs ds kept);
      first = λ g has. first_rows d p e x t fs ds kept g has.map has.rows;
      feed_works = λ n a y t' goes P has. feed-works-here 0 f base spare W H l lim d p e x t fs ds kept n a y t' goes.next P has goes.passes;
      draw_works = λ n a z passes P has.
          subst (λ i. SetsFit 0 f base W H (suc l) P 0 i) (sym kept.drawn)
          (draw-works-here 0 f base spare W H l lim d p e x t fs ds kept n a z P has passes);
      feed_ends = λ n a y t' first ends P has. feed-ends-here 0 f base spare W H l lim d p e x t fs ds kept n a y t' first P has ends;
      draw_ends = λ n a z ends P has fit.
          draw-ends-here 0 f base spare W H l lim d p e x t fs ds kept n a z P has ends (subst (λ i. SetsFit 0 f base W H (suc l) P 0 i) kept.drawn fit);
      impossible = λ z g has. none_has d p e x t fs ds kept z g has.map has.rows;
      finished = (
        λ z. let fr = finished-then d p e x t fs ds kept z in record { map = fr.0; has = record { map = fr.1; rows = fr.2 }; all = fr.3; first = fr.4 },
        λ fr. then-finished d p e x t fs ds kept fr.map fr.has.map fr.has.rows fr.all,
      );
    },
  )

-- ---- demand 3 over a base level: whatever the columns, rows and levels of a level within the limits
pub demand-3-over : (f base spare : ℕ) (W H : Side) (l : ℕ) → Limits 0 f base spare W H l → (x : ℕ → ℤ) (cs : List Call) → OfCalls f base spare W H (suc l) x cs
demand-3-over f base spare W H l lim x cs =
    let c = claim f base spare W H l lim _ _ (then-reached 0 f base spare W H l lim x cs) in
    record { in_range = c.0; claim = c.1 }

-- ---- demand 3: a set-up that passes, of a map that starts on the grid, on a store of n numbers in which x stood, then any calls
pub demand-3 : (f : ℕ) (W H : Side) (L n : ℕ) → W.start ≤ max_origin → H.start ≤ max_origin → set_up_question f W H L n ≡ 0 → (x : ℕ → ℤ) (cs : List Call) →
    OfCalls f 0 0 W H L x cs
demand-3 f W H zero n across down ok x cs = absurd (no-levels f W H n ok)
demand-3 f W H (suc l) n across down ok x cs = demand-3-over f 0 0 W H l (limits f W H l n across down ok) x cs
