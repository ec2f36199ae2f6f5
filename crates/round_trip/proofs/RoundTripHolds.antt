-- The round trip. Proved from the two theorems of demand 3 and the reader fed as it wants; nothing here looks at a state or a store. Assumes nothing.
use mathlib.Core.Bool.{Bool, true, false}
use mathlib.Core.Path.{◌≡◌, refl, sym, ap, ap₂, subst, ◌∙◌}
use mathlib.Core.List.{List, [], ◌∷◌, map}
use Prim.Native.Nat.{ℕ, ◌+◌, ◌*◌, ◌≤◌, ◌<◌}
use native.Mathlib.Nat.{mul-le-mul_right, mul_comm, eq_of_mul-eq-mul_left}
use native.Mathlib.Omega.{arith}
use lib.IntN.{ℤ}
use lib.ListN.{length}
use lib.Dec.{T, eqb}
use borrow.Author.Tests.{le-leb, lt-ltb, eq-eqb, eqb-true}
use Rattle.numbers.specs.Signal.{pick}
use Rattle.numbers.specs.Word.{whole}
use Rattle.numbers.proofs.Sweep.{both}
use Rattle.filters.specs.Filters.{filter_of, is_filter}
use Rattle.filters.specs.Figures.{store_by, writer_store_by, streamable}
use Rattle.filters.proofs.FigureLaws.{streams}
use Rattle.wavelet.specs.Bands.{Grid, Band, LL, HL, LH, HH, code}
use Rattle.wavelet.specs.Plane.{cells, plane_cell}
use Rattle.wavelet.specs.ViewCall.{kept_at, band_row_exists}
use Rattle.lifting.specs.Grid.{Side, side}
use Rattle.wavelet.specs.Levels.{level_band}
use Rattle.wavelet.specs.View.{band_rows, band_columns}
use Rattle.wavelet.specs.Limits.{max_origin, max_width, max_height}
use Rattle.wavelet.specs.Questions.{within}
use Rattle.wavelet.specs.Maps.{IsMap, HasPlane}
use Rattle.wavelet.specs.Order.{RowName}
use Rattle.wavelet.proofs.QuestionLaws.{within-true, within-yes}
use Rattle.wavelet.proofs.PlaneLayout.{Stands, place_is, row_in, column-in, cell-places}
use Rattle.wavelet.proofs.PlanePlaces.{Found, found, found-place}
use Rattle.calls.specs.Lists.{Area, All, all_more}
use Rattle.calls.proofs.AllLaws.{In, first, later}
use Rattle.calls.proofs.QuestionLaws.{asked-yes}
use Rattle.writer.specs.declared.BandRow.{BandRow}
use Rattle.writer.specs.History as writer
use Rattle.writer.specs.Demand3.{HasValues, MapOf, answered}
use Rattle.writer.specs.Questions as writer-asks
use Rattle.writer.specs.Demand3 as writes
use Rattle.progress.proofs.CountLaws.{code_one}
use Rattle.writer.proofs.CallLaws.{set-up-passed}
use Rattle.writer.proofs.Demand3 as writer-holds
use Rattle.reader.specs.Questions as reader-asks
use Rattle.reader.specs.Demand3 as reader
use Rattle.reader.specs.Played.{Sized, HasAll}
use Rattle.reader.proofs.Played.{times-in, exists-parts, played-holds}
use Rattle.round_trip.specs.RoundTrip.{is_named, drawn_as, wrote, rows_wrote, side_wrote, Finished, Lent, HandsBack, plane_rows, FromPlane}

-- ---- a row found by its name
pub record Named (x : RowName) (d : BandRow) : Type 0 where
  level : x.level ≡ d.level
  band : code x.band ≡ d.band
  row : x.row ≡ d.row

named-is : (x : RowName) (d : BandRow) → is_named x d ≡ true → Named x d
unfolding is_named
named-is x d e =
    let a = both (eqb x.level d.level) _ e in
    let b = both (eqb (code x.band) d.band) _ a.1 in
    record { level = eqb-true _ _ a.0; band = eqb-true _ _ b.0; row = eqb-true _ _ b.1 }

named_self : (W : Side) (x : RowName) → is_named x (answered W x) ≡ true
unfolding is_named
named_self W x = rw (eq-eqb x.level x.level refl, eq-eqb (code x.band) (code x.band) refl, eq-eqb x.row x.row refl) refl

in_split : {A C : Type 0} (x z : A) (xs : List A) → In x (z ∷ xs) → (x ≡ z → C) → (In x xs → C) → C
in_split x _ xs first f g = f refl
in_split x z xs (later i) f g = g i

module _ (f : ℕ) (W : Side) (s H : ℕ) (g : Grid) where
  abbrev Right : RowName → Area → Type 0
  Right = reader.IsRow f W (side s H) g

  -- a drawn row of that name is that band row
  drawn-right : (x z : RowName) (d : writer.DrawnRow) → d.row ≡ answered W z → HasValues f W s H g d → is_named x d.row ≡ true →
      Right x (record { size = d.row.length; numbers = d.values })
  drawn-right x z d e has is =
      let n = named-is x d.row is in
      let b : x.band ≡ z.band = code_one x.band z.band (n.band ∙ ap (λ q. q.band) e) in
      let k : x.level ≡ z.level = n.level ∙ ap (λ q. q.level) e in
      let long : band_columns W x.level x.band ≡ d.row.length = ap₂ (band_columns W) k b ∙ ap (λ q. q.length) (sym e) in
      record {
        size = sym long;
        values = λ i p.
            has.are x.band (sym n.band) i (rw long at p)
            ∙ ap₂ (λ q r. level_band (filter_of f) whole W (side s H) g q x.band r i) (sym n.level) (sym n.row);
      }

  found_right : (ds : List writer.DrawnRow) (names : List RowName) → map (λ d. d.row) ds ≡ map (answered W) names →
      All (HasValues f W s H g) ds → (x : RowName) → In x names → Right x (drawn_as ds x)
  unfolding drawn_as
  found_right [] [] e a x i = elim i [ ]
  found_right (d ∷ ds) [] e a x i = elim i [ ]
  found_right [] (z ∷ names) e a x i = absurd (let p : ◌≡◌ {A = ℕ} 0 1 = cc in omega arith)
  found_right (d ∷ ds) (z ∷ names) e (all_more h a) x i =
      let q : d.row ≡ answered W z = cc in
      let r : map (λ d. d.row) ds ≡ map (answered W) names = cc in
      go (is_named x d.row) refl q i (found_right ds names r a x)
    where
      go : (t : Bool) → is_named x d.row ≡ t → d.row ≡ answered W z → In x (z ∷ names) → (In x names → Right x (drawn_as ds x)) →
          Right x (pick t (record { size = d.row.length; numbers = d.values }) (drawn_as ds x))
      go true is q i ih = drawn-right x z d q h is
      go false is q i ih =
          in_split x z names i
          (λ same. absurd (subst T (sym (ap (is_named x) q ∙ ap (λ v. is_named x (answered W v)) (sym same) ∙ named_self W x) ∙ is) tt))
          ih

-- ---- questions 2, 18 and 4 are the writer's too
set-up-passes : (f : ℕ) (W H : Side) (L n : ℕ) → streamable f W L ≡ true → (1 ≤ H.length) × (H.length ≤ max_height) → store_by f W L ≤ n →
    reader-asks.set_up_question f W H L n ≡ 0
unfolding reader-asks.set_up_question reader-asks.store_fits
set-up-passes f W H L n ok high room =
    let s = streams f W L ok in
    rw (
      within-yes 1 max_width W.length s.width.0 s.width.1,
      within-yes 1 max_height H.length high.0 high.1,
      s.known,
      within-yes 1 (filter_of f).levels L s.levels.0 s.levels.1,
      le-leb (store_by f W L) n room,
    ) refl

module _ (f : ℕ) (W : Side) (s L n : ℕ) (x : ℕ → ℤ) (cs : List writer.Call) (done : Finished f W s L n x cs) where
  abbrev es : List writer.Event
  es = wrote f W s L n x cs

  claim : writes.Demand3 f W s L es (λ k. writer.event k (writer.final cs (writer.fresh_world f W s L n x)))
  claim = (writer-holds.demand-3 f W s L n x done.across done.down done.set-up cs).1

  -- ---- the map that was written
  in-limits : (streamable f W L ≡ true) × (writer_store_by f W L ≤ n)
  in-limits = set-up-passed f W L n done.set-up

  width : 0 < W.length
  width = (streams f W L in-limits.0).width.0

  written : (H : ℕ) × (g : Grid) × MapOf W H g es
  written = claim.some_map done.sixteen

  abbrev H : ℕ
  H = written.0

  abbrev g : Grid
  g = written.1

  whole-map : length (writer.taken es) ≡ W.length * rows_wrote f W s L n x cs
  whole-map = (claim.finished_map done.finished).2

  height : H ≡ rows_wrote f W s L n x cs
  height = eq_of_mul-eq-mul_left W.length width H (rows_wrote f W s L n x cs) (sym (written.2.all done.finished) ∙ whole-map)

  abbrev rows : RowName → Area
  rows = drawn_as (writer.drawn es)

  -- it has all the rows drawn
  has_all : HasAll f W (side_wrote f W s L n x cs) L g rows
  has_all =
      let a = claim.all_drawn done.finished done.none_waits in
      let R = rows_wrote f W s L n x cs in
      record {
        are = λ y e.
            found_right f W s R g (writer.drawn es) a.names a.answers values y
            (times-in y a.names (omega (arith, a.once y ∙ ap (λ t. pick t 1 0) e)));
      }
    where
      values : All (HasValues f W s (rows_wrote f W s L n x cs) g) (writer.drawn es)
      values = subst (λ h. All (HasValues f W s h g) (writer.drawn es)) height (claim.values H g written.2)

  is-map : IsMap W.length (rows_wrote f W s L n x cs) g
  is-map = subst (λ h. IsMap W.length h g) height written.2.begins.map

  passes : (n' : ℕ) → store_by f W L ≤ n' → reader-asks.set_up_question f W (side_wrote f W s L n x cs) L n' ≡ 0
  passes n' room =
      let m = claim.finished_map done.finished in
      set-up-passes f W (side_wrote f W s L n x cs) L n' in-limits.0 (m.0, m.1) room

  -- ---- the theorem: a reader set up with that size, fed and drawn as it wants with the rows drawn, hands back every height in order and says Done
  pub hands-back : (n' : ℕ) (y : ℕ → ℤ) (outs : ℕ → Area) → Lent f W s L n x cs n' y outs → HandsBack f W s L n x cs n' y outs
  hands-back n' y outs lent =
      let ok = passes n' lent.store in
      let p = (played-holds f W (side_wrote f W s L n x cs) L n' done.across done.down ok rows outs lent.areas y).map-back g is-map has_all in
      record {
        set-up = ok;
        rows = p.all;
        all = whole-map;
        heights = λ r c h k. p.heights.are r c (omega (arith, p.all)) k ∙ written.2.begins.heights r c k (place r c h k);
        done = p.says;
      }
    where
      place : (r c : ℕ) → r < rows_wrote f W s L n x cs → c < W.length → r * W.length + c < length (writer.taken es)
      place r c h k = let m : (r + 1) * W.length ≤ rows_wrote f W s L n x cs * W.length = mul-le-mul_right W.length (omega arith) in
          omega (arith, whole-map, mul_comm W.length (rows_wrote f W s L n x cs))

-- ---- from a plane: its band rows are a map's exactly where the plane is
module _ (f : ℕ) (W H : Side) (L : ℕ) (plane : ℕ → ℤ) (g : Grid) where
  kept_if : (k : ℕ) (b : Band) → (b ≡ LL → k ≡ L) → kept_at L k b ≡ true
  unfolding kept_at
  kept_if k LL h = eq-eqb k L (h refl)
  kept_if k HL h = refl
  kept_if k LH h = refl
  kept_if k HH h = refl

  kept-last : (k : ℕ) (b : Band) → kept_at L k b ≡ true → b ≡ LL → k ≡ L
  unfolding kept_at
  kept-last k b h z = eqb-true k L (subst (λ v. kept_at L k v ≡ true) z h)

  exists-if : (k : ℕ) (b : Band) (r c : ℕ) → Stands L W H k b r c → band_row_exists W H L k b r ≡ true
  unfolding band_row_exists within
  exists-if k b r c s = rw (
    le-leb 1 k s.deep,
    le-leb k L s.most,
    kept_if k b s.last,
    lt-ltb 0 (band_columns W k b) (omega (arith, s.column)),
    lt-ltb r (band_rows H k b) s.row,
  ) refl

  stands-if : (k : ℕ) (b : Band) (r c : ℕ) → band_row_exists W H L k b r ≡ true → c < band_columns W k b → Stands L W H k b r c
  stands-if k b r c e p =
      let a = exists-parts W H L k b r e in
      record { deep = a.0; most = a.2; last = kept-last k b a.3; row = a.1; column = p }

  rows-plane : 0 < L → IsMap W.length H.length g → HasAll f W H L g (plane_rows W H plane) → HasPlane (filter_of f) L W H g (cells W.length plane)
  unfolding plane_rows cells
  rows-plane some m h = record { map = m; coefficients = λ r c p q. at r c (found L W H r c some p q) }
    where
      at : (r c : ℕ) → Found L W H r c → plane (r * W.length + c) ≡ plane_cell (filter_of f) whole L W H g r c
      at r c z =
          ap plane (sym (found-place L W H r c z))
          ∙ (h.are (record { level = z.level; band = z.band; row = z.row }) (exists-if z.level z.band z.row z.column z.stands)).values
          z.column z.stands.column
          ∙ sym (cell-places (filter_of f) whole L W H g z.level z.band z.row z.column z.stands)
          ∙ ap₂ (plane_cell (filter_of f) whole L W H g) z.row_is z.column-is

  plane-rows : HasPlane (filter_of f) L W H g (cells W.length plane) → HasAll f W H L g (plane_rows W H plane)
  unfolding plane_rows cells
  plane-rows has = record {
    are = λ y e. record {
      size = refl;
      values = λ i p.
          let s = stands-if y.level y.band y.row i e p in
          ap plane (place_is W H y.level y.band y.row i)
          ∙ has.coefficients _ _ (row_in L W H y.level y.band y.row i s) (column-in L W H y.level y.band y.row i s)
          ∙ cell-places (filter_of f) whole L W H g y.level y.band y.row i s;
    };
  }

planes-sized : (W H : Side) (L : ℕ) (plane : ℕ → ℤ) → Sized W H L (plane_rows W H plane)
unfolding plane_rows
planes-sized W H L plane = record { size = λ y e. refl }

some-levels : (f : ℕ) (W H : Side) (L n : ℕ) → reader-asks.set_up_question f W H L n ≡ 0 → 0 < L
unfolding reader-asks.set_up_question
some-levels f W H L n e =
    let a = asked-yes (within 1 max_height H.length) _ _ (asked-yes (within 1 max_width W.length) _ _ e).1 in
    let b = asked-yes (is_filter f) _ _ a.1 in
    (within-true 1 (filter_of f).levels L (asked-yes (within 1 (filter_of f).levels L) _ _ b.1).0).0

-- ---- the theorem: of a map's plane the map and Done, of any other plane 7 or 14 and no Done
pub from-plane : (f : ℕ) (W H : Side) (L n : ℕ) (y plane : ℕ → ℤ) (outs : ℕ → Area) → W.start ≤ max_origin → H.start ≤ max_origin →
    reader-asks.set_up_question f W H L n ≡ 0 → ((i : ℕ) → W.length ≤ (outs i).size) → FromPlane f W H L n y plane outs
from-plane f W H L n y plane outs across down ok room =
    let p = played-holds f W H L n across down ok (plane_rows W H plane) outs room y in
    record {
      map-back = λ g has. p.map-back g has.map (plane-rows f W H L plane g has);
      no_map = λ none_has. p.no_map (planes-sized W H L plane) (λ g m h. none_has g (rows-plane f W H L plane g (some-levels f W H L n ok) m h));
    }
