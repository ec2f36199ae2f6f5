-- From what the tolerant reader does over every list of calls (`Tolerant`): what it hands out of a map's rounded plane, and that it comes to Done.
--     from-rounded      over every list: the row wanted passes, no height is off by more than the figure, a step of 1 gives the map
--     played-near       fed and drawn as it wants: all rows, and Done
-- Nothing here looks at a state. Assumes nothing.
use mathlib.Core.Path.{◌≡◌, refl, sym, ap, subst, ◌∙◌}
use mathlib.Core.Bool.{Bool, true, false}
use mathlib.Core.List.{List, [], ◌∷◌}
use Prim.Native.Nat.{ℕ, ◌-◌, ◌≤◌, ◌<◌}
use native.Mathlib.Omega.{arith}
use lib.IntN.{ℤ, pos, nat_abs}
use lib.ListN.{length, get_or}
use borrow.Author.Tests.{le-leb, eq-eqb}
use Rattle.numbers.specs.Signal.{pick}
use Rattle.numbers.specs.Word.{wrap32}
use Rattle.numbers.proofs.TestLaws.{each-every}
use Rattle.lifting.specs.Grid.{side}
use Rattle.lifting.specs.Filter.{Filter}
use Rattle.lifting.specs.FiveThree.{five_three_filter}
use Rattle.wavelet.specs.Limits.{range}
use Rattle.wavelet.specs.Bands.{Grid}
use Rattle.wavelet.specs.Maps.{HasPlane}
use Rattle.wavelet.specs.Order.{RowName, times}
use Rattle.wavelet.specs.Plane.{cells}
use Rattle.wavelet.specs.Steps.{Step, band_rows_of}
use Rattle.wavelet.specs.Steps as step
use Rattle.wavelet.specs.View.{band_columns}
use Rattle.wavelet.specs.ViewCall.{band_row_exists}
use Rattle.wavelet.proofs.StepLaws.{steps-once}
use Rattle.wavelet.proofs.ViewLaws.{exists-kept}
use Rattle.calls.specs.Lists.{unless, Area}
use Rattle.calls.proofs.AllLaws.{In, first, later}
use Rattle.filters.specs.Filters.{filter_of}
use Rattle.rounding.specs.Rounding.{rounded_cell, rounded_plane}
use Rattle.tolerance.specs.Back.{map_back_limited}
use Rattle.reader_steps.specs.Sets.{ahead}
use Rattle.reader_steps.proofs.OpenedSets.{looks}
use Rattle.reader.specs.Questions.{run_fits, store_fits}
use Rattle.reader.specs.Demand3.{Call, feed, draw, heights, Event, fed, goes_on, rest, left_by, left}
use Rattle.reader.specs.Demand3.{drawn_rows, feed_away, feed_turned}
use Rattle.reader.proofs.Played.{in-times}
use Rattle.rounding_error.specs.Tolerant.{IsRowOf, steps_of, needed, FedFrom, Tolerant, FromRounded}
use Rattle.rounding_error.proofs.PlaneRows.{rounded-reads, rounded-range}
use Rattle.rounding_error.proofs.RoundingError.{rounded-back, rounded-whole}

abbrev F : Filter
F = five_three_filter

-- ---- the rows of the steps left are rows of the steps, and those exist
rest_in : (y : RowName) (t : List Step) → In y (band_rows_of (rest t)) → In y (band_rows_of t)
unfolding band_rows_of
rest_in y [] i = i
rest_in y (step.feed x ∷ t) i = later i
rest_in y (step.draw r ∷ t) i = i

left-in : (y : RowName) (t : List Step) (es : List Event) → In y (band_rows_of (left t es)) → In y (band_rows_of t)
unfolding left left_by
left-in y t [] i = i
left-in y t (e ∷ es) i = go (goes_on e) (left-in y (rest t) es) (left-in y t es) i
  where
    go : (b : Bool) → (In y (band_rows_of (left (rest t) es)) → In y (band_rows_of (rest t))) → (In y (band_rows_of (left t es)) → In y (band_rows_of t)) →
        In y (band_rows_of (left (pick b (rest t) t) es)) → In y (band_rows_of t)
    go true f g j = rest_in y t (f j)
    go false f g j = g j

module _ (W H L : ℕ) (some : 1 ≤ L) where
  abbrev T₀ : List Step
  T₀ = steps_of W H L

  abbrev Exists : RowName → Type 0
  Exists y = band_row_exists (side 0 W) (side 0 H) L y.level y.band y.row ≡ true

  pub row-exists : (y : RowName) → In y (band_rows_of T₀) → Exists y
  row-exists y i = go _ (steps-once (ahead 0) (looks 0) (side 0 W) (side 0 H) L some y) (in-times y (band_rows_of T₀) i)
    where
      go : (u : Bool) → times y (band_rows_of T₀) ≡ pick u 1 0 → 1 ≤ times y (band_rows_of T₀) → u ≡ true
      go true z h = refl
      go false z h = absurd (omega arith)

  pub next-exists : (es : List Event) (y : RowName) (t : List Step) → left T₀ es ≡ step.feed y ∷ t → Exists y
  unfolding band_rows_of
  next-exists es y t e = row-exists y (left-in y T₀ es (subst (λ v. In y (band_rows_of v)) (sym e) first))

  -- ---- one list of calls: a row of the rounded plane is in range
  module _ (q : ℕ) (g : Grid) (x : ℕ → ℤ) (step-some : 1 ≤ q) (few : L ≤ 5) (has : HasPlane F L (side 0 W) (side 0 H) g (cells W x)) where
    abbrev R : ℕ → ℤ
    R = rounded_plane L W H q x

    deep : L ≤ F.levels
    deep = few

    run-fits : (y : RowName) (a : Area) → Exists y → IsRowOf W H R y a → run_fits 0 y.level a.size a.numbers ≡ true
    unfolding run_fits filter_of
    run-fits y a e is =
        let k = exists-kept (side 0 W) (side 0 H) L y.level y.band y.row e in
        each-every a.size _ (λ i p. le-leb (nat_abs (a.numbers i)) (range F y.level) (rw (is.values i p)
        (rounded-range L W H q x g deep has y.level y.band y.row i (record {
          deep = k.deep;
          most = k.most;
          last = k.last;
          row = k.row;
          column = rw (sym is.size) p;
        }))))

    not-turned : (y : RowName) (t : List Step) (n : ℕ) (a : Area) → Exists y → needed W H L ≤ n → IsRowOf W H R y a →
        feed_turned 0 0 (side 0 W) (needed W H L) false (step.feed y ∷ t) n a ≡ 0
    unfolding feed_turned feed_away store_fits
    not-turned y t n a e room is =
        rw (le-leb (needed W H L) n room, eq-eqb a.size (band_columns (side 0 W) y.level y.band) is.size, run-fits y a e is) refl

    module _ (es : List Event) (then : Call → Event) (claim : Tolerant W H L es then) where
      pub from-rounded : FromRounded W H L q g x es then
      from-rounded = record {
        takes = λ n a y t head room is.
            claim.feeds n a
            ∙ ap (λ v. fed a (unless (feed_turned 0 0 (side 0 W) (needed W H L) false v n a) tt)) head
            ∙ ap (λ v. fed a (unless v tt)) (not-turned y t n a (next-exists es y t head) room is);
        near = λ from r c u v. rw (height from r c u v) (rounded-back L (side 0 W) (side 0 H) g (cells W x) few has q step-some r c (in_rows r u) v);
        same = λ one from r c u v. height from r c u v ∙ rw one (rounded-whole L (side 0 W) (side 0 H) g (cells W x) few has r c (in_rows r u) v);
      }
        where
          in_rows : (r : ℕ) → r < length (drawn_rows es) → r < H
          in_rows r u = omega (arith, claim.drawn_le)

          height : FedFrom W H L R es → (r c : ℕ) → r < length (drawn_rows es) → c < W →
              get_or (drawn_rows es) r (λ _. pos 0) c ≡ map_back_limited F wrap32 0 L (side 0 W) (side 0 H) (rounded_cell L (side 0 W) (side 0 H) q (cells W x)) r c
          height from r c u v = claim.heights R from r c u v ∙ rounded-reads L W H q x wrap32 0 r c (in_rows r u) v
