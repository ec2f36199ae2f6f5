-- A run's places: what calls change of a reader, with the reader's own level. Assumes nothing.
use mathlib.Core.Path.{◌≡◌, refl, sym, ap, subst, ◌∙◌}
use mathlib.Core.Bool.{Bool, true, false}
use Prim.Native.Nat.{ℕ, suc, ◌+◌, ◌-◌, ◌*◌, ◌≤◌, ◌<◌, ◌^◌}
use native.Mathlib.Numerals.{add-one}
use native.Mathlib.Omega.{arith}
use lib.Dec.{leb}
use borrow.Author.Tests.{le-leb, lt-leb}
use Rattle.numbers.specs.Signal.{pick}
use Rattle.lifting.specs.Grid.{Side}
use Rattle.reader_steps.specs.Sets.{ahead, needed}
use Rattle.reader_steps.specs.Places.{spot, place_of, last_of_set, past, beyond, spot_fed, enter}
use Rattle.reader_steps.specs.Places as machine
use Rattle.reader_steps.proofs.OpenedSets.{needed_here}
use Rattle.reader.specs.declared.Reader.{Reader}
use Rattle.reader.specs.declared.walk.Level.{Level}
use Rattle.reader.specs.declared.walk.Next.{Next}
use Rattle.reader_steps.specs.declared.places.Spot.{Spot}
use Rattle.reader.specs.declared.run_steps.Place.{Place}
use Rattle.reader.specs.State.{columns, rows, next, fed_reader, drawn_reader, moved_to}
use Rattle.reader.specs.Inside.{Collected, IsLevel, Is, IsNext, Completing}
use Rattle.reader.specs.RunSteps.{reader_at, Own, place_fits, IsPlace}
use Rattle.reader.proofs.StepLaws.{spot_of, beyond-is}

-- a test that says no does not say yes
pub false-not-true : {A : Type 0} {b : Bool} → b ≡ false → b ≡ true → A
false-not-true e f = let z : ◌≡◌ {A = ℕ} 0 1 = ap (λ b. pick b 1 0) (sym e ∙ f) in absurd (omega arith)

-- ---- the ranges of a place
module _ (s : Reader) where
  pub fits-1 : s.height < s.drawn → false ≡ place_fits s
  unfolding place_fits
  fits-1 h = rw (lt-leb s.drawn s.height h)

  pub fits-2 : s.drawn ≤ s.height → s.levels < s.level → false ≡ place_fits s
  unfolding place_fits
  fits-2 g h = rw (le-leb s.drawn s.height g, lt-leb s.level s.levels h)

  pub fits-3 : s.drawn ≤ s.height → s.level ≤ s.levels → 4 < s.band → false ≡ place_fits s
  unfolding place_fits
  fits-3 g h b = rw (le-leb s.drawn s.height g, le-leb s.level s.levels h, lt-leb s.band 4 b)

  pub fits-4 : s.drawn ≤ s.height → s.level ≤ s.levels → s.band ≤ 4 → leb s.back (2 * ahead s.filter - 1) ≡ place_fits s
  unfolding place_fits
  fits-4 g h b = rw (le-leb s.drawn s.height g, le-leb s.level s.levels h, le-leb s.band 4 b)

-- ---- a place with its level m at hand
abbrev pub KeptBy : Level → ℕ → Spot → Place → Type 0
KeptBy m d p q =
    (q.drawn ≡ d) × (q.level ≡ p.level) × (q.back ≡ m.last - p.set) × (q.band ≡ p.band) × (q.ended ≡ false) ×
    (q.at.start ≡ m.start) × (q.at.x ≡ m.x) × (q.at.width ≡ m.width) × (q.at.y ≡ m.y) × (q.at.height ≡ m.height) ×
    (q.at.set ≡ m.last - q.back) × (q.at.last ≡ m.last)

pub kept-place : (f : ℕ) (W H : Side) (d : ℕ) (m : Level) (p : Spot) (q : Place) → 0 < p.level → IsLevel f W H d (p.level - 1) m →
    m.last - (m.last - p.set) ≤ 2 ^ 32 →
    KeptBy m d p q → IsPlace f W H d (spot p.level p.set p.band) q
kept-place f W H d m p q h is small e =
    let k : suc (p.level - 1) ≡ p.level = omega arith in
    let last : m.last ≡ needed f H 0 d p.level = is.last ∙ ap (needed f H 0 d) k in
    let same : p.level ≡ q.level = sym e.1 in
    record {
      drawn = e.0;
      level = e.1;
      back = e.2 ∙ ap (λ (i : ℕ). i - p.set) last;
      band = e.3;
      ended = e.4;
      at = λ _. (
        subst (λ (i : ℕ). IsLevel f W H d (i - 1) q.at) same (record {
          start = e.5 ∙ is.start;
          x = e.6 ∙ is.x;
          width = e.7 ∙ is.width;
          y = e.8 ∙ is.y;
          height = e.9 ∙ is.height;
          set = omega (arith, e.10, e.2);
          last = e.11 ∙ is.last;
        }),
        e.10 ∙ ap (λ (i : ℕ). i - q.back) (last ∙ ap (needed f H 0 d) same),
      );
    }

pub top-place : (f : ℕ) (W H : Side) (d : ℕ) (p : Spot) (q : Place) → p.level ≡ 0 → q.drawn ≡ d → q.level ≡ 0 → q.back ≡ d - p.set →
    q.band ≡ p.band → q.ended ≡ false → IsPlace f W H d (spot p.level p.set p.band) q
top-place f W H d p q z ed el ek eb ee = record {
  drawn = ed;
  level = el ∙ sym z;
  back = ek ∙ ap (λ (i : ℕ). i - p.set) (sym (ap (needed f H 0 d) z ∙ needed_here f H 0 d));
  band = eb;
  ended = ee;
  at = λ h. absurd (omega arith);
}

pub is-place : (f : ℕ) (W H : Side) (d : ℕ) (q : machine.Spot) (p : Spot) (r : Place) → Is q p → IsPlace f W H d (spot p.level p.set p.band) r →
    IsPlace f W H d q r
is-place f W H d q p r is e = subst (λ (o : machine.Spot). IsPlace f W H d o r) (spot_of q p is) e

-- ---- the reader there
pub own-kept : (s : Reader) (d : ℕ) (q : machine.Spot) (p : Place) → IsPlace s.filter (columns s) (rows s) d q p → Own (reader_at s p) p.at
own-kept s d q p is h =
    let e = sym is.drawn in (
      subst (λ (i : ℕ). IsLevel s.filter (columns s) (rows s) i (p.level - 1) p.at) e (is.at h).0,
      (is.at h).1 ∙ ap (λ (i : ℕ). needed s.filter (rows s) 0 i p.level - p.back) e,
    )

reader-is : (s : Reader) (d : ℕ) (q : machine.Spot) (p : Place) → IsPlace s.filter (columns s) (rows s) d q p →
    reader_at s p ≡ moved_to s d (place_of s.filter (rows s) d q)
reader-is s d q p is = rw (is.drawn, is.level, is.back, is.band, is.ended) refl

pub fed-place : (s : Reader) (p : Place) →
    IsPlace s.filter (columns s) (rows s) s.drawn (spot_fed s.filter (columns s) (rows s) s.levels (next s).level (next s).set (next s).band) p →
    reader_at s p ≡ fed_reader s
unfolding fed_reader
fed-place s p is = reader-is s s.drawn _ p is

pub drawn-place : (s : Reader) (p : Place) →
    IsPlace s.filter (columns s) (rows s) (s.drawn + 1) (enter s.filter (columns s) (rows s) s.levels (s.drawn + 1)) p →
    reader_at s p ≡ drawn_reader s
unfolding drawn_reader
drawn-place s p is =
    reader-is s (s.drawn + 1) _ p is
    ∙ ap (λ (i : ℕ). moved_to s i (place_of s.filter (rows s) i (enter s.filter (columns s) (rows s) s.levels i))) (add-one s.drawn)

-- ---- where the reader goes on after the row of n
module _ (s : Reader) (n : Next) (is : Is (next s) n.spot) (some : 0 < n.spot.level) (t : Bool)
    (completing : t ≡ last_of_set (columns s) (rows s) s.levels (n.spot.level - 1) n.at.set n.spot.band) (same : n.at.set ≡ n.spot.set) where
  abbrev W : Side
  W = columns s

  abbrev H : Side
  H = rows s

  last : last_of_set W H s.levels (n.spot.level - 1) n.spot.set n.spot.band ≡ t
  last = sym (completing ∙ ap (λ (i : ℕ). last_of_set W H s.levels (n.spot.level - 1) i n.spot.band) same)

  pub past-fed : t ≡ true → past s.filter W H s.levels (n.spot.level - 1) n.spot.set
      ≡ spot_fed s.filter W H s.levels (next s).level (next s).set (next s).band
  past-fed e = here ∙ beyond-is s n.spot is some
    where
      here : past s.filter W H s.levels (n.spot.level - 1) n.spot.set
          ≡ beyond s.filter W H s.levels (n.spot.level - 1) n.spot.set n.spot.band
      here = unfold beyond in rw (last ∙ e) refl

  pub band-fed : (k : ℕ) → k ≡ n.spot.level → t ≡ false → spot k n.spot.set (n.spot.band + 1)
      ≡ spot_fed s.filter W H s.levels (next s).level (next s).set (next s).band
  band-fed k ek e =
      let z : k ≡ suc (n.spot.level - 1) = omega arith in
      ap (λ (i : ℕ). spot i n.spot.set (n.spot.band + 1)) z ∙ here ∙ beyond-is s n.spot is some
    where
      here : spot (suc (n.spot.level - 1)) n.spot.set (n.spot.band + 1)
          ≡ beyond s.filter W H s.levels (n.spot.level - 1) n.spot.set n.spot.band
      here = unfold beyond in rw (last ∙ e) refl
