-- What working out a set, and a row fed, leave as it was: every place past what the levels need. Assumes nothing.
use mathlib.Core.Path.{◌≡◌, sym, ap, ◌∙◌}
use mathlib.Core.List.{List}
use Prim.Native.Nat.{ℕ, ◌+◌, ◌-◌, ◌*◌, ◌≤◌, ◌<◌}
use native.Mathlib.Omega.{arith}
use native.Mathlib.Numerals.{add-one}
use lib.IntN.{ℤ}
use lib.ListN.{length}
use borrow.Rule.Slice.PartMut.{mid_of, put_mid}
use Rattle.numbers.specs.Signal.{at}
use Rattle.numbers.proofs.Parts.{length-mid, splice-past}
use Rattle.lifting.specs.Grid.{Side, count}
use Rattle.wavelet.specs.Bands.{across, down}
use Rattle.wavelet.specs.Levels.{side_at}
use Rattle.level.specs.Stretch.{row_of_set, half_place}
use Rattle.level.specs.Rebuilding.{Kept}
use Rattle.level.proofs.RowsIn.{half-end}
use Rattle.filters.specs.Filters.{filter_of}
use Rattle.filters.specs.Figures.{store_by}
use Rattle.synthesis.specs.Back.{row_place_of}
use Rattle.synthesis.proofs.BackLaws.{back-feed, place-room}
use Rattle.reader.specs.declared.walk.Level.{Level}
use Rattle.reader_steps.specs.Asked.{named}
use Rattle.reader.specs.Store.{stretch_at, from, fed_at}
use Rattle.reader.specs.Inside.{IsLevel}
use Rattle.reader.proofs.StoreLaws.{stretch-suc, stretch-is}
use Rattle.reader.proofs.PartLaws.{behind-past, from_at, at_rest, at-put-rest, work-room}

-- ---- the stretch within the store
pub part-kept : (f : ℕ) (W H : Side) (d k L : ℕ) (l : Level) (is : IsLevel f W H d k l) (s ys : List ℤ) → k < L → store_by f W L ≤ length s →
    length ys ≡ length (mid_of l.start (length s - l.start) s) → Kept ((filter_of f).rows * l.width) (at (mid_of l.start (length s - l.start) s)) (at ys) →
    Kept (store_by f W L) (at s) (at (put_mid l.start (length s - l.start) s ys))
part-kept f W H d k L l is s ys h enough same a =
    let room = work-room f W H d k l is L h in
    let b = l.start in
    let n = length s - b in
    let whole : b + n ≡ length s = omega arith in
    let long = same ∙ length-mid b n s (omega arith) in
    record {
      same = λ j le.
          let back : b + (j - b) ≡ j = omega arith in
          ap (λ (u : ℕ → ℤ). u j) (at-put-rest b n s whole ys long)
          ∙ behind-past b (at s) (at ys) j (omega arith)
          ∙ a.same (j - b) (omega arith)
          ∙ ap (λ (u : ℕ → ℤ). u (j - b)) (at_rest b n s whole)
          ∙ from_at b (at s) (j - b)
          ∙ ap (at s) back;
    }

-- a band row fed
pub fed-kept : (f : ℕ) (W H : Side) (k n c : ℕ) (v x : ℕ → ℤ) → Kept (store_by f W (k + 1)) x (fed_at f W H k n c v x)
unfolding fed_at
fed-kept f W H k n c v x =
    let S = side_at k W in
    let r = row_of_set (down (named c)) n in
    let a = stretch_at f W k in
    let half = half-end (across (named c)) S in
    let next : store_by f W (k + 1) ≡ a + (filter_of f).rows * S.length = sym (stretch-is f W (k + 1)) ∙ ap (stretch_at f W) (add-one k) ∙ stretch-suc f W k in
    record {
      same = λ j le.
          let back : a + (j - a) ≡ j = omega arith in
          behind-past a x _ j (omega arith)
          ∙ ap (λ (u : ℕ → ℤ). u (j - a)) (back-feed f S (side_at k H).start (named c) n v (from a x))
          ∙ splice-past (row_place_of f S.length r + half_place (across (named c)) S) (count (across (named c)) S) v (from a x) (j - a)
          (omega (arith, place-room f S.length r))
          ∙ from_at a x (j - a)
          ∙ ap x back;
    }
