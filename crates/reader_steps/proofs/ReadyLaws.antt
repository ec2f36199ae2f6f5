-- The places at which a reader can be: where a row begins, the next finer level, another band, the next set. Assumes nothing.
use mathlib.Core.Bool.{Bool, true, false}
use mathlib.Core.Path.{◌≡◌, refl, sym, ap, subst, ◌∙◌}
use Prim.Native.Nat.{ℕ, zero, suc, ◌+◌, ◌-◌, ◌*◌, ◌≤◌, ◌<◌}
use native.Mathlib.Omega.{arith}
use lib.Dec.{T, leb, eqb}
use borrow.Author.Tests.{leb-false, le-ltb}
use Rattle.numbers.specs.Signal.{pick, both}
use Rattle.lifting.specs.Line.{lo}
use Rattle.lifting.specs.Grid.{Side}
use Rattle.wavelet.specs.Bands.{Band, code}
use Rattle.wavelet.specs.Levels.{next, side_at}
use Rattle.wavelet.specs.Order.{first_set, last_set}
use Rattle.wavelet.specs.Steps.{sets_before}
use Rattle.wavelet.proofs.StepLaws.{set_there, set_last, before-suc}
use Rattle.level.specs.Sets.{opens}
use Rattle.reader_steps.specs.Sets.{ahead, has_row, row_of, taking, first_row, makes, needed, waiting, waits_at}
use Rattle.reader_steps.specs.Asked.{asked, look, next_band}
use Rattle.reader_steps.specs.Places.{has_cells, Spot, spot, spot_of, place_of, band_at, last_of_set, past, beyond, descend, begins, enter, Ready}
use Rattle.reader_steps.proofs.Looks.{code_lt, first-le}
use Rattle.reader_steps.proofs.OpenedSets.{opens-yes, opened-row, row_next, makes-not, makes-last, taking-row, waits-finer, There}
use Rattle.reader_steps.proofs.OpenedSets.{waiting-there, in-back, looks}
use Rattle.reader_steps.proofs.CellLaws.{cells_are, cells-before, last-asks}

differ : true ≡ false → ⊥
differ z = subst T z tt

module _ (f : ℕ) (W H : Side) (l d : ℕ) where
  abbrev Is : Spot → Type 0
  Is q = Ready f W H (suc l) d q

  lazy-last : (k n b : ℕ) → b ≤ 1 → has_cells (side_at k W) (side_at k H) ≡ true → n ≤ last_set (side_at k H) → band_at W H (suc l) k n b ≡ 4 →
      makes f (side_at k H) n ≡ true
  unfolding band_at
  lazy-last k n b h cells there u =
      makes-last f (side_at k H) n (last-asks (eqb (suc k) (suc l)) (side_at k W) (side_at k H) n b h cells there u)

  -- a set that is there, from its first band on
  starts : (k n b : ℕ) → b ≤ 1 → has_cells (side_at k W) (side_at k H) ≡ true → n ≤ last_set (side_at k H) → waits_at f H (suc k) n 0 ≡ d → Is (spot (suc k) n b)
  starts k n b h cells there top = record {
    top = top;
    cells = λ j e. let z : j ≡ k = omega arith in rw z cells;
    there = λ j e. let z : j ≡ k = omega arith in rw z there;
    asks = λ j e u. let z : j ≡ k = omega arith in
        subst (λ i. makes f (side_at i H) n ≡ true) (sym z) (lazy-last k n b h cells there (subst (λ i. band_at W H (suc l) i n b ≡ 4) z u));
  }

  -- a row of the map
  at_top : (n b : ℕ) → n ≡ d → Is (spot 0 n b)
  at_top n b e = record {
    top = unfold waits_at in e;
    cells = λ j z. absurd (omega arith);
    there = λ j z. absurd (omega arith);
    asks = λ j z. absurd (omega arith);
  }

  -- number n of level k, from band 1 on
  starts-at : (k n : ℕ) → ((j : ℕ) → suc j ≡ k → has_cells (side_at j W) (side_at j H) ≡ true) → There f H k n → waits_at f H k n 0 ≡ d → Is (spot k n 1)
  starts-at zero n cells there top = at_top n 1 (unfold waits_at in top)
  starts-at (suc k) n cells there top = starts k n 1 (omega arith) (cells k refl) there.1 top

  there-at : (k n b : ℕ) → Is (spot (suc k) n b) → There f H (suc k) n
  there-at k n b s = ((cells_are (side_at k W) (side_at k H) (s.cells k refl)).1, s.there k refl)

  -- the finer level that waits
  pub waits-up : (k n b : ℕ) → k ≤ l → Is (spot (suc k) n b) → Is (spot k (waiting f H k n) 1)
  waits-up k n b h s =
      starts-at k (waiting f H k n) (λ j e. cells-before W H j k (omega arith) (s.cells k refl)) (waiting-there f H k n (there-at k n b s))
      (sym (waits-finer f H k n 0 (omega arith)) ∙ s.top)

pub ready_up : (f : ℕ) (W H : Side) (l d k n b : ℕ) → k ≤ l → Ready f W H (suc l) d (spot (suc k) n b) → band_at W H (suc l) k n b ≡ 4 →
    Ready f W H (suc l) d (spot k (waiting f H k n) 1)
ready_up f W H l d k n b h s z = waits-up f W H l d k n b h s

-- another band of the same set that is asked for
pub ready-band : (f : ℕ) (W H : Side) (l d k n b : ℕ) (c : Band) → Ready f W H (suc l) d (spot (suc k) n b) →
    asked (eqb (suc k) (suc l)) (side_at k W) (side_at k H) n c ≡ true → Ready f W H (suc l) d (spot (suc k) n (code c))
ready-band f W H l d k n b c s a = record {
  top = s.top;
  cells = s.cells;
  there = s.there;
  asks = λ j e u. let z : j ≡ k = omega arith in absurd (none (subst (λ i. band_at W H (suc l) i n (code c) ≡ 4) z u));
}
  where
    none : band_at W H (suc l) k n (code c) ≡ 4 → ⊥
    none u = unfold band_at next_band look in omega (
      arith,
      u,
      first-le (asked (eqb (suc k) (suc l)) (side_at k W) (side_at k H) n) (code c) c a
          (omega arith),
      code_lt c,
    )

module _ (f : ℕ) (W H : Side) (l d : ℕ) where
  abbrev At : Spot → Type 0
  At q = Ready f W H (suc l) d q

  -- where number n of level k begins, which takes row r
  pub ready-descend : (m k n r : ℕ) → k + m ≡ suc l → ((j : ℕ) → suc j ≡ k → has_cells (side_at j W) (side_at j H) ≡ true) → There f H k n → taking H k r ≡ n →
      waits_at f H k n 0 ≡ d → At (descend f m k (side_at k W) (side_at k H) n r)
  unfolding descend side_at waiting row_of has_row
  ready-descend zero zero n r e cells there t top = absurd (omega arith)
  ready-descend zero (suc k) n r e cells there t top = starts f W H l d k n 0 (omega arith) (cells k refl) there.1 top
  ready-descend (suc m) k n r e cells there t top = go (has_cells (side_at k W) (side_at k H)) refl (opens (ahead f) (side_at k H) r) refl (ready-descend m (suc k))
    where
      S : Side
      S = side_at k H

      s : ℕ
      s = sets_before (ahead f) S r

      to : Spot
      to = descend f m (suc k) (next (side_at k W)) (next S) s (s - first_set S lo)

      in-set : opens (ahead f) S r ≡ true → s ≤ last_set S
      in-set o = omega (arith, opens-yes f S r o, set_there (ahead f) S r)

      up : opens (ahead f) S r ≡ true → waits_at f H (suc k) s 0 ≡ d
      up o = waits-finer f H k s 0 (omega arith) ∙ ap (λ i. waits_at f H k i 0) (ap (taking H k) (opened-row f S r o) ∙ t) ∙ top

      Deeper : Type 0
      Deeper = (n r : ℕ) → suc k + m ≡ suc l → ((j : ℕ) → suc j ≡ suc k → has_cells (side_at j W) (side_at j H) ≡ true) → There f H (suc k) n →
          taking H (suc k) r ≡ n → waits_at f H (suc k) n 0 ≡ d → At (descend f m (suc k) (side_at (suc k) W) (side_at (suc k) H) n r)

      into : Deeper → has_cells (side_at k W) S ≡ true → opens (ahead f) S r ≡ true → (u : Bool) → leb (first_set S lo) s ≡ u → At (pick u to (spot (suc k) s 1))
      into ih c o true u =
          ih s (s - first_set S lo) (omega arith) (λ j z. let y : j ≡ k = omega arith in rw y c)
          ((cells_are (side_at k W) S c).1, in-set o) (taking-row H (suc k) s u) (up o)
      into ih c o false u = starts f W H l d k s 1 (omega arith) c (in-set o) (up o)

      go : (c : Bool) → has_cells (side_at k W) S ≡ c → (o : Bool) → opens (ahead f) S r ≡ o →
          Deeper → At (pick (both c o) (pick (leb (first_set S lo) s) to (spot (suc k) s 1)) (spot k n 1))
      go false c o _ ih = starts-at f W H l d k n cells there top
      go true c false o ih = starts-at f W H l d k n cells there top
      go true c true o ih = into ih c o (leb (first_set S lo) s) refl

  pub ready-begins : (k n : ℕ) → k ≤ l → has_cells (side_at k W) (side_at k H) ≡ true → n ≤ last_set (side_at k H) → waits_at f H (suc k) n 0 ≡ d →
      At (begins f W H (suc l) (suc k) n)
  unfolding begins
  ready-begins k n h c there top = go (has_row H (suc k) n) refl
    where
      go : (t : Bool) → has_row H (suc k) n ≡ t →
          At (pick t (descend f (suc l - suc k) (suc k) (side_at (suc k) W) (side_at (suc k) H) n (row_of H (suc k) n)) (spot (suc k) n 1))
      go true t = ready-descend (suc l - suc k) (suc k) n (row_of H (suc k) n) (omega arith) (λ j z. let y : j ≡ k = omega arith in rw y c)
          ((cells_are (side_at k W) (side_at k H) c).1, there) (taking-row H (suc k) n t) top
      go false t = starts f W H l d k n 1 (omega arith) c there top

  pub ready-enter : d < H.length → At (enter f W H (suc l) d)
  unfolding enter side_at
  ready-enter due = ready-descend (suc l) 0 d d (omega arith) (λ j z. absurd (omega arith)) due (unfold taking in refl) (unfold waits_at in refl)

  -- past a set, and after a row that is fed
  pub ready-past : (k n b : ℕ) → k ≤ l → At (spot (suc k) n b) → At (past f W H (suc l) k n)
  unfolding past waiting
  ready-past k n b h s = go (makes f (side_at k H) n) refl
    where
      go : (t : Bool) → makes f (side_at k H) n ≡ t → At (pick t (spot k (waiting f H k n) 1) (begins f W H (suc l) (suc k) (suc n)))
      go true e = waits-up f W H l d k n b h s
      go false e = ready-begins k (suc n) h (s.cells k refl)
          (omega (arith, makes-not f (side_at k H) n e, set_there (ahead f) (side_at k H) (first_row f (side_at k H) n)))
          (waits-finer f H k (suc n) 0 (omega arith) ∙ ap (λ i. waits_at f H k i 0) (ap (taking H k) (row_next f (side_at k H) n e))
          ∙ sym (waits-finer f H k n 0 (omega arith)) ∙ s.top)

  -- another band of the same set
  pub ready-still : (k n c : ℕ) → At (spot (suc k) n c) → last_of_set W H (suc l) k n c ≡ false → At (spot (suc k) n (c + 1))
  unfolding last_of_set
  ready-still k n c s e = record {
    top = s.top;
    cells = s.cells;
    there = s.there;
    asks = λ j z w. let y : j ≡ k = omega arith in
        absurd (under _ (band_at W H (suc l) k n (c + 1)) (omega arith) e (subst (λ i. band_at W H (suc l) i n (c + 1) ≡ 4) y w));
  }
    where
      under : (m i : ℕ) → m ≤ 4 → leb m i ≡ false → i ≡ 4 → ⊥
      under m i b z w = omega (arith, leb-false m i z, w)

  pub ready-beyond : (k n c : ℕ) → k ≤ l → At (spot (suc k) n c) → At (beyond f W H (suc l) k n c)
  unfolding beyond
  ready-beyond k n c h s = go (last_of_set W H (suc l) k n c) refl
    where
      go : (t : Bool) → last_of_set W H (suc l) k n c ≡ t → At (pick t (past f W H (suc l) k n) (spot (suc k) n (c + 1)))
      go true e = ready-past k n c h s
      go false e = ready-still k n c s e

-- ---- a place as a state keeps it
ready-there : (f : ℕ) (W H : Side) (L d k n b : ℕ) → d < H.length → Ready f W H L d (spot k n b) → There f H k n
ready-there f W H L d zero n b due s = let e : n ≡ d = unfold waits_at in s.top in omega arith
ready-there f W H L d (suc k) n b due s = ((cells_are (side_at k W) (side_at k H) (s.cells k refl)).1, s.there k refl)

pub ready-back : (f : ℕ) (W H : Side) (L d : ℕ) (q : Spot) → d < H.length → Ready f W H L d q →
    (spot_of f H d (place_of f H d q) ≡ q) × ((place_of f H d q).back ≤ 2 * ahead f - 1)
ready-back f W H L d q due s =
    let r = in-back f H d q.level q.set (ready-there f W H L d q.level q.set q.band due s) s.top in
    (ap (λ i. spot q.level i q.band) (omega (arith, r.0)), omega (arith, r.1))

-- with all rows drawn no set is asked for
pub enter-end : (f : ℕ) (W H : Side) (L d : ℕ) → 0 < H.length → d ≡ H.length → (place_of f H d (enter f W H L d)).back ≡ 0
unfolding enter
enter-end f W H zero d p e = unfold descend needed in omega arith
enter-end f W H (suc l) d p e = unfold descend in go (has_cells W H) (opens (ahead f) H d) (end d e) _
  where
    last : (r : ℕ) → suc r ≡ H.length → sets_before (ahead f) H (suc (suc r)) ≤ sets_before (ahead f) H (suc r)
    last r e = let u = set_last (ahead f) H r (looks f) (omega arith) in
        omega (arith, before-suc (ahead f) H r, before-suc (ahead f) H (suc r), u, set_there (ahead f) H (suc r))

    end : (d : ℕ) → d ≡ H.length → opens (ahead f) H d ≡ false
    end zero e = absurd (omega arith)
    end (suc r) e = unfold opens in le-ltb (sets_before (ahead f) H (suc r)) (sets_before (ahead f) H (suc (suc r))) (last r e)

    go : (c o : Bool) → o ≡ false → (to : Spot) → (place_of f H d (pick (both c o) to (spot 0 d 1))).back ≡ 0
    go true true z to = absurd (differ z)
    go true false z to = unfold needed in omega arith
    go false o z to = unfold needed in omega arith
