-- Any level whose filter meets `ColumnLaws` meets what the streams above ask of a level (level/proofs/LevelLaws): what it holds as rows come in (`Kept`) and at
-- the finish (`Left`), and that each set made stands where it waits: `level-laws`. Assumes nothing.
use mathlib.Core.Path.{◌≡◌, refl, sym, ap, ◌∙◌, fun_ext}
use mathlib.Core.Bool.{false}
use Prim.Native.Nat.{ℕ, suc, ◌+◌, ◌-◌, ◌*◌, ◌%◌, ◌≤◌, ◌<◌}
use native.Mathlib.Decide.{ℕ_discrete}
use native.Mathlib.Omega.{arith}
use lib.IntN.{ℤ}
use lib.Dec.{leb}
use borrow.Author.Tests.{eq-eqb, leb-false}
use Rattle.numbers.specs.Signal.{stored}
use Rattle.numbers.specs.Word.{wrap32}
use Rattle.numbers.proofs.Stores.{stored_at, stored-off}
use Rattle.lifting.specs.Line.{Half, lo, hi}
use Rattle.lifting.specs.Grid.{Side, place, count}
use Rattle.wavelet.specs.Bands.{Grid, Band, across, down, columns_lifted, subband}
use Rattle.wavelet.specs.Order.{first_set, last_set, set_row, unmade}
use Rattle.level.specs.Level.{Memory, completes, SetStands}
use Rattle.level.specs.Cells.{spot}
use Rattle.level.specs.Stretch.{row_place}
use Rattle.level.proofs.LevelLaws.{LevelLaws}
use Rattle.level.proofs.Spots.{spot_in, spot-apart}
use Rattle.level.proofs.RowsIn.{Only, is-old, row-end, half-inside, half-end}
use Rattle.lifting.proofs.GridLaws.{place-in}
use Rattle.analysis.specs.Columns.{Columns}
use Rattle.analysis.specs.Sets.{rows_to, waits, row_put, set_made, band_place}
use Rattle.analysis.specs.Stands.{Row, row_of, high, Kept, Left}
use Rattle.analysis.specs.Forward.{level_by}
use Rattle.analysis.proofs.ColumnLaws.{ColumnLaws}
use Rattle.analysis.proofs.Rows.{some, far, whole_row, row-cells, only-stored, only-put, put-row}
use Rattle.analysis.proofs.SetMade.{made-past, set-stands, set-left}

module _ (C : Columns) (L : ColumnLaws C) where
  abbrev m₀ : ℕ
  m₀ = C.filter.rows

  -- ---- at first, whatever stands in the store
  held_none : (W H : Side) (g : Grid) (x : Memory) → Kept C W H g 0 0 x
  held_none W H g x = let a = L.looks in record {
    even = λ n f p q. absurd (omega arith);
    odd = λ n p q. absurd (omega arith);
    high = λ n p q. absurd (omega arith);
    begun = λ i p. absurd (omega arith);
  }

  -- ---- a number of row m more, or all of row m: the level's other rows stay
  module _ (W H : Side) (g : Grid) (m c c' : ℕ) (x x' : Memory) (o : Only m₀ W.length (H.start % 2 + m) x x') (k : Kept C W H g m c x)
      (b : (i : ℕ) → i < c' → x' (row_place m₀ W.length (H.start % 2 + m) + spot W i) ≡ g m i) where
    row_stays : (q : ℕ) (y : ℕ → ℤ) → q < H.start % 2 + m → H.start % 2 + m < q + 4 * C.filter.ahead → Row C W H g x q y → Row C W H g x' q y
    row_stays q y l h s = is-old (some C L) W (H.start % 2 + m) x x' q _ o (far C L (H.start % 2 + m) q (λ e. omega arith) (omega arith) (omega arith)) s

    kept-only : Kept C W H g m c' x'
    kept-only = let a = L.looks in record {
      even = λ n f p q. row_stays (2 * n) _ (omega arith) (omega arith) (k.even n f p q);
      odd = λ n p q. row_stays (2 * n + 1) _ (omega arith) (omega arith) (k.odd n p q);
      high = λ n p q. row_stays (2 * n + 1) _ (omega arith) (omega arith) (k.high n p q);
      begun = b;
    }

  held-cell : (W H : Side) (g : Grid) (m c : ℕ) (x : Memory) → c < W.length → Kept C W H g m c x
      → Kept C W H g m (suc c) (stored (row_place m₀ W.length (H.start % 2 + m) + spot W c) (g m c) x)
  held-cell W H g m c x h k = kept-only W H g m c (suc c) x _ (only-stored C L W (H.start % 2 + m) x c (g m c) h) k row
    where
      row : (i : ℕ) → i < suc c → stored (row_place m₀ W.length (H.start % 2 + m) + spot W c) (g m c) x
          (row_place m₀ W.length (H.start % 2 + m) + spot W i) ≡ g m i
      row i p =
          elim (ℕ_discrete i c) [
            | yes e ↦ rw e (stored_at _ _ (g m c) x refl)
            | no d ↦
                stored-off _ _ (g m c) x (λ e. d (spot-apart W i c (omega arith) h (omega (arith, e))))
                ∙ k.begun i (omega (arith, d))
          ]

  held-put : (W H : Side) (g : Grid) (m : ℕ) (row : ℕ → ℤ) (x : Memory) → ((i : ℕ) → i < W.length → row i ≡ g m i) → Kept C W H g m 0 x
      → Kept C W H g m W.length (row_put C W (H.start % 2 + m) row x)
  held-put W H g m row x e k =
      kept-only W H g m 0 W.length x _ (only-put C L W (H.start % 2 + m) x row) k
      (λ i h. row-cells C L W (H.start % 2 + m) (row_put C W (H.start % 2 + m) row x) row (put-row C L W (H.start % 2 + m) x row) i h ∙ e i h)

  -- ---- row m is there
  module _ (W H : Side) (g : Grid) (m : ℕ) (x : Memory) (k : Kept C W H g m W.length x) where
    abbrev q : ℕ
    q = H.start % 2 + m

    begun-as : (r : ℕ) → H.start % 2 + m ≡ r → Row C W H g x r (row_of C W H g r)
    begun-as r e =
        let d : r - H.start % 2 ≡ m = omega arith in
        rw (d, ← e) (whole_row C L W (H.start % 2 + m) x (g m) k.begun)

    -- it completes no set: at an odd coordinate, or one of the first at even ones
    held_more : ((H.start % 2 + m) % 2 ≡ 0 → H.start % 2 + m < 2 * C.filter.ahead) → Kept C W H g (m + 1) 0 x
    held_more few = record {
      even = λ n f p r.
          elim (ℕ_discrete (2 * n) (H.start % 2 + m)) [
            | yes e ↦ begun-as (2 * n) (sym e)
            | no d ↦ k.even n f (omega (arith, d)) (omega arith)
          ];
      odd = λ n p r.
          elim (ℕ_discrete (2 * n + 1) (H.start % 2 + m)) [
            | yes e ↦ begun-as (2 * n + 1) (sym e)
            | no d ↦ k.odd n (omega (arith, d)) (omega arith)
          ];
      high = λ n p r.
          elim (ℕ_discrete ((H.start % 2 + m) % 2) 0) [
            | yes z ↦ let t = few z in absurd (omega arith)
            | no z ↦ k.high n (omega (arith, z)) (omega arith)
          ];
      begun = λ i p. absurd (omega arith);
    }

    held-still : completes C.filter.ahead H.start m ≡ false → Kept C W H g (m + 1) 0 x
    unfolding completes
    held-still e =
        held_more (λ z.
        let t : leb (2 * C.filter.ahead) (H.start % 2 + m) ≡ false = rw (eq-eqb ((H.start % 2 + m) % 2) 0 z) at e in
        omega (arith, leb-false (2 * C.filter.ahead) (H.start % 2 + m) t))

  -- it completes set n: the rows up to it are all that the set sees
  module _ (W H : Side) (g : Grid) (m n : ℕ) (t : H.start % 2 + m ≡ 2 * n + 2 * C.filter.ahead) (l : m < H.length) where
    abbrev R : Side
    R = rows_to C.filter.ahead H.start n

    same_row : (h : Half) (j : ℕ) → first_set H h + j ≤ n → columns_lifted C.filter wrap32 H g h j ≡ columns_lifted C.filter wrap32 R g h j
    unfolding columns_lifted first_set place
    same_row lo j b = fun_ext λ c. L.local H.start H.length R.length (λ r. g r c) lo j (omega arith) (omega arith)
    same_row hi j b = fun_ext λ c. L.local H.start H.length R.length (λ r. g r c) hi j (omega (arith, L.looks)) (omega (arith, L.looks))

    same-high : (j : ℕ) → j ≤ n → high C W H g j ≡ high C W R g j
    unfolding first_set
    same-high j b = same_row hi j (omega arith)

    module _ (x : Memory) (k : Kept C W H g m W.length x) where
      left-so-far : Left C W R g n x
      left-so-far = let one = L.looks in record {
        near = omega arith;
        even = λ i f a b.
            elim (ℕ_discrete i (n + C.filter.ahead)) [
              | yes e ↦ begun-as W H g m x k (2 * i) (omega arith)
              | no d ↦ k.even i f (omega (arith, d)) (omega arith)
            ];
        odd = λ i a b. k.odd i (omega arith) (omega arith);
        high = λ i a b. rw (← same-high i (omega arith)) (k.high i (omega arith) (omega arith));
      }

      held-make : Kept C W H g (m + 1) 0 (set_made C W R n x)
      held-make =
          let s = set-left C L W R g n x left-so-far in
          let one = L.looks in
          record {
            even = λ i f a b. s.even i f (omega arith) (omega arith);
            odd = λ i a b. s.odd i (omega arith) (omega arith);
            high = λ i a b. rw (same-high i (omega arith)) (s.high i (omega arith) (omega arith));
            begun = λ i p. absurd (omega arith);
          }

      same-band : (b : Band) (i : ℕ) → first_set H (down b) ≤ n
          → subband C.filter wrap32 W R g b (set_row H b n) i ≡ subband C.filter wrap32 W H g b (set_row H b n) i
      unfolding subband set_row
      same-band b i f =
          ap (λ (y : ℕ → ℤ). C.filter.forward wrap32 W y (across b) i) (sym (same_row (down b) (n - first_set H (down b)) (omega arith)))

      in_both : (h : Half) → first_set H h ≤ n → n - first_set H h < count h R
      unfolding first_set count
      in_both lo f = omega (arith, L.looks)
      in_both hi f = omega (arith, L.looks)

      same_first : (h : Half) → first_set R h ≡ first_set H h
      unfolding first_set
      same_first lo = refl
      same_first hi = refl

      same_number : (b : Band) → set_row R b n ≡ set_row H b n
      unfolding set_row
      same_number b = ap (λ (j : ℕ). n - j) (same_first (down b))

      make-stands : SetStands (level_by C) W H g n (set_made C W R n x)
      unfolding set_row
      make-stands b i f c h =
          let e = same_first (down b) in
          set-stands C L W R g n x left-so-far b i (omega arith) (rw e (in_both (down b) f)) h
          ∙ ap (λ (j : ℕ). subband C.filter wrap32 W R g b j i) (same_number b)
          ∙ same-band b i f

  -- ---- all rows are there: the sets left are the last ones, as many as the look-ahead
  held-ended : (W H : Side) (g : Grid) (x : Memory) → 0 < H.length → Kept C W H g H.length 0 x → Left C W H g (unmade C.filter.ahead H) x
  unfolding unmade last_set
  held-ended W H g x h k = let one = L.looks in record {
    near = omega arith;
    even = λ i f a b. k.even i f (omega arith) (omega arith);
    odd = λ i a b. k.odd i (omega arith) (omega arith);
    high = λ i a b. k.high i (omega arith) (omega arith);
  }

  -- ---- all this is in the level's stretch
  module _ (W H : Side) (g : Grid) (x y : Memory) (e : (j : ℕ) → j < C.filter.rows * W.length → y j ≡ x j) where
    row_reads : (q : ℕ) (v : ℕ → ℤ) → Row C W H g x q v → Row C W H g y q v
    row_reads q v s h i l = e _ (omega (arith, half-inside h W i l, row-end (some C L) W.length q)) ∙ s h i l

    held_reads : (m c : ℕ) → c ≤ W.length → Kept C W H g m c x → Kept C W H g m c y
    held_reads m c h k = record {
      even = λ n f p q. row_reads (2 * n) _ (k.even n f p q);
      odd = λ n p q. row_reads (2 * n + 1) _ (k.odd n p q);
      high = λ n p q. row_reads (2 * n + 1) _ (k.high n p q);
      begun = λ i l. e _ (omega (arith, spot_in W i (omega arith), row-end (some C L) W.length (H.start % 2 + m))) ∙ k.begun i l;
    }

    ended-reads : (n : ℕ) → Left C W H g n x → Left C W H g n y
    ended-reads n k = record {
      near = k.near;
      even = λ i f a b. row_reads (2 * i) _ (k.even i f a b);
      odd = λ i a b. row_reads (2 * i + 1) _ (k.odd i a b);
      high = λ i a b. row_reads (2 * i + 1) _ (k.high i a b);
    }

  pub place-room : (W : Side) (n : ℕ) (b : Band) → band_place C W n b + count (across b) W ≤ C.filter.rows * W.length
  unfolding band_place
  place-room W n b = omega (arith, half-end (across b) W, row-end (some C L) W.length (waits C (down b) n))

  pub level-laws : LevelLaws (level_by C) (Kept C) (Left C)
  level-laws = record {
    ahead-some = L.looks;
    held_none = held_none;
    held-cell = held-cell;
    held-put = held-put;
    held-still = λ W H g m x _ e k. held-still W H g m x k e;
    held-make = λ W H g m n x t l k. held-make W H g m n t l x k;
    make-stands = λ W H g m n x t l k. make-stands W H g m n t l x k;
    held-ended = held-ended;
    close-ended = λ W H g n x _ k. set-left C L W H g n x k;
    close-stands = λ W H g n x _ k. set-stands C L W H g n x k;
    held_reads = λ W H g m c x y l e k. held_reads W H g x y e m c l k;
    ended-reads = λ W H g n x y e k. ended-reads W H g x y e n k;
    place-in = λ W s n b i h. omega (arith, place-room W n b);
    cell-past = λ W s m c v x j l h. (only-stored C L W (s % 2 + m) x c v l).past j h;
    put-past = λ W s m row x j h. (only-put C L W (s % 2 + m) x row).past j h;
    make-past = λ W s n x j h. made-past C L W (rows_to C.filter.ahead s n) n x j h;
    close-past = λ W H n x j h. made-past C L W H n x j h;
  }
