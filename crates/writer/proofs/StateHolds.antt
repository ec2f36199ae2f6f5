-- Each step of a call keeps what the store holds (`Holds`), for a fixed grid g of H rows. The writer is given by its numbers (`st`).
-- Assumes nothing.
use mathlib.Core.Bool.{Bool, true, false}
use mathlib.Core.Path.{◌≡◌, refl, sym, ap, subst, subst₂}
use Prim.Native.Nat.{ℕ, zero, suc, ◌+◌, ◌*◌, ◌≤◌, ◌<◌}
use native.Mathlib.Omega.{arith}
use Rattle.numbers.specs.Signal.{pick, stored}
use Rattle.wavelet.specs.Bands.{Grid}
use Rattle.lifting.specs.Grid.{Side, side}
use Rattle.wavelet.specs.Order.{made_by}
use Rattle.wavelet.proofs.StoreLaws.{store-none}
use Rattle.filters.specs.Filters.{filter_of}
use Rattle.level.specs.Level.{Memory, LevelKind, Meaning, Ending}
use Rattle.level.proofs.LevelLaws.{LevelLaws}
use Rattle.analysis.specs.Forward.{kind_of, held_of, ended_of}
use Rattle.analysis.proofs.ForwardLaws.{laws-of}
use Rattle.writer.specs.declared.Writer.{Writer}
use Rattle.progress.specs.Counts.{most_left, start_of}
use Rattle.writer.specs.Machine.{Out, arrive}
use Rattle.writer.specs.Draws.{advance}
use Rattle.writer.specs.Closing.{Flushed, flush}
use Rattle.writer.specs.Taking.{columns_of}
use Rattle.writer.specs.Calls.{fresh, resumed}
use Rattle.writer.specs.Holds.{LevelsHold, Holds}
use Rattle.writer.proofs.CascadeHolds.{Good, Advanced, Closed, cell-good, arrive-good, advance-good, flush-good, fresh-good}

pub differ : false ≡ true → ⊥
differ e = let z : ◌≡◌ {A = ℕ} 0 1 = ap (λ t. pick t 1 0) e in omega arith

-- the writer by its numbers, φ that of its filter; its offset is where the level's stretch begins
abbrev pub st : ℕ → Side → (s L r c : ℕ) → Bool → (cl v i : ℕ) → Writer
st φ W s L r c f cl v i = record {
  x = W.start;
  y = s;
  width = W.length;
  levels = L;
  rows = r;
  column = c;
  finished = f;
  closed = cl;
  level = v;
  left = i;
  offset = start_of φ W v;
  filter = φ;
}

pub placed-st : (s : Writer) → s.offset ≡ start_of s.filter (columns_of s) s.level →
    s ≡ st s.filter (columns_of s) s.y s.levels s.rows s.column s.finished s.closed s.level s.left
placed-st s e =
    ap
    (λ (o : ℕ). record {
      x = s.x;
      y = s.y;
      width = s.width;
      levels = s.levels;
      rows = s.rows;
      column = s.column;
      finished = s.finished;
      closed = s.closed;
      level = s.level;
      left = s.left;
      offset = o;
      filter = s.filter;
    })
    e

pub fresh-st : (φ : ℕ) (W : Side) (s L : ℕ) → fresh φ W s L ≡ st φ W s L 0 0 false 0 0 0
fresh-st φ W s L = placed-st (fresh φ W s L) (sym (store-none (filter_of φ).rows W))

-- the level of the filter of number φ
module _ (φ : ℕ) where
  abbrev K : LevelKind
  K = kind_of φ

  abbrev Held : Meaning
  Held = held_of φ

  abbrev Ended : Ending
  Ended = ended_of φ

  abbrev laws : LevelLaws K Held Ended
  laws = laws-of φ

  module _ (H : ℕ) (g : Grid) (W : Side) (s L : ℕ) where
    abbrev Inv : (cl v i r c : ℕ) → Memory → Type 0
    Inv cl v i r c x = LevelsHold K Held Ended L W (side s H) g cl v i r c x

    abbrev Has : (r c : ℕ) → Bool → (cl v i : ℕ) → Memory → Type 0
    Has r c f cl v i x = Holds H g (st φ W s L r c f cl v i) x

    -- before the finish
    open-holds : (r c cl v i : ℕ) (x : Memory) → Inv cl v i r c x → i ≤ most_left L v → (0 < v → c ≡ 0) → cl ≡ 0 → Has r c false cl v i x
    open-holds r c cl v i x inv few idle z = record { levels = inv; placed = refl; few = few; idle = idle; before = λ _. z; ended = λ e. absurd (differ e) }

    -- after it
    closed-holds : (r c cl v i : ℕ) (x : Memory) → Inv cl v i r c x → i ≤ most_left L v → (0 < v → c ≡ 0) → r ≡ H → 0 < r →
        (v ≡ 0 → cl ≡ (filter_of φ).ahead * L) → Has r c true cl v i x
    closed-holds r c cl v i x inv few idle e p all = record {
      levels = inv;
      placed = refl;
      few = few;
      idle = idle;
      before = λ z. absurd
          (differ (sym z));
      ended = λ _. (e, p, all);
    }

    pub fresh_holds : (x : Memory) → Has 0 0 false 0 0 0 x
    fresh_holds x = open-holds 0 0 0 0 0 x (fresh-good K Held Ended laws L W (side s H) g x) (omega arith) (λ _. refl) refl

    -- ---- a row is drawn
    module _ (r c : ℕ) (f : Bool) (cl v i : ℕ) (x : Memory) (h : Has r c f cl (suc v) i x) where
      pub none-begun : c ≡ 0
      none-begun = h.idle (omega arith)

      pub advanced-by : Advanced K Held Ended laws L 1 W (side s H) g cl v i r x
      advanced-by = advance-good K Held Ended laws L 1 W (side s H) g cl v i r c x h.few none-begun h.levels

      abbrev o : Out
      o = advance K L W s cl (suc v) i r x

    -- the levels close on once nothing waits
    pub flush-on : (r c cl v i : ℕ) (x : Memory) (h : Has r c true cl (suc v) i x) → (let o = advance K L W s cl (suc v) i r x in o.level ≡ 0 →
        Closed K Held Ended laws L 1 W (side s H) g cl r (flush K L W s cl r o.store))
    flush-on r c cl v i x h y =
        let o = advance K L W s cl (suc v) i r x in
        let e = h.ended refl in
        flush-good K Held Ended laws L 1 W (side s H) g cl r o.left o.store e.0 (subst (λ b. Inv cl b o.left r 0 o.store) y
        (advanced-by r c true cl v i x h).good.inv)

    draw-open : (r c cl v i : ℕ) (x : Memory) → Has r c false cl (suc v) i x → (let o = advance K L W s cl (suc v) i r x in
        Has r c false cl o.level o.left o.store)
    draw-open r c cl v i x h =
        let o = advance K L W s cl (suc v) i r x in
        let k = (advanced-by r c false cl v i x h).good in
        let z = none-begun r c false cl v i x h in
        open-holds r c cl o.level o.left o.store (subst (λ b. Inv cl o.level o.left r b o.store) (sym z) k.inv) k.few (λ _. z)
        (h.before refl)

    draw-closed : (r c cl v i : ℕ) (x : Memory) (h : Has r c true cl (suc v) i x) →
        (let o = advance K L W s cl (suc v) i r x in (b : ℕ) → o.level ≡ b → (let k = resumed true (st φ W s L r c true cl (suc v) i) o b in
        Has r c true k.closed k.out.level k.out.left k.out.store))
    unfolding resumed
    draw-closed r c cl v i x h zero y =
        let k = flush-on r c cl v i x h y in
        let q : Flushed = flush K L W s cl r (advance K L W s cl (suc v) i r x).store in
        let z = none-begun r c true cl v i x h in
        let e = h.ended refl in
        closed-holds r c q.closed q.out.level q.out.left q.out.store
        (subst (λ b. Inv q.closed q.out.level q.out.left r b q.out.store) (sym z) k.inv) k.few (λ _. z) e.0 e.1 k.all
    draw-closed r c cl v i x h (suc b) y =
        let o = advance K L W s cl (suc v) i r x in
        let k = (advanced-by r c true cl v i x h).good in
        let z = none-begun r c true cl v i x h in
        let e = h.ended refl in
        closed-holds r c cl o.level o.left o.store (subst (λ b. Inv cl o.level o.left r b o.store) (sym z) k.inv) k.few (λ _. z)
        e.0 e.1 (λ a. absurd (omega arith))

    pub draw-holds : (r c : ℕ) (f : Bool) (cl v i : ℕ) (x : Memory) → Has r c f cl (suc v) i x →
        (let o = advance K L W s cl (suc v) i r x in let k = resumed f (st φ W s L r c f cl (suc v) i) o o.level in Has r c f k.closed k.out.level
        k.out.left k.out.store)
    draw-holds r c false cl v i x h = unfold resumed in draw-open r c cl v i x h
    draw-holds r c true cl v i x h = draw-closed r c cl v i x h _ refl

    -- ---- the finish
    module _ (r c cl v i : ℕ) (x : Memory) (h : Has r c false cl v i x) (z : v ≡ 0) (p : 0 < r) (n : c ≡ 0) (e : r ≡ H) where
      abbrev k : Flushed
      k = flush K L W s 0 r x

      pub flush-first : Closed K Held Ended laws L 1 W (side s H) g 0 r k
      flush-first = flush-good K Held Ended laws L 1 W (side s H) g 0 r i x e (subst₂ (λ b d. Inv 0 b i r d x) z n (subst (λ b. Inv b v i r c x)
          (h.before refl) h.levels))

      pub finish-holds : Has r c true k.closed k.out.level k.out.left k.out.store
      finish-holds =
          closed-holds r c _ _ _ _ (subst (λ b. Inv k.closed k.out.level k.out.left r b k.out.store) (sym n) flush-first.inv)
          flush-first.few (λ _. n) e p flush-first.all

  -- ---- one height more
  module _ (H : ℕ) (g : Grid) (W : Side) (s l r c cl v i : ℕ) (x : Memory) (h : Holds H g (st φ W s (suc l) r c false cl v i) x) (z : v ≡ 0)
      (in_row : c < W.length) where
    abbrev y : Memory
    y = stored (K.cell W s r c) (g r c) x

    cell-inv : Inv H g W s (suc l) 0 0 i r (suc c) y
    cell-inv = cell-good K Held Ended laws l W (side s H) g i r c x in_row
        (subst₂ (λ e b. Inv H g W s (suc l) e b i r c x) (h.before refl) z h.levels)

    pub begun-holds : Holds H g (st φ W s (suc l) r (c + 1) false cl v i) y
    begun-holds =
        open-holds H g W s (suc l) r (c + 1) cl v i y
        (subst₂ (λ e b. Inv H g W s (suc l) e b i r (c + 1) y) (sym (h.before refl)) (sym z)
        (subst (λ b. Inv H g W s (suc l) 0 0 i r b y) (omega arith) cell-inv))
        h.few (λ e. absurd (omega arith)) (h.before refl)

    -- the row is complete
    abbrev made : Out
    made = arrive K (suc l) W s r y

    pub arrived-by : c + 1 ≡ W.length → r < H → Good K Held Ended laws (suc l) 1 W (side s H) g 0 (suc r) made (made_by (filter_of φ).ahead (suc l) 1 W s r)
    arrived-by e p = arrive-good K Held Ended laws (suc l) 1 W (side s H) g r y i p
        (subst (λ b. Inv H g W s (suc l) 0 0 i r b y) (omega arith) cell-inv)

    pub complete-holds : c + 1 ≡ W.length → r < H → Holds H g (st φ W s (suc l) (r + 1) 0 false cl made.level made.left) made.store
    complete-holds e p =
        let k = arrived-by e p in
        open-holds H g W s (suc l) (r + 1) 0 cl made.level made.left made.store
        (subst₂ (λ b d. Inv H g W s (suc l) b made.level made.left d 0 made.store) (sym (h.before refl)) (omega arith) k.inv)
        k.few (λ _. refl) (h.before refl)
