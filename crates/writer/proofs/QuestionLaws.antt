-- What the gate questions say. Assumes nothing.
use mathlib.Core.Path.{◌≡◌, refl, sym, ap, ◌∙◌}
use mathlib.Core.Bool.{Bool, true, false, not}
use Prim.Native.Nat.{ℕ, zero, suc, ◌+◌, ◌*◌, ◌/◌, ◌^◌, ◌≤◌, ◌<◌, ◌-◌}
use native.Mathlib.Nat.{div-eq_of_lt, div_self}
use native.Mathlib.Omega.{arith}
use lib.Dec.{leb, ltb, eqb}
use borrow.Author.Tests.{leb-true, leb-false, ltb-true, le-leb, lt-leb, lt-ltb, le-ltb, eq-eqb, ne_eqb, eqb-true, eqb-false}
use Rattle.numbers.specs.Signal.{pick, both}
use Rattle.numbers.proofs.Sweep as sweep
use Rattle.wavelet.specs.Limits.{max_width, max_height, max_origin}
use Rattle.wavelet.specs.Questions.{ask}
use Rattle.lifting.specs.Grid.{Side}
use Rattle.wavelet.proofs.LimitLaws.{levels-small}
use Rattle.wavelet.specs.Levels.{next}
use Rattle.filters.specs.Filters.{filter_of, is_filter}
use Rattle.filters.specs.Figures.{store_by, writer_store_by, streamable}
use Rattle.filters.proofs.FigureLaws.{streams, levels-most}
use Rattle.writer.specs.declared.Writer.{Writer}
use Rattle.progress.specs.Counts.{most_left, start_of}
use Rattle.writer.specs.Taking.{columns_of}
use Rattle.writer.specs.Questions.{either, on_grid, most_column, in_ranges, long_enough, known, rows_taken, offer_question, finish_question}
use Rattle.calls.proofs.QuestionLaws.{not_yes}
use Rattle.writer.specs.FirstQuestions.{state_question, open_question}
use Rattle.progress.proofs.CountLaws.{start_first, start-more}

-- ---- two questions, and what follows them
module _ (p q : ℕ) where
  abbrev pub asked : Bool → Bool → ℕ → ℕ
  asked a b x = ask a (suc p) (ask b (suc q) x)

  asked-no : (a b : Bool) (x : ℕ) → (asked a b 0 ≡ 0 → ⊥) → asked a b x ≡ asked a b 0
  asked-no true true x h = absurd (h refl)
  asked-no true false x h = refl
  asked-no false b x h = refl

  asked-yes : (a b : Bool) (x : ℕ) → asked a b 0 ≡ 0 → asked a b x ≡ x
  asked-yes true true x h = refl
  asked-yes true false x h = absurd (omega arith)
  asked-yes false b x h = absurd (omega arith)

  asked-all : (a b : Bool) → asked a b 0 ≡ 0 → (a ≡ true) × (b ≡ true)
  asked-all true true h = (refl, refl)
  asked-all true false h = absurd (omega arith)
  asked-all false b h = absurd (omega arith)

-- ---- question 18 of a set-up lets no other number through than question 1's
pub known-filter : (f : ℕ) → known f ≡ true → is_filter f ≡ true
unfolding is_filter
known-filter f e = le-leb f 1 (omega (arith, leb-true, eqb-true))

-- ---- question 1, the tests of sizes and counts passed: what waits is left
pub ranges-last : (s : Writer) → on_grid s.x s.y ≡ true → streamable s.filter (columns_of s) s.levels ≡ true →
    s.rows ≤ max_height → s.column ≤ most_column s s.level →
    s.closed ≤ (filter_of s.filter).ahead * s.levels → s.level ≤ s.levels → (b : Bool) → b ≡ both (leb s.left (most_left s.levels s.level))
    (eqb s.offset (start_of s.filter (columns_of s) s.level)) → b ≡ in_ranges s
unfolding in_ranges
ranges-last s o a d e f g t is = is ∙ simp (o, a, le-leb _ _ d, le-leb _ _ e, le-leb _ _ f, le-leb _ _ g)

-- what waits: too many bands left, or a number of them that can be; k is how many can
module _ (a k : ℕ) (t : Bool) where
  pub left-no : (m : ℕ) → k ≡ m → k < a → false ≡ both (leb a m) t
  left-no m e h = simp (lt-leb a m (omega arith))

  pub left-yes : (m : ℕ) (b : Bool) → k ≡ m → a ≤ k → b ≡ t → b ≡ both (leb a m) t
  left-yes m b e h f = f ∙ simp (le-leb a m (omega arith))

-- ---- where a level's stretch begins, the stretches before it taken off o; f is the number of the filter
module _ (f : ℕ) where
  pub begins-short : (w : Side) (k o : ℕ) → 1 < k → o < (filter_of f).rows * w.length → false ≡ eqb o (start_of f w k)
  begins-short w k o h g = sym (ne_eqb o (start_of f w k) (λ e. absurd (omega (arith, start-more f w k h))))

  pub begins-on : (w : Side) (k o a : ℕ) (h : Side) → a ≡ (filter_of f).rows * w.length → 1 < k → a ≤ o → h ≡ next w →
      eqb (o - a) (start_of f h (k - 1)) ≡ eqb o (start_of f w k)
  begins-on w k o a h s g d e = go (eqb o (start_of f w k)) refl
    where
      more : a + start_of f h (k - 1) ≡ start_of f w k
      more = rw (s, e) (start-more f w k g)

      go : (t : Bool) → eqb o (start_of f w k) ≡ t → eqb (o - a) (start_of f h (k - 1)) ≡ t
      go true z = eq-eqb (o - a) (start_of f h (k - 1)) (omega (arith, eqb-true o (start_of f w k) z, more))
      go false z = ne_eqb (o - a) (start_of f h (k - 1)) (λ (y : o - a ≡ start_of f h (k - 1)). eqb-false o (start_of f w k) z (omega (arith, more)))

  pub begins-first : (w : Side) (k o : ℕ) → k ≤ 1 → eqb o 0 ≡ eqb o (start_of f w k)
  begins-first w k o h = ap (eqb o) (sym (start_first f w k h))

pub few-levels : (f L : ℕ) → L ≤ (filter_of f).levels → L < 2 ^ 16
few-levels f L h = omega (arith, levels-most f, levels-small)

-- ---- what `column` counts
module _ (s : Writer) where
  begun-in : (v : ℕ) → 1 ≤ s.width → s.column ≤ most_column s v → v ≡ 0 → s.column < s.width
  unfolding most_column
  begun-in zero w h e = omega arith
  begun-in (suc v) w h e = absurd (omega arith)

  spare-in : (v : ℕ) → s.column ≤ most_column s v → s.column ≤ s.width
  unfolding most_column
  spare-in zero h = omega arith
  spare-in (suc v) h = go (both (not s.finished) (ltb s.rows max_height)) h
    where
      go : (t : Bool) → s.column ≤ pick t s.width 0 → s.column ≤ s.width
      go true k = k
      go false k = omega arith

  spare-may : (v : ℕ) → s.column ≤ most_column s v → 0 < v → 0 < s.column → (s.finished ≡ false) × (s.rows < max_height)
  unfolding most_column
  spare-may zero h p c = absurd (omega arith)
  spare-may (suc v) h p c = go (both (not s.finished) (ltb s.rows max_height)) refl h
    where
      go : (t : Bool) → both (not s.finished) (ltb s.rows max_height) ≡ t → s.column ≤ pick t s.width 0 →
          (s.finished ≡ false) × (s.rows < max_height)
      go true e k = let b = sweep.both _ _ e in (not_yes _ b.0, ltb-true _ _ b.1)
      go false e k = absurd (omega arith)

  pub most-begun : (r v : ℕ) → v ≡ 0 → r ≡ s.width - 1 → r ≡ most_column s v
  unfolding most_column
  most-begun r zero z e = e
  most-begun r (suc v) z e = absurd (omega arith)

  pub most-finished : (v : ℕ) → 0 < v → s.finished ≡ true → 0 ≡ most_column s v
  unfolding most_column
  most-finished zero z e = absurd (omega arith)
  most-finished (suc v) z e = simp e

  pub most-full : (v : ℕ) → 0 < v → s.finished ≡ false → max_height ≤ s.rows → 0 ≡ most_column s v
  unfolding most_column
  most-full zero z e h = absurd (omega arith)
  most-full (suc v) z e h = simp (e, le-ltb s.rows max_height h)

  pub most-open : (v : ℕ) → 0 < v → s.finished ≡ false → s.rows < max_height → s.width ≡ most_column s v
  unfolding most_column
  most-open zero z e h = absurd (omega arith)
  most-open (suc v) z e h = simp (e, lt-ltb s.rows max_height h)

-- ---- a state that passes questions 1 and 5
pub record Sound (s : Writer) (n : ℕ) : Type 0 where
  pub across : s.x ≤ max_origin
  pub down : s.y ≤ max_origin
  pub filter : is_filter s.filter ≡ true
  pub width : (1 ≤ s.width) × (s.width ≤ max_width)
  pub levels : (1 ≤ s.levels) × (s.levels ≤ (filter_of s.filter).levels)
  pub deep : s.levels < 2 ^ 16
  pub rows : s.rows ≤ max_height
  -- of the row begun, and of the spare row
  pub column : s.level ≡ 0 → s.column < s.width
  pub spare : s.column ≤ s.width
  pub may : 0 < s.level → 0 < s.column → (s.finished ≡ false) × (s.rows < max_height)
  pub closed : s.closed ≤ (filter_of s.filter).ahead * s.levels
  pub level : s.level ≤ s.levels
  pub left : s.left ≤ most_left s.levels s.level
  pub placed : s.offset ≡ start_of s.filter (columns_of s) s.level
  pub sized : streamable s.filter (columns_of s) s.levels ≡ true
  pub room : store_by s.filter (columns_of s) s.levels ≤ n
  pub whole : writer_store_by s.filter (columns_of s) s.levels ≤ n

module _ (s : Writer) (n : ℕ) where
  pub state-no : (x : ℕ) → (state_question s n ≡ 0 → ⊥) → ask (in_ranges s) 1 (ask (long_enough n s) 5 x) ≡ state_question s n
  unfolding state_question
  state-no x h = asked-no 0 4 (in_ranges s) (long_enough n s) x h

  pub state-yes : (x : ℕ) → state_question s n ≡ 0 → ask (in_ranges s) 1 (ask (long_enough n s) 5 x) ≡ x
  unfolding state_question
  state-yes x h = asked-yes 0 4 (in_ranges s) (long_enough n s) x h

  below-whole : writer_store_by s.filter (columns_of s) s.levels ≤ n → store_by s.filter (columns_of s) s.levels ≤ n
  below-whole h = omega arith

  pub sound : state_question s n ≡ 0 → Sound s n
  unfolding state_question in_ranges long_enough
  sound h =
      let e = asked-all 0 4 (in_ranges s) (long_enough n s) h in
      let o = sweep.both _ _ e.0 in
      let p = sweep.both _ _ o.0 in
      let a = sweep.both _ _ o.1 in
      let d = sweep.both _ _ a.1 in
      let b = streams s.filter (columns_of s) s.levels a.0 in
      let f = sweep.both _ _ d.1 in
      let g = sweep.both _ _ f.1 in
      let i = sweep.both _ _ g.1 in
      let j = sweep.both _ _ i.1 in
      record {
        across = leb-true _ _ p.0;
        down = leb-true _ _ p.1;
        filter = b.known;
        width = b.width;
        levels = b.levels;
        deep = few-levels s.filter s.levels b.levels.1;
        rows = leb-true _ _ d.0;
        column = begun-in s s.level b.width.0 (leb-true _ _ f.0);
        spare = spare-in s s.level (leb-true _ _ f.0);
        may = spare-may s s.level (leb-true _ _ f.0);
        closed = leb-true _ _ g.0;
        level = leb-true _ _ i.0;
        left = leb-true _ _ j.0;
        placed = eqb-true _ _ j.1;
        sized = a.0;
        room = below-whole (leb-true _ _ e.1);
        whole = leb-true _ _ e.1;
      }

module _ (s : Writer) where
  pub open_no : (x : ℕ) → (open_question s ≡ 0 → ⊥) → ask (not s.finished) 9 (ask (eqb s.level 0) 8 x) ≡ open_question s
  unfolding open_question
  open_no x h = asked-no 8 7 (not s.finished) (eqb s.level 0) x h

  pub open-yes : (x : ℕ) → open_question s ≡ 0 → ask (not s.finished) 9 (ask (eqb s.level 0) 8 x) ≡ x
  unfolding open_question
  open-yes x h = asked-yes 8 7 (not s.finished) (eqb s.level 0) x h

-- ---- the calls
module _ (s : Writer) (n k : ℕ) where
  pub offer-state : (state_question s n ≡ 0 → ⊥) → state_question s n ≡ offer_question s n k
  unfolding offer_question
  offer-state h = sym (state-no s n _ h)

  pub offer-finished : state_question s n ≡ 0 → s.finished ≡ true → 9 ≡ offer_question s n k
  unfolding offer_question
  offer-finished h g = sym (state-yes s n _ h ∙ simp g)

  offer-rest : (x : ℕ) → state_question s n ≡ 0 → s.finished ≡ false → ask (either (eqb k 0) (ltb (rows_taken s) max_height)) 10 0 ≡ x →
      x ≡ offer_question s n k
  unfolding offer_question
  offer-rest x h g e = sym (state-yes s n _ h ∙ simp g e)

  -- t: whether the rows are as many as can be
  module _ (t : Bool) (f : t ≡ leb max_height (rows_taken s)) where
    pub offer-limit : state_question s n ≡ 0 → s.finished ≡ false → 0 < k → t ≡ true → 10 ≡ offer_question s n k
    offer-limit h g a b =
        offer-rest 10 h g (simp (ne_eqb k 0 (omega arith), le-ltb (rows_taken s) max_height (leb-true max_height (rows_taken s) (sym f ∙ b))))

    pub offer-passes : state_question s n ≡ 0 → s.finished ≡ false → t ≡ false → 0 ≡ offer_question s n k
    offer-passes h g b = offer-rest 0 h g (simp (lt-ltb (rows_taken s) max_height (leb-false max_height (rows_taken s) (sym f ∙ b))) (any (eqb k 0)))
      where
        any : (a : Bool) → ask (either a true) 10 0 ≡ 0
        any true = refl
        any false = refl

  pub offer-empty : state_question s n ≡ 0 → s.finished ≡ false → k ≡ 0 → 0 ≡ offer_question s n k
  offer-empty h g e = offer-rest 0 h g (simp (eq-eqb k 0 e))

-- the rows complete: those counted, and that of the spare row where it is
module _ (s : Writer) (some : 0 < s.width) where
  pub taken-open : s.column < s.width → rows_taken s ≡ s.rows
  taken-open h = let e : s.column / s.width ≡ 0 = div-eq_of_lt h in omega (arith, e)

  pub taken-full : s.column ≡ s.width → rows_taken s ≡ s.rows + 1
  taken-full h = let e : s.column / s.width ≡ 1 = ap (λ k. k / s.width) h ∙ div_self some in omega (arith, e)

module _ (s : Writer) (n : ℕ) where
  pub finish-state : (state_question s n ≡ 0 → ⊥) → state_question s n ≡ finish_question s n
  unfolding finish_question
  finish-state h = sym (state-no s n _ h)

  pub finish-open : state_question s n ≡ 0 → (open_question s ≡ 0 → ⊥) → open_question s ≡ finish_question s n
  unfolding finish_question
  finish-open h g = sym (state-yes s n _ h ∙ open_no s _ g)

  finish-rest : (x : ℕ) → state_question s n ≡ 0 → open_question s ≡ 0 → ask (both (ltb 0 s.rows) (eqb s.column 0)) 11 0 ≡ x → x ≡ finish_question s n
  unfolding finish_question
  finish-rest x h g e = sym (state-yes s n _ h ∙ open-yes s _ g ∙ e)

  pub finish-none : state_question s n ≡ 0 → open_question s ≡ 0 → s.rows ≡ 0 → 11 ≡ finish_question s n
  finish-none h g e = finish-rest 11 h g (simp (le-ltb 0 s.rows (omega arith)))

  pub finish-begun : state_question s n ≡ 0 → open_question s ≡ 0 → 0 < s.rows → 0 < s.column → 11 ≡ finish_question s n
  finish-begun h g a b = finish-rest 11 h g (simp (lt-ltb 0 s.rows a, ne_eqb s.column 0 (omega arith)))

  pub finish-passes : state_question s n ≡ 0 → open_question s ≡ 0 → 0 < s.rows → s.column ≡ 0 → 0 ≡ finish_question s n
  finish-passes h g a b = finish-rest 0 h g (simp (lt-ltb 0 s.rows a, eq-eqb s.column 0 b))
