-- An offer taken a stretch at a time is the offer taken height by height. Assumes nothing.
use mathlib.Core.Path.{◌≡◌, refl, ap, subst, subst₂, ◌∙◌, fun_ext, sym}
use mathlib.Core.Bool.{Bool, true, false, not}
use mathlib.Core.List.{List, [], ◌∷◌}
use Prim.Native.Nat.{ℕ, zero, suc, ◌+◌, ◌-◌, ◌%◌, ◌≤◌, ◌<◌, min}
use native.Mathlib.Decide.{dec_lt}
use native.Mathlib.Omega.{arith}
use lib.IntN.{ℤ, pos}
use lib.ListN.{length, drop, get_or, length-drop}
use lib.Seq.{drop-cons, drop-drop, drop-length, get_or-drop}
use lib.Dec.{eqb, ltb}
use borrow.Author.Tests.{eq-eqb, ne_eqb, lt-ltb, le-ltb, ltb-true, eqb-true}
use Rattle.numbers.specs.Signal.{at, both, pick, spliced}
use Rattle.numbers.proofs.Sweep as sweep
use Rattle.wavelet.specs.Limits.{max_height}
use Rattle.wavelet.proofs.LimitLaws.{height-small}
use Rattle.calls.specs.Lists.{gives, refused}
use Rattle.level.specs.Level.{Memory}
use Rattle.level.specs.Heights.{height_at}
use Rattle.analysis.specs.Forward.{heights_put}
use Rattle.analysis.proofs.ForwardLaws.{height-more, height-none}
use Rattle.writer.specs.declared.Writer.{Writer}
use Rattle.progress.specs.declared.waits.Wait.{Wait}
use Rattle.writer.specs.Machine.{arrive}
use Rattle.writer.specs.Taking.{kind, columns_of, Taking, none, one_more, takes, begun, at_column, complete, height_put, row_makes, offering}
use Rattle.writer.specs.Questions.{offer_question}
use Rattle.writer.specs.Spare.{spare_at, spare_room, holding, moved_row, moving}
use Rattle.writer.specs.SpareSteps.{Holder, Mover, Moved}
use Rattle.wavelet.proofs.LimitLaws.{width_small}
use Rattle.wavelet.proofs.StoreLaws.{store-back}
use Rattle.filters.specs.Filters.{filter_of}
use Rattle.filters.specs.Figures.{store_by, streamable}
use Rattle.filters.proofs.FigureLaws.{Streams, streams}
use Rattle.writer.specs.Calls.{offered_at, offer_reply, offer_store}
use Rattle.writer.specs.Steps.{Left}
use Rattle.writer.proofs.QuestionLaws.{Sound, few-levels}
use Rattle.writer.proofs.CallLaws.{offer-takes, moving-part, moving-whole, sound-room, unless-no, unless-yes, changed-no, changed-yes}
use Rattle.writer.specs.OfferSteps.{next_count, Roomy, Taker, Reaching, HeightsTaken}

-- n heights more
abbrev pub plus : ℕ → Taking → Taking
plus n t = record { taken = n + t.taken; writer = t.writer; store = t.store }

pub plus_none : (t : Taking) → t ≡ plus 0 t
plus_none t = ap (λ (k : ℕ). record { taken = k; writer = t.writer; store = t.store }) (omega arith)

plus-plus : (a b : ℕ) (t : Taking) → plus a (plus b t) ≡ plus (a + b) t
plus-plus a b t = ap (λ (k : ℕ). record { taken = k; writer = t.writer; store = t.store }) (omega arith)

plus-more : (a : ℕ) (t : Taking) → plus a (one_more t) ≡ plus (suc a) t
plus-more a t = ap (λ (k : ℕ). record { taken = k; writer = t.writer; store = t.store }) (omega arith)

-- ---- whether a height is taken
module _ (s : Writer) where
  pub takes-yes : s.level ≡ 0 → s.rows < max_height → takes s ≡ true
  unfolding takes
  takes-yes a b = simp (eq-eqb s.level 0 a, lt-ltb s.rows max_height b)

  pub takes-waits : 0 < s.level → takes s ≡ false
  unfolding takes
  takes-waits h = simp (ne_eqb s.level 0 (omega arith))

  pub takes-full : max_height ≤ s.rows → takes s ≡ false
  unfolding takes
  takes-full h = simp (le-ltb s.rows max_height h) (last (eqb s.level 0))
    where
      last : (a : Bool) → both a false ≡ false
      last true = refl
      last false = refl

  pub takes-rows : takes s ≡ true → s.rows < max_height
  unfolding takes
  takes-rows e = ltb-true s.rows max_height (sweep.both (eqb s.level 0) _ e).1

  pub takes-at : (c : ℕ) → takes (at_column s c) ≡ takes s
  unfolding takes
  takes-at c = refl

  -- ---- the next stretch
  pub next-none : (k : ℕ) → takes s ≡ false → 0 ≡ next_count s k
  unfolding next_count
  next-none k e = simp e

  pub next-some : (k n : ℕ) → takes s ≡ true → n ≡ min (s.width - s.column) k → n ≡ next_count s k
  unfolding next_count
  next-some k n e h = h ∙ simp e

  pub next-empty : (k : ℕ) → k ≡ 0 → 0 ≡ next_count s k
  unfolding next_count
  next-empty k e = go (takes s)
    where
      none : min (s.width - s.column) k ≡ 0
      none = omega arith

      go : (t : Bool) → 0 ≡ pick t (min (s.width - s.column) k) 0
      go true = sym none
      go false = refl

  -- the first of an offer that passed the questions, nothing waiting
  pub next-first : (l k n : ℕ) → offer_question s l k ≡ 0 → s.level ≡ 0 → n ≡ min (s.width - s.column) k → n ≡ next_count s k
  next-first l k n q z e =
      elim (dec_lt 0 k) [
        | yes p ↦ next-some k n (offer-takes s l k q z p) e
        | no d ↦
            let g : k ≡ 0 = omega (arith, d) in
            let d : n ≡ 0 = omega (arith, e, g) in
            d ∙ next-empty k g
      ]

  pub record Next (k n : ℕ) : Type 0 where
    pub takes : takes s ≡ true
    pub row : s.column + n ≤ s.width
    pub run : n ≤ k

  pub next-is : (k n : ℕ) → n ≡ next_count s k → 0 < n → s.column < s.width → Next k n
  unfolding next_count
  next-is k n e h g = go (takes s) refl
    where
      go : (b : Bool) → takes s ≡ b → Next k n
      go true q = let f : n ≡ min (s.width - s.column) k = e ∙ simp q in record { takes = q; row = omega arith; run = omega arith }
      go false q = let f : n ≡ 0 = e ∙ simp q in absurd (omega arith)

-- ---- one height
module _ (h : ℕ) (run : List ℕ) (s : Writer) (x : Memory) (t : takes s ≡ true) where
  one_inside : s.column + 1 < s.width → offering (kind s) (h ∷ run) s x ≡ one_more (offering (kind s) run (begun s) (height_put (kind s) h s x))
  unfolding offering
  one_inside g = simp (t, lt-ltb (s.column + 1) s.width g)

  one-whole : s.width ≤ s.column + 1 →
      offering (kind s) (h ∷ run) s x ≡ one_more (offering (kind s) run (complete s (row_makes (kind s) s (height_put (kind s) h s x)))
      (row_makes (kind s) s (height_put (kind s) h s x)).store)
  unfolding offering
  one-whole g = simp (t, le-ltb (s.column + 1) s.width g)

pub offer-end : (run : List ℕ) (s : Writer) (x : Memory) → takes s ≡ false → offering (kind s) run s x ≡ none s x
unfolding offering
offer-end [] s x e = refl
offer-end (h ∷ run) s x e = simp e

pub offer-used : (s : Writer) (x : Memory) → offering (kind s) [] s x ≡ none s x
unfolding offering
offer-used s x = refl

-- ---- a stretch
module _ (run : List ℕ) (s : Writer) (x : Memory) (t : takes s ≡ true) where
  abbrev pub filled : ℕ → Memory
  filled n = heights_put s.filter (columns_of s) (s.y % 2 + s.rows) s.column n (height_at run) x

  abbrev moved : ℕ → Writer
  moved n = at_column s (s.column + n)

  filled_more : (n : ℕ) → height_put (kind s) (get_or run n 0) (moved n) (filled n) ≡ filled (suc n)
  filled_more n = sym (height-more s.filter (columns_of s) s.y s.rows s.column n (height_at run) x)

  moved_more : (n : ℕ) → begun (moved n) ≡ moved (suc n)
  moved_more n = ap (at_column s) (omega arith)

  pub inside : (n : ℕ) → n ≤ length run → s.column + n < s.width → offering (kind s) run s x ≡ plus n (offering (kind s) (drop n run) (moved n) (filled n))
  inside zero a b =
      let k : s.column + 0 ≡ s.column = omega arith in
      rw (k, height-none s.filter (columns_of s) (s.y % 2 + s.rows) s.column (height_at run) x) (plus_none (offering (kind s) run s x))
  inside (suc n) a b =
      inside n (omega arith) (omega arith)
      ∙ ap (λ (l : List ℕ). plus n (offering (kind s) l (moved n) (filled n))) (drop-cons run n 0 (omega arith))
      ∙ ap (plus n) (one_inside (get_or run n 0) (drop (suc n) run) (moved n) (filled n) (takes-at s _ ∙ t) (omega arith))
      ∙ plus-more n _
      ∙ cc (filled_more n, moved_more n)

  pub whole : (n : ℕ) → 0 < n → n ≤ length run → s.column + n ≡ s.width →
      offering (kind s) run s x ≡ plus n (offering (kind s) (drop n run) (complete s (arrive (kind s) s.levels (columns_of s) s.y s.rows (filled n)))
      (arrive (kind s) s.levels (columns_of s) s.y s.rows (filled n)).store)
  whole zero g a b = absurd (omega arith)
  whole (suc n) g a b =
      inside n (omega arith) (omega arith)
      ∙ ap (λ (l : List ℕ). plus n (offering (kind s) l (moved n) (filled n))) (drop-cons run n 0 (omega arith))
      ∙ ap (plus n) (one-whole (get_or run n 0) (drop (suc n) run) (moved n) (filled n) (takes-at s _ ∙ t) (omega arith))
      ∙ plus-more n _
      ∙ ap (λ (y : Memory). plus (suc n) (offering (kind s) (drop (suc n) run) (complete s (arrive (kind s) s.levels (columns_of s) s.y s.rows y))
      (arrive (kind s) s.levels (columns_of s) s.y s.rows y).store)) (filled_more n)

-- ---- how far an offer of `run` to s₀ has gone: k heights taken, and the writer and the store then
abbrev pub Gone : List ℕ → Writer → Memory → ℕ → Writer → Memory → Type 0
Gone run s₀ x₀ k s x = offering (kind s₀) run s₀ x₀ ≡ plus k (offering (kind s) (drop k run) s x)

module _ (run : List ℕ) (s₀ : Writer) (x₀ : Memory) (k : ℕ) (s : Writer) (x : Memory) (g : Gone run s₀ x₀ k s x) where
  from : height_at (drop k run) ≡ (λ j. height_at run (k + j))
  from = fun_ext λ j. ap pos (get_or-drop k run j 0)

  left_over : (n : ℕ) → k + n ≤ length run → n ≤ length (drop k run)
  left_over n h = simp length-drop (omega arith)

  -- a stretch goes n heights on
  pub gone-on : (n l : ℕ) (r : Writer) (y : Memory) → takes s ≡ true → 0 < n → k + n ≤ length run → s.column + n ≤ s.width →
      HeightsTaken s run k n x r y l → Gone run s₀ x₀ (k + n) r y
  gone-on n l r y t h a b f =
      elim (dec_lt (s.column + n) s.width) [
        | yes d ↦
            let q = f.reaching.inside d in
            g
            ∙ ap (plus k) (inside (drop k run) s x t n (left_over n a) d)
            ∙ plus-plus k n _
            ∙ cc (drop-drop n k run, from, q.0, q.1)
        | no d ↦
            let q = f.reaching.whole (omega (arith, d)) in
            g
            ∙ ap (plus k) (whole (drop k run) s x t n h (left_over n a) (omega (arith, d)))
            ∙ plus-plus k n _
            ∙ cc (drop-drop n k run, from, q.0, q.1)
      ]

  -- the end: the next stretch has no height
  pub gone-all : (n : ℕ) → n ≡ next_count s (length run - k) → n ≡ 0 → s.column < s.width → k ≤ length run →
      offering (kind s₀) run s₀ x₀ ≡ record { taken = k; writer = s; store = x }
  unfolding next_count
  gone-all n e z h a = g ∙ ap (plus k) (go (takes s) refl) ∙ ap (λ (i : ℕ). record { taken = i; writer = s; store = x }) (omega arith)
    where
      go : (b : Bool) → takes s ≡ b → offering (kind s) (drop k run) s x ≡ none s x
      go false q = offer-end (drop k run) s x q
      go true q =
          let f : n ≡ min (s.width - s.column) (length run - k) = e ∙ simp q in
          let i : k ≡ length run = omega arith in
          ap (λ (j : ℕ). offering (kind s) (drop j run) s x) i ∙ ap (λ (l : List ℕ). offering (kind s) l s x) (drop-length run) ∙ offer-used s x

-- ---- before each turn of an offer's loop: m is the store, and m₀ the store at the start
pub record Offering (run : List ℕ) (s₀ : Writer) (m₀ m : List ℤ) (s : Writer) (k n : ℕ) : Type 0 where
  pub gone : Gone run s₀ (at m₀) k s (at m)
  pub taker : Taker s (length m₀)
  pub size : length m ≡ length m₀
  pub within : k ≤ length run
  pub next : n ≡ next_count s (length run - k)

pub offer-start : (run : List ℕ) (s : Writer) (m : List ℤ) (n : ℕ) → Taker s (length m) → n ≡ next_count s (length run) → Offering run s m m s 0 n
offer-start run s m n t e =
    let k : length run - 0 ≡ length run = omega arith in
    record { gone = plus_none _; taker = t; size = refl; within = omega arith; next = rw k e }

pub offer-turn : (run : List ℕ) (s₀ : Writer) (m₀ m : List ℤ) (s : Writer) (k n : ℕ) (r : Writer) (m' : List ℤ) (n' : ℕ) →
    Offering run s₀ m₀ m s k n → 0 < n → HeightsTaken s run k n (at m) r (at m') (length m) → length m' ≡ length m →
    n' ≡ next_count r (length run - (k + n)) → Offering run s₀ m₀ m' r (k + n) n'
offer-turn run s₀ m₀ m s k n r m' n' o h f z e =
    let q = next-is s (length run - k) n o.next h o.taker.column in
    record {
      gone = gone-on run s₀ (at m₀) k s (at m) o.gone n (length m) r (at m') q.takes h (omega (arith, q.run, o.within)) q.row f;
      taker = rw o.size at f.reaching.taker;
      size = z ∙ o.size;
      within = omega (arith, q.run, o.within);
      next = e;
    }

-- what `stretch` requires
pub record Ready (s : Writer) (m : List ℤ) (run : List ℕ) (k n : ℕ) : Type 0 where
  pub taker : Taker s (length m)
  pub rows : s.rows < max_height
  pub row : s.column + n ≤ s.width
  pub heights : k + n ≤ length run

pub offer-ready : (run : List ℕ) (s₀ : Writer) (m₀ m : List ℤ) (s : Writer) (k n : ℕ) → Offering run s₀ m₀ m s k n → 0 < n → Ready s m run k n
offer-ready run s₀ m₀ m s k n o h =
    let q = next-is s (length run - k) n o.next h o.taker.column in
    record { taker = rw o.size o.taker; rows = takes-rows s q.takes; row = q.row; heights = omega (arith, q.run, o.within) }

-- ---- the call
module _ (s : Writer) (l q : ℕ) (run : List ℕ) (x : Memory) (e : q ≡ offer_question s l (length run)) where
  pub offer-no : 0 < q → (refused q ≡ offer_reply s l run x) × (x ≡ offer_store s l run x)
  unfolding offer_reply offer_store
  offer-no h = rw (← e) (unless-no q _ h, changed-no q _ x h)

  free : (v : ℕ) → v ≡ 0 → offered_at v run s x ≡ offering (kind s) run s x
  free zero z = refl
  free (suc v) z = absurd (omega arith)

  waits : (v : ℕ) → 0 < v → offered_at v run s x ≡ holding run s x
  waits zero z = absurd (omega arith)
  waits (suc v) z = refl

  given : (t : Taking) (k : ℕ) (r : Writer) (y : Memory) → q ≡ 0 → offered_at s.level run s x ≡ record { taken = k; writer = r; store = y } →
      (gives (record { taken = k; writer = r }) ≡ offer_reply s l run x) × (y ≡ offer_store s l run x)
  unfolding offer_reply offer_store
  given t k r y z f = rw (← e, f) (unless-yes q _ z, changed-yes q _ x z)

  pub offer-yes : (k : ℕ) (r : Writer) (y : Memory) → q ≡ 0 → s.level ≡ 0 →
      offering (kind s) run s x ≡ record { taken = k; writer = r; store = y } →
      (gives (record { taken = k; writer = r }) ≡ offer_reply s l run x) × (y ≡ offer_store s l run x)
  offer-yes k r y z v f = given (none s x) k r y z (free s.level v ∙ f)

  -- while rows wait
  pub offer-held : (k : ℕ) (r : Writer) (y : Memory) → q ≡ 0 → 0 < s.level → k ≡ spare_room s (length run) → r ≡ at_column s (s.column + k) →
      y ≡ spliced (spare_at s + s.column) k (height_at run) x →
      (gives (record { taken = k; writer = r }) ≡ offer_reply s l run x) × (y ≡ offer_store s l run x)
  unfolding holding
  offer-held k r y z v ek er ey = given (none s x) k r y z (waits s.level v ∙ rw (er, ey, ek) refl)

pub sound-taker : (s : Writer) (l : ℕ) → Sound s l → s.level ≡ 0 → Taker s l
sound-taker s l f z =
    record {
      room = sound-room s l f;
      column = f.column z;
      deep = omega (arith, f.levels);
    }

-- ---- what the first c heights of a row come to
module _ (s : Writer) (c : ℕ) (x : Memory) (l : ℕ) (t : Roomy s l) where
  pub reaching-inside : c < s.width → Reaching s c x (at_column s c) x l
  reaching-inside h =
      record { inside = λ g. (refl, refl); whole = λ g. absurd (omega arith); taker = record { room = t.room; column = h; deep = t.deep } }

  pub reaching-whole : (o : Wait) (z : Memory) → c ≡ s.width → s.rows < max_height →
      Left s.filter s.levels (columns_of s) (arrive (kind s) s.levels (columns_of s) s.y s.rows x) o z →
      Reaching s c x
      (record {
        x = s.x;
        y = s.y;
        width = s.width;
        levels = s.levels;
        rows = s.rows + 1;
        column = 0;
        finished = s.finished;
        closed = s.closed;
        level = o.level;
        left = o.left;
        offset = o.offset;
        filter = s.filter;
      }) z l
  reaching-whole o z h b g =
      record {
        inside = λ d. absurd (omega arith);
        whole = λ d. (rw (g.level, g.left, g.offset) refl, g.store);
        taker = record {
          room = record { room = t.room.room; wide = t.room.wide; rows = omega (arith, height-small); deep = t.room.deep };
          column = t.wide;
          deep = t.deep;
        };
      }

-- a stretch: heights put, and what they come to
pub heights-taken : (s : Writer) (run : List ℕ) (k n : ℕ) (x z : Memory) (r : Writer) (y : Memory) (l m : ℕ) →
    z ≡ heights_put s.filter (columns_of s) (s.y % 2 + s.rows) s.column n (λ j. height_at run (k + j)) x → m ≡ l →
    Reaching s (s.column + n) z r y m → HeightsTaken s run k n x r y l
heights-taken s run k n x z r y l m e d f = record { reaching = subst₂ (λ v i. Reaching s (s.column + n) v r y i) e d f }

-- ---- the spare row
module _ (s : Writer) (n l : ℕ) (h : Holder s n l) where
  abbrev sizes : Streams s.filter (columns_of s) s.levels
  sizes = streams s.filter (columns_of s) s.levels h.sized

  pub holder-start : (a : ℕ) → a ≡ pick (streamable s.filter (columns_of s) s.levels) (store_by s.filter (columns_of s) s.levels) 0 → a ≡ spare_at s
  holder-start a e = e ∙ ap (λ b. pick b (store_by s.filter (columns_of s) s.levels) 0) h.sized

  pub holder-roomy : s.rows < max_height → Roomy s l
  holder-roomy p = record {
    room = record {
      room = omega (arith, h.room);
      wide = omega (arith, sizes.width.1, width_small);
      rows = omega (arith, height-small);
      deep = few-levels s.filter s.levels sizes.levels.1;
    };
    wide = omega (arith, sizes.width.0);
    deep = omega (arith, sizes.levels.0);
  }

  pub holder-mover : (a : ℕ) → a ≡ spare_at s → Mover s.filter s.width a s.column l
  holder-mover a e = record {
    wide = omega (arith, sizes.width.1, width_small);
    row = omega (arith, h.row);
    past = omega (arith, e, store-back (filter_of s.filter).rows (columns_of s) s.levels sizes.levels.0);
    room = omega (arith, e, h.room, h.row);
  }

-- its heights put, and what they come to
pub moved-on : (s : Writer) (x z : Memory) (r : Writer) (y : Memory) (l a : ℕ) → a ≡ spare_at s →
    z ≡ heights_put s.filter (columns_of s) (s.y % 2 + s.rows) 0 s.column (λ j. x (a + j)) x → s.column ≤ s.width →
    Reaching s s.column z r y l → Moved s x r y
moved-on s x z r y l a e g h f =
    elim (dec_lt s.column s.width) [
      | yes p ↦
          let q = f.inside p in
          let m = moving-part s x (lt-ltb s.column s.width p) in
          record { writer = q.0 ∙ sym (ap (λ (k : Taking). k.writer) m); store = q.1 ∙ row ∙ sym (ap (λ (k : Taking). k.store) m) }
      | no p ↦
          let q = f.whole (omega (arith, p)) in
          let m = moving-whole s x (le-ltb s.column s.width (omega (arith, p))) in
          record {
            writer = q.0 ∙ ap (λ (v : Memory). complete s (row_makes (kind s) s v)) row ∙ sym (ap (λ (k : Taking). k.writer) m);
            store = q.1 ∙ ap (λ (v : Memory). (row_makes (kind s) s v).store) row ∙ sym (ap (λ (k : Taking). k.store) m);
          }
    ]
  where
    row : z ≡ moved_row s x
    row = g ∙ ap (λ (b : ℕ). heights_put s.filter (columns_of s) (s.y % 2 + s.rows) 0 s.column (λ j. x (b + j)) x) e

-- a store that is as long
pub roomy-same : (s : Writer) (l m : ℕ) → m ≡ l → Roomy s l → Roomy s m
roomy-same s l m e = subst (Roomy s) (sym e)
