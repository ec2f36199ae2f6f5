-- What the calls answer and leave, as the code's branches meet them. Assumes nothing.
use mathlib.Core.Path.{◌≡◌, refl, sym, ap, ap₂, subst, subst₂, ◌∙◌}
use mathlib.Core.Bool.{Bool, true, false, not}
use Prim.Native.Nat.{ℕ, zero, suc, ◌+◌, ◌%◌, ◌≤◌, ◌<◌}
use native.Mathlib.Omega.{arith}
use lib.IntN.{pos}
use lib.Dec.{leb, ltb, eqb}
use borrow.Author.Tests.{leb-true, le-leb, lt-leb, lt-ltb, eq-eqb, ne_eqb, eqb-true, ltb-true}
use Rattle.numbers.specs.Signal.{pick, both}
use Rattle.numbers.proofs.Sweep.{both as split-both}
use Rattle.lifting.specs.Halves.{fronted}
use Rattle.wavelet.specs.Limits.{max_width, max_height}
use Rattle.wavelet.proofs.LimitLaws.{width_small, height-small}
use Rattle.wavelet.specs.Questions.{ask, within}
use Rattle.lifting.specs.Grid.{Side}
use Rattle.filters.specs.Filters.{filter_of}
use Rattle.filters.specs.Figures.{writer_store_by, streamable}
use Rattle.filters.proofs.FigureLaws.{streams}
use Rattle.refusal.specs.declared.Refusal.{Refusal}
use Rattle.refusal.specs.Numbers.{number}
use Rattle.refusal.proofs.Laws.{number-some}
use Rattle.calls.specs.Lists.{gives, refused, unless, changed_unless}
use Rattle.calls.proofs.QuestionLaws.{asked-yes, not_yes}
use Rattle.writer.specs.declared.Writer.{Writer}
use Rattle.writer.specs.declared.BandRow.{BandRow}
use Rattle.progress.specs.declared.waits.Wait.{Wait}
use Rattle.writer.specs.declared.closing.Closure.{Closure}
use Rattle.writer.specs.declared.draws.PlacedRow.{PlacedRow}
use Rattle.writer.specs.Closing.{Flushed, flush}
use Rattle.progress.specs.Counts.{start_of}
use Rattle.writer.specs.Taking.{kind, columns_of, Taking, none, takes, complete, row_makes}
use Rattle.writer.specs.Spare.{spare_at, moved_row, moving, moved_on}
use Rattle.analysis.specs.Forward.{heights_put}
use Rattle.analysis.proofs.ForwardLaws.{height-none}
use Rattle.writer.specs.SpareSteps.{Holder, Moved}
use Rattle.writer.specs.Questions.{either, in_ranges, long_enough, waiting_row, known, set_up_question, rows_taken, offer_question, draw_question, finish_question}
use Rattle.writer.specs.FirstQuestions.{state_question}
use Rattle.writer.specs.Answers.{Handed, a_row, nothing}
use Rattle.writer.specs.Calls.{fresh, set_up_reply, set_up_store, waits, closing, finish_reply}
use Rattle.writer.specs.Calls.{finish_store, resumed, advanced, after_draw, drawn_on, band_row, handed}
use Rattle.writer.specs.Calls.{handed_store, handed_area, draw_reply, draw_store, draw_area}
use Rattle.writer.specs.Steps.{Room, Left, Walk, Found, Closed, Drawable, Drew, Spares, DrewOn}
use Rattle.writer.proofs.QuestionLaws.{known-filter, Sound, sound, state-no, state-yes, taken-open}
use Rattle.level.specs.Level.{Memory, rest}

-- ---- by the number of the question
pub number-past : (r : Refusal) → 0 < number r
number-past r = let z = number-some r in omega (arith, z)

pub unless-no : {A : Type 0} (q : ℕ) (a : A) → 0 < q → refused q ≡ unless q a
unless-no zero a h = absurd (omega arith)
unless-no (suc q) a h = refl

pub unless-yes : {A : Type 0} (q : ℕ) (a : A) → q ≡ 0 → gives a ≡ unless q a
unless-yes zero a h = refl
unless-yes (suc q) a h = absurd (omega arith)

pub changed-no : {A : Type 0} (q : ℕ) (a b : A) → 0 < q → b ≡ changed_unless q a b
changed-no zero a b h = absurd (omega arith)
changed-no (suc q) a b h = refl

pub changed-yes : {A : Type 0} (q : ℕ) (a b : A) → q ≡ 0 → a ≡ changed_unless q a b
changed-yes zero a b h = refl
changed-yes (suc q) a b h = absurd (omega arith)

-- ---- set-up, f being the number of the filter
pub set-up-passed : (f : ℕ) (W : Side) (L n : ℕ) → set_up_question f W L n ≡ 0 → (streamable f W L ≡ true) × (writer_store_by f W L ≤ n)
unfolding set_up_question streamable
set-up-passed f W L n e =
    let a = asked-yes (within 1 max_width W.length) _ _ e in
    let k = asked-yes (known f) _ _ a.1 in
    let b = asked-yes (within 1 (filter_of f).levels L) _ _ k.1 in
    (simp (a.0, known-filter f k.0, b.0), leb-true (writer_store_by f W L) n (asked-yes _ _ _ b.1).0)

pub record Fits (f : ℕ) (W : Side) (L n k : ℕ) : Type 0 where
  pub needed : k ≡ writer_store_by f W L
  pub room : k ≤ n

module _ (f : ℕ) (W : Side) (L n q : ℕ) (e : q ≡ set_up_question f W L n) where
  pub set-up-fits : (k : ℕ) → q ≡ 0 → k ≡ pick (streamable f W L) (writer_store_by f W L) 0 → Fits f W L n k
  set-up-fits k z h =
      let t = set-up-passed f W L n (sym e ∙ z) in
      let g : k ≡ writer_store_by f W L = h ∙ simp t.0 in
      record { needed = g; room = omega (arith, t.1) }

  pub set-up-no : (s : ℕ) (x : Memory) → 0 < q → (refused q ≡ set_up_reply f W s L n) × (x ≡ set_up_store f W L n x)
  unfolding set_up_reply set_up_store
  set-up-no s x h = rw (← e) (unless-no q _ h, changed-no q _ x h)

  pub set-up-yes : (s k : ℕ) (x y : Memory) → q ≡ 0 → Fits f W L n k → y ≡ fronted k (λ _. pos 0) x →
      (gives (fresh f W s L) ≡ set_up_reply f W s L n) × (y ≡ set_up_store f W L n x)
  unfolding set_up_reply set_up_store
  set-up-yes s k x y z h g = rw (← e) (unless-yes q _ z, g ∙ ap (λ (k : ℕ). fronted k (λ _. pos 0) x) h.needed ∙ changed-yes q _ x z)

-- ---- a call that passed: its state is sound
front : (a b : Bool) (x : ℕ) → ask a 1 (ask b 5 x) ≡ 0 → ask a 1 (ask b 5 0) ≡ 0
front true true x h = refl
front true false x h = h
front false b x h = h

module _ (s : Writer) (n : ℕ) where
  pub finish-sound : finish_question s n ≡ 0 → Sound s n
  unfolding finish_question state_question
  finish-sound h = sound s n (front (in_ranges s) (long_enough n s) _ h)

  pub offer-sound : (k : ℕ) → offer_question s n k ≡ 0 → Sound s n
  unfolding offer_question state_question
  offer-sound k h = sound s n (front (in_ranges s) (long_enough n s) _ h)

  pub draw-sound : (k : ℕ) → draw_question s n k ≡ 0 → Sound s n
  unfolding draw_question state_question
  draw-sound k h = sound s n (front (in_ranges s) (long_enough n s) _ h)

  -- what the other questions said
  pub finish-may : finish_question s n ≡ 0 → (s.finished ≡ false) × (s.level ≡ 0) × (0 < s.rows) × (s.column ≡ 0)
  unfolding finish_question
  finish-may h =
      let a = asked-yes (long_enough n s) _ _ (asked-yes (in_ranges s) _ _ h).1 in
      let b = asked-yes (not s.finished) _ _ a.1 in
      let c = asked-yes (eqb s.level 0) _ _ b.1 in
      let d = split-both (ltb 0 s.rows) _ (asked-yes _ _ _ c.1).0 in
      (not_yes _ b.0, eqb-true _ 0 c.0, ltb-true 0 _ d.0, eqb-true _ 0 d.1)

  pub offer-may : (k : ℕ) → offer_question s n k ≡ 0 → (s.finished ≡ false) × (0 < k → rows_taken s < max_height)
  unfolding offer_question
  offer-may k h =
      let a = asked-yes (long_enough n s) _ _ (asked-yes (in_ranges s) _ _ h).1 in
      let b = asked-yes (not s.finished) _ _ a.1 in
      let d = (asked-yes (either (eqb k 0) (ltb (rows_taken s) max_height)) _ _ b.1).0 in
      (not_yes _ b.0, λ p. ltb-true _ _ (sym (ap (λ t. either t (ltb (rows_taken s) max_height)) (ne_eqb k 0 (λ z. omega arith))) ∙ d))

  -- of one height or more, nothing waiting: the writer takes one
  pub offer-takes : (k : ℕ) → offer_question s n k ≡ 0 → s.level ≡ 0 → 0 < k → takes s ≡ true
  unfolding takes
  offer-takes k h z p =
      let f = offer-sound k h in
      simp (
        eq-eqb s.level 0 z,
        lt-ltb s.rows max_height (omega (arith, (offer-may k h).1 p, taken-open s (omega (arith, f.width.0)) (f.column z))),
      )

-- ---- finish
pub waits-same : (f : Bool) (s : Writer) (r : Flushed) (c v i o : ℕ) → c ≡ r.closed → v ≡ r.out.level → i ≡ r.out.left →
    o ≡ start_of s.filter (columns_of s) r.out.level →
    record {
      x = s.x;
      y = s.y;
      width = s.width;
      levels = s.levels;
      rows = s.rows;
      column = s.column;
      finished = f;
      closed = c;
      level = v;
      left = i;
      offset = o;
      filter = s.filter;
    } ≡ waits f s r
waits-same f s r c v i o a b d e = rw (a, b, d, e) refl

module _ (s : Writer) (n q : ℕ) (x : Memory) (e : q ≡ finish_question s n) where
  pub finish-no : 0 < q → (refused q ≡ finish_reply s n x) × (x ≡ finish_store s n x)
  unfolding finish_reply finish_store
  finish-no h = rw (← e) (unless-no q _ h, changed-no q _ x h)

  pub finish-yes : (r : Closure) (y : Memory) → q ≡ 0 →
      Closed s.filter s.levels (columns_of s) (flush (kind s) s.levels (columns_of s) s.y 0 s.rows x) r y →
      (gives (record {
        x = s.x;
        y = s.y;
        width = s.width;
        levels = s.levels;
        rows = s.rows;
        column = s.column;
        finished = true;
        closed = r.closed;
        level = r.wait.level;
        left = r.wait.left;
        offset = r.wait.offset;
        filter = s.filter;
      }) ≡ finish_reply s n x) × (y ≡ finish_store s n x)
  unfolding finish_reply finish_store
  finish-yes r y z f =
      rw (← e) (
        ap gives (waits-same true s (closing s x) r.closed r.wait.level r.wait.left r.wait.offset f.closed f.left.level f.left.left
            f.left.offset) ∙ unless-yes q _ z,
        f.left.store ∙ changed-yes q _ x z,
      )

-- ---- what the steps behind a call ask for
pub sound-room : (s : Writer) (n : ℕ) → Sound s n → Room s.filter s.levels (columns_of s) s.rows n
sound-room s n f =
    record { room = f.room; wide = omega (arith, f.width, width_small); rows = omega (arith, f.rows, height-small); deep = f.deep }

pub sound-walk : (s : Writer) (n : ℕ) → Sound s n → 0 < s.level → Walk s.levels (columns_of s) s.level s.rows
sound-walk s n f h =
    let r = sound-room s n f in
    record { first = h; last = f.level; wide = r.wide; rows = r.rows; deep = r.deep }

pub sound-drawable : (s : Writer) (n : ℕ) → Sound s n → 0 < s.level → Drawable s n
sound-drawable s n f h = record { room = sound-room s n f; walk = sound-walk s n f h; placed = f.placed; closed = f.closed }

pub sound-spares : (s : Writer) (n : ℕ) → Sound s n → 0 < s.level → Spares s n
sound-spares s n f h = record { sized = f.sized; row = f.spare; room = f.whole; may = λ p. (f.may h p).1 }

-- ---- what a draw leaves
module _ (s : Writer) (x y : Memory) (r : Wait) (l : Left s.filter s.levels (columns_of s) (advanced s x) r y) where
  resumed-open : (f : Bool) (v : ℕ) → f ≡ false → resumed f s (advanced s x) v ≡ record { closed = s.closed; out = advanced s x }
  unfolding resumed
  resumed-open false v e = refl
  resumed-open true v e = let z : ◌≡◌ {A = ℕ} 0 1 = cc in absurd (omega arith)

  resumed-waits : (f : Bool) (v : ℕ) → f ≡ true → 0 < v → resumed f s (advanced s x) v ≡ record { closed = s.closed; out = advanced s x }
  unfolding resumed
  resumed-waits false v e h = let z : ◌≡◌ {A = ℕ} 0 1 = cc in absurd (omega arith)
  resumed-waits true zero e h = absurd (omega arith)
  resumed-waits true (suc v) e h = refl

  resumed-closes : (f : Bool) (v : ℕ) → f ≡ true → v ≡ 0 → resumed f s (advanced s x) v ≡ flush (kind s) s.levels (columns_of s) s.y s.closed s.rows
      (advanced s x).store
  unfolding resumed
  resumed-closes false v e h = let z : ◌≡◌ {A = ℕ} 0 1 = cc in absurd (omega arith)
  resumed-closes true zero e h = refl
  resumed-closes true (suc v) e h = absurd (omega arith)

  drew : (c v i o : ℕ) (z : Memory) (q : Flushed) → after_draw s x ≡ q → c ≡ q.closed → v ≡ q.out.level → i ≡ q.out.left →
      o ≡ start_of s.filter (columns_of s) q.out.level → z ≡ q.out.store →
      Drew s x (record {
        x = s.x;
        y = s.y;
        width = s.width;
        levels = s.levels;
        rows = s.rows;
        column = s.column;
        finished = s.finished;
        closed = c;
        level = v;
        left = i;
        offset = o;
        filter = s.filter;
      }) z
  drew c v i o z q e a b d k g = record {
    writer = waits-same s.finished s q c v i o a b d k ∙ ap (waits s.finished s) (sym e);
    store = g
        ∙ ap (λ (q : Flushed). q.out.store) (sym e);
  }

  pub drew-open : s.finished ≡ false →
      Drew s x (record {
        x = s.x;
        y = s.y;
        width = s.width;
        levels = s.levels;
        rows = s.rows;
        column = s.column;
        finished = s.finished;
        closed = s.closed;
        level = r.level;
        left = r.left;
        offset = r.offset;
        filter = s.filter;
      }) y
  drew-open e = drew s.closed r.level r.left r.offset y _ (resumed-open s.finished (advanced s x).level e) refl l.level l.left
      l.offset l.store

  pub drew-waits : s.finished ≡ true → 0 < r.level →
      Drew s x (record {
        x = s.x;
        y = s.y;
        width = s.width;
        levels = s.levels;
        rows = s.rows;
        column = s.column;
        finished = s.finished;
        closed = s.closed;
        level = r.level;
        left = r.left;
        offset = r.offset;
        filter = s.filter;
      }) y
  drew-waits e h = drew s.closed r.level r.left r.offset y _ (resumed-waits s.finished (advanced s x).level e
      (omega (arith, l.level))) refl l.level l.left l.offset l.store

  pub drew-closes : (q : Closure) (z : Memory) → s.finished ≡ true → r.level ≡ 0 →
      Closed s.filter s.levels (columns_of s) (flush (kind s) s.levels (columns_of s) s.y s.closed s.rows y) q z →
      Drew s x (record {
        x = s.x;
        y = s.y;
        width = s.width;
        levels = s.levels;
        rows = s.rows;
        column = s.column;
        finished = s.finished;
        closed = q.closed;
        level = q.wait.level;
        left = q.wait.left;
        offset = q.wait.offset;
        filter = s.filter;
      }) z
  drew-closes q z e h f =
      let g = rw l.store at f in
      drew q.closed q.wait.level q.wait.left q.wait.offset z _ (resumed-closes s.finished (advanced s x).level e (sym l.level ∙ h))
      g.closed g.left.level g.left.left g.left.offset g.left.store

-- ---- its heights move on: part of a row, a whole one
pub moving-part : (s : Writer) (x : Memory) → ltb s.column s.width ≡ true → moving s x ≡ record { taken = s.column; writer = s; store = moved_row s x }
unfolding moving
moving-part s x e = rw e refl

pub moving-whole : (s : Writer) (x : Memory) → ltb s.column s.width ≡ false → moving s x ≡ record {
  taken = s.column;
  writer = complete s (row_makes (kind s) s (moved_row s x));
  store = (row_makes (kind s) s (moved_row s x)).store;
}
unfolding moving
moving-whole s x e = rw e refl

-- of no heights, nothing moves on
pub moving-none : (s : Writer) (x : Memory) → s.column ≡ 0 → 0 < s.width → moving s x ≡ none s x
unfolding moving
moving-none s x e p =
    let a : ltb s.column s.width ≡ true = lt-ltb s.column s.width (omega arith) in
    let r : moved_row s x ≡ x =
    ap (λ (n : ℕ). heights_put s.filter (columns_of s) (s.y % 2 + s.rows) 0 n (λ j. x (spare_at s + j)) x) e
    ∙ height-none s.filter (columns_of s) (s.y % 2 + s.rows) 0 (λ j. x (spare_at s + j)) x in
    rw (a, r) (ap (λ (n : ℕ). record { taken = n; writer = s; store = x }) e)

-- once nothing waits, the heights of the spare row go on: t and y are the writer and the store that the draw left
module _ (s : Writer) (x : Memory) (t : Writer) (y : Memory) (d : Drew s x t y) where
  level-left : t.level ≡ (after_draw s x).out.level
  level-left = ap (λ (w : Writer). w.level) d.writer

  on-waits : (v : ℕ) (w : Writer) (z : Memory) → 0 < v → moved_on v w z ≡ none w z
  unfolding moved_on
  on-waits zero w z h = absurd (omega arith)
  on-waits (suc v) w z h = refl

  on-moves : (v : ℕ) (w : Writer) (z : Memory) → v ≡ 0 → moved_on v w z ≡ moving w z
  unfolding moved_on
  on-moves zero w z h = refl
  on-moves (suc v) w z h = absurd (omega arith)

  pub drew-still : 0 < t.level → DrewOn s x t y
  drew-still h =
      let e = on-waits (after_draw s x).out.level (waits s.finished s (after_draw s x)) (after_draw s x).out.store (omega (arith, level-left)) in
      record { writer = d.writer ∙ sym (ap (λ (k : Taking). k.writer) e); store = d.store ∙ sym (ap (λ (k : Taking). k.store) e) }

  moves : t.level ≡ 0 → moved_on (after_draw s x).out.level (waits s.finished s (after_draw s x)) (after_draw s x).out.store ≡ moving t y
  moves h =
      on-moves (after_draw s x).out.level _ _ (sym level-left ∙ h)
      ∙ sym (ap₂ moving d.writer d.store)

  -- the heights there can go on, in a store that is as long
  pub left-moves : (n m : ℕ) → Spares s n → m ≡ n → 0 < t.column → Holder t 0 m × (t.rows < max_height)
  left-moves n m p e =
      subst₂ (λ (w : Writer) (k : ℕ). 0 < w.column → Holder w 0 k × (w.rows < max_height)) (sym d.writer) (sym e)
      (λ q. (record { sized = p.sized; row = omega (arith, p.row); room = p.room }, p.may q))

  pub drew-none : (n : ℕ) → Spares s n → t.level ≡ 0 → t.column ≡ 0 → DrewOn s x t y
  drew-none n p h c =
      let w : 0 < t.width = subst (λ (w : Writer). 0 < w.width) (sym d.writer) (streams s.filter (columns_of s) s.levels p.sized).width.0 in
      let e = moves h ∙ moving-none t y c w in
      record { writer = sym (ap (λ (k : Taking). k.writer) e); store = sym (ap (λ (k : Taking). k.store) e) }

  pub drew-moved : (r : Writer) (z : Memory) → t.level ≡ 0 → Moved t y r z → DrewOn s x r z
  drew-moved r z h m =
      record {
        writer = m.writer ∙ sym (ap (λ (k : Taking). k.writer) (moves h));
        store = m.store ∙ sym (ap (λ (k : Taking). k.store) (moves h));
      }

-- ---- draw
module _ (s : Writer) (n k : ℕ) where
  draw-state : (state_question s n ≡ 0 → ⊥) → draw_question s n k ≡ state_question s n
  unfolding draw_question
  draw-state h = state-no s n _ h

  draw-rest : state_question s n ≡ 0 → draw_question s n k ≡ ask (either (eqb s.level 0) (leb (waiting_row s).length k)) 12 0
  unfolding draw_question
  draw-rest h = state-yes s n _ h

  draw-none : state_question s n ≡ 0 → s.level ≡ 0 → draw_question s n k ≡ 0
  draw-none h e = draw-rest h ∙ simp (eq-eqb s.level 0 e)

  pub draw-short : state_question s n ≡ 0 → 0 < s.level → k < (waiting_row s).length → draw_question s n k ≡ 12
  draw-short h e g = draw-rest h ∙ simp (ne_eqb s.level 0 (omega arith), lt-leb (waiting_row s).length k g)

  pub draw-long : state_question s n ≡ 0 → 0 < s.level → (waiting_row s).length ≤ k → draw_question s n k ≡ 0
  draw-long h e g = draw-rest h ∙ simp (ne_eqb s.level 0 (omega arith), le-leb (waiting_row s).length k g)

module _ (s : Writer) (x z : Memory) where
  handed-none : (v : ℕ) → v ≡ 0 → (nothing ≡ handed v s x) × (x ≡ handed_store v s x) × (z ≡ handed_area v s x z)
  handed-none zero e = (refl, refl, refl)
  handed-none (suc v) e = absurd (omega arith)

  handed-row : (v : ℕ) → 0 < v → (a_row (band_row (waiting_row s)) (drawn_on s x).writer ≡ handed v s x) ×
      ((drawn_on s x).store ≡ handed_store v s x) × (fronted (waiting_row s).length (rest (waiting_row s).start x) z ≡ handed_area v s x z)
  handed-row zero h = absurd (omega arith)
  handed-row (suc v) h = (refl, refl, refl)

module _ (s : Writer) (n k q : ℕ) (x z : Memory) (e : q ≡ state_question s n) where
  refuses : (p : ℕ) → draw_question s n k ≡ p → 0 < p → (refused p ≡ draw_reply s n k x) × (x ≡ draw_store s n k x) × (z ≡ draw_area s n k x z)
  unfolding draw_reply draw_store draw_area
  refuses p f h = rw f (unless-no p _ h, changed-no p _ x h, changed-no p _ z h)

  passes : (a : Handed) (y w : Memory) → draw_question s n k ≡ 0 → a ≡ handed s.level s x → y ≡ handed_store s.level s x →
      w ≡ handed_area s.level s x z → (gives a ≡ draw_reply s n k x) × (y ≡ draw_store s n k x) × (w ≡ draw_area s n k x z)
  unfolding draw_reply draw_store draw_area
  passes a y w f ea ey ew = rw f (ap gives ea, ey, ew)

  pub draw-refused : 0 < q → (refused q ≡ draw_reply s n k x) × (x ≡ draw_store s n k x) × (z ≡ draw_area s n k x z)
  draw-refused h = refuses q (draw-state s n k (λ y. omega arith) ∙ sym e) h

  pub draw-nothing : q ≡ 0 → s.level ≡ 0 → (gives nothing ≡ draw_reply s n k x) × (x ≡ draw_store s n k x) × (z ≡ draw_area s n k x z)
  draw-nothing y h = let t = handed-none s x z s.level h in passes nothing x z (draw-none s n k (sym e ∙ y) h) t.0 t.1 t.2

  module _ (r : PlacedRow) (f : Found s.filter s.levels (columns_of s) (waiting_row s) r) (y : q ≡ 0) (h : 0 < s.level) where
    long : r.length ≡ (waiting_row s).length
    long = ap (λ (r : PlacedRow). r.length) f.spot

    pub draw-no-room : k < r.length → (refused 12 ≡ draw_reply s n k x) × (x ≡ draw_store s n k x) × (z ≡ draw_area s n k x z)
    draw-no-room g = refuses 12 (draw-short s n k (sym e ∙ y) h (omega (arith, long))) (omega arith)

    pub draw-row : (v : Writer) (x' z' : Memory) → r.length ≤ k → z' ≡ fronted r.length (rest r.start x) z → DrewOn s x v x' →
        (gives (a_row (record { level = r.level; band = r.band; row = r.row; length = r.length }) v) ≡ draw_reply s n k x) ×
        (x' ≡ draw_store s n k x) × (z' ≡ draw_area s n k x z)
    draw-row v x' z' g ez d =
        let t = handed-row s x z s.level h in
        let b : ◌≡◌ {A = BandRow} (record { level = r.level; band = r.band; row = r.row; length = r.length }) (band_row (waiting_row s)) = ap
        (λ (r : PlacedRow). record { level = r.level; band = r.band; row = r.row; length = r.length }) f.spot in
        let a : fronted r.length (rest r.start x) z ≡ fronted (waiting_row s).length (rest (waiting_row s).start x) z = ap
        (λ (r : PlacedRow). fronted r.length (rest r.start x) z) f.spot in
        passes _ x' z' (draw-long s n k (sym e ∙ y) h (omega (arith, long)))
        (ap (λ (b : BandRow). a_row b v) b ∙ ap (a_row (band_row (waiting_row s))) d.writer ∙ t.0) (d.store ∙ t.1) (ez ∙ a ∙ t.2)
