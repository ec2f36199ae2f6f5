-- Every list of calls keeps `Held` (SpareList): `Reached`, with what each call then answers, by the history.
-- Assumes nothing.
use mathlib.Core.Bool.{Bool, true, false, not}
use mathlib.Core.Path.{◌≡◌, refl, sym, ap, ap₂, subst, subst₂, ◌∙◌}
use mathlib.Core.List.{List, [], ◌∷◌, ◌++◌, append-nil, append_assoc}
use Prim.Native.Nat.{ℕ, zero, suc, ◌+◌, ◌-◌, ◌*◌, ◌/◌, ◌%◌, ◌≤◌, ◌<◌, min}
use native.Mathlib.Nat.{div-eq_of_lt}
use native.Mathlib.Decide.{dec_lt}
use native.Mathlib.Omega.{arith}
use lib.IntN.{ℤ}
use lib.ListN.{length, take, drop}
use lib.Dec.{leb, ltb, eqb}
use borrow.Author.Tests.{lt-ltb, le-ltb, lt-leb, le-leb, leb-false, eq-eqb, ne_eqb}
use Rattle.numbers.specs.Signal.{pick, both, spliced}
use Rattle.lifting.specs.Halves.{fronted}
use Rattle.wavelet.specs.Limits.{max_height, max_origin}
use Rattle.wavelet.specs.Questions.{ask}
use Rattle.wavelet.specs.Order.{RowName, made}
use Rattle.lifting.specs.Grid.{Side}
use Rattle.wavelet.specs.View.{band_columns}
use Rattle.calls.specs.Lists.{Reply, gives, refused, unless, seen, Area, gathered, ever}
use Rattle.calls.proofs.ListLaws.{either-no, gathered_snoc, ever-snoc, list-reached}
use Rattle.filters.specs.Filters.{filter_of}
use Rattle.filters.specs.Figures.{store_by, streamable}
use Rattle.analysis.specs.Forward.{kind_of}
use Rattle.writer.specs.declared.Writer.{Writer}
use Rattle.writer.specs.Machine.{Out}
use Rattle.writer.specs.Draws.{Waiting, waiting, advance}
use Rattle.writer.specs.Closing.{Flushed, flush}
use Rattle.writer.specs.Taking.{Taking, takes, offering}
use Rattle.writer.specs.Spare.{holding, moved_on}
use Rattle.level.specs.Heights.{height_at}
use Rattle.writer.specs.Questions.{either, in_ranges, long_enough, offer_question, draw_question, waits_question, finish_question}
use Rattle.writer.specs.Calls.{fresh, offer_reply, offer_store, waits, closing as closing_of, finish_reply, finish_store, resumed, band_row, draw_reply}
use Rattle.writer.specs.Calls.{draw_store, draw_area, awaited, waits_reply}
use Rattle.writer.specs.Holds.{left}
use Rattle.writer.specs.History.{Call, offer, draw, finish, look, row, none, Event, offered, drew, finished, looked, World, event, next, events, final}
use Rattle.writer.specs.History.{taken_by, taken, finishes, finished_by, DrawnRow, drawn_by, drawn}
use Rattle.writer.specs.Demand3.{whole_rows, made_of, waiting_of, answered, next_row, is_none}
use Rattle.writer.specs.Demand3.{is_long, draw_gives, draw_says, written, DrawSeen, spare_full, takes_on}
use Rattle.writer.specs.Demand3.{offer_turned, Takes, finish_turned}
use Rattle.writer.proofs.StateHolds.{st, fresh-st}
use Rattle.writer.proofs.CallLaws.{finish-may, offer-may, offer-takes}
use Rattle.writer.proofs.CallList.{column-of, coming, At, none_waits, takes_at, Offered, offering-good, head-is, finish-good, fresh-at}
use Rattle.writer.proofs.SpareList.{Held, quiet, counted, begun, within, none-held, in-ranges, rows-counted, waiting-held, none-waiting, full_is}
use Rattle.writer.proofs.SpareList.{held_more, drawn-on}
use Rattle.level.specs.Level.{Memory, LevelKind, rest}

-- where it may take, an offer of one height or more takes one
pub takes_one : (K : LevelKind) (run : List ℕ) (s : Writer) (x : Memory) → takes s ≡ true → 0 < length run → 0 < (offering K run s x).taken
unfolding offering
takes_one K [] s x e p = absurd (omega arith)
takes_one K (h ∷ run) s x e p = rw e (omega arith)

none-there : (l : List ℕ) → length l ≡ 0 → l ≡ []
none-there [] z = refl
none-there (h ∷ l) z = absurd (omega arith)

-- φ is the number of the filter
module _ (φ l : ℕ) (W : Side) (top : ℕ) (from : W.start ≤ max_origin) (low : top ≤ max_origin) (sized : streamable φ W (suc l) ≡ true) where
  abbrev K : LevelKind
  K = kind_of φ

  abbrev L : ℕ
  L = suc l

  -- of the heights taken, those that have gone on, and those in the spare row
  pub record State (es : List Event) (r c cl v i : ℕ) (x : Memory) : Type 0 where
    pub moved : List ℕ
    pub held : List ℕ
    pub taken_is : taken es ≡ moved ++ held
    pub at : Held φ l W top moved held (finished_by es) (drawn es) r c cl v i x

  -- nothing waits: what holds of the heights that have gone on, at the column counted
  pub at-free : {ts hs : List ℕ} {f : Bool} {ds : List DrawnRow} {r c cl i : ℕ} {x : Memory} (v : ℕ) → v ≡ 0 → Held φ l W top ts hs f ds r c cl v i x →
      At φ L W top ts f ds r c cl v i x
  at-free zero z h = h.at
  at-free (suc v) z h = absurd (omega arith)

  -- ---- what every list of calls reaches
  pub record Reached (es : List Event) (w : World) : Type 0 where
    pub rows : ℕ
    pub column : ℕ
    pub closed : ℕ
    pub level : ℕ
    pub rest : ℕ
    pub writer-is : w.writer ≡ st φ W top L rows column (finished_by es) closed level rest
    pub at : State es rows column closed level rest w.store

  abbrev world : Writer → Memory → World
  world s x = record { writer = s; store = x }

  abbrev same : Area → Area
  same b = record { size = b.size; numbers = b.numbers }

  -- one event more
  more : (es : List Event) (e : Event) (f : Bool) (r c cl v i : ℕ) (x : Memory) (ts hs : List ℕ) → either (finished_by es) (finishes e) ≡ f →
      taken es ++ taken_by e ≡ ts ++ hs → Held φ l W top ts hs f (drawn es ++ drawn_by e) r c cl v i x →
      Reached (es ++ e ∷ []) (world (st φ W top L r c f cl v i) x)
  more es e f r c cl v i x ts hs z t a =
      let g : f ≡ finished_by (es ++ e ∷ []) = sym (ever-snoc finishes es e ∙ z) in
      record {
        rows = r;
        column = c;
        closed = cl;
        level = v;
        rest = i;
        writer-is = ap (λ b. st φ W top L r c b cl v i) g;
        at = record {
          moved = ts;
          held = hs;
          taken_is = gathered_snoc taken_by es e ∙ t;
          at =
              subst₂ (λ b d. Held φ l W top ts hs b d r c cl v i x) g (sym (gathered_snoc drawn_by es e)) a;
        };
      }

  module _ (es : List Event) (r c cl v i : ℕ) (x : Memory) (a : State es r c cl v i x) where
    abbrev f : Bool
    f = finished_by es

    abbrev s : Writer
    s = st φ W top L r c f cl v i

    abbrev w : World
    w = world s x

    abbrev h : Held φ l W top a.moved a.held f (drawn es) r c cl v i x
    h = a.at

    pub ranges : in_ranges s ≡ true
    ranges = in-ranges φ l W top v h from low sized

    -- question 5
    long-is : (n : ℕ) (t : Bool) → is_long φ W L n ≡ t → long_enough n s ≡ t
    unfolding long_enough
    long-is n t e = e

    -- a call that changes nothing
    unchanged : (e : Event) → taken_by e ≡ [] → finishes e ≡ false → drawn_by e ≡ [] → Reached (es ++ e ∷ []) w
    unchanged e p q d =
        more es e f r c cl v i x a.moved a.held (ap (either f) q ∙ either-no f)
        (ap (λ b. taken es ++ b) p ∙ append-nil _ ∙ a.taken_is)
        (subst (λ b. Held φ l W top a.moved a.held f b r c cl v i x) (sym (ap (λ b. drawn es ++ b) d ∙ append-nil _)) h)

    -- ---- by the history
    pub taken-count : length (taken es) ≡ r * W.length + c
    taken-count = ap length a.taken_is ∙ counted φ l W top v h

    pub rows_are : whole_rows W es ≡ r + c / W.length
    unfolding whole_rows
    rows_are = ap (λ n. n / W.length) taken-count ∙ rows-counted φ l W top v h

    pub waiting-coming : (k : List RowName) × (waiting_of φ W top L es ≡ coming φ L W top f cl v i r ++ k) × (v ≡ 0 → k ≡ [])
        × (made (filter_of φ).ahead W top L r f ++ k ≡ made (filter_of φ).ahead W top L (r + c / W.length) f)
    unfolding waiting_of made_of
    waiting-coming =
        let w = waiting-held φ l W top v h in
        (w.0, ap (λ m. drop (length (drawn es)) (made (filter_of φ).ahead W top L m f)) rows_are ∙ w.1, w.2, w.3)

    pub none_is : is_none (waiting_of φ W top L es) ≡ eqb v 0
    unfolding waiting_of made_of
    none_is = ap (λ m. is_none (drop (length (drawn es)) (made (filter_of φ).ahead W top L m f))) rows_are ∙ none-waiting φ l W top v h

    pub none-waits-here : v ≡ 0 → waiting_of φ W top L es ≡ []
    none-waits-here z =
        let w = waiting-coming in
        w.1 ∙ ap₂ ◌++◌ (none_waits φ h.at z) (w.2 z)

    -- ---- an offer
    pub offer-question : (n k : ℕ) → offer_question s n k ≡ offer_turned φ W top L es n k
    unfolding offer_question offer_turned long_enough
    offer-question n k = simp (ranges, rows_are)

    module _ (n : ℕ) (run : List ℕ) where
      pub offer-refused : (q : ℕ) → offer_question s n (length run) ≡ suc q → (event (offer n run) w ≡ offered run (refused (suc q))) ×
          (next (offer n run) w ≡ w)
      unfolding event next offer_reply offer_store
      offer-refused q e = (rw e refl, rw e refl)

      pub offer-turned : (q : ℕ) → offer_turned φ W top L es n (length run) ≡ suc q → event (offer n run) w ≡ offered run (refused (suc q))
      offer-turned q e = (offer-refused q (offer-question n (length run) ∙ e)).0

      -- it passed: not finished
      pub not-finished : offer_question s n (length run) ≡ 0 → f ≡ false
      not-finished e = (offer-may s n (length run) e).0

      offer-unchanged : (q : ℕ) → offer_question s n (length run) ≡ suc q → Reached (es ++ event (offer n run) w ∷ []) (next (offer n run) w)
      offer-unchanged q e =
          let p = offer-refused q e in
          subst₂ (λ d k. Reached (es ++ d ∷ []) k) (sym p.0) (sym p.1) (unchanged (offered run (refused (suc q))) refl refl refl)

    -- ---- a finish
    module _ (n : ℕ) where
      -- the last question: a row is complete, and none begun
      last-question : (u : ℕ) → v ≡ u → ask (eqb u 0) 8 (ask (both (ltb 0 r) (eqb c 0)) 11 0)
          ≡ ask (eqb u 0) 8 (ask (both (ltb 0 (whole_rows W es)) (eqb (length (taken es) % W.length) 0)) 11 0)
      last-question zero z =
          let p = begun φ l W top v h z in
          let m : whole_rows W es ≡ r = rows_are ∙ ap (λ n. r + n) (div-eq_of_lt p) ∙ omega arith in
          let k : length (taken es) % W.length ≡ c = ap (λ n. n % W.length) taken-count ∙ column-of W.length r c p in
          rw (m, k) refl
      last-question (suc u) z = simp (ne_eqb (suc u) 0 (λ e. omega arith))

      pub finish-question : finish_question s n ≡ finish_turned φ W top L es n
      unfolding finish_question finish_turned long_enough
      finish-question =
          ap (λ t. ask t 1 (ask (is_long φ W L n) 5 (ask (not f) 9 (ask (eqb v 0) 8 (ask (both (ltb 0 r) (eqb c 0)) 11 0))))) ranges
          ∙ ap (λ q. ask (is_long φ W L n) 5 (ask (not f) 9 q)) (last-question v refl)
          ∙ ap (λ t. ask (is_long φ W L n) 5 (ask (not f) 9 (ask t 8
          (ask (both (ltb 0 (whole_rows W es)) (eqb (length (taken es) % W.length) 0)) 11 0)))) (sym none_is)

      pub finish-answer : event (finish n) w ≡ finished (unless (finish_turned φ W top L es n) tt)
      unfolding event finish_reply
      finish-answer = ap finished (go (finish_question s n) ∙ ap (λ b. unless b tt) finish-question)
        where
          go : (b : ℕ) → ◌≡◌ {A = Reply (Unit {0})} (seen (λ _. tt) (unless b (waits true s (closing_of s x)))) (unless b tt)
          go zero = refl
          go (suc b) = refl

      abbrev k : Flushed
      k = flush K L W top 0 r x

      pub finish-passed : finish_question s n ≡ 0 →
          (event (finish n) w ≡ finished (gives tt)) × (next (finish n) w ≡ world (st φ W top L r c true k.closed k.out.level k.out.left)
          k.out.store)
      unfolding event next finish_reply finish_store
      finish-passed e = (rw e refl, rw e refl)

      pub finish-refused : (q : ℕ) → finish_question s n ≡ suc q → (event (finish n) w ≡ finished (refused (suc q))) × (next (finish n) w ≡ w)
      unfolding event next finish_reply finish_store
      finish-refused q e = (rw e refl, rw e refl)

      pub finish-reached : (b : ℕ) → finish_question s n ≡ b → Reached (es ++ event (finish n) w ∷ []) (next (finish n) w)
      finish-reached zero e =
          let p = finish-passed e in
          let m = finish-may s n e in
          subst₂ (λ d g. Reached (es ++ d ∷ []) g) (sym p.0) (sym p.1)
          (more es (finished (gives tt)) true r c k.closed k.out.level k.out.left k.out.store a.moved [] (done f)
          (append-nil _ ∙ a.taken_is ∙ ap (λ b. a.moved ++ b) (none-there a.held (none-held φ l W top v h m.1)))
          (subst (λ g. Held φ l W top a.moved [] true g r c k.closed k.out.level k.out.left k.out.store) (sym (append-nil _))
          (quiet φ l W top k.out.level
          (finish-good φ l W top (drawn es) a.moved r c cl v i x
          (subst (λ b. At φ L W top a.moved b (drawn es) r c cl v i x) m.0 (at-free v m.1 h)) m.1 m.2 m.3))))
        where
          done : (b : Bool) → either b true ≡ true
          done true = refl
          done false = refl
      finish-reached (suc q) e =
          let p = finish-refused q e in
          subst₂ (λ d g. Reached (es ++ d ∷ []) g) (sym p.0) (sym p.1) (unchanged (finished (refused (suc q))) refl refl refl)

    -- ---- a draw that is lent too short a store
    module _ (n : ℕ) (b : Area) (short : is_long φ W L n ≡ false) where
      question-five : draw_question s n b.size ≡ 5
      unfolding draw_question
      question-five = simp (ranges, long-is n false short)

      pub draw-five : (event (draw n b) w ≡ drew b (refused 5) (same b)) × (next (draw n b) w ≡ w)
      unfolding event next draw_reply draw_store draw_area
      draw-five = (rw question-five refl, rw question-five refl)

      five-reached : Reached (es ++ event (draw n b) w ∷ []) (next (draw n b) w)
      five-reached =
          subst₂ (λ d k. Reached (es ++ d ∷ []) k) (sym draw-five.0) (sym draw-five.1) (unchanged (drew b (refused 5) (same b)) refl refl refl)

      five-says : DrawSeen φ W top L es n b (event (draw n b) w)
      unfolding draw_says
      five-says = record {
        area = same b;
        says = draw-five.0 ∙ ap (λ y. drew b y (same b)) (sym (ap (λ y. pick y (draw_gives W (waiting_of φ W top L es) b.size) (refused 5)) short));
        size_is = refl;
        surplus = λ j p. refl;
      }

    -- ---- a look
    pub look-refl : waits_reply s ≡ gives (awaited v s)
    unfolding waits_reply waits_question
    look-refl = rw ranges refl

    pub look-reached : Reached (es ++ event look w ∷ []) (next look w)
    unfolding event next
    look-reached = unchanged (looked (waits_reply s)) refl refl refl

  -- ---- a draw that is lent a store that is long enough
  -- nothing waits
  module _ (es : List Event) (n r c cl i : ℕ) (x : Memory) (long : is_long φ W L n ≡ true) (a : State es r c cl 0 i x) (b : Area) where
    abbrev s₀ : Writer
    s₀ = st φ W top L r c (finished_by es) cl 0 i

    question-none : draw_question s₀ n b.size ≡ 0
    unfolding draw_question
    question-none = simp (ranges es r c cl 0 i x a, long-is es r c cl 0 i x a n true long)

    pub draw-none : (event (draw n b) (world s₀ x) ≡ drew b (gives none) (same b)) × (next (draw n b) (world s₀ x) ≡ world s₀ x)
    unfolding event next draw_reply draw_store draw_area
    draw-none = (rw question-none refl, rw question-none refl)

    none-reached : Reached (es ++ event (draw n b) (world s₀ x) ∷ []) (next (draw n b) (world s₀ x))
    none-reached =
        subst₂ (λ d k. Reached (es ++ d ∷ []) k) (sym draw-none.0) (sym draw-none.1)
        (unchanged es r c cl 0 i x a (drew b (gives none) (same b)) refl refl refl)

    none-says : DrawSeen φ W top L es n b (event (draw n b) (world s₀ x))
    unfolding draw_says
    none-says =
        let e : waiting_of φ W top L es ≡ [] = none-waits-here es r c cl 0 i x a refl in
        let says : gives none ≡ pick (is_long φ W L n) (draw_gives W (waiting_of φ W top L es) b.size) (refused 5) = rw (long, e) refl in
        record { area = same b; says = draw-none.0 ∙ ap (λ y. drew b y (same b)) says; size_is = refl; surplus = λ j p. refl }

  -- a row waits
  module _ (es : List Event) (n r c cl u i : ℕ) (x : Memory) (long : is_long φ W L n ≡ true) (a : State es r c cl (suc u) i x) (b : Area) where
    abbrev f₁ : Bool
    f₁ = finished_by es

    abbrev s₁ : Writer
    s₁ = st φ W top L r c f₁ cl (suc u) i

    abbrev q : Waiting
    q = waiting K L W top cl (suc u) i r

    abbrev o : Out
    o = advance K L W top cl (suc u) i r x

    abbrev R : Flushed
    R = resumed f₁ s₁ o o.level

    -- the heights of the spare row gone on, where nothing waits
    abbrev T : Taking
    T = moved_on R.out.level (st φ W top L r c f₁ R.closed R.out.level R.out.left) R.out.store

    -- the output area afterwards
    abbrev z : ℕ → ℤ
    z = fronted q.length (rest q.start x) b.numbers

    pub question-some : draw_question s₁ n b.size ≡ ask (leb q.length b.size) 12 0
    unfolding draw_question
    question-some = simp (ranges es r c cl (suc u) i x a, long-is es r c cl (suc u) i x a n true long, ne_eqb (suc u) 0 (λ e. omega arith))

    pub draw-short : leb q.length b.size ≡ false → (event (draw n b) (world s₁ x) ≡ drew b (refused 12) (same b)) ×
        (next (draw n b) (world s₁ x) ≡ world s₁ x)
    unfolding event next draw_reply draw_store draw_area
    draw-short e = let p : draw_question s₁ n b.size ≡ 12 = question-some ∙ ap (λ t. ask t 12 0) e in (rw p refl, rw p refl)

    pub draw-row : leb q.length b.size ≡ true →
        (event (draw n b) (world s₁ x) ≡ drew b (gives (row (band_row q))) (record { size = b.size; numbers = z })) ×
        (next (draw n b) (world s₁ x) ≡ world T.writer T.store)
    unfolding event next draw_reply draw_store draw_area
    draw-row e = let p : draw_question s₁ n b.size ≡ 0 = question-some ∙ ap (λ t. ask t 12 0) e in (rw p refl, rw p refl)

    pub values-are : (j : ℕ) → j < q.length → z j ≡ x (q.start + j)
    unfolding fronted rest
    values-are j p = simp (lt-ltb j q.length p)

    surplus-is : (j : ℕ) → q.length ≤ j → z j ≡ b.numbers j
    unfolding fronted
    surplus-is j p = simp (le-ltb j q.length p)

    some-reached : (t : Bool) → leb q.length b.size ≡ t → Reached (es ++ event (draw n b) (world s₁ x) ∷ []) (next (draw n b) (world s₁ x))
    some-reached false e =
        let p = draw-short e in
        subst₂ (λ d k. Reached (es ++ d ∷ []) k) (sym p.0) (sym p.1)
        (unchanged es r c cl (suc u) i x a (drew b (refused 12) (same b)) refl refl refl)
    some-reached true e =
        let p = draw-row e in
        let d = drew b (gives (row (band_row q))) (record { size = b.size; numbers = z }) in
        let k = drawn-on φ l W top u a.at z values-are in
        subst₂ (λ d k. Reached (es ++ d ∷ []) k) (sym p.0) (sym p.1)
        (subst (λ g. Reached (es ++ d ∷ []) (world g T.store)) (sym k.writer-is)
        (more es d f₁ k.rows k.column k.closed k.level k.left T.store k.moved k.held (either-no f₁)
        (append-nil (taken es) ∙ a.taken_is ∙ sym k.all-is) k.at))

    some-says : (t : Bool) → leb q.length b.size ≡ t → DrawSeen φ W top L es n b (event (draw n b) (world s₁ x))
    unfolding draw_says
    some-says t e = go t e
      where
        h : (m : RowName) × (k : List RowName) × (coming φ L W top f₁ cl (suc u) i r ≡ m ∷ k) × (band_row q ≡ answered W m)
        h = head-is φ l W top (drawn es) a.moved f₁ r 0 cl u i x a.at.at

        first-is : waiting_of φ W top L es ≡ h.0 ∷ (h.1 ++ (waiting-coming es r c cl (suc u) i x a).0)
        first-is =
            let w = waiting-coming es r c cl (suc u) i x a in
            w.1 ∙ ap (λ k. k ++ w.0) h.2

        m : RowName
        m = h.0

        long-is : q.length ≡ band_columns W m.level m.band
        long-is = ap (λ y. y.length) h.3

        says_is : draw_says φ W top L es n b.size ≡ pick (leb q.length b.size) (gives (row (answered W m))) (refused 12)
        says_is =
            ap (λ y. pick y (draw_gives W (waiting_of φ W top L es) b.size) (refused 5)) long
            ∙ ap (λ y. draw_gives W y b.size) first-is
            ∙ ap (λ y. pick (leb y b.size) (gives (row (answered W m))) (refused 12)) (sym long-is)

        go : (t : Bool) → leb q.length b.size ≡ t → DrawSeen φ W top L es n b (event (draw n b) (world s₁ x))
        go false e =
            record {
              area = same b;
              says = (draw-short e).0 ∙ ap (λ y. drew b y (same b)) (sym (says_is ∙ ap (λ y. pick y (gives (row (answered W m))) (refused 12)) e));
              size_is = refl;
              surplus = λ j p. refl;
            }
        go true e =
            let y : draw_says φ W top L es n b.size ≡ gives (row (answered W m)) = says_is
            ∙ ap (λ y. pick y (gives (row (answered W m))) (refused 12)) e in
            record {
              area = record { size = b.size; numbers = z };
              says = (draw-row e).0 ∙ ap (λ k. drew b k (record { size = b.size; numbers = z })) (ap (λ k. gives (row k)) h.3 ∙ sym y);
              size_is = refl;
              surplus = λ j p. surplus-is j (subst (λ k. k ≤ j) (ap written y ∙ sym long-is) p);
            }

  module _ (es : List Event) (n r c cl : ℕ) where
    abbrev w₂ : (v i : ℕ) → Memory → World
    w₂ v i x = world (st φ W top L r c (finished_by es) cl v i) x

    draw-reached : (v i : ℕ) (x : Memory) → State es r c cl v i x → (b : Area) → (t : Bool) → is_long φ W L n ≡ t →
        Reached (es ++ event (draw n b) (w₂ v i x) ∷ []) (next (draw n b) (w₂ v i x))
    draw-reached v i x a b false short = five-reached es r c cl v i x a n b short
    draw-reached zero i x a b true long = none-reached es n r c cl i x long a b
    draw-reached (suc u) i x a b true long = some-reached es n r c cl u i x long a b _ refl

    pub draw-says : (v i : ℕ) (x : Memory) → State es r c cl v i x → (b : Area) → (t : Bool) → is_long φ W L n ≡ t →
        DrawSeen φ W top L es n b (event (draw n b) (w₂ v i x))
    draw-says v i x a b false short = five-says es r c cl v i x a n b short
    draw-says zero i x a b true long = none-says es n r c cl i x long a b
    draw-says (suc u) i x a b true long = some-says es n r c cl u i x long a b _ refl

  pub look-says : (es : List Event) (r c cl v i : ℕ) (x : Memory) → State es r c cl v i x →
      event look (world (st φ W top L r c (finished_by es) cl v i) x) ≡ looked (gives (next_row W (waiting_of φ W top L es)))
  unfolding event
  look-says es r c cl zero i x a =
      ap looked (look-refl es r c cl 0 i x a ∙ ap (λ y. gives (next_row W y)) (sym (none-waits-here es r c cl 0 i x a refl)))
  look-says es r c cl (suc u) i x a =
      let h = head-is φ l W top (drawn es) a.moved (finished_by es) r 0 cl u i x a.at.at in
      let w = waiting-coming es r c cl (suc u) i x a in
      ap looked (look-refl es r c cl (suc u) i x a ∙ ap gives h.3
      ∙ ap (λ y. gives (next_row W y)) (sym (w.1 ∙ ap (λ k. k ++ w.0) h.2)))

  -- ---- an offer that passed, nothing waiting
  module _ (es : List Event) (n : ℕ) (run : List ℕ) (r c cl i : ℕ) (x : Memory) (a : State es r c cl 0 i x)
      (e : offer_question (st φ W top L r c (finished_by es) cl 0 i) n (length run) ≡ 0) where
    abbrev f₂ : Bool
    f₂ = finished_by es

    abbrev T₂ : Bool → Taking
    T₂ b = offering K run (st φ W top L r c b cl 0 i) x

    abbrev w₅ : World
    w₅ = world (st φ W top L r c f₂ cl 0 i) x

    pub free-passed : (event (offer n run) w₅ ≡ offered run (gives (T₂ f₂).taken)) × (next (offer n run) w₅ ≡ world (T₂ f₂).writer (T₂ f₂).store)
    unfolding event next offer_reply offer_store
    free-passed = (rw e refl, rw e refl)

    pub unclosed : f₂ ≡ false
    unclosed = not-finished es r c cl 0 i x a n run e

    all_moved : taken es ≡ a.moved
    all_moved = a.taken_is ∙ ap (λ b. a.moved ++ b) (none-there a.held a.at.count) ∙ append-nil _

    pub went : Offered φ l W top (drawn es) run a.moved (T₂ false)
    went = offering-good φ l W top (drawn es) run a.moved r c cl 0 i x (subst (λ b. At φ L W top a.moved b (drawn es) r c cl 0 i x) unclosed a.at.at)

    free-reached : Reached (es ++ event (offer n run) w₅ ∷ []) (next (offer n run) w₅)
    free-reached =
        let o = went in
        let d = offered run (gives (T₂ false).taken) in
        subst₂ (λ d k. Reached (es ++ d ∷ []) k)
        (sym (free-passed.0 ∙ ap (λ b. offered run (gives (T₂ b).taken)) unclosed))
        (sym (free-passed.1 ∙ ap (λ b. world (T₂ b).writer (T₂ b).store) unclosed ∙ ap (λ k. world k (T₂ false).store) o.writer-is))
        (more es d false o.rows o.column o.closed o.level o.left (T₂ false).store
        (a.moved ++ take (T₂ false).taken run) [] (either-no f₂ ∙ unclosed)
        (ap (λ b. b ++ take (T₂ false).taken run) all_moved ∙ sym (append-nil _))
        (quiet φ l W top o.level
        (subst (λ b. At φ L W top (a.moved ++ take (T₂ false).taken run) false b o.rows o.column o.closed o.level o.left (T₂ false).store)
        (sym (append-nil (drawn es))) o.at)))

    -- it takes on as `Offered` says
    on-is : (j : ℕ) → takes_on φ W top L es j ≡ takes_at φ l W top (drawn es) (length a.moved + j)
    unfolding takes_on
    on-is j =
        ap (λ b. pick b (takes_at φ l W top (drawn es) (length (taken es) + j)) (both (not (spare_full φ W top L es)) (ltb (length (taken es) % W.length + j)
        W.length))) (none_is es r c cl 0 i x a ∙ eq-eqb 0 0 refl)
        ∙ ap (λ t. takes_at φ l W top (drawn es) (length t + j)) all_moved

    free-takes : (k : ℕ) × (event (offer n run) w₅ ≡ offered run (gives k)) × Takes φ W top L es (length run) k
    free-takes =
        let o = went in (
          (T₂ false).taken,
          free-passed.0 ∙ ap (λ b. offered run (gives (T₂ b).taken)) unclosed,
          record {
            most = o.most;
            some = λ p _. takes_one K run (st φ W top L r c false cl 0 i) x (subst (λ b. takes (st φ W top L r c b cl 0 i) ≡ true) unclosed (may p)) p;
            until = λ j p. on-is j ∙ o.until j p;
            stop = λ p. on-is (T₂ false).taken ∙ o.stop p;
          },
        )
      where
        may : 0 < length run → takes (st φ W top L r c f₂ cl 0 i) ≡ true
        may = offer-takes (st φ W top L r c f₂ cl 0 i) n (length run) e refl

  -- ---- an offer that passed while rows wait
  module _ (es : List Event) (n : ℕ) (run : List ℕ) (r c cl u i : ℕ) (x : Memory) (a : State es r c cl (suc u) i x)
      (e : offer_question (st φ W top L r c (finished_by es) cl (suc u) i) n (length run) ≡ 0) where
    abbrev f₃ : Bool
    f₃ = finished_by es

    abbrev s₃ : Writer
    s₃ = st φ W top L r c f₃ cl (suc u) i

    abbrev w₃ : World
    w₃ = world s₃ x

    abbrev k₃ : ℕ
    k₃ = min (W.length - c) (length run)

    abbrev x₃ : Memory
    x₃ = spliced (store_by φ W L + c) k₃ (height_at run) x

    pub held-passed : (event (offer n run) w₃ ≡ offered run (gives k₃)) × (next (offer n run) w₃ ≡ world (st φ W top L r (c + k₃) f₃ cl (suc u) i) x₃)
    unfolding event next offer_reply offer_store holding
    held-passed = (rw e refl, rw e refl)

    pub open₃ : f₃ ≡ false
    open₃ = not-finished es r c cl (suc u) i x a n run e

    pub low₃ : 0 < length run → r < max_height
    low₃ p = omega (arith, (offer-may s₃ n (length run) e).1 p)

    held-reached : Reached (es ++ event (offer n run) w₃ ∷ []) (next (offer n run) w₃)
    held-reached =
        subst₂ (λ d k. Reached (es ++ d ∷ []) k) (sym held-passed.0)
        (sym (held-passed.1 ∙ ap (λ b. world (st φ W top L r (c + k₃) b cl (suc u) i) x₃) open₃))
        (more es (offered run (gives k₃)) false r (c + k₃) cl (suc u) i x₃ a.moved (a.held ++ take k₃ run) (either-no f₃ ∙ open₃)
        (ap (λ b. b ++ take k₃ run) a.taken_is ∙ append_assoc a.moved a.held (take k₃ run))
        (subst (λ b. Held φ l W top a.moved (a.held ++ take k₃ run) false b r (c + k₃) cl (suc u) i x₃) (sym (append-nil (drawn es)))
        (held_more φ l W top u (subst (λ b. Held φ l W top a.moved a.held b (drawn es) r c cl (suc u) i x) open₃ a.at) run k₃ refl low₃)))

    -- the spare row is complete
    full-here : spare_full φ W top L es ≡ leb W.length c
    unfolding spare_full
    full-here =
        ap₂ (λ t m. both (not t) (not (is_none (drop (length (drawn es)) (made (filter_of φ).ahead W top L (m - 1) false)))))
        (none_is es r c cl (suc u) i x a ∙ ne_eqb (suc u) 0 (λ z. omega arith)) (rows_are es r c cl (suc u) i x a)
        ∙ full_is φ l W top u a.at

    -- so it takes on until then
    goes-is : (j : ℕ) → takes_on φ W top L es j ≡ both (not (leb W.length c)) (ltb (length (taken es) % W.length + j) W.length)
    unfolding takes_on
    goes-is j =
        ap₂ (λ t b. pick t (takes_at φ l W top (drawn es) (length (taken es) + j)) (both (not b) (ltb (length (taken es) % W.length + j) W.length)))
        (none_is es r c cl (suc u) i x a ∙ ne_eqb (suc u) 0 (λ z. omega arith)) full-here

    goes-on : (j : ℕ) → c + j < W.length → takes_on φ W top L es j ≡ true
    goes-on j p =
        let k : length (taken es) % W.length ≡ c = ap (λ n. n % W.length) (taken-count es r c cl (suc u) i x a)
        ∙ column-of W.length r c (omega arith) in
        goes-is j ∙ rw (k, lt-leb W.length c (omega arith), lt-ltb (c + j) W.length p) refl

    goes-not : (j : ℕ) → W.length ≤ c + j → j ≤ W.length - c → takes_on φ W top L es j ≡ false
    goes-not j p m = elim (dec_lt c W.length) [
      | yes q ↦
          let k : length (taken es) % W.length ≡ c = ap (λ n. n % W.length) (taken-count es r c cl (suc u) i x a)
          ∙ column-of W.length r c q in
          goes-is j ∙ rw (k, lt-leb W.length c q, le-ltb (c + j) W.length p) refl
      | no q ↦ goes-is j ∙ rw (le-leb W.length c (omega (arith, q))) refl
    ]

    held-takes : (k : ℕ) × (event (offer n run) w₃ ≡ offered run (gives k)) × Takes φ W top L es (length run) k
    held-takes = (
      k₃,
      held-passed.0,
      record {
        most = omega arith;
        some = λ p z. let d = leb-false W.length c (sym full-here ∙ z) in omega (arith, d);
        until = λ j p. goes-on j (omega arith);
        stop = λ p. goes-not k₃ (omega (arith, within φ l W top (suc u) a.at)) (omega arith);
      },
    )

  module _ (es : List Event) (n : ℕ) (run : List ℕ) (r c cl : ℕ) where
    abbrev w₄ : (v i : ℕ) → Memory → World
    w₄ v i x = world (st φ W top L r c (finished_by es) cl v i) x

    offer-reached : (v i : ℕ) (x : Memory) (a : State es r c cl v i x) → (b : ℕ) → offer_question (w₄ v i x).writer n (length run) ≡ b →
        Reached (es ++ event (offer n run) (w₄ v i x) ∷ []) (next (offer n run) (w₄ v i x))
    offer-reached v i x a (suc q) e = offer-unchanged es r c cl v i x a n run q e
    offer-reached zero i x a zero e = free-reached es n run r c cl i x a e
    offer-reached (suc u) i x a zero e = held-reached es n run r c cl u i x a e

    pub offer-takes-on : (v i : ℕ) (x : Memory) (a : State es r c cl v i x) → offer_turned φ W top L es n (length run) ≡ 0 →
        (k : ℕ) × (event (offer n run) (w₄ v i x) ≡ offered run (gives k)) × Takes φ W top L es (length run) k
    offer-takes-on zero i x a e = free-takes es n run r c cl i x a (offer-question es r c cl 0 i x a n (length run) ∙ e)
    offer-takes-on (suc u) i x a e = held-takes es n run r c cl u i x a (offer-question es r c cl (suc u) i x a n (length run) ∙ e)

  -- ---- every call, and every list of calls
  call-reached : (k : Call) (es : List Event) (r c cl v i : ℕ) (x : Memory) → State es r c cl v i x →
      Reached (es ++ event k (world (st φ W top L r c (finished_by es) cl v i) x) ∷ []) (next k (world (st φ W top L r c (finished_by es) cl v i) x))
  call-reached (offer n run) es r c cl v i x a = offer-reached es n run r c cl v i x a _ refl
  call-reached (draw n b) es r c cl v i x a = draw-reached es n r c cl v i x a b _ refl
  call-reached (finish n) es r c cl v i x a = finish-reached es r c cl v i x a n _ refl
  call-reached look es r c cl v i x a = look-reached es r c cl v i x a

  pub step-reached : (k : Call) (es : List Event) (w : World) → Reached es w → Reached (es ++ event k w ∷ []) (next k w)
  step-reached k es w m =
      subst (λ s. Reached (es ++ event k (world s w.store) ∷ []) (next k (world s w.store))) (sym m.writer-is)
      (call-reached k es m.rows m.column m.closed m.level m.rest w.store m.at)

  pub fresh-reached : (x : Memory) → 0 < W.length → Reached [] (world (fresh φ W top L) x)
  unfolding gathered ever
  fresh-reached x p =
      record {
        rows = 0;
        column = 0;
        closed = 0;
        level = 0;
        rest = 0;
        writer-is = fresh-st φ W top L;
        at = record { moved = []; held = []; taken_is = refl; at = quiet φ l W top 0 (fresh-at φ L W top x p) };
      }

  pub then-reached : (x : Memory) → 0 < W.length → (cs : List Call) → (let w = world (fresh φ W top L) x in Reached (events cs w) (final cs w))
  then-reached x p cs = list-reached event next Reached step-reached cs [] (world (fresh φ W top L) x) (fresh-reached x p)
