-- Every list of calls on a fresh reader with no level to work out hands on the rows fed: `hands_on`. Assumes nothing.
use mathlib.Core.Bool.{Bool, true, false, not, true≢false, false≢true}
use mathlib.Core.Path.{◌≡◌, refl, sym, ap, subst, ◌∙◌}
use mathlib.Core.List.{List, [], ◌∷◌, ◌++◌, append-nil}
use Prim.Native.Nat.{ℕ, zero, suc, ◌+◌, ◌*◌, ◌≤◌, ◌<◌}
use native.Mathlib.Decide.{ℕ_discrete, dec_lt, dec_le}
use native.Mathlib.Omega.{arith}
use lib.IntN.{ℤ, pos}
use lib.ListN.{length, length-append, get_or, get_or-append}
use lib.Seq.{get_or-append-add}
use lib.Dec.{leb, ltb, eqb}
use borrow.Author.Tests.{le-leb, lt-leb, lt-ltb, le-ltb, eq-eqb, ne_eqb, ltb-true}
use Rattle.numbers.specs.Signal.{pick, both}
use Rattle.lifting.specs.Halves.{fronted}
use Rattle.wavelet.specs.Limits.{max_width, max_height, max_origin}
use Rattle.wavelet.specs.Bands.{code}
use Rattle.wavelet.specs.Questions.{ask, within}
use Rattle.filters.specs.Filters.{filter_of, is_filter}
use Rattle.areas.proofs.AreaLaws.{front_at, front_rest}
use Rattle.calls.specs.Lists.{Reply, gives, refused, unless, Area}
use Rattle.calls.specs.Lists as lists
use Rattle.calls.proofs.ListLaws.{either-swap, gathered_snoc, ever-snoc, list-reached}
use Rattle.reader.specs.declared.Reader.{Reader}
use Rattle.reader.specs.Limited.{limited}
use Rattle.reader.specs.Questions.{store_fits, run_fits}
use Rattle.reader.specs.Last as last
use Rattle.reader.specs.Last.{max_spare}
use Rattle.reader.specs.Demand3.{Call, want, feed, draw, Given, heights, nothing, Event, wanted, fed, drew, World, event, events, final, ends, ended_by}
use Rattle.reader.specs.Demand3.{drawn_by, drawn_rows}
use Rattle.reader.specs.Demand3 as demand
use Rattle.distant.specs.LastLists.{fed_run, fed_runs, last_says, last_feed, last_draw, HandsRow, HandsOn}

abbrev none : ℕ → ℤ
none = λ _. pos 0

-- ---- a row more
more-old : (xs : List (ℕ → ℤ)) (x : ℕ → ℤ) (r c : ℕ) → r < length xs → get_or (xs ++ (x ∷ [])) r none c ≡ get_or xs r none c
more-old xs x r c b = ap (λ u. u c) (get_or-append xs (x ∷ []) none r b)

more-new : (xs : List (ℕ → ℤ)) (x : ℕ → ℤ) (r c : ℕ) → r ≡ length xs → get_or (xs ++ (x ∷ [])) r none c ≡ x c
more-new xs x r c e =
    let z : r ≡ length xs + 0 = omega (arith, e) in
    ap (λ i. get_or (xs ++ (x ∷ [])) i none c) z ∙ ap (λ u. u c) (get_or-append-add xs (x ∷ []) 0 none)

-- the numbers of such a reader
pub record Last (f j w h m x y : ℕ) : Type 0 where
  pub known : is_filter f ≡ true
  pub stop : within 1 (filter_of f).levels j ≡ true
  pub wide : w ≤ max_width
  pub high : h ≤ max_height
  pub across : x ≤ max_origin
  pub down : y ≤ max_origin
  pub room : w ≤ m
  pub most : m ≤ max_spare

module _ (f j w h m x y : ℕ) (lim : Last f j w h m x y) where
  -- d rows are drawn, and t: the row fed waits
  abbrev pub state : ℕ → Bool → Reader
  state d t = record {
    width = w;
    height = h;
    levels = 0;
    x = x;
    y = y;
    drawn = d;
    level = 0;
    back = 0;
    band = pick t 4 0;
    ended = false;
    filter = f;
    stop = j;
    spare = m;
    admission = 0;
  }

  abbrev pub world : ℕ → Bool → (ℕ → ℤ) → World
  world d t s = record { reader = state d t; store = s }

  abbrev fed_count : Bool → ℕ → ℕ
  fed_count t d = pick t (suc d) d

  pub record Kept (d : ℕ) (t : Bool) (s : ℕ → ℤ) (rs ds : List (ℕ → ℤ)) : Type 0 where
    pub drawn : length ds ≡ d
    pub fed : length rs ≡ fed_count t d
    pub le : fed_count t d ≤ h
    pub front : t ≡ true → (c : ℕ) → c < w → s c ≡ get_or rs d none c
    pub rows : (r c : ℕ) → r < d → c < w → get_or ds r none c ≡ limited (get_or rs r none c)

  pub data At : World → Bool → List (ℕ → ℤ) → List (ℕ → ℤ) → Type 0 where
    at : (d : ℕ) (t : Bool) (s : ℕ → ℤ) (rs ds : List (ℕ → ℤ)) → Kept d t s rs ds → At (world d t s) false rs ds

  drawn_le : (d : ℕ) (t : Bool) → fed_count t d ≤ h → d ≤ h
  drawn_le d true p = omega arith
  drawn_le d false p = p

  pub counts : (d : ℕ) (t : Bool) → d ≤ h → last.counts_fit (state d t) ≡ true
  unfolding last.counts_fit
  counts d true p = rw (
    lim.known,
    lim.stop,
    le-leb w max_width lim.wide,
    le-leb h max_height lim.high,
    le-leb x max_origin lim.across,
    le-leb y max_origin lim.down,
    le-leb d h p,
    le-leb w m lim.room,
    le-leb m max_spare lim.most,
  ) refl
  counts d false p = rw (
    lim.known,
    lim.stop,
    le-leb w max_width lim.wide,
    le-leb h max_height lim.high,
    le-leb x max_origin lim.across,
    le-leb y max_origin lim.down,
    le-leb d h p,
    le-leb w m lim.room,
    le-leb m max_spare lim.most,
  ) refl

  module _ (d : ℕ) (t : Bool) (s : ℕ → ℤ) (rs ds : List (ℕ → ℤ)) (kept : Kept d t s rs ds) where
    ok : last.counts_fit (state d t) ≡ true
    ok = counts d t (drawn_le d t kept.le)

    stays : At (world d t s) false (rs ++ []) (ds ++ [])
    stays = rw (append-nil rs, append-nil ds) (at d t s rs ds kept)

  -- ---- feed
  -- its question, and what that says of the rows fed and drawn
  feed-asked : (d : ℕ) (t : Bool) (n : ℕ) (a : Area) → last.counts_fit (state d t) ≡ true →
      last.feed_question (state d t) n a.size a.numbers ≡ last_feed f j w h m (fed_count t d) d n a
  unfolding last.feed_question last.row_due last.unfinished last_feed
  feed-asked d true n a c = rw (c, lt-leb (suc d) d (omega arith)) (go (store_fits m n) (ltb d h))
    where
      go : (u v : Bool) → ask u 5 (ask (both v false) 8 (ask (eqb a.size w) 13 (ask (run_fits f j a.size a.numbers) 7 0)))
          ≡ ask u 5 (ask (both v false) 8 (ask (eqb a.size w) 13 (ask (run_fits f j a.size a.numbers) 7 0)))
      go u v = refl
  feed-asked d false n a c = rw (c, le-leb d d (omega arith)) refl

  -- a question that is 0 is told yes by each
  feed-zero : (d : ℕ) (t : Bool) (n : ℕ) (a : Area) → last_feed f j w h m (fed_count t d) d n a ≡ 0 → (t ≡ false) × (d < h)
  unfolding last_feed
  feed-zero d true n a e = absurd (go (store_fits m n) (ltb d h) (rw (lt-leb (suc d) d (omega arith)) at e))
    where
      go : (u v : Bool) → ask u 5 (ask (both v false) 8 (ask (eqb a.size w) 13 (ask (run_fits f j a.size a.numbers) 7 0))) ≡ 0 → ⊥
      go true true z = omega arith
      go true false z = omega arith
      go false v z = omega arith
  feed-zero d false n a e = (refl, go (store_fits m n) (ltb d h) refl e)
    where
      go : (u v : Bool) → ltb d h ≡ v → ask u 5 (ask (both v (leb d d)) 8 (ask (eqb a.size w) 13 (ask (run_fits f j a.size a.numbers) 7 0))) ≡ 0 → d < h
      go true true ev z = ltb-true d h ev
      go true false ev z = absurd (omega arith)
      go false v ev z = absurd (omega arith)

  abbrev Seen : Call → World → Bool → List (ℕ → ℤ) → List (ℕ → ℤ) → Type 0
  Seen c u e rs ds = At (demand.next c u) (pick (ends (event c u)) true e) (rs ++ fed_run (event c u)) (ds ++ drawn_by (event c u))

  module _ (d : ℕ) (t : Bool) (s : ℕ → ℤ) (rs ds : List (ℕ → ℤ)) (kept : Kept d t s rs ds) where
    -- ---- feed, by the number of its question
    module _ (a : Area) where
      abbrev fed_event : ℕ → Event
      fed_event q = fed a (demand.said (λ _. tt) (last.feed_reply (state d t) q))

      abbrev FedTo : ℕ → Type 0
      FedTo q = At (record {
        reader = demand.leaves (λ r. r) (state d t) (last.feed_reply (state d t) q);
        store = last.feed_store (state d t) q a.numbers s;
      }) (pick (ends (fed_event q)) true false) (rs ++ fed_run (fed_event q)) (ds ++ drawn_by (fed_event q))

      fed-away : (q : ℕ) → eqb q 0 ≡ false → eqb q 14 ≡ false → FedTo q
      unfolding last.feed_reply last.feed_store ends fed_run drawn_by
      fed-away q z y = rw (z, y) (stays d t s rs ds kept)

      fed-on : t ≡ false → d < h → FedTo 0
      unfolding last.feed_reply last.feed_store ends fed_run drawn_by
      fed-on off more = rw (append-nil ds) (at d true (fronted w a.numbers s) (rs ++ (a.numbers ∷ [])) ds (record {
        drawn = kept.drawn;
        fed = length-append rs (a.numbers ∷ []) ∙ omega (arith, count);
        le = more;
        front = λ _ c p. front_at w _ s c p ∙ sym (more-new rs a.numbers d c (sym count));
        rows = λ r c p q. kept.rows r c p q ∙ ap limited (sym (more-old rs a.numbers r c (omega (arith, p, count))));
      }))
        where
          count : length rs ≡ d
          count = kept.fed ∙ ap (λ b. pick b (suc d) d) off

    -- ---- draw
    module _ (a : Area) where
      abbrev drawn_event : ℕ → Event
      drawn_event q =
          drew a (demand.said demand.given (last.draw_reply (state d t) q))
          (record { size = a.size; numbers = last.draw_area (state d t) q s a.numbers })

      abbrev DrawnTo : ℕ → Type 0
      DrawnTo q = At (record {
        reader = demand.leaves (demand.drawn_to (state d t)) (state d t) (last.draw_reply (state d t) q);
        store = s;
      }) (pick (ends (drawn_event q)) true false) (rs ++ fed_run (drawn_event q)) (ds ++ drawn_by (drawn_event q))

      drawn-away : (q : ℕ) → eqb q 0 ≡ false → eqb q 14 ≡ false → DrawnTo q
      unfolding last.draw_reply last.draw_area ends fed_run drawn_by
      drawn-away q z y = rw (z, y) (stays d t s rs ds kept)

      drawn-idle : last.draw_due (state d t) ≡ false → DrawnTo 0
      unfolding last.draw_reply last.draw_area ends fed_run drawn_by
      drawn-idle z = rw z (stays d t s rs ds kept)

      drawn-on : t ≡ true → last.draw_due (state d t) ≡ true → DrawnTo 0
      unfolding last.draw_reply last.draw_area ends fed_run drawn_by
      drawn-on yes-t due = rw (due, append-nil rs) (at (suc d) false s rs (ds ++ (out ∷ [])) (record {
        drawn = length-append ds (out ∷ []) ∙ omega (arith, kept.drawn);
        fed = count;
        le = subst (λ b. pick b (suc d) d ≤ h) yes-t kept.le;
        front = λ z. absurd (false≢true z);
        rows = λ r c p q. elim (ℕ_discrete r d) [
          | yes e ↦ more-new ds out r c (e ∙ sym kept.drawn) ∙ front_at w _ a.numbers c q
              ∙ ap limited (kept.front yes-t c q ∙ ap (λ v. get_or rs v none c) (sym e))
          | no e ↦ more-old ds out r c (omega (arith, kept.drawn, e, p)) ∙ kept.rows r c (omega (arith, e, p)) q
        ];
      }))
        where
          out : ℕ → ℤ
          out = fronted w (λ c. limited (s c)) a.numbers

          count : length rs ≡ suc d
          count = kept.fed ∙ ap (λ b. pick b (suc d) d) yes-t

  -- ---- the questions of a draw
  draw-due : (d : ℕ) (t : Bool) → fed_count t d ≤ h → last.draw_due (state d t) ≡ t
  unfolding last.draw_due last.unfinished
  draw-due d true p = rw (lt-ltb d h (omega arith)) refl
  draw-due d false p = go (ltb d h)
    where
      go : (u : Bool) → both u false ≡ false
      go true = refl
      go false = refl

  draw-asked : (d : ℕ) (t : Bool) (n k : ℕ) → fed_count t d ≤ h → last.draw_question (state d t) n k ≡ ask (store_fits m n) 5 (pick t (ask (leb w k) 12 0) 0)
  unfolding last.draw_question
  draw-asked d t n k p = rw (counts d t (drawn_le d t p), draw-due d t p) refl

  none-14 : (d : ℕ) (t : Bool) (n : ℕ) (a : Area) (q : ℕ) → last_feed f j w h m (fed_count t d) d n a ≡ q → eqb q 14 ≡ false
  unfolding last_feed
  none-14 d t n a q z = subst (λ v. eqb v 14 ≡ false) z
      (never (store_fits m n) (both (ltb d h) (leb (fed_count t d) d)) (eqb a.size w) (run_fits f j a.size a.numbers))
    where
      never : (b₁ b₂ b₃ b₄ : Bool) → eqb (ask b₁ 5 (ask b₂ 8 (ask b₃ 13 (ask b₄ 7 0)))) 14 ≡ false
      never true true true true = refl
      never true true true false = refl
      never true true false b₄ = refl
      never true false b₃ b₄ = refl
      never false b₂ b₃ b₄ = refl

  -- ---- any call
  call_at : (c : Call) (u : World) (e : Bool) (rs ds : List (ℕ → ℤ)) → At u e rs ds → Seen c u e rs ds
  unfolding demand.next event
  call_at want _ _ rs ds (at d t s _ _ kept) = unfold ends fed_run drawn_by in stays d t s rs ds kept
  call_at (feed n a) _ _ rs ds (at d t s _ _ kept) =
      go (last.feed_question (state d t) n a.size a.numbers) refl
    where
      same : last.feed_question (state d t) n a.size a.numbers ≡ last_feed f j w h m (fed_count t d) d n a
      same = feed-asked d t n a (ok d t s rs ds kept)

      go : (q : ℕ) → last.feed_question (state d t) n a.size a.numbers ≡ q → FedTo d t s rs ds kept a q
      go zero z = let p = feed-zero d t n a (sym same ∙ z) in fed-on d t s rs ds kept a p.0 p.1
      go (suc q) z = fed-away d t s rs ds kept a (suc q) (suc-not q) (none-14 d t n a (suc q) (sym same ∙ z))
        where
          suc-not : (q : ℕ) → eqb (suc q) 0 ≡ false
          suc-not q = ne_eqb (suc q) 0 (λ z. omega arith)
  call_at (draw n a) _ _ rs ds (at d t s _ _ kept) =
      subst (DrawnTo d t s rs ds kept a) (sym (draw-asked d t n a.size kept.le)) (go (store_fits m n) t refl (leb w a.size))
    where
      go : (u v : Bool) → t ≡ v → (x : Bool) → DrawnTo d t s rs ds kept a (ask u 5 (pick v (ask x 12 0) 0))
      go false v e x = drawn-away d t s rs ds kept a 5 refl refl
      go true true e true = drawn-on d t s rs ds kept a e (draw-due d t kept.le ∙ e)
      go true true e false = drawn-away d t s rs ds kept a 12 refl refl
      go true false e x = drawn-idle d t s rs ds kept a (draw-due d t kept.le ∙ e)

  abbrev Then : List Event → World → Type 0
  Then es u = At u (ended_by es) (fed_runs es) (drawn_rows es)

  step-at : (c : Call) (es : List Event) (u : World) → Then es u → Then (es ++ (event c u ∷ [])) (demand.next c u)
  step-at c es u r =
      let e = event c u in
      rw (ever-snoc ends es e, either-swap (ended_by es) (ends e), gathered_snoc fed_run es e, gathered_snoc drawn_by es e)
      (call_at c u (ended_by es) (fed_runs es) (drawn_rows es) r)

  -- ---- what is seen of each call
  want_is : (d : ℕ) (t : Bool) (s : ℕ → ℤ) → fed_count t d ≤ h → event want (world d t s) ≡ wanted (gives (last_says f j w h m (fed_count t d) d))
  unfolding event last.want_reply last.want_question last.wants last.unfinished last_says
  want_is d true s p = rw (counts d true (omega arith), lt-ltb d h (omega arith), lt-ltb d (suc d) (omega arith)) refl
  want_is d false s p = rw (counts d false p, le-ltb d d (omega arith)) refl

  said-is : (d : ℕ) (t : Bool) (a : Area) (q : ℕ) → ◌≡◌ {A = Event} (fed a (demand.said (λ _. tt) (last.feed_reply (state d t) q))) (fed a (unless q tt))
  unfolding last.feed_reply
  said-is d t a zero = refl
  said-is d t a (suc q) = rw (ne_eqb (suc q) 0 (λ z. omega arith)) refl

  feed-is : (d : ℕ) (t : Bool) (s : ℕ → ℤ) → fed_count t d ≤ h → (n : ℕ) (a : Area) →
      event (feed n a) (world d t s) ≡ fed a (unless (last_feed f j w h m (fed_count t d) d n a) tt)
  unfolding event
  feed-is d t s p n a =
      ap (λ q. fed a (demand.said (λ _. tt) (last.feed_reply (state d t) q))) (feed-asked d t n a (counts d t (drawn_le d t p)))
      ∙ said-is d t a (last_feed f j w h m (fed_count t d) d n a)

  waits-is : (d : ℕ) (t : Bool) → ltb d (fed_count t d) ≡ t
  waits-is d true = lt-ltb d (suc d) (omega arith)
  waits-is d false = le-ltb d d (omega arith)

  draw-seen : (d : ℕ) (t : Bool) (s : ℕ → ℤ) (a : Area) → last.draw_due (state d t) ≡ t → (u v x : Bool) → t ≡ v →
      (let q = ask u 5 (pick v (ask x 12 0) 0) in
      HandsRow w a (pick u (pick v (pick x (gives (heights w)) (refused 12)) (gives nothing)) (refused 5))
      (drew a (demand.said demand.given (last.draw_reply (state d t) q)) (record { size = a.size; numbers = last.draw_area (state d t) q s a.numbers })))
  unfolding last.draw_reply last.draw_area
  draw-seen d t s a due false v x e = record { after = a; is = refl; size = refl; untouched = λ i p. refl }
  draw-seen d t s a due true true true e = rw (due, e) (record {
    after = record { size = a.size; numbers = fronted w (λ c. limited (s c)) a.numbers };
    is = refl;
    size = refl;
    untouched = λ i p. front_rest w _ a.numbers i p;
  })
  draw-seen d t s a due true true false e = record { after = a; is = refl; size = refl; untouched = λ i p. refl }
  draw-seen d t s a due true false x e = rw (due, e) (record { after = a; is = refl; size = refl; untouched = λ i p. refl })

  draw-is : (d : ℕ) (t : Bool) (s : ℕ → ℤ) → fed_count t d ≤ h → (n : ℕ) (a : Area) →
      HandsRow w a (last_draw f j w h m (fed_count t d) d n a.size) (event (draw n a) (world d t s))
  unfolding event last_draw
  draw-is d t s p n a = rw (draw-asked d t n a.size p, waits-is d t) (draw-seen d t s a (draw-due d t p) (store_fits m n) t (leb w a.size) refl)

  -- ---- the claim
  claim : (u : World) (es : List Event) → Then es u → HandsOn f j w h m es (λ c. event c u)
  claim u es r = go u (ended_by es) (fed_runs es) (drawn_rows es) refl refl refl r
    where
      go : (u : World) (e : Bool) (rs ds : List (ℕ → ℤ)) → ended_by es ≡ e → fed_runs es ≡ rs → drawn_rows es ≡ ds → At u e rs ds →
          HandsOn f j w h m es (λ c. event c u)
      go _ _ rs ds le er ed (at d t s _ _ kept) = record {
        wants = rw (fed-are, drawn-are) (want_is d t s kept.le);
        feeds = λ n a. rw (fed-are, drawn-are) (feed-is d t s kept.le n a);
        draws = λ n a. rw (fed-are, drawn-are) (draw-is d t s kept.le n a);
        lives = le;
        waits = rw (fed-are, drawn-are) (waits-are t kept.le);
        rows = λ r c p q. rw (er, ed) (kept.rows r c (omega (arith, p, drawn-are)) q);
      }
        where
          fed-are : length (fed_runs es) ≡ fed_count t d
          fed-are = ap length er ∙ kept.fed

          drawn-are : length (drawn_rows es) ≡ d
          drawn-are = ap length ed ∙ kept.drawn

          waits-are : (t : Bool) → fed_count t d ≤ h → (d ≤ fed_count t d) × (fed_count t d ≤ suc d) × (fed_count t d ≤ h)
          waits-are true p = (omega arith, omega arith, p)
          waits-are false p = (omega arith, omega arith, p)

  -- ---- any list of calls on the fresh reader
  pub hands_on : (s : ℕ → ℤ) (cs : List Call) →
      (let u = world 0 false s in HandsOn f j w h m (events cs u) (λ c. event c (final cs u)))
  unfolding lists.ever lists.gathered
  hands_on s cs = claim (final cs (world 0 false s)) (events cs (world 0 false s))
      (list-reached event demand.next Then step-at cs [] (world 0 false s) (at 0 false s [] [] (record {
        drawn = refl;
        fed = refl;
        le = omega arith;
        front = λ z. absurd (false≢true z);
        rows = λ r c p q. absurd (omega arith);
      })))
