-- A run from its beginning to its end: turn after turn, and then its answer. And the output area in parts. Assumes nothing.
use mathlib.Core.Path.{◌≡◌, refl, sym, ap, ap₂, subst, ◌∙◌, fun_ext}
use mathlib.Core.Bool.{Bool, true, false, not}
use mathlib.Core.List.{List, ◌++◌, append-nil}
use Prim.Native.Nat.{ℕ, zero, suc, ◌+◌, ◌-◌, ◌*◌, ◌≤◌, ◌<◌}
use native.Mathlib.Decide.{dec_lt}
use native.Mathlib.Omega.{arith}
use lib.IntN.{ℤ, pos}
use lib.Dec.{leb, ltb}
use lib.ListN.{length, take, drop, length-drop, get_or-append}
use lib.Seq.{get_or-take, get_or-drop, get_or-append-add, length-take-le, take_all, drop-length}
use borrow.Rule.Slice.PartMut.{mid_of, put_mid, Post-is}
use Rattle.numbers.specs.Signal.{at, pick, windowed}
use Rattle.numbers.proofs.Parts.{length-mid, at_mid}
use Rattle.filters.specs.Figures.{store_by}
use Rattle.lifting.specs.Halves.{fronted}
use Rattle.reader.specs.Questions.{run_fits}
use Rattle.reader.specs.Questions as levels
use Rattle.reader.specs.Last as last
use Rattle.reader.specs.Inside.{Counts, store_question}
use Rattle.reader.specs.Questions.{store_fits}
use Rattle.reader.specs.Runs.{needed}
use Rattle.wavelet.specs.Questions.{ask}
use Rattle.reader.proofs.QuestionLaws.{counts-in}
use Rattle.reader.proofs.LastLaws.{last-in}
use borrow.Author.Tests.{leb-true}
use Rattle.reader.proofs.RunLaws.{by-levels, by_last}
use Rattle.reader.specs.State.{columns, needs}
use Rattle.numbers.proofs.Sweep as sweep
use Rattle.areas.specs.Areas.{heights_at}
use Rattle.level.specs.Level.{rest, join_at}
use Rattle.level.proofs.RestLaws.{join-below, join-past}
use Rattle.calls.specs.Lists.{gives, refused}
use Rattle.reader.specs.declared.Reader.{Reader}
use Rattle.reader.specs.declared.runs.Turn.{Turn}
use Rattle.std.specs.Prelude.{Option, Some, None, Result, Ok, is_some, is_none, unwrap_or}
use Rattle.refusal.specs.declared.Refusal.{Refusal}
use Rattle.refusal.specs.Numbers.{answer}
use Rattle.reader.specs.RunSteps.{told}
use Rattle.reader.specs.Reading as reading
use Rattle.reader.specs.Runs.{Run, goes, drawable, asked, due, after_call, ran, turned_by, most, begin, run_of, run_question, run_turned, run_reply}
use Rattle.reader.specs.RunSteps.{reader_at, Own, Formed, run_at, life, left_of, Steps, stay, step, Went, refusal, Turned, Over}
use Rattle.reader.proofs.RunPlaces.{false-not-true}

-- ---- an output area from place a on, lent and come back
module _ (a : ℕ) (l : List ℕ) where
  pub heights-rest : heights_at (mid_of a (length l - a) l) ≡ rest a (heights_at l)
  unfolding rest
  heights-rest =
      let e : mid_of a (length l - a) l ≡ drop a l = take_all (length l - a) (drop a l) (simp length-drop (omega arith)) in
      fun_ext λ j. ap (λ (m : List ℕ). heights_at m j) e ∙ ap pos (get_or-drop a l j 0)

  pub heights-join : (y : List ℕ) → a ≤ length l → heights_at (put_mid a (length l - a) l y) ≡ join_at a (heights_at l) (heights_at y)
  heights-join y h =
      let e : put_mid a (length l - a) l y ≡ take a l ++ y =
      ap (λ (z : List ℕ). take a l ++ (y ++ z)) (Post-is a (length l) l h ∙ drop-length l) ∙ ap (λ (z : List ℕ). take a l ++ z) (append-nil y) in
      let front : length (take a l) ≡ a = length-take-le a l h in
      fun_ext λ j.
      ap (λ (m : List ℕ). heights_at m j) e
      ∙ elim (dec_lt j a) [
        | yes p ↦
            ap pos (get_or-append (take a l) y 0 j (omega arith) ∙ get_or-take a l j 0 p) ∙ sym (join-below a (heights_at l) (heights_at y) j p)
        | no d ↦
            let k : j ≡ length (take a l) + (j - a) = omega arith in
            ap (heights_at (take a l ++ y)) k ∙ ap pos (get_or-append-add (take a l) y (j - a) 0)
            ∙ sym (join-past a (heights_at l) (heights_at y) j (omega arith))
      ]

-- ---- calls one after another
module _ (n m : ℕ) (v : ℕ → ℤ) (k : ℕ) where
  one-more : (j : ℕ) (p r o : Run) → Steps n m v k j p r → due n m v k r ≡ true → after_call n m v k r ≡ o → (c : ℕ) × (c ≡ suc j) × Steps n m v k c p o
  one-more j p r o stay d e = (1, refl, step d (subst (λ q. Steps n m v k 0 (after_call n m v k p) q) e stay))
  one-more (suc j) p r o (step b s) d e = let u = one-more j _ r o s d e in (suc u.0, ap suc u.1, step b u.2)

  -- the run from p on is the run from r on
  ran-on : (j f g : ℕ) (p r : Run) → Steps n m v k j p r → g ≡ j + f → ran n m v k g p ≡ ran n m v k f r
  unfolding ran
  ran-on j f g p r stay e = let h : g ≡ f = omega arith in ap (λ i. ran n m v k i p) h
  ran-on (suc j) f zero p r (step d s) e = absurd (omega arith)
  ran-on (suc j) f (suc g) p r (step d s) e = simp d (ran-on j f g _ r s (omega arith))

  ran_ends : (f : ℕ) (p : Run) → due n m v k p ≡ false → ran n m v k f p ≡ p
  unfolding ran
  ran_ends zero p d = refl
  ran_ends (suc f) p d = simp d

  -- a run on its way from p: it is at r; e: it goes on; q: the question that turns the next call away
  pub record OnWay (p r : Run) (e : Bool) (q : ℕ) : Type 0 where
    pub went : Went n m v k p r
    pub used : r.used ≤ m
    pub put : r.rows * r.world.reader.width ≤ k
    pub none : r.used + r.rows ≡ 0 → r.world.reader.ended ≡ false → r ≡ p
    pub ends : e ≡ false → due n m v k r ≡ false
    pub says : e ≡ false → r.used + r.rows ≡ 0 → r.world.reader.ended ≡ false → reading.counts_fit p.world.reader ≡ true → q ≡ refusal n m v k p

  pub way-start : (p : Run) (q : ℕ) → p.used ≡ 0 → p.rows ≡ 0 → OnWay p p true q
  way-start p q eu er = record {
    went = record { count = 0; steps = stay; few = omega arith };
    used = omega arith;
    put = rw er (omega arith);
    none = λ _ _. refl;
    ends = λ e. false-not-true e refl;
    says = λ e. false-not-true e refl;
  }

  pub way_on : (p r o : Run) (b e : Bool) (i q : ℕ) → OnWay p r b i → Turned n m v k r o e q → OnWay p o e q
  way_on p r o b e i q w t = go e refl
    where
      go : (c : Bool) → e ≡ c → OnWay p o e q
      go true f =
          let u = t.more f in
          let s = one-more w.went.count p r o w.went.steps u.0 u.1 in
          record {
            went = record { count = s.0; steps = s.2; few = omega (arith, s.1, w.went.few, u.2) };
            used = t.used;
            put = t.put;
            none = λ g h. absurd (omega (arith, t.shows f h));
            ends = λ g. false-not-true g f;
            says = λ g. false-not-true g f;
          }
      go false f =
          let u = t.ends f in
          let same : o.used + o.rows ≡ 0 → o.world.reader.ended ≡ false → r ≡ p =
          λ x y. w.none (subst (λ (z : Run). z.used + z.rows ≡ 0) u.1 x) (subst (λ (z : Run). z.world.reader.ended ≡ false) u.1 y) in
          record {
            went = subst (λ (z : Run). Went n m v k p z) (sym u.1) w.went;
            used = t.used;
            put = t.put;
            none = λ g h. u.1 ∙ same g h;
            ends = λ _. subst (λ (z : Run). due n m v k z ≡ false) (sym u.1) u.0;
            says = λ _ g h fit. subst (λ (z : Run). reading.counts_fit z.world.reader ≡ true → z.world.reader.ended ≡ false → q ≡ refusal n m v k
                z) (same g h)
                (t.says f) fit (subst (λ (z : Run). z.world.reader.ended ≡ false) (same g h)
                (subst (λ (z : Run). z.world.reader.ended ≡ false) u.1 h));
          }

  -- a call was made, so none was turned away
  due-passes : (p : Run) → due n m v k p ≡ true → refusal n m v k p ≡ 0
  unfolding due turned_by
  due-passes p d = rw (sweep.both (goes (asked n m v k p)) _ d).0 (none-picked (pick (drawable p.world.reader) true (ltb 0 m)))
    where
      none-picked : (t : Bool) → ◌≡◌ {A = ℕ} (pick t 0 0) 0
      none-picked true = refl
      none-picked false = refl

  made_some : (j : ℕ) (p r : Run) → Steps n m v k j p r → (r ≡ p → ⊥) → refusal n m v k p ≡ 0
  made_some j p r stay h = absurd (h refl)
  made_some (suc j) p r (step d s) h = due-passes p d

  pub way-over : (p r : Run) (q : ℕ) → p.used ≡ 0 → p.rows ≡ 0 → p.world.reader.ended ≡ false → OnWay p r false q → Over n m v k p r q
  way-over p r q eu er live w = record {
    is = sym (ran-on w.went.count (most p.world.reader m - w.went.count) (most p.world.reader m) p r w.went.steps
        (omega (arith, w.went.few, ap life live)) ∙ ran_ends (most p.world.reader m - w.went.count) r (w.ends refl));
    none = λ g h. (w.none g h, λ fit. w.says refl g h fit);
    some = λ h. made_some w.went.count p r w.went.steps
        (λ e. false-not-true live (subst (λ (z : Run). z.world.reader.ended ≡ true) e (h (ap (λ (z : Run). z.used + z.rows) e ∙ omega arith))));
  }

-- ---- how much is left to do
abbrev pub going : Bool → ℕ
going true = 1
going false = 0

pub way-less : (n m : ℕ) (v : ℕ → ℤ) (k : ℕ) (r o : Run) (b e : Bool) (q : ℕ) → b ≡ true → Turned n m v k r o e q →
    left_of m o + going e < left_of m r + going b
way-less n m v k r o b e q h t = rw h (go e refl)
  where
    go : (c : Bool) → e ≡ c → left_of m o + going e < left_of m r + 1
    go true f = rw f (omega (arith, (t.more f).2))
    go false f = rw f (omega (arith, ap (left_of m) (t.ends f).1))

-- ---- the answer
pub turned-first : (s : Reader) (n m : ℕ) (v : ℕ → ℤ) (k : ℕ) (x z : ℕ → ℤ) (q : ℕ) → q ≡ run_question s n → (q ≡ 0 → ⊥) →
    refused q ≡ run_reply s n m v k x z
unfolding run_reply run_turned
turned-first s n m v k x z zero e h = absurd (h refl)
turned-first s n m v k x z (suc q) e h = rw (← e) refl

module _ (s : Reader) (n m : ℕ) (v : ℕ → ℤ) (k : ℕ) (x z : ℕ → ℤ) (one : run_question s n ≡ 0) where
  pub turned-next : (q : ℕ) → q ≡ refusal n m v k (begin s x z) → (q ≡ 0 → ⊥) → refused q ≡ run_reply s n m v k x z
  unfolding run_reply run_turned
  turned-next zero e h = absurd (h refl)
  turned-next (suc q) e h = rw (one, ← e) refl

  pub goes_through : (r : Run) → r ≡ ran n m v k (most s m) (begin s x z) → refusal n m v k (begin s x z) ≡ 0 → gives r ≡ run_reply s n m v k x z
  unfolding run_reply run_turned run_of
  goes_through r e f = rw (one, f) (ap gives e)

-- ---- a row of the numbers, lent to question 7: j numbers from place a on, as many as L
pub part-fits : (f b i l : ℕ) (v : List ℤ) (a j L : ℕ) → i ≡ l → j ≡ L → a + j ≤ length v → (t : Bool) →
    t ≡ run_fits f (b + i) (length (mid_of a (a + j - a) v)) (at (mid_of a (a + j - a) v)) → t ≡ run_fits f (b + l) L (windowed a L (at v))
part-fits f b i l v a j L ei ej h t e =
    let k : a + j - a ≡ L = omega arith in
    e ∙ ap₂ (λ u w. run_fits f (b + i) u w) (length-mid a (a + j - a) v (omega arith) ∙ k) (at_mid a (a + j - a) v ∙ ap (λ (u : ℕ). windowed a u (at v)) k)
    ∙ ap (λ (u : ℕ). run_fits f (b + u) L (windowed a L (at v))) ei

pub part-fits-at : (f l : ℕ) (v : List ℤ) (a j : ℕ) → a + j ≤ length v → (t : Bool) →
    t ≡ run_fits f l (length (mid_of a (a + j - a) v)) (at (mid_of a (a + j - a) v)) → t ≡ run_fits f l j (windowed a j (at v))
part-fits-at f l v a j h t e =
    let k : a + j - a ≡ j = omega arith in
    e ∙ ap₂ (λ u w. run_fits f l u w) (length-mid a (a + j - a) v (omega arith) ∙ k) (at_mid a (a + j - a) v ∙ ap (λ (u : ℕ). windowed a u (at v)) k)

-- and put at the front of the store
pub part-front : (v : List ℤ) (a j : ℕ) (x : ℕ → ℤ) → a + j ≤ length v →
    fronted (length (mid_of a (a + j - a) v)) (at (mid_of a (a + j - a) v)) x ≡ fronted j (windowed a j (at v)) x
part-front v a j x h =
    let k : a + j - a ≡ j = omega arith in
    ap₂ (λ u w. fronted u w x) (length-mid a (a + j - a) v (omega arith) ∙ k) (at_mid a (a + j - a) v ∙ ap (λ (u : ℕ). windowed a u (at v)) k)

-- its own part of the store, and the whole
pub own_room : (s : Reader) (n : ℕ) → needs s ≤ n → store_by s.filter (columns s) s.levels ≤ n
own_room s n h = omega arith

-- ---- questions 1, 5 and 9
pub asks-last : (s : Reader) (n : ℕ) → s.levels ≡ 0 → last.store_question s n ≡ run_question s n
unfolding last.store_question run_question
asks-last s n e = rw (by_last s.levels (last.counts_fit s) (levels.counts_fit s) e, by_last s.levels s.spare (needs s) e) refl

pub asks-1 : (s : Reader) (n : ℕ) → (s.levels ≡ 0 → ⊥) → levels.counts_fit s ≡ false → 1 ≡ run_question s n
unfolding run_question
asks-1 s n h e = rw (by-levels s.levels (last.counts_fit s) (levels.counts_fit s) (omega (arith, h)), e) refl

pub asks-store : (s : Reader) (n : ℕ) → (s.levels ≡ 0 → ⊥) → levels.counts_fit s ≡ true → store_question s n ≡ run_question s n
unfolding store_question run_question
asks-store s n h e =
    rw (by-levels s.levels (last.counts_fit s) (levels.counts_fit s) (omega (arith, h)), e, by-levels s.levels s.spare (needs s) (omega (arith, h))) refl

-- an area from place a on, lent
pub rest-length : (a : ℕ) (l : List ℕ) → a ≤ length l → length (mid_of a (length l - a) l) ≡ length l - a
rest-length a l h =
    let e : mid_of a (length l - a) l ≡ drop a l = take_all (length l - a) (drop a l) (simp length-drop (omega arith)) in
    ap length e ∙ simp length-drop refl

-- whether a run goes on, as the loop tests it; and what a run that is over tells
pub none-is : {A : Type 0} (o : Option A) (b : Bool) → is_some o ≡ not b → is_none o ≡ b
none-is None true e = refl
none-is None false e = sym e
none-is (Some x) true e = sym e
none-is (Some x) false e = refl

pub told-is : {A : Type 0} (o : Option (Result A Refusal)) (x : A) → answer (unwrap_or o (Ok x)) ≡ told o
told-is None x = refl
told-is (Some r) x = refl

-- ---- the loop: s is the reader at the beginning, t where the run is
pub record Going (s : Reader) (store₀ run : List ℤ) (out₀ : List ℕ) (store : List ℤ) (out : List ℕ) (t : Turn) : Type 0 where
  pub way : OnWay (length store₀) (length run) (at run) (length out₀) (begin s (at store₀) (heights_at out₀))
      (run_at t.done (reader_at s t.place) (at store) (heights_at out)) (is_none t.over) (told t.over)
  pub own : Own (reader_at s t.place) t.place.at
  pub size : length store ≡ length store₀
  pub out-size : length out ≡ length out₀
  pub deep : 0 < s.levels → (levels.counts_fit s ≡ true) × (needs s ≤ length store₀)
  pub flat : s.levels ≡ 0 → s.spare ≤ length store₀
  pub live : s.ended ≡ false

module _ (s : Reader) (store₀ run : List ℤ) (out₀ : List ℕ) where
  pub going_start : (t : Turn) → (is_none t.over) ≡ true → t.done.used ≡ 0 → t.done.rows ≡ 0 → reader_at s t.place ≡ s → Own s t.place.at →
      (0 < s.levels → (levels.counts_fit s ≡ true) × (needs s ≤ length store₀)) → (s.levels ≡ 0 → s.spare ≤ length store₀) → s.ended ≡ false →
      Going s store₀ run out₀ store₀ out₀ t
  going_start t on eu er es own deep flat live = record {
    way = subst (λ (e : Bool). OnWay (length store₀) (length run) (at run) (length out₀) (begin s (at store₀) (heights_at out₀))
        (run_at t.done (reader_at s t.place) (at store₀) (heights_at out₀)) e (told t.over)) (sym on)
        (subst (λ (r : Run). OnWay (length store₀) (length run) (at run) (length out₀) (begin s (at store₀) (heights_at out₀)) r true (told t.over)) (sym same)
        (way-start (length store₀) (length run) (at run) (length out₀) (begin s (at store₀) (heights_at out₀)) (told t.over) refl refl));
    own = subst (λ (r : Reader). Own r t.place.at) (sym es) own;
    size = refl;
    out-size = refl;
    deep = deep;
    flat = flat;
    live = live;
  }
    where
      same : run_at t.done (reader_at s t.place) (at store₀) (heights_at out₀) ≡ begin s (at store₀) (heights_at out₀)
      same = rw (eu, er, es) refl

  module _ (store : List ℤ) (out : List ℕ) (t : Turn) (g : Going s store₀ run out₀ store out t) (r : Reader) (e : r ≡ reader_at s t.place) where
    pub going-ready : (0 < r.levels → Formed r × (needs r ≤ length store)) × (r.levels ≡ 0 → r.spare ≤ length store) × (reader_at r t.place ≡ r) ×
        Own r t.place.at × (t.done.used ≤ length run) × (t.done.rows * r.width ≤ length out)
    going-ready =
        let w = g.way in
        let a = g.size in
        let b = g.out-size in
        subst (λ (o : Reader). (0 < o.levels → Formed o × (needs o ≤ length store)) × (o.levels ≡ 0 → o.spare ≤ length store) × (reader_at o t.place ≡ o)
        × Own o t.place.at × (t.done.used ≤ length run) × (t.done.rows * o.width ≤ length out)) (sym e) (
          λ h. (record { of = s; place = t.place; fits = (g.deep h).0; is = refl }, rw a (g.deep h).1),
          λ h. rw a (g.flat h),
          refl,
          g.own,
          w.used,
          rw b w.put,
        )

    module _ (store' : List ℤ) (out' : List ℕ) (u : Turn)
        (turned : Turned (length store) (length run) (at run) (length out) (run_at t.done r (at store) (heights_at out))
        (run_at u.done (reader_at r u.place) (at store') (heights_at out')) (is_none u.over) (told u.over)) where
      turned_on : Turned (length store₀) (length run) (at run) (length out₀) (run_at t.done (reader_at s t.place) (at store) (heights_at out))
          (run_at u.done (reader_at s u.place) (at store') (heights_at out')) (is_none u.over) (told u.over)
      turned_on =
          subst (λ (o : Reader). Turned (length store₀) (length run) (at run) (length out₀) (run_at t.done o (at store) (heights_at out))
          (run_at u.done (reader_at o u.place) (at store') (heights_at out')) (is_none u.over) (told u.over)) e
          (subst (λ (i : ℕ). Turned i (length run) (at run) (length out₀) (run_at t.done r (at store) (heights_at out))
          (run_at u.done (reader_at r u.place) (at store') (heights_at out')) (is_none u.over) (told u.over)) g.size
          (subst (λ (i : ℕ). Turned (length store) (length run) (at run) i (run_at t.done r (at store) (heights_at out))
          (run_at u.done (reader_at r u.place) (at store') (heights_at out')) (is_none u.over) (told u.over)) g.out-size turned))

      pub going_less : (is_none t.over) ≡ true →
          left_of (length run) (run_at u.done (reader_at s u.place) (at store') (heights_at out')) + going (is_none u.over) <
          left_of (length run) (run_at t.done (reader_at s t.place) (at store) (heights_at out)) + going (is_none t.over)
      going_less on =
          way-less (length store₀) (length run) (at run) (length out₀) (run_at t.done (reader_at s t.place) (at store) (heights_at out))
          (run_at u.done (reader_at s u.place) (at store') (heights_at out')) (is_none t.over) (is_none u.over) (told u.over) on turned_on

      pub going_on : Own (reader_at r u.place) u.place.at → length store' ≡ length store → length out' ≡ length out →
          Going s store₀ run out₀ store' out' u
      going_on own a b = record {
        way = way_on (length store₀) (length run) (at run) (length out₀) (begin s (at store₀) (heights_at out₀))
            (run_at t.done (reader_at s t.place) (at store) (heights_at out)) (run_at u.done (reader_at s u.place) (at store') (heights_at out'))
            (is_none t.over) (is_none u.over) (told t.over) (told u.over) g.way turned_on;
        own = subst (λ (o : Reader). Own (reader_at o u.place) u.place.at) e own;
        size = a ∙ g.size;
        out-size = b ∙ g.out-size;
        deep = g.deep;
        flat = g.flat;
        live = g.live;
      }

  pub going-over : (store : List ℤ) (out : List ℕ) (t : Turn) → Going s store₀ run out₀ store out t → (is_none t.over) ≡ false →
      Over (length store₀) (length run) (at run) (length out₀) (begin s (at store₀) (heights_at out₀))
      (run_at t.done (reader_at s t.place) (at store) (heights_at out)) (told t.over)
  going-over store out t g off =
      way-over (length store₀) (length run) (at run) (length out₀) (begin s (at store₀) (heights_at out₀))
      (run_at t.done (reader_at s t.place) (at store) (heights_at out)) (told t.over) refl refl g.live
      (subst (λ (b : Bool). OnWay (length store₀) (length run) (at run) (length out₀) (begin s (at store₀) (heights_at out₀))
      (run_at t.done (reader_at s t.place) (at store) (heights_at out)) b (told t.over)) off g.way)

-- ---- what a run's questions say of its reader
three : (a b c : Bool) → ask a 1 (ask b 5 (ask (not c) 9 0)) ≡ 0 → (a ≡ true) × (b ≡ true) × (c ≡ false)
three true true false e = (refl, refl, refl)
three true true true e = absurd (omega (arith, e))
three true false c e = absurd (omega (arith, e))
three false b c e = absurd (omega (arith, e))

module _ (s : Reader) (n : ℕ) (one : run_question s n ≡ 0) where
  said : (reading.counts_fit s ≡ true) × (leb (needed s) n ≡ true) × (s.ended ≡ false)
  unfolding run_question store_fits
  said = three (reading.counts_fit s) (leb (needed s) n) s.ended one

  pub question-fit : reading.counts_fit s ≡ true
  question-fit = said.0

  pub question-live : s.ended ≡ false
  question-live = said.2

  pub question-deep : 0 < s.levels → (levels.counts_fit s ≡ true) × (needs s ≤ n)
  question-deep h = (
    sym (by-levels s.levels (last.counts_fit s) (levels.counts_fit s) h) ∙ said.0,
    omega (arith, leb-true (needed s) n said.1, by-levels s.levels s.spare (needs s) h),
  )

  pub question-flat : s.levels ≡ 0 → s.spare ≤ n
  question-flat h = omega (arith, leb-true (needed s) n said.1, by_last s.levels s.spare (needs s) h)

  pub question-counts : 0 < s.level → Counts s
  question-counts h =
      elim (dec_lt 0 s.levels) [
        | yes d ↦ counts-in s (question-deep d).0
        | no d ↦
            let z : s.levels ≡ 0 = omega arith in
            absurd (omega (arith, (last-in s (sym (by_last s.levels (last.counts_fit s) (levels.counts_fit s) z) ∙ said.0)).6))
      ]

-- a run that told no question was not turned away
pub over_zero : (n m : ℕ) (v : ℕ → ℤ) (k : ℕ) (p r : Run) (q i : ℕ) → Over n m v k p r q → reading.counts_fit p.world.reader ≡ true → i ≡ 0 →
    (r.used ≡ 0 → r.rows ≡ 0 → r.world.reader.ended ≡ false → i ≡ q) → refusal n m v k p ≡ 0
over_zero n m v k p r q i o fit z h = go r.world.reader.ended refl
  where
    go : (t : Bool) → r.world.reader.ended ≡ t → refusal n m v k p ≡ 0
    go true e = o.some (λ _. e)
    go false e =
        elim (dec_lt 0 (r.used + r.rows)) [
          | yes d ↦ o.some (λ f. absurd (omega arith))
          | no d ↦ sym (sym z ∙ h (omega arith) (omega arith) e ∙ (o.none (omega arith) e).1 fit)
        ]
