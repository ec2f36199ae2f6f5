-- A run is the list of its calls: `run-is-list`, whatever the state; it ends where no call is due: `run_ends`; and demand 3 of lists of runs and single
-- calls: `demand-3-runs`. Assumes nothing.
use mathlib.Core.Path.{◌≡◌, refl, sym, ap, ap₂, subst, ◌∙◌, fun_ext}
use mathlib.Core.Bool.{Bool, true, false}
use mathlib.Core.List.{List, [], ◌∷◌, ◌++◌, append_assoc}
use Prim.Native.Nat.{ℕ, zero, suc, ◌+◌, ◌-◌, ◌*◌, ◌/◌, ◌≤◌, ◌<◌}
use native.Mathlib.Decide.{dec_lt}
use native.Mathlib.Omega.{arith}
use lib.Dec.{eqb, ltb}
use lib.ListN.{length, take, drop, length-take, length-drop, length-append, take-append-drop}
use lib.Seq.{take-take, drop-drop, take-append-add, drop-append-add, length-take-le}
use borrow.Author.Tests.{eqb-true, ltb-true, le-ltb, eq-eqb, ne_eqb}
use Rattle.numbers.specs.Signal.{pick, both}
use Rattle.numbers.proofs.Sweep as sweep
use Rattle.lifting.specs.Grid.{Side}
use Rattle.lifting.specs.Halves.{fronted}
use Rattle.areas.proofs.AreaLaws.{front_rest}
use Rattle.wavelet.specs.Limits.{max_origin}
use Rattle.calls.specs.Lists as lists
use Rattle.calls.specs.Lists.{Reply, gives, seen, Area}
use Rattle.level.specs.Level.{Memory, LevelKind, rest, join_at}
use Rattle.level.proofs.RestLaws.{rest_at, join-below, join-past}
use Rattle.writer.specs.declared.Writer.{Writer}
use Rattle.writer.specs.declared.BandRow.{BandRow}
use Rattle.writer.specs.Answers.{Took, Handed, a_row}
use Rattle.writer.specs.Taking.{kind, Taking, takes, begun, complete, none, height_put, row_makes, offering}
use Rattle.writer.specs.Questions.{waiting_row, in_ranges, offer_question, draw_question, set_up_question}
use Rattle.writer.specs.Calls.{offered_at, drawn_on, band_row, handed, handed_area, offer_reply, draw_reply, draw_area}
use Rattle.writer.specs.History.{Call, offer, draw, row, given, offered, drew, event, next, events, final, fresh_world}
use Rattle.writer.specs.History.{taken, DrawnRow, drawn}
use Rattle.writer.specs.Demand3.{Demand3}
use Rattle.writer.specs.Runs.{Run, named, noted, row_left, area_left, call_of, due, after_call, ran, calls, begin, run_of, run_calls}
use Rattle.writer.specs.RunLists.{laid, total, listed, IsList, Piece, all_calls}
use Rattle.writer.proofs.CallLaws.{offer-sound, offer-takes}
use Rattle.writer.proofs.DrawLaws.{join-rest}
use Rattle.writer.proofs.Demand3.{demand-3}

-- ---- two seams in an area
module _ (a b : ℕ) (x y : Memory) where
  join-join : (t : Memory) → join_at a x (join_at b y t) ≡ join_at (a + b) (join_at a x y) t
  join-join t =
      fun_ext λ j.
      elim (dec_lt j a) [
        | yes h ↦ join-below a x _ j h ∙ sym (join-below (a + b) _ t j (omega arith) ∙ join-below a x y j h)
        | no h ↦
            elim (dec_lt j (a + b)) [
              | yes g ↦
                  join-past a x _ j (omega arith) ∙ join-below b y t (j - a) (omega arith)
                  ∙ sym (join-below (a + b) _ t j g ∙ join-past a x y j (omega arith))
              | no g ↦
                  let e : j - a - b ≡ j - (a + b) = omega arith in
                  join-past a x _ j (omega arith) ∙ join-past b y t (j - a) (omega arith) ∙ ap t e ∙ sym (join-past (a + b) _ t j (omega arith))
            ]
      ]

  -- past both, where y has what x had
  rest-rest : ((j : ℕ) → y (b + j) ≡ rest a x (b + j)) → rest (a + b) (join_at a x y) ≡ rest b (rest a x)
  rest-rest h =
      fun_ext λ j.
      let e : a + b + j - a ≡ b + j = omega arith in
      rest_at (a + b) _ j ∙ join-past a x y (a + b + j) (omega arith) ∙ ap y e ∙ h j ∙ sym (rest_at b (rest a x) j)

join-none : (x t : Memory) → join_at 0 x t ≡ t
join-none x t = fun_ext λ j. let e : j - 0 ≡ j = omega arith in join-past 0 x t j (omega arith) ∙ ap t e

rest-none : (x : Memory) → rest 0 x ≡ x
rest-none x = fun_ext λ j. let e : 0 + j ≡ j = omega arith in rest_at 0 x j ∙ ap x e

-- ---- from p on: the calls cs come to r
module _ (hs : List ℕ) where
  record From (p : Run) (cs : List Call) (r : Run) : Type 0 where
    world : final cs p.world ≡ r.world
    heights : taken (events cs p.world) ++ drop r.taken hs ≡ drop p.taken hs
    told : p.taken + length (taken (events cs p.world)) ≡ r.taken
    rows : p.rows + length (drawn (events cs p.world)) ≡ r.rows
    numbers : p.numbers + total (drawn (events cs p.world)) ≡ r.numbers
    area : join_at p.numbers p.area (laid (drawn (events cs p.world)) (rest p.numbers p.area)) ≡ r.area
    names : take (4 * p.rows) p.names ++ listed (drawn (events cs p.world)) (drop (4 * p.rows) p.names) ≡ r.names

  from-none : (p : Run) → From p [] p
  unfolding lists.final lists.events lists.gathered laid total listed
  from-none p = record {
    world = refl;
    heights = refl;
    told = omega arith;
    rows = omega arith;
    numbers = omega arith;
    area = sym (join-rest p.numbers p.area);
    names = take-append-drop (4 * p.rows) p.names;
  }

  -- one call more: an offer that took j heights of `run`, those that come next
  module _ (p r : Run) (c : Call) (cs : List Call) (run : List ℕ) (j : ℕ) (e : event c p.world ≡ offered run (gives j))
      (few : j ≤ length run) (i : ℕ) (is : run ≡ take i (drop p.taken hs))
      (f : From (record {
        world = next c p.world;
        taken = p.taken + j;
        rows = p.rows;
        numbers = p.numbers;
        area = p.area;
        names = p.names;
      }) cs r) where
    takes_first : take j run ++ drop (p.taken + j) hs ≡ drop p.taken hs
    takes_first =
        let h : j ≤ i = omega (arith, few, ap length is, length-take i (drop p.taken hs)) in
        ap₂ (λ (u v : List ℕ). u ++ v) (ap (take j) is ∙ take-take j i (drop p.taken hs) h) (sym (drop-drop j p.taken hs))
        ∙ take-append-drop j (drop p.taken hs)

    from-offer : From p (c ∷ cs) r
    unfolding lists.final lists.events lists.gathered
    from-offer = record {
      world = f.world;
      heights = rw e (append_assoc (take j run) _ _ ∙ ap (λ (u : List ℕ). take j run ++ u) f.heights ∙ takes_first);
      told = rw e (omega (arith, f.told, length-append (take j run) (taken (events cs (next c p.world))), length-take-le j run few));
      rows = rw e f.rows;
      numbers = rw e f.numbers;
      area = rw e f.area;
      names = rw e f.names;
    }

  -- or a draw that handed out the row b into what was left of the area
  module _ (p r : Run) (c : Call) (cs : List Call) (a y : Area) (b : BandRow) (e : event c p.world ≡ drew a (gives (row b)) y)
      (past : (j : ℕ) → y.numbers (b.length + j) ≡ rest p.numbers p.area (b.length + j)) (room : 4 * p.rows + 4 ≤ length p.names)
      (f : From (record {
        world = next c p.world;
        taken = p.taken;
        rows = p.rows + 1;
        numbers = p.numbers + b.length;
        area = join_at p.numbers p.area y.numbers;
        names = named p.rows b p.names;
      }) cs r) where
    abbrev later : List DrawnRow
    later = drawn (events cs (next c p.world))

    abbrev words : List ℕ
    words = b.level ∷ b.band ∷ b.row ∷ b.length ∷ []

    abbrev before : List ℕ
    before = take (4 * p.rows) p.names

    before-length : length before ≡ 4 * p.rows
    before-length = length-take-le (4 * p.rows) p.names (omega arith)

    front-is : take (4 * (p.rows + 1)) (named p.rows b p.names) ≡ before ++ words
    unfolding named
    front-is =
        let h : 4 * (p.rows + 1) ≡ length before + 4 = omega (arith, before-length) in
        ap (λ (i : ℕ). take i (named p.rows b p.names)) h ∙ take-append-add before _ 4

    back_is : drop (4 * (p.rows + 1)) (named p.rows b p.names) ≡ drop 4 (drop (4 * p.rows) p.names)
    unfolding named
    back_is =
        let h : 4 * (p.rows + 1) ≡ length before + 4 = omega (arith, before-length) in
        ap (λ (i : ℕ). drop i (named p.rows b p.names)) h ∙ drop-append-add before _ 4 ∙ sym (drop-drop 4 (4 * p.rows) p.names)

    names-are : before ++ (b.level ∷ b.band ∷ b.row ∷ b.length ∷ listed later (drop 4 (drop (4 * p.rows) p.names))) ≡ r.names
    names-are =
        sym (append_assoc before words (listed later (drop 4 (drop (4 * p.rows) p.names))))
        ∙ ap₂ (λ (u v : List ℕ). u ++ listed later v) (sym front-is) (sym back_is) ∙ f.names

    area-is : join_at p.numbers p.area (join_at b.length y.numbers (laid later (rest b.length (rest p.numbers p.area)))) ≡ r.area
    area-is =
        join-join p.numbers b.length p.area y.numbers _
        ∙ ap (λ (u : Memory). join_at (p.numbers + b.length) (join_at p.numbers p.area y.numbers) (laid later u))
        (sym (rest-rest p.numbers b.length p.area y.numbers past))
        ∙ f.area

    from-draw : From p (c ∷ cs) r
    unfolding lists.final lists.events lists.gathered laid total listed
    from-draw = record {
      world = f.world;
      heights = rw e f.heights;
      told = rw e f.told;
      rows = rw e (omega (arith, f.rows));
      numbers = rw e (omega (arith, f.numbers));
      area = rw e area-is;
      names = rw e names-are;
    }

-- ---- what is seen of a call that is made
-- an offer takes heights of its run
pick-few : (t : Bool) (a b : Taking) (m : ℕ) → a.taken ≤ m → b.taken ≤ m → (pick t a b).taken ≤ m
pick-few true a b m h g = h
pick-few false a b m h g = g

offering-few : (K : LevelKind) (run : List ℕ) (s : Writer) (x : Memory) → (offering K run s x).taken ≤ length run
unfolding offering
offering-few K [] s x = omega arith
offering-few K (h ∷ run) s x =
    let i = pick-few (ltb (s.column + 1) s.width) (offering K run (begun s) (height_put K h s x))
    (offering K run (complete s (row_makes K s (height_put K h s x))) (row_makes K s (height_put K h s x)).store) (length run)
    (offering-few K run (begun s) (height_put K h s x))
    (offering-few K run (complete s (row_makes K s (height_put K h s x))) (row_makes K s (height_put K h s x)).store) in
    pick-few (takes s) _ (none s x) (suc (length run)) (omega (arith, i)) (omega arith)

handed-some : (s : Writer) (x : Memory) (v : ℕ) → 0 < v → handed v s x ≡ a_row (band_row (waiting_row s)) (drawn_on s x).writer
handed-some s x zero h = absurd (omega arith)
handed-some s x (suc v) h = refl

area-some : (s : Writer) (x z : Memory) (v : ℕ) → 0 < v → handed_area v s x z ≡ fronted (waiting_row s).length (rest (waiting_row s).start x) z
area-some s x z zero h = absurd (omega arith)
area-some s x z (suc v) h = refl

offered-none : (run : List ℕ) (s : Writer) (x : Memory) (v : ℕ) → v ≡ 0 → offered_at v run s x ≡ offering (kind s) run s x
offered-none run s x zero h = refl
offered-none run s x (suc v) h = absurd (omega arith)

named-length : (r : ℕ) (b : BandRow) (l : List ℕ) → 4 * r + 4 ≤ length l → length (named r b l) ≡ length l
unfolding named
named-length r b l h =
    let a : length (take (4 * r) l) ≡ 4 * r = length-take-le (4 * r) l (omega arith) in
    let d : length (drop (4 * r + 4) l) ≡ length l - (4 * r + 4) = length-drop (4 * r + 4) l in
    length-append (take (4 * r) l) (b.level ∷ b.band ∷ b.row ∷ b.length ∷ drop (4 * r + 4) l) ∙ omega (arith, a, d)

module _ (n : ℕ) (hs : List ℕ) (k m : ℕ) where
  module _ (p : Run) (d : due n hs k m p ≡ true) where
    abbrev s : Writer
    s = p.world.writer

    abbrev x : Memory
    x = p.world.store

    -- ---- a row waits
    module _ (h : 0 < s.level) where
      abbrev left-room : ℕ
      left-room = k - p.numbers

      draw-tests : (p.rows < m) × (draw_question s n left-room ≡ 0)
      unfolding due
      draw-tests =
          let e : both (ltb p.rows m) (eqb (draw_question s n left-room) 0) ≡ true =
          sym (ap (λ (t : Bool). pick t (both (ltb p.taken (length hs)) (eqb (offer_question s n (length (row_left n hs k m p))) 0))
          (both (ltb p.rows m) (eqb (draw_question s n left-room) 0))) (ne_eqb s.level 0 (λ z. omega arith))) ∙ d in
          let t = sweep.both _ _ e in
          (ltb-true _ _ t.0, eqb-true _ _ t.1)

      is-draw : call_of n hs k m p ≡ draw n (area_left n hs k m p)
      unfolding call_of
      is-draw = simp (ne_eqb s.level 0 (λ z. omega arith))

      replied : draw_reply s n left-room x ≡ gives (a_row (band_row (waiting_row s)) (drawn_on s x).writer)
      unfolding draw_reply
      replied = rw draw-tests.1 (ap gives (handed-some s x s.level h))

      area-left : draw_area s n left-room x (rest p.numbers p.area) ≡
          fronted (waiting_row s).length (rest (waiting_row s).start x) (rest p.numbers p.area)
      unfolding draw_area
      area-left = rw draw-tests.1 (area-some s x (rest p.numbers p.area) s.level h)

      abbrev seen-area : Area
      seen-area = record { size = left-room; numbers = draw_area s n left-room x (rest p.numbers p.area) }

      seen-draw : event (call_of n hs k m p) p.world ≡ drew (area_left n hs k m p) (gives (row (band_row (waiting_row s)))) seen-area
      unfolding event
      seen-draw =
          ap (λ c. event c p.world) is-draw
          ∙ ap (λ (q : Reply Handed). drew (area_left n hs k m p) (seen given q) seen-area) replied

      after-draw : after_call n hs k m p ≡ record {
        world = next (call_of n hs k m p) p.world;
        taken = p.taken;
        rows = p.rows + 1;
        numbers = p.numbers + (waiting_row s).length;
        area = join_at p.numbers p.area seen-area.numbers;
        names = named p.rows (band_row (waiting_row s)) p.names;
      }
      unfolding after_call noted
      after-draw = ap (noted p (next (call_of n hs k m p) p.world)) seen-draw

      past_row : (j : ℕ) → seen-area.numbers ((waiting_row s).length + j) ≡ rest p.numbers p.area ((waiting_row s).length + j)
      past_row j =
          ap (λ (y : Memory). y ((waiting_row s).length + j)) area-left
          ∙ front_rest (waiting_row s).length (rest (waiting_row s).start x) (rest p.numbers p.area) ((waiting_row s).length + j) (omega arith)

    -- ---- none waits
    module _ (h : s.level ≡ 0) where
      abbrev run : List ℕ
      run = row_left n hs k m p

      abbrev took-count : ℕ
      took-count = (offering (kind s) run s x).taken

      passes-offer : offer_question s n (length run) ≡ 0
      unfolding due
      passes-offer =
          let e : both (ltb p.taken (length hs)) (eqb (offer_question s n (length run)) 0) ≡ true =
          sym (ap (λ (t : Bool). pick t (both (ltb p.taken (length hs)) (eqb (offer_question s n (length run)) 0))
          (both (ltb p.rows m) (eqb (draw_question s n (k - p.numbers)) 0))) (eq-eqb s.level 0 h)) ∙ d in
          eqb-true (offer_question s n (length run)) 0 (sweep.both (ltb p.taken (length hs)) _ e).1

      is-offer : call_of n hs k m p ≡ offer n run
      unfolding call_of
      is-offer = simp (eq-eqb s.level 0 h)

      took : offer_reply s n run x ≡ gives (record { taken = took-count; writer = (offering (kind s) run s x).writer })
      unfolding offer_reply
      took = rw (passes-offer, offered-none run s x s.level h) refl

      seen-offer : event (call_of n hs k m p) p.world ≡ offered run (gives took-count)
      unfolding event
      seen-offer =
          ap (λ c. event c p.world) is-offer ∙ ap (λ (q : Reply Took). offered run (seen (λ t. t.taken) q)) took

      after-offer : after_call n hs k m p ≡ record {
        world = next (call_of n hs k m p) p.world;
        taken = p.taken + took-count;
        rows = p.rows;
        numbers = p.numbers;
        area = p.area;
        names = p.names;
      }
      unfolding after_call noted
      after-offer = ap (noted p (next (call_of n hs k m p) p.world)) seen-offer

  -- ---- all of them; L is how long the area for names is
  module _ (L : ℕ) (em : m ≡ L / 4) where
    from : (f : ℕ) (p : Run) → length p.names ≡ L → From hs p (calls n hs k m f p) (ran n hs k m f p)
    unfolding calls ran
    from zero p e = from-none hs p
    from (suc f) p e = go (due n hs k m p) refl (λ y. from f (after_call n hs k m p) y)
      where
        drew-one : due n hs k m p ≡ true → 0 < p.world.writer.level → From hs (after_call n hs k m p) (calls n hs k m f (after_call n hs k m p))
            (ran n hs k m f (after_call n hs k m p)) → From hs p (call_of n hs k m p ∷ calls n hs k m f (after_call n hs k m p))
            (ran n hs k m f (after_call n hs k m p))
        drew-one d h g =
            from-draw hs p (ran n hs k m f (after_call n hs k m p)) (call_of n hs k m p) (calls n hs k m f (after_call n hs k m p)) (area_left n hs k m p)
            (seen-area p d h) (band_row (waiting_row p.world.writer)) (seen-draw p d h) (past_row p d h) (omega (arith, (draw-tests p d h).0, em, e))
            (subst (λ (q : Run). From hs q (calls n hs k m f (after_call n hs k m p)) (ran n hs k m f (after_call n hs k m p))) (after-draw p d h) g)

        took_one : due n hs k m p ≡ true → p.world.writer.level ≡ 0 → From hs (after_call n hs k m p) (calls n hs k m f (after_call n hs k m p))
            (ran n hs k m f (after_call n hs k m p)) → From hs p (call_of n hs k m p ∷ calls n hs k m f (after_call n hs k m p))
            (ran n hs k m f (after_call n hs k m p))
        took_one d h g =
            from-offer hs p (ran n hs k m f (after_call n hs k m p)) (call_of n hs k m p) (calls n hs k m f (after_call n hs k m p)) (row_left n hs k m p)
            (took-count p d h) (seen-offer p d h) (offering-few (kind p.world.writer) (row_left n hs k m p) p.world.writer p.world.store)
            (p.world.writer.width - p.world.writer.column) refl
            (subst (λ (q : Run). From hs q (calls n hs k m f (after_call n hs k m p)) (ran n hs k m f (after_call n hs k m p))) (after-offer p d h) g)

        as_long : due n hs k m p ≡ true → length (after_call n hs k m p).names ≡ L
        as_long d =
            elim (dec_lt 0 p.world.writer.level) [
              | yes h ↦
                  ap (λ (q : Run). length q.names) (after-draw p d h)
                  ∙ named-length p.rows _ p.names (omega (arith, (draw-tests p d h).0, em, e)) ∙ e
              | no h ↦ ap (λ (q : Run). length q.names) (after-offer p d (omega arith)) ∙ e
            ]

        go : (t : Bool) → due n hs k m p ≡ t →
            (length (after_call n hs k m p).names ≡ L → From hs (after_call n hs k m p) (calls n hs k m f (after_call n hs k m p))
            (ran n hs k m f (after_call n hs k m p))) → From hs p (pick t (call_of n hs k m p ∷ calls n hs k m f (after_call n hs k m p)) [])
            (pick t (ran n hs k m f (after_call n hs k m p)) p)
        go false d i = from-none hs p
        go true d i =
            let g = i (as_long d) in
            elim (dec_lt 0 p.world.writer.level) [
              | yes h ↦ drew-one d h g
              | no h ↦ took_one d (omega arith) g
            ]

-- ---- a call that is made takes a height or puts a name, so the run ends where no call is due, and not for want of calls
took-some : (K : LevelKind) (run : List ℕ) (s : Writer) (x : Memory) → takes s ≡ true → 0 < length run → 0 < (offering K run s x).taken
unfolding offering
took-some K [] s x t h = absurd (omega arith)
took-some K (i ∷ run) s x t h = rw t (omega arith)

module _ (n : ℕ) (hs : List ℕ) (k m : ℕ) where
  -- what is left of heights and of room for names
  abbrev over-left : Run → ℕ
  over-left p = length hs - p.taken + (m - p.rows)

  none_left : (p : Run) → over-left p ≡ 0 → due n hs k m p ≡ false
  unfolding due
  none_left p h = rw (le-ltb p.taken (length hs) (omega arith), le-ltb p.rows m (omega arith)) (go (eqb p.world.writer.level 0))
    where
      go : (t : Bool) → pick t false false ≡ false
      go true = refl
      go false = refl

  module _ (p : Run) (d : due n hs k m p ≡ true) (h : p.world.writer.level ≡ 0) where
    heights-left : p.taken < length hs
    unfolding due
    heights-left =
        let e : both (ltb p.taken (length hs)) (eqb (offer_question p.world.writer n (length (row_left n hs k m p))) 0) ≡ true =
        sym (ap (λ (t : Bool). pick t (both (ltb p.taken (length hs)) (eqb (offer_question p.world.writer n (length (row_left n hs k m p))) 0))
        (both (ltb p.rows m) (eqb (draw_question p.world.writer n (k - p.numbers)) 0))) (eq-eqb p.world.writer.level 0 h)) ∙ d in
        ltb-true _ _ (sweep.both (ltb p.taken (length hs)) _ e).0

    took-one-more : 0 < took-count n hs k m p d h
    took-one-more =
        let q = passes-offer n hs k m p d h in
        let w = p.world.writer in
        let c = (offer-sound w n (length (row_left n hs k m p)) q).column h in
        let some : 0 < length (row_left n hs k m p) =
        simp (length-take, length-drop) (omega (arith, heights-left, c)) in
        took-some (kind w) (row_left n hs k m p) w p.world.store (offer-takes w n (length (row_left n hs k m p)) q h some) some

  ran_over : (f : ℕ) (p : Run) → over-left p ≤ f → due n hs k m (ran n hs k m f p) ≡ false
  unfolding ran
  ran_over zero p h = none_left p (omega arith)
  ran_over (suc f) p h = go (due n hs k m p) refl (λ y. ran_over f (after_call n hs k m p) y)
    where
      less : due n hs k m p ≡ true → over-left (after_call n hs k m p) ≤ f
      less d =
          elim (dec_lt 0 p.world.writer.level) [
            | yes g ↦
                let e = after-draw n hs k m p d g in
                omega (arith, (draw-tests n hs k m p d g).0, ap (λ (q : Run). q.taken) e, ap (λ (q : Run). q.rows) e)
            | no g ↦
                let z : p.world.writer.level ≡ 0 = omega arith in
                let e = after-offer n hs k m p d z in
                omega (arith, heights-left p d z, took-one-more p d z, ap (λ (q : Run). q.taken) e, ap (λ (q : Run). q.rows) e)
          ]

      go : (t : Bool) → due n hs k m p ≡ t → (over-left (after_call n hs k m p) ≤ f → due n hs k m (ran n hs k m f (after_call n hs k m p)) ≡ false) →
          due n hs k m (pick t (ran n hs k m f (after_call n hs k m p)) p) ≡ false
      go false d i = d
      go true d i = i (less d)

pub run_ends : (s : Writer) (n : ℕ) (hs : List ℕ) (k : ℕ) (x z : Memory) (l : List ℕ) → due n hs k (length l / 4) (run_of s n hs k x z l) ≡ false
unfolding run_of
run_ends s n hs k x z l = ran_over n hs k (length l / 4) (length hs + length l / 4) (begin s x z l) (omega arith)

-- ---- the theorem: whatever the state and whatever was lent
pub run-is-list : (s : Writer) (n : ℕ) (hs : List ℕ) (k : ℕ) (x z : Memory) (l : List ℕ) →
    IsList (record { writer = s; store = x }) hs z l (run_calls s n hs k x z l) (run_of s n hs k x z l)
unfolding run_calls run_of
run-is-list s n hs k x z l =
    let f = from n hs k (length l / 4) (length l) refl (length hs + length l / 4) (begin s x z l) refl in
    record {
      world = f.world;
      heights = f.heights;
      taken = omega (arith, f.told);
      rows = omega (arith, f.rows);
      numbers = omega (arith, f.numbers);
      area = sym (join-none z _ ∙ ap (laid _) (rest-none z)) ∙ f.area;
      names = f.names;
    }

-- demand 3 of every list of runs and single calls on a fresh writer
pub demand-3-runs : (f : ℕ) (W : Side) (top L n : ℕ) (x : Memory) → W.start ≤ max_origin → top ≤ max_origin → set_up_question f W L n ≡ 0 →
    (ps : List Piece) →
    (let w = fresh_world f W top L n x in
    (in_ranges (final (all_calls ps w) w).writer ≡ true) ×
    Demand3 f W top L (events (all_calls ps w) w) (λ c. event c (final (all_calls ps w) w)))
demand-3-runs f W top L n x from low h ps = demand-3 f W top L n x from low h (all_calls ps (fresh_world f W top L n x))
