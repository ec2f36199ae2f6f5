-- Every call keeps what is reached (`call_kept`), and what is seen of it. Assumes nothing.
use mathlib.Core.Logic.{◌⊎◌, inl, inr, ⊎_elim}
use mathlib.Core.Path.{◌≡◌, refl, sym, ap, subst}
use mathlib.Core.Bool.{Bool, true, false}
use mathlib.Core.List.{List, [], ◌++◌, append-nil}
use Prim.Native.Nat.{ℕ, zero, suc, ◌≤◌, ◌<◌}
use native.Mathlib.Omega.{arith}
use lib.IntN.{ℤ}
use lib.ListN.{take}
use lib.Dec.{leb, eqb}
use borrow.Author.Tests.{leb-true, eqb-true, ne_eqb}
use Rattle.numbers.specs.Signal.{pick, both}
use Rattle.numbers.proofs.Sweep.{both as halves}
use Rattle.lifting.specs.Grid.{Side}
use Rattle.wavelet.specs.Bands.{Grid}
use Rattle.wavelet.specs.Questions.{ask}
use Rattle.filters.specs.Figures.{store_by}
use Rattle.calls.specs.Lists.{Area, All}
use Rattle.calls.proofs.QuestionLaws.{asked-yes}
use Rattle.reader.specs.State.{needs}
use Rattle.reader.specs.Questions.{store_fits}
use Rattle.reader.specs.Reading.{draw_question, draw_reply, draw_store, draw_area}
use Rattle.reader.specs.Demand3 as demand
use Rattle.reader.specs.Demand3.{said, given, leaves, drawn_to, FirstRows, OneOf, this, that}
use Rattle.reader.proofs.CallViews.{Limits}
use Rattle.reader.proofs.Reached.{reached}
use Rattle.reader.proofs.CallLists.{Then}
use Rattle.ground_loader.specs.Loader.{World, world_of, Ran, ran, passed, turned as turned-away}
use Rattle.ground_loader.specs.Loader.{ran_answer, take_reply, loader_fits, take_question, draw_number, with_reader, row_needs}
use Rattle.ground_loader.specs.LoaderLists.{Call, want, take_bytes, draw, took, fourteen, away, Event, offered, drew, told, event, next}
use Rattle.ground_loader.specs.LoaderLists.{taken_by, drawn_by, ends, Begins}
use Rattle.ground_loader.proofs.LoaderState.{State, in-header, in_row, at-draw, at-end, over, begins-less}
use Rattle.ground_loader.proofs.LoaderBytes.{s₀}
use Rattle.ground_loader.proofs.LoaderRuns.{fits, Run, used, turned, ended-by, run-to}
use Rattle.ground_loader.proofs.LoaderDraws.{draw-to}

-- ---- what a run's end is told as
pub told-used : (k : ℕ) (v : World) → told (ran_answer (record { count = k; why = 0; world = v })) ≡ took k
unfolding ran_answer
told-used k v = go (eqb k 0)
  where
    go : (t : Bool) → told (pick (pick t false false) (turned-away 0) (passed k v.loader)) ≡ took k
    go true = refl
    go false = refl

pub told-ended : (k : ℕ) (v : World) → told (ran_answer (record { count = k; why = 14; world = v })) ≡ fourteen k
unfolding ran_answer
told-ended k v = refl

-- 7 or 22: the number where nothing was taken
pub told-turned : (k q : ℕ) (v : World) → OneOf q 7 22 → told (ran_answer (record { count = k; why = q; world = v })) ≡ pick (eqb k 0) (away q) (took k)
told-turned k q v o = go q o
  where
    both_one : (t : Bool) (q : ℕ) → told (pick (pick t true false) (turned-away q) (passed k v.loader)) ≡ pick t (away q) (took k)
    both_one true q = refl
    both_one false q = refl

    go : (q : ℕ) → OneOf q 7 22 → told (ran_answer (record { count = k; why = q; world = v })) ≡ pick (eqb k 0) (away q) (took k)
    go q (this e) =
        subst (λ i. told (ran_answer (record { count = k; why = i; world = v })) ≡ pick (eqb k 0) (away i) (took k)) (sym e)
        (unfold ran_answer in both_one (eqb k 0) 7)
    go q (that e) =
        subst (λ i. told (ran_answer (record { count = k; why = i; world = v })) ≡ pick (eqb k 0) (away i) (took k)) (sym e)
        (unfold ran_answer in both_one (eqb k 0) 22)

-- ---- no question of a taking call gives 7 or 22
pub asked-other : (t u v x : Bool) (q : ℕ) → OneOf q 7 22 → ask t 1 (ask u 5 (ask v 9 (ask x 8 0))) ≡ q → ⊥
asked-other t u v x q o e = go t u v x (one q o) e
  where
    one : (q : ℕ) → OneOf q 7 22 → (q ≡ 7) ⊎ (q ≡ 22)
    one q (this p) = inl p
    one q (that p) = inr p

    go : (t u v x : Bool) → (q ≡ 7) ⊎ (q ≡ 22) → ask t 1 (ask u 5 (ask v 9 (ask x 8 0))) ≡ q → ⊥
    go false u v x o e = ⊎_elim (λ p. omega (arith, p, e)) (λ p. omega (arith, p, e)) o
    go true false v x o e = ⊎_elim (λ p. omega (arith, p, e)) (λ p. omega (arith, p, e)) o
    go true true false x o e = ⊎_elim (λ p. omega (arith, p, e)) (λ p. omega (arith, p, e)) o
    go true true true false o e = ⊎_elim (λ p. omega (arith, p, e)) (λ p. omega (arith, p, e)) o
    go true true true true o e = ⊎_elim (λ p. omega (arith, p, e)) (λ p. omega (arith, p, e)) o

module _ (f : ℕ) (W H : Side) (l : ℕ) (lim : Limits 0 f 0 0 W H l) where
  abbrev StateAt : Bool → List ℕ → List (ℕ → ℤ) → World → Type 0
  StateAt = State f W H l lim

  -- ---- what is kept: the state, and that the rows drawn are the first of every map whose file begins with the bytes taken
  pub record Kept (fin : Bool) (bs : List ℕ) (ds : List (ℕ → ℤ)) (w : World) : Type 0 where
    pub state : StateAt fin bs ds w
    pub shows : (g : Grid) → Begins (s₀ f W H l lim) g bs → FirstRows 0 W g ds

  more-kept : {fin fin' : Bool} {bs : List ℕ} {ds : List (ℕ → ℤ)} {w v : World} (more : List ℕ) → Kept fin bs ds w → StateAt fin' (bs ++ more) ds v
      → Kept fin' (bs ++ more) (ds ++ []) v
  more-kept {fin} {fin'} {bs} {ds} {w} {v} more k st =
      subst (λ d. Kept fin' (bs ++ more) d v) (sym (append-nil ds))
      (record { state = st; shows = λ g bg. k.shows g (begins-less f W H l lim g bs more bg) })

  same_kept : {fin : Bool} {bs : List ℕ} {ds : List (ℕ → ℤ)} {w : World} → Kept fin bs ds w → Kept fin (bs ++ []) (ds ++ []) w
  same_kept {fin} {bs} {ds} {w} k = subst (λ b. Kept fin b (ds ++ []) w) (sym (append-nil bs)) (subst (λ d. Kept fin bs d w) (sym (append-nil ds)) k)

  -- ---- the line store that a taking call is lent
  needs-then : (es : List demand.Event) (w : demand.World) → Then 0 f 0 0 W H l lim es w → needs w.reader ≡ store_by f W (suc l)
  needs-then es _ (reached d p e x t fs ds kept) = omega arith

  pub state-needs : {fin : Bool} {bs : List ℕ} {ds : List (ℕ → ℤ)} {w : World} → StateAt fin bs ds w → needs w.loader.reader ≡ store_by f W (suc l)
  state-needs (in-header es h r x y p c live unfed) = needs-then es _ c
  state-needs (in_row es r x y c ps y₀ q t a live d e k v) = needs-then es _ a
  state-needs (at-draw es r x y k t a live d e) = needs-then es _ a
  state-needs (at-end es r x y k p a live d e) = needs-then es _ a
  state-needs (over es r x y bs ds h c z p i a live d) = needs-then es _ a

  pub room : {fin : Bool} {bs : List ℕ} {ds : List (ℕ → ℤ)} {w : World} (n m : ℕ) → StateAt fin bs ds w → take_question w.loader n m ≡ 0
      → store_by f W (suc l) ≤ n
  unfolding take_question store_fits
  room {w = w} n m st e =
      let a = asked-yes (loader_fits w.loader) 0 _ e in
      let b = asked-yes (both (leb (needs w.loader.reader) n) (leb (row_needs w.loader.reader) m)) 4 _ a.1 in
      let c = leb-true (needs w.loader.reader) n (halves (leb (needs w.loader.reader) n) _ b.0).0 in
      omega (arith, c, state-needs st)

  -- ---- a taking call
  module _ (fin : Bool) (bs : List ℕ) (ds : List (ℕ → ℤ)) (w : World) (kept : Kept fin bs ds w) (run : List ℕ) where
    abbrev KeptBy : Event → World → Type 0
    KeptBy e v = Kept (pick (ends e) true fin) (bs ++ taken_by e) (ds ++ drawn_by e) v

    took-kept : (k : ℕ) (v : World) → StateAt fin (bs ++ take k run) ds v → KeptBy (offered run (took k)) v
    unfolding taken_by drawn_by ends
    took-kept k v st = more-kept (take k run) kept st

    away-kept : (q : ℕ) → KeptBy (offered run (away q)) w
    unfolding taken_by drawn_by ends
    away-kept q = same_kept kept

    fourteen-kept : (k : ℕ) (v : World) → StateAt true (bs ++ take k run) ds v → KeptBy (offered run (fourteen k)) v
    unfolding taken_by drawn_by ends
    fourteen-kept k v st = more-kept (take k run) kept st

    away-first : (v : World) (q : ℕ) → StateAt fin (bs ++ take 0 run) ds v → KeptBy (offered run (away q)) v
    unfolding taken_by drawn_by ends
    away-first v q st = more-kept [] kept st

    turned-kept : (k q : ℕ) (v : World) → StateAt fin (bs ++ take k run) ds v → KeptBy (offered run (pick (eqb k 0) (away q) (took k))) v
    turned-kept zero q v st = away-first v q st
    turned-kept (suc k) q v st =
        subst (λ t. KeptBy (offered run (pick t (away q) (took (suc k)))) v) (sym (ne_eqb (suc k) 0 (λ e. omega arith))) (took-kept (suc k) v st)

    run-kept : (r : Ran) → Run f W H l lim fin bs ds run r → KeptBy (offered run (told (ran_answer r))) r.world
    run-kept _ (used k v st) = subst (λ t. KeptBy (offered run t) v) (sym (told-used k v)) (took-kept k v st)
    run-kept _ (turned k q v o st never) = subst (λ t. KeptBy (offered run t) v) (sym (told-turned k q v o)) (turned-kept k q v st)
    run-kept _ (ended-by k v st never) = subst (λ t. KeptBy (offered run t) v) (sym (told-ended k v)) (fourteen-kept k v st)

    module _ (n m : ℕ) (small : All (λ b. b < 256) run) where
      pub ran_to : take_question w.loader n m ≡ 0 → Run f W H l lim fin bs ds run (ran n run w)
      ran_to e = run-to f W H l lim n (room n m kept.state e) fin run small bs ds w kept.state

      take-kept : (t : Bool) → eqb (take_question w.loader n m) 0 ≡ t
          → KeptBy (offered run (told (pick t (ran_answer (ran n run w)) (turned-away (take_question w.loader n m))))) (pick t (ran n run w).world w)
      take-kept true e = run-kept (ran n run w) (ran_to (eqb-true (take_question w.loader n m) 0 e))
      take-kept false e = away-kept (take_question w.loader n m)

  -- ---- a draw asks what the reader's asks
  pub draw-asks : {fin : Bool} {bs : List ℕ} {ds : List (ℕ → ℤ)} {w : World} → StateAt fin bs ds w → (n : ℕ) (x : ℕ → ℤ) (m : ℕ)
      → draw_number w.loader n x m ≡ draw_question w.loader.reader n x m
  unfolding draw_number
  draw-asks {w = w} st n x m = ap (λ t. ask t 1 (draw_question w.loader.reader n x m)) (fits f W H l lim st)

  module _ (n : ℕ) (a : Area) (w : World) where
    abbrev pub seen_draw : ℕ → Event
    seen_draw q =
        drew a (said given (draw_reply w.loader.reader q)) (record { size = a.size; numbers = draw_area w.loader.reader q w.store a.numbers })

    abbrev drawn_world : ℕ → World
    drawn_world q =
        world_of (with_reader w.loader (leaves (drawn_to w.loader.reader) w.loader.reader (draw_reply w.loader.reader q)))
        (draw_store w.loader.reader q w.store) w.row

    abbrev own_asked : ℕ
    own_asked = draw_question w.loader.reader n w.store a.size

    draw-kept : (fin : Bool) (bs : List ℕ) (ds : List (ℕ → ℤ)) → Kept fin bs ds w
        → Kept (pick (ends (seen_draw own_asked)) true fin) (bs ++ taken_by (seen_draw own_asked)) (ds ++ drawn_by (seen_draw own_asked)) (drawn_world own_asked)
    unfolding taken_by
    draw-kept fin bs ds kept =
        let d = draw-to f W H l lim n a kept.state kept.shows in
        subst (λ b. Kept (pick (ends (seen_draw own_asked)) true fin) b (ds ++ drawn_by (seen_draw own_asked)) (drawn_world own_asked)) (sym (append-nil bs))
        (record { state = d.after; shows = d.shows })

  -- ---- any call
  pub call_kept : (c : Call) (fin : Bool) (bs : List ℕ) (ds : List (ℕ → ℤ)) (w : World) → Kept fin bs ds w
      → Kept (pick (ends (event c w)) true fin) (bs ++ taken_by (event c w)) (ds ++ drawn_by (event c w)) (next c w)
  unfolding event next take_reply
  call_kept want fin bs ds w kept = unfold taken_by drawn_by ends in same_kept kept
  call_kept (take_bytes n m run small) fin bs ds w kept =
      take-kept fin bs ds w kept run n m small (eqb (take_question w.loader n m) 0) refl
  call_kept (draw n a) fin bs ds w kept =
      subst (λ q. Kept (pick (ends (seen_draw n a w q)) true fin) (bs ++ taken_by (seen_draw n a w q)) (ds ++ drawn_by (seen_draw n a w q)) (drawn_world n a w q))
      (sym (draw-asks kept.state n w.store a.size)) (draw-kept n a w fin bs ds kept)
