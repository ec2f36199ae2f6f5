-- The writer carries where its level's stretch begins, and is else the writer before: over every list of calls on a fresh writer the same is seen
-- (`same-events`), the same stands in the line store (`same_store`), and the offset is where the stretch of the level being handed out begins (`offset_is`).
-- Assumes nothing.
use mathlib.Core.Bool.{Bool, true, false}
use mathlib.Core.Path.{◌≡◌, refl, sym, ap, ap₂, ◌∙◌}
use mathlib.Core.List.{List, [], ◌∷◌}
use Prim.Native.Nat.{ℕ, zero, suc, ◌+◌, ◌≤◌}
use lib.ListN.{length}
use lib.Dec.{ltb, eqb}
use borrow.Author.Tests.{eq-eqb}
use Rattle.numbers.specs.Signal.{pick, both}
use Rattle.lifting.specs.Grid.{Side}
use Rattle.wavelet.specs.Limits.{max_height, max_origin}
use Rattle.calls.specs.Lists.{gives, unless, changed_unless, seen, Area}
use Rattle.calls.specs.Lists as lists
use Rattle.writer.specs.declared.Writer.{Writer}
use Rattle.progress.specs.Counts.{start_of}
use Rattle.writer.specs.Machine.{Out}
use Rattle.writer.specs.Taking.{kind, columns_of, Taking, takes, offering}
use Rattle.writer.specs.Closing.{Flushed}
use Rattle.writer.specs.Spare.{holding, moving, moved_on}
use Rattle.writer.specs.Questions.{most_column, in_ranges, long_enough, set_up_question, offer_question, draw_question, waits_question, finish_question}
use Rattle.writer.specs.Holds.{left, after}
use Rattle.writer.specs.Calls.{set_up_store, took, offered_at, waits, closing, resumed}
use Rattle.writer.specs.Calls.{handed, handed_store, handed_area, offer_reply, offer_store, draw_reply, draw_store}
use Rattle.writer.specs.Calls.{draw_area, awaited, waits_reply, finish_reply, finish_store}
use Rattle.writer.specs.History.{Call, offer, draw, finish, look, offered, drew, finished, looked, World, given, event, next, events, final, fresh_world}
use Rattle.writer.specs.Before as before
use Rattle.writer.specs.Before.{Before}
use Rattle.writer.proofs.StateHolds.{st, fresh-st}
use Rattle.writer.proofs.Demand3.{set-up-stays}
use Rattle.level.specs.Level.{Memory}

-- the writer before, with its offset
abbrev carry : Before → Writer
carry b = st b.filter b.columns b.start b.levels b.rows b.column b.finished b.closed b.level b.left

abbrev carries : before.World → World
carries w = record { writer = carry w.writer; store = w.store }

abbrev taking : before.Taking → Taking
taking t = record { taken = t.taken; writer = carry t.writer; store = t.store }

-- ---- heights taken
same-taking : (run : List ℕ) (b : Before) (x : Memory) → offering (kind (carry b)) run (carry b) x ≡ taking (before.offering run b x)
unfolding offering before.offering takes before.takes
same-taking [] b x = refl
same-taking (h ∷ run) b x =
    go (both (eqb b.level 0) (ltb b.rows max_height)) (ltb (b.column + 1) b.columns.length) (same-taking run (before.begun b) y)
    (same-taking run (before.complete b o) o.store)
  where
    y : Memory
    y = before.height_put h b x

    o : Out
    o = before.row_makes b y

    more : Taking → Taking
    more t = record { taken = suc t.taken; writer = t.writer; store = t.store }

    go : (t c : Bool) {d e : Taking} {f g : before.Taking} → d ≡ taking f → e ≡ taking g →
        pick t (more (pick c d e)) (record { taken = 0; writer = carry b; store = x }) ≡ taking (pick t (before.one_more (pick c f g)) (before.untaken b x))
    go false c p q = refl
    go true true p q = ap more p
    go true false p q = ap more q

-- ---- the spare row
same-moving : (b : Before) (x : Memory) → moving (carry b) x ≡ taking (before.moving b x)
unfolding moving before.moving
same-moving b x = go (ltb b.column b.columns.length)
  where
    o : Out
    o = before.row_makes b (before.moved_row b x)

    go : (t : Bool) →
        pick t (record { taken = b.column; writer = carry b; store = before.moved_row b x })
        (record { taken = b.column; writer = carry (before.complete b o); store = o.store })
        ≡ taking (pick t (record { taken = b.column; writer = b; store = before.moved_row b x })
        (record { taken = b.column; writer = before.complete b o; store = o.store }))
    go true = refl
    go false = refl

same-moved : (v : ℕ) (b : Before) (x : Memory) → moved_on v (carry b) x ≡ taking (before.moved_on v b x)
unfolding moved_on before.moved_on
same-moved zero b x = same-moving b x
same-moved (suc v) b x = refl

same-offered : (v : ℕ) (run : List ℕ) (b : Before) (x : Memory) → offered_at v run (carry b) x ≡ taking (before.offered_at v run b x)
unfolding holding before.holding
same-offered zero run b x = same-taking run b x
same-offered (suc v) run b x = refl

-- ---- the questions: the offset is right, so question 1 asks nothing more
both_yes : (t : Bool) → both t true ≡ t
both_yes true = refl
both_yes false = refl

module _ (b : Before) where
  same-most : (v : ℕ) → most_column (carry b) v ≡ before.most_column b v
  unfolding most_column before.most_column
  same-most zero = refl
  same-most (suc v) = refl

  same-ranges : in_ranges (carry b) ≡ before.in_ranges b
  unfolding in_ranges before.in_ranges
  same-ranges = simp (eq-eqb (carry b).offset (start_of b.filter (columns_of (carry b)) b.level) refl, both_yes, same-most b.level)

  same-offer : (n k : ℕ) → offer_question (carry b) n k ≡ before.offer_question b n k
  unfolding offer_question before.offer_question long_enough before.long_enough
  same-offer n k = rw same-ranges refl

  same-draw : (n k : ℕ) → draw_question (carry b) n k ≡ before.draw_question b n k
  unfolding draw_question before.draw_question long_enough before.long_enough
  same-draw n k = rw same-ranges refl

  same-finish : (n : ℕ) → finish_question (carry b) n ≡ before.finish_question b n
  unfolding finish_question before.finish_question long_enough before.long_enough
  same-finish n = rw same-ranges refl

  same-look : waits_question (carry b) ≡ before.look_question b
  unfolding waits_question before.look_question
  same-look = rw same-ranges refl

  same-resumed : (f : Bool) (o : Out) (v : ℕ) → resumed f (carry b) o v ≡ before.resumed f b o v
  unfolding resumed before.resumed
  same-resumed false o v = refl
  same-resumed true o zero = refl
  same-resumed true o (suc v) = refl

-- ---- what is seen of a call, and what it leaves, by the number of the question
module _ (b : Before) (x : Memory) where
  abbrev w : before.World
  w = before.world b x

  offer-event : (run : List ℕ) (q : ℕ) (t : Taking) → t ≡ taking (before.offered_at b.level run b x) →
      offered run (seen (λ k. k.taken) (unless q (took t))) ≡ before.offer_event w run q
  unfolding before.offer_event
  offer-event run zero t e = ap (λ k. offered run (gives k.taken)) e
  offer-event run (suc q) t e = refl

  offer-next : (run : List ℕ) (q : ℕ) (t : Taking) → t ≡ taking (before.offered_at b.level run b x) →
      record { writer = left (λ k. k.writer) (carry b) (unless q (took t)); store = changed_unless q t.store x } ≡ carries
      (before.offer_next w run q)
  unfolding before.offer_next
  offer-next run zero t e = ap (λ k. record { writer = k.writer; store = k.store }) e
  offer-next run (suc q) t e = refl

  draw-event : (a : Area) (q v : ℕ) →
      drew a (seen given (unless q (handed v (carry b) x))) (record {
        size = a.size;
        numbers = changed_unless q (handed_area v (carry b) x
            a.numbers) a.numbers;
      })
      ≡ drew a (unless q (before.handed v b)) (record { size = a.size; numbers = changed_unless q (before.handed_area v b x a.numbers) a.numbers })
  draw-event a zero zero = refl
  draw-event a zero (suc v) = refl
  draw-event a (suc q) v = refl

  draw-next : (q v : ℕ) →
      record { writer = left (after (carry b)) (carry b) (unless q (handed v (carry b) x)); store = changed_unless q (handed_store v (carry b) x) x }
      ≡ carries (before.world (changed_unless q (before.handed_writer v b x) b) (changed_unless q (before.handed_store v b x) x))
  draw-next zero zero = refl
  draw-next zero (suc v) =
      ap (λ (r : Flushed). let t = moved_on r.out.level (waits b.finished (carry b) r) r.out.store in record { writer = t.writer; store = t.store })
      (same-resumed b b.finished (before.advanced b x) (before.advanced b x).level)
      ∙ ap (λ (t : Taking). record { writer = t.writer; store = t.store })
      (same-moved (before.after_draw b x).out.level (before.waits b.finished b (before.after_draw b x)) (before.after_draw b x).out.store)
  draw-next (suc q) v = refl

  finish-event : (q : ℕ) → finished (seen (λ _. tt) (unless q (waits true (carry b) (closing (carry b) x)))) ≡ before.finish_event w q
  unfolding before.finish_event
  finish-event zero = refl
  finish-event (suc q) = refl

  finish-next : (q : ℕ) →
      record {
        writer = left (λ s. s) (carry b) (unless q (waits true (carry b) (closing (carry b) x)));
        store = changed_unless q
            (closing (carry b) x).out.store x;
      }
      ≡ carries (before.finish_next w q)
  unfolding before.finish_next
  finish-next zero = refl
  finish-next (suc q) = refl

  look-event : (q v : ℕ) → looked (unless q (awaited v (carry b))) ≡ looked (unless q (before.awaited v b))
  look-event q zero = refl
  look-event q (suc v) = refl

  call-event : (k : Call) → event k (carries w) ≡ before.event k w
  unfolding event before.event offer_reply draw_reply draw_area waits_reply finish_reply before.draw_event
  call-event (offer n run) = rw (same-offer b n (length run)) (offer-event run (before.offer_question b n (length run)) _ (same-offered b.level run b x))
  call-event (draw n a) = rw (same-draw b n a.size) (draw-event a (before.draw_question b n a.size) b.level)
  call-event (finish n) = rw (same-finish b n) (finish-event (before.finish_question b n))
  call-event look = rw (same-look b) (look-event (before.look_question b) b.level)

  call_next : (k : Call) → next k (carries w) ≡ carries (before.next k w)
  unfolding next before.next offer_reply offer_store draw_reply draw_store finish_reply finish_store before.draw_next
  call_next (offer n run) = rw (same-offer b n (length run)) (offer-next run (before.offer_question b n (length run)) _ (same-offered b.level run b x))
  call_next (draw n a) = rw (same-draw b n a.size) (draw-next (before.draw_question b n a.size) b.level)
  call_next (finish n) = rw (same-finish b n) (finish-next (before.finish_question b n))
  call_next look = refl

-- ---- every list of calls
list-events : (cs : List Call) (w : before.World) → events cs (carries w) ≡ before.events cs w
unfolding lists.events
list-events [] w = refl
list-events (k ∷ cs) w =
    ap₂ (λ e l. e ∷ l) (call-event w.writer w.store k)
    (ap (events cs) (call_next w.writer w.store k) ∙ list-events cs (before.next k w))

list-final : (cs : List Call) (w : before.World) → final cs (carries w) ≡ carries (before.final cs w)
unfolding lists.final
list-final [] w = refl
list-final (k ∷ cs) w = ap (final cs) (call_next w.writer w.store k) ∙ list-final cs (before.next k w)

fresh-carries : (f : ℕ) (W : Side) (top L n : ℕ) (x : Memory) → fresh_world f W top L n x ≡ carries (before.fresh_world f W top L n x)
fresh-carries f W top L n x = ap (λ s. record { writer = s; store = set_up_store f W L n x }) (fresh-st f W top L)

-- ---- the theorems: of a set-up of the filter of number f, the columns W, rows that start at `top`, and L levels on a store of n numbers in which x stood,
-- and any list of calls
pub same-events : (f : ℕ) (W : Side) (top L n : ℕ) (x : Memory) (cs : List Call) →
    events cs (fresh_world f W top L n x) ≡ before.events cs (before.fresh_world f W top L n x)
same-events f W top L n x cs = ap (events cs) (fresh-carries f W top L n x) ∙ list-events cs (before.fresh_world f W top L n x)

same-final : (f : ℕ) (W : Side) (top L n : ℕ) (x : Memory) (cs : List Call) →
    final cs (fresh_world f W top L n x) ≡ carries (before.final cs (before.fresh_world f W top L n x))
same-final f W top L n x cs = ap (final cs) (fresh-carries f W top L n x) ∙ list-final cs (before.fresh_world f W top L n x)

pub same_store : (f : ℕ) (W : Side) (top L n : ℕ) (x : Memory) (cs : List Call) →
    (final cs (fresh_world f W top L n x)).store ≡ (before.final cs (before.fresh_world f W top L n x)).store
same_store f W top L n x cs = ap (λ w. w.store) (same-final f W top L n x cs)

-- of a set-up that passed
pub offset_is : (f : ℕ) (W : Side) (top L n : ℕ) (x : Memory) → W.start ≤ max_origin → top ≤ max_origin → set_up_question f W L n ≡ 0 → (cs : List Call) →
    (let s = (final cs (fresh_world f W top L n x)).writer in s.offset ≡ start_of f W s.level)
offset_is f W top L n x from low h cs =
    let e = same-final f W top L n x cs in
    let k = set-up-stays f W top L n x from low h cs in
    let v = (final cs (fresh_world f W top L n x)).writer.level in
    ap (λ w. w.writer.offset) e
    ∙ sym (ap (λ w. start_of w.writer.filter (columns_of w.writer) w.writer.level) e)
    ∙ ap₂ (λ i S. start_of i S v) k.0 k.1
