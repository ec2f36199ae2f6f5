-- A run of the writer leaves what stands past the needed part of its line store: `run-surplus`. Assumes nothing.
use mathlib.Core.Path.{◌≡◌, refl, ◌∙◌}
use mathlib.Core.Bool.{Bool, true, false}
use mathlib.Core.List.{List, [], ◌∷◌}
use Prim.Native.Nat.{ℕ, zero, suc, ◌+◌, ◌-◌, ◌/◌, ◌≤◌}
use native.Mathlib.Omega.{arith}
use lib.Dec.{ltb, eqb}
use lib.ListN.{length}
use Rattle.numbers.specs.Signal.{pick}
use Rattle.calls.specs.Lists.{gives, refused, unless, Area}
use Rattle.level.specs.Level.{Memory, LevelKind}
use Rattle.filters.specs.Figures.{writer_store_by}
use Rattle.writer.specs.declared.Writer.{Writer}
use Rattle.writer.specs.Answers.{nothing}
use Rattle.writer.specs.Taking.{kind, columns_of, Taking, takes, begun, complete, none, height_put, row_makes, offering}
use Rattle.writer.specs.Spare.{holding, moving, moved_on}
use Rattle.writer.specs.Questions.{offer_question, draw_question}
use Rattle.writer.specs.Calls.{waits, after_draw, took, offered_at, handed, offer_reply, draw_reply}
use Rattle.writer.specs.Holds.{left, after}
use Rattle.writer.specs.History.{offer, draw, row, Event, offered, drew, finished, looked, World, event, next}
use Rattle.writer.specs.History as history
use Rattle.writer.specs.Runs.{Run, noted, row_left, area_left, call_of, due, after_call, ran, begin, run_of, run_turned, run_reply, left_by}
use Rattle.writer.proofs.Surplus.{offer-surplus, draw_surplus}

-- the numbers of the store that a writer needs
abbrev need : Writer → ℕ
need s = writer_store_by s.filter (columns_of s) s.levels

-- ---- they stay the same: heights offered
pick-need : (m : ℕ) (t : Bool) (a b : Taking) → need a.writer ≡ m → need b.writer ≡ m → need (pick t a b).writer ≡ m
pick-need m true a b e f = e
pick-need m false a b e f = f

offering-need : (K : LevelKind) (run : List ℕ) (s : Writer) (x : Memory) → need (offering K run s x).writer ≡ need s
unfolding offering
offering-need K [] s x = refl
offering-need K (h ∷ run) s x =
    let y = height_put K h s x in
    let o = row_makes K s y in
    pick-need (need s) (takes s) _ (none s x)
    (pick-need (need s) (ltb (s.column + 1) s.width) (offering K run (begun s) y) (offering K run (complete s o) o.store)
    (offering-need K run (begun s) y) (offering-need K run (complete s o) o.store)) refl

offered-need : (v : ℕ) (run : List ℕ) (s : Writer) (x : Memory) → need (offered_at v run s x).writer ≡ need s
unfolding holding
offered-need zero run s x = offering-need (kind s) run s x
offered-need (suc v) run s x = refl

-- and a row drawn
moving-need : (s : Writer) (x : Memory) → need (moving s x).writer ≡ need s
unfolding moving
moving-need s x = pick-need (need s) (ltb s.column s.width) _ _ refl refl

moved-need : (v : ℕ) (s : Writer) (x : Memory) → need (moved_on v s x).writer ≡ need s
unfolding moved_on
moved-need zero s x = moving-need s x
moved-need (suc v) s x = refl

handed-need : (v : ℕ) (s : Writer) (x : Memory) → need (after s (handed v s x)) ≡ need s
handed-need zero s x = refl
handed-need (suc v) s x = moved-need (after_draw s x).out.level (waits s.finished s (after_draw s x)) (after_draw s x).out.store

offer-need : (n : ℕ) (run : List ℕ) (w : World) → need (next (offer n run) w).writer ≡ need w.writer
unfolding next offer_reply
offer-need n run w = go (offer_question w.writer n (length run))
  where
    go : (q : ℕ) → need (left (λ t. t.writer) w.writer (unless q (took (offered_at w.writer.level run w.writer w.store)))) ≡ need w.writer
    go zero = offered-need w.writer.level run w.writer w.store
    go (suc q) = refl

draw-need : (n : ℕ) (a : Area) (w : World) → need (next (draw n a) w).writer ≡ need w.writer
unfolding next draw_reply
draw-need n a w = go (draw_question w.writer n a.size)
  where
    go : (q : ℕ) → need (left (after w.writer) w.writer (unless q (handed w.writer.level w.writer w.store))) ≡ need w.writer
    go zero = handed-need w.writer.level w.writer w.store
    go (suc q) = refl

-- ---- one call of the run
record Kept (w v : World) : Type 0 where
  same : need v.writer ≡ need w.writer
  past : (j : ℕ) → need w.writer ≤ j → v.store j ≡ w.store j

keeps : (w : World) → Kept w w
keeps w = record { same = refl; past = λ j h. refl }

module _ (n : ℕ) (hs : List ℕ) (k m : ℕ) (p : Run) where
  called : Kept p.world (next (call_of n hs k m p) p.world)
  unfolding call_of
  called = go (eqb p.world.writer.level 0)
    where
      go : (t : Bool) → Kept p.world (next (pick t (offer n (row_left n hs k m p)) (draw n (area_left n hs k m p))) p.world)
      go true = record {
        same = offer-need n (row_left n hs k m p) p.world;
        past = λ j h. unfold next in offer-surplus p.world.writer n (row_left n hs k m p) p.world.store j h;
      }
      go false = record {
        same = draw-need n (area_left n hs k m p) p.world;
        past = λ j h. unfold next in draw_surplus p.world.writer n (k - p.numbers) p.world.store j h;
      }

  noted-world : (v : World) (e : Event) → Kept p.world v → Kept p.world (noted p v e).world
  unfolding noted
  noted-world v (offered run (gives j)) h = h
  noted-world v (offered run (refused q)) h = keeps p.world
  noted-world v (drew a (gives (row b)) c) h = h
  noted-world v (drew a (gives history.none) c) h = keeps p.world
  noted-world v (drew a (refused q) c) h = keeps p.world
  noted-world v (finished r) h = keeps p.world
  noted-world v (looked r) h = keeps p.world

  after_kept : Kept p.world (after_call n hs k m p).world
  unfolding after_call
  after_kept = noted-world _ (event (call_of n hs k m p) p.world) called

ran-past : (n : ℕ) (hs : List ℕ) (k m f : ℕ) (p : Run) (j : ℕ) → need p.world.writer ≤ j → (ran n hs k m f p).world.store j ≡ p.world.store j
unfolding ran
ran-past n hs k m zero p j h = refl
ran-past n hs k m (suc f) p j h =
    go (due n hs k m p) (λ y. ran-past n hs k m f (after_call n hs k m p) j y ∙ (after_kept n hs k m p).past j h)
  where
    go : (t : Bool) →
        (need (after_call n hs k m p).world.writer ≤ j → (ran n hs k m f (after_call n hs k m p)).world.store j ≡ p.world.store j) →
        (pick t (ran n hs k m f (after_call n hs k m p)) p).world.store j ≡ p.world.store j
    go false i = refl
    go true i = i (omega (arith, (after_kept n hs k m p).same))

pub run-surplus : (s : Writer) (n : ℕ) (hs : List ℕ) (k : ℕ) (x z : Memory) (l : List ℕ) (j : ℕ) → need s ≤ j →
    left_by (λ p. p.world.store) x (run_reply s n hs k x z l) j ≡ x j
unfolding run_reply run_of
run-surplus s n hs k x z l j h = go (run_turned s n hs (run_of s n hs k x z l))
  where
    go : (q : ℕ) → left_by (λ p. p.world.store) x (unless q (run_of s n hs k x z l)) j ≡ x j
    go zero = ran-past n hs k (length l / 4) (length hs + length l / 4) (begin s x z l) j h
    go (suc q) = refl
