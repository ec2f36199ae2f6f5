-- What a writer's store holds is in its needed part, the levels' stretches and the spare row: the same holds whatever stands past it (`found-reached`). So
-- demand 3 holds of every list of calls in which each finds numbers of its own there (`any-past`). Assumes nothing.
use mathlib.Core.Bool.{true}
use mathlib.Core.Path.{◌≡◌, ap, ◌∙◌}
use mathlib.Core.List.{List, [], ◌∷◌, ◌++◌}
use Prim.Native.Nat.{ℕ, zero, suc, ◌+◌, ◌≤◌, ◌<◌}
use native.Mathlib.Omega.{arith}
use borrow.Author.Tests.{lt-ltb}
use Rattle.lifting.specs.Grid.{Side}
use Rattle.lifting.specs.Halves.{fronted}
use Rattle.wavelet.specs.Limits.{max_origin}
use Rattle.calls.specs.Lists as lists
use Rattle.calls.proofs.ListLaws.{list-reached}
use Rattle.level.specs.Level.{Memory}
use Rattle.filters.specs.Figures.{store_by, writer_store_by, streamable}
use Rattle.filters.proofs.FigureLaws.{streams}
use Rattle.writer.specs.Taking.{columns_of}
use Rattle.writer.specs.Questions.{in_ranges, set_up_question}
use Rattle.writer.specs.History.{Event, World, event, fresh_world, finished_by, drawn}
use Rattle.writer.specs.Demand3.{Demand3}
use Rattle.writer.specs.Past.{Lent, found, lent_event, lent_next}
use Rattle.writer.proofs.AtReads.{at_reads}
use Rattle.writer.proofs.CallLaws.{set-up-passed}
use Rattle.writer.proofs.SpareList.{Held}
use Rattle.writer.proofs.Reached.{Reached, step-reached, fresh-reached}
use Rattle.writer.proofs.Demand3.{reached-claim, some_level}

-- ---- every list
module _ (f l : ℕ) (W : Side) (top : ℕ) (from : W.start ≤ max_origin) (low : top ≤ max_origin) (sized : streamable f W (suc l) ≡ true) where
  abbrev Then : List Event → World → Type 0
  Then = Reached f l W top from low sized

  found-reached : (es : List Event) (w : World) (p : Memory) → Then es w → Then es (found p w)
  found-reached es w p m = record {
    rows = m.rows;
    column = m.column;
    closed = m.closed;
    level = m.level;
    rest = m.rest;
    writer-is = m.writer-is;
    at = record {
      moved = m.at.moved;
      held = m.at.held;
      taken_is = m.at.taken_is;
      at = record {
        at = at_reads f (suc l) W top _ _ _ m.rows _ m.closed m.level m.rest w.store (found p w).store (λ k h. same k (omega arith)) h.at;
        count = h.count;
        row = λ j q. same (store_by f W (suc l) + j) (omega (arith, h.few)) ∙ h.row j q;
        few = h.few;
        may = h.may;
      };
    };
  }
    where
      h : Held f l W top m.at.moved m.at.held (finished_by es) (drawn es) m.rows m.column m.closed m.level m.rest w.store
      h = m.at.at

      need : writer_store_by w.writer.filter (columns_of w.writer) w.writer.levels ≡ writer_store_by f W (suc l)
      need = ap (λ s. writer_store_by s.filter (columns_of s) s.levels) m.writer-is

      same : (k : ℕ) → k < writer_store_by f W (suc l) → (found p w).store k ≡ w.store k
      same k h = unfold fronted in simp (lt-ltb k (writer_store_by w.writer.filter (columns_of w.writer) w.writer.levels) (omega (arith, need)))

  lent-reached : (d : Lent) (es : List Event) (w : World) → Then es w → Then (es ++ (lent_event d w ∷ [])) (lent_next d w)
  unfolding lent_event lent_next
  lent-reached d es w m = step-reached f l W top from low sized d.call es (found d.past w) (found-reached es w d.past m)

-- a set-up that passed, then any calls, and a further one, whatever each finds past the needed part
pub any-past : (f : ℕ) (W : Side) (top L n : ℕ) (x : Memory) → W.start ≤ max_origin → top ≤ max_origin → set_up_question f W L n ≡ 0 → (ds : List Lent)
    (p : Memory) →
    (let w = fresh_world f W top L n x in let e = lists.final lent_next ds w in
    (in_ranges e.writer ≡ true) × Demand3 f W top L (lists.events lent_event lent_next ds w) (λ k. event k (found p e)))
any-past f W top zero n x from low h ds p = absurd (some_level f W (set-up-passed f W 0 n h).0)
any-past f W top (suc l) n x from low h ds p =
    let s = set-up-passed f W (suc l) n h in
    let w = fresh_world f W top (suc l) n x in
    let e = lists.final lent_next ds w in
    let es = lists.events lent_event lent_next ds w in
    reached-claim f l W top from low s.0 es (found p e)
    (found-reached f l W top from low s.0 es e p
    (list-reached lent_event lent_next (Reached f l W top from low s.0) (lent-reached f l W top from low s.0) ds [] w
    (fresh-reached f l W top from low s.0 w.store (streams f W (suc l) s.0).width.0)))
