-- Demand 1 of the tolerant reader: `tolerant-calls`. Assumes nothing.
use mathlib.Core.Path.{◌≡◌, refl, subst, sym, ◌∙◌}
use mathlib.Core.Bool.{Bool, true, false}
use mathlib.Core.List.{List}
use Prim.Native.Nat.{ℕ}
use native.Mathlib.Omega.{arith}
use Rattle.lifting.specs.Grid.{side}
use Rattle.filters.specs.Figures.{store_by}
use Rattle.wavelet.specs.Asks.{needed}
use Rattle.reader.specs.Answers.{number}
use Rattle.reader.specs.Store.{zeroed}
use Rattle.reader.specs.Questions.{tolerant_question}
use Rattle.reader.specs.Calls.{fresh_tolerant, tolerant_reply, set_up_store}
use Rattle.reader.specs.Tolerant.{TolerantAsks}
use Rattle.reader.proofs.TolerantAnswers.{tolerant-asks, tolerant-passes, tolerates, never_ends}
use Rattle.states.specs.ReaderState.{is_reader, reader_of}
use Rattle.terrain.specs.ReaderCalls as c
use Rattle.level.specs.Level.{Memory}
use Rattle.demand_1.specs.Words.{Zeroed}
use Rattle.demand_1.specs.Tolerant.{TolerantSetUp, TolerantCalls}
use Rattle.demand_1.proofs.WordLaws.{kept, on-pass}
use Rattle.demand_1.proofs.Readers.{plain, plain-number, plain-kept, zeroed-own, reader-calls}

set-up-of : (w h L n : ℕ) (x : Memory) (s : List ℕ) → TolerantSetUp w h L n x s
unfolding tolerant_reply set_up_store
set-up-of w h L n x s = record {
  answer = subst (TolerantAsks w h L n) (sym number_is) (tolerant-asks w h L n);
  passes = let p = tolerant-passes w h L n in (λ e. p.0 (sym number_is ∙ e), λ h. number_is ∙ p.1 h);
  store = λ h. kept q _ x (λ e. h (number_is ∙ e));
  array = plain-kept q (fresh_tolerant w h L) (λ r. c.state_of r s) s (λ q. refl);
  passed = λ e. subst (Zeroed (needed 0 (side 0 w) L) x) (sym (on-pass q (zeroed (store_by 0 (side 0 w) L) x) x (sym number_is ∙ e)))
      (zeroed-own 0 (side 0 w) L x);
}
  where
    q : ℕ
    q = tolerant_question w h L n

    number_is : number (plain q (fresh_tolerant w h L)) ≡ q
    number_is = plain-number q (fresh_tolerant w h L)

-- an answer of C's is the reader's own, or 1
own-or-one : (q r p : ℕ) (t : Bool) → (t ≡ false → q ≡ 1) → (t ≡ true → q ≡ r) → (1 ≡ p → ⊥) → (r ≡ p → ⊥) → q ≡ p → ⊥
own-or-one q r p true other own a b e = b (sym (own refl) ∙ e)
own-or-one q r p false other own a b e = a (sym (other refl) ∙ e)

pub tolerant-calls : TolerantCalls
tolerant-calls = record {
  set-up = set-up-of;
  state = tolerates;
  never = never_ends;
  c_feed = λ s h n x m v.
      let d = reader-calls.c_feed s n x m v in
      let never = (never_ends (reader_of s) h).feed n x m v in (
        own-or-one _ _ 9 (is_reader s) d.other d.answer (λ e. omega arith) never.0,
        own-or-one _ _ 14 (is_reader s) d.other d.answer (λ e. omega arith) never.1,
      );
  c_draw = λ s h n x m.
      let d = reader-calls.c_draw s n x m x 0 in
      let never = (never_ends (reader_of s) h).draw n x m in (
        own-or-one _ _ 9 (is_reader s) d.other d.answer (λ e. omega arith) never.0,
        own-or-one _ _ 14 (is_reader s) d.other d.answer (λ e. omega arith) never.1,
      );
}
