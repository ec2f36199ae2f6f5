-- Demand 1 of the set-up with a stop and of the size of a level: `stop-calls`. Assumes nothing.
use mathlib.Core.Path.{◌≡◌, refl, subst, sym, ◌∙◌}
use mathlib.Core.Bool.{Bool, true, false}
use mathlib.Core.List.{List}
use Prim.Native.Nat.{ℕ}
use lib.Dec.{eqb}
use borrow.Author.Tests.{eqb-true}
use Rattle.numbers.specs.Signal.{pick}
use Rattle.lifting.specs.Grid.{Side}
use Rattle.wavelet.specs.Asks.{needed}
use Rattle.wavelet.specs.Levels.{side_at}
use Rattle.filters.specs.Figures.{store_by}
use Rattle.calls.specs.Lists.{gives, refused}
use Rattle.reader.specs.Answers.{number}
use Rattle.reader.specs.Store.{zeroed}
use Rattle.reader.specs.Questions.{stop_question, level_question}
use Rattle.reader.specs.Calls.{set_up_store}
use Rattle.reader.specs.Stops.{fresh_at, stop_reply, size_reply}
use Rattle.reader.specs.StopAsks.{StopAsks, SizeAsks}
use Rattle.reader.proofs.StopPasses.{stop-asks, stop-passes, size-asks, size-passes}
use Rattle.terrain.specs.ReaderCalls as c
use Rattle.level.specs.Level.{Memory}
use Rattle.demand_1.specs.Words.{Kept, Zeroed}
use Rattle.demand_1.specs.Stops.{StopSetUp, Size, StopCalls}
use Rattle.demand_1.proofs.WordLaws.{kept, on-pass}
use Rattle.demand_1.proofs.Readers.{plain, plain-number, plain-kept, zeroed-own}

set-up-of : (f : ℕ) (W H : Side) (L j n : ℕ) (x : Memory) (s : List ℕ) → StopSetUp f W H L j n x s
unfolding stop_reply set_up_store
set-up-of f W H L j n x s = record {
  answer = subst (StopAsks f W H L j n) (sym number_is) (stop-asks f W H L j n);
  passes = let p = stop-passes f W H L j n in (λ e. p.0 (sym number_is ∙ e), λ h. number_is ∙ p.1 h);
  store = λ h. kept q _ x (λ e. h (number_is ∙ e));
  array = plain-kept q (fresh_at f W H L j) (λ r. c.state_of r s) s (λ q. refl);
  passed = λ e. subst (Zeroed (needed f W L) x) (sym (on-pass q (zeroed (store_by f W L) x) x (sym number_is ∙ e))) (zeroed-own f W L x);
}
  where
    q : ℕ
    q = stop_question f W H L j n

    number_is : number (plain q (fresh_at f W H L j)) ≡ q
    number_is = plain-number q (fresh_at f W H L j)

-- ---- a size, w and h being the low-low part's
module _ (q w h a b : ℕ) where
  size-number : c.size_number (pick (eqb q 0) (gives (w, h)) (refused q)) ≡ q
  size-number = go (eqb q 0) refl
    where
      go : (t : Bool) → eqb q 0 ≡ t → c.size_number (pick t (gives (w, h)) (refused q)) ≡ q
      go true e = sym (eqb-true q 0 e)
      go false e = refl

  columns-kept : Kept (c.size_number (pick (eqb q 0) (gives (w, h)) (refused q))) a (c.columns_of (pick (eqb q 0) (gives (w, h)) (refused q)) a)
  columns-kept n = go (eqb q 0) n
    where
      go : (t : Bool) → (c.size_number (pick t (gives (w, h)) (refused q)) ≡ 0 → ⊥) → c.columns_of (pick t (gives (w, h)) (refused q)) a ≡ a
      go true n = absurd (n refl)
      go false n = refl

  rows-kept : Kept (c.size_number (pick (eqb q 0) (gives (w, h)) (refused q))) b (c.rows_of (pick (eqb q 0) (gives (w, h)) (refused q)) b)
  rows-kept n = go (eqb q 0) n
    where
      go : (t : Bool) → (c.size_number (pick t (gives (w, h)) (refused q)) ≡ 0 → ⊥) → c.rows_of (pick t (gives (w, h)) (refused q)) b ≡ b
      go true n = absurd (n refl)
      go false n = refl

  size-given : q ≡ 0 →
      (c.columns_of (pick (eqb q 0) (gives (w, h)) (refused q)) a ≡ w) × (c.rows_of (pick (eqb q 0) (gives (w, h)) (refused q)) b ≡ h)
  size-given e = (rw e refl, rw e refl)

size_of : (f : ℕ) (W H : Side) (L k a b : ℕ) → Size f W H L k a b
unfolding size_reply
size_of f W H L k a b = record {
  answer = subst (SizeAsks f W.length H.length L k) (sym number_is) (size-asks f W.length H.length L k);
  passes = let p = size-passes f W.length H.length L k in (λ e. p.0 (sym number_is ∙ e), λ h. number_is ∙ p.1 h);
  columns = columns-kept q (side_at k W).length (side_at k H).length a b;
  rows = rows-kept q (side_at k W).length (side_at k H).length a b;
  passed = λ e. size-given q (side_at k W).length (side_at k H).length a b (sym number_is ∙ e);
}
  where
    q : ℕ
    q = level_question f W.length H.length L k

    number_is : c.size_number (pick (eqb q 0) (gives ((side_at k W).length, (side_at k H).length)) (refused q)) ≡ q
    number_is = size-number q (side_at k W).length (side_at k H).length a b

pub stop-calls : StopCalls
stop-calls = record { set-up = set-up-of; size = size_of }
