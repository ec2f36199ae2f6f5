-- A list of C calls on a tolerant reader's array shows what the list of Rattle's calls shows, after a set-up that answered 0; what is said of those holds of it
-- (`tolerant-c`). Assumes nothing.
use mathlib.Core.Bool.{Bool, true, false}
use mathlib.Core.Path.{◌≡◌, refl, ap, ◌∙◌}
use mathlib.Core.List.{List}
use Prim.Native.Nat.{ℕ}
use lib.Dec.{eqb}
use borrow.Author.Tests.{eqb-true}
use Rattle.numbers.specs.Signal.{pick}
use Rattle.calls.specs.Lists.{Mixed, mine}
use Rattle.reader.specs.Answers.{gives, refused, number}
use Rattle.reader.specs.Questions.{tolerant_question}
use Rattle.reader.specs.Calls.{fresh_tolerant, tolerant_reply, set_up_store}
use Rattle.reader.specs.Demand3.{final}
use Rattle.rounding_error.specs.Tolerant.{tolerant_world}
use Rattle.rounding_error.proofs.TolerantLists.{tolerant-calls}
use Rattle.rounding_error.proofs.RoundedCalls.{rounded-calls}
use Rattle.terrain.specs.Memories.{Memories}
use Rattle.terrain.specs.ReaderLists.{CCall, Stray, shows, seen_all, leaves_all, holding, calls}
use Rattle.terrain.specs.TolerantLists.{set_up_asked, set_up, OfCalls}
use Rattle.terrain.proofs.ReaderListsHold.{shows-told, reader-lists, reader-left}

module _ (W H L n : ℕ) where
  passed : set_up_asked W H L n ≡ 0 → tolerant_question W H L n ≡ 0
  unfolding tolerant_reply
  passed = go (tolerant_question W H L n)
    where
      go : (q : ℕ) → number (pick (eqb q 0) (gives (fresh_tolerant W H L)) (refused q)) ≡ 0 → q ≡ 0
      go q = by (eqb q 0) refl
        where
          by : (t : Bool) → eqb q 0 ≡ t → number (pick t (gives (fresh_tolerant W H L)) (refused q)) ≡ 0 → q ≡ 0
          by true z e = eqb-true q 0 z
          by false z e = e

  set-up-fresh : (m : Memories) → set_up_asked W H L n ≡ 0 → set_up W H L n m ≡ holding (tolerant_world W H L m.store)
  set-up-fresh m e = let z = passed e in unfold tolerant_reply set_up_store in rw z refl

  pub tolerant-c : set_up_asked W H L n ≡ 0 → (m : Memories) (ds : List (Mixed CCall Stray)) → OfCalls W H L n m ds
  tolerant-c e m ds =
      let w = tolerant_world W H L m.store in
      let fresh = set-up-fresh m e in
      let left = ap (leaves_all ds) fresh ∙ reader-left ds w in
      record {
        set-up = fresh;
        shown = ap (seen_all ds) fresh ∙ reader-lists ds w;
        claim = tolerant-calls W H L n (passed e) m.store (calls ds);
        rounded = λ q some g x has. rounded-calls W H L n q (passed e) some g x has m.store (calls ds);
        next = λ d. ap (shows (mine d)) left ∙ shows-told (final (calls ds) w) d;
        left = left;
      }
