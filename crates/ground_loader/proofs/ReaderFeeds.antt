-- A row fed to the loader's reader, by the reader's own answer: it goes on, 7 turns it away, or 14 ends it (`feed-seen`). Assumes nothing.
use mathlib.Core.Path.{◌≡◌, refl, sym, ap, ◌∙◌, subst}
use mathlib.Core.Bool.{Bool, true, false}
use mathlib.Core.List.{List, [], ◌∷◌, ◌++◌}
use Prim.Native.Nat.{ℕ, suc, ◌≤◌}
use native.Mathlib.Omega.{arith}
use lib.IntN.{ℤ}
use lib.Dec.{T, eqb}
use borrow.Author.Tests.{le-leb, eq-eqb}
use Rattle.numbers.specs.Signal.{pick}
use Rattle.lifting.specs.Grid.{Side}
use Rattle.wavelet.specs.Order.{RowName}
use Rattle.wavelet.specs.Steps.{Step}
use Rattle.wavelet.specs.Steps as step
use Rattle.calls.specs.Lists.{gives, refused, Area}
use Rattle.filters.specs.Figures.{store_by}
use Rattle.reader.specs.declared.Reader.{Reader}
use Rattle.reader.specs.Answers as answer
use Rattle.reader.specs.State.{fed_reader, ended_reader}
use Rattle.reader.specs.Questions.{run_fits, store_fits}
use Rattle.reader.specs.Calls as calls
use Rattle.reader.specs.Reading.{feed_question, feed_reply, feed_store}
use Rattle.reader.specs.Demand3.{Event, fed, feed, left, said, leaves, feed_away, feed_turned, OneOf, this, that}
use Rattle.reader.specs.Demand3 as demand
use Rattle.reader.proofs.CallViews.{Limits}
use Rattle.reader.proofs.Reached.{reached}
use Rattle.reader.proofs.CallLists.{Then, step-reached}
use Rattle.reader.proofs.Demand3.{claim}
use Rattle.ground_loader.proofs.LoaderState.{T₀, Came, columns_of}

module _ (f : ℕ) (W H : Side) (l : ℕ) (lim : Limits 0 f 0 0 W H l) where
  -- 14 is told with the reader that it ended
  not-fourteen : (s : Reader) (q : ℕ) → calls.feed_reply s q ≡ answer.refused 14 → ⊥
  unfolding calls.feed_reply
  not-fourteen s q e = go (eqb q 0) (eqb q 14) refl e
    where
      go : (t u : Bool) → eqb q 14 ≡ u
          → pick t (answer.gives (fed_reader s)) (pick u (answer.impossible (ended_reader s)) (answer.refused q)) ≡ answer.refused 14 → ⊥
      go true u z e = let p : ◌≡◌ {A = ℕ} 0 1 = cc in omega arith
      go false true z e = let p : ◌≡◌ {A = ℕ} 0 1 = cc in omega arith
      go false false z e = let p : q ≡ 14 = cc in subst T (sym (eq-eqb q 14 p) ∙ z) tt

  never_fourteen : (es : List Event) (w : demand.World) → Then 0 f 0 0 W H l lim es w → (q : ℕ) → feed_reply w.reader q ≡ answer.refused 14 → ⊥
  never_fourteen es _ (reached d p e x t fs ds kept) q z = not-fourteen _ q z

  module _ (es : List Event) (r : Reader) (x : ℕ → ℤ) (n : ℕ) (a : Area) where
    abbrev asked : ℕ
    asked = feed_question r n x a.size a.numbers

    abbrev after : ℕ → ℤ
    after = feed_store r asked a.numbers x

    pub data FeedSeen (q : RowName) : answer.Reply Reader → Type 0 where
      passes : (t : Reader) → Came f W H l lim (es ++ (fed a (gives tt) ∷ [])) t after → FeedSeen q (answer.gives t)
      seven : run_fits f q.level a.size a.numbers ≡ false → FeedSeen q (answer.refused 7)
      fourteen : (t : Reader) → Came f W H l lim (es ++ (fed a (refused 14) ∷ [])) t after → FeedSeen q (answer.impossible t)

    module _ (came : Came f W H l lim es r x) where
      abbrev w : demand.World
      w = record { reader = r; store = x }

      goes_to : (v : answer.Reply Reader) → feed_reply r asked ≡ v
          → Then 0 f 0 0 W H l lim (es ++ (fed a (said (λ _. tt) v) ∷ [])) (record { reader = leaves (λ t. t) r v; store = after })
      unfolding demand.event demand.next
      goes_to v e =
          subst (λ u. Then 0 f 0 0 W H l lim (es ++ (fed a (said (λ _. tt) u) ∷ [])) (record { reader = leaves (λ t. t) r u; store = after })) e
          (step-reached 0 f 0 0 W H l lim (feed n a) es w came)

      seen-is : (v : answer.Reply Reader) → feed_reply r asked ≡ v → demand.event (feed n a) w ≡ fed a (said (λ _. tt) v)
      unfolding demand.event
      seen-is v e = ap (λ u. fed a (said (λ _. tt) u)) e

      module _ (q : RowName) (t : List Step) (live : demand.ended_by es ≡ false) (head : left (T₀ f W H l lim) es ≡ step.feed q ∷ t)
          (long : a.size ≡ columns_of f W H l lim q) (room : store_by f W (suc l) ≤ n) where
        turned-is : (b : Bool) → run_fits f q.level a.size a.numbers ≡ b
            → feed_turned f 0 W (store_by f W (suc l)) (demand.ended_by es) (left (T₀ f W H l lim) es) n a ≡ pick b 0 7
        unfolding feed_turned feed_away store_fits
        turned-is b e = rw (live, head, le-leb (store_by f W (suc l)) n room, eq-eqb a.size (columns_of f W H l lim q) long, e) refl

        other : (k : ℕ) → feed_reply r asked ≡ answer.refused k → (b : Bool) → run_fits f q.level a.size a.numbers ≡ b → FeedSeen q (answer.refused k)
        other k e true z = absurd (go ((claim f 0 0 W H l lim w es came).1.feeds_on n a (turned-is true z)))
          where
            go : OneOf (demand.event (feed n a) w) (fed a (gives tt)) (fed a (refused 14)) → ⊥
            go (this u) = let v = sym (seen-is (answer.refused k) e) ∙ u in let p : ◌≡◌ {A = ℕ} 0 1 = cc in omega arith
            go (that u) =
                let v = sym (seen-is (answer.refused k) e) ∙ u in
                let p : k ≡ 14 = cc in
                never_fourteen es w came asked (e ∙ ap answer.refused p)
        other k e false z =
            let u = (claim f 0 0 W H l lim w es came).1.feeds_turned n a 6 (turned-is false z) in
            let v = sym (seen-is (answer.refused k) e) ∙ u in
            let p : k ≡ 7 = cc in
            subst (λ i. FeedSeen q (answer.refused i)) (sym p) (seven z)

        pub feed-seen : FeedSeen q (feed_reply r asked)
        feed-seen = go (feed_reply r asked) refl
          where
            go : (v : answer.Reply Reader) → feed_reply r asked ≡ v → FeedSeen q v
            go (answer.gives u) e = passes u (goes_to (answer.gives u) e)
            go (answer.refused k) e = other k e (run_fits f q.level a.size a.numbers) refl
            go (answer.impossible u) e = fourteen u (goes_to (answer.impossible u) e)
