-- The round trip in C: `c-hands-back` and `c-from-plane`, from round_trip's theorems and the lists of C calls. Assumes nothing.
use mathlib.Core.Path.{◌≡◌, refl, sym, ap, subst, ◌∙◌}
use mathlib.Core.List.{List, [], ◌∷◌, ◌++◌}
use Prim.Native.Nat.{ℕ, ◌≤◌}
use lib.IntN.{ℤ, pos}
use lib.ListN.{length, get_or}
use Rattle.lifting.specs.Grid.{Side}
use Rattle.wavelet.specs.Limits.{max_origin}
use Rattle.calls.specs.Lists.{gives, Area, Mixed, mine}
use Rattle.calls.specs.Lists as lists
use Rattle.writer.specs.Calls as writer
use Rattle.writer.specs.Questions as writer-asks
use Rattle.reader.specs.Answers.{done}
use Rattle.reader.specs.Calls as reader
use Rattle.reader.specs.Questions as reader-asks
use Rattle.reader.specs.Demand3.{Call, want, feed, draw, Event, wanted, World, event, events, final, fresh_world, drawn_by, drawn_rows, FirstRows}
use Rattle.reader.specs.Demand3 as demand
use Rattle.reader.specs.Played.{Back, Stopped, Refusal, seven, fed_fourteen, drawn_fourteen, after}
use Rattle.round_trip.specs.RoundTrip.{turns, plane_turns}
use Rattle.round_trip.proofs.RoundTripHolds.{hands-back, from-plane}
use Rattle.states.specs.WriterAnswers.{number}
use Rattle.terrain.specs.Memories.{Memories}
use Rattle.terrain.specs.WriterLists as writes
use Rattle.terrain.specs.ReaderLists as reads
use Rattle.terrain.specs.RoundTrips.{unasked, read_c, then_c, DoneC, AsWanted, FromPlaneC, H, TripC, HandsBackC}
use Rattle.terrain.proofs.WriterListsHold.{writer-c}
use Rattle.terrain.proofs.ReaderListsHold.{passed, reader-c}

-- ---- wants change nothing
unasked-final : (cs : List Call) (w : World) → final cs w ≡ final (unasked cs) w
unfolding lists.final unasked demand.next
unasked-final [] w = refl
unasked-final (want ∷ cs) w = unasked-final cs w
unasked-final (feed n a ∷ cs) w = unasked-final cs (demand.next (feed n a) w)
unasked-final (draw n a ∷ cs) w = unasked-final cs (demand.next (draw n a) w)

unasked-drawn : (cs : List Call) (w : World) → drawn_rows (events cs w) ≡ drawn_rows (events (unasked cs) w)
unfolding lists.events lists.gathered unasked event drawn_by demand.next
unasked-drawn [] w = refl
unasked-drawn (want ∷ cs) w = unasked-drawn cs w
unasked-drawn (feed n a ∷ cs) w = ap (λ l. drawn_by (event (feed n a) w) ++ l) (unasked-drawn cs (demand.next (feed n a) w))
unasked-drawn (draw n a ∷ cs) w = ap (λ l. drawn_by (event (draw n a) w) ++ l) (unasked-drawn cs (demand.next (draw n a) w))

refusal-on : (e : Event) (es fs : List Event) → (Refusal es → Refusal fs) → Refusal (e ∷ es) → Refusal (e ∷ fs)
refusal-on _ es fs f seven = seven
refusal-on _ es fs f fed_fourteen = fed_fourteen
refusal-on _ es fs f drawn_fourteen = drawn_fourteen
refusal-on e es fs f (after r) = after (f r)

unasked-refusal : (cs : List Call) (w : World) → Refusal (events (unasked cs) w) → Refusal (events cs w)
unfolding lists.events unasked demand.next
unasked-refusal [] w r = r
unasked-refusal (want ∷ cs) w r = after (unasked-refusal cs w r)
unasked-refusal (feed n a ∷ cs) w r = refusal-on (event (feed n a) w) _ _ (unasked-refusal cs (demand.next (feed n a) w)) r
unasked-refusal (draw n a ∷ cs) w r = refusal-on (event (draw n a) w) _ _ (unasked-refusal cs (demand.next (draw n a) w)) r

-- ---- a list rs whose calls, but for the wants, are cs
module _ (f : ℕ) (W H : Side) (L n : ℕ) (m : Memories) (rs : List (Mixed reads.CCall reads.Stray)) (cs : List Call)
    (same : unasked (reads.calls rs) ≡ cs) where
  abbrev w₀ : World
  w₀ = fresh_world f 0 0 W H L m.store

  world_is : final (reads.calls rs) w₀ ≡ final cs w₀
  world_is = unasked-final (reads.calls rs) w₀ ∙ ap (λ k. final k w₀) same

  rows_are : drawn_rows (read_c f W H L n m rs) ≡ drawn_rows (events cs w₀)
  rows_are = unasked-drawn (reads.calls rs) w₀ ∙ ap (λ k. drawn_rows (events k w₀)) same

  then_is : (c : Call) → then_c f W H L n m rs c ≡ event c (final cs w₀)
  then_is c = ap (event c) world_is

  done-shown : reads.OfCalls f W H L n m rs → event want (final cs w₀) ≡ wanted (gives done) → DoneC f W H L n m rs
  unfolding reads.told
  done-shown lists says d is = lists.next d ∙ ap (reads.tell d) (ap (then_c f W H L n m rs) is ∙ then_is want ∙ says)

  refusal_is : Refusal (events cs w₀) → Refusal (read_c f W H L n m rs)
  refusal_is r = unasked-refusal (reads.calls rs) w₀ (subst (λ k. Refusal (events k w₀)) (sym same) r)

-- ---- the theorems
writer-answers : (f : ℕ) (W : Side) (s L n : ℕ) → writer-asks.set_up_question f W L n ≡ 0 → number (writer.set_up_reply f W s L n) ≡ 0
unfolding writer.set_up_reply
writer-answers f W s L n e = rw e refl

reader-answers : (f : ℕ) (W H : Side) (L n : ℕ) → reader-asks.set_up_question f W H L n ≡ 0 → reads.set_up_asked f W H L n ≡ 0
unfolding reader.set_up_reply
reader-answers f W H L n e = rw e refl

pub c-from-plane : (f : ℕ) (W H : Side) (L n : ℕ) (m : Memories) (plane : ℕ → ℤ) (outs : ℕ → Area) (rs : List (Mixed reads.CCall reads.Stray)) →
    W.start ≤ max_origin → H.start ≤ max_origin → reads.set_up_asked f W H L n ≡ 0 → ((i : ℕ) → W.length ≤ (outs i).size) →
    AsWanted f W H L n m rs plane outs → FromPlaneC f W H L n m rs plane outs
c-from-plane f W H L n m plane outs rs across down ok room same =
    let p = from-plane f W H L n m.store plane outs across down (passed f W H L n ok) room in
    let lists = reader-c f W H L n across down ok m rs in
    let cs = plane_turns f W H L n m.store plane outs in
    record {
      lists = lists;
      map-back = λ g has.
          let b = p.map-back g has in (
            record {
              all = ap length (rows_are f W H L n m rs cs same) ∙ b.all;
              heights = subst (FirstRows 0 W g) (sym (rows_are f W H L n m rs cs same)) b.heights;
              says = then_is f W H L n m rs cs same want ∙ b.says;
            },
            done-shown f W H L n m rs cs same lists b.says,
          );
      no_map = λ none_has.
          let b = p.no_map none_has in
          record {
            refusal = refusal_is f W H L n m rs cs same b.refusal;
            not_done = λ z. b.not_done (sym (then_is f W H L n m rs cs same want) ∙ z);
          };
    }

pub c-hands-back : (f : ℕ) (W : Side) (s L n : ℕ) (m : Memories) (ds : List (Mixed writes.CCall writes.Stray)) (n' : ℕ) (m' : Memories) (outs : ℕ → Area)
    (rs : List (Mixed reads.CCall reads.Stray)) → TripC f W s L n m ds n' m' outs rs → HandsBackC f W s L n m ds n' m' outs rs
c-hands-back f W s L n m ds n' m' outs rs trip =
    let b = hands-back f W s L n m.store (writes.calls ds) trip.finished n' m'.store outs trip.lent in
    let G = H f W s L n m ds n' m' outs rs in
    let ok = reader-answers f W G L n' b.set-up in
    let lists = reader-c f W G L n' trip.finished.across trip.finished.down ok m' rs in
    let cs = turns f W s L n m.store (writes.calls ds) n' m'.store outs in
    let rows = rows_are f W G L n' m' rs cs trip.as-wanted in
    record {
      written = writer-c f W s L n trip.finished.across trip.finished.down (writer-answers f W s L n trip.finished.set-up) m ds;
      set-up = ok;
      lists = lists;
      rows = ap length rows ∙ b.rows;
      heights = λ r c h k. ap (λ (l : List (ℕ → ℤ)). get_or l r (λ _. pos 0) c) rows ∙ b.heights r c h k;
      done = done-shown f W G L n' m' rs cs trip.as-wanted lists b.done;
    }
