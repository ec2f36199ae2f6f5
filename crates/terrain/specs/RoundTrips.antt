-- The round trip in C: the rows that C calls drew from a finished writer, or those of a plane, fed by C calls to a reader as it wants them. Strays may come
-- anywhere in both lists, and wants in the reader's.
use Rattle.std.specs.Prelude.{◌≡◌, List, [], ◌∷◌, ℕ, ◌+◌, ◌*◌, ◌<◌, ℤ, pos, length, get_or}
use Rattle.lifting.specs.Grid.{Side}
use Rattle.wavelet.specs.Bands.{Grid}
use Rattle.wavelet.specs.Plane.{cells}
use Rattle.wavelet.specs.Maps.{HasPlane}
use Rattle.filters.specs.Filters.{filter_of}
use Rattle.calls.specs.Lists.{Area, Mixed, mine}
use Rattle.writer.specs.History.{taken}
use Rattle.reader.specs.Demand3.{Call, want, feed, draw, Event, event, events, final, fresh_world, drawn_rows}
use Rattle.reader.specs.Played.{Back, Stopped}
use Rattle.round_trip.specs.RoundTrip.{wrote, rows_wrote, side_wrote, Finished, Lent, turns, plane_turns}
use Rattle.terrain.specs.Memories.{Memories}
use Rattle.terrain.specs.WriterLists as writes
use Rattle.terrain.specs.ReaderLists as reads

-- the calls of a list but its wants, which change nothing
unfoldable pub unasked : List Call → List Call
unasked [] = []
unasked (want ∷ cs) = unasked cs
unasked (feed n a ∷ cs) = feed n a ∷ unasked cs
unasked (draw n a ∷ cs) = draw n a ∷ unasked cs

-- ---- a list rs of C calls on a reader of the filter f, the columns W, the rows H and L levels, set up on a store of n numbers
module _ (f : ℕ) (W H : Side) (L n : ℕ) (m : Memories) (rs : List (Mixed reads.CCall reads.Stray)) where
  -- what is seen of Rattle's calls, which C shows told (`shown` of its `OfCalls`), and what would be seen of a further one
  abbrev pub read_c : List Event
  read_c = events (reads.calls rs) (fresh_world f 0 0 W H L m.store)

  abbrev pub then_c : Call → Event
  then_c c = event c (final (reads.calls rs) (fresh_world f 0 0 W H L m.store))

  -- a want is answered with Done
  abbrev pub DoneC : Type 0
  DoneC = (d : reads.CCall) → d.call ≡ want → reads.shows (mine d) (reads.then f W H L n m rs) ≡ reads.wanted 0 (2 ∷ 0 ∷ 0 ∷ 0 ∷ 0 ∷ [])

  -- from a plane: but for the wants, the calls are those that the reader wants, with the plane's rows
  module _ (plane : ℕ → ℤ) (outs : ℕ → Area) where
    abbrev pub AsWanted : Type 0
    AsWanted = unasked (reads.calls rs) ≡ plane_turns f W H L n m.store plane outs

    pub record FromPlaneC : Type 0 where
      pub lists : reads.OfCalls f W H L n m rs
      pub map-back : (g : Grid) → HasPlane (filter_of f) L W H g (cells W.length plane) → Back W H g read_c then_c × DoneC
      pub no_map : ((g : Grid) → HasPlane (filter_of f) L W H g (cells W.length plane) → ⊥) → Stopped read_c then_c

-- ---- a list ds of C calls on a writer, set up on a store of n numbers, and then rs on a reader of the map that was written, set up on one of n'
module _ (f : ℕ) (W : Side) (s L n : ℕ) (m : Memories) (ds : List (Mixed writes.CCall writes.Stray)) (n' : ℕ) (m' : Memories) (outs : ℕ → Area)
    (rs : List (Mixed reads.CCall reads.Stray)) where
  abbrev pub H : Side
  H = side_wrote f W s L n m.store (writes.calls ds)

  pub record TripC : Type 0 where
    pub finished : Finished f W s L n m.store (writes.calls ds)
    pub lent : Lent f W s L n m.store (writes.calls ds) n' m'.store outs
    -- but for the wants, the reader's calls are those that it wants, with the rows drawn
    pub as-wanted : unasked (reads.calls rs) ≡ turns f W s L n m.store (writes.calls ds) n' m'.store outs

  pub record HandsBackC : Type 0 where
    pub written : writes.OfCalls f W s L n m ds
    -- the reader's set-up answers 0; it hands back every height in order, and then a want is answered with Done
    pub set-up : reads.set_up_asked f W H L n' ≡ 0
    pub lists : reads.OfCalls f W H L n' m' rs
    pub rows : length (drawn_rows (read_c f W H L n' m' rs)) ≡ H.length
    pub heights : (r c : ℕ) → r < H.length → c < W.length →
        get_or (drawn_rows (read_c f W H L n' m' rs)) r (λ _. pos 0) c ≡ pos (get_or (taken (wrote f W s L n m.store (writes.calls ds))) (r * W.length + c) 0)
    pub done : DoneC f W H L n' m' rs
