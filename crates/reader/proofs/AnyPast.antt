-- What a reader's store holds is in its needed part: the same holds whatever stands past it (`kept-reads`). So demand 3 holds of every list of calls in which
-- each finds numbers of its own there (`any-past`). Assumes nothing.
use mathlib.Core.Bool.{Bool, true}
use mathlib.Core.Path.{◌≡◌, sym, subst}
use mathlib.Core.List.{List, [], ◌∷◌, ◌++◌}
use Prim.Native.Nat.{ℕ, zero, suc, ◌≤◌, ◌<◌, ◌+◌}
use native.Mathlib.Omega.{arith}
use lib.IntN.{ℤ}
use borrow.Author.Tests.{lt-ltb}
use Rattle.lifting.specs.Grid.{Side}
use Rattle.lifting.specs.Halves.{fronted}
use Rattle.wavelet.specs.Limits.{max_origin}
use Rattle.wavelet.specs.Steps.{Step}
use Rattle.calls.specs.Lists as lists
use Rattle.calls.proofs.ListLaws.{list-reached}
use Rattle.filters.specs.Figures.{store_by}
use Rattle.reader_steps.specs.Places.{Place}
use Rattle.reader.specs.Store.{stretch_at}
use Rattle.reader.specs.Questions.{set_up_question}
use Rattle.reader.specs.Reading.{counts_fit}
use Rattle.reader.specs.Demand3.{Event, World, event, world_by, fresh_world, left, FedRow, fed_rows, Demand3}
use Rattle.reader.specs.Past.{Lent, found, lent_event, lent_next}
use Rattle.reader.proofs.StoreLaws.{stretch-is}
use Rattle.reader.proofs.Holds.{held_reads}
use Rattle.reader.proofs.CallViews.{Limits, limits, at}
use Rattle.reader.proofs.Reached.{Kept, Reached, reached}
use Rattle.reader.proofs.CallLists.{Then, step-reached, fresh-reached}
use Rattle.reader.proofs.Demand3.{no-levels, claim}

module _ (ad f base spare : ℕ) (W H : Side) (l : ℕ) where
  pub kept-reads : (d : ℕ) (p : Place) (e : Bool) (x y : ℕ → ℤ) (t : List Step) (fs : List FedRow) (ds : List (ℕ → ℤ)) →
      ((j : ℕ) → j < store_by f W (suc l) → y j ≡ x j) → Kept ad f base spare W H l d p e x t fs ds → Kept ad f base spare W H l d p e y t fs ds
  kept-reads d p e x y t fs ds same kept = record {
    lives = kept.lives;
    drawn_le = kept.drawn_le;
    level-le = kept.level-le;
    band-le = kept.band-le;
    back-le = kept.back-le;
    ready = kept.ready;
    left = kept.left;
    drawn = kept.drawn;
    good = kept.good;
    names = kept.names;
    rows = λ P has.
        let o = kept.rows P has in
        record {
          fit = o.fit;
          shows = o.shows;
          has = o.has;
          holds = λ live due.
              let q = at f W H l d p in
              held_reads ad f base W H l P q.level q.set q.band x y (λ j b. same j (omega (arith, stretch-is f W (suc l)))) (o.holds live due);
          refuses = o.refuses;
        };
  }

  module _ (lim : Limits ad f base spare W H l) where
    pub found-reached : (w : World) (e : Bool) (t : List Step) (fs : List FedRow) (ds : List (ℕ → ℤ)) (q : ℕ → ℤ)
        → Reached ad f base spare W H l lim w e t fs ds →
        Reached ad f base spare W H l lim (found q w) e t fs ds
    found-reached _ e t fs ds q (reached d p _ x _ _ _ kept) =
        reached d p e (fronted (spare + store_by f W (suc l)) x q) t fs ds
        (kept-reads d p e x (fronted (spare + store_by f W (suc l)) x q) t fs ds
        (λ j b. unfold fronted in simp (lt-ltb j (spare + store_by f W (suc l)) (omega arith))) kept)

    lent-reached : (d : Lent) (es : List Event) (w : World) → Then ad f base spare W H l lim es w → Then ad f base spare W H l lim (es ++ (lent_event d w ∷ []))
        (lent_next d w)
    unfolding lent_event lent_next
    lent-reached d es w r = step-reached ad f base spare W H l lim d.call es (found d.past w) (found-reached w _ _ _ _ d.past r)

    pub lents-reached : (x : ℕ → ℤ) (ds : List Lent) → (let w = world_by ad f base spare W H (suc l) x in
        Then ad f base spare W H l lim (lists.events lent_event lent_next ds w) (lists.final lent_next ds w))
    unfolding lists.ever lists.gathered left fed_rows
    lents-reached x ds =
        list-reached lent_event lent_next (Then ad f base spare W H l lim) lent-reached ds [] (world_by ad f base spare W H (suc l) x)
        (fresh-reached ad f base spare W H l lim x)

-- a set-up that passed, then any calls, and a further one, whatever each finds past the needed part
pub any-past : (f : ℕ) (W H : Side) (L n : ℕ) → W.start ≤ max_origin → H.start ≤ max_origin → set_up_question f W H L n ≡ 0 → (x : ℕ → ℤ) (ds : List Lent)
    (q : ℕ → ℤ) →
    (let w = fresh_world f 0 0 W H L x in let e = lists.final lent_next ds w in
    (counts_fit e.reader ≡ true) × Demand3 f 0 0 W H L (lists.events lent_event lent_next ds w) (λ c. event c (found q e)))
any-past f W H zero n across down ok x ds q = absurd (no-levels f W H n ok)
any-past f W H (suc l) n across down ok x ds q =
    let lim = limits f W H l n across down ok in
    claim f 0 0 W H l lim _ _ (found-reached 0 f 0 0 W H l lim _ _ _ _ _ q (lents-reached 0 f 0 0 W H l lim x ds))
