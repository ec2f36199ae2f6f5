-- What an offer and the finish do to a writer in which nothing waits (WriterRan): the offer takes heights as long as the map has room, and the finish
-- of a whole map passes. And the set-up of a map that a listing takes passes. Assumes nothing.
use mathlib.Core.Path.{◌≡◌, refl, sym, ap, subst, ◌∙◌}
use mathlib.Core.Bool.{true, false}
use mathlib.Core.List.{List, [], ◌++◌, append-nil}
use Prim.Native.Nat.{ℕ, ◌+◌, ◌*◌, ◌/◌, ◌%◌, ◌≤◌, ◌<◌}
use native.Mathlib.Nat.{mul_comm, div-lt_iff_lt-mul, mul-div_cancel_left, mul-mod_right}
use native.Mathlib.Omega.{arith}
use native.Mathlib.Decide.{ℕ_discrete}
use lib.Dec.{ltb, eqb}
use lib.ListN.{length, take}
use borrow.Author.Tests.{le-leb, lt-ltb, eq-eqb, ne_eqb}
use Rattle.lifting.specs.Grid.{side}
use Rattle.wavelet.specs.Limits.{max_width, max_height, max_levels}
use Rattle.wavelet.specs.Questions.{within}
use Rattle.wavelet.proofs.StoreLaws.{store_in, store-grows}
use Rattle.calls.specs.Lists.{Reply, gives, refused, unless}
use Rattle.level.specs.Level.{Memory}
use Rattle.filters.specs.Filters.{filter_of, is_filter}
use Rattle.filters.specs.Figures.{writer_store_by}
use Rattle.writer.specs.Questions.{either, set_up_question}
use Rattle.writer.specs.Answers.{Took}
use Rattle.writer.specs.Calls.{offer_reply, offer_store, finish_reply, finish_store}
use Rattle.writer.specs.History.{offer, finish, Event, offered, finished, event, next, events, fresh_world, taken, DrawnRow}
use Rattle.writer.specs.Demand3.{whole_rows, waiting_of, spare_full, offer_turned, finish_turned}
use Rattle.writer.specs.declared.Writer.{Writer}
use Rattle.writer.proofs.Demand3.{demand-3}
use Rattle.pgm.specs.Limits.{max_picture_width}
use Rattle.listing.proofs.WriterRan.{world_of, waits, is-long, Ran, waiting-is, ran-next}
use Rattle.listing.specs.States.{map_store}

-- ---- the set-up
-- the writer takes every width that is read
narrow : max_picture_width ≤ max_width
unfolding max_picture_width max_width
narrow = omega arith

pub set-up-passes : (W L n : ℕ) → map_store ≤ n → 1 ≤ W → W ≤ max_picture_width → 1 ≤ L → L ≤ max_levels → set_up_question 0 (side 0 W) L n ≡ 0
unfolding set_up_question within is_filter filter_of max_levels
set-up-passes W L n h a b c d =
    let r = (filter_of 0).rows in
    let f : writer_store_by 0 (side 0 W) L ≤ n = omega (arith, store_in r (side 0 W) L max_levels d, store-grows r max_levels 0 W max_picture_width b) in
    rw (le-leb 1 W a, le-leb W max_width (omega (arith, narrow)), le-leb 1 L c, le-leb L max_levels d, le-leb (writer_store_by 0 (side 0 W) L) n f)

module _ (W L n : ℕ) (s : set_up_question 0 (side 0 W) L n ≡ 0) (hs : List ℕ) (ds : List DrawnRow) (w : Writer) (x : Memory) (r : Ran W L n hs false ds w x)
    (idle : waits W L hs false ds ≡ []) where
  abbrev es : List Event
  es = events r.calls (fresh_world 0 (side 0 W) 0 L n r.before)

  nothing-waits : waiting_of 0 (side 0 W) 0 L es ≡ []
  nothing-waits = waiting-is W L n hs false ds w x r ∙ idle

  rows_are : whole_rows (side 0 W) es ≡ length hs / W
  unfolding whole_rows
  rows_are = ap (λ l. length l / W) r.heights

  -- ---- an offer
  module _ (run : List ℕ) where
    pub record OfferOut : Type 0 where
      pub took : Took
      pub reply : offer_reply w n run x ≡ gives took
      pub most : took.taken ≤ length run
      pub some : 0 < length run → 0 < took.taken
      pub ran : Ran W L n (hs ++ take took.taken run) false ds took.writer (offer_store w n run x)

    took-ran : (t : Took) → offer_reply w n run x ≡ gives t → Ran W L n (hs ++ take t.taken run) false ds t.writer (offer_store w n run x)
    took-ran t e =
        subst (λ d. Ran W L n (hs ++ take t.taken run) false d t.writer (offer_store w n run x)) (append-nil ds)
        (ran-next W L n hs false ds w x r (offer n run) (offered run (gives t.taken)) t.writer (offer_store w n run x) (unfold event in rw e refl)
        (unfold next in rw e refl))

    module _ (H : ℕ) (wide : 0 < W) (high : H ≤ max_height) (room : length hs + length run ≤ W * H) where
      low : either (eqb (length run) 0) (ltb (whole_rows (side 0 W) es) max_height) ≡ true
      low =
          elim (ℕ_discrete (length run) 0) [
            | yes p ↦ rw (eq-eqb (length run) 0 p) refl
            | no p ↦
                let e : length hs / W < H = (div-lt_iff_lt-mul {k = W} {x = length hs} {y = H} wide).1 (omega (arith, p, mul_comm W H)) in
                rw (ne_eqb (length run) 0 p, lt-ltb (whole_rows (side 0 W) es) max_height (omega (arith, rows_are))) refl
          ]

      not-turned : offer_turned 0 (side 0 W) 0 L es n (length run) ≡ 0
      unfolding offer_turned
      not-turned = rw (is-long W L n s, r.ended, low) refl

      -- nothing stands in the spare row
      not_full : spare_full 0 (side 0 W) 0 L es ≡ false
      unfolding spare_full
      not_full = rw nothing-waits refl

      pub offer-out : OfferOut
      offer-out =
          let d = (demand-3 0 (side 0 W) 0 L n r.before (omega arith) (omega arith) s r.calls).1.offers_taken n run not-turned in
          go (offer_reply w n run x) refl d.0 (ap (event (offer n run)) (sym r.world) ∙ d.1) d.2.most (λ h. d.2.some h not_full)
        where
          go : (y : Reply Took) → offer_reply w n run x ≡ y → (m : ℕ) → event (offer n run) (world_of w x) ≡ offered run (gives m) → m ≤ length run
              → (0 < length run → 0 < m) → OfferOut
          go (gives t) e m p a b =
              let f : t.taken ≡ m = same p in
              record { took = t; reply = e; most = omega arith; some = λ h. subst (λ a. 0 < a) (sym f) (b h); ran = took-ran t e }
            where
              same : event (offer n run) (world_of w x) ≡ offered run (gives m) → t.taken ≡ m
              same p = unfold event in (let q : offered run (gives t.taken) ≡ offered run (gives m) = rw e at p in cc)
          go (refused c) e m p a b = absurd (never p)
            where
              never : event (offer n run) (world_of w x) ≡ offered run (gives m) → ⊥
              never p = unfold event in (let q : offered run (refused c) ≡ offered run (gives m) = rw e at p in let o : ◌≡◌ {A = ℕ} 0 1 = cc in omega arith)

  -- ---- the finish
  pub record FinishOut : Type 0 where
    pub writer : Writer
    pub reply : finish_reply w n x ≡ gives writer
    pub ran : Ran W L n hs true ds writer (finish_store w n x)

  module _ (H : ℕ) (wide : 0 < W) (some : 1 ≤ H) (whole : length hs ≡ W * H) where
    passes : finish_turned 0 (side 0 W) 0 L es n ≡ 0
    unfolding finish_turned
    passes =
        let a : length hs / W ≡ H = ap (λ m. m / W) whole ∙ mul-div_cancel_left H wide in
        let b : length (taken es) % W ≡ 0 = ap (λ l. length l % W) r.heights ∙ ap (λ m. m % W) whole ∙ mul-mod_right W H in
        rw (is-long W L n s, r.ended, nothing-waits, lt-ltb 0 (whole_rows (side 0 W) es) (omega (arith, rows_are)), eq-eqb (length (taken es) % W) 0 b) refl

    pub finish-out : FinishOut
    finish-out =
        let d = (demand-3 0 (side 0 W) 0 L n r.before (omega arith) (omega arith) s r.calls).1.finishes n in
        go (finish_reply w n x) refl (ap (event (finish n)) (sym r.world) ∙ d ∙ ap (λ q. finished (unless q tt)) passes)
      where
        go : (y : Reply Writer) → finish_reply w n x ≡ y → event (finish n) (world_of w x) ≡ finished (gives tt) → FinishOut
        go (gives u) e p = record {
          writer = u;
          reply = e;
          ran =
              subst (λ d. Ran W L n d true ds u (finish_store w n x)) (append-nil hs)
              (subst (λ d. Ran W L n (hs ++ []) true d u (finish_store w n x)) (append-nil ds)
              (ran-next W L n hs false ds w x r (finish n) (finished (gives tt)) u (finish_store w n x) p (unfold next in rw e refl)));
        }
        go (refused c) e p = absurd (never p)
          where
            never : event (finish n) (world_of w x) ≡ finished (gives tt) → ⊥
            never p = unfold event in (let q : finished (refused c) ≡ finished (gives tt) = rw e at p in let o : ◌≡◌ {A = ℕ} 0 1 = cc in omega arith)
