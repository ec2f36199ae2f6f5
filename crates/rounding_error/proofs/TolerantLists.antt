-- The tolerant reader over every list of calls: from a fresh one and its store (`tolerant-calls`), whatever each call finds past the needed part
-- (`tolerant-past`). Its steps, wants and questions are the strict reader's, 14 never comes, and what it hands out is the limited way back from the rows fed.
-- Assumes nothing.
use mathlib.Core.Bool.{Bool, true, false}
use mathlib.Core.Path.{◌≡◌, refl, sym, ap, ap₂, subst, ◌∙◌}
use mathlib.Core.List.{List, []}
use Prim.Native.Nat.{ℕ, zero, suc, ◌+◌, ◌-◌, ◌≤◌, ◌<◌}
use native.Mathlib.Omega.{arith}
use lib.IntN.{ℤ, pos}
use lib.ListN.{length, get_or}
use lib.Dec.{T}
use Rattle.numbers.specs.Signal.{pick}
use Rattle.numbers.specs.Word.{wrap32}
use Rattle.lifting.specs.Grid.{Side, side}
use Rattle.lifting.specs.FiveThree.{five_three_filter}
use Rattle.wavelet.specs.Bands.{Grid, Band, LL}
use Rattle.wavelet.specs.Levels.{side_at}
use Rattle.wavelet.specs.Order.{row_name}
use Rattle.wavelet.specs.Plane.{cells}
use Rattle.wavelet.specs.Steps.{Step}
use Rattle.calls.specs.Lists.{gives, refused, unless, Area}
use Rattle.calls.specs.Lists as lists
use Rattle.calls.proofs.ListLaws.{ever-snoc}
use Rattle.filters.specs.Filters.{filter_of}
use Rattle.tolerance.specs.Back.{level_back_limited, map_back_limited}
use Rattle.synthesis.specs.Tolerant.{back_limited, tolerant_back}
use Rattle.synthesis.proofs.TolerantColumns.{at-origin}
use Rattle.reader.specs.Answers.{done}
use Rattle.reader.specs.Rebuilt.{Rows, bands_by, rebuilt, part_at}
use Rattle.reader.specs.Demand3.{Call, want, feed, draw, Event, wanted, fed, drew, World, event, events, final, ends, ended_by, left, drawn_rows}
use Rattle.reader.specs.Demand3.{want_says, feed_turned, draw_says, OneOf, this, that, Draws, world_by}
use Rattle.wavelet.specs.Limits.{max_width, max_height}
use Rattle.wavelet.specs.Questions.{within}
use Rattle.wavelet.proofs.QuestionLaws.{within-true}
use Rattle.calls.proofs.QuestionLaws.{asked-yes}
use Rattle.reader.specs.Questions.{store_fits, tolerant_question}
use Rattle.reader.proofs.CallViews.{Limits, limits-tolerant, View}
use Rattle.reader.proofs.Reached.{reached, world}
use Rattle.reader.specs.Past.{Lent, found, lent_event, lent_next}
use Rattle.reader.proofs.TolerantGoes.{start-zero}
use Rattle.reader.proofs.AnyPast.{found-reached, lents-reached}
use Rattle.reader.proofs.CallLists.{Then, step-reached, then-reached, viewed, want_is, feed-turned, feed-on, draw-is, done-only, all_drawn, none_left}
use Rattle.rounding_error.specs.Tolerant.{rows_in, steps_of, needed, tolerant_world, FedFrom, Hands, Tolerant}
use Rattle.rounding_error.proofs.FromRows.{back-limited}
use Rattle.rounding_error.proofs.PlaneRows.{memory-rows}

-- ---- the numbers of a set-up that passed
pub record SetUp (W H L n : ℕ) : Type 0 where
  pub some : 1 ≤ L
  pub few : L ≤ 5
  pub room : store_fits (needed W H L) n ≡ true

pub set-up-in : (W H L n : ℕ) → tolerant_question W H L n ≡ 0 → SetUp W H L n
unfolding tolerant_question filter_of
set-up-in W H L n e =
    let a = asked-yes (within 1 max_width W) 1 _ e in
    let b = asked-yes (within 1 max_height H) 2 _ a.1 in
    let c = asked-yes (within 1 (filter_of 0).levels L) 3 _ b.1 in
    let d = within-true 1 (filter_of 0).levels L c.0 in
    record { some = d.0; few = d.1; room = (asked-yes (store_fits (needed W H L) n) 4 _ c.1).0 }

-- ---- a level from the origin on
level-limited : (k : ℕ) (W H : Side) (p : Band → Grid) → H.start ≡ 0 → back_limited k W H p ≡ level_back_limited five_three_filter wrap32 k W H p
unfolding tolerant_back filter_of
level-limited k W H p e =
    subst (λ S. back_limited k W S p ≡ level_back_limited five_three_filter wrap32 k W S p) (ap (λ i. side i H.length) (sym e)) (at-origin k W H.length p)

-- a set-up of no levels does not pass
no-levels : (W H n : ℕ) → tolerant_question W H 0 n ≡ 0 → ⊥
no-levels W H n e = omega (arith, (set-up-in W H 0 n e).some)

module _ (W H l : ℕ) (lim : Limits 1 0 0 0 (side 0 W) (side 0 H) l) where
  abbrev wide : Side
  wide = side 0 W

  abbrev high : Side
  high = side 0 H

  -- ---- the way back from rows P
  level-is : (P : Rows) (m k r c : ℕ) → rebuilt 1 0 0 wide high P (suc m) k r c ≡
      level_back_limited five_three_filter wrap32 k (side_at k wide) (side_at k high) (bands_by P (suc k) (rebuilt 1 0 0 wide high P m (suc k))) r c
  unfolding rebuilt
  level-is P m k r c =
      let z : 0 + k ≡ k = omega arith in
      rw z (ap (λ (g : Grid). g r c) (level-limited k (side_at k wide) (side_at k high) _ (start-zero k high refl)))

  last-is : (P : Rows) (k r c : ℕ) → rebuilt 1 0 0 wide high P 0 k r c ≡ P (row_name k LL r) c
  unfolding rebuilt
  last-is P k r c = refl

  part-is : (P : Rows) → part_at 1 0 0 wide high P (suc l) 0 ≡ rebuilt 1 0 0 wide high P (suc l) 0
  unfolding rebuilt
  part-is P = let z : suc l - 1 ≡ l = omega arith in rw z refl

  part-limited : (x : ℕ → ℤ) (r c : ℕ) → r < H → c < W →
      part_at 1 0 0 wide high (rows_in W H x) (suc l) 0 r c ≡ map_back_limited five_three_filter wrap32 0 (suc l) wide high (cells W x) r c
  unfolding side_at
  part-limited x r c u v =
      ap (λ (g : Grid). g r c) (part-is (rows_in W H x))
      ∙ back-limited (suc l) wide high (rows_in W H x) (cells W x) (memory-rows W H (suc l) x) (omega arith) (rebuilt 1 0 0 wide high (rows_in W H x))
      (last-is (rows_in W H x)) (level-is (rows_in W H x)) (suc l) 0 (omega arith) r c u v

  -- ---- 14 never comes
  abbrev After : List Event → World → Type 0
  After = Then 1 0 0 0 wide high l lim

  lives : (es : List Event) (w : World) → After es w → ended_by es ≡ false
  lives es _ (reached d p e x t fs ds kept) = kept.lives (omega arith)

  neither : (p q : Bool) → pick p true q ≡ false → q ≡ false
  neither true q e = absurd (subst T e tt)
  neither false q e = e

  goes : (es : List Event) (w : World) (c : Call) → After es w → ends (event c w) ≡ false
  goes es w c r = neither (ended_by es) _ (sym (ever-snoc ends es (event c w)) ∙ lives _ _ (step-reached 1 0 0 0 wide high l lim c es w r))

  ended-by : (e : Event) → ends e ≡ true → ends e ≡ false → ⊥
  ended-by e y n = subst T (sym y ∙ n) tt

  fed-ends : (a : Area) (e : Event) → e ≡ fed a (refused 14) → ends e ≡ true
  unfolding ends
  fed-ends a e z = ap ends z

  drawn-ends : (a b : Area) (e : Event) → e ≡ drew a (refused 14) b → ends e ≡ true
  unfolding ends
  drawn-ends a b e z = ap ends z

  -- ---- a world that is reached
  module _ (w : World) (es : List Event) (r : After es w) where
    turned : (n : ℕ) (a : Area) (t : List Step) (q : ℕ)
        → ((q : ℕ) → feed_turned 0 0 wide (needed W H (suc l)) false t n a ≡ suc q → event (feed n a) w ≡ fed a (refused (suc q))) →
        (feed_turned 0 0 wide (needed W H (suc l)) false t n a ≡ 0 → OneOf (event (feed n a) w) (fed a (gives tt)) (fed a (refused 14))) →
        feed_turned 0 0 wide (needed W H (suc l)) false t n a ≡ q → event (feed n a) w ≡ fed a (unless q tt)
    turned n a t zero away on z = go (on z)
      where
        go : OneOf (event (feed n a) w) (fed a (gives tt)) (fed a (refused 14)) → event (feed n a) w ≡ fed a (gives tt)
        go (this y) = y
        go (that y) = absurd (ended-by _ (fed-ends a _ y) (goes es w (feed n a) r))
    turned n a t (suc q) away on z = away q z

    handed : (n : ℕ) (a : Area) (t : List Step) → Draws wide (needed W H (suc l)) false t n a (event (draw n a) w) →
        Hands (draw_says wide (needed W H (suc l)) false t n a.size) a (event (draw n a) w)
    handed n a t d = go d.says
      where
        go : OneOf d.answer (draw_says wide (needed W H (suc l)) false t n a.size) (refused 14) →
            Hands (draw_says wide (needed W H (suc l)) false t n a.size) a (event (draw n a) w)
        go (this y) = subst (λ v. Hands v a (event (draw n a) w)) y (record { after = d.after; is = d.is; size = d.size; untouched = d.untouched })
        go (that y) = absurd (ended-by _ (drawn-ends a d.after _ (d.is ∙ ap (λ v. drew a v d.after) y)) (goes es w (draw n a) r))

  -- ---- each part of the claim
  abbrev M : ℕ
  M = needed W H (suc l)

  none-spare : 0 + M ≡ M
  none-spare = omega arith

  wants-are : (es : List Event) (w : World) → After es w → event want w ≡ wanted (gives (want_says 0 wide false (left (steps_of W H (suc l)) es)))
  wants-are es _ (reached d p e x t fs ds kept) =
      want_is 1 0 0 0 wide high l lim d p e x t fs ds kept ∙ ap (λ u. wanted (gives (want_says 0 wide u t))) (kept.lives (omega arith))

  feeds-are : (es : List Event) (w : World) → After es w → (n : ℕ) (a : Area) →
      event (feed n a) w ≡ fed a (unless (feed_turned 0 0 wide M false (left (steps_of W H (suc l)) es) n a) tt)
  feeds-are es _ (reached d p e x t fs ds kept) n a =
      let never : e ≡ false = kept.lives (omega arith) in
      turned _ es (reached d p e x t fs ds kept) n a t (feed_turned 0 0 wide M false t n a)
      (λ q z. feed-turned 1 0 0 0 wide high l lim d p e x t fs ds kept n a q (ap₂ (λ m u. feed_turned 0 0 wide m u t n a) none-spare never ∙ z))
      (λ z. feed-on 1 0 0 0 wide high l lim d p e x t fs ds kept n a (ap₂ (λ m u. feed_turned 0 0 wide m u t n a) none-spare never ∙ z)) refl

  draws-are : (es : List Event) (w : World) → After es w → (n : ℕ) (a : Area) →
      Hands (draw_says wide M false (left (steps_of W H (suc l)) es) n a.size) a (event (draw n a) w)
  draws-are es _ (reached d p e x t fs ds kept) n a =
      handed _ es (reached d p e x t fs ds kept) n a t
      (subst (λ m. Draws wide m false t n a (event (draw n a) (world 1 0 0 0 wide high l lim d p e x))) none-spare
      (subst (λ u. Draws wide (0 + M) u t n a (event (draw n a) (world 1 0 0 0 wide high l lim d p e x))) (kept.lives (omega arith))
      (draw-is 1 0 0 0 wide high l lim d p e x t fs ds kept n a)))

  heights-are : (es : List Event) (w : World) → After es w → (y : ℕ → ℤ) → FedFrom W H (suc l) y es → (r c : ℕ) → r < length (drawn_rows es) → c < W →
      get_or (drawn_rows es) r (λ _. pos 0) c ≡ map_back_limited five_three_filter wrap32 0 (suc l) wide high (cells W y) r c
  heights-are es _ (reached d p e x t fs ds kept) y from r c u v =
      (kept.rows (rows_in W H y) from.rows).shows r c (omega (arith, kept.drawn)) v
      ∙ part-limited y r c (omega (arith, kept.drawn, kept.drawn_le)) v

  few : (es : List Event) (w : World) → After es w → length (drawn_rows es) ≤ H
  few es _ (reached d p e x t fs ds kept) = omega (arith, kept.drawn, kept.drawn_le)

  finished-then : (es : List Event) (w : World) → After es w → event want w ≡ wanted (gives done) → length (drawn_rows es) ≡ H
  finished-then es w r z = go es w r (sym (wants-are es w r) ∙ z)
    where
      go : (es : List Event) (w : World) → After es w → wanted (gives (want_says 0 wide false (left (steps_of W H (suc l)) es))) ≡ wanted (gives done) →
          length (drawn_rows es) ≡ H
      go es _ (reached d p e x t fs ds kept) z =
          let y : want_says 0 wide false t ≡ done = cc in
          let over = (done-only 0 wide false t y).1 in
          omega (
            arith,
            kept.drawn,
            kept.drawn_le,
            all_drawn 1 0 0 0 wide high l lim d p e x t fs ds kept (subst (View 0 wide high l d p) over (viewed 1 0 0 0 wide high l lim d p e x t fs ds kept)),
          )

  then-finished : (es : List Event) (w : World) → After es w → length (drawn_rows es) ≡ H → event want w ≡ wanted (gives done)
  unfolding want_says
  then-finished es w r z = wants-are es w r ∙ ap (λ v. wanted (gives (want_says 0 wide false v))) (go es w r z)
    where
      go : (es : List Event) (w : World) → After es w → length (drawn_rows es) ≡ H → left (steps_of W H (suc l)) es ≡ []
      go es _ (reached d p e x t fs ds kept) z =
          none_left 1 0 0 0 wide high l lim d p e x t fs ds kept t (viewed 1 0 0 0 wide high l lim d p e x t fs ds kept) (omega (arith, kept.drawn, z))

  claim : (es : List Event) (w : World) → After es w → Tolerant W H (suc l) es (λ c. event c w)
  claim es w r = record {
    lives = lives es w r;
    wants = wants-are es w r;
    feeds = feeds-are es w r;
    draws = draws-are es w r;
    heights = heights-are es w r;
    drawn_le = few es w r;
    finished = (finished-then es w r, then-finished es w r);
  }

  -- from a fresh one; and where each call finds numbers of its own past the needed part of the store
  calls : (x : ℕ → ℤ) (cs : List Call) → (let w = world_by 1 0 0 0 wide high (suc l) x in Tolerant W H (suc l) (events cs w) (λ c. event c (final cs w)))
  calls x cs = claim _ _ (then-reached 1 0 0 0 wide high l lim x cs)

  past : (x : ℕ → ℤ) (ds : List Lent) (q : ℕ → ℤ) → (let w = world_by 1 0 0 0 wide high (suc l) x in
      Tolerant W H (suc l) (lists.events lent_event lent_next ds w) (λ c. event c (found q (lists.final lent_next ds w))))
  past x ds q = claim _ _ (found-reached 1 0 0 0 wide high l lim _ _ _ _ _ q (lents-reached 1 0 0 0 wide high l lim x ds))

-- ---- a set-up that passes, of W columns and H rows at L levels, on a store of n numbers in which x stood, then any calls
pub tolerant-calls : (W H L n : ℕ) → tolerant_question W H L n ≡ 0 → (x : ℕ → ℤ) (cs : List Call) →
    Tolerant W H L (events cs (tolerant_world W H L x)) (λ c. event c (final cs (tolerant_world W H L x)))
tolerant-calls W H zero n ok x cs = absurd (no-levels W H n ok)
tolerant-calls W H (suc l) n ok x cs = calls W H l (limits-tolerant W H l n ok) x cs

pub tolerant-past : (W H L n : ℕ) → tolerant_question W H L n ≡ 0 → (x : ℕ → ℤ) (ds : List Lent) (q : ℕ → ℤ) → (let w = tolerant_world W H L x in
    Tolerant W H L (lists.events lent_event lent_next ds w) (λ c. event c (found q (lists.final lent_next ds w))))
tolerant-past W H zero n ok x ds q = absurd (no-levels W H n ok)
tolerant-past W H (suc l) n ok x ds q = past W H l (limits-tolerant W H l n ok) x ds q
