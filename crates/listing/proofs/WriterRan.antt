-- A writer as calls on a fresh one have left it: the heights taken, whether it was finished, and the rows drawn (`Ran`), and what the next call does
-- to these. Assumes nothing.
use mathlib.Core.Path.{◌≡◌, refl, sym, ap, subst, subst₂, ◌∙◌}
use mathlib.Core.Bool.{Bool, true, false}
use mathlib.Core.List.{List, [], ◌∷◌, ◌++◌, append-nil}
use Prim.Native.Nat.{ℕ, zero, suc, ◌-◌, ◌/◌, ◌≤◌}
use native.Mathlib.Nat.{zero-div}
use native.Mathlib.Omega.{arith}
use lib.ListN.{length, drop}
use borrow.Author.Tests.{le-leb}
use Rattle.numbers.specs.Signal.{pick}
use Rattle.lifting.specs.Grid.{side}
use Rattle.filters.specs.Filters.{filter_of}
use Rattle.wavelet.specs.Bands.{across}
use Rattle.wavelet.specs.Levels.{side_at}
use Rattle.wavelet.specs.View.{band_columns}
use Rattle.wavelet.specs.Order.{RowName, in_turn, made}
use Rattle.wavelet.proofs.SideLaws.{count-le, size-le}
use Rattle.calls.specs.Lists.{Reply, gives, refused, seen, Area}
use Rattle.calls.proofs.ListLaws.{either-no, gathered_snoc, ever-snoc, events-snoc, final-snoc}
use Rattle.level.specs.Level.{Memory}
use Rattle.writer.specs.Questions.{either, set_up_question}
use Rattle.writer.specs.Answers.{Handed, a_row, nothing}
use Rattle.writer.specs.Calls.{fresh, set_up_store, draw_reply, draw_store, draw_area}
use Rattle.writer.specs.History.{Call, draw, row, Event, drew, World, given, event, next, events, final, fresh_world, taken_by, taken, finishes, finished_by}
use Rattle.writer.specs.History.{DrawnRow, drawn_by, drawn}
use Rattle.writer.specs.Demand3.{whole_rows, made_of, waiting_of, answered, is_long, draw_gives, draw_says}
use Rattle.writer.specs.declared.Writer.{Writer}
use Rattle.writer.specs.declared.BandRow.{BandRow}
use Rattle.writer.proofs.CallLaws.{set-up-passed}
use Rattle.writer.proofs.Demand3.{demand-3}
use Rattle.calls.specs.Lists as lists

abbrev pub world_of : Writer → Memory → World
world_of w x = record { writer = w; store = x }

-- the rows that wait: made of the heights hs (and of the finish, f), and not among the rows drawn
unfoldable pub waits : ℕ → ℕ → List ℕ → Bool → List DrawnRow → List RowName
waits W L hs f ds = drop (length ds) (made 1 (side 0 W) 0 L (length hs / W) f)

-- a set-up that passed was lent a store that is long enough
pub is-long : (W L n : ℕ) → set_up_question 0 (side 0 W) L n ≡ 0 → is_long 0 (side 0 W) L n ≡ true
is-long W L n s = le-leb _ n (set-up-passed 0 (side 0 W) L n s).1

pub record Ran (W L n : ℕ) (hs : List ℕ) (f : Bool) (ds : List DrawnRow) (w : Writer) (x : Memory) : Type 0 where
  pub before : Memory
  pub calls : List Call
  pub world : final calls (fresh_world 0 (side 0 W) 0 L n before) ≡ world_of w x
  pub heights : taken (events calls (fresh_world 0 (side 0 W) 0 L n before)) ≡ hs
  pub ended : finished_by (events calls (fresh_world 0 (side 0 W) 0 L n before)) ≡ f
  pub rows : drawn (events calls (fresh_world 0 (side 0 W) 0 L n before)) ≡ ds

module _ (W L n : ℕ) where
  pub fresh-ran : (x : Memory) → Ran W L n [] false [] (fresh 0 (side 0 W) 0 L) (set_up_store 0 (side 0 W) L n x)
  unfolding lists.final lists.events lists.gathered lists.ever
  fresh-ran x = record { before = x; calls = []; world = refl; heights = refl; ended = refl; rows = refl }

  pub fresh-waits : waits W L [] false [] ≡ []
  unfolding waits made in_turn
  fresh-waits = go (0 / W) (zero-div W)
    where
      go : (m : ℕ) → m ≡ 0 → made 1 (side 0 W) 0 L m false ≡ []
      go zero e = refl
      go (suc m) e = absurd (omega arith)

  module _ (hs : List ℕ) (f : Bool) (ds : List DrawnRow) (w : Writer) (x : Memory) (r : Ran W L n hs f ds w x) where
    abbrev w₀ : World
    w₀ = fresh_world 0 (side 0 W) 0 L n r.before

    abbrev es : List Event
    es = events r.calls w₀

    pub waiting-is : waiting_of 0 (side 0 W) 0 L es ≡ waits W L hs f ds
    unfolding filter_of waiting_of made_of whole_rows waits
    waiting-is = rw (r.heights, r.ended, r.rows) refl

    pub ran-next : (c : Call) (e : Event) (w' : Writer) (x' : Memory) → event c (world_of w x) ≡ e → next c (world_of w x) ≡ world_of w' x'
        → Ran W L n (hs ++ taken_by e) (either f (finishes e)) (ds ++ drawn_by e) w' x'
    ran-next c e w' x' p q =
        let d : events (r.calls ++ c ∷ []) w₀ ≡ es ++ (e ∷ []) = events-snoc event next r.calls c w₀ ∙
        ap (λ v. es ++ (v ∷ [])) (ap (event c) r.world ∙ p) in
        record {
          before = r.before;
          calls = r.calls ++ c ∷ [];
          world = final-snoc next r.calls c w₀ ∙ ap (next c) r.world ∙ q;
          heights = ap taken d ∙ gathered_snoc taken_by es e ∙ ap (λ l. l ++ taken_by e) r.heights;
          ended = ap finished_by d ∙ ever-snoc finishes es e ∙ ap (λ t. either t (finishes e)) r.ended;
          rows = ap drawn d ∙ gathered_snoc drawn_by es e ∙ ap (λ l. l ++ drawn_by e) r.rows;
        }

    -- ---- a draw into the row area z of k numbers
    module _ (k : ℕ) (z : Memory) where
      abbrev area : Memory → Area
      area y = record { size = k; numbers = y }

      abbrev after : Memory
      after = draw_area w n k x z

      pub data DrawOut : Reply Handed → Type 0 where
        all-out : waits W L hs f ds ≡ [] → Ran W L n hs f ds w (draw_store w n k x) → DrawOut (gives nothing)
        one_out : (b : BandRow) (u : Writer) → b.length ≤ k → Ran W L n hs f (ds ++ (record { row = b; values = after } ∷ [])) u (draw_store w n k x)
            → DrawOut (gives (a_row b u))

      drew-is : (y : Reply Handed) → draw_reply w n k x ≡ y → event (draw n (area z)) (world_of w x) ≡ drew (area z) (seen given y) (area after)
      unfolding event
      drew-is y e = ap (λ v. drew (area z) (seen given v) (area after)) e

      next-none : draw_reply w n k x ≡ gives nothing → next (draw n (area z)) (world_of w x) ≡ world_of w (draw_store w n k x)
      unfolding next
      next-none e = rw e refl

      next-row : (b : BandRow) (u : Writer) → draw_reply w n k x ≡ gives (a_row b u) → next (draw n (area z)) (world_of w x) ≡ world_of u (draw_store w n k x)
      unfolding next
      next-row b u e = rw e refl

      none-ran : draw_reply w n k x ≡ gives nothing → Ran W L n hs f ds w (draw_store w n k x)
      none-ran e =
          let a = ran-next (draw n (area z)) _ w (draw_store w n k x) (drew-is (gives nothing) e) (next-none e) in
          subst₂ (λ h d. Ran W L n h f d w (draw_store w n k x)) (append-nil hs) (append-nil ds)
          (subst (λ t. Ran W L n (hs ++ []) t (ds ++ []) w (draw_store w n k x)) (either-no f) a)

      row-ran : (b : BandRow) (u : Writer) → draw_reply w n k x ≡ gives (a_row b u)
          → Ran W L n hs f (ds ++ (record { row = b; values = after } ∷ [])) u (draw_store w n k x)
      row-ran b u e =
          let a = ran-next (draw n (area z)) _ u (draw_store w n k x) (drew-is (gives (a_row b u)) e) (next-row b u e) in
          subst (λ h. Ran W L n h f (ds ++ (record { row = b; values = after } ∷ [])) u (draw_store w n k x)) (append-nil hs)
          (subst (λ t. Ran W L n (hs ++ []) t (ds ++ (record { row = b; values = after } ∷ [])) u (draw_store w n k x)) (either-no f) a)

      -- the store is long enough for the set-up, so it is for a draw
      long-says : set_up_question 0 (side 0 W) L n ≡ 0 → draw_says 0 (side 0 W) 0 L es n k ≡ draw_gives (side 0 W) (waits W L hs f ds) k
      unfolding draw_says
      long-says s = rw (is-long W L n s, waiting-is) refl

      says : set_up_question 0 (side 0 W) L n ≡ 0 → seen given (draw_reply w n k x) ≡ draw_gives (side 0 W) (waits W L hs f ds) k
      says s =
          let d = (demand-3 0 (side 0 W) 0 L n r.before (omega arith) (omega arith) s r.calls).1.draws n (area z) in
          let e : drew (area z) (seen given (draw_reply w n k x)) (area after) ≡ drew (area z)
          (draw_says 0 (side 0 W) 0 L es n k) d.area =
          sym (drew-is (draw_reply w n k x) refl) ∙ ap (event (draw n (area z))) (sym r.world) ∙ d.says in
          cc (e, long-says s)

      pub draw-out : set_up_question 0 (side 0 W) L n ≡ 0 → W ≤ k → DrawOut (draw_reply w n k x)
      draw-out s long = go (waits W L hs f ds) refl (draw_reply w n k x) refl (says s)
        where
          fits : (y : RowName) → band_columns (side 0 W) y.level y.band ≤ k
          fits y = unfold band_columns in omega (arith, count-le (across y.band) (side_at (y.level - 1) (side 0 W)), size-le (y.level - 1) (side 0 W))

          go : (l : List RowName) → waits W L hs f ds ≡ l → (y : Reply Handed) → draw_reply w n k x ≡ y → seen given y ≡ draw_gives (side 0 W) l k → DrawOut y
          go [] p (gives nothing) e q = all-out p (none-ran e)
          go [] p (gives (a_row b u)) e q = let o : ◌≡◌ {A = ℕ} 0 1 = cc in absurd (omega arith)
          go [] p (refused c) e q = let o : ◌≡◌ {A = ℕ} 0 1 = cc in absurd (omega arith)
          go (y ∷ l) p v e q = some v e (q ∙ ap (λ t. pick t (gives (row (answered (side 0 W) y))) (refused 12)) (le-leb _ k (fits y)))
            where
              some : (v : Reply Handed) → draw_reply w n k x ≡ v → seen given v ≡ gives (row (answered (side 0 W) y)) → DrawOut v
              some (gives nothing) e q = let o : ◌≡◌ {A = ℕ} 0 1 = cc in absurd (omega arith)
              some (refused c) e q = let o : ◌≡◌ {A = ℕ} 0 1 = cc in absurd (omega arith)
              some (gives (a_row b u)) e q =
                  let same : b.length ≡ band_columns (side 0 W) y.level y.band = cc in
                  one_out b u (omega (arith, fits y)) (row-ran b u e)
