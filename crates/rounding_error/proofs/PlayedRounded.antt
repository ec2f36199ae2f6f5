-- The tolerant reader fed and drawn as it wants, from a map's rounded plane: all rows, and Done (`played-near`). From what it does over every list of calls
-- (`Tolerant`): nothing here looks at a state. Assumes nothing.
use mathlib.Core.Path.{◌≡◌, refl, sym, ap, subst, ◌∙◌}
use mathlib.Core.Bool.{false}
use mathlib.Core.List.{List, [], ◌∷◌, ◌++◌, append-nil, append_assoc}
use Prim.Native.Nat.{ℕ, zero, suc, ◌≤◌}
use native.Mathlib.Omega.{arith}
use lib.IntN.{ℤ}
use lib.ListN.{length}
use borrow.Author.Tests.{le-leb}
use Rattle.lifting.specs.Grid.{side}
use Rattle.lifting.specs.FiveThree.{five_three_filter}
use Rattle.wavelet.specs.Bands.{Grid}
use Rattle.wavelet.specs.Maps.{HasPlane}
use Rattle.wavelet.specs.Order.{RowName, row_name}
use Rattle.wavelet.specs.Plane.{cells}
use Rattle.wavelet.specs.Steps.{Step}
use Rattle.wavelet.specs.Steps as step
use Rattle.calls.specs.Lists.{gives, Area, All, all_none, all_more}
use Rattle.calls.specs.Lists as lists
use Rattle.calls.proofs.AllLaws.{all_append}
use Rattle.calls.proofs.ListLaws.{final-snoc, events-snoc}
use Rattle.rounding.specs.Rounding.{rounded_plane}
use Rattle.reader_steps.proofs.Looks.{named-code}
use Rattle.reader.specs.Answers.{done}
use Rattle.reader.specs.Questions.{store_fits}
use Rattle.reader.specs.Demand3.{Call, want, feed, draw, heights, Event, wanted, fed, drew, World, event, events, final, goes_on, left_by, left, fed_by, fed_rows}
use Rattle.reader.specs.Demand3.{drawn_rows, HasFedRow, want_says, draw_gives, draw_says}
use Rattle.reader.specs.Demand3 as demand
use Rattle.reader.specs.Played.{as_wanted, answering, played}
use Rattle.reader.proofs.CallLists.{left-append, fed-append}
use Rattle.rounding_error.specs.Tolerant.{IsRowOf, rows_in, steps_of, needed, FedFrom, HasRows, Tolerant, FromRounded, AllNear}
use Rattle.rounding_error.proofs.FedRounded.{next-exists, from-rounded}

module _ (W H L : ℕ) (some : 1 ≤ L) (q : ℕ) (g : Grid) (x : ℕ → ℤ) (step-some : 1 ≤ q) (few : L ≤ 5)
    (has : HasPlane five_three_filter L (side 0 W) (side 0 H) g (cells W x)) (w₀ : World)
    (claim : (cs : List Call) → Tolerant W H L (events cs w₀) (λ c. event c (final cs w₀)))
    (n : ℕ) (lent : needed W H L ≤ n) (rows : RowName → Area) (are : HasRows W H L (rounded_plane L W H q x) rows)
    (outs : ℕ → Area) (room : (i : ℕ) → W ≤ (outs i).size) where
  abbrev T₀ : List Step
  T₀ = steps_of W H L

  abbrev R : ℕ → ℤ
  R = rounded_plane L W H q x

  -- fed from the plane so far
  abbrev Fair : List Event → Type 0
  Fair es = FedFrom W H L R es

  abbrev Ends : List Call → Type 0
  Ends cs = Fair (events cs w₀) × (left T₀ (events cs w₀) ≡ [])

  module _ (cs : List Call) (fair : Fair (events cs w₀)) where
    abbrev es : List Event
    es = events cs w₀

    abbrev w : World
    w = final cs w₀

    events-on : (c : Call) (v : Event) → event c w ≡ v → events (cs ++ (c ∷ [])) w₀ ≡ es ++ (v ∷ [])
    events-on c v e = events-snoc event demand.next cs c w₀ ∙ ap (λ u. es ++ (u ∷ [])) e

    left-on : (v : Event) (u t : List Step) → left T₀ es ≡ u → left_by u v ≡ t → left T₀ (es ++ (v ∷ [])) ≡ t
    left-on v u t head e = left-append T₀ es (v ∷ []) ∙ ap (λ s. left s (v ∷ [])) head ∙ (unfold left in e)

    -- the turn as a call more
    later-calls : (m : ℕ) (c : Call) → answering n rows (outs m) (event want w) ≡ c ∷ [] →
        cs ++ played n rows outs (suc m) w ≡ (cs ++ (c ∷ [])) ++ played n rows outs m (final (cs ++ (c ∷ [])) w₀)
    unfolding played lists.final
    later-calls m c e =
        ap (λ u. cs ++ (u ++ played n rows outs m (final u w))) e
        ∙ sym (append_assoc cs (c ∷ []) (played n rows outs m (demand.next c w)))
        ∙ ap (λ v. (cs ++ (c ∷ [])) ++ played n rows outs m v) (sym (final-snoc demand.next cs c w₀))

    goes : (m : ℕ) (c : Call) (v : Event) (t : List Step) → answering n rows (outs m) (event want w) ≡ c ∷ [] → event c w ≡ v → Fair (es ++ (v ∷ [])) →
        left T₀ (es ++ (v ∷ [])) ≡ t → length t ≡ m →
        ((ds : List Call) → length (left T₀ (events ds w₀)) ≡ m → Fair (events ds w₀) → Ends (ds ++ played n rows outs m (final ds w₀))) →
        Ends (cs ++ played n rows outs (suc m) w)
    goes m c v t a e on is len ih =
        let z = events-on c v e in
        subst Ends (sym (later-calls m c a)) (ih (cs ++ (c ∷ [])) (ap (λ u. length (left T₀ u)) z ∙ ap length is ∙ len) (subst Fair (sym z) on))

    -- ---- a row
    wanted-row : (a : Area) (y : RowName) (t : List Step) → left T₀ es ≡ step.feed y ∷ t → answering n rows a (event want w) ≡ feed n (rows y) ∷ []
    unfolding answering as_wanted want_says
    wanted-row a y t head =
        ap (answering n rows a) ((claim cs).wants ∙ ap (λ v. wanted (gives (want_says 0 (side 0 W) false v))) head)
        ∙ ap (λ c. feed n (rows (row_name y.level c y.row)) ∷ []) (named-code y.band)

    fed-fair : (y : RowName) (t : List Step) → left T₀ es ≡ step.feed y ∷ t → IsRowOf W H R y (rows y) → Fair (es ++ (fed (rows y) (gives tt) ∷ []))
    fed-fair y t head is = record {
      rows = subst (All (HasFedRow (side 0 W) (rows_in W H R))) (sym rows_are)
          (all_append fair.rows (all_more (λ i p. is.values i (rw is.size p)) all_none));
    }
      where
        rows_are : fed_rows T₀ (es ++ (fed (rows y) (gives tt) ∷ [])) ≡ fed_rows T₀ es ++ (record { row = y; run = rows y } ∷ [])
        rows_are = fed-append T₀ es _ ∙ ap (λ u. fed_rows T₀ es ++ fed_rows u (fed (rows y) (gives tt) ∷ [])) head ∙ unfold fed_rows fed_by in refl

    -- ---- a height row
    wanted-draw : (a : Area) (r : ℕ) (t : List Step) → left T₀ es ≡ step.draw r ∷ t → answering n rows a (event want w) ≡ draw n a ∷ []
    unfolding answering as_wanted want_says
    wanted-draw a r t head = ap (answering n rows a) ((claim cs).wants ∙ ap (λ v. wanted (gives (want_says 0 (side 0 W) false v))) head)

    gave : (a : Area) (r : ℕ) (t : List Step) → left T₀ es ≡ step.draw r ∷ t → W ≤ a.size →
        (b : Area) × (event (draw n a) w ≡ drew a (gives (heights W)) b)
    gave a r t head long =
        let d = (claim cs).draws n a in (
          d.after,
          d.is ∙ ap (λ v. drew a v d.after) (ap (λ v. draw_says (side 0 W) (needed W H L) false v n a.size) head
              ∙ (unfold draw_says draw_gives store_fits in rw (le-leb (needed W H L) n lent, le-leb W a.size long) refl)),
        )

    drawn-fair : (a b : Area) → Fair (es ++ (drew a (gives (heights W)) b ∷ []))
    drawn-fair a b = record { rows = subst (All (HasFedRow (side 0 W) (rows_in W H R))) (sym rows_are) fair.rows }
      where
        rows_are : fed_rows T₀ (es ++ (drew a (gives (heights W)) b ∷ [])) ≡ fed_rows T₀ es
        rows_are = fed-append T₀ es _ ∙ (unfold fed_rows fed_by in append-nil (fed_rows T₀ es))

  turn : (m : ℕ) (cs : List Call) → length (left T₀ (events cs w₀)) ≡ suc m → Fair (events cs w₀) →
      ((ds : List Call) → length (left T₀ (events ds w₀)) ≡ m → Fair (events ds w₀) → Ends (ds ++ played n rows outs m (final ds w₀))) →
      Ends (cs ++ played n rows outs (suc m) (final cs w₀))
  turn m cs len fair ih = go (left T₀ (events cs w₀)) refl
    where
      go : (t : List Step) → left T₀ (events cs w₀) ≡ t → Ends (cs ++ played n rows outs (suc m) (final cs w₀))
      go [] e = absurd (omega (arith, ap length e))
      go (step.feed y ∷ t) e =
          let is = are.are y (next-exists W H L some (events cs w₀) y t e) in
          goes cs fair m (feed n (rows y)) (fed (rows y) (gives tt)) t (wanted-row cs fair (outs m) y t e)
          ((from-rounded W H L some q g x step-some few has (events cs w₀) _ (claim cs)).takes n (rows y) y t e lent is)
          (fed-fair cs fair y t e is) (left-on cs fair _ _ t e (unfold left_by goes_on in refl)) (omega (arith, ap length e)) ih
      go (step.draw r ∷ t) e =
          let d = gave cs fair (outs m) r t e (room m) in
          goes cs fair m (draw n (outs m)) (drew (outs m) (gives (heights W)) d.0) t (wanted-draw cs fair (outs m) r t e) d.1
          (drawn-fair cs fair (outs m) d.0) (left-on cs fair _ _ t e (unfold left_by goes_on in refl)) (omega (arith, ap length e)) ih

  no_length : (t : List Step) → length t ≡ 0 → t ≡ []
  no_length [] e = refl
  no_length (y ∷ t) e = absurd (omega arith)

  turns : (m : ℕ) (cs : List Call) → length (left T₀ (events cs w₀)) ≡ m → Fair (events cs w₀) → Ends (cs ++ played n rows outs m (final cs w₀))
  unfolding played
  turns zero cs len fair = subst Ends (sym (append-nil cs)) (fair, no_length _ len)
  turns (suc m) cs len fair = turn m cs len fair (turns m)

  fair-first : Fair []
  unfolding fed_rows
  fair-first = record { rows = all_none }

  abbrev pub turns_of : List Call
  turns_of = played n rows outs (length T₀) w₀

  ends : Ends turns_of
  unfolding lists.events lists.final left
  ends = turns (length T₀) [] refl fair-first

  says : event want (final turns_of w₀) ≡ wanted (gives done)
  unfolding want_says
  says = (claim turns_of).wants ∙ ap (λ v. wanted (gives (want_says 0 (side 0 W) false v))) ends.1

  pub played-near : AllNear W H L q g (events turns_of w₀) (λ c. event c (final turns_of w₀))
  played-near = record {
    all = all;
    says = says;
    near = λ r c u v. here.near ends.0 r c (omega (arith, all)) v;
    same = λ one r c u v. here.same one ends.0 r c (omega (arith, all)) v;
  }
    where
      here : FromRounded W H L q g x (events turns_of w₀) (λ c. event c (final turns_of w₀))
      here = from-rounded W H L some q g x step-some few has (events turns_of w₀) _ (claim turns_of)

      all : length (drawn_rows (events turns_of w₀)) ≡ H
      all = (claim turns_of).finished.0 says
