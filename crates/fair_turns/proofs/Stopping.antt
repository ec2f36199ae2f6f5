-- Readers with a stop (Q-6) meet what the turns ask of a reader, by what `distant` says of every list of their calls: `stopping-laws` where levels are to be
-- worked out, `handing-laws` where none is. Assumes nothing.
use mathlib.Core.Path.{◌≡◌, refl, sym, ap, ap₂, subst, ◌∙◌}
use mathlib.Core.Bool.{Bool, true, false}
use mathlib.Core.List.{List, [], ◌∷◌, ◌++◌, append-nil}
use Prim.Native.Nat.{ℕ, zero, suc, ◌+◌, ◌-◌, ◌≤◌, ◌<◌}
use native.Mathlib.Omega.{arith}
use lib.IntN.{ℤ}
use lib.Dec.{eqb, ltb}
use lib.ListN.{length, drop, length-append}
use borrow.Author.Tests.{le-leb, lt-ltb, le-ltb, eq-eqb, ltb-true, ltb-false}
use Rattle.numbers.specs.Signal.{pick}
use Rattle.lifting.specs.Grid.{Side}
use Rattle.wavelet.specs.Bands.{LL, code}
use Rattle.wavelet.specs.Limits.{max_origin}
use Rattle.wavelet.specs.Order.{RowName, row_name}
use Rattle.calls.specs.Lists.{gives, refused, unless, Area, gathered}
use Rattle.calls.specs.Lists as lists
use Rattle.calls.proofs.ListLaws.{events-snoc, gathered_snoc}
use Rattle.reader_steps.proofs.Looks.{named-code}
use Rattle.reader.specs.Answers.{row, draw_now, done}
use Rattle.wavelet.specs.Levels.{side_at}
use Rattle.filters.specs.Figures.{store_by}
use Rattle.reader.specs.Questions.{store_fits, run_fits, stop_question}
use Rattle.reader.specs.Stops.{works, left}
use Rattle.reader.specs.Demand3.{on_top, Call, want, feed, draw, World, Event, wanted, fed, drew, event, next, events, final, ends, ended_by, drawn_by, drawn_rows}
use Rattle.reader.proofs.QuestionLaws.{stop-in}
use Rattle.reader.proofs.CallViews.{on-top}
use Rattle.distant.specs.LastLists.{fed_run, fed_runs, last_says, last_feed}
use Rattle.distant.specs.Distant.{stopped_world, HandsLow}
use Rattle.distant.proofs.Distant.{whole-store, of_calls, world_is, distant-last}
use Rattle.fair_turns.specs.Reading.{ReadingLaws}
use Rattle.fair_turns.specs.Standing.{names_row, takes_run, reading}
use Rattle.fair_turns.specs.Stopping.{stopping, low_rows, handing}
use Rattle.fair_turns.proofs.Standing.{neither, over-laws}

-- ---- with levels to work out
module _ (f : ℕ) (W H : Side) (L i n : ℕ) (across : W.start ≤ max_origin) (down : H.start ≤ max_origin) (ok : stop_question f W H L (suc i) n ≡ 0)
    (on : works W H L (suc i) ≡ true) (x : ℕ → ℤ) where
  room : store_fits (on_top (left f W L (suc i)) (store_by f (side_at (suc i) W) (L - suc i))) n ≡ true
  unfolding store_fits
  room = le-leb (on_top (left f W L (suc i)) (store_by f (side_at (suc i) W) (L - suc i))) n
      (omega (
        arith,
        on-top (left f W L (suc i)) (store_by f (side_at (suc i) W) (L - suc i)),
        whole-store f W H L i n across down ok on,
        (stop-in f W H L (suc i) n ok).5,
      ))

  pub stopping-laws : ReadingLaws (stopping f W H L (suc i) n x)
  stopping-laws =
      subst (λ v. ReadingLaws (reading f (suc i) (side_at (suc i) W) (side_at (suc i) H) (L - suc i) n v)) (sym (world_is f W H L i n across down ok on x))
      (over-laws f (suc i) (left f W L (suc i)) (side_at (suc i) W) (side_at (suc i) H) (L - suc i) n x
      (λ cs. of_calls f W H L i n across down ok on x cs (L - suc i) refl) room)

-- ---- with none
drop-low : (j r n k : ℕ) → k < n → drop k (low_rows j r n) ≡ row_name j LL (r + k) ∷ drop (suc k) (low_rows j r n)
unfolding low_rows
drop-low j r zero k p = absurd (omega (arith, p))
drop-low j r (suc n) zero p = ap (λ v. row_name j LL v ∷ low_rows j (suc r) n) (omega arith)
drop-low j r (suc n) (suc k) p =
    drop-low j (suc r) n k (omega (arith, p)) ∙ ap (λ v. row_name j LL v ∷ drop (suc k) (low_rows j (suc r) n)) (omega arith)

-- as many runs are taken as fed, with no 14
taken-fed : (e : Event) → ends e ≡ false → length (takes_run e) ≡ length (fed_run e)
unfolding ends takes_run fed_run
taken-fed (wanted v) n = refl
taken-fed (fed a (gives u)) n = refl
taken-fed (fed a (refused q)) n = ap (λ b. length (pick b (a ∷ []) [])) n
taken-fed (drew a v b) n = refl

all-taken : (es : List Event) → ended_by es ≡ false → length (gathered takes_run es) ≡ length (fed_runs es)
unfolding lists.ever lists.gathered
all-taken [] n = refl
all-taken (e ∷ es) n =
    let b = neither (ends e) (ended_by es) n in
    length-append (takes_run e) (gathered takes_run es) ∙ ap₂ (λ p q. p + q) (taken-fed e b.0) (all-taken es b.1)
    ∙ sym (length-append (fed_run e) (gathered fed_run es))

module _ (f : ℕ) (W H : Side) (L j n : ℕ) (across : W.start ≤ max_origin) (down : H.start ≤ max_origin) (ok : stop_question f W H L j n ≡ 0)
    (off : works W H L j ≡ false) (x : ℕ → ℤ) where
  abbrev w₀ : World
  w₀ = stopped_world f W H L j x

  abbrev w : ℕ
  w = (side_at j W).length

  abbrev h : ℕ
  h = pick (eqb (side_at j W).length 0) 0 (side_at j H).length

  abbrev M : ℕ
  M = store_by f W L

  abbrev P : List Call → ℕ
  P cs = length (fed_runs (events cs w₀))

  abbrev D : List Call → ℕ
  D cs = length (drawn_rows (events cs w₀))

  abbrev K : List Call → ℕ
  K cs = length (gathered takes_run (events cs w₀))

  claim : (cs : List Call) → HandsLow f W H L j (events cs w₀) (λ c. event c (final cs w₀))
  claim cs = distant-last f W H L j n across down ok off x cs

  taken : (cs : List Call) → K cs ≡ P cs
  taken cs = all-taken (events cs w₀) (claim cs).lives

  -- a row is named where none waits and one is left
  said : (p d : ℕ) → p ≤ d → d < h → names_row (wanted (gives (last_says f j w h M p d))) ≡ row_name j LL d ∷ []
  unfolding last_says names_row
  said p d a b = rw (le-ltb d p a, lt-ltb d h b) (ap (λ c. row_name j c d ∷ []) (named-code LL))

  says : (p d : ℕ) (y : RowName) → names_row (wanted (gives (last_says f j w h M p d))) ≡ y ∷ [] → (p ≤ d) × (d < h) × (y ≡ row_name j LL d)
  unfolding last_says names_row
  says p d y = go (ltb d p) refl (ltb d h) refl
    where
      go : (u : Bool) → ltb d p ≡ u → (v : Bool) → ltb d h ≡ v → names_row (wanted (gives (pick u draw_now (pick v (row j (code LL) d w) done)))) ≡ y ∷ [] →
          (p ≤ d) × (d < h) × (y ≡ row_name j LL d)
      go true eu v ev e = absurd (let z : ◌≡◌ {A = ℕ} 0 1 = cc in omega arith)
      go false eu false ev e = absurd (let z : ◌≡◌ {A = ℕ} 0 1 = cc in omega arith)
      go false eu true ev e = (
        ltb-false d p eu,
        ltb-true d h ev,
        (let z : row_name j LL d ∷ [] ≡ y ∷ [] = ap (λ c. row_name j c d ∷ []) (sym (named-code LL)) ∙ e in cc),
      )

  at-row : (cs : List Call) (c : Call) (y : RowName) → names_row (event c (final cs w₀)) ≡ y ∷ [] → (P cs ≤ D cs) × (D cs < h) × (y ≡ row_name j LL (D cs))
  unfolding event names_row
  at-row cs want y e = says (P cs) (D cs) y (ap names_row (sym (claim cs).wants) ∙ e)
  at-row cs (feed m a) y e = absurd (let z : ◌≡◌ {A = ℕ} 0 1 = cc in omega arith)
  at-row cs (draw m a) y e = absurd (let z : ◌≡◌ {A = ℕ} 0 1 = cc in omega arith)

  next_low : (cs : List Call) (y : RowName) → (P cs ≤ D cs) × (D cs < h) × (y ≡ row_name j LL (D cs)) →
      drop (K cs) (low_rows j 0 h) ≡ y ∷ drop (suc (K cs)) (low_rows j 0 h)
  next_low cs y a =
      let t = taken cs in
      let l = (claim cs).waits.0 in
      drop-low j 0 h (K cs) (omega (arith, t, l, a.0, a.1))
      ∙ ap (λ v. v ∷ drop (suc (K cs)) (low_rows j 0 h)) (ap (row_name j LL) (omega (arith, t, l, a.0)) ∙ sym a.2)

  stay-low : (cs : List Call) (d : Call) (y : RowName) → (P cs ≤ D cs) × (D cs < h) × (y ≡ row_name j LL (D cs)) → takes_run (event d (final cs w₀)) ≡ [] →
      names_row (event want (final (cs ++ (d ∷ [])) w₀)) ≡ y ∷ []
  stay-low cs d y a s =
      let cs' = cs ++ (d ∷ []) in
      let seen = event d (final cs w₀) in
      let after : events cs' w₀ ≡ events cs w₀ ++ (seen ∷ []) = events-snoc event next cs d w₀ in
      let k : K cs' ≡ K cs =
      ap (λ es. length (gathered takes_run es)) after ∙ ap length (gathered_snoc takes_run (events cs w₀) seen)
      ∙ ap (λ l. length (gathered takes_run (events cs w₀) ++ l)) s ∙ ap length (append-nil (gathered takes_run (events cs w₀))) in
      let more : D cs' ≡ D cs + length (drawn_by seen) =
      ap (λ es. length (drawn_rows es)) after ∙ ap length (gathered_snoc drawn_by (events cs w₀) seen) ∙ length-append (drawn_rows (events cs w₀)) (drawn_by seen)
      in
      let t = taken cs in
      let t' = taken cs' in
      let l' = (claim cs').waits.0 in
      let same : D cs' ≡ D cs = omega (arith, k, more, t, t', l', a.0) in
      ap names_row (claim cs').wants ∙ said (P cs') (D cs') (omega (arith, k, t, t', same, a.0)) (omega (arith, same, a.1))
      ∙ ap (λ v. row_name j LL v ∷ []) same ∙ ap (λ v. v ∷ []) (sym a.2)

  takes_low : (cs : List Call) (a : Area) → (P cs ≤ D cs) × (D cs < h) → a.size ≡ w → run_fits f j a.size a.numbers ≡ true →
      takes_run (event (feed n a) (final cs w₀)) ≡ a ∷ []
  unfolding takes_run last_feed store_fits
  takes_low cs a p size numbers =
      let passes : last_feed f j w h M (P cs) (D cs) n a ≡ 0 = rw (
        le-leb M n (stop-in f W H L j n ok).5,
        lt-ltb (D cs) h p.1,
        le-leb (P cs) (D cs) p.0,
        eq-eqb a.size w size,
        numbers,
      ) refl in
      ap takes_run ((claim cs).feeds n a ∙ ap (λ q. fed a (unless q tt)) passes)

  pub handing-laws : ReadingLaws (handing f W H L j n x)
  handing-laws = record {
    names_next = λ cs c y e. next_low cs y (at-row cs c y e);
    names_stay = λ cs c d y e s. stay-low cs d y (at-row cs c y e) s;
    takes_named = λ cs c y a e fits. let p = at-row cs c y e in takes_low cs a (p.0, p.1) fits.size fits.numbers;
  }
