-- Round trip: the file of a map, cut anywhere, is loaded to that map (`round_trip`). Each turn takes a byte of the file or draws a row. Assumes nothing.
use mathlib.Core.Path.{◌≡◌, refl, sym, ap, ap₂, ◌∙◌, subst}
use mathlib.Core.Bool.{Bool, true, false, true≢false}
use mathlib.Core.List.{List, [], ◌∷◌, ◌++◌, append-nil, append_assoc}
use Prim.Native.Nat.{ℕ, zero, suc, ◌+◌, ◌-◌, ◌*◌, ◌/◌, ◌%◌, ◌≤◌, ◌<◌}
use native.Mathlib.Nat.{mul_comm, mod-lt, mod-add-div, lt_of_mul-lt-mul_left}
use native.Mathlib.Omega.{arith}
use native.Mathlib.Decide.{dec_lt}
use lib.IntN.{ℤ}
use lib.ListN.{length, take, drop, length-append, take-append-drop}
use lib.Seq.{drop-append_seam, length-take-le}
use lib.Dec.{leb, ltb}
use borrow.Author.Tests.{lt-ltb, le-leb}
use Rattle.numbers.specs.Signal.{at, pick}
use Rattle.numbers.specs.Word.{whole}
use Rattle.lifting.specs.Grid.{Side}
use Rattle.wavelet.specs.declared.shape.Shape.{Shape}
use Rattle.wavelet.specs.Shape.{columns, rows}
use Rattle.wavelet.specs.Bands.{Band, Grid}
use Rattle.wavelet.specs.Levels.{level_band}
use Rattle.wavelet.specs.View.{band_columns, band_start, Kept}
use Rattle.wavelet.proofs.AskLaws.{width-exactly, height-exactly}
use Rattle.wavelet.proofs.PlaneLayout.{plane-places}
use Rattle.wavelet.proofs.PlanePlaces.{found, found-place}
use Rattle.wavelet.specs.Limits.{max_width, max_height, max_origin}
use Rattle.wavelet.specs.Questions.{ask, within}
use Rattle.filters.specs.Filters.{filter_of, is_filter}
use Rattle.filters.specs.Figures.{store_by}
use Rattle.filters.proofs.PlainFigures.{known-exactly, levels-exactly}
use Rattle.calls.specs.Lists.{Reply, gives, refused, Area, All}
use Rattle.calls.specs.Lists as lists
use Rattle.calls.proofs.ListLaws.{gathered_snoc, ever-snoc}
use Rattle.reader.specs.Questions.{store_fits}
use Rattle.reader.specs.Questions as reader
use Rattle.reader.specs.Demand3 as demand
use Rattle.reader.specs.Demand3.{Given, heights, OneOf, this, that}
use Rattle.reader.proofs.CallViews.{Limits, limits}
use Rattle.reader.proofs.Reached.{reached}
use Rattle.reader.proofs.CallLists.{Then}
use Rattle.reader.proofs.Demand3.{no-levels}
use Rattle.ground_file.specs.declared.saver.Saver.{Saver}
use Rattle.ground_file.specs.Maps.{MapOf, plane_in, map_file}
use Rattle.ground_file.specs.Saving.{Calls}
use Rattle.ground_file.specs.Saving as saver
use Rattle.ground_file.proofs.MapSaved.{map-saved}
use Rattle.ground_loader.specs.Loader.{World, Want, bytes, draw_now, done, ended, want_of, store_needs, fresh_world}
use Rattle.ground_loader.specs.LoaderLists.{Call, take_bytes, draw, Took, took, Event, wanted, offered, drew, event, next, events, final}
use Rattle.ground_loader.specs.LoaderLists.{taken_by, bytes_taken, drawn_by, drawn_rows, ends, ended_by, Begins, Offer, some, ends_it, seven, twenty_two}
use Rattle.ground_loader.specs.Loading.{part, as_wanted, answering, loaded, Back}
use Rattle.ground_loader.proofs.FileBytes.{Bytes}
use Rattle.ground_loader.proofs.LoaderState.{State, in-header, in_row, at-draw, at-end, over}
use Rattle.ground_loader.proofs.LoaderBytes.{bd, sb, sum-long, end-split}
use Rattle.ground_loader.proofs.LoaderRuns.{want_at, want-at}
use Rattle.ground_loader.proofs.LoaderDraws.{says, draw-to}
use Rattle.ground_loader.proofs.LoaderTheorem.{sh, After, step, fresh, want-seen, offer-here, away-only, fourteen-here, draws-here, draw-seen}
use Rattle.ground_loader.proofs.LoaderTheorem.{whole-done, done-whole, holds, asks-four}

module _ (f : ℕ) (W H : Side) (l : ℕ) (lim : Limits 0 f 0 0 W H l) where
  -- no more rows are drawn than there are
  drawn-then : (es : List demand.Event) (w : demand.World) → Then 0 f 0 0 W H l lim es w → length (demand.drawn_rows es) ≤ H.length
  drawn-then es _ (reached d p e x t fs ds kept) = omega (arith, kept.drawn, kept.drawn_le)

  drawn_le : {fin : Bool} {bs : List ℕ} {ds : List (ℕ → ℤ)} {w : World} → State f W H l lim fin bs ds w → fin ≡ false → length ds ≤ H.length
  drawn_le (in-header es h r x y p c live unfed) _ = drawn-then es _ c
  drawn_le (in_row es r x y c ps y₀ q t a live d e k v) _ = drawn-then es _ a
  drawn_le (at-draw es r x y k t a live d e) _ = drawn-then es _ a
  drawn_le (at-end es r x y k p a live d e) _ = drawn-then es _ a
  drawn_le (over es r x y bs ds h c z p i a live d) e = absurd (true≢false (sym z ∙ e))

  -- after Done nothing of the file is left
  done-rest : {fin : Bool} {bs : List ℕ} {ds : List (ℕ → ℤ)} {w : World} (st : State f W H l lim fin bs ds w) → want_at f W H l lim st ≡ done → (g : Grid)
      → MapOf (sh f W H l lim) g → (rest : List ℕ) → map_file (sh f W H l lim) g ≡ bs ++ rest → length rest ≡ 0
  unfolding want_at
  done-rest (in-header es h r x y p c live unfed) e g mp rest is = absurd (let z : ◌≡◌ {A = ℕ} 0 1 = cc in omega arith)
  done-rest (in_row es r x y c ps y₀ q t b live d i k v) e g mp rest is = absurd (let z : ◌≡◌ {A = ℕ} 0 1 = cc in omega arith)
  done-rest (at-draw es r x y k t b live d i) e g mp rest is = absurd (let z : ◌≡◌ {A = ℕ} 0 1 = cc in omega arith)
  done-rest (at-end es r x y k p came live none sized) e g mp rest is =
      let v =
      end-split f W H l lim es r x came live sized none g mp (take k (sb f W H l lim es) ++ rest)
      (is ∙ append_assoc (bd f W H l lim es r x came live sized) (take k (sb f W H l lim es)) rest) in
      let long = length-take-le k (sb f W H l lim es) (omega (arith, p, sum-long f W H l lim es r x came live sized)) in
      let all = sym (length-append (take k (sb f W H l lim es)) rest) ∙ ap length v in
      omega (arith, all, long, four (ltb k 4) refl e, sum-long f W H l lim es r x came live sized)
    where
      four : (t : Bool) → ltb k 4 ≡ t → pick t bytes done ≡ done → 4 ≤ k
      four true z u = absurd (let y : ◌≡◌ {A = ℕ} 0 1 = cc in omega arith)
      four false z u = elim (dec_lt k 4) [ yes q ↦ absurd (true≢false (sym (lt-ltb k 4 q) ∙ z)) | no q ↦ omega (arith, q) ]
  done-rest (over es r x y bs ds h c z p i b live d) e g mp rest is = absurd (let v : ◌≡◌ {A = ℕ} 0 1 = cc in omega arith)

  module _ (g : Grid) (mp : MapOf (sh f W H l lim) g) (n m : ℕ) (room : store_by f W (suc l) ≤ n) (area : (W.length + 1) / 2 ≤ m) (cuts : ℕ → ℕ)
      (outs : ℕ → Area) (wide : (i : ℕ) → W.length ≤ (outs i).size) (small : Bytes (map_file (sh f W H l lim) g)) where
    abbrev file : List ℕ
    file = map_file (sh f W H l lim) g

    abbrev plays : ℕ → ℕ → World → List Call
    plays = loaded n m cuts outs file small

    -- the calls c, and those of the turns after them
    abbrev with-more : ℕ → ℕ → World → List Call → List Call
    with-more i j w c = c ++ plays i (j + length (bytes_taken (events c w))) (final c w)

    abbrev BackBy : List Event → World → List Call → Type 0
    BackBy es w cs = Back (sh f W H l lim) g (es ++ events cs w) (λ c. event c (final cs w))

    -- with so many turns left, wherever the loader is
    abbrev Goal : ℕ → Type 0
    Goal i = (es : List Event) (w : World) → After f W H l lim es w → ended_by es ≡ false → (rest : List ℕ) → file ≡ bytes_taken es ++ rest
        → length rest + (H.length - length (drawn_rows es)) ≤ i → (j : ℕ) → j ≡ length (bytes_taken es) → BackBy es w (plays i j w)

    -- ---- all is taken
    back-here : (es : List Event) (w : World) (k : After f W H l lim es w) → file ≡ bytes_taken es → Back (sh f W H l lim) g es (λ c. event c w)
    back-here es w k e =
        let d = whole-done f W H l lim k.state g mp (sym e) in
        let every = done-whole f W H l lim k.state d in
        record {
          file = sym e;
          all = every.all;
          heights = k.shows g (record { map = mp; rest = []; is = e ∙ sym (append-nil (bytes_taken es)) });
          says =
              want-seen f W H l lim (ended_by es) (bytes_taken es) (drawn_rows es) w k
              ∙ ap (λ v. wanted (gives v)) (want-at f W H l lim k.state ∙ d);
        }

    none_left : (rest : List ℕ) → length rest ≤ 0 → rest ≡ []
    none_left [] h = refl
    none_left (x ∷ rest) h = absurd (omega arith)

    base : Goal 0
    unfolding loaded lists.events lists.final
    base es w k live rest is less j je =
        subst (λ u. Back (sh f W H l lim) g u (λ c. event c w)) (sym (append-nil es))
        (back-here es w k (is ∙ ap (λ u. bytes_taken es ++ u) (none_left rest (omega (arith, less))) ∙ append-nil (bytes_taken es)))

    -- ---- a turn of one call
    turn : (i : ℕ) → Goal i → (es : List Event) (w : World) → After f W H l lim es w → ended_by es ≡ false → (j : ℕ) → j ≡ length (bytes_taken es)
        → (call : Call) (e : Event) → event call w ≡ e → ends e ≡ false → (rest : List ℕ) → file ≡ (bytes_taken es ++ taken_by e) ++ rest
        → length rest + (H.length - length (drawn_rows es ++ drawn_by e)) ≤ i → BackBy es w (with-more i j w (call ∷ []))
    unfolding lists.events lists.final lists.gathered
    turn i goal es w k live j je call e seen goes rest is less =
        subst (λ u. Back (sh f W H l lim) g u (λ c. event c (final later (next call w)))) (append_assoc es (event call w ∷ []) (events later (next call w)))
        (goal (es ++ (event call w ∷ [])) (next call w) (step f W H l lim call es w k)
        (ever-snoc ends es (event call w) ∙ ap₂ (λ u v. pick u true v) live (ap ends seen ∙ goes))
        rest (is ∙ ap (λ u. u ++ rest) (sym taken)) (omega (arith, less, ap length drawn)) j' place)
      where
        j' : ℕ
        j' = j + length (bytes_taken (event call w ∷ []))

        later : List Call
        later = plays i j' (next call w)

        taken : bytes_taken (es ++ (event call w ∷ [])) ≡ bytes_taken es ++ taken_by e
        taken = gathered_snoc taken_by es (event call w) ∙ ap (λ u. bytes_taken es ++ taken_by u) seen

        drawn : drawn_rows (es ++ (event call w ∷ [])) ≡ drawn_rows es ++ drawn_by e
        drawn = gathered_snoc drawn_by es (event call w) ∙ ap (λ u. drawn_rows es ++ drawn_by u) seen

        place : j' ≡ length (bytes_taken (es ++ (event call w ∷ [])))
        place =
            let a = ap length (gathered_snoc taken_by es (event call w)) ∙ length-append (bytes_taken es) (taken_by (event call w)) in
            let b = ap length (append-nil (taken_by (event call w))) in
            omega (arith, a, b, je)

    -- ---- by what is wanted
    module _ (i : ℕ) (goal : Goal i) (es : List Event) (w : World) (k : After f W H l lim es w) (live : ended_by es ≡ false) (rest : List ℕ)
        (is : file ≡ bytes_taken es ++ rest) (less : length rest + (H.length - length (drawn_rows es)) ≤ suc i) (j : ℕ) (je : j ≡ length (bytes_taken es)) where
      abbrev run : List ℕ
      run = take (suc (cuts i)) (drop j file)

      run_is : drop j file ≡ rest
      run_is = ap₂ drop je is ∙ drop-append_seam (bytes_taken es) rest

      -- what follows the first x bytes of the offer
      abbrev after : ℕ → List ℕ
      after x = drop x run ++ drop (suc (cuts i)) (drop j file)

      front-is : (x : ℕ) → file ≡ (bytes_taken es ++ take x run) ++ after x
      front-is x =
          is ∙ ap (λ u. bytes_taken es ++ u)
          (sym run_is ∙ sym (take-append-drop (suc (cuts i)) (drop j file))
          ∙ ap (λ u. u ++ drop (suc (cuts i)) (drop j file)) (sym (take-append-drop x run))
          ∙ append_assoc (take x run) (drop x run) (drop (suc (cuts i)) (drop j file)))
          ∙ sym (append_assoc (bytes_taken es) (take x run) (after x))

      begins : (x : ℕ) → Begins (sh f W H l lim) g (bytes_taken es ++ take x run)
      begins x = record { map = mp; rest = after x; is = front-is x }

      -- with bytes wanted the file is not over
      some_left : want_at f W H l lim k.state ≡ bytes → (r : List ℕ) → rest ≡ r → 0 < length r
      some_left z [] e =
          let d = whole-done f W H l lim k.state g mp (sym (is ∙ ap (λ u. bytes_taken es ++ u) e ∙ append-nil (bytes_taken es))) in
          let y = sym z ∙ d in absurd (let p : ◌≡◌ {A = ℕ} 0 1 = cc in omega arith)
      some_left z (b ∷ r) e = omega arith

      run-some : (r : List ℕ) → drop j file ≡ r → 0 < length r → 0 < length run
      run-some [] e h = absurd (omega arith)
      run-some (b ∷ r) e h = subst (λ u. 0 < length (take (suc (cuts i)) u)) (sym e) (omega arith)

      offer-run : (r : List ℕ) (sm : Bytes r) → 0 < length r → want_of w.loader ≡ bytes → (t : Took) × Offer t × (event (take_bytes n m r sm) w ≡ offered r t)
      offer-run [] sm h z = absurd (omega arith)
      offer-run (b ∷ r) sm h z = offer-here f W H l lim (ended_by es) (bytes_taken es) (drawn_rows es) w k n m b r sm z room area

      abbrev offer : Call
      offer = take_bytes n m run (part j (suc (cuts i)) small)

      taken-some : (x : ℕ) (r : List ℕ) → 0 < length r → 0 < length (take (suc x) r)
      taken-some x [] h = h
      taken-some x (b ∷ r) h = omega arith

      took-on : (x : ℕ) → 0 < length run → event offer w ≡ offered run (took (suc x)) → BackBy es w (with-more i j w (offer ∷ []))
      unfolding taken_by drawn_by ends
      took-on x h e =
          let a = ap length (is ∙ sym (is) ∙ front-is (suc x)) in
          let b = length-append (bytes_taken es ++ take (suc x) run) (after (suc x)) in
          let c = length-append (bytes_taken es) (take (suc x) run) in
          let d = ap length is ∙ length-append (bytes_taken es) rest in
          let q = ap length (append-nil (drawn_rows es)) in
          turn i goal es w k live j je offer (offered run (took (suc x))) e refl (after (suc x)) (front-is (suc x))
          (omega (arith, a, b, c, d, q, less, taken-some x run h))

      offered-on : 0 < length run → (t : Took) → Offer t → event offer w ≡ offered run t → BackBy es w (with-more i j w (offer ∷ []))
      offered-on h _ (some x) e = took-on x h e
      offered-on h _ (ends_it x) e =
          absurd (fourteen-here f W H l lim (ended_by es) (bytes_taken es) (drawn_rows es) w k n m x run (part j (suc (cuts i)) small) e g (begins (suc x)))
      offered-on h _ seven e =
          absurd (away-only f W H l lim (ended_by es) (bytes_taken es) (drawn_rows es) w k n m run (part j (suc (cuts i)) small) 7 (this refl) e g (begins 1))
      offered-on h _ twenty_two e =
          absurd (away-only f W H l lim (ended_by es) (bytes_taken es) (drawn_rows es) w k n m run (part j (suc (cuts i)) small) 22 (that refl) e g (begins 1))

      bytes-turn : want_at f W H l lim k.state ≡ bytes → BackBy es w (with-more i j w (offer ∷ []))
      bytes-turn z =
          let h = run-some rest run_is (some_left z rest refl) in
          let o = offer-run run (part j (suc (cuts i)) small) h (want-at f W H l lim k.state ∙ z) in
          offered-on h o.0 o.1 o.2

      -- ---- a draw
      drawn-on : (v : Reply Given) (z : Area) → event (draw n (outs i)) w ≡ drew (outs i) v z → v ≡ gives (heights W.length)
          → BackBy es w (with-more i j w (draw n (outs i) ∷ []))
      unfolding taken_by drawn_by ends
      drawn-on v z e is_row =
          let seen = e ∙ ap (λ u. drew (outs i) u z) is_row in
          let after-it = step f W H l lim (draw n (outs i)) es w k in
          let alive = ever-snoc ends es (event (draw n (outs i)) w) ∙ ap₂ (λ u v. pick u true v) live (ap ends seen) in
          let most = drawn_le after-it.state alive in
          let many = ap length (gathered_snoc drawn_by es (event (draw n (outs i)) w) ∙ ap (λ u. drawn_rows es ++ drawn_by u) seen) in
          let more = length-append (drawn_rows es) (z.numbers ∷ []) in
          turn i goal es w k live j je (draw n (outs i)) (drew (outs i) (gives (heights W.length)) z) seen refl rest
          (is ∙ ap (λ u. u ++ rest) (sym (append-nil (bytes_taken es)))) (omega (arith, most, many, more, less))

      draw-turn : want_at f W H l lim k.state ≡ draw_now → BackBy es w (with-more i j w (draw n (outs i) ∷ []))
      draw-turn z = go (draws-here f W H l lim k.state z n (outs i) room (wide i))
        where
          go : OneOf (says f W H l lim n (outs i) w.loader.reader w.store) (gives (heights W.length)) (refused 14)
              → BackBy es w (with-more i j w (draw n (outs i) ∷ []))
          go (this e) = drawn-on _ _ (draw-seen f W H l lim k.state n (outs i)) e
          go (that e) =
              absurd ((draw-to f W H l lim n (outs i) k.state k.shows).never e g (record { map = mp; rest = rest; is = is }))

      -- ---- nothing more
      done-turn : want_at f W H l lim k.state ≡ done → BackBy es w (with-more i j w [])
      unfolding lists.events lists.final lists.gathered
      done-turn z =
          let none = done-rest k.state z g mp rest is in
          let all = (done-whole f W H l lim k.state z).all in
          goal es w k live rest is (omega (arith, none, all)) (j + 0) (omega (arith, je))

      ended-turn : want_at f W H l lim k.state ≡ ended → ⊥
      ended-turn z =
          true≢false (sym ((holds f W H l lim es w k).ended_only
          (want-seen f W H l lim (ended_by es) (bytes_taken es) (drawn_rows es) w k ∙ ap (λ v. wanted (gives v)) (want-at f W H l lim k.state ∙ z))) ∙ live)

      by-want : (v : Want) → want_at f W H l lim k.state ≡ v → BackBy es w (with-more i j w (as_wanted n m cuts outs file small i j v))
      unfolding as_wanted
      by-want bytes z = bytes-turn z
      by-want draw_now z = draw-turn z
      by-want done z = done-turn z
      by-want ended z = absurd (ended-turn z)

      next-turn : BackBy es w (plays (suc i) j w)
      unfolding loaded answering
      next-turn =
          let v = want_at f W H l lim k.state in
          let e =
          want-seen f W H l lim (ended_by es) (bytes_taken es) (drawn_rows es) w k ∙ ap (λ u. wanted (gives u)) (want-at f W H l lim k.state) in
          subst (λ u. BackBy es w (with-more i j w (answering n m cuts outs file small i j u))) (sym e) (by-want v refl)

    play : (i : ℕ) → Goal i
    play zero = base
    play (suc i) = λ es w k live rest is less j je. next-turn i (play i) es w k live rest is less j je

    pub loaded-back : (turns : ℕ) → length file + H.length ≤ turns → (x y : ℕ → ℤ)
        → BackBy [] (fresh_world (sh f W H l lim) 1 x y) (plays turns 0 (fresh_world (sh f W H l lim) 1 x y))
    unfolding lists.gathered lists.ever
    loaded-back turns many x y =
        play turns [] (fresh_world (sh f W H l lim) 1 x y) (fresh f W H l lim x y) refl file refl (omega (arith, many)) 0 refl

-- ---- of any map within the limits
-- 2, 3, 18 and 4 are told yes, and r follows
map-asks : (s : Shape) (g : Grid) → MapOf s g → (r : ℕ)
    → ask (within 1 max_width s.width) 2 (ask (within 1 max_height s.height) 3 (ask (is_filter s.filter) 18
    (ask (within 1 (filter_of s.filter).levels s.levels) 4 r))) ≡ r
map-asks s g mp r =
    asks-four _ _ _ _ r ((width-exactly s.width).1 mp.width) ((height-exactly s.height).1 mp.height)
    ((known-exactly s.filter).1 mp.filter) ((levels-exactly s.filter s.levels).1 mp.levels)

map-set-up : (s : Shape) (g : Grid) → MapOf s g → (n : ℕ) → store_needs s ≤ n → reader.set_up_question s.filter (columns s) (rows s) s.levels n ≡ 0
unfolding reader.set_up_question store_fits
map-set-up s g mp n room = map-asks s g mp (ask (leb (store_needs s) n) 5 0) ∙ ap (λ u. ask u 5 0) (le-leb (store_needs s) n room)

-- the file of a map, its bytes cut anywhere, is loaded to that map
pub round_trip : (s : Shape) (g : Grid) → MapOf s g → (n m : ℕ) → store_needs s ≤ n → (s.width + 1) / 2 ≤ m → (cuts : ℕ → ℕ) (outs : ℕ → Area)
    → ((i : ℕ) → s.width ≤ (outs i).size) → (small : All (λ b. b < 256) (map_file s g)) (turns : ℕ) → length (map_file s g) + s.height ≤ turns → (x y : ℕ → ℤ)
    → Back s g (events (loaded n m cuts outs (map_file s g) small turns 0 (fresh_world s 1 x y)) (fresh_world s 1 x y))
    (λ c. event c (final (loaded n m cuts outs (map_file s g) small turns 0 (fresh_world s 1 x y)) (fresh_world s 1 x y)))
round_trip s g mp n m room area cuts outs wide small turns many x y = go s.levels mp (map-set-up s g mp n room) room small many
  where
    with-levels : ℕ → Shape
    with-levels L = record { width = s.width; height = s.height; levels = L; x = s.x; y = s.y; filter = s.filter }

    go : (L : ℕ) → MapOf (with-levels L) g → reader.set_up_question s.filter (columns s) (rows s) L n ≡ 0 → store_needs (with-levels L) ≤ n
        → (small : All (λ b. b < 256) (map_file (with-levels L) g)) → length (map_file (with-levels L) g) + s.height ≤ turns
        → Back (with-levels L) g
        (events (loaded n m cuts outs (map_file (with-levels L) g) small turns 0 (fresh_world (with-levels L) 1 x y)) (fresh_world (with-levels L) 1 x y))
        (λ c. event c (final (loaded n m cuts outs (map_file (with-levels L) g) small turns 0 (fresh_world (with-levels L) 1 x y))
        (fresh_world (with-levels L) 1 x y)))
    go zero p e r sm q = absurd (no-levels s.filter (columns s) (rows s) n e)
    go (suc l) p e r sm q =
        loaded-back s.filter (columns s) (rows s) l
        (limits s.filter (columns s) (rows s) l n (unfold max_origin in low s.x mp.across) (unfold max_origin in low s.y mp.down) e) g p n m r area
        cuts outs wide sm turns q x y
      where
        low : (k : ℕ) → k < 65536 → k ≤ 65535
        low k h = omega arith

-- ---- from the saver: every list of its calls that saves a plane of the map to the end writes the map's file
pub saved-file : (s : Shape) (g : Grid) → MapOf s g → (p : List ℤ) → s.width * s.height ≤ length p
    → ((j : ℕ) → j < s.width * s.height → at p j ≡ plane_in s g j) → (b : List ℕ) (v : Saver) → Calls p (saver.fresh s 1) b v → 3 ≤ v.phase → b ≡ map_file s g
saved-file s g mp p long plane b v calls all =
    let w = map-saved s g mp p long plane b v calls in
    sym (append-nil b) ∙ ap (λ t. b ++ t) (sym (w.2 all)) ∙ w.1

-- a plane that has every band row of the map at its place, as the view gives it, is the map's
pub rows-plane : (s : Shape) (g : Grid) → 1 ≤ s.levels → (p : ℕ → ℤ)
    → ((k : ℕ) (b : Band) (r i : ℕ) → Kept (columns s) (rows s) s.levels k b r → i < band_columns (columns s) k b
    → p (band_start (columns s) (rows s) k b r + i) ≡ level_band (filter_of s.filter) whole (columns s) (rows s) g k b r i)
    → (j : ℕ) → j < s.width * s.height → p j ≡ plane_in s g j
rows-plane s g deep p has j h =
    let c : j % s.width < s.width = mod-lt j (wide s.width h) in
    let d : j % s.width + s.width * (j / s.width) ≡ j = mod-add-div j s.width in
    let r : j / s.width < s.height = lt_of_mul-lt-mul_left s.width (omega arith) in
    let it = found s.levels (columns s) (rows s) (j / s.width) (j % s.width) deep r c in
    let place : band_start (columns s) (rows s) it.level it.band it.row + it.column ≡ j =
    found-place s.levels (columns s) (rows s) (j / s.width) (j % s.width) it ∙ omega (arith, d, mul_comm s.width (j / s.width)) in
    subst (λ i. p i ≡ plane_in s g i) place
    (has it.level it.band it.row it.column
    (record {
      deep = it.stands.deep;
      most = it.stands.most;
      last = it.stands.last;
      columns = omega (arith, it.stands.column);
      row = it.stands.row;
    }) it.stands.column
    ∙ sym (plane-places (filter_of s.filter) whole s.levels (columns s) (rows s) g it.level it.band it.row it.column it.stands))
  where
    wide : (w : ℕ) → j < w * s.height → 0 < w
    wide zero l = absurd (omega arith)
    wide (suc w) l = omega arith

-- a map's plane through the saver, in any areas, and its bytes, cut anywhere, through the loader: the map
pub whole-trip : (s : Shape) (g : Grid) → MapOf s g → (p : List ℤ) → s.width * s.height ≤ length p
    → ((j : ℕ) → j < s.width * s.height → at p j ≡ plane_in s g j) → (b : List ℕ) (v : Saver) → Calls p (saver.fresh s 1) b v → 3 ≤ v.phase
    → (n m : ℕ) → store_needs s ≤ n → (s.width + 1) / 2 ≤ m → (cuts : ℕ → ℕ) (outs : ℕ → Area) → ((i : ℕ) → s.width ≤ (outs i).size)
    → (small : All (λ c. c < 256) b) (turns : ℕ) → length b + s.height ≤ turns → (x y : ℕ → ℤ)
    → Back s g (events (loaded n m cuts outs b small turns 0 (fresh_world s 1 x y)) (fresh_world s 1 x y))
    (λ c. event c (final (loaded n m cuts outs b small turns 0 (fresh_world s 1 x y)) (fresh_world s 1 x y)))
whole-trip s g mp p long plane b v calls all n m room area cuts outs wide small turns many x y =
    subst (λ file. (small : All (λ c. c < 256) file) → length file + s.height ≤ turns
    → Back s g (events (loaded n m cuts outs file small turns 0 (fresh_world s 1 x y)) (fresh_world s 1 x y))
    (λ c. event c (final (loaded n m cuts outs file small turns 0 (fresh_world s 1 x y)) (fresh_world s 1 x y))))
    (sym (saved-file s g mp p long plane b v calls all)) (λ sm h. round_trip s g mp n m room area cuts outs wide sm turns h x y) small many
