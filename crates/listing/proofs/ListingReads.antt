-- A byte read, and heights taken together, keep what a listing has reached: `read-reached`, `take-reached`. Assumes nothing.
use mathlib.Core.Path.{◌≡◌, refl, sym, ap, subst, ◌∙◌}
use mathlib.Core.Bool.{Bool, true, false}
use mathlib.Core.List.{List, [], ◌∷◌, ◌++◌, map, append-nil}
use Prim.Native.Nat.{ℕ, ◌+◌, ◌-◌, ◌*◌, ◌≤◌, ◌<◌}
use native.Mathlib.Omega.{arith}
use lib.ListN.{length, take, length-append}
use lib.Seq.{length-take-le}
use Rattle.pgm.specs.Runs.{sample_size, heights_of}
use Rattle.pgm.proofs.RunReads.{heights-first}
use Rattle.calls.specs.Lists.{gives, All, all_none, all_more}
use Rattle.writer.specs.Answers.{Took}
use Rattle.writer.specs.Calls.{offer_reply, offer_store}
use Rattle.writer.specs.declared.Writer.{Writer}
use Rattle.calls.proofs.AllLaws.{all_append}
use Rattle.text.specs.Refusal.{refused_line}
use Rattle.pgm.specs.Limits.{max_picture_width}
use Rattle.wavelet.specs.Limits.{max_levels, max_sample}
use Rattle.pgm.specs.InputSteps.{read_byte, heights_came}
use Rattle.listing.specs.Parts.{no_line, refused_part}
use Rattle.listing.specs.States.{map_store, State, draw_state, offer_state, step_to, read_state}
use Rattle.listing.specs.Moves.{Idle}
use Rattle.listing.specs.Events.{Event, height, refusal, Progress, step_then, read_all}
use Rattle.pgm.specs.declared.input.Input.{Input}
use Rattle.pgm.specs.StepAnswer.{StepAnswer}
use Rattle.listing.proofs.LineLeft.{line_left, left-none, left-refused}
use Rattle.listing.proofs.RunSteps.{small-heights, run-read}
use Rattle.listing.proofs.StepHow.{Sane, StepIs, on, begins as begins-so, half, height as height-so, turned, after-refusal, SaneThen, more}
use Rattle.listing.proofs.StepHow.{begun as begun-sane, tall, refused as refused-sane, How, step-how, came-sane, shut-phase}
use Rattle.listing.proofs.ListingOffers.{shape-in, idle-text, more-heights, then-refused, still, turned-begun, begin-reached, begin-input, out}
use Rattle.listing.proofs.ListingOffers.{offered-begun, offered-input, height-begun, height-input}
use Rattle.listing.proofs.ListingReached.{ShapeIn, reads, shut, left_to, Begun, events_of, Reached, quiet, refused, begun}

pub differ : false ≡ true → ⊥
differ e = let z : ◌≡◌ {A = ℕ} 0 1 = cc in omega arith

-- what came and is reached after some bytes, read as h
pub record ReachedBy (n k : ℕ) (E : List Event) (f : Bool) (o : List ℕ) (h : Progress) (s : State) : Type 0 where
  pub reached : Reached n k (E ++ h.events) f o s
  pub input : s.listing.input ≡ h.input
  pub sane : Sane h.input

module _ (n k : ℕ) (store : map_store ≤ n) (row : max_picture_width ≤ k) (s : State) (idle : Idle s) where
  abbrev i : Input
  i = s.listing.input

  abbrev w : Writer
  w = s.listing.writer

  -- what a byte read as y brings
  abbrev progress_of : StepAnswer → Progress
  progress_of y = step_then (λ j. record { events = []; input = j }) y

  abbrev ReachedAs : List Event → Bool → List ℕ → StepAnswer → Type 0
  ReachedAs E f o y = ReachedBy n k E f o (progress_of y) (step_to n k w s.store s.row y)

  -- ---- before the head is there
  head-reads : (E : List Event) (f : Bool) (o : List ℕ) (y : StepAnswer) → E ≡ [] → f ≡ false → i.phase < 3 → o ≡ [] → StepIs i y → SaneThen y →
      ReachedAs E f o y
  head-reads E f o y a b c d (on j p q) (more t) = record { reached = quiet (append-nil E ∙ a) b q refl d; input = refl; sane = t }
  head-reads E f o y a b c d (begins-so j W H p q r g) (begun-sane t) = record {
    reached = rw (a, b, d) (begin-reached n k store row j w W H s.store s.row q r shape);
    input = begin-input n k store row j w W H s.store s.row shape;
    sane = t;
  }
    where
      shape : ShapeIn W H j.levels
      shape = let L = t.levels (omega arith) (omega arith) in shape-in W H j.levels g L.0 L.1
  head-reads E f o y a b c d (half j p q r) t = absurd (omega arith)
  head-reads E f o y a b c d (height-so j v p q r g h) t = absurd (omega arith)
  head-reads E f o y a b c d (turned j u p q z) (refused-sane t) = record {
    reached =
        refused u (ap (λ l. l ++ (refusal u ∷ [])) a) b (omega arith) (omega arith)
        (ap (λ l. l ++ line_left k s.row (refused_part u)) d ∙ left-refused k s.row u);
    input = shut-phase j q;
    sane = t;
  }
  head-reads E f o y a b c d (after-refusal p) t = absurd (omega arith)

  -- ---- after a refusal
  refused-reads : (n₀ : ℕ) (E : List Event) (f : Bool) (o : List ℕ) (y : StepAnswer) → E ≡ refusal n₀ ∷ [] → f ≡ false → 3 < i.phase
      → o ++ left_to k s ≡ refused_line n₀ → StepIs i y → SaneThen y → ReachedAs E f o y
  refused-reads n₀ E f o y a b c d (on j p q) t = absurd (omega arith)
  refused-reads n₀ E f o y a b c d (begins-so j W H p q r g) t = absurd (omega arith)
  refused-reads n₀ E f o y a b c d (half j p q r) t = absurd (omega arith)
  refused-reads n₀ E f o y a b c d (height-so j v p q r g h) t = absurd (omega arith)
  refused-reads n₀ E f o y a b c d (turned j u p q z) t = absurd (omega arith)
  refused-reads n₀ E f o y a b c d (after-refusal p) (more t) = record {
    reached = refused n₀ (append-nil E ∙ a) b c (omega arith) (ap (λ l. o ++ l) (left-none k s.row no_line refl) ∙ append-nil o ∙ idle-text k s o _ idle d);
    input = refl;
    sane = t;
  }

  -- ---- once the head is there
  module _ (W H L : ℕ) (hs : List ℕ) (b : ShapeIn W H L) (small : All (λ h. h ≤ max_sample) hs) where
    shut-reads : (E : List Event) (number : ℕ) (f : Bool) (o : List ℕ) (y : StepAnswer) → E ≡ events_of W H L hs number → Begun n k W H L hs number f o s
        → 3 < i.phase → length hs ≤ W * H → (f ≡ true → length hs ≡ W * H)
        → StepIs i y → SaneThen y → ReachedAs E f o y
    shut-reads E number f o y a e c d g (on j p q) t = absurd (omega arith)
    shut-reads E number f o y a e c d g (begins-so j W₁ H₁ p q r v) t = absurd (omega arith)
    shut-reads E number f o y a e c d g (half j p q r) t = absurd (omega arith)
    shut-reads E number f o y a e c d g (height-so j v p q r z h) t = absurd (omega arith)
    shut-reads E number f o y a e c d g (turned j u p q z) t = absurd (omega arith)
    shut-reads E number f o y a e c d g (after-refusal p) (more t) = record {
      reached = begun W H L hs number (append-nil E ∙ a) b small (shut c d g) (still n k W H L hs number f o s i idle e);
      input = refl;
      sane = t;
    }

    heights-reads : (E : List Event) (o : List ℕ) (y : StepAnswer) → E ≡ events_of W H L hs 0 → Begun n k W H L hs 0 false o s → i.phase ≡ 3
        → i.left + length hs ≡ W * H
        → StepIs i y → SaneThen y → ReachedAs E false o y
    heights-reads E o y a e c d (on j p q) t = absurd (omega arith)
    heights-reads E o y a e c d (begins-so j W₁ H₁ p q r v) t = absurd (omega arith)
    heights-reads E o y a e c d (half j p q r) (more t) = record {
      reached = begun W H L hs 0 (append-nil E ∙ a) b small (reads refl refl q (omega arith)) (still n k W H L hs 0 false o s j idle e);
      input = refl;
      sane = t;
    }
    heights-reads E o y a e c d (height-so j v p q r z h) (tall t) = record {
      reached =
          begun W H L (hs ++ (v ∷ [])) 0 (ap (λ l. l ++ (height v ∷ [])) a ∙ more-heights W H L hs (v ∷ [])) b (all_append small (all_more h all_none))
          (reads refl refl (ap (λ l. l.phase) kept ∙ q) (ap (λ l. l.left + length (hs ++ (v ∷ []))) kept ∙ counted v))
          (height-begun n k store row W H L hs o s b e idle j v (omega arith));
      input = kept;
      sane = t;
    }
      where
        kept : (offer_state n k j w v s.store s.row).listing.input ≡ j
        kept = height-input n k store row W H L hs o s b e idle j v (omega arith)

        counted : (v : ℕ) → j.left + length (hs ++ (v ∷ [])) ≡ W * H
        counted v = omega (arith, length-append hs (v ∷ []))
    heights-reads E o y a e c d (turned j u p q r) (refused-sane t) = record {
      reached =
          begun W H L hs u (ap (λ l. l ++ (refusal u ∷ [])) a ∙ then-refused W H L hs u r) b small (shut (omega arith) (omega arith) (λ z. absurd (differ z)))
          (turned-begun n k W H L hs false o s j u r idle e);
      input = shut-phase j q;
      sane = t;
    }
    heights-reads E o y a e c d (after-refusal p) t = absurd (omega arith)

  -- ---- a byte
  pub reached-as : {E : List Event} {f : Bool} {o : List ℕ} → Reached n k E f o s → (y : StepAnswer) → How i y → ReachedAs E f o y
  reached-as {E} {f} {o} (quiet a b c d e) y (h, t) = head-reads E f o y a b c e h t
  reached-as {E} {f} {o} (refused q a b c d e) y (h, t) = refused-reads q E f o y a b c e h t
  reached-as {E} {f} {o} (begun W H L hs number a b c (shut d g j) e) y (h, t) = shut-reads W H L hs b c E number f o y a e d g j h t
  reached-as {E} {f} {o} (begun W H L hs number a b c (reads d g j l) e) y (h, t) =
      subst (λ f. ReachedAs E f o y) (sym g)
      (heights-reads W H L hs b c E o y (a ∙ ap (events_of W H L hs) d)
      (subst (λ r. Begun n k W H L hs r false o s) d (subst (λ f. Begun n k W H L hs number f o s) g e)) j l h t)

  pub read-reached : {E : List Event} {f : Bool} {o : List ℕ} → Reached n k E f o s → Sane i → (b : ℕ) → b ≤ 255
      → ReachedBy n k E f o (read_all i (b ∷ [])) (read_state n k b s)
  unfolding read_all read_state
  read-reached t v b small = reached-as t (read_byte max_levels i b) (step-how i v b small)

  -- ---- heights that came together
  module _ (bytes : List ℕ) (j : Took) where
    abbrev m : ℕ
    m = i.samples.largest

    abbrev run : List ℕ
    run = heights_of m bytes

    abbrev u : List ℕ
    u = take (sample_size m * j.taken) bytes

    abbrev then : State
    then = draw_state n k (heights_came j.taken i) j.writer (offer_store w n run s.store) s.row

    module _ (W H L : ℕ) (hs : List ℕ) (o : List ℕ) (b : ShapeIn W H L) (small : All (λ h. h ≤ max_sample) hs) (E : List Event)
        (a : E ≡ events_of W H L hs 0) (e : Begun n k W H L hs 0 false o s)
        (c : i.phase ≡ 3) (d : i.left + length hs ≡ W * H) (x : i.samples.half ≡ false) (fits : length run ≤ i.left)
        (says : offer_reply w n run s.store ≡ gives j) (some : 0 < j.taken) (bs : All (λ b. b ≤ 255) u) where
      abbrev t : Took
      t = (out n k store row W H L hs o s b e idle run (omega arith)).took

      same : t ≡ j
      same = let q : gives t ≡ gives j = sym (out n k store row W H L hs o s b e idle run (omega arith)).reply ∙ says in cc

      most : j.taken ≤ length run
      most = omega (arith, ap (λ m. m.taken) same, (out n k store row W H L hs o s b e idle run (omega arith)).most)

      reached-run : read_all i u ≡ record { events = map height (take j.taken run); input = heights_came j.taken i }
      reached-run = run-read i bytes j.taken c x fits some most

      counted : i.left - j.taken + length (hs ++ take j.taken run) ≡ W * H
      counted = omega (arith, most, length-append hs (take j.taken run), length-take-le j.taken run most)

      run-begun : Begun n k W H L (hs ++ take j.taken run) 0 false o then
      run-begun =
          subst (λ t. Begun n k W H L (hs ++ take t.taken run) 0 false o
          (draw_state n k (heights_came j.taken i) t.writer (offer_store w n run s.store) s.row)) same
          (offered-begun n k store row W H L hs o s b e idle run (omega arith) (heights_came j.taken i))

      then-input : then.listing.input ≡ heights_came j.taken i
      then-input =
          subst (λ t. (draw_state n k (heights_came j.taken i) t.writer (offer_store w n run s.store) s.row).listing.input ≡ heights_came
          j.taken i) same
          (offered-input n k store row W H L hs o s b e idle run (omega arith) (heights_came j.taken i))

      run-reached : Sane i → ReachedBy n k E false o (read_all i u) then
      run-reached v =
          subst (λ h. ReachedBy n k E false o h then) (sym reached-run)
          (record {
            reached =
                begun W H L (hs ++ take j.taken run) 0 (ap (λ l. l ++ map height (take j.taken run)) a ∙ more-heights W H L hs (take j.taken run)) b
                (all_append small (subst (All (λ h. h ≤ max_sample)) (heights-first m bytes j.taken) (small-heights m u bs)))
                (reads refl refl (ap (λ l. l.phase) then-input ∙ c) (ap (λ l. l.left + length (hs ++ take j.taken run)) then-input ∙ counted))
                run-begun;
            input = then-input;
            sane = came-sane j.taken i v;
          })

    pub take-reached : {E : List Event} {f : Bool} {o : List ℕ} → Reached n k E f o s → Sane i → i.phase ≡ 3 → i.samples.half ≡ false
        → length run ≤ i.left → offer_reply w n run s.store ≡ gives j → 0 < j.taken
        → All (λ b. b ≤ 255) u → ReachedBy n k E f o (read_all i u) then
    take-reached (quiet a b c d e) v p q r g h bs = absurd (omega arith)
    take-reached (refused y a b c d e) v p q r g h bs = absurd (omega arith)
    take-reached (begun W H L hs number a b c (shut d z l) e) v p q r g h bs = absurd (omega arith)
    take-reached {E} {f} {o} (begun W H L hs number a b c (reads d y z l) e) v p q r g h bs =
        subst (λ f. ReachedBy n k E f o (read_all i u) then) (sym y)
        (run-reached W H L hs o b c E (a ∙ ap (events_of W H L hs) d)
        (subst (λ r. Begun n k W H L hs r false o s) d (subst (λ f. Begun n k W H L hs number f o s) y e)) z l q r g h bs v)
