-- The listing program: whatever the calls, the bytes written are what the definition makes of the bytes read. Document 01, "The listing program".
-- A session begins with a listing that has read nothing; its line store has n numbers, enough for every map that a listing takes, and its row area k,
-- enough for every band row. x and z stand in them at first.
--     due      where the listing is idle, `due_of` the bytes read is written
--     prefix   at any time, a beginning of it
--     whole    after the end of the input and where the listing is idle again, `listing_of` the bytes read
--     partly   after the end of the input, at any time, a beginning of it
-- Assumes nothing.
use mathlib.Core.Path.{◌≡◌, refl, sym, ap, subst, ◌∙◌}
use mathlib.Core.Bool.{Bool, false}
use mathlib.Core.List.{List, [], ◌∷◌, ◌++◌, append-nil}
use Prim.Native.Nat.{ℕ, ◌≤◌, ◌<◌}
use native.Mathlib.Omega.{arith}
use Rattle.wavelet.specs.Limits.{max_levels}
use Rattle.level.specs.Level.{Memory}
use Rattle.calls.specs.Lists.{All}
use Rattle.pgm.specs.Limits.{max_picture_width}
use Rattle.listing.specs.Listing.{listing_of, due_of}
use Rattle.pgm.specs.InputSteps.{start_at, input_ended}
use Rattle.listing.specs.States.{map_store, State, state_of, started, end_state}
use Rattle.text.proofs.MoveLaws.{session-goes}
use Rattle.listing.specs.Moves.{Idle, Goes, Session}
use Rattle.listing.specs.Events.{Event, Ending, step_then, read_all, ending_of}
use Rattle.pgm.specs.declared.input.Input.{Input}
use Rattle.listing.proofs.InputReads.{read-all}
use Rattle.pgm.proofs.InputCases.{phase-on}
use Rattle.listing.proofs.DrawnText.{text_of, end_text}
use Rattle.listing.proofs.EventText.{due-events, listing-events}
use Rattle.listing.proofs.StepHow.{Sane}
use Rattle.listing.proofs.ListingReached.{Reached}
use Rattle.listing.proofs.ListingReads.{ReachedBy}
use Rattle.listing.proofs.ListingGoes.{goes-reached, begun-reached}
use Rattle.listing.proofs.ListingEnds.{EndReached, all-came, few-came, was-over, EndOut, end-reached}
use Rattle.listing.proofs.ListingDue.{reached-due, reached-prefix}

-- after the end nothing is read
after-refusal-events : (i : Input) (v : List ℕ) → 3 < i.phase → (read_all i v).events ≡ []
unfolding read_all
after-refusal-events i [] p = refl
after-refusal-events i (b ∷ v) p =
    ap (λ y. (step_then (λ j. read_all j v) y).events) (sym (phase-on max_levels i b (λ e. omega arith) (λ e. omega arith) (λ e. omega arith) (λ e. omega arith)))
    ∙ after-refusal-events i v p

-- ---- whatever the moves
module _ (n k : ℕ) (store : map_store ≤ n) (row : max_picture_width ≤ k) (x z : Memory) {u o : List ℕ} {s : State}
    (bytes : All (λ b. b ≤ 255) u) (reads : Goes n k (state_of started x z) u o s) where
  reached : ReachedBy n k [] false o (read_all (start_at 0) u) s
  reached = begun-reached n k store row x z bytes reads

  due-is : text_of false (read_all (start_at 0) u).events ≡ due_of u
  due-is = sym (due-events u ∙ ap (λ t. text_of false t.events) (sym (read-all u)))

  pub moves-due : Idle s → o ≡ due_of u
  moves-due idle = reached-due n k store s reached.reached idle ∙ due-is

  pub moves-prefix : (r : List ℕ) × (o ++ r ≡ due_of u)
  moves-prefix = let p = reached-prefix n k store s reached.reached in (p.0, p.1 ∙ due-is)

  -- ---- the end of the input; a listing that is fed after it (v) takes no notice
  module _ (idle : Idle s) {v o₂ : List ℕ} {s₂ : State} (more : All (λ b. b ≤ 255) v) (writes : Goes n k (end_state n k s) v o₂ s₂) where
    abbrev ending : Ending
    ending = ending_of (input_ended s.listing.input)

    out : EndOut n k (read_all (start_at 0) u).events o (end_state n k s) ending
    out = end-reached n k store row s idle (subst Sane (sym reached.input) reached.sane) reached.reached

    on : {E : List Event} {f : Bool} → Reached n k E f o (end_state n k s) → Reached n k E f (o ++ o₂) s₂
    on {E} {f} t =
        subst (λ l. Reached n k l f (o ++ o₂) s₂) (ap (λ l. E ++ l) (after-refusal-events _ v out.after-refusal) ∙ append-nil E)
        (goes-reached n k store row t out.sane more writes).reached

    all-is : end_text (record { events = (read_all (start_at 0) u).events; ending = ending }) ≡ listing_of u
    all-is =
        sym (listing-events u ∙ ap end_text (sym (read-all u))
        ∙ ap (λ i. end_text (record { events = (read_all (start_at 0) u).events; ending = ending_of (input_ended i) })) (sym reached.input))

    pub moves-whole : Idle s₂ → o ++ o₂ ≡ listing_of u
    moves-whole i = go out.reached ∙ all-is
      where
        go : {y : Ending} → EndReached n k (read_all (start_at 0) u).events o (end_state n k s) y
            → o ++ o₂ ≡ end_text (record { events = (read_all (start_at 0) u).events; ending = y })
        go (all-came t) = reached-due n k store s₂ (on t) i
        go (few-came t e) = reached-due n k store s₂ (on t) i ∙ e
        go (was-over t) = reached-due n k store s₂ (on t) i

    pub moves-partly : (r : List ℕ) × ((o ++ o₂) ++ r ≡ listing_of u)
    moves-partly = let p = go out.reached in (p.0, p.1 ∙ all-is)
      where
        go : {y : Ending} → EndReached n k (read_all (start_at 0) u).events o (end_state n k s) y
            → (r : List ℕ) × ((o ++ o₂) ++ r ≡ end_text (record { events = (read_all (start_at 0) u).events; ending = y }))
        go (all-came t) = reached-prefix n k store s₂ (on t)
        go (few-came t e) = let p = reached-prefix n k store s₂ (on t) in (p.0, p.1 ∙ e)
        go (was-over t) = reached-prefix n k store s₂ (on t)

-- ---- whatever the calls
module _ (n k : ℕ) (store : map_store ≤ n) (row : max_picture_width ≤ k) (x z : Memory) {u o : List ℕ} {s : State}
    (bytes : All (λ b. b ≤ 255) u) (reads : Session n k (state_of started x z) u o s) where
  pub due : Idle s → o ≡ due_of u
  due = moves-due n k store row x z bytes (session-goes reads)

  pub prefix : (r : List ℕ) × (o ++ r ≡ due_of u)
  prefix = moves-prefix n k store row x z bytes (session-goes reads)

  -- after the end of the input; a listing that is fed after it (v) takes no notice
  module _ (idle : Idle s) {v o₂ : List ℕ} {s₂ : State} (more : All (λ b. b ≤ 255) v) (writes : Session n k (end_state n k s) v o₂ s₂) where
    pub whole : Idle s₂ → o ++ o₂ ≡ listing_of u
    whole = moves-whole n k store row x z bytes (session-goes reads) idle more (session-goes writes)

    pub partly : (r : List ℕ) × ((o ++ o₂) ++ r ≡ listing_of u)
    partly = moves-partly n k store row x z bytes (session-goes reads) idle more (session-goes writes)
