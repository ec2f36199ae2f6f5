-- The listing over descriptors: whatever was read in whatever rounds, what was written is what the definition makes of it.
-- Line store and row area are those of ListingTheorem, and hold x and z at first.
--     partly-listed   at any time before the end of the input, a beginning of `due_of` what was read and is not left in the chunk
--     over-listed     where a refusal ended it, `listing_of` every input that begins with what was read: nothing more need be read
--     ended-listed    after the end of the input, where no line is being written, `listing_of` all that was read
--     ended-partly    after the end of the input, at any time, a beginning of it
--     run-listed      a whole run that came to its end: all that was written is `listing_of` all that was read
--     run-comes       and one does, if nothing failed and its bytes are fewer than 64 bits count
-- Assumes nothing.
use mathlib.Core.Path.{◌≡◌, refl, sym, ap, subst, ◌∙◌}
use mathlib.Core.Bool.{Bool, true, false}
use mathlib.Core.List.{List, [], ◌∷◌, ◌++◌, append-nil, append_assoc}
use Prim.Native.Nat.{ℕ, ◌+◌, ◌*◌, ◌≤◌, ◌<◌}
use native.Mathlib.Omega.{arith}
use native.Mathlib.Decide.{dec_lt}
use lib.Dec.{ltb, eqb}
use lib.ListN.{length}
use borrow.Author.Tests.{lt-ltb, le-ltb}
use Rattle.numbers.specs.Signal.{pick}
use Rattle.text.specs.Moves.{Goes, stays, then}
use Rattle.text.proofs.MoveLaws.{goes-on}
use Rattle.wavelet.specs.Limits.{max_levels}
use Rattle.calls.specs.Lists.{All, all_none, all_more, Reply, gives, refused}
use Rattle.level.specs.Level.{Memory}
use Rattle.writer.specs.Answers.{Handed, a_row, nothing}
use Rattle.writer.specs.Calls.{draw_reply, finish_reply, finish_store}
use Rattle.writer.specs.declared.Writer.{Writer}
use Rattle.descriptors.specs.Left.{left_in}
use Rattle.pgm.specs.Limits.{max_picture_width}
use Rattle.pgm.specs.InputSteps.{phased, input_ended}
use Rattle.pgm.specs.declared.input.Input.{Input}
use Rattle.pgm.specs.EndedAnswer.{EndedAnswer}
use Rattle.pgm.specs.EndedAnswer as ended
use Rattle.pgm.proofs.InputCases.{phase-on, end-over, end-early, end-few, end_whole}
use Rattle.listing.specs.Listing.{listing_of, due_of}
use Rattle.listing.specs.States.{map_store, State, state_of, started, drawn_to, draw_state, closed_to, finish_state, read_state, end_to, end_state, listed, value_part}
use Rattle.listing.specs.States.{advance_state}
use Rattle.listing.specs.Parts.{no_line}
use Rattle.listing.specs.declared.line.Line.{Line}
use Rattle.listing.specs.Moves.{Idle, Move, partly, wholly, read_byte, takes, busy_on}
use Rattle.listing.proofs.ListingTheorem.{moves-prefix, moves-whole, moves-partly}
use Rattle.rounds.specs.Rounds.{most_rounds, over, failed, ends, Rounds, Ran, Run, before, after}
use Rattle.rounds.specs.declared.round.Outcome.{Outcome}
use Rattle.rounds.proofs.RoundLaws.{over-at}
use Rattle.rounds.proofs.RoundTheorems.{ReachedBy, rounds-go, ended-goes, MachineLaws, after-end, run-over}
use Rattle.listing_io.specs.Listed.{listing_machine}

-- ---- once a refusal or the end of the input came, it stays so
abbrev Rests : State → Type 0
Rests s = 3 < s.listing.input.phase

drawn-rests : (i : Input) (w : Writer) (y : Reply Handed) → 3 < i.phase → 3 < (drawn_to i w y).input.phase
drawn-rests i w (gives (a_row r u)) h = h
drawn-rests i w (gives nothing) h = h
drawn-rests i w (refused q) h = omega arith

draw-rests : (n k : ℕ) (i : Input) (w : Writer) (x z : Memory) → 3 < i.phase → Rests (draw_state n k i w x z)
unfolding draw_state
draw-rests n k i w x z h = drawn-rests i w (draw_reply w n k x) h

finish-rests : (n k : ℕ) (i : Input) (w : Writer) (x z : Memory) → 3 < i.phase → Rests (finish_state n k i w x z)
unfolding finish_state
finish-rests n k i w x z h = go (finish_reply w n x)
  where
    go : (y : Reply Writer) → Rests (closed_to n k i w (finish_store w n x) z y)
    go (gives u) = draw-rests n k i u (finish_store w n x) z h
    go (refused q) = omega arith

either : (b : Bool) (s s' : State) → Rests s → Rests s' → Rests (pick b s s')
either true s s' h g = h
either false s s' h g = g

advance-rests : (n k : ℕ) (s : State) → Rests s → Rests (advance_state n k s)
unfolding advance_state
advance-rests n k s h =
    let l = s.listing in
    let with : Line → State = λ y. state_of (listed l.input l.writer y) s.store s.row in
    let drawn : State = draw_state n k l.input l.writer s.store s.row in
    let more : State = pick (ltb l.line.value l.line.length) (with (value_part l.line (l.line.value + 1))) drawn in
    let values : State = pick (eqb l.line.part 3) (with (value_part l.line 0)) more in
    either (ltb l.line.part 3) (with no_line) values h
    (either (eqb l.line.part 3) (with (value_part l.line 0)) more h
    (either (ltb l.line.value l.line.length) (with (value_part l.line (l.line.value + 1))) drawn h
    (draw-rests n k l.input l.writer s.store s.row h)))

read-rests : (n k b : ℕ) (s : State) → Rests s → Idle (read_state n k b s) × Rests (read_state n k b s)
unfolding read_state
read-rests n k b s h =
    rw (sym (phase-on max_levels s.listing.input b (λ e. omega arith) (λ e. omega arith) (λ e. omega arith) (λ e. omega arith))) (refl, h)

move-rests : {n k : ℕ} {s s' : State} {u t : List ℕ} → Rests s → Move n k s u t s' → Rests s'
move-rests h (partly m x y eu et es) = rw (ap (λ q. q.listing.input.phase) es) h
move-rests {n} {k} {s} h (wholly x eu et es) = rw (ap (λ q. q.listing.input.phase) es) (advance-rests n k s h)
move-rests {n} {k} {s} h (read_byte b x eu et es) = rw (ap (λ q. q.listing.input.phase) es) (read-rests n k b s h).1
move-rests h (takes bytes j x p y z o f eu et es) = absurd (omega (arith, p, h))

pub listing-laws : {n k : ℕ} → MachineLaws (listing_machine n k)
listing-laws = record { rests = move-rests }

end-rests : (n k : ℕ) (s : State) → busy_on s ≡ 0 → Rests (end_state n k s)
unfolding end_state
end-rests n k s b = rw (le-ltb 0 s.listing.line.part (omega (arith, b))) go
  where
    from : (y : EndedAnswer) → y ≡ input_ended s.listing.input → Rests (end_to n k s y) → Rests (end_to n k s (input_ended s.listing.input))
    from y e h = subst (λ q. Rests (end_to n k s q)) e h

    go : Rests (end_to n k s (input_ended s.listing.input))
    go =
        let i = s.listing.input in
        let four = phased 4 i in
        elim (dec_lt 3 i.phase) [
          | yes h ↦ from ended.Before (end-over i h) h
          | no h ↦
              elim (dec_lt i.phase 3) [
                | yes g ↦ from (ended.No15 four) (end-early i g) (omega arith)
                | no g ↦
                    elim (dec_lt 0 i.left) [
                      | yes l ↦ from (ended.No15 four) (end-few i (omega arith) (omega arith) l) (omega arith)
                      | no l ↦
                          from (ended.Whole four) (end_whole i (omega arith) (omega arith) (omega arith))
                          (finish-rests n k four s.listing.writer s.store s.row (omega arith))
                    ]
              ]
        ]

-- ---- a listing that is over reads no more, whatever it is fed
pub record AfterRefusal (n k : ℕ) (s : State) (v : List ℕ) : Type 0 where
  pub state : State
  pub goes : Goes (Move n k) s v [] state
  pub idle : Idle state
  pub phase : Rests state

after-refusal-all : (n k : ℕ) (v : List ℕ) (s : State) → Idle s → Rests s → AfterRefusal n k s v
after-refusal-all n k [] s i h = record { state = s; goes = stays s; idle = i; phase = h }
after-refusal-all n k (b ∷ v) s i h =
    let o = read-rests n k b s h in
    let d = after-refusal-all n k v (read_state n k b s) o.0 o.1 in
    record { state = d.state; goes = goes-on (then (stays s) (read_byte b i refl refl refl)) d.goes; idle = d.idle; phase = d.phase }

ended-over : (n k : ℕ) (s : State) → Idle s → Rests s → end_state n k s ≡ s
unfolding end_state input_ended
ended-over n k s i h = simp (le-ltb 0 s.listing.line.part (omega arith), lt-ltb 3 s.listing.input.phase h)

all-front : {P : ℕ → Type 0} (s t : List ℕ) → All P (s ++ t) → All P s
all-front [] t a = all_none
all-front (x ∷ s) t (all_more p a) = all_more p (all-front s t a)

-- ---- the theorem
abbrev Bytes : List ℕ → Type 0
Bytes = All (λ b. b ≤ 255)

module _ {n k : ℕ} (store : map_store ≤ n) (row : max_picture_width ≤ k) (x z : Memory) {A : ℕ} where
  module _ {m : ℕ} {u t c : List ℕ} {s : State} {r : Outcome} (g : Rounds (listing_machine n k) A (state_of started x z) m u t s c r) where
    abbrev p : List ℕ
    p = left_in c r.left

    reached : ReachedBy (listing_machine n k) (state_of started x z) u t s p
    reached = rounds-go g

    pub partly-listed : Bytes u → (fed rest : List ℕ) × (u ≡ fed ++ left_in c r.left) × (t ++ rest ≡ due_of fed)
    partly-listed bytes =
        let y = moves-prefix n k store row x z (all-front reached.fed p (subst Bytes reached.left bytes)) reached.goes in
        (reached.fed, y.0, reached.left, y.1)

    pub over-listed : (v : List ℕ) → Bytes (u ++ v) → over (listing_machine n k) s ≡ true → t ≡ listing_of (u ++ v)
    over-listed v bytes e =
        sym (append-nil _) ∙ sym (append-nil _)
        ∙ moves-whole n k store row x z (subst Bytes same bytes) (goes-on reached.goes d.goes) d.idle all_none (stays _)
        (subst Idle (sym (ended-over n k d.state d.idle d.phase)) d.idle)
        ∙ ap listing_of (sym same)
      where
        o : (busy_on s ≡ 0) × (3 < s.listing.input.phase)
        o = over-at (busy_on s) s.listing.input.phase e

        d : AfterRefusal n k s (p ++ v)
        d = after-refusal-all n k (p ++ v) s o.0 o.1

        same : u ++ v ≡ reached.fed ++ (p ++ v)
        same = ap (λ y. y ++ v) reached.left ∙ append_assoc reached.fed p v

  -- the end of the input, and rounds after it
  module _ {s : State} {c : List ℕ} {r : Outcome} (g : Ran (listing_machine n k) A (state_of started x z) s c r) (e : ends r ≡ true)
      (bytes : Bytes g.read) where
    fed : (busy_on s ≡ 0) × Goes (Move n k) (state_of started x z) g.read g.written s
    fed = ended-goes g e

    module _ {m : ℕ} {v t₂ c₂ : List ℕ} {s₂ : State} {r₂ : Outcome} (h : Rounds (listing_machine n k) A (end_state n k s) m v t₂ s₂ c₂ r₂)
        (more : Bytes v) where
      on : ReachedBy (listing_machine n k) (end_state n k s) v t₂ s₂ (left_in c₂ r₂.left)
      on = rounds-go h

      fed-bytes : Bytes on.fed
      fed-bytes = all-front on.fed (left_in c₂ r₂.left) (subst Bytes on.left more)

      pub ended-listed : busy_on s₂ ≡ 0 → g.written ++ t₂ ≡ listing_of g.read
      ended-listed = moves-whole n k store row x z bytes fed.1 fed.0 fed-bytes on.goes

      pub ended-partly : (rest : List ℕ) × ((g.written ++ t₂) ++ rest ≡ listing_of g.read)
      ended-partly = moves-partly n k store row x z bytes fed.1 fed.0 fed-bytes on.goes

  pub run-listed : {u t : List ℕ} {s : State} {r : Outcome} → Run (listing_machine n k) A (end_state n k) (state_of started x z) u t s r → Bytes u
      → over (listing_machine n k) s ≡ true → t ≡ listing_of u
  run-listed (before g e) bytes o =
      over-listed g.rounds [] (subst Bytes (sym (append-nil g.read)) bytes) o ∙ ap listing_of (append-nil g.read)
  run-listed {s = s} (after g e h) bytes o =
      let none = (after-end {end = end_state n k} listing-laws (end-rests n k) g e h).read in
      ended-listed g e (all-front g.read h.read bytes) h.rounds (subst Bytes (sym none) all_none) (over-at (busy_on s) s.listing.input.phase o).0
      ∙ ap listing_of (sym (ap (λ y. g.read ++ y) none ∙ append-nil g.read))

  pub run-comes : {u t : List ℕ} {s : State} {r : Outcome} → 0 < A → Run (listing_machine n k) A (end_state n k) (state_of started x z) u t s r → Bytes u
      → failed r ≡ false → length u + 2 * length t + 2 < most_rounds → t ≡ listing_of u
  run-comes a w bytes f h = run-listed w bytes (run-over {end = end_state n k} listing-laws (end-rests n k) a w f h)
