-- Whatever the moves, they keep what a listing has reached: `goes-reached`. Assumes nothing.
use mathlib.Core.Path.{◌≡◌, refl, sym, ap, subst, subst₂, ◌∙◌}
use mathlib.Core.Bool.{Bool, false}
use mathlib.Core.List.{List, [], ◌∷◌, ◌++◌, append_assoc, append-nil}
use Prim.Native.Nat.{ℕ, ◌≤◌}
use native.Mathlib.Omega.{arith}
use Rattle.level.specs.Level.{Memory}
use Rattle.calls.specs.Lists.{All, all_none, all_more}
use Rattle.pgm.specs.Limits.{max_picture_width}
use Rattle.pgm.specs.InputSteps.{start_at}
use Rattle.listing.specs.States.{map_store, State, state_of, started}
use Rattle.listing.specs.Moves.{Move, partly, wholly, read_byte, takes, Goes}
use Rattle.text.specs.Moves.{stays, then}
use Rattle.listing.specs.Events.{Event, read_all}
use Rattle.pgm.specs.declared.input.Input.{Input}
use Rattle.listing.proofs.InputReads.{cut-events, cut-input}
use Rattle.listing.proofs.StepHow.{Sane, start-sane}
use Rattle.listing.proofs.ListingReached.{Reached, quiet, partly-reached}
use Rattle.listing.proofs.ListingWrites.{wholly-reached, reached-input}
use Rattle.listing.proofs.ListingReads.{ReachedBy, read-reached, take-reached}

abbrev Bytes : List ℕ → Type 0
Bytes u = All (λ b. b ≤ 255) u

all-front : {P : ℕ → Type 0} (s t : List ℕ) → All P (s ++ t) → All P s
all-front [] t a = all_none
all-front (x ∷ s) t (all_more p a) = all_more p (all-front s t a)

all_back : {P : ℕ → Type 0} (s t : List ℕ) → All P (s ++ t) → All P t
all_back [] t a = a
all_back (x ∷ s) t (all_more p a) = all_back s t a

all_first : {P : ℕ → Type 0} (b : ℕ) (s : List ℕ) → All P (b ∷ s) → P b
all_first b s (all_more p a) = p

module _ (n k : ℕ) (store : map_store ≤ n) (row : max_picture_width ≤ k) where
  -- nothing was read
  unchanged : {E : List Event} {f : Bool} {o : List ℕ} {s : State} (i : Input) → Reached n k E f o s → s.listing.input ≡ i → Sane i
      → ReachedBy n k E f o (read_all i []) s
  unfolding read_all
  unchanged {E} {f} {o} {s} i t e v = record { reached = subst (λ l. Reached n k l f o s) (sym (append-nil E)) t; input = e; sane = v }

  -- ---- a move
  move-reached : {E : List Event} {f : Bool} {o : List ℕ} {s s' : State} {u t : List ℕ} → Reached n k E f o s → Sane s.listing.input → Bytes u
      → Move n k s u t s'
      → ReachedBy n k E f (o ++ t) (read_all s.listing.input u) s'
  move-reached {E} {f} {o} {s} a v bs (partly m p h e g d) = rw (e, g, d) (unchanged s.listing.input (partly-reached n k s m p h a) refl v)
  move-reached {E} {f} {o} {s} a v bs (wholly p e g d) =
      rw (e, g, d) (unchanged s.listing.input (wholly-reached n k s store row p a) (reached-input n k s store row p a) v)
  move-reached {E} {f} {o} {s} a v bs (read_byte b i e g d) =
      rw (e, g, d, append-nil o) (read-reached n k store row s i a v b (all_first b [] (subst Bytes e bs)))
  move-reached {E} {f} {o} {s} a v bs (takes bytes j i p h r q z e g d) =
      rw (e, g, d, append-nil o) (take-reached n k store row s i bytes j a v p h r q z (subst Bytes e bs))

  -- ---- any moves
  pub goes-reached : {E : List Event} {f : Bool} {o : List ℕ} {s s' : State} {u t : List ℕ} → Reached n k E f o s → Sane s.listing.input → Bytes u
      → Goes n k s u t s'
      → ReachedBy n k E f (o ++ t) (read_all s.listing.input u) s'
  goes-reached {o = o} a v bs (stays s) = rw (append-nil o) (unchanged s.listing.input a refl v)
  goes-reached {E} {f} {o} a v bs (then {s = s} {s₁ = s₁} {s₂ = s₂} {u = u} {v = u₁} {t = t} {w = t₁} g m) =
      let i = s.listing.input in
      let h = goes-reached a v (all-front u u₁ bs) g in
      let d = move-reached h.reached (subst Sane (sym h.input) h.sane) (all_back u u₁ bs) m in
      let e : (read_all i (u ++ u₁)).events ≡ (read_all i u).events ++ (read_all s₁.listing.input u₁).events =
      cut-events u u₁ i ∙ ap (λ j. (read_all i u).events ++ (read_all j u₁).events) (sym h.input) in
      let c : (read_all i (u ++ u₁)).input ≡ (read_all s₁.listing.input u₁).input = cut-input u u₁ i ∙ ap (λ j. (read_all j u₁).input) (sym h.input) in
      record {
        reached =
            subst₂ (λ l p. Reached n k l f p s₂) (append_assoc E (read_all i u).events (read_all s₁.listing.input u₁).events ∙ ap (λ l. E ++ l) (sym e))
            (append_assoc o t t₁)
            d.reached;
        input = d.input ∙ sym c;
        sane = subst Sane (sym c) d.sane;
      }

  -- from the beginning
  pub begun-reached : {u o : List ℕ} {s : State} (x z : Memory) → Bytes u → Goes n k (state_of started x z) u o s
      → ReachedBy n k [] false o (read_all (start_at 0) u) s
  begun-reached x z bs g = goes-reached (quiet refl refl (omega arith) refl refl) start-sane bs g
