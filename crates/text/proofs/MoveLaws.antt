-- Moves one after the other, and what calls read and wrote, one after the other. Assumes nothing.
use mathlib.Core.Path.{◌≡◌, refl, sym, ap, subst₂, ◌∙◌}
use mathlib.Core.Bool.{Bool}
use mathlib.Core.List.{List, [], ◌++◌, append-nil, append_assoc}
use Prim.Native.Nat.{ℕ, ◌+◌, ◌≤◌}
use native.Mathlib.Omega.{arith}
use lib.ListN.{length, take, drop, length-append}
use lib.Seq.{take_at}
use Rattle.text.specs.Moves.{Goes, stays, then, Went, Stops, full, idle, Session, begun, call}
use Rattle.text.proofs.TextLaws.{wrote_none, wrote_on}

module _ {S : Type 0} {Move : S → List ℕ → List ℕ → S → Type 0} where
  -- ---- moves
  pub one : {s s' : S} {u t : List ℕ} → Move s u t s' → Goes Move s u t s'
  one {s} m = then (stays s) m

  pub goes-on : {s s₁ s₂ : S} {u v t w : List ℕ} → Goes Move s u t s₁ → Goes Move s₁ v w s₂ → Goes Move s (u ++ v) (t ++ w) s₂
  goes-on {s} {s₁} {s₂} {u} {v} {t} {w} g (stays _) = rw (append-nil u, append-nil t) g
  goes-on {s} {s₁} {s₂} {u} {v} {t} {w} g (then {u = u₁} {v = v₁} {t = t₁} {w = w₁} h m) =
      rw (← append_assoc u u₁ v₁, ← append_assoc t t₁ w₁) (then (goes-on g h) m)

  -- ---- calls
  pub went-not : {s : S} (p o : List ℕ) (a b : ℕ) → a ≤ length p → b ≤ length o → Went Move s p a a o o b b s
  went-not {s = s} p o a b h g = record { bytes = []; text = []; goes = stays s; read = refl; used = omega arith; part = h; wrote = wrote_none b o g }

  pub went_on : {s s₁ s₂ : S} {p o o₁ o₂ : List ℕ} {a a₁ a₂ b b₁ b₂ : ℕ} → Went Move s p a a₁ o o₁ b b₁ s₁ → Went Move s₁ p a₁ a₂ o₁ o₂ b₁ b₂ s₂
      → Went Move s p a a₂ o o₂ b b₂ s₂
  went_on {p = p} {a₂ = a₂} v w =
      record {
        bytes = v.bytes ++ w.bytes;
        text = v.text ++ w.text;
        goes = goes-on v.goes w.goes;
        read = v.read ∙ ap (λ x. v.bytes ++ x) w.read ∙ sym (append_assoc v.bytes w.bytes (drop a₂ p));
        used = simp length-append (omega (arith, v.used, w.used));
        part = w.part;
        wrote = wrote_on v.wrote w.wrote;
      }

  module _ {s s' : S} {p o o' : List ℕ} {a b : ℕ} (c : Went Move s p 0 a o o' 0 b s') where
    pub call-read : take a p ≡ c.bytes
    call-read = ap (take a) c.read ∙ take_at c.bytes (drop a p) a (omega (arith, c.used))

    pub call-wrote : take b o' ≡ c.text
    call-wrote = ap (take b) c.wrote.text ∙ take_at c.text (drop b o) b (omega (arith, c.wrote.place))

  -- calls are moves
  pub session-goes : {s s' : S} {u t : List ℕ} → Session Move s u t s' → Goes Move s u t s'
  session-goes (begun s) = stays s
  session-goes {s} (call {s₂ = s₂} {u = u} {t = t} g c) =
      subst₂ (λ v w. Goes Move s (u ++ v) (t ++ w) s₂) (sym (call-read c)) (sym (call-wrote c)) (goes-on (session-goes g) c.goes)

-- an area of the same length
pub stops-in : {S : Type 0} {busy : S → ℕ} {s : S} {p o d : List ℕ} {a b : ℕ} {i : Bool} → length d ≡ length o → Stops busy s p a d b i
    → Stops busy s p a o b i
stops-in e (full h f) = full h (f ∙ e)
stops-in e (idle h f) = idle h f
