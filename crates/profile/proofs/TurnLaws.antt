-- The loop over the pairs: its invariant, and what starts, keeps and ends it. Assumes nothing.
use mathlib.Core.Path.{◌≡◌, refl, sym, ap, ◌∙◌, subst}
use mathlib.Core.List.{List}
use Prim.Native.Nat.{ℕ, ◌+◌, ◌%◌, ◌≤◌, ◌<◌}
use native.Mathlib.Omega.{arith}
use native.Mathlib.Decide.{ℕ_discrete, dec_lt}
use lib.ListN.{length}
use lib.Ieee.{Float, nan}
use Rattle.profile.specs.Profile.{four_passes}
use Rattle.profile.specs.Calls.{floats, fronted}
use Rattle.profile.specs.OnePass.{turned_at, turned, opened, low, paired, closed}
use Rattle.profile.specs.declared.carry.Carried.{Carried}
use Rattle.profile.proofs.Filled.{Filled, start, store, finish}
use Rattle.profile.proofs.PassLaws.{same, differs, below, not-below, front, surplus}
use Rattle.profile.proofs.OnePassLaws.{Carries, opened-carries, carries-next, low-done, high-done, last-low, turned-inside}

module _ (n : ℕ) (x : ℕ → Float) (l₀ : List Float) where
  -- what the area is to be
  abbrev pub goal : ℕ → Float
  goal = fronted n (four_passes n x) (floats l₀)

  abbrev pub Done : ℕ → List Float → Type 0
  Done k l = Filled nan (length l₀) goal (floats l₀) k l

  -- the pair at p stored
  abbrev with_pair : ℕ → Carried → List Float → List Float
  with_pair p s l = paired l p (low s (turned_at n x p s).third) (turned_at n x p s).third

  -- before the pair at p
  pub record Turned (p : ℕ) (s : Carried) (l : List Float) : Type 0 where
    pub parity : p % 2 ≡ 0
    pub inside : p + 1 < n
    pub room : n ≤ length l₀
    pub carries : Carries n x p s
    pub filled : Done p l

  pub begun : {s : Carried} → 1 < n → n ≤ length l₀ → s ≡ opened n x → Turned 0 s l₀
  begun g r e = record { parity = refl; inside = g; room = r; carries = subst (Carries n x 0) (sym e) (opened-carries n x g); filled = start nan l₀ goal }

  module _ {p : ℕ} {s : Carried} {l : List Float} (t : Turned p s l) where
    -- the pair is stored
    pub pair-filled : Done (p + 2) (with_pair p s l)
    pair-filled =
        let b = t.inside in
        let r = t.room in
        subst (λ (k : ℕ). Done k (with_pair p s l)) (omega arith)
        (store _
        (store _ t.filled (omega arith) (low-done n x p s t.parity b t.carries ∙ sym (front n _ _ p (omega arith))))
        (omega arith)
        (high-done n x p s t.parity b t.carries ∙ sym (front n _ _ (p + 1) b)))

    pub next : p + 3 < n → Turned (p + 2) (turned_at n x p s) (with_pair p s l)
    next g =
        let e = t.parity in
        record {
          parity = omega (arith, e);
          inside = omega arith;
          room = t.room;
          carries = carries-next n x p s e t.inside t.carries g;
          filled = pair-filled;
        }

  whole : {k : ℕ} {l : List Float} → n ≤ k → Done k l → floats l ≡ goal
  whole h f = finish f λ j le. surplus n _ _ j (omega arith)

  -- the turn of the loop, from what its calls gave
  pub turn : {p : ℕ} {s t : Carried} {o e v : Float} {l m : List Float} → Turned p s l → p + 4 < n → o ≡ x (p + 3) → e ≡ x (p + 4)
      → t ≡ turned s o e → v ≡ low s t.third → m ≡ paired l p v t.third → Turned (p + 2) t m
  turn {p} {s} {t} {o} {e} {v} {l} {m} h g a b w f k =
      let i : turned_at n x p s ≡ t = turned-inside n x p s g ∙ sym (w ∙ ap (λ (z : Float). turned s z e) a ∙ ap (turned s (x (p + 3))) b) in
      let j : with_pair p s l ≡ m = cc in
      subst (λ (m : List Float). Turned (p + 2) t m) j (subst (λ (t : Carried). Turned (p + 2) t (with_pair p s l)) i (next h (omega arith)))

  -- what is left after the loop's last pair
  last : {p : ℕ} {s : Carried} {l : List Float} → Turned p s l → n ≤ p + 4
      → floats (closed n x (p + 2) (turned_at n x p s) (with_pair p s l)) ≡ goal
  last {p} {s} {l} h g =
      let b = h.inside in
      let r = h.room in
      elim (ℕ_discrete (p + 2) n) [
        | yes e ↦ ap floats (same (p + 2) n _ _ e) ∙ whole (omega arith) (pair-filled h)
        | no d ↦
            elim (dec_lt (p + 2 + 1) n) [
              | yes q ↦ ap floats (differs (p + 2) n _ _ d ∙ below (p + 2 + 1) n _ _ q) ∙ whole (omega arith) (pair-filled (next h (omega arith)))
              | no q ↦
                  ap floats (differs (p + 2) n _ _ d ∙ not-below (p + 2 + 1) n _ _ (omega arith))
                  ∙ whole (omega arith)
                  (store _ (pair-filled h) (omega arith)
                  (last-low n x p s h.parity b h.carries.half (omega arith) ∙ sym (front n _ _ (p + 2) (omega arith))))
            ]
      ]

  pub end : {p : ℕ} {s t : Carried} {v : Float} {l m r : List Float} → Turned p s l → n ≤ p + 4 → t ≡ turned_at n x p s
      → v ≡ low s t.third → m ≡ paired l p v t.third → r ≡ closed n x (p + 2) t m → floats r ≡ goal
  end {p} {s} {t} {v} {l} {m} {r} h g e f k c =
      let j : r ≡ closed n x (p + 2) (turned_at n x p s) (with_pair p s l) = cc in
      ap floats j ∙ last h g
