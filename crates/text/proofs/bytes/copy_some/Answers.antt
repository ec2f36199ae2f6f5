use mathlib.Core.Path.{◌≡◌, refl, sym, ap, ◌∙◌}
use mathlib.Core.List.{List}
use Prim.Native.Nat.{ℕ, ◌+◌, ◌≤◌, ◌<◌}
use native.Mathlib.Omega.{arith}
use native.Mathlib.Numerals.{add-one}
use lib.ListN.{length, drop, get_or, set, length-set, length-drop}
use lib.Seq.{paste, paste-zero, paste-suc, get_or-drop}
use Rattle.text.proofs.bytes.copy_some.Invariants.{Copied}
use Rattle.text.proofs.bytes.copy_some.Goals as goal

start : (t d : List ℕ) (f a n : ℕ) → f + n ≤ length t → a + n ≤ length d → Copied t d d f a n 0
start t d f a n h g = record { within = omega arith; from = h; room = g; size = refl; bytes = paste-zero d a (drop f t) }

next : {t d o : List ℕ} {f a n i : ℕ} → Copied t d o f a n i → i < n → Copied t d (set o (a + i) (get_or t (f + i) 0)) f a n (i + 1)
next {t} {d} {o} {f} {a} {n} {i} c h =
    let long : i < length (drop f t) = simp length-drop (omega (arith, c.from)) in
    record {
      within = omega arith;
      from = c.from;
      room = c.room;
      size = length-set o (a + i) (get_or t (f + i) 0) ∙ c.size;
      bytes =
          ap (λ l. set l (a + i) (get_or t (f + i) 0)) c.bytes
          ∙ ap (set (paste d a (drop f t) i) (a + i)) (sym (get_or-drop f t i 0))
          ∙ paste-suc d a (drop f t) i 0 (omega (arith, c.room)) long
          ∙ ap (paste d a (drop f t)) (sym (add-one i));
    }

finish : {t d o : List ℕ} {f a n i : ℕ} → Copied t d o f a n i → n ≤ i → o ≡ paste d a (drop f t) n
finish {t} {d} {o} {f} {a} {n} {i} c h =
    let e : i ≡ n = omega (arith, c.within) in
    c.bytes ∙ ap (paste d a (drop f t)) e

pub loop-i-init : goal.loop-i-init
loop-i-init c = start _ _ _ _ _ c.requires.0 c.requires.1

pub bounds-out-at : goal.bounds-out-at
bounds-out-at c = omega (arith, c.loop-i.invariant.room, c.loop-i.invariant.size)

pub loop-i-preserved : goal.loop-i-preserved
loop-i-preserved c = next c.loop-i.invariant (omega arith)

pub shape_of-out : goal.shape_of-out
shape_of-out c = c.loop-i.invariant.size

pub returns : goal.returns
returns c =
    finish c.loop-i.invariant (omega arith)
