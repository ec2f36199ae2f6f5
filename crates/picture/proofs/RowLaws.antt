-- The bytes of a row of heights, one by one, and a run of them in a lent area. Assumes nothing.
use mathlib.Core.Path.{◌≡◌, refl, sym, ap, ◌∙◌}
use mathlib.Core.List.{List, [], ◌∷◌}
use Prim.Native.Nat.{ℕ, zero, suc, ◌+◌, ◌-◌, ◌*◌, ◌/◌, ◌%◌, ◌≤◌, ◌<◌, min}
use native.Mathlib.Omega.{arith}
use native.Mathlib.Numerals.{add-one}
use native.Mathlib.Nat.{zero-add}
use lib.Dec.{eqb}
use lib.ListN.{length, drop, get_or, set, length-set, length-drop}
use lib.Seq.{paste, paste-zero, paste-suc, get_or-drop}
use Rattle.numbers.specs.Signal.{pick}
use Rattle.picture.specs.Form.{row_bytes}

pub row-length : (l : List ℕ) → length (row_bytes l) ≡ 2 * length l
unfolding row_bytes
row-length [] = omega arith
row-length (h ∷ l) = omega (arith, row-length l)

pub row-at : (l : List ℕ) (k : ℕ) → k < 2 * length l → pick (eqb (k % 2) 1) (get_or l (k / 2) 0 % 256) (get_or l (k / 2) 0 / 256) ≡ get_or (row_bytes l) k 0
unfolding row_bytes
row-at [] k h = absurd (omega arith)
row-at (h ∷ l) zero p = refl
row-at (h ∷ l) (suc zero) p = refl
row-at (h ∷ l) (suc (suc k)) p =
    let e : suc (suc k) % 2 ≡ k % 2 = omega arith in
    let f : suc (suc k) / 2 ≡ suc (k / 2) = omega arith in
    rw (e, f) (row-at l k (omega arith))

-- ---- i bytes of the text t from place f on stand in the area
pub record Bytes (t d o : List ℕ) (f n i : ℕ) : Type 0 where
  pub within : i ≤ n
  pub there : n ≤ length t - f
  pub room : n ≤ length d
  pub size : length o ≡ length d
  pub bytes : o ≡ paste d 0 (drop f t) i

pub start : (t d : List ℕ) (f m n : ℕ) → m ≡ length t → n ≡ min (m - f) (length d) → Bytes t d d f n 0
start t d f m n e h = record { within = omega arith; there = omega arith; room = omega arith; size = refl; bytes = paste-zero d 0 (drop f t) }

pub next : {t d o : List ℕ} {f n i : ℕ} (v : ℕ) → Bytes t d o f n i → i < n → v ≡ get_or t (f + i) 0 → Bytes t d (set o i v) f n (i + 1)
next {t} {d} {o} {f} {n} {i} v c h e =
    let long : i < length (drop f t) = simp length-drop (omega (arith, c.there)) in
    record {
      within = omega arith;
      there = c.there;
      room = c.room;
      size = length-set o i v ∙ c.size;
      bytes =
          ap (λ l. set l i v) c.bytes
          ∙ ap (λ k. set (paste d 0 (drop f t) i) k v) (sym (zero-add i))
          ∙ ap (set (paste d 0 (drop f t) i) (0 + i)) (e ∙ sym (get_or-drop f t i 0))
          ∙ paste-suc d 0 (drop f t) i 0 (omega (arith, c.room)) long
          ∙ ap (paste d 0 (drop f t)) (sym (add-one i));
    }

pub finish : {t d o : List ℕ} {f n i : ℕ} → Bytes t d o f n i → n ≤ i → o ≡ paste d 0 (drop f t) n
finish {t} {d} {f = f} {n = n} {i = i} c h = let e : i ≡ n = omega (arith, c.within) in c.bytes ∙ ap (paste d 0 (drop f t)) e
