-- What is left of a chunk, after a fill and after some of it is used. Assumes nothing.
use mathlib.Core.Path.{◌≡◌, refl, sym, ap, subst, ◌∙◌}
use mathlib.Core.Bool.{Bool, true, false}
use mathlib.Core.List.{List, [], ◌∷◌, ◌++◌, append-nil}
use Prim.Native.Nat.{ℕ, zero, suc, ◌+◌, ◌-◌, ◌≤◌, ◌<◌}
use native.Mathlib.Omega.{arith}
use borrow.Author.Tests.{leb-true, le-leb, lt-leb, eq-eqb}
use Rattle.std.specs.Prelude.{cond, eqb, Option, Some, None, IfSome}
use lib.ListN.{length, take, drop, length-drop}
use lib.Seq.{drop-nil, take-nil, length-take-le}
use Rattle.descriptors.specs.Left.{left_in, Within, used_of, reads_now, count_of, is_end, is_failed, came, Fills, keeps, reads}
use Rattle.descriptors.specs.declared.input.Left.{Left}
use Rattle.descriptors.specs.declared.input.Came.TheVariants as coming
use Rattle.descriptors.specs.declared.input.Filled.{Filled}

-- a read answers no more than the chunk holds
pub came-most : (got : Option ℕ) (n : ℕ) → IfSome got (λ k. k ≤ n) → count_of (came got) ≤ n
came-most None n h = omega arith
came-most (Some k) n h = go (eqb k 0)
  where
    go : (b : Bool) → count_of (cond b coming.End (coming.Bytes k)) ≤ n
    go true = omega arith
    go false = h

-- a read that brought nothing and did not fail is the input's end
pub came-none : (got : Option ℕ) → count_of (came got) ≡ 0 → is_failed (came got) ≡ false → is_end (came got) ≡ true
came-none None z f = sym f
came-none (Some k) z f = go (eqb k 0) refl z
  where
    go : (b : Bool) → eqb k 0 ≡ b → count_of (cond b coming.End (coming.Bytes k)) ≡ 0 → is_end (cond b coming.End (coming.Bytes k)) ≡ true
    go true e z = refl
    go false e z = sym e ∙ eq-eqb k 0 z

-- nothing is left where the end is not after the start
pub none_left : (c : List ℕ) (l : Left) → l.to ≤ l.from → left_in c l ≡ []
unfolding left_in
none_left c l h = let e : l.to - l.from ≡ 0 = omega arith in rw e refl

reads_none : (w : Bool) (l : Left) → reads_now w l ≡ true → l.to ≤ l.from
unfolding reads_now
reads_none true l e = leb-true _ _ e
reads_none false l e = absurd (let z : ◌≡◌ {A = ℕ} 0 1 = cc in omega arith)

from_start : (c : List ℕ) (n : ℕ) → left_in c (record { from = 0; to = n }) ≡ take n c
unfolding left_in
from_start c n = let e : n - 0 ≡ n = omega arith in rw e refl

-- what is left after a fill is what was left, and what was read
pub fills-left : {w : Bool} {l : Left} {c c' : List ℕ} {r : Filled} → Fills w l c c' r → left_in c' r.left ≡ left_in c l ++ take (count_of r.came) c'
fills-left {c = c} (keeps e q k) = rw (q, k) (sym (append-nil (left_in c _)))
fills-left {w} {l} {c} {c'} {r} (reads got e h q) = ap (left_in c') (ap (λ x. x.left) q)
    ∙ from_start c' (count_of (came got))
    ∙ ap (λ n. take n c') (sym (ap (λ x. count_of x.came) q))
    ∙ sym (ap (λ x. x ++ take (count_of r.came) c') (none_left c l (reads_none w l e)))

pub fills-within : {w : Bool} {l : Left} {c c' : List ℕ} {r : Filled} → Within c l → Fills w l c c' r → Within c' r.left
fills-within i (keeps e q k) = rw (q, k) i
fills-within {c' = c'} i (reads got e h q) =
    subst (Within c') (sym (ap (λ x. x.left) q)) (record { start = omega arith; end = came-most got (length c') h })

-- ---- some is used
pub length-left : {c : List ℕ} {l : Left} → Within c l → length (left_in c l) ≡ l.to - l.from
unfolding left_in
length-left {c} {l} i = length-take-le (l.to - l.from) (drop l.from c) (omega (arith, length-drop l.from c, i.start, i.end))

pub used-is : (l : Left) (n : ℕ) → l.from + n ≤ l.to → used_of l n ≡ record { from = l.from + n; to = l.to }
unfolding used_of
used-is l n h = simp (le-leb _ _ h)

pub used_all : (l : Left) (n : ℕ) → l.to < l.from + n → used_of l n ≡ record { from = l.to; to = l.to }
unfolding used_of
used_all l n h = simp (lt-leb _ _ h)

pub used-within : {c : List ℕ} {l : Left} (n : ℕ) → Within c l → n ≤ length (left_in c l) → Within c (used_of l n)
used-within {c} {l} n i h =
    let k : l.from + n ≤ l.to = omega (arith, length-left i, i.start) in
    rw (used-is l n k) (record { start = k; end = i.end })

drop-drop : (a b : ℕ) (l : List ℕ) → drop b (drop a l) ≡ drop (a + b) l
drop-drop zero b l = let e : zero + b ≡ b = omega arith in rw e refl
drop-drop (suc a) b [] = drop-nil b ∙ sym (drop-nil (suc a + b))
drop-drop (suc a) b (x ∷ l) = let e : suc a + b ≡ suc (a + b) = omega arith in rw e (drop-drop a b l)

drop-take : (n m : ℕ) (l : List ℕ) → drop n (take m l) ≡ take (m - n) (drop n l)
drop-take zero m l = let e : m - zero ≡ m = omega arith in rw e refl
drop-take (suc n) zero l = let e : zero - suc n ≡ zero = omega arith in rw e refl
drop-take (suc n) (suc m) [] = sym (ap (take (suc m - suc n)) (drop-nil (suc n)) ∙ take-nil (suc m - suc n))
drop-take (suc n) (suc m) (x ∷ l) = let e : suc m - suc n ≡ m - n = omega arith in rw e (drop-take n m l)

after : (c : List ℕ) (a n e : ℕ) → a + n ≤ e → left_in c (record { from = a + n; to = e }) ≡ drop n (left_in c (record { from = a; to = e }))
unfolding left_in
after c a n e k =
    let q : e - (a + n) ≡ (e - a) - n = omega arith in
    rw q (ap (take ((e - a) - n)) (sym (drop-drop a n c)) ∙ sym (drop-take n (e - a) (drop a c)))

pub used-left : {c : List ℕ} {l : Left} (n : ℕ) → Within c l → n ≤ length (left_in c l) → left_in c (used_of l n) ≡ drop n (left_in c l)
used-left {c} {l} n i h =
    let k : l.from + n ≤ l.to = omega (arith, length-left i, i.start) in
    rw (used-is l n k) (after c l.from n l.to k)
