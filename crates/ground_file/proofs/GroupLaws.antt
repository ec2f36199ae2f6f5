-- The bytes of a band row tell its numbers: of two rows of one length, each followed by other bytes (`row_told`). Assumes nothing.
use mathlib.Core.Path.{◌≡◌, refl, sym, ap, ap₂, ◌∙◌, subst}
use mathlib.Core.Bool.{Bool, true, false}
use mathlib.Core.List.{List, [], ◌∷◌, ◌++◌, append_assoc}
use Prim.Native.Nat.{ℕ, zero, suc, ◌+◌, ◌*◌, ◌-◌, ◌/◌, ◌^◌, ◌≤◌, ◌<◌, min}
use native.Mathlib.Nat.{lt_of_lt_of_le}
use native.Mathlib.Omega.{arith}
use lib.ListN.{length, take, drop, length-take, length-drop, take-append-drop}
use lib.Pow.{pow_mono}
use borrow.Author.Tests.{ltb-true}
use Rattle.numbers.specs.Signal.{pick}
use Rattle.numbers.proofs.Sweep.{both}
use Rattle.ground_file.specs.Groups.{width_of, holds, code_from, code_of, digits, bytes_of, part_of, group_of, groups_of, row_bytes}
use Rattle.ground_file.proofs.Digits.{head-is, tail-is, append-is, bytes-length, bytes-told, Below, none, more, digits-told, digits-below}

-- ---- the width of a part holds its numbers
pub holds-below : (w : ℕ) (l : List ℕ) → holds w l ≡ true → Below (2 ^ w) l
unfolding holds
holds-below w [] e = none
holds-below w (x ∷ l) e = let p = both _ _ e in more (ltb-true x (2 ^ w) p.0) (holds-below w l p.1)

widest : width_of 15 ≡ 28
unfolding width_of
widest = refl

-- a code of four bits whose width holds the numbers
abbrev Good : List ℕ → ℕ → Type 0
Good l k = (k ≤ 15) × Below (2 ^ width_of k) l

code-from : (n c : ℕ) (l : List ℕ) → n + c ≡ 15 → Below (2 ^ 28) l → Good l (code_from n c l)
unfolding code_from
code-from zero c l e b = let last : c ≡ 15 = omega arith in (omega arith, subst (λ k. Below (2 ^ k) l) (sym (ap width_of last ∙ widest)) b)
code-from (suc n) c l e b = go (holds (width_of c) l) refl (code-from n (c + 1) l (omega arith) b)
  where
    go : (t : Bool) → holds (width_of c) l ≡ t → Good l (code_from n (c + 1) l) → Good l (pick t c (code_from n (c + 1) l))
    go true h r = (omega arith, holds-below (width_of c) l h)
    go false h r = r

pub code-small : (l : List ℕ) → Below (2 ^ 28) l → code_of l ≤ 15
unfolding code_of
code-small l b = (code-from 15 0 l (omega arith) b).0

pub code_holds : (l : List ℕ) → Below (2 ^ 28) l → Below (2 ^ width_of (code_of l)) l
unfolding code_of
code_holds l b = (code-from 15 0 l (omega arith) b).1

-- ---- a part
pub part_length : (w : ℕ) (l : List ℕ) → length (part_of w l) ≡ (w * length l + 7) / 8
unfolding part_of
part_length w l = bytes-length ((w * length l + 7) / 8) (digits (2 ^ w) l)

room : (w : ℕ) (l : List ℕ) → Below (2 ^ w) l → digits (2 ^ w) l < 2 ^ (8 * ((w * length l + 7) / 8))
room w l b = lt_of_lt_of_le (digits-below w l b) (pow_mono (omega arith))

pub part-told : (w : ℕ) (l m : List ℕ) {t u : List ℕ} → length l ≡ length m → Below (2 ^ w) l → Below (2 ^ w) m → part_of w l ++ t ≡ part_of w m ++ u
    → (l ≡ m) × (t ≡ u)
unfolding part_of
part-told w l m n b d e =
    let sizes : length (part_of w l) ≡ length (part_of w m) = part_length w l ∙ ap (λ k. (w * k + 7) / 8) n ∙ sym (part_length w m) in
    let both = append-is (part_of w l) (part_of w m) sizes e in
    (digits-told (2 ^ w) l m n b d (number both.0), both.1)
  where
    number : part_of w l ≡ part_of w m → digits (2 ^ w) l ≡ digits (2 ^ w) m
    number p =
        bytes-told ((w * length l + 7) / 8) (digits (2 ^ w) l) (digits (2 ^ w) m) (room w l b)
        (subst (λ k. digits (2 ^ w) m < 2 ^ (8 * ((w * k + 7) / 8))) (sym n) (room w m d))
        (p ∙ ap (λ k. bytes_of ((w * k + 7) / 8) (digits (2 ^ w) m)) (sym n))

-- ---- a group
pub below-take : (b k : ℕ) (l : List ℕ) → Below b l → Below b (take k l)
below-take b zero l p = none
below-take b (suc k) [] p = none
below-take b (suc k) (x ∷ l) (more h p) = more h (below-take b k l p)

pub below-drop : (b k : ℕ) (l : List ℕ) → Below b l → Below b (drop k l)
below-drop b zero l p = p
below-drop b (suc k) [] p = none
below-drop b (suc k) (x ∷ l) (more h p) = below-drop b k l p

two-codes : (c d c' d' : ℕ) → c ≤ 15 → c' ≤ 15 → c + 16 * d ≡ c' + 16 * d' → (c ≡ c') × (d ≡ d')
two-codes c d c' d' p q e = (omega arith, omega arith)

pub group-told : (l m : List ℕ) {t u : List ℕ} → length l ≡ length m → Below (2 ^ 28) l → Below (2 ^ 28) m → group_of l ++ t ≡ group_of m ++ u → (l ≡ m) × (t ≡ u)
unfolding group_of
group-told l m {t} {u} n b d e =
    let bl = below-take (2 ^ 28) 8 l b in
    let bh = below-drop (2 ^ 28) 8 l b in
    let dl = below-take (2 ^ 28) 8 m d in
    let dh = below-drop (2 ^ 28) 8 m d in
    let codes = two-codes _ _ _ _ (code-small (take 8 l) bl) (code-small (take 8 m) dl) (head-is e) in
    let low : width_of (code_of (take 8 m)) ≡ width_of (code_of (take 8 l)) = ap width_of (sym codes.0) in
    let high : width_of (code_of (drop 8 m)) ≡ width_of (code_of (drop 8 l)) = ap width_of (sym codes.1) in
    let rest = sym (append_assoc (part_of (width_of (code_of (take 8 l))) (take 8 l)) _ t) ∙ tail-is e
    ∙ append_assoc (part_of (width_of (code_of (take 8 m))) (take 8 m)) _ u
    ∙ ap₂ (λ v w. part_of v (take 8 m) ++ (part_of w (drop 8 m) ++ u)) low high in
    let first =
    part-told (width_of (code_of (take 8 l))) (take 8 l) (take 8 m) (length-take 8 l ∙ ap (min 8) n ∙ sym (length-take 8 m)) (code_holds (take 8 l) bl)
    (subst (λ k. Below (2 ^ k) (take 8 m)) low (code_holds (take 8 m) dl)) rest in
    let second =
    part-told (width_of (code_of (drop 8 l))) (drop 8 l) (drop 8 m) (length-drop 8 l ∙ ap (λ k. k - 8) n ∙ sym (length-drop 8 m)) (code_holds (drop 8 l) bh)
    (subst (λ k. Below (2 ^ k) (drop 8 m)) high (code_holds (drop 8 m) dh)) first.1 in
    (sym (take-append-drop 8 l) ∙ ap₂ ◌++◌ first.0 second.0 ∙ take-append-drop 8 m, second.1)

-- ---- a row
groups-told : (n : ℕ) (l m : List ℕ) {t u : List ℕ} → length l ≤ 16 * n → length l ≡ length m → Below (2 ^ 28) l → Below (2 ^ 28) m
    → groups_of n l ++ t ≡ groups_of n m ++ u → (l ≡ m) × (t ≡ u)
unfolding groups_of
groups-told zero [] [] h z b d e = (refl, e)
groups-told zero [] (y ∷ m) h z b d e = absurd (omega arith)
groups-told zero (x ∷ l) m h z b d e = absurd (omega arith)
groups-told (suc n) l m {t} {u} h z b d e =
    let sizes : length (drop 16 l) ≤ 16 * n = rw (length-drop 16 l) (omega arith) in
    let first =
    group-told (take 16 l) (take 16 m) (length-take 16 l ∙ ap (min 16) z ∙ sym (length-take 16 m)) (below-take (2 ^ 28) 16 l b) (below-take (2 ^ 28) 16 m d)
    (sym (append_assoc (group_of (take 16 l)) (groups_of n (drop 16 l)) t) ∙ e ∙ append_assoc (group_of (take 16 m)) (groups_of n (drop 16 m)) u) in
    let others =
    groups-told n (drop 16 l) (drop 16 m) sizes (length-drop 16 l ∙ ap (λ k. k - 16) z ∙ sym (length-drop 16 m)) (below-drop (2 ^ 28) 16 l b)
    (below-drop (2 ^ 28) 16 m d) first.1 in
    (sym (take-append-drop 16 l) ∙ ap₂ ◌++◌ first.0 others.0 ∙ take-append-drop 16 m, others.1)

pub row_told : (l m : List ℕ) {t u : List ℕ} → length l ≡ length m → Below (2 ^ 28) l → Below (2 ^ 28) m → row_bytes l ++ t ≡ row_bytes m ++ u → (l ≡ m) × (t ≡ u)
unfolding row_bytes
row_told l m {t} {u} n b d e =
    groups-told ((length l + 15) / 16) l m (omega arith) n b d (e ∙ ap (λ k. groups_of ((k + 15) / 16) m ++ u) (sym n))
