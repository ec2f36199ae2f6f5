-- Behind the call that puts a group: a part with its code and its width (`Part`), and the byte and the two parts one after the other (`group-wrote`).
-- Assumes nothing.
use mathlib.Core.Path.{◌≡◌, refl, sym, ap, ap₂, ◌∙◌, subst}
use mathlib.Core.Bool.{true}
use mathlib.Core.List.{List, [], ◌∷◌, ◌++◌}
use Prim.Native.Nat.{ℕ, zero, suc, ◌+◌, ◌*◌, ◌-◌, ◌/◌, ◌^◌, ◌≤◌, ◌<◌, min}
use native.Mathlib.Nat.{mul-le-mul_left}
use native.Mathlib.Omega.{arith}
use native.Mathlib.Decide.{dec_lt}
use lib.ListN.{length, take, drop, set, length-set, length-take, length-drop}
use lib.Seq.{take_all}
use borrow.Author.Tests.{lt-ltb}
use Rattle.text.specs.Text.{Wrote}
use Rattle.text.proofs.TextLaws.{wrote_on, wrote-byte, wrote-size}
use Rattle.ground_file.specs.Groups.{width_of, holds, code_of, part_of, group_of}
use Rattle.ground_file.specs.Local.{largest_of}
use Rattle.ground_file.proofs.Digits.{Below, none, more}
use Rattle.ground_file.proofs.GroupLaws.{holds-below, code-small, code_holds, below-take, below-drop, part_length}
use Rattle.ground_file.proofs.WidthLaws.{code-largest, width-28, up-14}

below_holds : (w : ℕ) (l : List ℕ) → Below (2 ^ w) l → holds w l ≡ true
unfolding holds
below_holds w [] none = refl
below_holds w (x ∷ l) (more h p) = rw (lt-ltb x (2 ^ w) h, below_holds w l p) refl

pub width-most : (c : ℕ) → c ≤ 15 → width_of c ≤ 28
width-most c h = elim (dec_lt 14 c) [ yes p ↦ omega (arith, width-28 c p) | no p ↦ omega (arith, up-14 c (omega arith)) ]

-- ---- a part q of at most eight numbers, its code and its width as the code finds them
pub record Part (q : List ℕ) (c w : ℕ) : Type 0 where
  pub code : c ≡ code_of q
  pub few : c ≤ 15
  pub width : w ≡ width_of (code_of q)
  pub narrow : w ≤ 28
  pub held : holds w q ≡ true

pub part-of : (q : List ℕ) {m c w : ℕ} → Below (2 ^ 28) q → m ≡ largest_of q → c ≡ code_of (m ∷ []) → w ≡ width_of c → Part q c w
part-of q {m} {c} {w} b em ec ew =
    let code : c ≡ code_of q = ec ∙ ap (λ v. code_of (v ∷ [])) em ∙ sym (code-largest q) in
    let width : w ≡ width_of (code_of q) = ew ∙ ap width_of code in
    let few : c ≤ 15 = omega (arith, code, code-small q b) in
    record {
      code = code;
      few = few;
      width = width;
      narrow = omega (arith, ew, width-most c few);
      held = ap (λ k. holds k q) width ∙ below_holds (width_of (code_of q)) q (code_holds q b);
    }

drop_past : (i : ℕ) (m : List ℕ) → length m ≤ i → drop i m ≡ []
drop_past zero [] h = refl
drop_past zero (x ∷ m) h = absurd (omega arith)
drop_past (suc i) [] h = refl
drop_past (suc i) (x ∷ m) h = drop_past i m (omega arith)

-- ---- the two parts of a list, k numbers in the first
module _ (l : List ℕ) (k : ℕ) (is : k ≡ min (length l) 8) where
  pub first-is : take k l ≡ take 8 l
  first-is =
      elim (dec_lt (length l) 8) [
        | yes p ↦ let e : k ≡ length l = omega arith in ap (λ i. take i l) e ∙ take_all (length l) l (omega arith) ∙ sym (take_all 8 l (omega arith))
        | no p ↦ let e : k ≡ 8 = omega arith in ap (λ i. take i l) e
      ]

  pub second_is : take (length l - k) (drop k l) ≡ drop 8 l
  second_is = take_all (length l - k) (drop k l) (omega (arith, length-drop k l)) ∙
      elim (dec_lt (length l) 8) [
        | yes p ↦ let e : k ≡ length l = omega arith in ap (λ i. drop i l) e ∙ drop_past (length l) l (omega arith) ∙ sym (drop_past 8 l (omega arith))
        | no p ↦ let e : k ≡ 8 = omega arith in ap (λ i. drop i l) e
      ]

-- ---- the byte and the two parts
pub group-wrote : (l : List ℕ) {c d w v at p r : ℕ} {o o' o'' : List ℕ} → Part (take 8 l) c w → Part (drop 8 l) d v → at < length o
    → Wrote (part_of w (take 8 l)) (at + 1) p (set o at (c + 16 * d)) o' → Wrote (part_of v (drop 8 l)) p r o' o'' → Wrote (group_of l) at r o o''
unfolding group_of
group-wrote l {c} {d} {w} {v} {at} {p} {r} {o} {o'} {o''} a b h x y =
    let byte = wrote-byte (c + 16 * d) o at h in
    let text : ((c + 16 * d) ∷ []) ++ (part_of w (take 8 l) ++ part_of v (drop 8 l)) ≡ _ =
    ap₂ (λ i j. (i + 16 * j) ∷ (part_of w (take 8 l) ++ part_of v (drop 8 l))) a.code b.code
    ∙ ap₂ (λ i j. (code_of (take 8 l) + 16 * code_of (drop 8 l)) ∷ (part_of i (take 8 l) ++ part_of j (drop 8 l))) a.width b.width in
    subst (λ t. Wrote t at r o o'') text (wrote_on byte (wrote_on x y))

-- ---- what the call needs, over plain variables: m, c and w are what was found of a part
module _ (l : List ℕ) (k : ℕ) (is : k ≡ min (length l) 8) (most : length l ≤ 16) (held : holds 28 l ≡ true) where
  all-below : Below (2 ^ 28) l
  all-below = holds-below 28 l held

  pub low-part : {m c w : ℕ} → m ≡ largest_of (take k l) → c ≡ code_of (m ∷ []) → w ≡ width_of c → Part (take 8 l) c w
  low-part em ec ew = part-of (take 8 l) (below-take (2 ^ 28) 8 l all-below) (em ∙ ap largest_of (first-is l k is)) ec ew

  pub high-part : {m c w : ℕ} → m ≡ largest_of (take (length l - k) (drop k l)) → c ≡ code_of (m ∷ []) → w ≡ width_of c → Part (drop 8 l) c w
  high-part em ec ew = part-of (drop 8 l) (below-drop (2 ^ 28) 8 l all-below) (em ∙ ap largest_of (second_is l k is)) ec ew

  -- a part of at most eight numbers takes at most 28 bytes
  part_room : (w i : ℕ) → w ≤ 28 → i ≤ 8 → (w * i + 7) / 8 ≤ 28
  part_room w i p q = omega (arith, mul-le-mul_left w q)

  first-size : length (take k l) ≤ 8
  first-size = omega (arith, length-take k l, is)

  second-size : length (take (length l - k) (drop k l)) ≤ 8
  second-size = omega (arith, length-take (length l - k) (drop k l), length-drop k l, is, most)

  pub low-asks : {c w : ℕ} (at u : ℕ) (o : List ℕ) → Part (take 8 l) c w → at + 57 ≤ length o
      → (w ≤ 28) × (length (take k l) ≤ 8) × (holds w (take k l) ≡ true) × ((at + 1) + (w * length (take k l) + 7) / 8 ≤ length (set o at u))
  low-asks {c} {w} at u o a h = (
    a.narrow,
    first-size,
    ap (holds w) (first-is l k is) ∙ a.held,
    omega (arith, part_room w (length (take k l)) a.narrow first-size, length-set o at u),
  )

  pub high-asks : {c d w v p : ℕ} (at u : ℕ) (o : List ℕ) {o' : List ℕ} → Part (take 8 l) c w → Part (drop 8 l) d v → at + 57 ≤ length o
      → Wrote (part_of w (take k l)) (at + 1) p (set o at u) o'
      → (v ≤ 28) × (length (take (length l - k) (drop k l)) ≤ 8) × (holds v (take (length l - k) (drop k l)) ≡ true) × (p + (v * length (take (length l - k) (drop k l)) + 7) / 8 ≤ length o')
  high-asks {c} {d} {w} {v} {p} at u o a b h x = (
    b.narrow,
    second-size,
    ap (holds v) (second_is l k is) ∙ b.held,
    omega (
      arith,
      x.place,
      part_length w (take k l),
      part_room w (length (take k l)) a.narrow first-size,
      part_room v (length (take (length l - k) (drop k l))) b.narrow second-size,
      wrote-size x,
      length-set o at u,
    ),
  )

  pub all-wrote : {c d w v at p r : ℕ} {o o' o'' : List ℕ} → Part (take 8 l) c w → Part (drop 8 l) d v → at < length o
      → Wrote (part_of w (take k l)) (at + 1) p (set o at (c + 16 * d)) o' → Wrote (part_of v (take (length l - k) (drop k l))) p r o' o''
      → Wrote (group_of l) at r o o''
  all-wrote {c} {d} {w} {v} {at} {p} {r} {o} {o'} {o''} a b h x y =
      group-wrote l a b h (subst (λ q. Wrote (part_of w q) (at + 1) p (set o at (c + 16 * d)) o') (first-is l k is) x)
      (subst (λ q. Wrote (part_of v q) p r o' o'') (second_is l k is) y)
