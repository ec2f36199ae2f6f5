-- A header passes exactly where it is that of a shape and a step that the set-up passes, and it says these:
--     header-said      the header of such a shape and step, whatever follows it, passes, and says them
--     header-own       bytes that pass begin with the header of the shape and the step that they say, which the set-up passes
-- Assumes nothing.
use mathlib.Core.Path.{◌≡◌, refl, sym, ap, ap₂, ◌∙◌}
use mathlib.Core.Bool.{true, false, not}
use mathlib.Core.List.{List, [], ◌∷◌, ◌++◌}
use Prim.Native.Nat.{ℕ, zero, suc, ◌+◌, ◌≤◌, ◌<◌}
use native.Mathlib.Omega.{arith}
use lib.Dec.{leb, eqb}
use lib.ListN.{length, take, drop, length-take, length-drop}
use lib.Seq.{take-add, drop-drop}
use native.Mathlib.Decide.{dec_lt}
use borrow.Author.Tests.{le-leb, ne_eqb, eqb-true, leb-true}
use Rattle.numbers.specs.Signal.{pick, both}
use Rattle.numbers.proofs.Sweep.{both as halves}
use Rattle.wavelet.specs.declared.shape.Shape.{Shape}
use Rattle.wavelet.proofs.LimitLaws.{width_small, height-small}
use Rattle.ground_file.specs.Groups.{digits, bytes_of}
use Rattle.ground_file.specs.File.{header_of}
use Rattle.ground_file.specs.Saving.{plain, set_up_number}
use Rattle.ground_file.specs.Header.{number_in, shape_in, step_in, is_header, roundable, header_number}
use Rattle.ground_file.proofs.Digits.{Below, none, more, digits-told}
use Rattle.ground_file.proofs.GroupLaws.{below-take, below-drop}
use Rattle.ground_file.proofs.SaverAsks.{Passed, passed, passed-plain, ask-passed}
use Rattle.ground_file.proofs.FileSaved.{drop-0}
use Rattle.ground_file.proofs.HeaderLaws.{round-one, round-filter}

-- ---- fields
-- bytes as a number, and the number's bytes
bytes-digits : (n : ℕ) (l : List ℕ) → length l ≡ n → Below 256 l → bytes_of n (digits 256 l) ≡ l
unfolding bytes_of digits
bytes-digits zero [] e none = refl
bytes-digits zero (x ∷ l) e b = absurd (omega arith)
bytes-digits (suc n) [] e b = absurd (omega arith)
bytes-digits (suc n) (x ∷ l) e (more h b) =
    ap₂ ◌∷◌ (omega arith) (ap (bytes_of n) (omega arith) ∙ bytes-digits n l (omega arith) b)

one-digit : (l : List ℕ) → length l ≡ 1 → digits 256 l ∷ [] ≡ l
unfolding digits
one-digit [] e = absurd (omega arith)
one-digit (x ∷ []) e = ap (λ k. k ∷ []) (omega arith)
one-digit (x ∷ y ∷ l) e = absurd (omega arith)

module _ (b : List ℕ) (long : 24 ≤ length b) (below : Below 256 b) where
  abbrev field : ℕ → ℕ → List ℕ
  field k n = take n (drop k b)

  field-length : (k n : ℕ) → k + n ≤ 24 → length (field k n) ≡ n
  field-length k n h = omega (arith, length-take n (drop k b), length-drop k b, long, h)

  field_below : (k n : ℕ) → Below 256 (field k n)
  field_below k n = below-take 256 n (drop k b) (below-drop 256 k b below)

  field_is : (k n : ℕ) → k + n ≤ 24 → bytes_of n (number_in b k n) ≡ field k n
  unfolding number_in
  field_is k n h = bytes-digits n (field k n) (field-length k n h) (field_below k n)

  field-one : (k : ℕ) → k + 1 ≤ 24 → number_in b k 1 ∷ [] ≡ field k 1
  unfolding number_in
  field-one k h = one-digit (field k 1) (field-length k 1 h)

  split : (k m n : ℕ) → field k (m + n) ≡ field k m ++ field (k + m) n
  split k m n = take-add m n (drop k b) ∙ ap (λ l. field k m ++ take n l) (drop-drop m k b)

  -- the 24 bytes field by field
  fields : take 24 b ≡
      field 0 8 ++ (field 8 1 ++ (field 9 1 ++ (field 10 1 ++ (field 11 1 ++ (field 12 2 ++ (field 14 2 ++ (field 16 2 ++ (field 18 4 ++ field 22 2))))))))
  fields =
      ap (take 24) (sym (drop-0 b)) ∙ split 0 8 16 ∙ ap (λ l. field 0 8 ++ l)
      (split 8 1 15 ∙ ap (λ l. field 8 1 ++ l)
      (split 9 1 14 ∙ ap (λ l. field 9 1 ++ l)
      (split 10 1 13 ∙ ap (λ l. field 10 1 ++ l)
      (split 11 1 12 ∙ ap (λ l. field 11 1 ++ l)
      (split 12 2 10 ∙ ap (λ l. field 12 2 ++ l)
      (split 14 2 8 ∙ ap (λ l. field 14 2 ++ l)
      (split 16 2 6 ∙ ap (λ l. field 16 2 ++ l)
      (split 18 4 2))))))))

  abbrev signature : List ℕ
  signature = 137 ∷ 71 ∷ 78 ∷ 68 ∷ 13 ∷ 10 ∷ 26 ∷ 10 ∷ []

  signature-below : Below 256 signature
  signature-below =
      more {x = 137} (omega arith) (more {x = 71} (omega arith) (more {x = 78} (omega arith) (more {x = 68} (omega arith)
      (more {x = 13} (omega arith) (more {x = 10} (omega arith) (more {x = 26} (omega arith) (more {x = 10} (omega arith) none)))))))

  header_is : is_header b ≡ true → take 24 b ≡ header_of (shape_in b) (step_in b)
  unfolding is_header header_of shape_in step_in number_in bytes_of
  header_is e =
      let a = halves (eqb (number_in b 0 8) (digits 256 signature)) _ e in
      let c = halves (eqb (number_in b 8 1) 1) (eqb (number_in b 22 2) 0) a.1 in
      fields
      ∙ ap₂ ◌++◌ (first (eqb-true _ _ a.0))
      (ap₂ ◌++◌ (sym (field-one 8 (omega arith)) ∙ ap (λ n. n ∷ []) (eqb-true _ _ c.0))
      (ap₂ ◌++◌ (sym (field-one 9 (omega arith)))
      (ap₂ ◌++◌ (sym (field-one 10 (omega arith)))
      (ap₂ ◌++◌ (sym (field-one 11 (omega arith)))
      (ap₂ ◌++◌ (sym (field_is 12 2 (omega arith)))
      (ap₂ ◌++◌ (sym (field_is 14 2 (omega arith)))
      (ap₂ ◌++◌ (sym (field_is 16 2 (omega arith)))
      (ap₂ ◌++◌ (sym (field_is 18 4 (omega arith))) (last (eqb-true _ _ c.1))))))))))
    where
      first : number_in b 0 8 ≡ digits 256 signature → field 0 8 ≡ signature
      first f = digits-told 256 (field 0 8) signature (field-length 0 8 (omega arith)) (field_below 0 8) signature-below f

      last : number_in b 22 2 ≡ 0 → field 22 2 ≡ 0 ∷ 0 ∷ []
      last f = sym (field_is 22 2 (omega arith)) ∙ ap (bytes_of 2) f

-- bytes that pass are the header of what they say, and the set-up passes that
pub header-own : (b : List ℕ) → Below 256 b → header_number b ≡ 0 →
    (take 24 b ≡ header_of (shape_in b) (step_in b)) × (set_up_number (shape_in b) (step_in b) ≡ 0)
unfolding header_number
header-own b below e =
    let a = ask-passed (leb 24 (length b)) 5 _ (omega arith) e in
    let c = ask-passed (is_header b) 22 _ (omega arith) a.1 in
    let d = ask-passed (roundable (shape_in b) (step_in b)) 22 _ (omega arith) c.1 in
    (header_is b (leb-true 24 (length b) a.0) below c.0, d.1)

-- ---- and the other way
plain-roundable : (s : Shape) (q : ℕ) → plain s q ≡ true → roundable s q ≡ true
unfolding plain
plain-roundable s q e = elim (dec_lt 1 q) [
  | yes h ↦ big h (ap (λ t. pick t true (both (eqb s.x 0) (both (eqb s.y 0) (eqb s.filter 0)))) (sym (ne_eqb q 1 (λ z. omega arith))) ∙ e)
  | no h ↦ sym (round-one s q (omega (arith, h)))
]
  where
    big : 1 < q → both (eqb s.x 0) (both (eqb s.y 0) (eqb s.filter 0)) ≡ true → roundable s q ≡ true
    big h f =
        let x = halves (eqb s.x 0) _ f in
        let y = halves (eqb s.y 0) (eqb s.filter 0) x.1 in
        let zero : eqb s.filter 1 ≡ false = ne_eqb s.filter 1 (λ z. omega (arith, eqb-true s.filter 0 y.1, z)) in
        sym (round-filter s q h (eqb-true _ _ x.0) (eqb-true _ _ y.0)) ∙ ap not zero

module _ (s : Shape) (q : ℕ) (ok : set_up_number s q ≡ 0) (hx : s.x < 65536) (hy : s.y < 65536) (l : List ℕ) where
  abbrev bytes : List ℕ
  bytes = header_of s q ++ l

  pass : Passed s q
  pass = passed s q ok

  wide : s.width < 65536
  wide = omega (arith, pass.wide.1, width_small)

  high : s.height < 4294967296
  high = omega (arith, pass.high.1, height-small)

  pub shape-said : shape_in bytes ≡ s
  unfolding shape_in number_in header_of bytes_of digits
  shape-said = same (omega (arith, wide)) (omega (arith, high)) (omega arith) (omega (arith, hx)) (omega (arith, hy)) (omega arith)
    where
      same : {w h k x y f : ℕ} → w ≡ s.width → h ≡ s.height → k ≡ s.levels → x ≡ s.x → y ≡ s.y → f ≡ s.filter →
          ◌≡◌ {A = Shape} (record { width = w; height = h; levels = k; x = x; y = y; filter = f }) s
      same a b c d e g = λ i. record { width = a i; height = b i; levels = c i; x = d i; y = e i; filter = g i }

  pub step-said : step_in bytes ≡ q
  unfolding step_in number_in header_of bytes_of digits
  step-said = omega arith

  long : 24 ≤ length bytes
  unfolding header_of bytes_of
  long = omega arith

  signed : is_header bytes ≡ true
  unfolding is_header number_in header_of bytes_of digits
  signed = refl

  pub header-said : header_number bytes ≡ 0
  unfolding header_number
  header-said =
      rw (
        le-leb 24 (length bytes) long,
        signed,
        ap₂ roundable shape-said step-said ∙ plain-roundable s q (passed-plain s q ok),
      ) (ap₂ set_up_number shape-said step-said ∙ ok)
