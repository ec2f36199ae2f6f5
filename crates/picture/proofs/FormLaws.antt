-- The bytes of the fixed form, one by one, and a run of them in a lent area. Assumes nothing.
use mathlib.Core.Path.{◌≡◌, refl, ap, ◌∙◌}
use mathlib.Core.List.{List, [], ◌∷◌, ◌++◌}
use Prim.Native.Nat.{ℕ, ◌-◌, ◌^◌, ◌≤◌, ◌<◌, min}
use native.Mathlib.Omega.{arith}
use lib.ListN.{length, take, drop, length-append}
use lib.Seq.{paste}
use Rattle.text.specs.Decimal.{numeral}
use Rattle.text.specs.Text.{Wrote}
use Rattle.text.proofs.DecimalLaws.{twenty}
use Rattle.text.proofs.TextLaws.{wrote-front, front-end}
use Rattle.picture.specs.Form.{form_largest, form_head, head_question, HeadPut, Refused, refused}
use Rattle.refusal.specs.declared.Refusal.{Refusal}
use Rattle.refusal.specs.Numbers.{number}
use Rattle.refusal.proofs.Laws.{number-some}

-- ---- the header
largest-small : form_largest < 2 ^ 64
unfolding form_largest
largest-small = omega arith

-- it is short
pub head-short : (W H : ℕ) → W < 2 ^ 64 → H < 2 ^ 64 → length (form_head W H) ≤ 66
unfolding form_head
head-short W H a b =
    let m = numeral form_largest in
    omega (
      arith,
      length-append (numeral W) (32 ∷ (numeral H ++ (10 ∷ (m ++ (10 ∷ []))))),
      length-append (numeral H) (10 ∷ (m ++ (10 ∷ []))),
      length-append m (10 ∷ []),
      twenty W a,
      twenty H b,
      twenty form_largest largest-small,
    )

-- ---- a text t at the front of a small area, copied from place f on
module _ {t l m : List ℕ} {e : ℕ} (p : Wrote t 0 e l m) where
  pub text-copied : (f n : ℕ) (o o' : List ℕ) → n ≡ min (length (take e m) - f) (length o - 0) → o' ≡ paste o 0 (drop f (take e m)) n
      → (n ≡ min (length t - f) (length o)) × (o' ≡ paste o 0 (drop f t) n)
  text-copied f n o o' h k =
      (omega (arith, h, front-end p, p.place), k ∙ ap (λ x. paste o 0 (drop f x) n) (wrote-front p))

-- ---- a refusal is told by its number
pub head-no : {W H from : ℕ} {o : List ℕ} (r : Refusal) → number r ≡ head_question W H → HeadPut W H from o o (Refused (number r))
head-no r e = refused _ e (number-some r) refl
