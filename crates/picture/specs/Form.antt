-- The fixed form. Document 02, Q-7: "P5, newline, width, space, height, newline, 65535, newline, two bytes a height, the most significant first."
use Rattle.std.specs.Prelude.{◌≡◌, List, [], ◌∷◌, ◌++◌, ℕ, zero, suc, ◌-◌, ◌/◌, ◌%◌, min, length, drop, Result, Ok, Err}
use Rattle.std.proofs.Math.Seq.{paste}
use Rattle.wavelet.specs.Limits.{max_width, max_height}
use Rattle.wavelet.specs.Questions.{ask, within}
use Rattle.text.specs.Decimal.{numeral}
use Rattle.refusal.specs.declared.Refusal.{Refusal}
use Rattle.refusal.specs.Numbers.{number}

-- the largest value that it names
unfoldable pub form_largest : ℕ
form_largest = 65535

-- 80 53 is P5, 32 a space, 10 a newline
unfoldable pub form_head : ℕ → ℕ → List ℕ
form_head W H = 80 ∷ 53 ∷ 10 ∷ (numeral W ++ (32 ∷ (numeral H ++ (10 ∷ (numeral form_largest ++ (10 ∷ []))))))

-- the bytes of a row of heights
unfoldable pub row_bytes : List ℕ → List ℕ
row_bytes [] = []
row_bytes (h ∷ l) = (h / 256) ∷ (h % 256) ∷ row_bytes l

-- questions 2 and 3
unfoldable pub head_question : ℕ → ℕ → ℕ
head_question W H = ask (within 1 max_width W) 2 (ask (within 1 max_height H) 3 0)

-- what a call answers: how many bytes were written, or the number of the question that said no
pub data Put : Type 0 where
  Written : ℕ → Put
  Refused : ℕ → Put

abbrev pub of_put : Result ℕ Refusal → Put
of_put (Ok n) = Written n
of_put (Err r) = Refused (number r)

-- what a call leaves in the area o: a refused one nothing new
pub data HeadPut (W H from : ℕ) (o o' : List ℕ) : Put → Type 0 where
  refused : (q : ℕ) → q ≡ head_question W H → (q ≡ 0 → ⊥) → o' ≡ o → HeadPut W H from o o' (Refused q)
  written : (n : ℕ) → head_question W H ≡ 0 → n ≡ min (length (form_head W H) - from) (length o) → o' ≡ paste o 0 (drop from (form_head W H)) n
      → HeadPut W H from o o' (Written n)

-- an answer told as a number, 0 or that of a question, and how many bytes were written
abbrev pub answered : ℕ → ℕ → Put
answered zero n = Written n
answered (suc q) n = Refused (suc q)
