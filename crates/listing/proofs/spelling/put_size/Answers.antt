-- `spelling::put_size` meets its contract: numbers and what parts them, one behind the other; there is room for three numbers of 64 bits. Assumes nothing.
use mathlib.Core.Path.{◌≡◌, ◌∙◌}
use mathlib.Core.List.{List, [], ◌∷◌, append_assoc}
use Prim.Native.Nat.{ℕ, ◌+◌, ◌≤◌}
use native.Mathlib.Omega.{arith}
use lib.ListN.{length}
use Rattle.text.specs.Decimal.{numeral}
use Rattle.text.specs.Text.{Wrote, Puts}
use Rattle.text.proofs.TextLaws.{puts-on, puts-place}
use Rattle.listing.specs.Lines.{size_line}
use Rattle.listing.specs.Parts.{size_text}
use Rattle.listing.specs.declared.line.Line.{Line}
use Rattle.listing.proofs.spelling.put_size.Goals as goal

whole : (l : Line) → length (numeral l.length) ≤ 20 → length (numeral l.row) ≤ 20 → length (numeral l.level) ≤ 20
    → {o o₁ o₂ o₃ o₄ o₅ o₆ : List ℕ} {p₁ p₂ p₃ p₄ p₅ p₆ : ℕ} → length o ≡ 64 → Puts (numeral l.length) 0 p₁ o o₁ → Puts (32 ∷ []) p₁ p₂ o₁ o₂
    → Puts (numeral l.row) p₂ p₃ o₂ o₃ → Puts (32 ∷ []) p₃ p₄ o₃ o₄ → Puts (numeral l.level) p₄ p₅ o₄ o₅ → Puts (10 ∷ []) p₅ p₆ o₅ o₆
    → Wrote (size_text l) 0 p₆ o o₆
unfolding size_text size_line
whole l a b c {o} {p₁ = p₁} {p₂ = p₂} {p₃ = p₃} {p₄ = p₄} {p₅ = p₅} {p₆ = p₆} e x₁ x₂ x₃ x₄ x₅ x₆ =
    let w₁ = x₁.whole (omega arith) in
    let q₁ : p₁ ≡ 0 + length (numeral l.length) = w₁.place in
    let h₂ : p₁ + 1 ≤ length o = omega arith in
    let w₂ = puts-on w₁ x₂ h₂ in
    let q₂ : p₂ ≡ p₁ + 1 = puts-place w₁ x₂ h₂ in
    let h₃ : p₂ + length (numeral l.row) ≤ length o = omega arith in
    let w₃ = puts-on w₂ x₃ h₃ in
    let q₃ : p₃ ≡ p₂ + length (numeral l.row) = puts-place w₂ x₃ h₃ in
    let h₄ : p₃ + 1 ≤ length o = omega arith in
    let w₄ = puts-on w₃ x₄ h₄ in
    let q₄ : p₄ ≡ p₃ + 1 = puts-place w₃ x₄ h₄ in
    let h₅ : p₄ + length (numeral l.level) ≤ length o = omega arith in
    let w₅ = puts-on w₄ x₅ h₅ in
    let q₅ : p₅ ≡ p₄ + length (numeral l.level) = puts-place w₄ x₅ h₅ in
    simp append_assoc (simp append_assoc at (puts-on w₅ x₆ (omega arith)))

pub shape_of-area : goal.shape_of-area
shape_of-area c =
    c.put_byte.auto.out ∙ c.put_number-levels.auto.out ∙ c.put_byte-next.auto.out ∙ c.put_number-height.auto.out
    ∙ c.put_byte-gap.auto.out ∙ c.put_number-width.auto.out

pub returns : goal.returns
returns c =
    whole c.args.line c.put_number-width.ensures.n_len_bound c.put_number-height.ensures.n_len_bound c.put_number-levels.ensures.n_len_bound c.requires
    c.put_number-width.ensures.puts c.put_byte-gap.ensures c.put_number-height.ensures.puts c.put_byte-next.ensures c.put_number-levels.ensures.puts
    c.put_byte.ensures
