-- The questions of the two calls in their order, and what they leave known. Assumes nothing.
use mathlib.Core.Path.{◌≡◌, refl, sym, ◌∙◌}
use mathlib.Core.Bool.{Bool, true, false}
use Prim.Native.Nat.{ℕ, suc, ◌*◌, ◌^◌, ◌≤◌, ◌<◌}
use native.Mathlib.Nat.{mul_comm}
use native.Mathlib.Omega.{arith}
use lib.Dec.{leb}
use borrow.Author.Tests.{leb-true, le-leb, lt-leb}
use Rattle.wavelet.specs.Limits.{max_width, max_height, max_levels}
use Rattle.wavelet.specs.Questions.{ask, within, size_question, Sized}
use Rattle.wavelet.proofs.QuestionLaws.{within-true, sized, size-no, size-yes}
use Rattle.wavelet.proofs.ViewLaws.{product}
use Rattle.rounding.specs.Figure.{max_step}
use Rattle.rounding.specs.Calls.{round_question, bound_question}

-- a question answered yes
yes-zero : (b : Bool) (n rest : ℕ) → ask b (suc n) rest ≡ 0 → (b ≡ true) × (rest ≡ 0)
yes-zero true n rest e = (refl, e)
yes-zero false n rest e = absurd (omega arith)

module _ (W H L q n : ℕ) where
  pub no_size : (size_question W H L ≡ 0 → ⊥) → size_question W H L ≡ round_question W H L q n
  unfolding round_question
  no_size h = sym (size-no W H L _ h)

  module _ (s : size_question W H L ≡ 0) where
    pub product-fits : W * H < 2 ^ 64
    product-fits =
        let z = sized W H L s in
        omega (arith, product H W (omega (arith, z.height)) z.width.1, mul_comm W H)

    pub no_step : within 1 max_step q ≡ false → 20 ≡ round_question W H L q n
    unfolding round_question
    no_step e = sym (size-yes W H L _ s ∙ rw e)

    module _ (e : within 1 max_step q ≡ true) where
      pub no_room : n < W * H → 5 ≡ round_question W H L q n
      unfolding round_question
      no_room h = sym (size-yes W H L _ s ∙ simp (e, lt-leb (W * H) n h))

      pub none-no : W * H ≤ n → 0 ≡ round_question W H L q n
      unfolding round_question
      none-no h = sym (size-yes W H L _ s ∙ simp (e, le-leb (W * H) n h))

  -- all answered yes
  pub passes : round_question W H L q n ≡ 0 → Sized W H L × (W * H ≤ n) × (1 ≤ q) × (q ≤ max_step)
  unfolding round_question
  passes e =
      let w = yes-zero (within 1 max_width W) 1 _ e in
      let h = yes-zero (within 1 max_height H) 2 _ w.1 in
      let l = yes-zero (within 1 max_levels L) 3 _ h.1 in
      let s = yes-zero (within 1 max_step q) 19 _ l.1 in
      let a = yes-zero (leb (W * H) n) 4 _ s.1 in
      let t = within-true 1 max_step q s.0 in (
        record { width = within-true 1 max_width W w.0; height = within-true 1 max_height H h.0; levels = within-true 1 max_levels L l.0 },
        leb-true _ _ a.0,
        t.0,
        t.1,
      )

module _ (L q : ℕ) where
  pub no-levels : within 1 max_levels L ≡ false → 4 ≡ bound_question L q
  unfolding bound_question
  no-levels e = rw e

  pub no_bound : within 1 max_levels L ≡ true → within 1 max_step q ≡ false → 20 ≡ bound_question L q
  unfolding bound_question
  no_bound e f = simp (e, f)

  pub both_yes : within 1 max_levels L ≡ true → within 1 max_step q ≡ true → 0 ≡ bound_question L q
  unfolding bound_question
  both_yes e f = simp (e, f)
