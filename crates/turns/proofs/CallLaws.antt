-- The laws of the calls' questions: what each test of the code says of them. Assumes nothing.
use mathlib.Core.Path.{◌≡◌, refl, sym, ap, ◌∙◌}
use mathlib.Core.Bool.{Bool, true, false}
use Prim.Native.Nat.{ℕ, zero, suc, ◌≤◌, ◌<◌}
use native.Mathlib.Omega.{arith}
use lib.Dec.{leb}
use borrow.Author.Tests.{le-leb, lt-leb, leb-true}
use Rattle.numbers.specs.Signal.{pick}
use Rattle.numbers.proofs.Sweep as sweep
use Rattle.calls.specs.Lists.{gives, refused, unless}
use Rattle.turns.specs.declared.Turns.{Turns}
use Rattle.turns.specs.Marks.{all_marked, marked}
use Rattle.turns.specs.Order.{Served, reader, nobody, next_after}
use Rattle.turns.specs.Answers.{a_reader, nothing}
use Rattle.turns.specs.Calls.{in_range, change_question, turn_question, lent, turn_reply}

module _ (t : Turns) where
  -- a turn-giver in its ranges
  pub in-range : t.marks ≤ all_marked → t.last ≤ 15 → in_range t ≡ true
  unfolding in_range
  in-range m l = rw (le-leb t.marks all_marked m, le-leb t.last 15 l) refl

  pub ranges : in_range t ≡ true → (t.marks ≤ all_marked) × (t.last ≤ 15)
  unfolding in_range
  ranges e =
      let b = sweep.both (leb t.marks all_marked) (leb t.last 15) e in
      (leb-true _ _ b.0, leb-true _ _ b.1)

  -- ---- the questions of mark and clear
  pub one-no : (n : ℕ) → in_range t ≡ false → 1 ≡ change_question t n
  unfolding change_question
  one-no n e = rw e refl

  pub number-no : (n : ℕ) → in_range t ≡ true → 15 < n → 21 ≡ change_question t n
  unfolding change_question
  number-no n e h = rw (e, lt-leb n 15 h) refl

  pub change-yes : (n : ℕ) → in_range t ≡ true → n ≤ 15 → 0 ≡ change_question t n
  unfolding change_question
  change-yes n e h = rw (e, le-leb n 15 h) refl

  -- no question: the numbers are in their ranges
  pub yes-change : (n : ℕ) → change_question t n ≡ 0 → (in_range t ≡ true) × (n ≤ 15)
  unfolding change_question
  yes-change n e = go (in_range t) (leb n 15) refl refl e
    where
      go : (a b : Bool) → in_range t ≡ a → leb n 15 ≡ b → ◌≡◌ {A = ℕ} (pick a (pick b 0 21) 1) 0 → (in_range t ≡ true) × (n ≤ 15)
      go true true p q e = (p, leb-true n 15 q)
      go true false p q e = absurd (omega arith)
      go false b p q e = absurd (omega arith)

-- an answer by the number r that the code asked for, q being the question's
module _ {A : Type 0} (q r : ℕ) (a : A) (is : r ≡ q) where
  pub turned-by : (r ≡ 0 → ⊥) → refused r ≡ unless q a
  turned-by h = ap (λ n. refused n) is ∙ go q (λ e. h (is ∙ e))
    where
      go : (q : ℕ) → (q ≡ 0 → ⊥) → refused q ≡ unless q a
      go zero h = absurd (h refl)
      go (suc q) h = refl

  pub passed-by : r ≡ 0 → gives a ≡ unless q a
  passed-by h = let z : q ≡ 0 = sym is ∙ h in rw z refl

-- ---- a turn
module _ (t : Turns) where
  pub turn-no : in_range t ≡ false → refused 1 ≡ turn_reply t
  unfolding turn_reply turn_question
  turn-no e = rw e refl

  pub turn-yes : in_range t ≡ true → turn_reply t ≡ gives (lent t (next_after (marked t.marks) t.last))
  unfolding turn_reply turn_question
  turn-yes e = rw e refl

  -- whom the search gave
  module _ (e : in_range t ≡ true) where
    pub turn-nothing : nobody ≡ next_after (marked t.marks) t.last → gives nothing ≡ turn_reply t
    turn-nothing is = ap (λ s. gives (lent t s)) is ∙ sym (turn-yes e)

    pub turn-reader : (r : ℕ) → reader r ≡ next_after (marked t.marks) t.last → gives (a_reader r (record { marks = t.marks; last = r })) ≡ turn_reply t
    turn-reader r is = ap (λ s. gives (lent t s)) is ∙ sym (turn-yes e)
