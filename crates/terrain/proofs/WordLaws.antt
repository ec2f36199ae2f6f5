-- The words that an offer or a draw writes, with those that stand in the array already, are the writer's. Assumes nothing.
use mathlib.Core.Path.{◌≡◌, refl, sym, ap, ◌∙◌}
use mathlib.Core.Bool.{Bool, true, false}
use mathlib.Core.List.{List, [], ◌∷◌}
use Prim.Native.Nat.{ℕ, zero, suc, ◌≤◌}
use native.Mathlib.Omega.{arith}
use lib.Dec.{eqb, leb}
use lib.ListN.{length, get_or, drop}
use lib.Seq.{drop-cons, drop-length}
use borrow.Author.Tests.{eqb-true, leb-true}
use Rattle.numbers.specs.Signal.{pick}
use Rattle.numbers.proofs.Sweep as sweep
use Rattle.calls.specs.Lists.{Reply, gives, refused}
use Rattle.level.specs.Level.{Memory}
use Rattle.writer.specs.declared.Writer.{Writer}
use Rattle.writer.specs.Answers.{Took, Handed, a_row, nothing}
use Rattle.states.specs.States.{flag, zero_next, zero_to, is_state}
use Rattle.states.specs.WriterState.{is_writer, writer_of, offered_words, drawn_words, writer_words}
use Rattle.states.specs.WriterAnswers.{took_words, handed_words}
use Rattle.terrain.specs.WriterCalls.{offered, state_took, drawn, state_handed}
use Rattle.terrain.proofs.Steady.{Steady, offer-steady, SameMap, draw-steady}

-- sixteen words, spelt out
pub spelt : (s : List ℕ) → length s ≡ 16 →
    s ≡ get_or s 0 0 ∷ get_or s 1 0 ∷ get_or s 2 0 ∷ get_or s 3 0 ∷ get_or s 4 0 ∷ get_or s 5 0 ∷ get_or s 6 0 ∷ get_or s 7 0 ∷ get_or s 8 0 ∷ get_or s 9 0 ∷ get_or s 10 0
    ∷ get_or s 11 0 ∷ get_or s 12 0 ∷ get_or s 13 0 ∷ get_or s 14 0 ∷ get_or s 15 0 ∷ []
spelt s h =
    let e : drop 16 s ≡ [] = ap (λ (k : ℕ). drop k s) (sym h) ∙ drop-length s in
    let o : drop 0 s ≡ s = refl in
    cc (
      o,
      e,
      drop-cons s 0 0 (omega arith),
      drop-cons s 1 0 (omega arith),
      drop-cons s 2 0 (omega arith),
      drop-cons s 3 0 (omega arith),
      drop-cons s 4 0 (omega arith),
      drop-cons s 5 0 (omega arith),
      drop-cons s 6 0 (omega arith),
      drop-cons s 7 0 (omega arith),
      drop-cons s 8 0
          (omega arith),
      drop-cons s 9 0 (omega arith),
      drop-cons s 10 0 (omega arith),
      drop-cons s 11 0 (omega arith),
      drop-cons s 12 0
          (omega arith),
      drop-cons s 13 0 (omega arith),
      drop-cons s 14 0 (omega arith),
      drop-cons s 15 0 (omega arith),
    )

flag-back : (n : ℕ) → n ≤ 1 → flag (eqb n 1) ≡ n
flag-back zero h = refl
flag-back (suc zero) h = refl
flag-back (suc (suc n)) h = absurd (omega arith)

-- the words of a writer that no offer and no draw changes
record Fixed (s : List ℕ) : Type 0 where
  kind : get_or s 0 0 ≡ 1
  turned : flag (eqb (get_or s 5 0) 1) ≡ get_or s 5 0
  thirteen : get_or s 13 0 ≡ 0
  fourteen : get_or s 14 0 ≡ 0
  fifteen : get_or s 15 0 ≡ 0

fixed : (s : List ℕ) → is_writer s ≡ true → Fixed s
unfolding is_state zero_to zero_next
fixed s h =
    let a = sweep.both (eqb (get_or s 0 0) 1) _ h in
    let b = sweep.both (leb (get_or s 5 0) 1) _ a.1 in
    let c₅ = sweep.both (eqb (get_or s 13 0) 0) _ b.1 in
    let c₆ = sweep.both (eqb (get_or s 14 0) 0) _ c₅.1 in
    let c₇ = sweep.both (eqb (get_or s 15 0) 0) _ c₆.1 in
    record {
      kind = eqb-true _ _ a.0;
      turned = flag-back _ (leb-true _ _ b.0);
      thirteen = eqb-true _ _ c₅.0;
      fourteen = eqb-true _ _ c₆.0;
      fifteen = eqb-true _ _ c₇.0;
    }

module _ (s : List ℕ) (size : length s ≡ 16) (is : is_writer s ≡ true) where
  words-offered : (t : Writer) → Steady (writer_of s) t → offered_words t s ≡ writer_words t
  words-offered t e =
      let f = fixed s is in
      let g : flag t.finished ≡ get_or s 5 0 = ap flag e.finished ∙ f.turned in
      ap (offered_words t) (spelt s size) ∙ cc (f.kind, e.width, e.levels, e.x, e.y, e.filter, e.closed, g, f.thirteen, f.fourteen, f.fifteen)

  words-drawn : (t : Writer) → SameMap (writer_of s) t → drawn_words t s ≡ writer_words t
  words-drawn t e =
      let f = fixed s is in
      let g : flag t.finished ≡ get_or s 5 0 = ap flag e.finished ∙ f.turned in
      ap (drawn_words t) (spelt s size) ∙ cc (f.kind, e.width, e.levels, g, e.x, e.y, e.filter, f.thirteen, f.fourteen, f.fifteen)

-- a call on a writer's array that gives something
gave : {A : Type 0} (b : Bool) (r : Reply A) (a : A) → pick b r (refused 1) ≡ gives a → (b ≡ true) × (r ≡ gives a)
gave true r a e = (refl, e)
gave false r a e = let z : ◌≡◌ {A = ℕ} 0 1 = cc in absurd (omega arith)

-- r is what the call answered
module _ (s : List ℕ) (size : length s ≡ 16) (n : ℕ) (x : Memory) where
  pub offered-words : (run : List ℕ) (r : Reply Took) → offered s n run x ≡ r → took_words r s ≡ state_took (offered s n run x) s
  offered-words run r e = kept r e ∙ sym (ap (λ (q : Reply Took). state_took q s) e)
    where
      kept : (r : Reply Took) → offered s n run x ≡ r → took_words r s ≡ state_took r s
      kept (gives t) e =
          let g = gave (is_writer s) _ t e in
          words-offered s size g.0 t.writer (offer-steady (writer_of s) n run x t g.1)
      kept (refused q) e = refl

  pub drawn-words : (k : ℕ) (r : Reply Handed) → drawn s n k x ≡ r → handed_words r s ≡ state_handed (drawn s n k x) s
  drawn-words k r e = kept r e ∙ sym (ap (λ (q : Reply Handed). state_handed q s) e)
    where
      kept : (r : Reply Handed) → drawn s n k x ≡ r → handed_words r s ≡ state_handed r s
      kept (gives (a_row b t)) e =
          let g = gave (is_writer s) _ (a_row b t) e in
          words-drawn s size g.0 t (draw-steady (writer_of s) n k x b t g.1)
      kept (gives nothing) e = refl
      kept (refused q) e = refl
