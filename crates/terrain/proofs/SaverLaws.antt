-- The laws of a saving call on a state array. Assumes nothing.
use mathlib.Core.Path.{◌≡◌, refl, sym, subst, ap, ◌∙◌}
use mathlib.Core.Bool.{Bool, true, false, not}
use mathlib.Core.List.{List}
use Prim.Native.Nat.{ℕ}
use native.Mathlib.Omega.{arith}
use lib.IntN.{ℤ}
use Rattle.numbers.specs.Signal.{pick}
use Rattle.calls.proofs.QuestionLaws.{not_yes}
use Rattle.ground_file.specs.declared.saver.Saver.{Saver}
use Rattle.std.proofs.Common.{Result, Ok, Err}
use Rattle.refusal.specs.declared.Refusal.{Refusal}
use Rattle.refusal.specs.Numbers.{answer}
use Rattle.ground_file.specs.declared.saver.Turn.{Turn}
use Rattle.ground_file.specs.Saving.{Saved, of_saved}
use Rattle.ground_file.specs.Saving.{Saves}
use Rattle.states.specs.SaverState.{is_saver, saver_of, saved_words, written_of}
use Rattle.terrain.specs.SaverCalls.{Saving}
use Rattle.terrain.proofs.CallLaws.{not-no}

apart : (t : Bool) → t ≡ true → t ≡ false → ⊥
apart t e f = let z : ◌≡◌ {A = ℕ} 1 0 = ap (λ b. pick b 1 0) (sym e ∙ f) in omega arith

-- the number of an outcome
pub saved-number : (s : Saver) (r : Result Turn Refusal) → answer r ≡ (of_saved s r).answer
saved-number s (Ok t) = refl
saved-number s (Err why) = refl

-- b is what the code asked of the array
module _ (p : List ℤ) (s o : List ℕ) (z : ℕ) (b : Bool) (told : b ≡ is_saver s) where
  pub saving-other : not b ≡ true → Saving p s o z 1 s o z
  saving-other e = record { other = λ f. (refl, refl, refl, refl); own = λ f. absurd (apart (is_saver s) f (sym told ∙ not_yes b e)) }

  -- v is what was unpacked, r what the call on it gave
  pub saving-own : not b ≡ false → (v : Saver) → v ≡ saver_of s → (o' : List ℕ) (r : Saved) → Saves v p o o' r → (q : ℕ) (s' : List ℕ) (z' : ℕ) →
      q ≡ r.answer → s' ≡ saved_words r s → z' ≡ written_of r z → Saving p s o z q s' o' z'
  saving-own e v ev o' r w q s' z' eq es ez = record {
    other = λ f. absurd (apart (is_saver s) (sym told ∙ not-no b e) f);
    own = λ f. (r, subst (λ u. Saves u p o o' r) ev w, eq, es, ez);
  }
