-- Demand 1 of the saver's calls and of a file's header: `saver-calls`. Assumes nothing.
use mathlib.Core.Path.{◌≡◌, refl, sym, ap, subst, ◌∙◌}
use mathlib.Core.Bool.{Bool, true, false}
use mathlib.Core.List.{List}
use mathlib.Core.Logic.{◌↔◌, ◌⊎◌, inl, inr, ⊎_elim}
use Prim.Native.Nat.{ℕ, ◌*◌, ◌≤◌}
use native.Mathlib.Omega.{arith}
use lib.IntN.{ℤ}
use lib.Dec.{leb, eqb, ltb}
use lib.ListN.{length, drop}
use borrow.Author.Tests.{eq-eqb, ne_eqb, eqb-true, leb-true, leb-false}
use Rattle.numbers.specs.Signal.{pick, both}
use Rattle.numbers.proofs.Sweep.{both as halves}
use Rattle.wavelet.specs.declared.shape.Shape.{Shape}
use Rattle.wavelet.specs.Limits.{max_width, max_height}
use Rattle.wavelet.specs.Questions.{within}
use Rattle.wavelet.specs.Asks.{Asks, yes, no}
use Rattle.wavelet.proofs.AskLaws.{asked, room, least-most, width-exactly, height-exactly}
use Rattle.filters.specs.Filters.{filter_of, is_filter}
use Rattle.filters.proofs.PlainFigures.{known-exactly, levels-exactly}
use Rattle.rounding.specs.Plain.{StepWithin}
use Rattle.ground_file.specs.declared.saver.Saver.{Saver}
use Rattle.ground_file.specs.Saving.{Saved}
use Rattle.ground_file.specs.Saving.{max_step, plain, row_of, row_number, set_up_number, saver_fits, save_number, Saves}
use Rattle.ground_file.specs.Header.{shape_in, step_in, is_header, roundable, header_number}
use Rattle.ground_file.proofs.SaverAsks.{save-one, save-five, save-none}
use Rattle.ground_file.proofs.SaverKeeps.{answer-is, saves-kept, saves-past, saves-pass}
use Rattle.states.specs.SaverState.{is_saver, saved_words, written_of}
use Rattle.terrain.specs.SaverCalls.{Saving}
use Rattle.demand_1.specs.Words.{Kept}
use Rattle.demand_1.specs.Savers.{PlainStep, SaveSetUpAsks, SetUp, Save, CSave, Header, SaverCalls}
use Rattle.demand_1.proofs.WordLaws.{kept}

pub apart : (t : Bool) → t ≡ true → t ≡ false → ⊥
apart t e f = let z : ◌≡◌ {A = ℕ} 1 0 = ap (λ b. pick b 1 0) (sym e ∙ f) in omega arith

-- ---- the set-up
pub step-exactly : (k : ℕ) → within 1 max_step k ≡ true ↔ StepWithin k
unfolding max_step
step-exactly k = least-most max_step k

pub plain-exactly : (sh : Shape) (k : ℕ) → plain sh k ≡ true ↔ PlainStep sh k
unfolding plain
plain-exactly sh k = (
  λ e. told (eqb k 1) refl e,
  λ h. ⊎_elim (λ e. ap (λ t. pick t true rest) (eq-eqb k 1 e)) (λ z. all (eqb k 1) (zeros z)) h,
)
  where
    rest : Bool
    rest = both (eqb sh.x 0) (both (eqb sh.y 0) (eqb sh.filter 0))

    told : (t : Bool) → eqb k 1 ≡ t → pick t true rest ≡ true → PlainStep sh k
    told true f e = inl (eqb-true k 1 f)
    told false f e =
        let x = halves (eqb sh.x 0) _ e in
        let y = halves (eqb sh.y 0) (eqb sh.filter 0) x.1 in
        inr (eqb-true sh.x 0 x.0, eqb-true sh.y 0 y.0, eqb-true sh.filter 0 y.1)

    zeros : (sh.x ≡ 0) × (sh.y ≡ 0) × (sh.filter ≡ 0) → rest ≡ true
    zeros z = rw (eq-eqb sh.x 0 z.0, eq-eqb sh.y 0 z.1, eq-eqb sh.filter 0 z.2) refl

    all : (t : Bool) → rest ≡ true → pick t true rest ≡ true
    all true e = refl
    all false e = e

set-up-asks : (sh : Shape) (k : ℕ) → SaveSetUpAsks sh k (set_up_number sh k)
unfolding set_up_number
set-up-asks sh k =
    asked (within 1 max_width sh.width) _ (width-exactly sh.width)
    (asked (within 1 max_height sh.height) _ (height-exactly sh.height)
    (asked (is_filter sh.filter) _ (known-exactly sh.filter)
    (asked (within 1 (filter_of sh.filter).levels sh.levels) _ (levels-exactly sh.filter sh.levels)
    (asked (within 1 max_step k) _ (step-exactly k)
    (asked (plain sh k) _ (plain-exactly sh k) refl)))))

-- ---- a saving call
module _ (s : Saver) (p : List ℤ) (o o' : List ℕ) (r : Saved) (v : Saves s p o o' r) where
  abbrev Row : ℕ → Type 0
  Row q = q ≡ pick (both (ltb 0 (length o)) (ltb s.phase 3)) (row_number s (row_of s p)) 0

  abbrev All : ℕ
  All = s.shape.width * s.shape.height

  abbrev Answer : ℕ → Type 0
  Answer = Asks 1 (saver_fits s ≡ true) (Asks 5 (All ≤ length p) Row)

  -- turned away by n
  turned : (n : ℕ) → n ≡ save_number s (length p) → (n ≡ 0 → ⊥) → Answer n → Answer r.answer
  turned n e z a = subst Answer (e ∙ sym (v.refused (omega (arith, e, z))).0) a

  save-asks : Answer r.answer
  save-asks = fits (saver_fits s) refl
    where
      long : (t : Bool) → leb All (length p) ≡ t → saver_fits s ≡ true → Answer r.answer
      long true e f =
          let m : All ≤ length p = leb-true All (length p) e in
          yes f (yes m (answer-is s p o o' r v (sym (save-none s (length p) f m))))
      long false e f =
          let m = leb-false All (length p) e in
          turned 5 (save-five s (length p) f m) (λ z. omega arith) (yes f (no (λ h. omega (arith, m, h))))

      fits : (t : Bool) → saver_fits s ≡ t → Answer r.answer
      fits true f = long (leb All (length p)) refl f
      fits false f = turned 1 (save-one s (length p) f) (λ z. omega arith) (no (λ h. apart (saver_fits s) h f))

  save-of : Save s p o o' r
  save-of =
      let past = saves-past s p o o' r v in
      record {
        answer = save-asks;
        saver = λ z. (saves-kept s p o o' r v z).1;
        area = λ z. (saves-kept s p o o' r v z).2;
        nothing = λ z. (saves-kept s p o o' r v z).0;
        size = past.0;
        room = past.1;
        surplus = past.2;
        again = saves-pass s p o o' r v;
      }

-- ---- C's
c-save-of : (p : List ℤ) (s o : List ℕ) (z q : ℕ) (s' o' : List ℕ) (z' : ℕ) → Saving p s o z q s' o' z' → CSave s o z q s' o' z'
c-save-of p s o z q s' o' z' w = go (is_saver s) refl
  where
    go : (t : Bool) → is_saver s ≡ t → CSave s o z q s' o' z'
    go false e =
        let x = w.other e in
        let one : q ≡ 0 → ⊥ = λ f. omega (arith, x.0, f) in
        record {
          other = λ f. x.0;
          array = λ h. x.1;
          area = λ h. x.2;
          count = λ h. x.3;
          size = ap length x.2;
          room = λ f. absurd (one f);
          surplus = λ f. absurd (one f);
        }
    go true e =
        let x = w.own e in
        let r = x.0 in
        let d = save-of _ p o o' r x.1 in
        record {
          other = λ f. absurd (apart (is_saver s) e f);
          array = λ h. x.3 ∙ kept r.answer _ s (λ f. h (x.2 ∙ f));
          area = λ h. d.area (λ f. h (x.2 ∙ f));
          count = λ h. x.4 ∙ kept r.answer _ z (λ f. h (x.2 ∙ f));
          size = d.size;
          room = λ f. omega (arith, d.room, wrote r x.4 (sym x.2 ∙ f));
          surplus = λ f. ap (λ n. drop n o') (wrote r x.4 (sym x.2 ∙ f)) ∙ d.surplus ∙ ap (λ n. drop n o) (sym (wrote r x.4 (sym x.2 ∙ f)));
        }
      where
        wrote : (r : Saved) → z' ≡ written_of r z → r.answer ≡ 0 → z' ≡ r.written
        wrote r ez f = ez ∙ ap (λ t. pick t r.written z) (eq-eqb r.answer 0 f)

-- ---- the header
header-asks : (b : List ℕ) → Asks 5 (24 ≤ length b) (Asks 22 (is_header b ≡ true) (Asks 22 (roundable (shape_in b) (step_in b) ≡ true)
    (SaveSetUpAsks (shape_in b) (step_in b)))) (header_number b)
unfolding header_number
header-asks b =
    asked (leb 24 (length b)) _ (room 24 (length b))
    (asked (is_header b) _ (λ e. e, λ e. e)
    (asked (roundable (shape_in b) (step_in b)) _ (λ e. e, λ e. e) (set-up-asks (shape_in b) (step_in b))))

pub saver-calls : SaverCalls
saver-calls = record {
  set-up = λ sh k s. record { answer = set-up-asks sh k; array = kept (set_up_number sh k) _ s };
  save = save-of;
  c_save = c-save-of;
  header = λ b z. record { answer = header-asks b; numbers = kept (header_number b) _ z };
}
