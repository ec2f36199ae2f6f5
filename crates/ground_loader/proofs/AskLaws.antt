-- Behind the questions of a loader: each test of the code is that of the definition. Assumes nothing.
use mathlib.Core.Path.{◌≡◌, refl, sym, ap, ◌∙◌}
use mathlib.Core.Bool.{Bool, true, false, not, ◌&&◌}
use Prim.Native.Nat.{ℕ, zero, suc, ◌+◌, ◌*◌, ◌-◌, ◌/◌, ◌^◌, ◌≤◌, ◌<◌}
use native.Mathlib.Omega.{arith}
use native.Mathlib.Decide.{dec_lt, dec_le}
use native.Mathlib.Nat.{zero-mul, suc-mul, mod-lt}
use lib.Dec.{ltb, leb, eqb}
use lib.Pow.{pow_pos, split}
use borrow.Author.Tests.{lt-ltb, le-ltb, le-leb, lt-leb, eq-eqb, ne_eqb, ltb-true, leb-true, eqb-true}
use Rattle.numbers.specs.Signal.{pick, both}
use Rattle.numbers.proofs.Sweep.{both as halves}
use Rattle.wavelet.specs.Questions.{ask, within}
use Rattle.wavelet.specs.Limits.{max_width}
use Rattle.filters.specs.Figures.{store_by}
use Rattle.reader.specs.declared.Reader.{Reader}
use Rattle.reader.specs.Reading as reading
use Rattle.reader.specs.State.{columns, needs}
use Rattle.reader.specs.Questions.{store_fits}
use Rattle.reader.proofs.QuestionLaws.{asked, counts-in, counts-length}
use Rattle.ground_file.specs.Groups.{width_of}
use Rattle.ground_file.specs.File.{prime}
use Rattle.ground_loader.specs.declared.rows.Coming.{Coming}
use Rattle.ground_loader.specs.declared.loader.Loader.{Loader}
use Rattle.ground_loader.specs.Coming.{between}
use Rattle.ground_loader.specs.Loader.{reader_wants, second_fits, part_fits, standing, is_none, coming_after, loader_fits, take_question, row_needs}
use Rattle.ground_loader.specs.Loader.{bytes_wanted, is_over, most_step}
use Rattle.std.proofs.Common.{Result, Ok, Err}
use Rattle.std.specs.Result.{is_ok}
use Rattle.refusal.specs.declared.Refusal.{Refusal}
use Rattle.reader.specs.declared.Wanted.{Wanted}
use Rattle.reader.specs.declared.Wanted.TheVariants as wanted
use Rattle.reader.specs.Answers.{of_wanted}
use Rattle.ground_loader.specs.Local.{is_given}
use Rattle.ground_loader.proofs.ReaderLaws.{given_is, levels-some}

-- ---- two cases of a test
pub at-yes : {A : Type 0} (t : Bool) (a b : A) {r : A} → t ≡ true → r ≡ a → r ≡ pick t a b
at-yes t a b e f = f ∙ sym (λ i. pick (e i) a b)

pub at-no : {A : Type 0} (t : Bool) (a b : A) {r : A} → t ≡ false → r ≡ b → r ≡ pick t a b
at-no t a b e f = f ∙ sym (λ i. pick (e i) a b)

pub and_both : (a : Bool) {b c : Bool} → b ≡ c → (a && b) ≡ both a c
and_both true e = e
and_both false e = refl

no-right : (a : Bool) {b : Bool} → false ≡ b → false ≡ both a b
no-right true e = e
no-right false e = refl

no-left : {a : Bool} (b : Bool) → a ≡ false → false ≡ both a b
no-left b e = rw e refl

-- ---- what came of a row
pub none_is : (c : Coming)
    → (eqb c.phase 0
    && (eqb c.done 0 && (eqb c.code 0 && (eqb c.next 0 && (eqb c.left 0 && (eqb c.low 0 && (eqb c.bits 0 && eqb c.most 0)))))))
    ≡ is_none c
unfolding is_none
none_is c =
    and_both (eqb c.phase 0)
    (and_both (eqb c.done 0)
    (and_both (eqb c.code 0)
    (and_both (eqb c.next 0) (and_both (eqb c.left 0) (and_both (eqb c.low 0) (and_both (eqb c.bits 0) refl))))))

pub none_in : (c : Coming) → is_none c ≡ true → c ≡ between 0
unfolding is_none
none_in c e =
    let a = halves (eqb c.phase 0) _ e in
    let b = halves (eqb c.done 0) _ a.1 in
    let d = halves (eqb c.code 0) _ b.1 in
    let f = halves (eqb c.next 0) _ d.1 in
    let g = halves (eqb c.left 0) _ f.1 in
    let h = halves (eqb c.low 0) _ g.1 in
    let i = halves (eqb c.bits 0) _ h.1 in
    let pa = eqb-true c.phase 0 a.0 in
    let pb = eqb-true c.done 0 b.0 in
    let pd = eqb-true c.code 0 d.0 in
    let pf = eqb-true c.next 0 f.0 in
    let pg = eqb-true c.left 0 g.0 in
    let ph = eqb-true c.low 0 h.0 in
    let pi = eqb-true c.bits 0 i.0 in
    let pj = eqb-true c.most 0 i.1 in
    λ j. record { phase = pa j; done = pb j; code = pd j; next = pf j; left = pg j; low = ph j; bits = pi j; most = pj j }

module _ (m : ℕ) (c : Coming) where
  pub second-other : (c.phase ≡ 1 → ⊥) → true ≡ second_fits m c
  unfolding second_fits
  second-other h = rw (ne_eqb c.phase 1 h) refl

  pub second-zero : c.phase ≡ 1 → c.next ≡ 0 → true ≡ second_fits m c
  unfolding second_fits
  second-zero e z = rw (eq-eqb c.phase 1 e, eq-eqb c.next 0 z) refl

  moved-ltb : c.left ≤ m → ltb c.done (m - c.left) ≡ ltb (c.done + c.left) m
  moved-ltb h = elim (dec_lt (c.done + c.left) m) [
    | yes p ↦ lt-ltb c.done (m - c.left) (omega arith) ∙ sym (lt-ltb (c.done + c.left) m p)
    | no p ↦ le-ltb c.done (m - c.left) (omega arith) ∙ sym (le-ltb (c.done + c.left) m (omega arith))
  ]

  moved-leb : c.left ≤ m → leb c.done (m - c.left) ≡ leb (c.done + c.left) m
  moved-leb h = elim (dec_le (c.done + c.left) m) [
    | yes p ↦ le-leb c.done (m - c.left) (omega arith) ∙ sym (le-leb (c.done + c.left) m p)
    | no p ↦ lt-leb c.done (m - c.left) (omega arith) ∙ sym (lt-leb (c.done + c.left) m (omega arith))
  ]

  pub second-some : c.phase ≡ 1 → (c.next ≡ 0 → ⊥) → c.left ≤ m → ltb c.done (m - c.left) ≡ second_fits m c
  unfolding second_fits
  second-some e z h = rw (eq-eqb c.phase 1 e, ne_eqb c.next 0 z) (moved-ltb h)

  pub part_left : m < c.left → false ≡ part_fits m c
  unfolding part_fits
  part_left h =
      no-right (within 1 15 c.code)
      (no-right (leb c.next 15) (no-right (ltb 0 c.left) (no-left _ (lt-leb (c.done + c.left) m (omega arith)))))

  pub part-bits : width_of c.code ≤ c.bits → false ≡ part_fits m c
  unfolding part_fits
  part-bits h =
      no-right (within 1 15 c.code)
      (no-right (leb c.next 15)
      (no-right (ltb 0 c.left) (no-right (leb (c.done + c.left) m) (no-left _ (le-ltb c.bits (width_of c.code) h)))))

  shifted : (x k : ℕ) → eqb (x / 2 ^ k) 0 ≡ ltb x (2 ^ k)
  shifted x k = go (x / 2 ^ k) refl
    where
      go : (q : ℕ) → x / 2 ^ k ≡ q → eqb q 0 ≡ ltb x (2 ^ k)
      go zero e =
          let f : x / 2 ^ k * 2 ^ k ≡ 0 * 2 ^ k = ap (λ v. v * 2 ^ k) e in
          sym (lt-ltb x (2 ^ k) (omega (arith, f, split x k, zero-mul (2 ^ k), mod-lt x (pow_pos k))))
      go (suc q) e =
          let f : x / 2 ^ k * 2 ^ k ≡ suc q * 2 ^ k = ap (λ v. v * 2 ^ k) e in
          ne_eqb (suc q) 0 (λ z. omega arith) ∙ sym (le-ltb x (2 ^ k) (omega (arith, f, split x k, suc-mul q (2 ^ k))))

  pub part-all : (w : ℕ) (t p : Bool) → c.left ≤ m → w ≡ width_of c.code → t ≡ within 1 15 c.code → p ≡ second_fits m c
      → (t && (leb c.next 15
      && (ltb 0 c.left
      && (leb c.done (m - c.left) && (ltb c.bits w && (eqb (c.low / 2 ^ c.bits) 0 && (eqb (c.most / 2 ^ w) 0 && (leb c.phase 2 && p))))))))
      ≡ part_fits m c
  unfolding part_fits
  part-all w t p h ew et ep =
      and_both t
      (and_both (leb c.next 15)
      (and_both (ltb 0 c.left)
      (and_both (leb c.done (m - c.left))
      (and_both (ltb c.bits w)
      (and_both (eqb (c.low / 2 ^ c.bits) 0) (and_both (eqb (c.most / 2 ^ w) 0) (and_both (leb c.phase 2) ep)))))))
      ∙ rw (et, ew, moved-leb h, shifted c.low c.bits, shifted c.most (width_of c.code)) refl

  pub stand-group : c.phase ≡ 0 → ltb c.done m ≡ standing m c
  unfolding standing
  stand-group e = rw (eq-eqb c.phase 0 e) refl

  pub stand-part : {r : Bool} → (c.phase ≡ 0 → ⊥) → r ≡ part_fits m c → r ≡ standing m c
  unfolding standing
  stand-part h e = rw (ne_eqb c.phase 0 h) e

-- ---- question 1
pub ok-given : (w : Result Wanted Refusal) → is_ok w ≡ is_given (of_wanted w)
ok-given (Ok (wanted.Row k b r n)) = refl
ok-given (Ok wanted.Draw) = refl
ok-given (Ok wanted.Done) = refl
ok-given (Ok wanted.Ended) = refl
ok-given (Err why) = refl

pub loader-is : (l : Loader) (t i e : Bool) (a : ℕ)
    → t ≡ is_given (reading.want_reply l.reader (reading.want_question l.reader))
    → i ≡ within 1 1 l.step
    → a ≡ pick (eqb l.step 1) 0 1
    → e ≡ pick (ltb l.header 24) (is_none l.coming) (coming_after l.coming (reader_wants l.reader))
    → (t && (eqb l.reader.stop 0
    && (eqb l.reader.spare 0
    && (i && (eqb l.reader.admission a && (leb l.header 24 && (leb l.tail 4 && (ltb l.sum 4293501227 && e))))))))
    ≡ loader_fits l
unfolding loader_fits most_step prime
loader-is l t i e a et ei ea ee =
    and_both t
    (and_both (eqb l.reader.stop 0)
    (and_both (eqb l.reader.spare 0)
    (and_both i
    (and_both (eqb l.reader.admission a)
    (and_both (leb l.header 24) (and_both (leb l.tail 4) (and_both (ltb l.sum 4293501227) ee)))))))
    ∙ rw (et ∙ given_is l.reader, ei, ea) refl

pub record Fits (l : Loader) : Type 0 where
  pub fits : reading.counts_fit l.reader ≡ true
  pub stop : (l.reader.stop ≡ 0) × (l.reader.spare ≡ 0)
  pub step : (1 ≤ l.step) × (l.step ≤ 1)
  pub header : l.header ≤ 24
  pub sum : l.sum < prime
  pub coming : pick (ltb l.header 24) (is_none l.coming) (coming_after l.coming (reader_wants l.reader)) ≡ true

pub loader-in : (l : Loader) → loader_fits l ≡ true → Fits l
unfolding loader_fits within most_step
loader-in l e =
    let a = halves (reading.counts_fit l.reader) _ e in
    let b = halves (eqb l.reader.stop 0) _ a.1 in
    let c = halves (eqb l.reader.spare 0) _ b.1 in
    let d = halves (both (leb 1 l.step) (leb l.step 1)) _ c.1 in
    let d' = halves (leb 1 l.step) _ d.0 in
    let f = halves (eqb l.reader.admission (pick (eqb l.step 1) 0 1)) _ d.1 in
    let g = halves (leb l.header 24) _ f.1 in
    let h = halves (leb l.tail 4) _ g.1 in
    let i = halves (ltb l.sum prime) _ h.1 in
    record {
      fits = a.0;
      stop = (eqb-true l.reader.stop 0 b.0, eqb-true l.reader.spare 0 c.0);
      step = (leb-true 1 l.step d'.0, leb-true l.step 1 d'.1);
      header = leb-true l.header 24 g.0;
      sum = ltb-true l.sum prime i.0;
      coming = i.1;
    }

-- ---- a taking call's
module _ (l : Loader) (n m : ℕ) where
  pub take-one : loader_fits l ≡ false → 1 ≡ take_question l n m
  unfolding take_question
  take-one e = rw e refl

  module _ (fit : loader_fits l ≡ true) where
    pub take-five : (t : Bool) → t ≡ both (store_fits (needs l.reader) n) (leb (row_needs l.reader) m) → t ≡ false → 5 ≡ take_question l n m
    unfolding take_question
    take-five t e f = rw (fit, sym e ∙ f) refl

    module _ (t : Bool) (e : t ≡ both (store_fits (needs l.reader) n) (leb (row_needs l.reader) m)) (long : t ≡ true) where
      pub take-nine : l.reader.ended ≡ true → 9 ≡ take_question l n m
      unfolding take_question
      take-nine f = rw (fit, sym e ∙ long, f) refl

      module _ (live : l.reader.ended ≡ false) where
        pub take-eight : bytes_wanted l ≡ false → 8 ≡ take_question l n m
        unfolding take_question
        take-eight f = sym (λ i. ask (fit i) 1 (ask ((sym e ∙ long) i) 5 (ask (not (live i)) 9 (ask (f i) 8 0))))

        pub take_none : bytes_wanted l ≡ true → 0 ≡ take_question l n m
        unfolding take_question
        take_none f = sym (λ i. ask (fit i) 1 (ask ((sym e ∙ long) i) 5 (ask (not (live i)) 9 (ask (f i) 8 0))))

-- what a question of 0 says
pub take_in : (l : Loader) (n m : ℕ) → take_question l n m ≡ 0
    → (loader_fits l ≡ true) × (needs l.reader ≤ n) × (row_needs l.reader ≤ m) × (l.reader.ended ≡ false) × (bytes_wanted l ≡ true)
unfolding take_question store_fits
take_in l n m e = go (loader_fits l) (leb (needs l.reader) n) (leb (row_needs l.reader) m) l.reader.ended (bytes_wanted l) refl refl refl refl refl e
  where
    go : (a b c d f : Bool) → loader_fits l ≡ a → leb (needs l.reader) n ≡ b → leb (row_needs l.reader) m ≡ c → l.reader.ended ≡ d → bytes_wanted l ≡ f
        → ask a 1 (ask (both b c) 5 (ask (not d) 9 (ask f 8 0))) ≡ 0
        → (loader_fits l ≡ true) × (needs l.reader ≤ n) × (row_needs l.reader ≤ m) × (l.reader.ended ≡ false) × (bytes_wanted l ≡ true)
    go false b c d f ea eb ec ed ef e = absurd (omega arith)
    go true false c d f ea eb ec ed ef e = absurd (omega arith)
    go true true false d f ea eb ec ed ef e = absurd (omega arith)
    go true true true true f ea eb ec ed ef e = absurd (omega arith)
    go true true true false false ea eb ec ed ef e = absurd (omega arith)
    go true true true false true ea eb ec ed ef e = (ea, leb-true _ _ eb, leb-true _ _ ec, ed, ef)

-- ---- tests together
pub goes-is : (q p k n : ℕ) → (eqb q 0 && (ltb p 3 && ltb k n)) ≡ both (eqb q 0) (both (ltb p 3) (ltb k n))
goes-is q p k n = and_both (eqb q 0) (and_both (ltb p 3) refl)

pub over-is : (n : ℕ) (c : Coming) → (eqb c.phase 0 && eqb c.done n) ≡ is_over n c
unfolding is_over
over-is n c = and_both (eqb c.phase 0) refl

-- ---- question 5
pub areas-are : (s : Reader) (n m k : ℕ) → reading.counts_fit s ≡ true → s.stop ≡ 0 → s.spare ≡ 0 → k ≡ asked s.filter (columns s) s.levels
    → (leb k n && leb ((s.width + 1) / 2) m) ≡ both (store_fits (needs s) n) (leb (row_needs s) m)
unfolding store_fits
areas-are s n m k fit stop spare e =
    let is : k ≡ store_by s.filter (columns s) s.levels = counts-length s (counts-in s (levels-some s fit stop).1) k e in
    let all : needs s ≡ k = omega (arith, is, spare) in
    and_both (leb k n) refl ∙ ap (λ v. both (leb v n) (leb (row_needs s) m)) (sym all)

pub width_fits : (s : Reader) → reading.counts_fit s ≡ true → s.stop ≡ 0 → s.width + 1 < 2 ^ 64
unfolding max_width
width_fits s fit stop = omega (arith, (counts-in s (levels-some s fit stop).1).wide.1)
