-- Behind the loop over a run of bytes: what is left to do is the same from turn to turn (`Running`), and at its end it is done. Assumes nothing.
use mathlib.Core.Path.{◌≡◌, refl, sym, ap, ◌∙◌, subst}
use mathlib.Core.Bool.{Bool, true, false}
use mathlib.Core.List.{List, [], ◌∷◌}
use Prim.Native.Nat.{ℕ, zero, suc, ◌+◌, ◌-◌, ◌≤◌, ◌<◌}
use native.Mathlib.Omega.{arith}
use lib.IntN.{ℤ}
use lib.Dec.{ltb, eqb}
use lib.ListN.{length, get_or, drop}
use Rattle.std.proofs.Common.{Err}
use borrow.Author.Tests.{lt-ltb, eq-eqb, ne_eqb, eqb-true, eqb-false, ltb-true, ltb-false}
use Rattle.numbers.specs.Signal.{pick, both}
use Rattle.numbers.proofs.Sweep.{both as halves}
use Rattle.ground_loader.specs.declared.loader.Loader.{Loader}
use Rattle.ground_loader.specs.declared.loader.Due.{Due}
use Rattle.ground_loader.specs.declared.loader.Stop.{Stop}
use Rattle.ground_loader.specs.declared.loader.Stop.TheVariants as stop
use Rattle.ground_loader.specs.Loader.{World, world_of, Byte, byte_of, Ran, stopped, ran_on, ran, bytes_wanted}
use Rattle.ground_loader.specs.Loader.{passed, impossible, turned, ran_answer}
use Rattle.ground_loader.specs.Local.{Step, stop_number, stop_loader, of_step, due_of, Sound, Areas, Onward, Became, took, over, ToldOf}
use Rattle.ground_loader.specs.Local as local
use Rattle.ground_loader.proofs.DueLaws.{bytes-yes, bytes-no}

-- ---- what a call answers
module _ (q k : ℕ) (l : Loader) where
  pub told-14 : q ≡ 14 → ToldOf q k l (impossible k l)
  unfolding ran_answer
  told-14 e x y = sym (λ i. pick (eq-eqb q 14 e i) (impossible k l) (pick (both (eqb k 0) (ltb 0 q)) (turned q) (passed k l)))

  pub told-turned : (q ≡ 14 → ⊥) → 0 < q → k ≡ 0 → ToldOf q k l (turned q)
  unfolding ran_answer
  told-turned e h z x y =
      sym (λ i. pick (ne_eqb q 14 e i) (impossible k l) (pick (both (eq-eqb k 0 z i) (lt-ltb 0 q h i)) (turned q) (passed k l)))

  pub told-passed : (q ≡ 14 → ⊥) → (0 < q → k ≡ 0 → ⊥) → ToldOf q k l (passed k l)
  unfolding ran_answer
  told-passed e h x y =
      sym (λ i. pick (ne_eqb q 14 e i) (impossible k l) (pick (none (eqb k 0) refl (ltb 0 q) refl i) (turned q) (passed k l)))
    where
      none : (t : Bool) → eqb k 0 ≡ t → (u : Bool) → ltb 0 q ≡ u → both t u ≡ false
      none false e u f = refl
      none true e false f = refl
      none true e true f = absurd (h (ltb-true 0 q f) (eqb-true k 0 e))

-- ---- the run
abbrev plus : ℕ → Ran → Ran
plus k r = record { count = k + r.count; why = r.why; world = r.world }

abbrev pub stopping : ℕ → ℕ → World → Ran
stopping k q w = record { count = k; why = q; world = w }

drop_at : (k : ℕ) (l : List ℕ) → k < length l → drop k l ≡ get_or l k 0 ∷ drop (k + 1) l
drop_at zero [] h = absurd (omega arith)
drop_at zero (x ∷ l) h = refl
drop_at (suc k) [] h = absurd (omega arith)
drop_at (suc k) (x ∷ l) h = let e : suc k + 1 ≡ suc (k + 1) = omega arith in rw e (drop_at k l (omega arith))

drop_all : (k : ℕ) (l : List ℕ) → length l ≤ k → drop k l ≡ []
drop_all zero [] h = refl
drop_all zero (x ∷ l) h = absurd (omega arith)
drop_all (suc k) [] h = refl
drop_all (suc k) (x ∷ l) h = drop_all k l (omega arith)

-- after `k` bytes of the run bs, where `q` ended it or it goes on
pub record Running (n m : ℕ) (bs : List ℕ) (w₀ : World) (l : Loader) (d : Due) (k q : ℕ) (x y : ℕ → ℤ) : Type 0 where
  pub within : k ≤ length bs
  pub on : q ≡ 0 → ran n bs w₀ ≡ plus k (ran n (drop k bs) (world_of l x y))
  pub stop : (q ≡ 0 → ⊥) → ran n bs w₀ ≡ stopping k q (world_of l x y)
  pub due : d ≡ due_of l
  pub sound : q ≡ 0 → d.phase < 3 → Sound l d
  pub areas : q ≡ 0 → Areas l n m

pub running-start : (n m : ℕ) (bs : List ℕ) (l : Loader) (d : Due) (x y : ℕ → ℤ) → d ≡ due_of l → Sound l (due_of l) → Areas l n m
    → Running n m bs (world_of l x y) l d 0 0 x y
running-start n m bs l d x y e s a =
    record {
      within = omega arith;
      on = λ _. let z : (ran n bs (world_of l x y)).count ≡ 0 + (ran n bs (world_of l x y)).count = omega arith in
          λ i. record { count = z i; why = (ran n bs (world_of l x y)).why; world = (ran n bs (world_of l x y)).world };
      stop = λ f. absurd (f refl);
      due = e;
      sound = λ _ _. subst (Sound l) (sym e) s;
      areas = λ _. a;
    }

module _ {n m : ℕ} {bs : List ℕ} {w₀ : World} {l : Loader} {d : Due} {k q : ℕ} {x y : ℕ → ℤ} (r : Running n m bs w₀ l d k q x y)
    (goes : both (eqb q 0) (both (ltb d.phase 3) (ltb k (length bs))) ≡ true) where
  going : (q ≡ 0) × (d.phase < 3) × (k < length bs)
  going =
      let a = halves (eqb q 0) _ goes in
      let b = halves (ltb d.phase 3) _ a.1 in
      (eqb-true q 0 a.0, ltb-true d.phase 3 b.0, ltb-true k (length bs) b.1)

  pub turn-sound : Sound l d
  turn-sound = r.sound going.0 going.1

  pub turn-areas : Areas l n m
  turn-areas = r.areas going.0

  pub turn_in : k < length bs
  turn_in = going.2

  turn-zero : q ≡ 0
  turn-zero = going.0

  -- what is left begins with the byte
  head-is : ran n (drop k bs) (world_of l x y)
      ≡ ran_on (world_of l x y) (ran n (drop (k + 1) bs)) (byte_of (world_of l x y) n (get_or bs k 0))
  unfolding ran
  head-is =
      ap (λ v. ran n v (world_of l x y)) (drop_at k bs going.2)
      ∙ (λ i.
      pick (bytes-yes l r.due going.1 i) (ran_on (world_of l x y) (ran n (drop (k + 1) bs)) (byte_of (world_of l x y) n (get_or bs k 0)))
      (stopped 0 (world_of l x y)))

  pub turn : (s : Step) (b e n' : ℕ) (x' y' : ℕ → ℤ) → b ≡ get_or bs k 0 → n' ≡ n → Became (world_of l x y) s x' y' (byte_of (world_of l x y) n' b) → Onward l s
      → e ≡ pick (eqb s.answer 0) 1 0 → Running n m bs w₀ s.loader s.due (k + e) s.answer x' y'
  unfolding ran_on
  turn s b e n' x' y' eb en g o ee =
      let whole : ran n bs w₀ ≡ plus k (ran_on (world_of l x y) (ran n (drop (k + 1) bs)) (byte_of (world_of l x y) n b)) =
      r.on going.0 ∙ ap (plus k) (head-is ∙ ap (λ v. ran_on (world_of l x y) (ran n (drop (k + 1) bs)) (byte_of (world_of l x y) n v)) (sym eb)) in
      go (subst (λ v. Became (world_of l x y) s x' y' (byte_of (world_of l x y) v b)) en g) whole
    where
      one : s.answer ≡ 0 → e ≡ 1
      one z = ee ∙ (λ i. pick (eq-eqb s.answer 0 z i) 1 0)

      none : (s.answer ≡ 0 → ⊥) → e ≡ 0
      none z = ee ∙ (λ i. pick (ne_eqb s.answer 0 z i) 1 0)

      room : Areas l n m → s.answer ≡ 0 → Areas s.loader n m
      room a z = (subst (λ v. v ≤ n) (sym (o.store z)) a.0, subst (λ v. v ≤ m) (sym (o.row z)) a.1)

      go : {v : Byte} → Became (world_of l x y) s x' y' v → ran n bs w₀ ≡ plus k (ran_on (world_of l x y) (ran n (drop (k + 1) bs)) v)
          → Running n m bs w₀ s.loader s.due (k + e) s.answer x' y'
      go (took z) whole =
          let next : k + e ≡ k + 1 = omega (arith, one z) in
          let rest = ran n (drop (k + 1) bs) (world_of s.loader x' y') in
          let count : k + suc rest.count ≡ (k + 1) + rest.count = omega arith in
          record {
            within = omega (arith, next, going.2);
            on = λ _. whole ∙ (λ i. record { count = count i; why = rest.why; world = rest.world })
                ∙ ap (λ v. plus v (ran n (drop v bs) (world_of s.loader x' y'))) (sym next);
            stop = λ f. absurd (f z);
            due = o.due;
            sound = o.sound;
            areas = room (r.areas going.0);
          }
      go (local.turned some other same) whole =
          let off : s.answer ≡ 0 → ⊥ = λ z. omega arith in
          let next : k + e ≡ k = omega (arith, none off) in
          let count : k + 0 ≡ k + e = omega (arith, next) in
          record {
            within = omega (arith, next, going.2);
            on = λ z. absurd (off z);
            stop = λ _. whole ∙ (λ i. record { count = count i; why = s.answer; world = sym same i });
            due = o.due;
            sound = λ z. absurd (off z);
            areas = λ z. absurd (off z);
          }
      go (over z) whole =
          let off : s.answer ≡ 0 → ⊥ = λ f. omega arith in
          let next : k + e ≡ k = omega (arith, none off) in
          let count : k + 0 ≡ k + e = omega (arith, next) in
          record {
            within = omega (arith, next, going.2);
            on = λ f. absurd (off f);
            stop = λ _. whole ∙ (λ i. record { count = count i; why = sym z i; world = world_of s.loader x' y' });
            due = o.due;
            sound = λ f. absurd (off f);
            areas = λ f. absurd (off f);
          }

-- at the end
pub running-end : {n m : ℕ} {bs : List ℕ} {w₀ : World} {l : Loader} {d : Due} {k q : ℕ} {x y : ℕ → ℤ} → Running n m bs w₀ l d k q x y
    → both (eqb q 0) (both (ltb d.phase 3) (ltb k (length bs))) ≡ false → ran n bs w₀ ≡ stopping k q (world_of l x y)
unfolding ran
running-end {n} {m} {bs} {w₀} {l} {d} {k} {q} {x} {y} r e =
    go (eqb q 0) (ltb d.phase 3) (ltb k (length bs)) refl refl refl e
  where
    ended : q ≡ 0 → ran n (drop k bs) (world_of l x y) ≡ stopped 0 (world_of l x y) → ran n bs w₀ ≡ stopping k q (world_of l x y)
    ended z f =
        let count : k + 0 ≡ k = omega arith in
        r.on z ∙ ap (plus k) f ∙ (λ i. record { count = count i; why = sym z i; world = world_of l x y })

    off : (v : List ℕ) → bytes_wanted l ≡ false → ran n v (world_of l x y) ≡ stopped 0 (world_of l x y)
    off [] f = refl
    off (b ∷ v) f = λ i. pick (f i) (ran_on (world_of l x y) (ran n v) (byte_of (world_of l x y) n b)) (stopped 0 (world_of l x y))

    go : (a b c : Bool) → eqb q 0 ≡ a → ltb d.phase 3 ≡ b → ltb k (length bs) ≡ c → both a (both b c) ≡ false → ran n bs w₀ ≡ stopping k q (world_of l x y)
    go false b c ea eb ec e = r.stop (eqb-false q 0 ea)
    go true false c ea eb ec e = ended (eqb-true q 0 ea) (off (drop k bs) (bytes-no l r.due (ltb-false _ _ eb)))
    go true true false ea eb ec e = ended (eqb-true q 0 ea) (ap (λ v. ran n v (world_of l x y)) (drop_all k bs (ltb-false _ _ ec)))
    go true true true ea eb ec e = absurd (no e)
      where
        no : true ≡ false → ⊥
        no f = let z : ◌≡◌ {A = ℕ} 1 0 = ap (λ t. pick t 1 0) f in omega (arith, z)

-- ---- turn by turn
pub goes-by : (d : Due) (k n : ℕ) → d.phase < 3 → k < n → both (eqb 0 0) (both (ltb d.phase 3) (ltb k n)) ≡ true
goes-by d k n h g = rw (lt-ltb d.phase 3 h, lt-ltb k n g) refl

stop-none : (s : Stop) → ◌≡◌ {A = ℕ} 0 (pick (eqb (stop_number s) 0) 1 0)
stop-none stop.NoFile = refl
stop-none stop.OutOfRange = refl
stop-none (stop.Ended k) = refl

stop-some : (s : Stop) → stop_number s ≡ 0 → ⊥
stop-some stop.NoFile e = omega arith
stop-some stop.OutOfRange e = omega arith
stop-some (stop.Ended k) e = omega arith

-- a byte that was not taken ends it
pub turn-stopped : {n m : ℕ} {bs : List ℕ} {w₀ : World} {l : Loader} {d : Due} {k : ℕ} {x y : ℕ → ℤ} → Running n m bs w₀ l d k 0 x y
    → both (eqb 0 0) (both (ltb d.phase 3) (ltb k (length bs))) ≡ true → (s : Stop) (b n' : ℕ) (x' y' : ℕ → ℤ) → b ≡ get_or bs k 0 → n' ≡ n
    → Became (world_of l x y) (of_step l d (Err s)) x' y' (byte_of (world_of l x y) n' b) → Onward l (of_step l d (Err s))
    → ran n bs w₀ ≡ stopping k (stop_number s) (world_of (stop_loader l s) x' y')
turn-stopped {n} {m} {bs} {w₀} {l} {d} {k} {x} {y} r goes s b n' x' y' eb en g o =
    let t = turn r goes (of_step l d (Err s)) b 0 n' x' y' eb en g o (stop-none s) in
    let same : k + 0 ≡ k = omega arith in
    t.stop (stop-some s) ∙ ap (λ v. stopping v (stop_number s) (world_of (stop_loader l s) x' y')) same

-- no byte is wanted, or the run is used up
pub run-over : {n m : ℕ} {bs : List ℕ} {w₀ : World} {l : Loader} {d : Due} {k : ℕ} {x y : ℕ → ℤ} → Running n m bs w₀ l d k 0 x y
    → (d.phase < 3 → k < length bs → ⊥) → ran n bs w₀ ≡ stopping k 0 (world_of l x y)
run-over {bs = bs} {d = d} {k = k} r h = running-end r (none (ltb d.phase 3) refl (ltb k (length bs)) refl)
  where
    none : (t : Bool) → ltb d.phase 3 ≡ t → (u : Bool) → ltb k (length bs) ≡ u → both t u ≡ false
    none false e u f = refl
    none true e false f = refl
    none true e true f = absurd (h (ltb-true d.phase 3 e) (ltb-true k (length bs) f))
