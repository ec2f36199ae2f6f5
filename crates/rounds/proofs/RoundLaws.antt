-- A round put together, rounds one after the other, and a whole run. Assumes nothing.
use Rattle.std.specs.Prelude.{Result, IfOk, IfErr}
use mathlib.Core.Path.{◌≡◌, refl, sym, ap, subst, ◌∙◌}
use mathlib.Core.Bool.{Bool, true, false, not}
use mathlib.Core.List.{List, [], ◌++◌}
use Prim.Native.Nat.{ℕ, suc, ◌≤◌, ◌<◌}
use native.Mathlib.Omega.{arith}
use borrow.Author.Tests.{eqb-true, ltb-true, leb-true}
use lib.Dec.{eqb, ltb}
use lib.ListN.{length, take, drop}
use lib.Seq.{drop-length}
use Rattle.numbers.specs.Signal.{pick, both}
use Rattle.text.specs.Moves.{Went, Stops, full, idle}
use Rattle.descriptors.specs.Left.{left_in, Within, reads_now, count_of, is_end, Fills}
use Rattle.descriptors.specs.declared.input.Left.{Left}
use Rattle.descriptors.specs.declared.input.Filled.{Filled}
use Rattle.descriptors.specs.declared.output.Cut.{Cut}
use Rattle.descriptors.proofs.LeftLaws.{fills-within, used-within, used-left}
use Rattle.rounds.specs.Machine.{Machine}
use Rattle.rounds.specs.Rounds.{waits_at, over_at, waiting, over, failed, ended, ends}
use Rattle.rounds.specs.Rounds.{going, started, outcome_of, Round, Rounds, begun, then, Ran}
use Rattle.rounds.specs.Rounds.{before, after, Completed}
use Rattle.rounds.specs.declared.round.Outcome.{Outcome}

-- ---- tests
pub false-true : {A : Type 0} {b : Bool} → b ≡ false → b ≡ true → A
false-true e d = absurd (let z : ◌≡◌ {A = ℕ} 0 1 = cc in omega arith)

pub both_true : (a b : Bool) → both a b ≡ true → (a ≡ true) × (b ≡ true)
both_true true b e = (refl, e)
both_true false b e = false-true refl e

pub waits-at : (b p : ℕ) → waits_at b p ≡ true → (b ≡ 0) × (p < 4)
unfolding waits_at
waits-at b p e = let d = both_true (eqb b 0) (ltb p 4) e in (eqb-true _ _ d.0, ltb-true _ _ d.1)

pub over-at : (b p : ℕ) → over_at b p ≡ true → (b ≡ 0) × (3 < p)
unfolding over_at
over-at b p e = let d = both_true (eqb b 0) (ltb 3 p) e in (eqb-true _ _ d.0, ltb-true _ _ d.1)

pub reads-waits : (w : Bool) (l : Left) → reads_now w l ≡ true → (w ≡ true) × (l.to ≤ l.from)
unfolding reads_now
reads-waits true l e = (refl, leb-true _ _ e)
reads-waits false l e = false-true refl e

pub going_on : (o : Bool) (r : Outcome) → going o r ≡ true → (failed r ≡ false) × (ended r ≡ false) × (o ≡ false)
unfolding going
going_on o r = go (failed r) (ended r) o
  where
    go : (f e o : Bool) → pick f false (pick e false (not o)) ≡ true → (f ≡ false) × (e ≡ false) × (o ≡ false)
    go false false false h = (refl, refl, refl)
    go false false true h = false-true refl h
    go false true o h = false-true refl h
    go true e o h = false-true refl h

pub going-not : (o : Bool) (r : Outcome) → going o r ≡ false → failed r ≡ false → ended r ≡ false → o ≡ true
unfolding going
going-not o r = go (failed r) (ended r) o
  where
    go : (f e o : Bool) → pick f false (pick e false (not o)) ≡ false → f ≡ false → e ≡ false → o ≡ true
    go f e true h p q = refl
    go false false false h p q = false-true h refl
    go false true false h p q = false-true q refl
    go true e false h p q = false-true p refl

pub ends-parts : (r : Outcome) → ends r ≡ true → (ended r ≡ true) × (not (failed r) ≡ true)
unfolding ends
ends-parts r e = both_true (ended r) (not (failed r)) e

pub ended-parts : (r : Outcome) → ended r ≡ true → (is_end r.filled.came ≡ true) × (r.idle ≡ true)
unfolding ended
ended-parts r e = both_true (is_end r.filled.came) r.idle e

-- not passed on, though nothing has failed: the input has not ended
pub ends-not : (r : Outcome) → ends r ≡ false → failed r ≡ false → ended r ≡ false
unfolding ends
ends-not r e f = go (ended r) (failed r) e f
  where
    go : (a b : Bool) → both a (not b) ≡ false → b ≡ false → a ≡ false
    go false b h k = refl
    go true false h k = false-true h refl
    go true true h k = false-true k refl

-- ---- one round
pub round_is : {S : Type 0} {M : Machine S} {s s' : S} {l : Left} {c c' o o' : List ℕ} (w : Bool) (g : Filled) (a b : ℕ) (i : Bool) (q : Result ℕ Cut) {r : Outcome}
    → Within c l → w ≡ waiting M s → Fills w l c c' g → Went M.Move s (left_in c' g.left) 0 a o o' 0 b s'
    → Stops M.busy s' (left_in c' g.left) a o b i → IfOk q (λ count. count ≡ b) → IfErr q (λ cut. cut.count < b) → r ≡ outcome_of g a b i q
    → Round M (length o) s l c c' o o' s' r
round_is {S} {M} {s} {s'} {l} {c} {c'} {o} {o'} w g a b i q m e f t h y n d =
    subst (λ r. Round M (length o) s l c c' o o' s' r) (sym d)
    (record { within = m; area = refl; fills = subst (λ b. Fills b l c c' g) e f; used = a; went = t; stops = h; left = refl; sent = y; cut = n })

module _ {S : Type 0} {M : Machine S} {A : ℕ} {s s' : S} {l : Left} {c c' o o' : List ℕ} {r : Outcome} (d : Round M A s l c c' o o' s' r) where
  pub room : Within c' r.filled.left
  room = fills-within d.within d.fills

  pub round-within : Within c' r.left
  round-within = rw d.left (used-within d.used room d.went.part)

  pub round-left : left_in c' r.left ≡ drop d.used (left_in c' r.filled.left)
  round-left = ap (left_in c') d.left ∙ used-left d.used room d.went.part

  -- where it is idle nothing is being written, and nothing is left
  pub all-used : r.idle ≡ true → (M.busy s' ≡ 0) × (left_in c' r.left ≡ [])
  all-used = go d.stops
    where
      go : {i : Bool} → Stops M.busy s' (left_in c' r.filled.left) d.used o r.written i → i ≡ true
          → (M.busy s' ≡ 0) × (left_in c' r.left ≡ [])
      go (full x e) z = false-true refl z
      go (idle x e) z = (x, round-left ∙ ap (λ m. drop m (left_in c' r.filled.left)) e ∙ drop-length (left_in c' r.filled.left))

-- ---- rounds one after the other
pub rounds-idle : {S : Type 0} {M : Machine S} {A m : ℕ} {s s' : S} {u t c : List ℕ} {r : Outcome} → Rounds M A s m u t s' c r → r.idle ≡ true
    → (M.busy s' ≡ 0) × (left_in c r.left ≡ [])
rounds-idle begun e = false-true refl e
rounds-idle (then g h d) e = all-used d e

-- of which `turns` have been made
pub record Looped {S : Type 0} (M : Machine S) (A : ℕ) (s s' : S) (c : List ℕ) (turns : ℕ) (r : Outcome) : Type 0 where
  pub read : List ℕ
  pub written : List ℕ
  pub rounds : Rounds M A s turns read written s' c r
  pub within : Within c r.left

module _ {S : Type 0} where
  pub looped-start : (M : Machine S) (A : ℕ) (s : S) (c : List ℕ) {r : Outcome} → r ≡ started → Looped M A s s c 0 r
  looped-start M A s c e =
      subst (Looped M A s s c 0) (sym e) (record { read = []; written = []; rounds = begun; within = record { start = omega arith; end = omega arith } })

  -- the output area lent to the round is as long as it was
  pub looped-then : {M : Machine S} {A A' : ℕ} {s s₁ s₂ : S} {c c' o o' : List ℕ} {turns n : ℕ} {r₁ r₂ : Outcome} → n ≡ suc turns → A' ≡ A → going (over M s₁) r₁ ≡ true
      → Looped M A s s₁ c turns r₁ → Round M A' s₁ r₁.left c c' o o' s₂ r₂ → Looped M A s s₂ c' n r₂
  looped-then {M} {A} {A'} {s} {s₁} {s₂} {c} {c'} {o} {o'} {turns} {n} {r₁} {r₂} k e w g d =
      let x : Round M A s₁ r₁.left c c' o o' s₂ r₂ = subst (λ y. Round M y s₁ r₁.left c c' o o' s₂ r₂) e d in
      record {
        read = g.read ++ take (count_of r₂.filled.came) c';
        written = g.written ++ take r₂.written o';
        rounds =
            subst (λ m. Rounds M A s m (g.read ++ take (count_of r₂.filled.came) c') (g.written ++ take r₂.written o') s₂ c' r₂) (sym k)
            (then g.rounds w x);
        within = round-within x;
      }

-- ---- a whole run
module _ {S : Type 0} {M : Machine S} {A : ℕ} {end : S → S} {s : S} where
  pub run-before : {s' : S} {c : List ℕ} {r : Outcome} → Ran M A s s' c r → ends r ≡ false → Completed M A end s s' r
  run-before g h = record { read = g.read; written = g.written; run = before g h }

  pub run-after : {s₁ s₂ s' : S} {c₁ c : List ℕ} {r₁ r : Outcome} {A' : ℕ} → A' ≡ A → Ran M A s s₁ c₁ r₁ → ends r₁ ≡ true → s₂ ≡ end s₁
      → Ran M A' s₂ s' c r → Completed M A end s s' r
  run-after {s₁} {s₂} {s'} {c₁} {c} {r₁} {r} {A'} e g h d k =
      let q : Ran M A (end s₁) s' c r = subst (λ y. Ran M A y s' c r) d (subst (λ y. Ran M y s₂ s' c r) e k) in
      record { read = g.read ++ q.read; written = g.written ++ q.written; run = after g h q }
