-- Rounds of any program M.
--     rounds-go      whatever the rounds, they are moves of the program, and what was read is what it was fed and what is left in the chunk
--     ended-goes     where the end of the input is to be passed on, all that was read is fed, and nothing is being written
--     nothing_read   from a state in which a refusal or the end of the input came, nothing is read
--     few-rounds     they are no more than the bytes read, twice those written, and 2
--     run-over       so a whole run, if nothing fails and they are fewer than 64 bits count, comes to its end
-- Assumes nothing.
use Rattle.std.specs.Prelude.{Option, is_err}
use mathlib.Core.Path.{◌≡◌, refl, sym, ap, subst, ◌∙◌}
use mathlib.Core.Bool.{Bool, true, false}
use mathlib.Core.List.{List, [], ◌++◌, append-nil, append_assoc}
use Prim.Native.Nat.{ℕ, suc, ◌+◌, ◌*◌, ◌≤◌, ◌<◌}
use native.Mathlib.Omega.{arith}
use native.Mathlib.Decide.{dec_lt}
use borrow.Author.Tests.{lt-ltb, le-leb, eq-eqb}
use lib.ListN.{length, take, length-append}
use lib.Seq.{length-take-le}
use Rattle.numbers.specs.Signal.{pick}
use Rattle.text.specs.Moves.{Goes, stays, then, Stops, full, idle}
use Rattle.text.proofs.TextLaws.{wrote-size}
use Rattle.text.proofs.MoveLaws.{goes-on, call-wrote}
use Rattle.descriptors.specs.Left.{left_in, reads_now, count_of, is_end, is_failed, came, read_of, Fills, keeps, reads}
use Rattle.descriptors.specs.declared.input.Left.{Left}
use Rattle.descriptors.specs.declared.input.Filled.{Filled}
use Rattle.descriptors.proofs.LeftLaws.{none_left, fills-left, length-left, came-most, came-none}
use Rattle.rounds.specs.Machine.{Machine}
use Rattle.rounds.specs.Rounds.{most_rounds, over_at, waits_at, waiting, over, failed, ended, ends, going, Round, Rounds, Ran, Run, before, after}
use Rattle.rounds.specs.Rounds as rounds
use Rattle.rounds.specs.declared.round.Outcome.{Outcome}
use Rattle.rounds.proofs.RoundLaws.{false-true, waits-at, reads-waits, going_on, going-not, ends-not, ended-parts, round-within, round-left}
use Rattle.rounds.proofs.RoundLaws.{all-used, rounds-idle, ends-parts}

-- ---- rounds are moves
-- from state s, u was read and t written, which left s': what the program was fed, and p', which is left of what was read
pub record ReachedBy {S : Type 0} (M : Machine S) (s : S) (u t : List ℕ) (s' : S) (p' : List ℕ) : Type 0 where
  pub fed : List ℕ
  pub goes : Goes M.Move s fed t s'
  pub left : u ≡ fed ++ p'

reached-on : {S : Type 0} {M : Machine S} {A : ℕ} {s s₁ s₂ : S} {u t c c' o o' : List ℕ} {l : Left} {r : Outcome} → ReachedBy M s u t s₁ (left_in c l)
    → Round M A s₁ l c c' o o' s₂ r → ReachedBy M s (u ++ take (count_of r.filled.came) c') (t ++ take r.written o') s₂ (left_in c' r.left)
reached-on {M = M} {s = s} {s₂ = s₂} {u = u} {t = t} {c = c} {c' = c'} {l = l} {r = r} h d =
    record {
      fed = q ++ d.went.bytes;
      goes = subst (λ y. Goes M.Move s (q ++ d.went.bytes) (t ++ y) s₂) (sym (call-wrote d.went)) (goes-on h.goes d.went.goes);
      left =
          ap (λ y. y ++ new) h.left ∙ append_assoc q (left_in c l) new ∙ ap (λ y. q ++ y) (sym (fills-left d.fills) ∙ parts)
          ∙ sym (append_assoc q d.went.bytes (left_in c' r.left));
    }
  where
    q : List ℕ
    q = h.fed

    new : List ℕ
    new = take (count_of r.filled.came) c'

    parts : left_in c' r.filled.left ≡ d.went.bytes ++ left_in c' r.left
    parts = d.went.read ∙ ap (λ y. d.went.bytes ++ y) (sym (round-left d))

pub rounds-go : {S : Type 0} {M : Machine S} {A : ℕ} {s : S} {m : ℕ} {s' : S} {u t c : List ℕ} {r : Outcome} → Rounds M A s m u t s' c r
    → ReachedBy M s u t s' (left_in c r.left)
rounds-go {s = s} {c = c} rounds.begun = record { fed = []; goes = stays s; left = sym (none_left c _ (omega arith)) }
rounds-go (rounds.then g e d) = reached-on (rounds-go g) d

-- ---- after a refusal or the end of the input
-- what is asked of a program: it stays so
pub record MachineLaws {S : Type 0} (M : Machine S) : Type 0 where
  pub rests : {s s' : S} {u t : List ℕ} → 3 < M.phase s → M.Move s u t s' → 3 < M.phase s'

goes-rests : {S : Type 0} {M : Machine S} → MachineLaws M → {s s' : S} {u t : List ℕ} → 3 < M.phase s → Goes M.Move s u t s' → 3 < M.phase s'
goes-rests L h (stays s) = h
goes-rests L h (then g m) = L.rests (goes-rests L h g) m

pub record NothingRead {S : Type 0} (M : Machine S) (u : List ℕ) (s' : S) (r : Outcome) : Type 0 where
  pub read : u ≡ []
  pub phase : 3 < M.phase s'
  pub ended : is_end r.filled.came ≡ false

not-read : {w : Bool} {l : Left} {c c' : List ℕ} {g : Filled} (u : List ℕ) → (w ≡ true → ⊥) → Fills w l c c' g → u ≡ []
    → (u ++ take (count_of g.came) c' ≡ []) × (is_end g.came ≡ false)
not-read {c' = c'} {g = g} u n (keeps e q k) z = (ap (λ y. y ++ take (count_of g.came) c') z ∙ ap (λ y. take (count_of y.came) c') q, ap (λ y. is_end y.came) q)
not-read {w} {l} u n (reads got e h q) z = absurd (n (reads-waits w l e).0)

pub nothing_read : {S : Type 0} {M : Machine S} {A : ℕ} {s : S} {m : ℕ} {s' : S} {u t c : List ℕ} {r : Outcome} → MachineLaws M → 3 < M.phase s
    → Rounds M A s m u t s' c r → NothingRead M u s' r
nothing_read L h rounds.begun = record { read = refl; phase = h; ended = refl }
nothing_read {M = M} L h (rounds.then {s₁ = s₁} {u = u} g e d) =
    let i = nothing_read L h g in
    let n = not-read u (λ w. absurd (omega (arith, (waits-at (M.busy s₁) (M.phase s₁) w).1, i.phase))) d.fills i.read in
    record { read = n.0; phase = goes-rests L i.phase d.went.goes; ended = n.1 }

-- ---- few rounds
-- 1 where it was the last
abbrev late : Outcome → ℕ
late r = pick (failed r) 1 (pick (ended r) 1 0)

late-not : (r : Outcome) → failed r ≡ false → ended r ≡ false → late r ≡ 0
late-not r f e = rw (f, e)

late-some : (r : Outcome) → (failed r ≡ false → ended r ≡ true) → late r ≡ 1
late-some r = go (failed r) (ended r)
  where
    go : (f e : Bool) → (f ≡ false → e ≡ true) → ◌≡◌ {A = ℕ} (pick f 1 (pick e 1 0)) 1
    go true e h = refl
    go false e h = rw (h refl)

read-not : (r : Outcome) → failed r ≡ false → is_failed r.filled.came ≡ false
unfolding failed
read-not r = go (is_failed r.filled.came)
  where
    go : (b : Bool) → pick b true (is_err r.sent) ≡ false → b ≡ false
    go false f = refl
    go true f = false-true f refl

-- a read that brought nothing failed, or the input has ended
read-none : (r : Outcome) (got : Option ℕ) → r.filled ≡ read_of (came got) → count_of r.filled.came ≡ 0 → r.idle ≡ true → failed r ≡ false
    → ended r ≡ true
unfolding failed ended
read-none r got q z i f =
    let e : is_failed (came got) ≡ false = sym (ap (λ y. is_failed y.came) q) ∙ read-not r f in
    let h : is_end r.filled.came ≡ true = ap (λ y. is_end y.came) q ∙ came-none got (sym (ap (λ y. count_of y.came) q) ∙ z) e in
    rw (i, h) refl

record Few (b m : ℕ) (u t : List ℕ) (r : Outcome) : Type 0 where
  pub all : m ≤ length u + 2 * length t + 1 + late r
  pub busy : 0 < b → m ≤ length u + 2 * length t + late r

-- where nothing is being written nothing is left
rounds-done : {S : Type 0} {M : Machine S} {A : ℕ} {s : S} {m : ℕ} {s' : S} {u t c : List ℕ} {r : Outcome} → Rounds M A s m u t s' c r → M.busy s' ≡ 0
    → r.left.to ≤ r.left.from
rounds-done rounds.begun b = omega arith
rounds-done {M = M} {s' = s'} {r = r} (rounds.then {c' = c'} {o = o} g h d) b = go d.stops refl
  where
    go : {i : Bool} → Stops M.busy s' (left_in c' r.filled.left) d.used o r.written i → r.idle ≡ i → r.left.to ≤ r.left.from
    go (full x e) k = absurd (omega (arith, b))
    go (idle x e) k = omega (arith, length-left (round-within d), ap length (all-used d k).1)

-- where nothing is being written, nothing is left and the program does not wait, it is over
waits-not : (b p : ℕ) (l : Left) → b ≡ 0 → l.to ≤ l.from → reads_now (waits_at b p) l ≡ false → over_at b p ≡ true
unfolding waits_at over_at reads_now
waits-not b p l e h f =
    elim (dec_lt p 4) [
      | yes k ↦ false-true f (rw (eq-eqb b 0 e, lt-ltb p 4 k, le-leb l.to l.from h) refl)
      | no k ↦ rw (eq-eqb b 0 e, lt-ltb 3 p (omega arith)) refl
    ]

fills-most : {w : Bool} {l : Left} {c c' : List ℕ} {g : Filled} → Fills w l c c' g → count_of g.came ≤ length c'
fills-most (keeps e q k) = rw (ap (λ y. count_of y.came) q) (omega arith)
fills-most {c' = c'} (reads got e h q) = rw (ap (λ y. count_of y.came) q) (came-most got (length c') h)

module _ {S : Type 0} {M : Machine S} {A m : ℕ} {s s₁ s₂ : S} {u t c c' o o' : List ℕ} {r r' : Outcome} (p : 0 < A) (g : Rounds M A s m u t s₁ c r)
    (e : going (over M s₁) r ≡ true) (d : Round M A s₁ r.left c c' o o' s₂ r') (i : Few (M.busy s₁) m u t r) where
  on : (failed r ≡ false) × (ended r ≡ false) × (over M s₁ ≡ false)
  on = going_on (over M s₁) r e

  none : late r ≡ 0
  none = late-not r on.0 on.1

  abbrev n : ℕ
  n = count_of r'.filled.came

  abbrev b : ℕ
  b = r'.written

  more : length (u ++ take n c') ≡ length u + n
  more = length-append u (take n c') ∙ ap (λ k. length u + k) (length-take-le n c' (fills-most d.fills))

  wrote : length (t ++ take b o') ≡ length t + b
  wrote =
      length-append t (take b o')
      ∙ ap (λ k. length t + k) (length-take-le b o' (omega (arith, d.went.wrote.room, wrote-size d.went.wrote)))

  quiet : r'.idle ≡ true → Fills (waiting M s₁) r.left c c' r'.filled
      → suc m ≤ length (u ++ take n c') + 2 * length (t ++ take b o') + 1 + late r'
  quiet k (reads got f x q) =
      elim (dec_lt 0 n) [
        | yes h ↦ omega (arith, i.all, none, more, wrote)
        | no h ↦ omega (arith, i.all, none, more, wrote, late-some r' (read-none r' got q (omega arith) k))
      ]
  quiet k (keeps f q z) =
      elim (dec_lt 0 (M.busy s₁)) [
        | yes h ↦ omega (arith, i.busy h, none, more, wrote)
        | no h ↦
            let w : M.busy s₁ ≡ 0 = omega arith in
            false-true on.2 (waits-not (M.busy s₁) (M.phase s₁) r.left w (rounds-done g w) f)
      ]

  few-then : {j : Bool} → Stops M.busy s₂ (left_in c' r'.filled.left) d.used o b j → r'.idle ≡ j
      → Few (M.busy s₂) (suc m) (u ++ take n c') (t ++ take b o') r'
  few-then (full x y) k = record {
    all = omega (arith, i.all, none, more, wrote, d.area);
    busy = λ _. omega (arith, i.all, none, more, wrote, d.area);
  }
  few-then (idle x y) k = record { all = quiet k d.fills; busy = λ h. absurd (omega (arith, x, h)) }

few : {S : Type 0} {M : Machine S} {A : ℕ} {s : S} {m : ℕ} {s' : S} {u t c : List ℕ} {r : Outcome} → 0 < A → Rounds M A s m u t s' c r → Few (M.busy s') m u t r
few p rounds.begun = record { all = omega arith; busy = λ _. omega arith }
few p (rounds.then g e d) = few-then p g e d (few p g) d.stops refl

late-most : (r : Outcome) → late r ≤ 1
late-most r = go (failed r) (ended r)
  where
    go : (f e : Bool) → pick f 1 (pick e 1 0) ≤ 1
    go true e = omega arith
    go false true = omega arith
    go false false = omega arith

pub few-rounds : {S : Type 0} {M : Machine S} {A : ℕ} {s : S} {m : ℕ} {s' : S} {u t c : List ℕ} {r : Outcome} → 0 < A → Rounds M A s m u t s' c r
    → m ≤ length u + 2 * length t + 2
few-rounds {r = r} p g = omega (arith, (few p g).all, late-most r)

-- ---- a whole run
ended-not : (r : Outcome) → is_end r.filled.came ≡ false → ended r ≡ false
unfolding ended
ended-not r e = rw e refl

module _ {S : Type 0} {M : Machine S} {A : ℕ} (area : 0 < A) where
  ran-stops : {s s' : S} {c : List ℕ} {r : Outcome} (g : Ran M A s s' c r) → length g.read + 2 * length g.written + 2 < most_rounds
      → going (over M s') r ≡ false
  ran-stops {s' = s'} {r = r} g h = go (going (over M s') r) refl
    where
      go : (b : Bool) → going (over M s') r ≡ b → b ≡ false
      go false e = refl
      go true e = absurd (omega (arith, g.stopped e, few-rounds area g.rounds))

pub ended-goes : {S : Type 0} {M : Machine S} {A : ℕ} {s s₁ : S} {c₁ : List ℕ} {r₁ : Outcome} (g : Ran M A s s₁ c₁ r₁) → ends r₁ ≡ true
    → (M.busy s₁ ≡ 0) × Goes M.Move s g.read g.written s₁
ended-goes {M = M} {s = s} {s₁ = s₁} {r₁ = r₁} g e =
    let i = rounds-idle g.rounds (ended-parts r₁ (ends-parts r₁ e).0).1 in
    let a = rounds-go g.rounds in (
      i.0,
      subst (λ u. Goes M.Move s u g.written s₁) (sym (a.left ∙ ap (λ y. a.fed ++ y) i.1 ∙ append-nil a.fed)) a.goes,
    )

module _ {S : Type 0} {M : Machine S} {A : ℕ} {end : S → S} {s : S} (laws : MachineLaws M) (rest : (s : S) → M.busy s ≡ 0 → 3 < M.phase (end s)) where
  -- nothing is read after the end
  pub after-end : {s₁ s' : S} {c₁ c : List ℕ} {r₁ r : Outcome} (g : Ran M A s s₁ c₁ r₁) → ends r₁ ≡ true → (h : Ran M A (end s₁) s' c r)
      → NothingRead M h.read s' r
  after-end {s₁ = s₁} g e h = nothing_read laws (rest s₁ (ended-goes g e).0) h.rounds

  pub run-over : {u t : List ℕ} {s' : S} {r : Outcome} → 0 < A → Run M A end s u t s' r → failed r ≡ false
      → length u + 2 * length t + 2 < most_rounds → over M s' ≡ true
  run-over {r = r} area (before g e) f h = going-not _ r (ran-stops area g h) f (ends-not r e f)
  run-over {r = r} area (after g e k) f h =
      going-not _ r
      (ran-stops area k (omega (arith, length-append g.read k.read, length-append g.written k.written)))
      f (ended-not r (after-end g e k).ended)
