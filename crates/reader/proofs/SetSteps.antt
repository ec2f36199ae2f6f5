-- The step after a row fed: a row of the same set where the set asks for more (`set-goes-on`), and none of it where the row completes it (`set-ends`).
-- Assumes nothing.
use mathlib.Core.Bool.{Bool, true, false}
use mathlib.Core.Path.{◌≡◌, refl, sym, ap, ◌∙◌}
use Prim.Native.Nat.{ℕ, zero, suc, ◌+◌, ◌-◌, ◌≤◌, ◌<◌}
use native.Mathlib.Decide.{ℕ_discrete}
use native.Mathlib.Omega.{arith}
use lib.Dec.{leb, ltb, eqb}
use borrow.Author.Tests.{lt-ltb, eq-eqb, ne_eqb, leb-false}
use Rattle.numbers.specs.Signal.{pick, both}
use Rattle.lifting.specs.Line.{lo}
use Rattle.lifting.specs.Grid.{Side}
use Rattle.wavelet.specs.Bands.{Band, code}
use Rattle.wavelet.specs.Levels.{next, side_at}
use Rattle.wavelet.specs.Order.{first_set, set_row}
use Rattle.wavelet.specs.Steps.{sets_before}
use Rattle.level.specs.Sets.{opens}
use Rattle.reader_steps.specs.Sets.{ahead, has_row, row_of, taking, makes, waiting, waits_at}
use Rattle.reader_steps.specs.Asked.{asked}
use Rattle.reader_steps.specs.Places.{has_cells, Spot, spot, Place, band_at, last_of_set, next_up, past, beyond, descend, begins, Ready}
use Rattle.reader.specs.Demand3.{set_number, goes_on_set}
use Rattle.reader_steps.proofs.Looks.{code_lt}
use Rattle.reader_steps.proofs.OpenedSets.{opened-row, taking-row, waits-here, waits-finer}
use Rattle.reader_steps.proofs.CellLaws.{asked-has, has-row}
use Rattle.reader_steps.proofs.ReadyLaws.{ready-still, ready-beyond}
use Rattle.reader_steps.proofs.StepsLeft.{steps_left, tail_at, Ahead, height, row, ahead-is, left-row, left-height}
use Rattle.reader.proofs.CallViews.{name_of, Due}
use Rattle.reader.proofs.Reached.{beyond-le}

-- ---- what each level waits for at a place
module _ (f : ℕ) (W H : Side) (l : ℕ) where
  -- level k and those finer wait as they do for number n of level k
  abbrev As : ℕ → ℕ → Spot → Type 0
  As k n q = (j : ℕ) → j ≤ k → waits_at f H q.level q.set j ≡ waits_at f H k n j

  -- where number n of level k begins, which takes row r
  descend-waits : (m k n r : ℕ) → taking H k r ≡ n → As k n (descend f m k (side_at k W) (side_at k H) n r)
  unfolding descend side_at row_of has_row
  descend-waits zero k n r t = λ j h. refl
  descend-waits (suc m) k n r t = go (has_cells (side_at k W) S) (opens (ahead f) S r) refl (descend-waits m (suc k))
    where
      S : Side
      S = side_at k H

      s : ℕ
      s = sets_before (ahead f) S r

      to : Spot
      to = descend f m (suc k) (next (side_at k W)) (next S) s (s - first_set S lo)

      Deeper : Type 0
      Deeper = (n r : ℕ) → taking H (suc k) r ≡ n → As (suc k) n (descend f m (suc k) (side_at (suc k) W) (side_at (suc k) H) n r)

      up : opens (ahead f) S r ≡ true → As k n (spot (suc k) s 1)
      up o j h = waits-finer f H k s j h ∙ ap (λ i. waits_at f H k i j) (unfold waiting in ap (taking H k) (opened-row f S r o) ∙ t)

      into : Deeper → opens (ahead f) S r ≡ true → (u : Bool) → leb (first_set S lo) s ≡ u → As k n (pick u to (spot (suc k) s 1))
      into ih o true u = λ j h. ih s (s - first_set S lo) (taking-row H (suc k) s u) j (omega arith) ∙ up o j h
      into ih o false u = up o

      go : (c o : Bool) → opens (ahead f) S r ≡ o → Deeper → As k n (pick (both c o) (pick (leb (first_set S lo) s) to (spot (suc k) s 1)) (spot k n 1))
      go false o _ ih = λ j h. refl
      go true false _ ih = λ j h. refl
      go true true o ih = into ih o (leb (first_set S lo) s) refl

  begins-waits : (k n : ℕ) → As (suc k) n (begins f W H (suc l) (suc k) n)
  unfolding begins
  begins-waits k n = go (has_row H (suc k) n) refl
    where
      go : (t : Bool) → has_row H (suc k) n ≡ t →
          As (suc k) n (pick t (descend f (suc l - suc k) (suc k) (side_at (suc k) W) (side_at (suc k) H) n (row_of H (suc k) n)) (spot (suc k) n 1))
      go true t = descend-waits (suc l - suc k) (suc k) n (row_of H (suc k) n) (taking-row H (suc k) n t)
      go false t = λ j h. refl

  -- the row wanted is of the set that its level waits for
  next-waits : (lev n b j i c : ℕ) → next_up f W H (suc l) lev n b ≡ spot (suc j) i c → (suc j ≤ lev) × (i ≡ waits_at f H lev n (suc j))
  unfolding next_up
  next-waits zero n b j i c = λ e. let z : 0 ≡ suc j = ap (λ r. r.level) e in absurd (omega arith)
  next-waits (suc k) n b j i c = go (ltb (band_at W H (suc l) k n b) 4) (next-waits k (waiting f H k n) 1 j i c)
    where
      to : Spot
      to = next_up f W H (suc l) k (waiting f H k n) 1

      go : (t : Bool) → (to ≡ spot (suc j) i c → (suc j ≤ k) × (i ≡ waits_at f H k (waiting f H k n) (suc j))) →
          pick t (spot (suc k) n (band_at W H (suc l) k n b)) to ≡ spot (suc j) i c → (suc j ≤ suc k) × (i ≡ waits_at f H (suc k) n (suc j))
      go true ih e =
          let z : suc k ≡ suc j = ap (λ r. r.level) e in
          let y : n ≡ i = ap (λ r. r.set) e in
          (omega arith, sym y ∙ sym (waits-here f H (suc k) n) ∙ ap (waits_at f H (suc k) n) z)
      go false ih e = let u = ih e in (omega (arith, u.0), u.1 ∙ sym (waits-finer f H k n (suc j) u.0))

  -- past set n no more of it is wanted
  past-other : (k n j i c : ℕ) → (let q = past f W H (suc l) k n in next_up f W H (suc l) q.level q.set q.band ≡ spot (suc j) i c) →
      suc j ≡ suc k → i ≡ n → ⊥
  unfolding past
  past-other k n j i c = go (makes f (side_at k H) n)
    where
      go : (t : Bool) → (let q = pick t (spot k (waiting f H k n) 1) (begins f W H (suc l) (suc k) (suc n)) in
          next_up f W H (suc l) q.level q.set q.band ≡ spot (suc j) i c) → suc j ≡ suc k → i ≡ n → ⊥
      go true e z y = omega (arith, (next-waits k (waiting f H k n) 1 j i c e).0)
      go false e z y =
          let q = begins f W H (suc l) (suc k) (suc n) in
          let u : waits_at f H q.level q.set (suc k) ≡ suc n = begins-waits k (suc n) (suc k) (omega arith) ∙ waits-here f H (suc k) (suc n) in
          let w : i ≡ suc n = (next-waits q.level q.set q.band j i c e).1 ∙ ap (waits_at f H q.level q.set) z ∙ u in
          omega arith

  -- the set of a row that is asked for
  pub set-of-row : (k n : ℕ) (c : Band) → asked (eqb (suc k) (suc l)) (side_at k W) (side_at k H) n c ≡ true → set_number H (name_of f W H l k n c) ≡ n
  unfolding set_number set_row
  set-of-row k n c asks =
      let z : suc k - 1 ≡ k = omega arith in
      let a = (has-row (side_at k W) (side_at k H) c n (asked-has _ _ _ _ _ asks).1).first in
      rw z (omega (arith, a))

module _ (f : ℕ) (W H : Side) (l d : ℕ) (p : Place) (level-le : p.level ≤ suc l) (k n : ℕ) (c : Band) (o : Due f W H l d p k n c) where
  -- the level is one of the map's
  inside : k ≤ l
  inside = omega (arith, o.below, level-le)

  -- where row c does not complete its set, the next step is a row of it
  pub set-goes-on : last_of_set W H (suc l) k n (code c) ≡ false →
      goes_on_set H (name_of f W H l k n c) (steps_left f W H l d (spot (suc k) n (code c + 1))) ≡ true
  unfolding goes_on_set
  set-goes-on more = first (next_up f W H (suc l) (suc k) n (code c + 1)) next-is
      (ahead-is f W H l d (suc k) n (code c + 1) (omega (arith, inside)) after)
    where
      under : (m i : ℕ) → m ≤ 4 → leb m i ≡ false → i < 4
      under m i b z = omega (arith, leb-false m i z)

      small : band_at W H (suc l) k n (code c + 1) < 4
      small = unfold last_of_set in under _ _ (omega arith) more

      next-is : next_up f W H (suc l) (suc k) n (code c + 1) ≡ spot (suc k) n (band_at W H (suc l) k n (code c + 1))
      next-is = unfold next_up in rw (lt-ltb (band_at W H (suc l) k n (code c + 1)) 4 small) refl

      after : Ready f W H (suc l) d (spot (suc k) n (code c + 1))
      after = ready-still f W H l d k n (code c) o.ready more

      first : (q : Spot) → q ≡ spot (suc k) n (band_at W H (suc l) k n (code c + 1)) →
          Ahead f W H l d (suc k) (tail_at f W H l (spot (suc k) n (code c + 1))) q →
          goes_on_set H (name_of f W H l k n c) (steps_left f W H l d (spot (suc k) n (code c + 1))) ≡ true
      first _ e (height fr) = let z : 0 ≡ suc k = ap (λ r. r.level) e in absurd (omega arith)
      first _ e (row j i b h r asks fr) =
          let z : suc j ≡ suc k = ap (λ r. r.level) e in
          let y : i ≡ n = ap (λ r. r.set) e in
          rw (left-row f W H l d (spot (suc k) n (code c + 1)) j i b o.due fr)
          (rw (
            eq-eqb (suc j) (suc k) z,
            eq-eqb (set_number H (name_of f W H l j i b)) (set_number H (name_of f W H l k n c))
                (set-of-row f W H l j i b asks ∙ y ∙ sym (set-of-row f W H l k n c o.asks)),
          ) refl)

  -- and where it does, it is none of it
  pub set-ends : last_of_set W H (suc l) k n (code c) ≡ true →
      goes_on_set H (name_of f W H l k n c) (steps_left f W H l d (beyond f W H (suc l) k n (code c))) ≡ false
  unfolding goes_on_set
  set-ends last = first (next_up f W H (suc l) to.level to.set to.band) refl
      (ahead-is f W H l d to.level to.set to.band (beyond-le f W H l k n (code c) inside (code_lt c)).0
      (ready-beyond f W H l d k n (code c) inside o.ready))
    where
      to : Spot
      to = beyond f W H (suc l) k n (code c)

      to_is : to ≡ past f W H (suc l) k n
      to_is = unfold beyond in rw last refl

      other : (j i b : ℕ) → next_up f W H (suc l) to.level to.set to.band ≡ spot (suc j) i b → suc j ≡ suc k → i ≡ n → ⊥
      other j i b e = past-other f W H l k n j i b (ap (λ q. next_up f W H (suc l) q.level q.set q.band) (sym to_is) ∙ e)

      first : (q : Spot) → next_up f W H (suc l) to.level to.set to.band ≡ q → Ahead f W H l d to.level (tail_at f W H l to) q →
          goes_on_set H (name_of f W H l k n c) (steps_left f W H l d to) ≡ false
      first _ e (height fr) = rw (left-height f W H l d to o.due fr) refl
      first _ e (row j i b h r asks fr) = rw (left-row f W H l d to j i b o.due fr) (elim (ℕ_discrete (suc j) (suc k)) [
        | yes z ↦ rw (
          eq-eqb (suc j) (suc k) z,
          ne_eqb (set_number H (name_of f W H l j i b)) (set_number H (name_of f W H l k n c))
              (λ y. other j i (code b) e z (sym (set-of-row f W H l j i b asks) ∙ y ∙ set-of-row f W H l k n c o.asks)),
        ) refl
        | no z ↦ rw (ne_eqb (suc j) (suc k) z) refl
      ])
