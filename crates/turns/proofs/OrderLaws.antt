-- The laws of the search in circular order: whom it finds is wanted (`found-wants`), nobody is found where nobody wants (`found-nobody`), and a reader that
-- wants is found or comes nearer (`nearer`). Assumes nothing.
use mathlib.Core.Path.{◌≡◌, refl, sym, ap, ◌∙◌}
use mathlib.Core.Bool.{Bool, true, false}
use Prim.Native.Nat.{ℕ, zero, suc, ◌+◌, ◌-◌, ◌%◌, ◌≤◌, ◌<◌}
use native.Mathlib.Omega.{arith}
use lib.Dec.{eqb, ltb}
use borrow.Author.Tests.{eqb-true, eqb-false, ltb-true, ltb-false}
use Rattle.numbers.specs.Signal.{pick}
use Rattle.turns.specs.Marks.{readers}
use Rattle.turns.specs.Order.{Served, reader, nobody, first_from, next_after}

-- one step of the search
module _ (wants : ℕ → Bool) where
  first-here : (k r : ℕ) → wants (r % readers) ≡ true → first_from wants (suc k) r ≡ reader (r % readers)
  unfolding first_from
  first-here k r e = rw e refl

  first-later : (k r : ℕ) → wants (r % readers) ≡ false → first_from wants (suc k) r ≡ first_from wants k (r + 1)
  unfolding first_from
  first-later k r e = rw e refl

  -- ---- at the places of a loop over the sixteen, i of them looked at
  pub loop-found : (last i : ℕ) → i < 16 → wants ((last + 1 + i) % 16) ≡ true →
      first_from wants (16 - i) (last + 1 + i) ≡ reader ((last + 1 + i) % 16)
  loop-found last i h e =
      let k : 16 - i ≡ suc (15 - i) = omega arith in
      ap (λ n. first_from wants n (last + 1 + i)) k ∙ first-here (15 - i) (last + 1 + i) e

  pub loop-on : (last i : ℕ) → i < 16 → wants ((last + 1 + i) % 16) ≡ false →
      first_from wants (16 - i) (last + 1 + i) ≡ first_from wants (16 - (i + 1)) (last + 1 + (i + 1))
  loop-on last i h e =
      let k : 16 - i ≡ suc (16 - (i + 1)) = omega arith in
      let r : last + 1 + i + 1 ≡ last + 1 + (i + 1) = omega arith in
      ap (λ n. first_from wants n (last + 1 + i)) k ∙ first-later (16 - (i + 1)) (last + 1 + i) e ∙ ap (first_from wants (16 - (i + 1))) r

  pub loop-over : (last i : ℕ) → 16 ≤ i → first_from wants (16 - i) (last + 1 + i) ≡ nobody
  unfolding first_from
  loop-over last i h = let k : 16 - i ≡ 0 = omega arith in ap (λ n. first_from wants n (last + 1 + i)) k

  -- ---- whom it finds
  first-wants : (k r n : ℕ) → first_from wants k r ≡ reader n → (n < readers) × (wants n ≡ true)
  unfolding first_from
  first-wants zero r n e = absurd (let z : ◌≡◌ {A = ℕ} 0 1 = cc in omega arith)
  first-wants (suc k) r n e = go (wants (r % readers)) refl (first-wants k (r + 1) n)
    where
      go : (b : Bool) → wants (r % readers) ≡ b → (first_from wants k (r + 1) ≡ reader n → (n < readers) × (wants n ≡ true)) → (n < readers) × (wants n ≡ true)
      go true h on =
          let t : reader (r % readers) ≡ reader n = sym (first-here k r h) ∙ e in
          let s : r % readers ≡ n = cc in
          (omega arith, ap wants (sym s) ∙ h)
      go false h on = on (sym (first-later k r h) ∙ e)

  -- where one of those that it looks at wants, at the latest that one
  pub record FoundBy (k r j : ℕ) : Type 0 where
    pub place : ℕ
    pub by : place ≤ j
    pub is : first_from wants k r ≡ reader ((r + place) % readers)

  pub found-by : (k r j : ℕ) → j < k → wants ((r + j) % readers) ≡ true → FoundBy k r j
  found-by zero r j h e = absurd (omega arith)
  found-by (suc k) r j h e = go (wants (r % readers)) refl (found-by k (r + 1))
    where
      here : r + 0 ≡ r
      here = omega arith

      later : (j : ℕ) → j < suc k → wants ((r + j) % readers) ≡ true → wants (r % readers) ≡ false →
          ((i : ℕ) → i < k → wants ((r + 1 + i) % readers) ≡ true → FoundBy k (r + 1) i) → FoundBy (suc k) r j
      later zero g w f on = absurd (let z : true ≡ false = sym w ∙ ap (λ s. wants (s % readers)) here ∙ f in let y : ◌≡◌ {A = ℕ} 0 1 = cc in omega arith)
      later (suc i) g w f on =
          let s : r + suc i ≡ r + 1 + i = omega arith in
          let d = on i (omega arith) (ap (λ s. wants (s % readers)) (sym s) ∙ w) in
          let p : r + 1 + d.place ≡ r + suc d.place = omega arith in
          record { place = suc d.place; by = omega (arith, d.by); is = first-later k r f ∙ d.is ∙ ap (λ s. reader (s % readers)) p }

      go : (b : Bool) → wants (r % readers) ≡ b → ((i : ℕ) → i < k → wants ((r + 1 + i) % readers) ≡ true → FoundBy k (r + 1) i) → FoundBy (suc k) r j
      go true f on = record { place = 0; by = omega arith; is = first-here k r f ∙ ap (λ s. reader (s % readers)) (sym here) }
      go false f on = later j h e f on

-- only the sixteen readers are looked at
same_first : (p q : ℕ → Bool) → ((n : ℕ) → n < readers → p n ≡ q n) → (k r : ℕ) → first_from p k r ≡ first_from q k r
unfolding first_from
same_first p q same zero r = refl
same_first p q same (suc k) r =
    ap (λ b. pick b (reader (r % readers)) (first_from p k (r + 1))) (same (r % readers) (omega arith))
    ∙ ap (pick (q (r % readers)) (reader (r % readers))) (same_first p q same k (r + 1))

pub same-search : (p q : ℕ → Bool) → ((n : ℕ) → n < readers → p n ≡ q n) → (last : ℕ) → next_after p last ≡ next_after q last
unfolding next_after
same-search p q same last = same_first p q same readers (last + 1)

pub found-wants : (wants : ℕ → Bool) (last n : ℕ) → next_after wants last ≡ reader n → (n < readers) × (wants n ≡ true)
unfolding next_after
found-wants wants last n e = first-wants wants readers (last + 1) n e

-- ---- the distance of a reader: how many are looked at before it
abbrev pub distance : ℕ → ℕ → ℕ
distance last n = (n + 15 - last) % 16

far : (last n : ℕ) → last < 16 → n ≤ last → distance last n ≡ n + 15 - last
far last n l h = omega arith

near : (last n : ℕ) → n < 16 → last < n → distance last n ≡ n - last - 1
near last n h g = omega arith

-- after one that is looked at before reader n fewer are before it
closer : (last n i : ℕ) → last < 16 → n < 16 → i < distance last n → distance ((last + 1 + i) % 16) n < distance last n
closer last n i l h g = ahead (ltb last n) refl
  where
    round : n ≤ last → (b : Bool) → ltb (last + 1 + i) 16 ≡ b → distance ((last + 1 + i) % 16) n < distance last n
    round e true f =
        let f' = ltb-true (last + 1 + i) 16 f in
        let s : (last + 1 + i) % 16 ≡ last + 1 + i = omega (arith, f') in
        let d = far last n l e in
        rw s (omega (arith, far (last + 1 + i) n f' (omega arith)))
    round e false f =
        let f' = ltb-false (last + 1 + i) 16 f in
        let d = far last n l e in
        let s : (last + 1 + i) % 16 ≡ last + i - 15 = omega (arith, f') in
        let m : last + i - 15 < n = omega (arith, f') in
        rw s (omega (arith, near (last + i - 15) n h m, f'))

    ahead : (b : Bool) → ltb last n ≡ b → distance ((last + 1 + i) % 16) n < distance last n
    ahead true e =
        let e' = ltb-true last n e in
        let d = near last n h e' in
        let s : (last + 1 + i) % 16 ≡ last + 1 + i = omega (arith, e') in
        let m : last + 1 + i < n = omega (arith, e') in
        rw s (omega (arith, near (last + 1 + i) n h m))
    ahead false e = round (ltb-false last n e) (ltb (last + 1 + i) 16) refl

module _ (wants : ℕ → Bool) (last : ℕ) (l : last < readers) where
  -- nobody is found exactly where nobody wants
  pub found-nobody : next_after wants last ≡ nobody → (n : ℕ) → n < readers → wants n ≡ false
  unfolding next_after
  found-nobody e n h = go (wants n) refl
    where
      at : (last + 1 + distance last n) % readers ≡ n
      at = omega arith

      go : (b : Bool) → wants n ≡ b → b ≡ false
      go true w =
          let d = found-by wants readers (last + 1) (distance last n) (omega arith) (ap wants at ∙ w) in
          let s : reader ((last + 1 + d.place) % readers) ≡ nobody = sym d.is ∙ e in
          absurd (let z : ◌≡◌ {A = ℕ} 0 1 = cc in omega arith)
      go false w = refl

  pub nobody-found : ((n : ℕ) → n < readers → wants n ≡ false) → next_after wants last ≡ nobody
  unfolding next_after
  nobody-found none = go (first_from wants readers (last + 1)) refl
    where
      go : (s : Served) → first_from wants readers (last + 1) ≡ s → s ≡ nobody
      go nobody e = refl
      go (reader n) e =
          let f = first-wants wants readers (last + 1) n e in
          let z : true ≡ false = sym f.1 ∙ none n f.0 in
          absurd (let y : ◌≡◌ {A = ℕ} 0 1 = cc in omega arith)

  -- a reader that wants is served, or another is, after which fewer are before it
  pub data Nearer (n : ℕ) : Type 0 where
    its-turn : next_after wants last ≡ reader n → Nearer n
    another : (m : ℕ) → next_after wants last ≡ reader m → m < readers → distance m n < distance last n → Nearer n

  pub nearer : (n : ℕ) → n < readers → wants n ≡ true → Nearer n
  unfolding next_after
  nearer n h w =
      let at : (last + 1 + distance last n) % readers ≡ n = omega arith in
      go at (found-by wants readers (last + 1) (distance last n) (omega arith) (ap wants at ∙ w))
    where
      go : (last + 1 + distance last n) % readers ≡ n → FoundBy wants readers (last + 1) (distance last n) → Nearer n
      go at d = by (eqb d.place (distance last n)) refl
        where
          by : (b : Bool) → eqb d.place (distance last n) ≡ b → Nearer n
          by true e = its-turn (d.is ∙ ap (λ i. reader ((last + 1 + i) % readers)) (eqb-true _ _ e) ∙ ap reader at)
          by false e =
              let less : d.place < distance last n = omega (arith, d.by, eqb-false d.place (distance last n) e) in
              another ((last + 1 + d.place) % readers) d.is (omega arith) (closer last n d.place l h less)
