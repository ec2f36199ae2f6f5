-- The reader's steps in grid coordinates are those that the calls cite, for each filter and origin; and the set that makes a row is the least that brings all
-- that it or a row above it needs. Assumes nothing.
use mathlib.Core.Path.{◌≡◌, refl, sym, ap, ap₂, ◌∙◌, subst}
use mathlib.Core.Logic.{◌⊎◌, inl, inr}
use mathlib.Core.List.{List, [], ◌∷◌, ◌++◌}
use Prim.Native.Nat.{ℕ, zero, suc, ◌+◌, ◌-◌, ◌*◌, ◌/◌, ◌%◌, ◌≤◌, ◌<◌, min, max}
use native.Mathlib.Decide.{dec_lt, ℕ_discrete}
use native.Mathlib.Omega.{arith}
use lib.IntN.{ℤ, pos, nat_abs, ◌+ℤ◌, ◌-ℤ◌}
use lib.Dec.{leb}
use borrow.Author.Tests.{eq-eqb, ne_eqb, le-leb, lt-leb}
use Rattle.numbers.specs.Signal.{pick}
use Rattle.numbers.proofs.Integers.{each, lin, dif-nat_abs}
use Rattle.lifting.specs.Line.{lo}
use Rattle.lifting.specs.Grid.{Side}
use Rattle.wavelet.specs.Levels.{next}
use Rattle.wavelet.specs.Order.{in_turn, first_set}
use Rattle.wavelet.specs.Order as order
use Rattle.wavelet.specs.Steps.{Step, draw, feed_all, set_to, set_of, sets_before}
use Rattle.wavelet.specs.Steps as step
use Rattle.wavelet.proofs.OrderLaws.{turn-zero, turn_suc, turn-same, last-set, first-low, low-sets}
use Rattle.wavelet.proofs.SideLaws.{next_start, next-length}
use Rattle.wavelet.proofs.StepLaws.{to-first, to-later, set-of, set-one, set_there, set-rises, before-zero, before-suc}
use Rattle.filters.specs.Filters.{filter_of}
use Rattle.nine_seven.specs.NineSeven.{mirror}
use Rattle.standard.specs.Line.{Interval, over, mirrored, half_of}
use Rattle.standard.specs.WriterOrder.{between}
use Rattle.standard.specs.ReaderSteps.{even_reads, offsets, odd_reads, row_reads, last_set, made_with, first_asked, row_steps, set_steps, steps}
use Rattle.standard.specs.ReaderSteps.{Brought, none, also, LeastSet}
use Rattle.standard.proofs.Extension.{mirrored-is, mirror-in, mirror-below, mirror-near}
use Rattle.standard.proofs.LevelTheorems.{next-over}
use Rattle.standard.proofs.OrderTheorems.{set_is, ahead-some}

-- ---- the last set of some values is the least that brings them all
brought-more : (n m : ℕ) (ws : List ℕ) → n ≤ m → Brought n ws → Brought m ws
brought-more n m [] l none = none
brought-more n m (w ∷ ws) l (also h b) = also {w = w} (omega arith) (brought-more n m ws l b)

last-brings : (ws : List ℕ) → Brought (last_set ws) ws
unfolding last_set
last-brings [] = none
last-brings (w ∷ ws) = also {w = w} (omega arith) (brought-more (last_set ws) (max (w / 2) (last_set ws)) ws (omega arith) (last-brings ws))

last-least : (ws : List ℕ) (m : ℕ) → Brought m ws → last_set ws ≤ m
unfolding last_set
last-least [] m b = omega arith
last-least (w ∷ ws) m (also h b) = let i = last-least ws m b in omega arith

last-append : (u w : List ℕ) → last_set (u ++ w) ≡ max (last_set u) (last_set w)
unfolding last_set
last-append [] w = omega arith
last-append (x ∷ u) w = let i = last-append u w in omega arith

squeezed : (x y m : ℕ) → x ≤ m → y ≤ x → m ≤ y → x ≡ m
squeezed x y m i j k = omega arith

-- the largest of five numbers up to m, one of which is m
five-most : (a b c d e m : ℕ) → a ≤ m → b ≤ m → c ≤ m → d ≤ m → e ≤ m → (m ≤ e) ⊎ ((m ≤ b) ⊎ (m ≤ d)) → max a (max b (max c (max d (max e 0)))) ≡ m
five-most a b c d e m p q r s t h = go (inner (max d (max e 0)) (omega arith)) h
  where
    most : ℕ
    most = max a (max b (max c (max d (max e 0))))

    inner : (x : ℕ) → x ≤ m → (max a (max b (max c x)) ≤ m) × (x ≤ max a (max b (max c x))) × (b ≤ max a (max b (max c x)))
    inner x y = (omega arith, omega arith, omega arith)

    go : (most ≤ m) × (max d (max e 0) ≤ most) × (b ≤ most) → (m ≤ e) ⊎ ((m ≤ b) ⊎ (m ≤ d)) → most ≡ m
    go z (inl y) = squeezed most (max d (max e 0)) m z.0 z.1 (omega arith)
    go z (inr (inl y)) = squeezed most b m z.0 z.2 y
    go z (inr (inr y)) = squeezed most (max d (max e 0)) m z.0 z.1 (omega arith)

-- ---- the places that a row goes by
minus-abs : (a b : ℤ) → nat_abs (a -ℤ b) ≤ nat_abs a + nat_abs b
minus-abs = each _ λ a b. each _ λ c d. simp (lin, dif-nat_abs) (omega arith)

regroup : (a b c : ℤ) → a +ℤ b -ℤ c ≡ a +ℤ (b -ℤ c)
regroup = each _ λ a b. each _ λ c d. each _ λ e f. simp lin (omega arith)

module _ (S : Side) where
  abbrev s : ℕ
  s = S.start

  abbrev N : ℕ
  N = S.length

  before-near : (q k : ℕ) → q < N → (mirrored (over S) (pos (s + q) -ℤ pos k) ≤ s + q + k) × (mirrored (over S) (pos (s + q) -ℤ pos k) < s + N)
  before-near q k b =
      let e = ap (mirrored (over S)) (regroup (pos s) (pos q) (pos k)) ∙ mirrored-is S (pos q -ℤ pos k) in
      let l = mirror-below N (pos q -ℤ pos k) (omega arith) in
      let n = mirror-near N (pos q -ℤ pos k) in
      let m = minus-abs (pos q) (pos k) in
      (omega arith, omega arith)

  after-near : (q k : ℕ) → q < N → (mirrored (over S) (pos (s + q) +ℤ pos k) ≤ s + q + k) × (mirrored (over S) (pos (s + q) +ℤ pos k) < s + N)
  after-near q k b =
      let i : s + q + k ≡ s + (q + k) = omega arith in
      let e = ap (λ (j : ℕ). mirrored (over S) (pos j)) i ∙ mirrored-is S (pos (q + k)) in
      let l = mirror-below N (pos (q + k)) (omega arith) in
      let n = mirror-near N (pos (q + k)) in
      (omega arith, omega arith)

  after-there : (q k : ℕ) → q + k < N → mirrored (over S) (pos (s + q) +ℤ pos k) ≡ s + q + k
  after-there q k b =
      let i : s + q + k ≡ s + (q + k) = omega arith in
      ap (λ (j : ℕ). mirrored (over S) (pos j)) i ∙ mirrored-is S (pos (q + k)) ∙ ap (λ (j : ℕ). s + j) (mirror-in N (q + k) b) ∙ sym i

  from_start : (i : ℤ) → s ≤ mirrored (over S) i
  unfolding mirrored
  from_start i = omega arith

  -- what an even row goes by
  near_last : (q : ℕ) → q < N → (last_set (even_reads (over S) (s + q)) ≤ (s + q + 1) / 2) × (last_set (even_reads (over S) (s + q)) ≤ (s + N - 1) / 2)
      × ((s + q) / 2 ≤ last_set (even_reads (over S) (s + q)))
  unfolding even_reads last_set
  near_last q b = let x = before-near q 1 b in let y = after-near q 1 b in (omega arith, omega arith, omega arith)

  even-last : (q : ℕ) → q < N → (s + q) % 2 ≡ 0 → last_set (even_reads (over S) (s + q)) ≡ (s + q) / 2
  even-last q b e = let n = near_last q b in omega arith

  -- what an odd row goes by, k places off, k being odd
  there : (w : ℕ) → s ≤ w → w < s + N → (last_set (even_reads (over S) w) ≤ (w + 1) / 2) × (last_set (even_reads (over S) w) ≤ (s + N - 1) / 2)
      × (w / 2 ≤ last_set (even_reads (over S) w))
  there w l m =
      let e : s + (w - s) ≡ w = omega arith in
      subst (λ (w : ℕ). (last_set (even_reads (over S) w) ≤ (w + 1) / 2) × (last_set (even_reads (over S) w) ≤ (s + N - 1) / 2)
      × (w / 2 ≤ last_set (even_reads (over S) w))) e (near_last (w - s) (omega arith))

  module _ (q : ℕ) (b : q < N) (odd : (s + q) % 2 ≡ 1) (k : ℕ) (o : k % 2 ≡ 1) where
    abbrev left : ℕ
    left = last_set (even_reads (over S) (mirrored (over S) (pos (s + q) -ℤ pos k)))

    abbrev right : ℕ
    right = last_set (even_reads (over S) (mirrored (over S) (pos (s + q) +ℤ pos k)))

    left-most : (left ≤ (s + q + k) / 2) × (left ≤ (s + N - 1) / 2)
    left-most =
        let x = before-near q k b in
        let t = there _ (from_start (pos (s + q) -ℤ pos k)) x.1 in
        (omega arith, omega arith)

    right-most : (right ≤ (s + q + k) / 2) × (right ≤ (s + N - 1) / 2)
    right-most =
        let x = after-near q k b in
        let t = there _ (from_start (pos (s + q) +ℤ pos k)) x.1 in
        (omega arith, omega arith)

    right-least : q + k < N → (s + q + k) / 2 ≤ right
    right-least l =
        let e = after-there q k l in
        let t = there _ (from_start (pos (s + q) +ℤ pos k)) (omega arith) in
        omega arith

  -- its last set is that of the value farthest on, or the level's last
  abbrev last : ℕ
  last = (s + N - 1) / 2

  odd-five : (q : ℕ) → q < N → (s + q) % 2 ≡ 1 → last_set (odd_reads (1 ∷ []) (over S) (s + q)) ≡ min ((s + q + 1) / 2) last
  unfolding odd_reads last_set
  odd-five q b odd =
      let e = last-append (even_reads (over S) (mirrored (over S) (pos (s + q) -ℤ pos 1)))
      (even_reads (over S) (mirrored (over S) (pos (s + q) +ℤ pos 1)) ++ ((s + q) ∷ [])) in
      let d = last-append (even_reads (over S) (mirrored (over S) (pos (s + q) +ℤ pos 1))) ((s + q) ∷ []) in
      let l = left-most q b odd 1 refl in
      let r = right-most q b odd 1 refl in
      e ∙ ap (max (left q b odd 1 refl)) d
      ∙ elim (dec_lt (q + 1) N) [
        | yes g ↦ let t = right-least q b odd 1 refl g in omega arith
        | no g ↦ omega arith
      ]

  nine-most : (q : ℕ) (b : q < N) (odd : (s + q) % 2 ≡ 1) →
      max (left q b odd 1 refl) (max (right q b odd 1 refl) (max (left q b odd 3 refl) (max (right q b odd 3 refl) (max ((s + q) / 2) 0))))
      ≡ min ((s + q + 3) / 2) last
  nine-most q b odd =
      five-most (left q b odd 1 refl) (right q b odd 1 refl) (left q b odd 3 refl) (right q b odd 3 refl) ((s + q) / 2) (min ((s + q + 3) / 2) last)
      (let l = left-most q b odd 1 refl in omega arith)
      (let l = right-most q b odd 1 refl in omega arith)
      (let l = left-most q b odd 3 refl in omega arith)
      (let l = right-most q b odd 3 refl in omega arith)
      (omega arith)
      (elim (dec_lt (q + 3) N) [
        | yes g ↦ let t = right-least q b odd 3 refl g in inr (inr (omega arith))
        | no g ↦
            elim (dec_lt (q + 1) N) [
              | yes h ↦ let t = right-least q b odd 1 refl h in inr (inl (omega arith))
              | no h ↦ inl (omega arith)
            ]
      ])

  odd-nine : (q : ℕ) → q < N → (s + q) % 2 ≡ 1 → last_set (odd_reads (1 ∷ 3 ∷ []) (over S) (s + q)) ≡ min ((s + q + 3) / 2) last
  unfolding odd_reads last_set
  odd-nine q b odd =
      let u = odd_reads (3 ∷ []) (over S) (s + q) in
      let three = last-append (even_reads (over S) (mirrored (over S) (pos (s + q) -ℤ pos 3)))
      (even_reads (over S) (mirrored (over S) (pos (s + q) +ℤ pos 3)) ++ ((s + q) ∷ [])) in
      let four = last-append (even_reads (over S) (mirrored (over S) (pos (s + q) +ℤ pos 3))) ((s + q) ∷ []) in
      let one = last-append (even_reads (over S) (mirrored (over S) (pos (s + q) -ℤ pos 1)))
      (even_reads (over S) (mirrored (over S) (pos (s + q) +ℤ pos 1)) ++ u) in
      let two = last-append (even_reads (over S) (mirrored (over S) (pos (s + q) +ℤ pos 1))) u in
      one
      ∙ ap (max (left q b odd 1 refl)) (two ∙ ap (max (right q b odd 1 refl)) (three ∙ ap (max (left q b odd 3 refl)) four))
      ∙ nine-most q b odd

  -- the last set that row q of the level needs
  row-even : (f q : ℕ) → q < N → (s + q) % 2 ≡ 0 → last_set (row_reads f (over S) (s + q)) ≡ (s + q) / 2
  unfolding row_reads
  row-even f q b e = rw (eq-eqb ((s + q) % 2) 0 e) (even-last q b e)

  row-odd : (f q : ℕ) → q < N → (s + q) % 2 ≡ 1 → last_set (row_reads f (over S) (s + q)) ≡ min ((s + q + 2 * (filter_of f).ahead - 1) / 2) last
  unfolding row_reads offsets filter_of
  row-odd zero q b e =
      rw (ne_eqb ((s + q) % 2) 0 (omega arith)) (odd-five q b e ∙ ap (λ (i : ℕ). min (i / 2) last) (omega arith))
  row-odd (suc f) q b e =
      rw (ne_eqb ((s + q) % 2) 0 (omega arith)) (odd-nine q b e ∙ ap (λ (i : ℕ). min (i / 2) last) (omega arith))

pub row-of : (H : Side) (n : ℕ) → H.start % 2 ≤ n → (next H).start + (n - H.start % 2) ≡ H.start / 2 + n
row-of H n b = let e = next_start H in omega arith

-- ---- the set that makes a row
min-more : (n x y : ℕ) → min (n + x) (n + y) ≡ n + min x y
min-more n x y = omega arith

far-half : (s r q a : ℕ) → s % 2 + r ≡ suc q → (s + r) % 2 ≡ 1 → (s + r + 2 * a - 1) / 2 ≡ s / 2 + (q / 2 + a)
far-half s r q a z e = omega arith

module _ (f : ℕ) (H : Side) where
  abbrev a : ℕ
  a = (filter_of f).ahead

  abbrev first : ℕ
  first = H.start

  -- what rows 0 to r need
  abbrev reads : ℕ → List ℕ
  reads i = row_reads f (over H) (first + i)

  odd_set : (r : ℕ) → r < H.length → (first + r) % 2 ≡ 1 → last_set (reads r) ≡ first / 2 + set_of a H r
  odd_set r b e = go (first % 2 + r) refl
    where
      go : (q : ℕ) → first % 2 + r ≡ q → last_set (reads r) ≡ first / 2 + set_of a H r
      go zero z = absurd (omega arith)
      go (suc q) z =
          let t : set_to a (first % 2 + r) ≡ q / 2 + a = ap (set_to a) z ∙ to-later a q in
          row-odd H f r b e
          ∙ ap₂ min (far-half first r q a z e) (omega (arith, last-set H))
          ∙ min-more (first / 2) (q / 2 + a) (order.last_set H)
          ∙ ap (λ (n : ℕ). first / 2 + n) (sym (set-of a H r ∙ ap (λ (n : ℕ). min n (order.last_set H)) t))

  first-set : 0 < H.length → last_set (reads 0) ≡ first / 2 + set_of a H 0
  first-set b =
      elim (ℕ_discrete ((first + 0) % 2) 1) [
        | yes o ↦ odd_set 0 b o
        | no o ↦
            let z : first % 2 + 0 ≡ 0 = omega arith in
            let t : set_to a (first % 2 + 0) ≡ 0 = ap (set_to a) z ∙ to-first a in
            row-even H f 0 b (omega arith) ∙ omega (arith, set-of a H 0)
      ]

  next-set : (r : ℕ) → suc r < H.length → max (first / 2 + set_of a H r) (last_set (reads (suc r))) ≡ first / 2 + set_of a H (suc r)
  next-set r b =
      elim (ℕ_discrete ((first + suc r) % 2) 1) [
        | yes o ↦ let e = odd_set (suc r) b o in let m = set-rises a H r in omega arith
        | no o ↦ go (first % 2 + r) refl (row-even H f (suc r) b (omega arith)) (omega arith)
      ]
    where
      go : (q : ℕ) → first % 2 + r ≡ q → last_set (reads (suc r)) ≡ (first + suc r) / 2 → (first + suc r) % 2 ≡ 0
          → max (first / 2 + set_of a H r) (last_set (reads (suc r))) ≡ first / 2 + set_of a H (suc r)
      go zero z e o = absurd (omega arith)
      go (suc q) z e o =
          let t : set_to a (first % 2 + r) ≡ q / 2 + a = ap (set_to a) z ∙ to-later a q in
          let n : first % 2 + suc r ≡ suc (suc q) = omega arith in
          let u : set_to a (first % 2 + suc r) ≡ suc q / 2 + a = ap (set_to a) n ∙ to-later a (suc q) in
          let l = ahead-some f in
          let x = set-of a H r in
          let y = set-of a H (suc r) in
          let m = last-set H in
          let same : set_of a H (suc r) ≡ set_of a H r = omega arith in
          let low : (first + suc r) / 2 ≤ first / 2 + set_of a H r = omega arith in
          omega arith

  made-with : (r : ℕ) → r < H.length → last_set (in_turn (suc r) reads) ≡ first / 2 + set_of a H r
  made-with zero b =
      ap last_set (turn_suc 0 reads ∙ ap (λ (t : List ℕ). t ++ reads 0) (turn-zero reads)) ∙ first-set b
  made-with (suc r) b =
      ap last_set (turn_suc (suc r) reads)
      ∙ last-append (in_turn (suc r) reads) (reads (suc r))
      ∙ ap (λ (n : ℕ). max n (last_set (reads (suc r)))) (made-with r (omega arith))
      ∙ next-set r b

  -- in grid coordinates
  pub made-is : (r : ℕ) → r < H.length → made_with f (over H) (first + r) ≡ first / 2 + set_of a H r
  unfolding made_with between
  made-is r b =
      let e : first + r + 1 - first ≡ suc r = omega arith in
      ap (λ (n : ℕ). last_set (in_turn n reads)) e ∙ made-with r b

  -- it is the least set that brings all that the row, or any row above it, needs
  pub least-set : (r : ℕ) → r < H.length → LeastSet (between first (first + r + 1) (row_reads f (over H))) (first / 2 + set_of a H r)
  least-set r b =
      let ws = between first (first + r + 1) (row_reads f (over H)) in
      let e : last_set ws ≡ first / 2 + set_of a H r = unfold made_with in made-is r b in
      subst (LeastSet ws) e (record { brings = last-brings ws; least = last-least ws })

  -- ---- the steps of a row
  asked_is : (r : ℕ) → r < H.length → first_asked f (over H) (first + r) ≡ first / 2 + sets_before a H r
  unfolding first_asked
  asked_is zero b = rw (eq-eqb (first + 0) first (omega arith), before-zero a H) (omega arith)
  asked_is (suc r) b =
      let e : first + suc r - 1 ≡ first + r = omega arith in
      rw (ne_eqb (first + suc r) first (λ z. omega arith), e, made-is r (omega arith), before-suc a H r) (omega arith)

  pub row-steps-is : {A : Type 0} (set set' : ℕ → List A) → ((n : ℕ) → n ≤ order.last_set H → set n ≡ set' (first / 2 + n)) → (r : ℕ) → r < H.length
      → in_turn (sets_before a H (suc r) - sets_before a H r) (λ i. set (sets_before a H r + i)) ≡ row_steps f (over H) set' (first + r)
  unfolding row_steps between
  row-steps-is set set' same r b =
      let x = asked_is r b in
      let y = made-is r b in
      let z = before-suc a H r in
      let n : sets_before a H (suc r) - sets_before a H r ≡ made_with f (over H) (first + r) + 1 - first_asked f (over H) (first + r) = omega arith in
      turn-same _ _ (λ i. set' (first_asked f (over H) (first + r) + i))
      (λ i c.
      let t = set_there a H r in
      let d : first / 2 + (sets_before a H r + i) ≡ first_asked f (over H) (first + r) + i = omega arith in
      same (sets_before a H r + i) (omega arith) ∙ ap set' d)
      ∙ ap (λ (k : ℕ). in_turn k (λ i. set' (first_asked f (over H) (first + r) + i))) n

-- ---- the steps of a set
module _ (f : ℕ) where
  abbrev ahead : ℕ
  ahead = (filter_of f).ahead

  -- its LL row, given what the sets of the next level ask for
  pub low-steps : {A : Type 0} (H : Side) → 0 < H.length → (n : ℕ) → n ≤ order.last_set H → (set set' : ℕ → List A)
      → (0 < (next H).length → (m : ℕ) → m ≤ order.last_set (next H) → set m ≡ set' ((next H).start / 2 + m))
      → pick (leb (first_set H lo) n)
      (in_turn (sets_before ahead (next H) (suc (n - first_set H lo)) - sets_before ahead (next H) (n - first_set H lo))
      (λ i. set (sets_before ahead (next H) (n - first_set H lo) + i))) []
      ≡ pick (leb H.start (2 * (H.start / 2 + n))) (row_steps f (half_of lo (over H)) set' (H.start / 2 + n)) []
  unfolding first_set
  low-steps H b n c set set' same =
      elim (dec_lt n (H.start % 2)) [
        | yes d ↦ simp (lt-leb (H.start % 2) n d, lt-leb H.start (2 * (H.start / 2 + n)) (omega arith))
        | no d ↦
            let there : n - H.start % 2 < (next H).length = omega (arith, low-sets H b, first-low H, next-length H) in
            simp (le-leb (H.start % 2) n (omega arith), le-leb H.start (2 * (H.start / 2 + n)) (omega arith))
            (row-steps-is f (next H) set set' (same (omega arith)) (n - H.start % 2) there
            ∙ ap₂ (λ (I : Interval) (v : ℕ). row_steps f I set' v) (next-over H) (row-of H n (omega arith)))
      ]

  set-steps-is : (l k : ℕ) (W H : Side) → 0 < H.length → (n : ℕ) → n ≤ order.last_set H
      → step.set_steps ahead l k W H n ≡ set_steps f l k (over W) (over H) (H.start / 2 + n)
  unfolding step.set_steps step.row_steps set_steps
  set-steps-is zero k W H b n c = ap feed_all (set_is H n zero k W)
  set-steps-is (suc l) k W H b n c =
      ap₂ ◌++◌
      (low-steps H b n c (step.set_steps ahead l (suc k) (next W) (next H)) (set_steps f l (suc k) (half_of lo (over W)) (half_of lo (over H)))
      (λ g m e.
      set-steps-is l (suc k) (next W) (next H) g m e
      ∙ ap₂ (λ (I J : Interval). set_steps f l (suc k) I J ((next H).start / 2 + m)) (next-over W) (next-over H)))
      (ap feed_all (set_is H n (suc l) k W))

  -- ---- all of them
  pub reader-steps : (W H : Side) (L : ℕ) → step.steps ahead W H L ≡ steps f (over W) (over H) L
  unfolding step.steps step.row_steps steps between
  reader-steps W H L =
      let e : H.length ≡ H.start + H.length - H.start = omega arith in
      turn-same H.length _ (λ r. row_steps f (over H) (set_steps f (L - 1) 1 (over W) (over H)) (H.start + r) ++ (draw (H.start + r - H.start) ∷ []))
      (λ r b.
      let d : r ≡ H.start + r - H.start = omega arith in
      ap₂ (λ (t : List Step) (i : ℕ). t ++ (draw i ∷ []))
      (row-steps-is f H (step.set_steps ahead (L - 1) 1 W H) (set_steps f (L - 1) 1 (over W) (over H))
      (λ n c. set-steps-is (L - 1) 1 W H (omega arith) n c) r b) d)
      ∙ ap (λ (n : ℕ). in_turn n (λ i. row_steps f (over H) (set_steps f (L - 1) 1 (over W) (over H)) (H.start + i) ++ (draw (H.start + i - H.start) ∷ []))) e

-- ---- in 01's own sentence: "A complete set makes rows 2n−1 and 2n; .. the last set of an even height also makes the last row." Row v is made by the set n
-- with v = 2n − 1 or v = 2n; the last row, at an odd coordinate, by the level's last set.
pub five-three-makes : (H : Side) (r : ℕ) → r < H.length → made_with 0 (over H) (H.start + r) ≡ min ((H.start + r + 1) / 2) ((H.start + H.length - 1) / 2)
unfolding filter_of
five-three-makes H r b =
    made-is 0 H r b
    ∙ ap (λ (n : ℕ). H.start / 2 + n) (set-one H r)
    ∙ sym (min-more (H.start / 2) ((H.start % 2 + r + 1) / 2) (order.last_set H))
    ∙ ap₂ min (omega arith) (omega (arith, last-set H))
