-- A direction of the next level, and that of the map. Assumes nothing.
use mathlib.Core.Path.{◌≡◌, refl}
use mathlib.Core.Logic.{◌⊎◌, inl, inr, ⊎_elim}
use Prim.Native.Nat.{ℕ, zero, suc, ◌+◌, ◌-◌, ◌*◌, ◌/◌, ◌%◌, ◌^◌, ◌≤◌, ◌<◌, min}
use native.Mathlib.Decide.{dec_lt}
use native.Mathlib.Nat.{mul_assoc, one-le-pow, mul-div-le, div-add-mod', mod-lt}
use native.Mathlib.Omega.{arith}
use mathlib.Core.Bool.{true}
use borrow.Author.Tests.{eq-eqb, ne_eqb, le-leb}
use Rattle.lifting.specs.Line.{lo}
use Rattle.lifting.specs.Grid.{side, count}
use Rattle.strokes.specs.Reach.{low_span}
use Rattle.strokes.specs.Local.{Lies, Placed, Ready, direction, changed_of, lowered_of, window_start, window_end, used_in}
use Rattle.strokes.specs.declared.direction.Direction.{Direction}
use Rattle.strokes.proofs.CoverLaws.{cut-next, cover-next}

pub lows-of : (n : ℕ) → n - n / 2 ≡ count lo (side 0 n)
unfolding count
lows-of n = omega arith

twice : (k m : ℕ) → 2 ^ suc k * m ≡ 2 * (2 ^ k * m)
twice k m = let e : 2 ^ suc k ≡ 2 * 2 ^ k = omega arith in rw e (mul_assoc 2 (2 ^ k) m)

module _ (u v k : ℕ) (d : Direction) (L : Lies u v (suc (suc k)) d) where
  pub lies-next : Lies u v (suc k) (lowered_of d)
  unfolding low_span
  lies-next =
      let a = L.aligned in
      let t = L.times in
      let e = twice (suc k) t in
      let f = twice k t in
      let n = lows-of d.length in
      let m = lows-of d.size in
      let q : 2 ^ suc (suc k) ≡ 2 * 2 ^ suc k = omega arith in
      let c = cut-next u v d.length d.start (d.start / 2) d.size (changed_of d) L.cut (d.start / 2 / 2) (omega arith) in
      let o = cover-next u v d.length d.start (d.start / 2) d.size (changed_of d) L.cut (2 ^ suc k) (rw q at L.cover) in
      let s : (d.last + 2) / 2 ≡ d.last / 2 + 1 = omega arith in
      let b = L.begins in
      let r = L.order in
      let l = L.long in
      let x = L.ends in
      record {
        times = t;
        aligned = omega arith;
        cut = rw (n, m) c;
        cover = rw m (rw s at o);
        begins = omega arith;
        order = omega arith;
        long = omega arith;
        ends = omega arith;
      }

-- ---- the places that are used: the low ones, and the high ones in reach
pub used_low : (d : Direction) (n : ℕ) → used_in d (2 * n) ≡ true
unfolding used_in
used_low d n = simp (eq-eqb (2 * n % 2) 0 (omega arith))

pub used_high : (d : Direction) (n : ℕ) → d.first ≤ d.start + (2 * n + 1) + 1 → d.start + (2 * n + 1) ≤ d.last + 1 → used_in d (2 * n + 1) ≡ true
unfolding used_in
used_high d n a b =
    simp (
      ne_eqb ((2 * n + 1) % 2) 0 (λ e. absurd (omega arith)),
      le-leb d.first (d.start + (2 * n + 1) + 1) a,
      le-leb (d.start + (2 * n + 1)) (d.last + 1) b,
    )

pub placed-next : (k : ℕ) (d : Direction) → Placed (suc (suc k)) d → Placed (suc k) (lowered_of d)
placed-next k d P = record { u = P.u; v = P.v; lies = lies-next P.u P.v k d P.lies }

pub ready : (k : ℕ) (d : Direction) → Placed k d → 1 ≤ k → Ready d
ready zero d P b = absurd (omega arith)
ready (suc k) d P b = record { more = k; placed = P }

-- ---- the map's direction: f is the first changed place of N, l the last, and q is 2 to the power of the levels left
module _ (N f l k : ℕ) (b : f < N) (o : f ≤ l) (c : l < N) (m : N < 2 ^ 32) where
  abbrev Q : ℕ
  Q = 2 ^ suc k

  abbrev a : ℕ
  a = window_start f Q

  abbrev e : ℕ
  e = window_end l Q

  abbrev w : ℕ
  w = min N e - a

  abbrev d : Direction
  d = direction N a w f l

  some : 2 ≤ Q
  some = let z : 2 ^ suc k ≡ 2 * 2 ^ k = omega arith in let o : 1 ≤ 2 ^ k = one-le-pow k 2 (omega arith) in omega arith

  -- the window ends far after the changed places
  end-far : l + 3 * Q ≤ e
  end-far =
      let m = l + Q - 2 in
      let z = div-add-mod' m Q in
      let lt : m % Q < Q = mod-lt m (omega (arith, some)) in
      let c : m / Q * Q ≡ Q * (m / Q) = omega arith in
      omega (arith, some)

  -- the window starts before the changed places: with the line, or far before them
  start_none : (f + 1) / Q ≤ 3 → a ≡ 0
  start_none e = let z : (f + 1) / Q - 3 ≡ 0 = omega arith in rw z (omega arith)

  start-far : a ≤ f × (3 < (f + 1) / Q → a + 3 * Q ≤ f + 1)
  start-far =
      let p = mul-div-le (f + 1) Q in
      elim (dec_lt 3 ((f + 1) / Q)) [
        | yes e ↦
            let n = (f + 1) / Q - 3 in
            let x : (f + 1) / Q ≡ n + 3 = omega arith in
            let y : Q * (n + 3) ≤ f + 1 = rw x at p in
            (omega (arith, some), λ _. omega arith)
        | no e ↦ let z = start_none (omega arith) in (omega arith, λ h. absurd (omega arith))
      ]

  even : a ≡ 2 * (a / 2)
  even = let e = twice k ((f + 1) / Q - 3) in omega arith

  placed : (v : ℕ) (u : ℕ) → ((v ≡ 0) × (a ≡ 0)) ⊎ ((v ≡ 2) × (3 < (f + 1) / Q)) → ((u ≡ 0) × (N ≤ e)) ⊎ ((u ≡ 2) × (e < N)) →
      Placed (suc k) d
  placed v u left right =
      let s = some in
      let far = start-far in
      let g = far.0 in
      let h = end-far in
      record {
        u = u;
        v = v;
        lies = record {
          times = (f + 1) / Q - 3;
          aligned = refl;
          cut = record {
            even = even;
            inside = omega arith;
            left = ⊎_elim (λ x. inl x) (λ x. inr x.0) left;
            right = ⊎_elim (λ x. inl (x.0, omega arith)) (λ x. inr x.0) right;
          };
          cover = record {
            times = (l + Q - 2) / Q + 3;
            left = ⊎_elim (λ x. inl x.0) (λ x. inr (far.1 x.1)) left;
            right = ⊎_elim (λ x. inl x.0) (λ x. inr (omega arith, omega arith)) right;
          };
          begins = b;
          order = o;
          long = omega arith;
          ends = omega arith;
        };
      }

  pub widened-placed : Placed (suc k) d
  widened-placed =
      elim (dec_lt 3 ((f + 1) / Q)) [
        | yes x ↦
            elim (dec_lt e N) [
              | yes y ↦ placed 2 2 (inr (refl, x)) (inr (refl, y))
              | no y ↦ placed 2 0 (inr (refl, x)) (inl (refl, omega arith))
            ]
        | no x ↦
            elim (dec_lt e N) [
              | yes y ↦ placed 0 2 (inl (refl, start_none (omega arith))) (inr (refl, y))
              | no y ↦ placed 0 0 (inl (refl, start_none (omega arith))) (inl (refl, omega arith))
            ]
      ]
