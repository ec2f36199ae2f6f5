-- The plane rounded place by place: what is rounded is all but the low-low values of the last level, and each kept band row is rounded as its band is.
--     rounded-places    row r of band b of level k is rounded where `band_rounded` says, at the places that the view gives it
--     nearest           a value rounded is a multiple of the step, toward zero, and less than the step away
-- Assumes nothing.
use mathlib.Core.Path.{◌≡◌, refl, sym, ap, ap₂, ◌∙◌}
use mathlib.Core.List.{List}
use mathlib.Core.Bool.{Bool, true, false}
use Prim.Native.Nat.{ℕ, zero, suc, ◌+◌, ◌-◌, ◌*◌, ◌≤◌, ◌<◌}
use native.Mathlib.Nat.{mul-le-mul_right}
use native.Mathlib.Decide.{dec_lt}
use native.Mathlib.Omega.{arith}
use lib.Dec.{ltb}
use lib.IntN.{ℤ}
use lib.ListN.{length}
use borrow.Author.Tests.{lt-ltb, le-ltb, le-leb, lt-leb}
use Rattle.numbers.specs.Signal.{at, pick, both}
use Rattle.numbers.proofs.Sweep.{Swept, start, finish}
use Rattle.lifting.specs.Line.{lo}
use Rattle.lifting.specs.Grid.{Side, side, count}
use Rattle.lifting.specs.Halves.{fronted}
use Rattle.wavelet.specs.Bands.{Grid}
use Rattle.wavelet.specs.Levels.{next, side_at}
use Rattle.wavelet.specs.Plane.{in_corner, cells}
use Rattle.wavelet.proofs.SideLaws.{size-zero, size-inner, size-le, next-length}
use Rattle.wavelet.proofs.GridLaws.{flat-at}
use Rattle.rounding.specs.Rounding.{toward_zero, rounded_cell, rounded_plane}
use Rattle.areas.proofs.AreaLaws.{front_at, front_rest}
use Rattle.rounding.specs.Step.{Divides, rounded_from}
use Rattle.rounding.specs.declared.step.Reciprocal.{Reciprocal}

-- ---- a stretch
module _ (q a b : ℕ) (x : ℕ → ℤ) (j : ℕ) where
  pub from-before : j < a → rounded_from q a b x j ≡ x j
  unfolding rounded_from
  from-before h = rw (lt-leb a j h)

  pub from_at : a ≤ j → j < b → rounded_from q a b x j ≡ toward_zero q (x j)
  unfolding rounded_from
  from_at h g = simp (le-leb a j h, lt-ltb j b g)

  pub from_past : b ≤ j → rounded_from q a b x j ≡ x j
  unfolding rounded_from
  from_past h = elim (dec_lt j a) [ yes p ↦ rw (lt-leb a j p) | no d ↦ simp (le-leb a j (omega arith), le-ltb j b h) ]

-- ---- the low-low corner of the last level
corner-in : (W H : Side) (r c : ℕ) → r < count lo H → c < count lo W → in_corner W H r c ≡ true
unfolding in_corner
corner-in W H r c p q = simp (lt-ltb r (count lo H) p, lt-ltb c (count lo W) q)

rows_out : (W H : Side) (r c : ℕ) → count lo H ≤ r → in_corner W H r c ≡ false
unfolding in_corner
rows_out W H r c p = simp (le-ltb r (count lo H) p)

columns-out : (W H : Side) (r c : ℕ) → r < count lo H → count lo W ≤ c → in_corner W H r c ≡ false
unfolding in_corner
columns-out W H r c p q = simp (lt-ltb r (count lo H) p, le-ltb c (count lo W) q)

-- is it a low-low value of the last of L levels?
unfoldable pub in_last : ℕ → Side → Side → ℕ → ℕ → Bool
in_last L W H r c = both (ltb r (side_at L H).length) (ltb c (side_at L W).length)

pub corner : (L : ℕ) (W H : Side) (q : ℕ) (x : Grid) (r c : ℕ) → r < H.length → c < W.length →
    rounded_cell L W H q x r c ≡ pick (in_last L W H r c) (x r c) (toward_zero q (x r c))
unfolding rounded_cell in_last
corner zero W H q x r c p s = simp (size-zero H, size-zero W, lt-ltb r H.length p, lt-ltb c W.length s)
corner (suc L) W H q x r c p s =
    elim (dec_lt r (count lo H)) [
      | yes a ↦ elim (dec_lt c (count lo W)) [
        | yes b ↦
            simp (corner-in W H r c a b, size-inner L H, size-inner L W)
            (corner L (next W) (next H) q x r c (omega (arith, next-length H)) (omega (arith, next-length W)))
        | no b ↦
            let out : (side_at (suc L) W).length ≤ c = omega (arith, ap (λ (S : Side). S.length) (size-inner L W), size-le L (next W), next-length W) in
            simp (columns-out W H r c a (omega arith), le-ltb c (side_at (suc L) W).length out) (sym (either (ltb r (side_at (suc L) H).length) _ _))
      ]
      | no a ↦
          let out : (side_at (suc L) H).length ≤ r = omega (arith, ap (λ (S : Side). S.length) (size-inner L H), size-le L (next H), next-length H) in
          simp (rows_out W H r c (omega arith), le-ltb r (side_at (suc L) H).length out)
    ]
  where
    either : (t : Bool) (v w : ℤ) → pick (pick t false false) v w ≡ w
    either true v w = refl
    either false v w = refl

-- ---- the rows of the plane
-- what is to stand at row r and column c
module _ (L W H q : ℕ) (x : ℕ → ℤ) where
  abbrev pub made : ℕ → ℤ
  made = fronted (W * H) (rounded_plane L W H q x) x

  pub made_at : (r c : ℕ) → r < H → c < W → made (r * W + c) ≡
      pick (in_last L (side 0 W) (side 0 H) r c) (x (r * W + c)) (toward_zero q (x (r * W + c)))
  unfolding rounded_plane cells
  made_at r c p s =
      front_at (W * H) (rounded_plane L W H q x) x (r * W + c) (omega (arith, mul-le-mul_right W p))
      ∙ flat-at W (rounded_cell L (side 0 W) (side 0 H) q (cells W x)) r c s
      ∙ corner L (side 0 W) (side 0 H) q (cells W x) r c p s

none : (t : Bool) → pick t false false ≡ false
none true = refl
none false = refl

-- the loop over the rows: q is the step's reciprocal, low and top are the sides of the last level, r rows are done
pub record Rounded (x : List ℤ) (W H L s : ℕ) (q : Reciprocal) (low top r : ℕ) (l : List ℤ) : Type 0 where
  pub room : W * H ≤ length x
  pub divides : Divides q
  pub step_is : q.step ≡ s
  pub low-is : low ≡ (side_at L (side 0 W)).length
  pub top-is : top ≡ (side_at L (side 0 H)).length
  pub rows : r ≤ H
  pub swept : Swept (length x) (made L W H s (at x)) (at x) (r * W) l

-- where a row's values begin
abbrev first : ℕ → ℕ → ℕ → ℕ
first r low top = pick (ltb r top) low 0

pub rounded-start : (x : List ℤ) (W H L s : ℕ) (q : Reciprocal) (low top : ℕ) → W * H ≤ length x → Divides q → q.step ≡ s →
    low ≡ (side_at L (side 0 W)).length → top ≡ (side_at L (side 0 H)).length → Rounded x W H L s q low top 0 x
rounded-start x W H L s q low top room d e a b = record {
  room = room;
  divides = d;
  step_is = e;
  low-is = a;
  top-is = b;
  rows = omega arith;
  swept = start x (made L W H s (at x)) (0 * W) (λ j lt. absurd (omega arith));
}

module _ {x : List ℤ} {W H L s : ℕ} {q : Reciprocal} {low top r : ℕ} {l : List ℤ} (i : Rounded x W H L s q low top r l) where
  -- the places of the row
  pub row_room : r < H → (r * W + W ≤ length x) × (first r low top ≤ W)
  row_room p = (
    omega (arith, mul-le-mul_right W p, i.room),
    elim (dec_lt r top) [
      | yes a ↦ rw (lt-ltb r top a) (omega (arith, i.low-is, size-le L (side 0 W)))
      | no a ↦ rw (le-ltb r top (omega arith)) (omega arith)
    ],
  )

  inside : (c : ℕ) → r < top → c < low → in_last L (side 0 W) (side 0 H) r c ≡ true
  unfolding in_last
  inside c a d = simp (lt-ltb r (side_at L (side 0 H)).length (omega (arith, i.top-is)), lt-ltb c (side_at L (side 0 W)).length (omega (arith, i.low-is)))

  under : (c : ℕ) → top ≤ r → in_last L (side 0 W) (side 0 H) r c ≡ false
  unfolding in_last
  under c a = simp (le-ltb r (side_at L (side 0 H)).length (omega (arith, i.top-is)))

  beside : (c : ℕ) → low ≤ c → in_last L (side 0 W) (side 0 H) r c ≡ false
  unfolding in_last
  beside c a = simp (le-ltb c (side_at L (side 0 W)).length (omega (arith, i.low-is))) (none (ltb r (side_at L (side 0 H)).length))

  module _ (p : r < H) (l' : List ℤ) (k : ℕ) (begins : k ≡ first r low top) (kept : length l' ≡ length l)
      (is : at l' ≡ rounded_from q.step (r * W + k) (r * W + W) (at l)) where
    old : (j : ℕ) → at l' j ≡ rounded_from q.step (r * W + k) (r * W + W) (at l) j
    old j = ap (λ (f : ℕ → ℤ). f j) is

    row_is : (c : ℕ) → c < W → at l' (r * W + c) ≡ made L W H s (at x) (r * W + c)
    row_is c b =
        let v = i.swept.rest (r * W + c) (omega arith) in
        let goal = sym (made_at L W H s (at x) r c p b) in
        elim (dec_lt r top) [
          | yes a ↦ elim (dec_lt c low) [
            | yes d ↦
                let f : k ≡ low = begins ∙ rw (lt-ltb r top a) in
                old (r * W + c) ∙ from-before q.step _ _ (at l) (r * W + c) (omega arith) ∙ v
                ∙ sym (ap (λ (t : Bool). pick t (at x (r * W + c)) (toward_zero s (at x (r * W + c)))) (inside c a d)) ∙ goal
            | no d ↦
                let f : k ≡ low = begins ∙ rw (lt-ltb r top a) in
                old (r * W + c) ∙ from_at q.step _ _ (at l) (r * W + c) (omega arith) (omega arith) ∙ ap₂ toward_zero i.step_is v
                ∙ sym (ap (λ (t : Bool). pick t (at x (r * W + c)) (toward_zero s (at x (r * W + c)))) (beside c (omega arith))) ∙ goal
          ]
          | no a ↦
              let f : k ≡ 0 = begins ∙ rw (le-ltb r top (omega arith)) in
              old (r * W + c) ∙ from_at q.step _ _ (at l) (r * W + c) (omega arith) (omega arith) ∙ ap₂ toward_zero i.step_is v
              ∙ sym (ap (λ (t : Bool). pick t (at x (r * W + c)) (toward_zero s (at x (r * W + c)))) (under c (omega arith))) ∙ goal
        ]

    pub rounded-turn : Rounded x W H L s q low top (r + 1) l'
    rounded-turn = record {
      room = i.room;
      divides = i.divides;
      step_is = i.step_is;
      low-is = i.low-is;
      top-is = i.top-is;
      rows = omega arith;
      swept = record {
        size = kept ∙ i.swept.size;
        done = λ j lt. elim (dec_lt j (r * W)) [
          | yes b ↦ old j ∙ from-before q.step _ _ (at l) j (omega arith) ∙ i.swept.done j b
          | no b ↦
              let e : r * W + (j - r * W) ≡ j = omega arith in
              sym (ap (at l') e) ∙ row_is (j - r * W) (omega arith) ∙ ap (made L W H s (at x)) e
        ];
        rest = λ j le. old j ∙ from_past q.step _ _ (at l) j (omega arith) ∙ i.swept.rest j (omega arith);
      };
    }

  pub rounded-end : H ≤ r → at l ≡ made L W H s (at x)
  rounded-end h = finish i.swept (λ j le. front_rest (W * H) _ (at x) j (omega (arith, mul-le-mul_right W h)))
