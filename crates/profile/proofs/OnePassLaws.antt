-- The values carried are the four passes' own: one turn makes those of the next pair, and with them the pair's samples are done.
-- Assumes nothing.
use mathlib.Core.Path.{◌≡◌, refl, sym, ap, ◌∙◌}
use Prim.Native.Nat.{ℕ, ◌+◌, ◌%◌, ◌<◌}
use native.Mathlib.Omega.{arith}
use native.Mathlib.Decide.{dec_lt}
use lib.Ieee.{Float}
use Rattle.profile.specs.Profile.{before, after, pass, lifted, alpha, beta, gamma, delta, four_passes}
use Rattle.profile.specs.OnePass.{next_even, next_first, turned, turned_at, opened, low}
use Rattle.profile.specs.declared.carry.Carried.{Carried}
use Rattle.profile.proofs.PassLaws.{below, not-below, before-is, before-first, after_is, after_last, lifts, leaves}

pub lifted-of : (c : Float) {l l' x x' r r' : Float} → l ≡ l' → x ≡ x' → r ≡ r' → lifted c l x r ≡ lifted c l' x' r'
lifted-of c e f g = cc

module _ (n : ℕ) (x : ℕ → Float) where
  -- the row after one, two and three passes
  abbrev pub one : ℕ → Float
  one = pass 1 alpha n x

  abbrev pub two : ℕ → Float
  two = pass 0 beta n one

  abbrev pub three : ℕ → Float
  three = pass 1 gamma n two

  -- before the pair at p, all but the third value
  pub record Half (p : ℕ) (s : Carried) : Type 0 where
    pub even_is : s.even ≡ x (after n (p + 1))
    pub first-is : s.first ≡ one (p + 1)
    pub second_is : s.second ≡ two p

  pub record Carries (p : ℕ) (s : Carried) : Type 0 where
    pub half : Half p s
    pub third-is : s.third ≡ three (before p)

  -- a turn at p, mirrored where the row ends
  module _ (p : ℕ) (s : Carried) (parity : p % 2 ≡ 0) (inside : p + 1 < n) (h : Half p s) where
    abbrev next : Carried
    next = turned_at n x p s

    -- sample p + 2 is in the row
    even-inside : p + 2 < n → s.even ≡ x (p + 2)
    even-inside g = h.even_is ∙ ap x (after_is n (p + 1) (p + 2) (omega arith) g)

    next-even : p + 3 < n → next_even n x p s ≡ x (after n (p + 3))
    next-even g =
        elim (dec_lt (p + 4) n) [
          | yes q ↦ below (p + 4) n _ _ q ∙ ap x (sym (after_is n (p + 3) (p + 4) (omega arith) q))
          | no q ↦ not-below (p + 4) n _ _ (omega arith) ∙ even-inside (omega arith) ∙ ap x (sym (after_last n (p + 3) (p + 2) (omega arith) (omega arith)))
        ]

    first-inside : p + 3 < n → next.first ≡ one (p + 3)
    first-inside g =
        below (p + 3) n _ _ g
        ∙ lifted-of alpha (even-inside (omega arith) ∙ ap x (sym (before-is (p + 3) (p + 2) (omega arith)))) refl (next-even g)
        ∙ sym (lifts 1 alpha n x (p + 3) (omega arith))

    first_next : p + 2 < n → next.first ≡ one (after n (p + 2))
    first_next g =
        elim (dec_lt (p + 3) n) [
          | yes q ↦ first-inside q ∙ ap one (sym (after_is n (p + 2) (p + 3) (omega arith) q))
          | no q ↦ not-below (p + 3) n _ _ (omega arith) ∙ h.first-is ∙ ap one (sym (after_last n (p + 2) (p + 1) (omega arith) (omega arith)))
        ]

    second-inside : p + 2 < n → next.second ≡ two (p + 2)
    second-inside g =
        below (p + 2) n _ _ g
        ∙ lifted-of beta
        (h.first-is ∙ ap one (sym (before-is (p + 2) (p + 1) (omega arith))))
        (even-inside g ∙ sym (leaves 1 alpha n x (p + 2) (omega arith)))
        (first_next g)
        ∙ sym (lifts 0 beta n one (p + 2) (omega arith))

    second-next : next.second ≡ two (after n (p + 1))
    second-next =
        elim (dec_lt (p + 2) n) [
          | yes q ↦ second-inside q ∙ ap two (sym (after_is n (p + 1) (p + 2) (omega arith) q))
          | no q ↦ not-below (p + 2) n _ _ (omega arith) ∙ h.second_is ∙ ap two (sym (after_last n (p + 1) p refl (omega arith)))
        ]

    pub third-next : next.third ≡ three (p + 1)
    third-next =
        lifted-of gamma (h.second_is ∙ ap two (sym (before-is (p + 1) p refl))) (h.first-is ∙ sym (leaves 0 beta n one (p + 1) (omega arith))) second-next
        ∙ sym (lifts 1 gamma n two (p + 1) (omega arith))

    -- the next pair is in the row
    pub half-next : p + 3 < n → Half (p + 2) next
    half-next g =
        record {
          even_is = next-even g ∙ ap (λ (i : ℕ). x (after n i)) (omega arith);
          first-is = first-inside g ∙ ap one (omega arith);
          second_is = second-inside (omega arith);
        }

    -- one sample is left
    pub last-low : n ≡ p + 3 → low next next.third ≡ four_passes n x (p + 2)
    unfolding four_passes
    last-low e =
        lifted-of delta
        (third-next ∙ ap three (sym (before-is (p + 2) (p + 1) (omega arith))))
        (second-inside (omega arith) ∙ sym (leaves 1 gamma n two (p + 2) (omega arith)))
        (third-next ∙ ap three (sym (after_last n (p + 2) (p + 1) (omega arith) (omega arith))))
        ∙ sym (lifts 0 delta n three (p + 2) (omega arith))

  -- the turn with all it carries
  module _ (p : ℕ) (s : Carried) (parity : p % 2 ≡ 0) (inside : p + 1 < n) (h : Carries p s) where
    pub carries-next : p + 3 < n → Carries (p + 2) (turned_at n x p s)
    carries-next g =
        record {
          half = half-next p s parity inside h.half g;
          third-is = third-next p s parity inside h.half ∙ ap three (sym (before-is (p + 2) (p + 1) (omega arith)));
        }

    -- the pair's samples are done
    pub low-done : low s (turned_at n x p s).third ≡ four_passes n x p
    unfolding four_passes
    low-done =
        lifted-of delta
        h.third-is
        (h.half.second_is ∙ sym (leaves 1 gamma n two p (omega arith)))
        (third-next p s parity inside h.half ∙ ap three (sym (after_is n p (p + 1) refl inside)))
        ∙ sym (lifts 0 delta n three p parity)

    pub high-done : (turned_at n x p s).third ≡ four_passes n x (p + 1)
    unfolding four_passes
    high-done = third-next p s parity inside h.half ∙ sym (leaves 0 delta n three (p + 1) (omega arith))

  -- the plain turn, where the row goes on
  pub turned-inside : (p : ℕ) (s : Carried) → p + 4 < n → turned_at n x p s ≡ turned s (x (p + 3)) (x (p + 4))
  turned-inside p s g =
      let e : next_even n x p s ≡ x (p + 4) = below (p + 4) n _ _ g in
      let f : next_first n x p s (next_even n x p s) ≡ lifted alpha s.even (x (p + 3)) (next_even n x p s) = below (p + 3) n _ _ (omega arith) in
      let k : (turned_at n x p s).second ≡ lifted beta s.first s.even (turned_at n x p s).first = below (p + 2) n _ _ (omega arith) in
      cc

  -- before the first pair
  module _ (g : 1 < n) where
    opened-even : (opened n x).even ≡ x (after n 1)
    opened-even =
        elim (dec_lt 2 n) [
          | yes q ↦ below 2 n _ _ q ∙ ap x (sym (after_is n 1 2 refl q))
          | no q ↦ not-below 2 n _ _ (omega arith) ∙ ap x (sym (after_last n 1 0 refl (omega arith)))
        ]

    opened-first : (opened n x).first ≡ one 1
    opened-first = lifted-of alpha (ap x (sym (before-is 1 0 refl))) refl opened-even ∙ sym (lifts 1 alpha n x 1 refl)

    opened-second : (opened n x).second ≡ two 0
    opened-second =
        lifted-of beta
        (opened-first ∙ ap one (sym before-first))
        (sym (leaves 1 alpha n x 0 (omega arith)))
        (opened-first ∙ ap one (sym (after_is n 0 1 refl g)))
        ∙ sym (lifts 0 beta n one 0 refl)

    opened-half : Half 0 (opened n x)
    opened-half = record { even_is = opened-even; first-is = opened-first; second_is = opened-second }

    pub opened-carries : Carries 0 (opened n x)
    opened-carries = record { half = opened-half; third-is = third-next 0 _ refl g opened-half ∙ ap three (sym before-first) }
