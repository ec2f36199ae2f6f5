-- A part spelled into an area: where it goes on, and what is left. Assumes nothing.
use mathlib.Core.Path.{◌≡◌, sym, ap, ◌∙◌}
use mathlib.Core.List.{List}
use Prim.Native.Nat.{ℕ, ◌+◌, ◌-◌, ◌≤◌, ◌<◌, min}
use native.Mathlib.Omega.{arith}
use native.Mathlib.Decide.{dec_lt}
use lib.ListN.{length, take, drop, length-drop}
use lib.Seq.{paste}
use borrow.Author.Tests.{lt-ltb, le-ltb}
use Rattle.text.specs.Text.{Wrote}
use Rattle.listing.specs.Parts.{start_of, left_of, Spelled}
use Rattle.text.proofs.TextLaws.{wrote-front, front-end}

pub start-in : (t d : ℕ) → d < t → d ≡ start_of t d
unfolding start_of
start-in t d h = rw (lt-ltb d t h)

pub start-anew : (t d : ℕ) → t ≤ d → 0 ≡ start_of t d
unfolding start_of
start-anew t d h = rw (le-ltb d t h)

pub start-bound : (t d : ℕ) → start_of t d ≤ t
start-bound t d = elim (dec_lt d t) [ yes p ↦ omega (arith, start-in t d p) | no q ↦ omega (arith, start-anew t d (omega arith)) ]

-- a part's text t at the front of an area, and what is left of it copied
module _ {t l m : List ℕ} {e : ℕ} (p : Wrote t 0 e l m) (d f : ℕ) (g : f ≡ start_of e d) where
  end_is : e ≡ length t
  end_is = omega (arith, p.place)

  pub from-bound : f ≤ e
  from-bound = omega (arith, g, start-bound e d)

  from_is : f ≡ start_of (length t) d
  from_is = g ∙ ap (λ k. start_of k d) end_is

  left-size : length (left_of t d) ≡ e - f
  unfolding left_of
  left-size = length-drop (start_of (length t) d) t ∙ ap (λ k. length t - k) (sym from_is) ∙ ap (λ k. k - f) (sym end_is)

  pub count-bound : (n x : ℕ) → n ≡ min (length (take e m) - f) x → n ≤ e - f
  count-bound n x h = omega (arith, front-end p)

  pub spelled : (a n : ℕ) (o o' : List ℕ) → n ≡ min (length (take e m) - f) (length o - a) → o' ≡ paste o a (drop f (take e m)) n
      → Spelled t d a o o' (record { written = n; done = f + n; rest = e - f - n })
  unfolding left_of
  spelled a n o o' h k =
      record {
        count = h ∙ ap (λ x. min (length x - f) (length o - a)) (wrote-front p) ∙ ap (λ x. min x (length o - a)) (ap (λ x. x - f) (sym end_is) ∙ sym left-size);
        bytes = k ∙ ap (λ x. paste o a (drop f x) n) (wrote-front p) ∙ ap (λ x. paste o a (drop x t) n) from_is;
        done = ap (λ x. x + n) from_is;
        rest = ap (λ x. x - n) (sym left-size);
      }
