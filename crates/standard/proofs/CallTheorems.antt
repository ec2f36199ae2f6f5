-- The calls of the schedule are the reader's steps. Assumes nothing.
use mathlib.Core.Path.{◌≡◌, refl, ap, ap₂, ◌∙◌}
use mathlib.Core.Bool.{Bool, true, false}
use mathlib.Core.List.{List, [], ◌∷◌, ◌++◌, append-nil}
use Prim.Native.Nat.{ℕ, zero, suc, ◌+◌, ◌-◌, ◌*◌}
use lib.Dec.{leb}
use Rattle.numbers.specs.Signal.{pick}
use Rattle.lifting.specs.Line.{lo}
use Rattle.wavelet.specs.Order.{in_turn}
use Rattle.wavelet.specs.Steps.{Step, draw, feed_all}
use Rattle.standard.specs.Line.{Interval, half_of}
use Rattle.standard.specs.WriterOrder.{between, waiting}
use Rattle.standard.specs.ReaderSteps.{row_steps, set_steps, steps}
use Rattle.standard.specs.Schedule.{Action, call, works, calls, set_schedule, schedule, calls_of}

calls-append : (s t : List Action) → calls_of (s ++ t) ≡ calls_of s ++ calls_of t
unfolding calls_of
calls-append [] t = refl
calls-append (call x ∷ s) t = ap (λ (l : List Step). x ∷ l) (calls-append s t)
calls-append (works k n ∷ s) t = calls-append s t

calls_back : (t : List Step) → calls_of (calls t) ≡ t
unfolding calls calls_of
calls_back [] = refl
calls_back (x ∷ t) = ap (λ (l : List Step). x ∷ l) (calls_back t)

calls-turn : (n : ℕ) (g : ℕ → List Action) (h : ℕ → List Step) → ((i : ℕ) → calls_of (g i) ≡ h i) → calls_of (in_turn n g) ≡ in_turn n h
unfolding in_turn calls_of
calls-turn zero g h e = refl
calls-turn (suc n) g h e = calls-append (in_turn n g) (g n) ∙ ap₂ ◌++◌ (calls-turn n g h e) (e n)

calls-row : (f : ℕ) (H : Interval) (g : ℕ → List Action) (h : ℕ → List Step) → ((i : ℕ) → calls_of (g i) ≡ h i) → (v : ℕ)
    → calls_of (row_steps f H g v) ≡ row_steps f H h v
unfolding row_steps between
calls-row f H g h e v = calls-turn _ _ _ (λ i. e _)

calls-one : (x : Step) → calls_of (call x ∷ []) ≡ x ∷ []
unfolding calls_of
calls-one x = refl

calls-none : (k n : ℕ) → calls_of (works k n ∷ []) ≡ []
unfolding calls_of
calls-none k n = refl

-- a set's fed rows, and then the set
calls-own : (t : List Step) (k n : ℕ) → calls_of (calls t ++ (works k n ∷ [])) ≡ t
calls-own t k n = calls-append (calls t) (works k n ∷ []) ∙ ap₂ ◌++◌ (calls_back t) (calls-none k n) ∙ append-nil t

calls-set : (f l k : ℕ) (W H : Interval) (n : ℕ) → calls_of (set_schedule f l k W H n) ≡ set_steps f l k W H n
unfolding set_schedule set_steps
calls-set f zero k W H n = calls-own (feed_all (waiting zero k W H n)) k n
calls-set f (suc l) k W H n =
    calls-append (pick (leb H.i0 (2 * n)) below []) (calls (feed_all (waiting (suc l) k W H n)) ++ (works k n ∷ []))
    ∙ ap₂ ◌++◌
    (choose (leb H.i0 (2 * n)) below
    ∙ ap (λ (t : List Step). pick (leb H.i0 (2 * n)) t [])
    (calls-row f (half_of lo H) (set_schedule f l (suc k) (half_of lo W) (half_of lo H)) (set_steps f l (suc k) (half_of lo W) (half_of lo H))
    (calls-set f l (suc k) (half_of lo W) (half_of lo H)) n))
    (calls-own (feed_all (waiting (suc l) k W H n)) k n)
  where
    below : List Action
    below = row_steps f (half_of lo H) (set_schedule f l (suc k) (half_of lo W) (half_of lo H)) n

    choose : (t : Bool) (s : List Action) → calls_of (pick t s []) ≡ pick t (calls_of s) []
    choose true s = refl
    choose false s = unfold calls_of in refl

pub calls_are : (f : ℕ) (W H : Interval) (L : ℕ) → calls_of (schedule f W H L) ≡ steps f W H L
unfolding schedule steps between
calls_are f W H L =
    calls-turn _ _ _ (λ i.
    calls-append (row_steps f H (set_schedule f (L - 1) 1 W H) (H.i0 + i)) (call (draw (H.i0 + i - H.i0)) ∷ [])
    ∙ ap₂ ◌++◌ (calls-row f H (set_schedule f (L - 1) 1 W H) (set_steps f (L - 1) 1 W H) (calls-set f (L - 1) 1 W H) (H.i0 + i))
    (calls-one (draw (H.i0 + i - H.i0))))
