-- Demand 1 of the line calls, of the profile and of the fixed form's header: `line-calls`, `profile-calls`, `picture-calls`. Assumes nothing.
use mathlib.Core.Path.{◌≡◌, refl, subst, sym}
use mathlib.Core.Bool.{Bool, true, false}
use mathlib.Core.List.{List}
use Prim.Native.Nat.{ℕ, zero, suc, ◌≤◌}
use native.Mathlib.Omega.{arith}
use lib.IntN.{ℤ}
use lib.ListN.{length}
use lib.Dec.{leb, eqb}
use lib.Ieee.{Float}
use borrow.Author.Tests.{le-ltb}
use Rattle.numbers.specs.Signal.{pick, both}
use Rattle.lifting.specs.Line.{Half, lo}
use Rattle.lifting.specs.Grid.{Side, side, count}
use Rattle.lifting.specs.GridHalves.{has_line_in, in_halves}
use Rattle.lifting.specs.GridHalves as five
use Rattle.nine_seven.specs.Memory as nine
use Rattle.wavelet.specs.Limits.{max_width, max_height}
use Rattle.wavelet.specs.Questions.{within}
use Rattle.wavelet.specs.Asks.{Asks, Passes, Width, Height}
use Rattle.wavelet.proofs.SideLaws.{count-le}
use Rattle.wavelet.proofs.AskLaws.{asked, room, width-exactly, height-exactly}
use Rattle.profile.specs.Profile.{profile}
use Rattle.profile.specs.Calls.{heights, floats, profile_question, profiled, fronted as float_fronted}
use Rattle.picture.specs.Form.{Put, head_question, HeadPut, refused, written, answered}
use Rattle.level.specs.Level.{Memory}
use Rattle.demand_1.specs.Words.{Kept, Surplus}
use Rattle.demand_1.specs.Lines.{LineForward, LineBackward, LineUnlift, LineCalls, Profile, ProfileCalls}
use Rattle.demand_1.specs.Lines.{head_number, Head, PictureCalls}
use Rattle.demand_1.proofs.WordLaws.{front-surplus, kept}

-- ---- an area by one test, and by two
one_kept : {A : Type 0} (t : Bool) (q : ℕ) (y z : A) → Kept (pick t 0 q) z (pick t y z)
one_kept true q y z h = absurd (h refl)
one_kept false q y z h = refl

two-kept : {A : Type 0} (t u : Bool) (y z : A) → Kept (pick t (pick u 0 14) 5) z (pick (both t u) y z)
two-kept true true y z h = absurd (h refl)
two-kept true false y z h = refl
two-kept false u y z h = refl

one-surplus : (t : Bool) (N : ℕ) (y z : Memory) → Surplus N z y → Surplus N z (pick t y z)
one-surplus true N y z s = s
one-surplus false N y z s = λ j h. refl

halves-surplus : (S : Side) (p : Half → ℕ → ℤ) (z : Memory) → Surplus S.length z (in_halves S p z)
unfolding in_halves
halves-surplus S p z j h = rw (le-ltb j (count lo S) (omega (arith, count-le lo S)), le-ltb j S.length h)

-- ---- lines, `made` being a filter's
module _ (made : Side → Memory → Memory → Memory) (past : (S : Side) (y z : Memory) → Surplus S.length z (made S y z)) where
  forward-of : (s N m : ℕ) (y z : Memory) → LineForward made s N m y z
  forward-of s N m y z = record {
    answer = asked (leb N m) 0 (room N m) refl;
    area = one_kept (leb N m) 5 _ z;
    surplus = one-surplus (leb N m) N _ z (past (side s N) y z);
  }

  backward-of : (s N m : ℕ) (y z : Memory) → LineBackward made s N m y z
  backward-of s N m y z = record {
    answer = asked (leb N m) _ (room N m) (asked (has_line_in (side s N) y) 0 (λ e. e, λ e. e) refl);
    area = two-kept (leb N m) (has_line_in (side s N) y) _ z;
    surplus = one-surplus (both (leb N m) (has_line_in (side s N) y)) N _ z (past (side s N) y z);
  }

unlift-of : (made : Side → Memory → Memory) (s N : ℕ) (y : Memory) → LineUnlift made s N y
unlift-of made s N y = record {
  answer = asked (has_line_in (side s N) y) 0 (λ e. e, λ e. e) refl;
  line = one_kept (has_line_in (side s N) y) 14 _ y;
}

five-forward-past : (S : Side) (y z : Memory) → Surplus S.length z (five.forward_into S y z)
unfolding five.forward_into
five-forward-past S y z = halves-surplus S _ z

five-back-past : (S : Side) (y z : Memory) → Surplus S.length z (five.backward_into S y z)
unfolding five.backward_into
five-back-past S y z = front-surplus S.length _ z

nine-forward-past : (S : Side) (y z : Memory) → Surplus S.length z (nine.forward_into S y z)
unfolding nine.forward_into
nine-forward-past S y z = halves-surplus S _ z

nine-back-past : (S : Side) (y z : Memory) → Surplus S.length z (nine.backward_into S y z)
unfolding nine.backward_into
nine-back-past S y z = front-surplus S.length _ z

pub line-calls : LineCalls
line-calls = record {
  forward = forward-of five.forward_into five-forward-past;
  backward = backward-of five.backward_into five-back-past;
  unlift = unlift-of five.unlifted_in_place;
  forward_9_7 = forward-of nine.forward_into nine-forward-past;
  backward_9_7 = backward-of nine.backward_into nine-back-past;
  unlift_9_7 = unlift-of nine.unlifted_in_place;
}

-- ---- the profile
profile-asks : (n m : ℕ) → Asks 2 (Width n) (Asks 5 (n ≤ m) Passes) (profile_question n m)
unfolding profile_question
profile-asks n m = asked (within 1 max_width n) _ (width-exactly n) (asked (leb n m) 0 (room n m) refl)

profile-of : (row : List ℕ) (out : List Float) (q : ℕ) → Profile row out q
unfolding profiled float_fronted
profile-of row out q = record {
  area = kept q (float_fronted (length row) (profile (length row) (heights row)) (floats out)) (floats out);
  surplus = λ j h. go (eqb q 0) j h;
}
  where
    go : (t : Bool) (j : ℕ) → length row ≤ j →
        pick t (float_fronted (length row) (profile (length row) (heights row)) (floats out)) (floats out) j ≡ floats out j
    go true j h = unfold float_fronted in rw (le-ltb j (length row) h)
    go false j h = refl

pub profile-calls : ProfileCalls
profile-calls = record { asks = profile-asks; smooth = profile-of }

-- ---- the fixed form's header
head-asks : (W H : ℕ) → Asks 2 (Width W) (Asks 3 (Height H) Passes) (head_question W H)
unfolding head_question
head-asks W H = asked (within 1 max_width W) _ (width-exactly W) (asked (within 1 max_height H) 0 (height-exactly H) refl)

head_of : (W H from : ℕ) (o o' : List ℕ) (p : Put) → HeadPut W H from o o' p → Head W H o o' (head_number p)
head_of W H from o o' p (refused q e n k) =
    record { answer = subst (Asks 2 (Width W) (Asks 3 (Height H) Passes)) (sym e) (head-asks W H); area = λ h. k }
head_of W H from o o' p (written n e c k) =
    record { answer = subst (Asks 2 (Width W) (Asks 3 (Height H) Passes)) e (head-asks W H); area = λ h. absurd (h refl) }

c-head-of : (W H from : ℕ) (o o' : List ℕ) (q n : ℕ) → HeadPut W H from o o' (answered q n) → Head W H o o' q
c-head-of W H from o o' zero n h = head_of W H from o o' _ h
c-head-of W H from o o' (suc q) n h = head_of W H from o o' _ h

pub picture-calls : PictureCalls
picture-calls = record { head = head_of; c_head = c-head-of }
