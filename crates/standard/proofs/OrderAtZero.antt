-- The band rows of a map whose origin is (0, 0) are made in the order of document 01, and its reader has the steps of document 01: at the 5/3's own
-- look-ahead. Assumes nothing.
use mathlib.Core.Path.{◌≡◌, refl, sym, ap, ap₂, ◌∙◌, fun_ext}
use mathlib.Core.Bool.{Bool, true, false}
use mathlib.Core.List.{List, [], ◌∷◌, ◌++◌}
use Prim.Native.Nat.{ℕ, zero, suc, ◌+◌, ◌-◌, ◌/◌, ◌%◌, ◌≤◌, ◌<◌, min}
use native.Mathlib.Decide.{dec_lt, ℕ_discrete}
use native.Mathlib.Omega.{arith}
use lib.Dec.{ltb, leb, eqb}
use borrow.Author.Tests.{lt-ltb, le-ltb, eq-eqb, ne_eqb, le-leb, lt-leb}
use Rattle.numbers.specs.Signal.{pick, both}
use Rattle.lifting.specs.Line.{Half, lo, hi}
use Rattle.lifting.specs.Line as line
use Rattle.lifting.specs.Grid.{Side, side, count}
use Rattle.lifting.specs.FiveThree.{five_three_filter}
use Rattle.lifting.proofs.AtZero.{count-zero}
use Rattle.wavelet.specs.Bands.{Band, across, down}
use Rattle.wavelet.specs.Order.{handed_out, in_turn, first_set, last_set, set_row, set_has, rows_of, set_rows, made_by, unmade, closing, made}
use Rattle.wavelet.proofs.StepLaws.{set-one}
use Rattle.wavelet.specs.Steps.{Step, draw, feed_all, sets_before, row_steps, set_steps, steps}
use Rattle.standard.specs.ZeroOrder as order
use Rattle.standard.specs.ZeroSteps.{opens_set}
use Rattle.standard.specs.ZeroSteps as step
use Rattle.standard.proofs.AtZero.{next-zero}

-- ---- sets
pub first-set-zero : (N : ℕ) (h : Half) → first_set (side 0 N) h ≡ 0
unfolding first_set
first-set-zero N lo = refl
first-set-zero N hi = refl

pub last-set-zero : (m : ℕ) → last_set (side 0 m) ≡ line.count lo m - 1
unfolding last_set line.count
last-set-zero m = omega arith

pub set-has-zero : (w m : ℕ) (b : Band) (n : ℕ) → set_has (side 0 w) (side 0 m) b n ≡ order.has_row w m b n
unfolding set_has set_row order.has_row
set-has-zero w m b n =
    let e : n - 0 ≡ n = omega arith in
    rw (first-set-zero m (down b), e, count-zero (across b) w, count-zero (down b) m, le-leb 0 n (omega arith)) refl

pub rows-of-zero : (k w m n : ℕ) (bs : List Band) → rows_of k (side 0 w) (side 0 m) n bs ≡ order.rows_of k w m n bs
unfolding rows_of set_row order.rows_of
rows-of-zero k w m n [] = refl
rows-of-zero k w m n (b ∷ bs) =
    let e : n - 0 ≡ n = omega arith in
    rw (set-has-zero w m b n, first-set-zero m (down b), e, rows-of-zero k w m n bs) refl

pub set-rows-zero : (l k w m n : ℕ) → set_rows l k (side 0 w) (side 0 m) n ≡ order.set_rows l k w m n
unfolding set_rows order.set_rows
set-rows-zero l k w m n = rows-of-zero k w m n (handed_out l)

-- ---- the order
made-test : (r : ℕ) → both (eqb (r % 2) 0) (leb 2 r) ≡ both (eqb (r % 2) 0) (ltb 0 r)
made-test r =
    elim (ℕ_discrete (r % 2) 0) [
      | yes e ↦
          elim (dec_lt 0 r) [
            | yes p ↦ ap (both (eqb (r % 2) 0)) (le-leb 2 r (omega arith) ∙ sym (lt-ltb 0 r p))
            | no d ↦ ap (both (eqb (r % 2) 0)) (lt-leb 2 r (omega arith) ∙ sym (le-ltb 0 r (omega arith)))
          ]
      | no d ↦ simp (ne_eqb (r % 2) 0 d)
    ]

pub made-by-zero : (l k w r : ℕ) → made_by 1 l k (side 0 w) 0 r ≡ order.made_by l k w r
unfolding made_by order.made_by
made-by-zero zero k w r = refl
made-by-zero (suc l) k w r =
    let e : 0 + r ≡ r = omega arith in
    let d : r / 2 - 1 - 0 ≡ r / 2 - 1 = omega arith in
    rw (
      e,
      made-test r,
      set-rows-zero l k w (r + 1) (r / 2 - 1),
      le-leb 0 (r / 2 - 1) (omega arith),
      d,
      next-zero w,
      made-by-zero l (suc k) (line.count lo w) (r / 2 - 1),
    ) refl

pub closing-zero : (l k w m : ℕ) → closing 1 l k (side 0 w) (side 0 m) ≡ order.closing l k w m
unfolding closing unmade in_turn order.closing
closing-zero zero k w m = refl
closing-zero (suc l) k w m =
    let n = line.count lo m - 1 in
    let d : n - 0 ≡ n = omega arith in
    let u : n + 1 - 1 + 0 ≡ n = omega arith in
    let o : n + 1 - (n + 1 - 1) ≡ 1 = omega arith in
    rw (
      last-set-zero m,
      o,
      u,
      first-set-zero m lo,
      set-rows-zero l k w m n,
      le-leb 0 n (omega arith),
      d,
      next-zero w,
      next-zero m,
      made-by-zero l (suc k) (line.count lo w) n,
      closing-zero l (suc k) (line.count lo w) (line.count lo m),
    ) refl

pub made-zero : (W L rows : ℕ) (finished : Bool) → made five_three_filter.ahead (side 0 W) 0 L rows finished ≡ order.made W L rows finished
unfolding made order.made
made-zero W L rows finished =
    ap₂ (λ f l. in_turn rows f ++ pick finished l []) (fun_ext λ r. made-by-zero L 1 W r) (closing-zero L 1 W rows)

-- ---- the steps
sets-zero : (h r : ℕ) → sets_before 1 (side 0 h) (suc r) ≡ min ((r + 1) / 2) ((h - 1) / 2) + 1
unfolding sets_before last_set
sets-zero h r = omega (arith, set-one (side 0 h) r)

none_before : (H : Side) → sets_before 1 H 0 ≡ 0
unfolding sets_before
none_before H = refl

-- the sets that row r asks for: one set n, or none
asks-one : (H : Side) (set : ℕ → List Step) (r n : ℕ) → sets_before 1 H r ≡ n → sets_before 1 H (suc r) ≡ n + 1 → row_steps 1 H set r ≡ set n
unfolding row_steps in_turn
asks-one H set r n e d =
    let one : sets_before 1 H (suc r) - sets_before 1 H r ≡ 1 = omega arith in
    let first : sets_before 1 H r + 0 ≡ n = omega arith in
    rw (one, first) refl

asks_none : (H : Side) (set : ℕ → List Step) (r : ℕ) → sets_before 1 H r ≡ sets_before 1 H (suc r) → row_steps 1 H set r ≡ []
unfolding row_steps in_turn
asks_none H set r e = let none : sets_before 1 H (suc r) - sets_before 1 H r ≡ 0 = omega arith in rw none refl

first-opens : (h : ℕ) → opens_set h 0 ≡ true
unfolding opens_set
first-opens h = refl

opens : (h r : ℕ) → r % 2 ≡ 1 → r + 1 < h → opens_set h r ≡ true
unfolding opens_set
opens h r e l = simp (ne_eqb r 0 (omega arith), eq-eqb (r % 2) 1 e, lt-ltb (r + 1) h l)

even-opens-none : (h r : ℕ) → r % 2 ≡ 0 → 0 < r → opens_set h r ≡ false
unfolding opens_set
even-opens-none h r e p = simp (ne_eqb r 0 (omega arith), ne_eqb (r % 2) 1 (omega arith))

last-opens-none : (h r : ℕ) → r % 2 ≡ 1 → h ≤ r + 1 → opens_set h r ≡ false
unfolding opens_set
last-opens-none h r e l = simp (ne_eqb r 0 (omega arith), eq-eqb (r % 2) 1 e, le-ltb (r + 1) h l)

pub row-steps-zero : (h : ℕ) (set : ℕ → List Step) (r : ℕ) → row_steps 1 (side 0 h) set r ≡ step.row_steps h set r
unfolding step.row_steps
row-steps-zero h set zero =
    let e = sets-zero h 0 in
    rw (first-opens h) (asks-one (side 0 h) set 0 0 (none_before (side 0 h)) (omega arith))
row-steps-zero h set (suc r) =
    let e = sets-zero h r in
    let d = sets-zero h (suc r) in
    elim (ℕ_discrete (suc r % 2) 1) [
      | no even ↦
          rw (even-opens-none h (suc r) (omega arith) (omega arith)) (asks_none (side 0 h) set (suc r) (omega arith))
      | yes odd ↦
          elim (dec_lt (suc r + 1) h) [
            | yes l ↦ rw (opens h (suc r) odd l) (asks-one (side 0 h) set (suc r) ((suc r + 1) / 2) (omega arith) (omega arith))
            | no l ↦ rw (last-opens-none h (suc r) odd (omega arith)) (asks_none (side 0 h) set (suc r) (omega arith))
          ]
    ]

pub set-steps-zero : (l k w h n : ℕ) → set_steps 1 l k (side 0 w) (side 0 h) n ≡ step.set_steps l k w h n
unfolding set_steps step.set_steps
set-steps-zero zero k w h n = ap feed_all (set-rows-zero zero k w h n)
set-steps-zero (suc l) k w h n =
    let d : n - 0 ≡ n = omega arith in
    let below : set_steps 1 l (suc k) (side 0 (line.count lo w)) (side 0 (line.count lo h)) ≡ step.set_steps l (suc k) (line.count lo w) (line.count lo h) =
    fun_ext (set-steps-zero l (suc k) (line.count lo w) (line.count lo h)) in
    rw (
      first-set-zero h lo,
      le-leb 0 n (omega arith),
      d,
      next-zero w,
      next-zero h,
      row-steps-zero (line.count lo h) (set_steps 1 l (suc k) (side 0 (line.count lo w)) (side 0 (line.count lo h))) n,
      below,
      set-rows-zero (suc l) k w h n,
    ) refl

pub steps-zero : (W H L : ℕ) → steps five_three_filter.ahead (side 0 W) (side 0 H) L ≡ step.steps W H L
unfolding steps step.steps
steps-zero W H L =
    ap (in_turn H)
    (fun_ext λ r.
    ap (λ (l : List Step). l ++ (draw r ∷ []))
    (row-steps-zero H (set_steps 1 (L - 1) 1 (side 0 W) (side 0 H)) r
    ∙ ap (λ (set : ℕ → List Step). step.row_steps H set r) (fun_ext (set-steps-zero (L - 1) 1 W H))))
