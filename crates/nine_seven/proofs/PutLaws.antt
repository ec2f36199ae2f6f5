-- The way back from area to area: a line put place by place, in pieces, and two places a turn where nothing is mirrored. Assumes nothing.
use mathlib.Core.List.{List}
use mathlib.Core.Path.{◌≡◌, sym, ap, ◌∙◌, fun_ext}
use Prim.Native.Nat.{ℕ, ◌+◌, ◌-◌, ◌*◌, ◌/◌, ◌%◌, ◌≤◌, ◌<◌}
use native.Mathlib.Decide.{dec_lt}
use native.Mathlib.Omega.{arith}
use lib.IntN.{ℤ}
use lib.ListN.{length, set}
use borrow.Author.Tests.{lt-ltb, le-ltb, le-leb, lt-leb}
use Rattle.numbers.specs.Signal.{at}
use Rattle.numbers.specs.Word.{wrap32}
use Rattle.numbers.proofs.Sweep.{Swept, start, store, finish}
use Rattle.lifting.specs.Line.{Half, lo, hi}
use Rattle.lifting.specs.Grid.{Side, count, joined}
use Rattle.lifting.specs.GridHalves.{halves_of}
use Rattle.lifting.specs.Passes.{near}
use Rattle.lifting.proofs.GridLaws.{counts, beside-lows, half-even, half-odd, front-in, front-past}
use Rattle.nine_seven.specs.NineSeven.{unpredicted, unupdated, line_back}
use Rattle.nine_seven.specs.Memory.{backward_into}
use Rattle.nine_seven.specs.Passes.{far_left, far_right, made, line_put}
use Rattle.nine_seven.proofs.MirrorLaws.{far-more, far-less}
use Rattle.nine_seven.proofs.NineSevenLaws.{even-near, odd-near}

-- ---- a piece of the line in memory
module _ (S : Side) (a b : ℕ) (y z : ℕ → ℤ) where
  pub put-below : (j : ℕ) → j < a → line_put S a b y z j ≡ z j
  unfolding line_put
  put-below j h = simp (lt-leb a j h)

  pub put-past : (j : ℕ) → b ≤ j → a ≤ b → line_put S a b y z j ≡ z j
  unfolding line_put
  put-past j h g = simp (le-leb a j (omega arith), le-ltb j b h)

  pub put_in : (j : ℕ) → a ≤ j → j < b → line_put S a b y z j ≡ joined S (made S y) j
  unfolding line_put
  put_in j g h = simp (le-leb a j g, lt-ltb j b h)

-- two pieces are one, and all of them the line
module _ (S : Side) (y z : ℕ → ℤ) where
  pub put-join : (a b c : ℕ) → a ≤ b → b ≤ c → line_put S b c y (line_put S a b y z) ≡ line_put S a c y z
  put-join a b c ab bc = fun_ext λ j.
      elim (dec_lt j b) [
        | yes p ↦
            put-below S b c y _ j p
            ∙ elim (dec_lt j a) [
              | yes q ↦ put-below S a b y z j q ∙ sym (put-below S a c y z j q)
              | no d ↦ put_in S a b y z j (omega arith) p ∙ sym (put_in S a c y z j (omega arith) (omega arith))
            ]
        | no d ↦
            elim (dec_lt j c) [
              | yes q ↦ put_in S b c y _ j (omega arith) q ∙ sym (put_in S a c y z j (omega arith) q)
              | no h ↦
                  put-past S b c y _ j (omega arith) bc ∙ put-past S a b y z j (omega arith) ab ∙ sym (put-past S a c y z j (omega arith) (omega arith))
            ]
      ]

  pub put_all : line_put S 0 S.length y z ≡ backward_into S y z
  unfolding backward_into line_back made
  put_all = fun_ext λ j.
      elim (dec_lt j S.length) [
        | yes p ↦ put_in S 0 S.length y z j (omega arith) p ∙ sym (front-in S.length (joined S (made S y)) z j p)
        | no d ↦ put-past S 0 S.length y z j (omega arith) (omega arith) ∙ sym (front-past S.length (joined S (made S y)) z j (omega arith))
      ]

  pub put_three : (a b : ℕ) (u v w : ℕ → ℤ) → a ≤ b → b ≤ S.length → u ≡ line_put S 0 a y z → v ≡ line_put S a b y u → w ≡ line_put S b S.length y v
      → w ≡ backward_into S y z
  put_three a b u v w g h e f k =
      k
      ∙ ap (line_put S b S.length y) (f ∙ ap (line_put S a b y) e ∙ put-join 0 a b (omega arith) g)
      ∙ put-join 0 b S.length (omega arith) h
      ∙ put_all

-- ---- any place: a number of a half, by its neighbours
module _ (S : Side) (y : ℕ → ℤ) (g : 1 < S.length) (low n : ℕ) (el : low ≡ count lo S) where
  rest : S.length - low ≡ count hi S
  rest = let both = counts S in omega arith

  pub even-value : (l r : ℕ) → n < low → l ≡ low + near (S.length - low) (n + S.start % 2 - 1) → r ≡ low + near (S.length - low) (n + S.start % 2)
      → unupdated wrap32 (y n) (y l) (y r) ≡ made S y lo n
  unfolding halves_of made
  even-value l r h e f = sym (cc (rest, el, e, f, even-near S g wrap32 (halves_of S y) n (omega arith)))

  pub odd-value : (a b c e : ℤ) (i j k m : ℕ) → n < count hi S → i ≡ near low (n + (1 - S.start % 2) - 1) → j ≡ near low (n + (1 - S.start % 2))
      → k ≡ far_left low (1 - S.start % 2) n → m ≡ far_right low (S.length - low) (1 - S.start % 2) n → a ≡ made S y lo i → b ≡ made S y lo j
      → c ≡ made S y lo k → e ≡ made S y lo m → unpredicted wrap32 (y (low + n)) a b c e ≡ made S y hi n
  unfolding halves_of made
  odd-value a b c e i j k m h p q r s pa pb pc pe = sym (cc (rest, el, p, q, r, s, pa, pb, pc, pe, odd-near S g wrap32 (halves_of S y) n h))

-- the place of a number
module _ (S : Side) (y : ℕ → ℤ) (q : ℕ) where
  pub at-even : (S.start % 2 + q) % 2 ≡ 0 → made S y lo (q / 2) ≡ joined S (made S y) q
  unfolding joined
  at-even e = ap (λ (h : Half). made S y h (q / 2)) (sym (half-even (S.start + q) (omega arith)))

  pub at-odd : (S.start % 2 + q) % 2 ≡ 1 → made S y hi (q / 2) ≡ joined S (made S y) q
  unfolding joined
  at-odd e = ap (λ (h : Half). made S y h (q / 2)) (sym (half-odd (S.start + q) (omega arith)))

pub high-there : (S : Side) (low q : ℕ) → low ≡ count lo S → q < S.length → (S.start % 2 + q) % 2 ≡ 1 → low + q / 2 < S.length
unfolding count
high-there S low q e b o = omega arith

pub low-there : (S : Side) (low q : ℕ) → low ≡ count lo S → q < S.length → (S.start % 2 + q) % 2 ≡ 0 → q / 2 < low
unfolding count
low-there S low q e b o = omega arith

-- ---- the loop over places: out₀ is the area where it began
pub record Placed (S : Side) (y : ℕ → ℤ) (out₀ : List ℤ) (from to q : ℕ) (out : List ℤ) : Type 0 where
  pub room : to ≤ length out₀
  pub begun : from ≤ q
  pub within : q ≤ to
  pub swept : Swept (length out₀) (line_put S from to y (at out₀)) (at out₀) q out

module _ (S : Side) (y : ℕ → ℤ) (out₀ : List ℤ) (from to : ℕ) where
  pub place-start : from ≤ to → to ≤ length out₀ → Placed S y out₀ from to from out₀
  place-start h room =
      record {
        room = room;
        begun = omega arith;
        within = h;
        swept = start out₀ _ from (λ j b. put-below S from to y (at out₀) j b);
      }

  pub place-turn : (q : ℕ) (out : List ℤ) (v : ℤ) → Placed S y out₀ from to q out → q < to → v ≡ joined S (made S y) q
      → Placed S y out₀ from to (q + 1) (set out q v)
  place-turn q out v h b e =
      record {
        room = h.room;
        begun = omega arith;
        within = omega arith;
        swept = store v h.swept (omega arith) (e ∙ sym (put_in S from to y (at out₀) q h.begun b));
      }

  pub place_end : (q : ℕ) (out : List ℤ) → Placed S y out₀ from to q out → to ≤ q → at out ≡ line_put S from to y (at out₀)
  place_end q out h b = finish h.swept (λ j p. put-past S from to y (at out₀) j (omega arith) (omega arith))

-- ---- away from the ends
two-off : (b n : ℕ) → b < 2 → 1 ≤ n → n + b + (1 - b) - 2 ≡ n - 1
two-off b n two g = omega arith

second-before : (low b n : ℕ) → b < 2 → 1 ≤ n → n - 1 ≡ far_left low (1 - b) (n + b)
second-before low b n two g = sym (far-more low 0 (1 - b) (n + b) (omega arith) ∙ two-off b n two g)

two-on : (low b n : ℕ) → b < 2 → n + 2 < low → near low (n + b + (1 - b) + 1) ≡ n + 2
two-on low b n two g = omega arith

second-after : (low N b n : ℕ) → b < 2 → n + 2 < low → low + n + b + 2 < N → n + 2 ≡ far_right low (N - low) (1 - b) (n + b)
second-after low N b n two g room = sym (far-less low (N - low) (1 - b) (n + b) (omega arith) ∙ two-on low b n two g)

module _ (S : Side) (y : ℕ → ℤ) (g : 1 < S.length) (low n : ℕ) (el : low ≡ count lo S) (room : low + n + S.start % 2 + 2 < S.length) where
  -- more low numbers are left than high ones, less one
  enough : n + 2 < low
  enough = let d = beside-lows S in omega arith

  inner-even : unupdated wrap32 (y (n + 2)) (y (low + S.start % 2 + n + 1)) (y (low + S.start % 2 + n + 1 + 1)) ≡ made S y lo (n + 2)
  inner-even = let h = enough in even-value S y g low (n + 2) el _ _ h (omega arith) (omega arith)

  inner-odd : 1 ≤ n → (e0 e1 e2 e3 : ℤ) → e0 ≡ made S y lo (n - 1) → e1 ≡ made S y lo n → e2 ≡ made S y lo (n + 1) → e3 ≡ made S y lo (n + 2)
      → unpredicted wrap32 (y (low + S.start % 2 + n)) e1 e2 e0 e3 ≡ made S y hi (n + S.start % 2)
  inner-odd first e0 e1 e2 e3 p0 p1 p2 p3 =
      let b = S.start % 2 in
      let h = enough in
      let both = counts S in
      let k : low + b + n ≡ low + (n + b) = omega arith in
      let l : n ≡ near low (n + b + (1 - b) - 1) = omega arith in
      let r : n + 1 ≡ near low (n + b + (1 - b)) = omega arith in
      let u = second-before low b n (omega arith) first in
      let v = second-after low S.length b n (omega arith) h room in
      ap (λ (i : ℕ). unpredicted wrap32 (y i) e1 e2 e0 e3) k
      ∙ odd-value S y g low (n + b) el e1 e2 e0 e3 n (n + 1) (n - 1) (n + 2) (omega arith) l r u v p1 p2 p0 p3

  -- the two places of a turn
  inner-low : made S y lo n ≡ joined S (made S y) (2 * n + S.start % 2)
  inner-low =
      let k : n ≡ (2 * n + S.start % 2) / 2 = omega arith in
      ap (made S y lo) k ∙ at-even S y (2 * n + S.start % 2) (omega arith)

  inner-high : made S y hi (n + S.start % 2) ≡ joined S (made S y) (2 * n + S.start % 2 + 1)
  inner-high =
      let k : n + S.start % 2 ≡ (2 * n + S.start % 2 + 1) / 2 = omega arith in
      ap (made S y hi) k ∙ at-odd S y (2 * n + S.start % 2 + 1) (omega arith)

-- before turn n: the even coordinates n − 1 to n + 1 are carried
pub record Carried (S : Side) (y : ℕ → ℤ) (out₀ : List ℤ) (low from to n : ℕ) (e0 e1 e2 : ℤ) (out : List ℤ) : Type 0 where
  pub more : 1 < S.length
  pub lows : low ≡ count lo S
  pub first : 1 ≤ from
  pub least : low + to + S.start % 2 + 1 < S.length
  pub fits : S.length ≤ length out₀
  pub begun : from ≤ n
  pub within : n ≤ to
  pub past : e0 ≡ made S y lo (n - 1)
  pub this : e1 ≡ made S y lo n
  pub next : e2 ≡ made S y lo (n + 1)
  pub swept : Swept (length out₀) (line_put S (2 * from + S.start % 2) (2 * to + S.start % 2) y (at out₀)) (at out₀) (2 * n + S.start % 2) out

-- the line is long enough for the places of all turns
pub long : (S : Side) (low to : ℕ) → low ≡ count lo S → low + to + S.start % 2 + 1 < S.length → 2 * to + S.start % 2 ≤ S.length
long S low to e h = let d = beside-lows S in omega arith

module _ (S : Side) (y : ℕ → ℤ) (out₀ : List ℤ) (low from to : ℕ) where
  abbrev b : ℕ
  b = S.start % 2

  pub carry-turn : (n : ℕ) (e0 e1 e2 e3 : ℤ) (out out' : List ℤ) → Carried S y out₀ low from to n e0 e1 e2 out → n < to
      → e3 ≡ unupdated wrap32 (y (n + 2)) (y (low + b + n + 1)) (y (low + b + n + 1 + 1))
      → out' ≡ set (set out (2 * n + b) e1) (2 * n + b + 1) (unpredicted wrap32 (y (low + b + n)) e1 e2 e0 e3)
      → Carried S y out₀ low from to (n + 1) e1 e2 e3 out'
  carry-turn n e0 e1 e2 e3 out out' h l e is =
      let g = h.more in
      let el = h.lows in
      let room : low + n + S.start % 2 + 2 < S.length = omega arith in
      let far = long S low to el h.least in
      let p3 = e ∙ inner-even S y g low n el room in
      let k : n + 1 - 1 ≡ n = omega arith in
      let m : n + 2 ≡ n + 1 + 1 = omega arith in
      let w : 2 * n + b + 1 + 1 ≡ 2 * (n + 1) + b = omega arith in
      let one = store e1 h.swept (omega arith)
      (h.this ∙ inner-low S y g low n el room ∙ sym (put_in S (2 * from + b) (2 * to + b) y (at out₀) (2 * n + b) (omega arith) (omega arith))) in
      let two = store (unpredicted wrap32 (y (low + b + n)) e1 e2 e0 e3) one (omega arith)
      (inner-odd S y g low n el room (omega arith) e0 e1 e2 e3 h.past h.this h.next p3
      ∙ inner-high S y g low n el room
      ∙ sym (put_in S (2 * from + b) (2 * to + b) y (at out₀) (2 * n + b + 1) (omega arith) (omega arith))) in
      record {
        more = g;
        lows = el;
        first = h.first;
        least = h.least;
        fits = h.fits;
        begun = omega arith;
        within = omega arith;
        past = h.this ∙ ap (made S y lo) (sym k);
        this = h.next;
        next = p3 ∙ ap (made S y lo) m;
        swept = rw (is, ← w) two;
      }

  pub carry-end : (n : ℕ) (e0 e1 e2 : ℤ) (out : List ℤ) → Carried S y out₀ low from to n e0 e1 e2 out → to ≤ n
      → at out ≡ line_put S (2 * from + b) (2 * to + b) y (at out₀)
  carry-end n e0 e1 e2 out h l =
      finish h.swept (λ j p. put-past S (2 * from + b) (2 * to + b) y (at out₀) j (omega arith) (omega arith))
