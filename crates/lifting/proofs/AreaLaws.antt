-- The laws of the passes from one area to another: what each leaves at a place, a turn of its loop, and what the passes come to together. Assumes nothing.
use mathlib.Core.Path.{◌≡◌, refl, sym, ap, ap₂, ◌∙◌, subst, fun_ext}
use mathlib.Core.List.{List}
use Prim.Native.Nat.{ℕ, ◌+◌, ◌-◌, ◌*◌, ◌/◌, ◌%◌, ◌^◌, ◌≤◌, ◌<◌}
use native.Mathlib.Decide.{dec_lt, ℕ_discrete}
use native.Mathlib.Omega.{arith}
use lib.IntN.{ℤ}
use lib.ListN.{length, set, length-set}
use lib.Dec.{eqb}
use borrow.Author.Tests.{lt-ltb, le-ltb, eq-eqb, ne_eqb}
use mir.Syntax.{w64}
use mir.Val.{Fits}
use borrow.Rule.Slice.PartMut.{mid_of, put_mid, same_len_mid}
use Rattle.numbers.specs.Signal.{at, pick, windowed, spliced}
use Rattle.numbers.specs.Word.{wrap32}
use Rattle.numbers.proofs.Sweep.{Swept, start, store, finish}
use Rattle.numbers.proofs.Parts.{window-in, splice-in, splice-below, splice-past, length-mid, at_mid, at-put}
use Rattle.lifting.specs.Line.{Half, lo, hi, unupdated, unpredicted}
use Rattle.lifting.specs.Grid.{Side, side, place, count, deinterleaved, joined, line_forward, line_halves_back, line_back}
use Rattle.lifting.specs.GridHalves.{halves_of, lifted_in_place, forward_into, backward_into}
use Rattle.lifting.specs.Passes.{near, evens_copied, even_back, rest_put}
use Rattle.lifting.proofs.GridLaws.{ahead, counts, some, beside-lows, every-second, low-place, high-place}
use Rattle.lifting.proofs.GridLaws.{left_one, left-two, left-three, place-in, joined-place, joined-reads}
use Rattle.lifting.proofs.GridLaws.{joined-deinterleaved, even-near, odd-near, halves-low, halves-high, halves_are, front-in, front-past}
use Rattle.lifting.proofs.GridReads.{forward-reads}

-- ---- the even places of a line copied
module _ (N : ℕ) (x z : ℕ → ℤ) where
  pub evens-in : (j : ℕ) → j < N - N / 2 → evens_copied N x z j ≡ x (2 * j)
  unfolding evens_copied
  evens-in j h = simp (lt-ltb j (N - N / 2) h)

  pub evens-past : (j : ℕ) → N - N / 2 ≤ j → evens_copied N x z j ≡ z j
  unfolding evens_copied
  evens-past j h = simp (le-ltb j (N - N / 2) h)

-- ---- a line made of its coefficients y, in memory z
module _ (S : Side) (y : ℕ → ℤ) (g : 1 < S.length) where
  -- number n of its even coordinates goes by the high values at places a and b
  pub even_back-is : (n a b : ℕ) → n < count lo S → a ≡ count lo S + near (count hi S) (n + S.start % 2 - 1)
      → b ≡ count lo S + near (count hi S) (n + S.start % 2) → unupdated wrap32 (y n) (y a) (y b) ≡ even_back S y n
  unfolding even_back halves_of
  even_back-is n a b h ea eb = sym (rw (ea, eb) (even-near S g wrap32 (halves_of S y) n h))

  -- the first by one high value, or by the first two
  pub even_back-first : (low high b r : ℕ) → low ≡ count lo S → high ≡ count hi S → b ≡ S.start % 2 → r ≡ near high b
      → unupdated wrap32 (y 0) (y low) (y (low + r)) ≡ even_back S y 0
  even_back-first low high b r el eh eb er =
      let s = some S g in
      let both = counts S in
      let one : near (count hi S) (0 + S.start % 2 - 1) ≡ 0 = omega arith in
      let two : r ≡ near (count hi S) (0 + S.start % 2) = er ∙ ap₂ near eh (eb ∙ omega arith) in
      even_back-is 0 low (low + r) (omega arith) (omega arith) (omega arith)

  module _ (z : ℕ → ℤ) where
    pub back_low : (n : ℕ) → n < count lo S → backward_into S y z (2 * n + S.start % 2) ≡ even_back S y n
    unfolding backward_into line_back even_back place
    back_low n h =
        let p = line_halves_back wrap32 S (halves_of S y) in
        front-in S.length (joined S p) z (place S lo n) (place-in S lo n h) ∙ joined-place S p lo n

    back-high : (n : ℕ) → n < count hi S
        → backward_into S y z (place S hi n) ≡ unpredicted wrap32 (y (count lo S + n)) (even_back S y (near (count lo S) (n + ahead S lo - 1)))
        (even_back S y (near (count lo S) (n + ahead S lo)))
    unfolding backward_into line_back even_back halves_of
    back-high n h =
        let p = line_halves_back wrap32 S (halves_of S y) in
        front-in S.length (joined S p) z (place S hi n) (place-in S hi n h) ∙ joined-place S p hi n ∙ odd-near S g wrap32 (halves_of S y) n h

    -- the high value after even coordinate n is number n or n + 1
    pub back-after : (n k : ℕ) → k ≡ n + S.start % 2 → k < count hi S → n < count lo S
        → backward_into S y z (2 * n + S.start % 2 + 1) ≡ unpredicted wrap32 (y (count lo S + k)) (even_back S y n) (even_back S y (near (count lo S) (n + 1)))
    unfolding place
    back-after n k e h b =
        let i : 2 * n + S.start % 2 + 1 ≡ place S hi k = omega arith in
        let a : near (count lo S) (k + ahead S lo - 1) ≡ n = omega arith in
        let c : near (count lo S) (k + ahead S lo) ≡ near (count lo S) (n + 1) = omega arith in
        ap (backward_into S y z) i ∙ cc (a, c, back-high k h)

    -- and the one before all of them is number 0
    pub back-first : S.start % 2 ≡ 1 → 0 < count hi S → 0 < count lo S
        → backward_into S y z 0 ≡ unpredicted wrap32 (y (count lo S)) (even_back S y 0) (even_back S y 0)
    unfolding place
    back-first e h b =
        let i : 0 ≡ place S hi 0 = omega arith in
        let a : near (count lo S) (0 + ahead S lo - 1) ≡ 0 = omega arith in
        let c : near (count lo S) (0 + ahead S lo) ≡ 0 = omega arith in
        let k : count lo S + 0 ≡ count lo S = omega arith in
        ap (backward_into S y z) i ∙ cc (a, c, k, back-high 0 h)

pub back-past : (S : Side) (y z : ℕ → ℤ) (j : ℕ) → S.length ≤ j → backward_into S y z j ≡ z j
unfolding backward_into
back-past S y z j h = front-past S.length (line_back wrap32 S (halves_of S y)) z j h

-- within the line it does not go by what stood there
back_any : (S : Side) (y z w : ℕ → ℤ) (j : ℕ) → j < S.length → backward_into S y z j ≡ backward_into S y w j
unfolding backward_into
back_any S y z w j h = front-in S.length (line_back wrap32 S (halves_of S y)) z j h ∙ sym (front-in S.length (line_back wrap32 S (halves_of S y)) w j h)

-- ---- the end of the line
module _ (S : Side) (q : ℕ) (y z : ℕ → ℤ) where
  rest_below : (j : ℕ) → j < q → rest_put S q y z j ≡ z j
  unfolding rest_put
  rest_below j h = simp (lt-ltb j q h)

  pub rest_in : (j : ℕ) → q ≤ j → rest_put S q y z j ≡ backward_into S y z j
  unfolding rest_put
  rest_in j h = simp (le-ltb j q h)

  pub rest-past : (j : ℕ) → q ≤ j → S.length ≤ j → rest_put S q y z j ≡ z j
  rest-past j h b = rest_in j h ∙ back-past S y z j b

pub rest-start : (S : Side) (q : ℕ) (y : ℕ → ℤ) (l : List ℤ) → Swept (length l) (rest_put S q y (at l)) (at l) q l
rest-start S q y l = start l (rest_put S q y (at l)) q (λ j b. rest_below S q y (at l) j b)

-- it completes a sweep
pub rest-finish : (S : Side) (q : ℕ) (y z : ℕ → ℤ) (L : ℕ) (l l' : List ℤ) → Swept L (backward_into S y z) z q l → at l' ≡ rest_put S q y (at l)
    → at l' ≡ backward_into S y z
rest-finish S q y z L l l' sw e =
    e
    ∙ fun_ext λ j.
    elim (dec_lt j q) [
      | yes b ↦ rest_below S q y (at l) j b ∙ sw.done j b
      | no b ↦
          rest_in S q y (at l) j (omega arith)
          ∙ elim (dec_lt j S.length) [
            | yes h ↦ back_any S y (at l) z j h
            | no h ↦ back-past S y (at l) j (omega arith) ∙ sw.rest j (omega arith) ∙ sym (back-past S y z j (omega arith))
          ]
    ]

-- from the place of low number n on
module _ (S : Side) (y : ℕ → ℤ) (g : 1 < S.length) (low n : ℕ) (even : ℤ) (l : List ℤ) (lows : low ≡ count lo S) (room : S.length ≤ length l)
    (within : n < low) (is : even ≡ even_back S y n) where
  abbrev from : ℕ
  from = 2 * n + S.start % 2

  rest-one : Swept (length l) (rest_put S from y (at l)) (at l) (from + 1) (set l from even)
  rest-one =
      let p = low-place S n (omega arith) in
      store even (rest-start S from y l) (omega arith) (is ∙ sym (rest_in S from y (at l) from (omega arith) ∙ back_low S y g (at l) n (omega arith)))

  rest-two : (next : ℤ) → low + n + S.start % 2 < S.length → next ≡ even_back S y (near (count lo S) (n + 1))
      → Swept (length l) (rest_put S from y (at l)) (at l) (from + 1 + 1)
      (set (set l from even) (from + 1) (unpredicted wrap32 (y (low + n + S.start % 2)) even next))
  rest-two next h e =
      let both = counts S in
      let p = high-place S n (omega arith) in
      let k : low + n + S.start % 2 ≡ count lo S + (n + S.start % 2) = omega arith in
      store _ rest-one (omega arith)
      (cc (k, is, e, rest_in S from y (at l) (from + 1) (omega arith), back-after S y g (at l) n (n + S.start % 2) refl (omega arith) (omega arith)))

  -- that place alone
  pub end-one : S.length ≤ low + n + S.start % 2 → at (set l from even) ≡ rest_put S from y (at l)
  end-one b = let p = left_one S n (omega arith) in finish rest-one (λ j le. rest-past S from y (at l) j (omega arith) (omega arith))

  -- and the high one after it
  pub end-two : (l' : List ℤ) → low + n + S.start % 2 < S.length → low ≤ n + 1
      → l' ≡ set (set l from even) (from + 1) (unpredicted wrap32 (y (low + n + S.start % 2)) even even) → at l' ≡ rest_put S from y (at l)
  end-two l' h b e =
      let p = left-two S n (omega arith) in
      let k : n ≡ near (count lo S) (n + 1) = omega arith in
      rw e (finish (rest-two even h (is ∙ ap (even_back S y) k)) (λ j le. rest-past S from y (at l) j (omega arith) (omega arith)))

  -- and the low one after that
  pub end-three : (last : ℤ) (l' : List ℤ) → low + n + S.start % 2 < S.length → n + 1 < low → S.length ≤ low + n + S.start % 2 + 1
      → last ≡ unupdated wrap32 (y (n + 1)) (y (low + n + S.start % 2)) (y (low + n + S.start % 2))
      → l' ≡ set (set l from even) (from + 1) (unpredicted wrap32 (y (low + n + S.start % 2)) even last)
      → at (set l' (from + 2) last) ≡ rest_put S from y (at l)
  end-three last l' h b f d e =
      let both = counts S in
      let p = left-three S n (omega arith) in
      let m = low-place S (n + 1) (omega arith) in
      let k : n + 1 ≡ near (count lo S) (n + 1) = omega arith in
      let i : from + 1 + 1 ≡ from + 2 = omega arith in
      let j : from + 2 ≡ 2 * (n + 1) + S.start % 2 = omega arith in
      let new : last ≡ even_back S y (n + 1) = d ∙ even_back-is S y g (n + 1) _ _ (omega arith) (omega arith) (omega arith) in
      let two : Swept (length l) (rest_put S from y (at l)) (at l) (from + 2) l' = rw e (rw i at (rest-two last h (new ∙ ap (even_back S y) k))) in
      finish
      (store last two (omega arith)
      (new ∙ sym (rest_in S from y (at l) (from + 2) (omega arith) ∙ ap (backward_into S y (at l)) j ∙ back_low S y g (at l) (n + 1) (omega arith))))
      (λ j le. rest-past S from y (at l) j (omega arith) (omega arith))

-- ---- the loop. l₀ is what was written before it: the first place, where that is high
pub first-put : (S : Side) (y : ℕ → ℤ) (b low : ℕ) (even : ℤ) (l l₀ : List ℤ) → 1 < S.length → b ≡ S.start % 2 → low ≡ count lo S → S.length ≤ length l
    → even ≡ even_back S y 0 → l₀ ≡ pick (eqb b 1) (set l 0 (unpredicted wrap32 (y low) even even)) l → Swept (length l₀) (backward_into S y (at l)) (at l) b l₀
first-put S y b low even l l₀ g bit lows room is e =
    let both = counts S in
    let s = some S g in
    elim (ℕ_discrete b 0) [
      | yes z ↦
          let i : l₀ ≡ l = e ∙ simp (ne_eqb b 1 (omega arith)) in
          rw (i, z) (start l (backward_into S y (at l)) 0 (λ j lt. absurd (omega arith)))
      | no z ↦
          let o : b ≡ 1 = omega arith in
          let i : l₀ ≡ set l 0 (unpredicted wrap32 (y low) even even) = e ∙ simp (eq-eqb b 1 o) in
          let k : length l₀ ≡ length l = ap length i ∙ length-set l 0 _ in
          rw (k, i, o)
          (store _ (start l (backward_into S y (at l)) 0 (λ j lt. absurd (omega arith))) (omega arith)
          (cc (lows, is, back-first S y g (at l) (omega arith) (omega arith) (omega arith))))
    ]

-- before turn n, L numbers of memory: two places are stored a turn,
pub record CarriedAt (S : Side) (L low high b from end n : ℕ) : Type 0 where
  pub more : 1 < S.length
  pub bit : b ≡ S.start % 2
  pub lows : low ≡ count lo S
  pub highs : high ≡ count hi S
  pub all : low + high ≡ S.length
  pub least : high ≤ low + b
  pub first : from ≡ low + b
  pub last : end ≡ high - b
  pub room : S.length ≤ L
  pub small : L < 2 ^ 63
  pub within : n < low

pub carried-at : (S : Side) (M L low : ℕ) → 1 < S.length → low ≡ count lo S → S.length ≤ M → M * 4 < 2 ^ 63 → L ≡ M
    → CarriedAt S L low (S.length - low) (S.start % 2) (low + S.start % 2) (S.length - low - S.start % 2) 0
carried-at S M L low more lows room small size =
    let both = counts S in
    let s = some S more in
    let d = beside-lows S in
    record {
      more = more;
      bit = refl;
      lows = lows;
      highs = omega arith;
      all = omega arith;
      least = omega arith;
      first = refl;
      last = refl;
      room = omega arith;
      small = omega arith;
      within = omega arith;
    }

module _ {S : Side} {L low high b from end n : ℕ} (c : CarriedAt S L low high b from end n) where
  pub carried-next : Fits w64 (n + 1)
  carried-next = omega arith

  -- the places of a turn, K the length of the line and M that of the memory as it is then
  pub carried-sums : n + 1 < end → Fits w64 (from + n) × Fits w64 (from + n + 1) × Fits w64 (2 * n) × Fits w64 (2 * n + b)
  carried-sums h =
      let p = high-place S n (omega arith) in
      omega arith

  pub carried-reads : n + 1 < end → (n + 1 < S.length) × (from + n < S.length) × (from + n + 1 < S.length)
  carried-reads h = omega arith

  pub carried-in : (M : ℕ) → M ≡ L → n + 1 < end → (from + n < S.length) × (2 * n + b + 1 < M)
  carried-in M e h =
      let p = high-place S n (omega arith) in
      omega arith

  -- and after the last one
  pub carried-end : (M : ℕ) → M ≡ L → end ≤ n + 1 → (S.length ≤ M) × (S.length ≤ low + n + S.start % 2 + 1)
  carried-end M e h = omega arith

-- and the next even coordinate is worked out
pub record Carried (S : Side) (y : ℕ → ℤ) (l₀ : List ℤ) (low high b from end n : ℕ) (even : ℤ) (l : List ℤ) : Type 0 where
  pub places : CarriedAt S (length l₀) low high b from end n
  pub carried : even ≡ even_back S y n
  pub size : length l ≡ length l₀
  pub swept : (z : ℕ → ℤ) → Swept (length l₀) (backward_into S y z) z b l₀ → Swept (length l₀) (backward_into S y z) z (2 * n + b) l

-- the first one, v, is read back from w
first-even : (S : Side) (y : ℕ → ℤ) (L low high b from end r : ℕ) (v w : ℤ) → CarriedAt S L low high b from end 0 → r ≡ near high b → v ≡ w
    → w ≡ unupdated wrap32 (y 0) (y low) (y (low + r)) → v ≡ even_back S y 0
first-even S y L low high b from end r v w c e back is = back ∙ is ∙ even_back-first S y c.more low high b r c.lows c.highs c.bit e

pub first-turn : (S : Side) (y : ℕ → ℤ) (l : List ℤ) (low high b from end r : ℕ) (v w : ℤ) → CarriedAt S (length l) low high b from end 0 → r ≡ near high b
    → v ≡ w → w ≡ unupdated wrap32 (y 0) (y low) (y (low + r)) → Carried S y l low high b from end 0 v l
first-turn S y l low high b from end r v w c e back is =
    record {
      places = c;
      carried = first-even S y (length l) low high b from end r v w c e back is;
      size = refl;
      swept = λ z s. subst (λ (m : ℕ). Swept (length l) (backward_into S y z) z m l) (omega arith) s;
    }

module _ {S : Side} {y : ℕ → ℤ} {l₀ : List ℤ} {low high b from end n : ℕ} {even : ℤ} {l : List ℤ} (c : Carried S y l₀ low high b from end n even l) where
  pub line-turn : (next w : ℤ) (l' : List ℤ) → n + 1 < end → next ≡ w → w ≡ unupdated wrap32 (y (n + 1)) (y (from + n)) (y (from + n + 1))
      → l' ≡ set (set l (2 * n + b) even) (2 * n + b + 1) (unpredicted wrap32 (y (from + n)) even next) → Carried S y l₀ low high b from end (n + 1) next l'
  line-turn next w l' h back d e =
      let q = c.places in
      let bit = q.bit in
      let g = q.more in
      let p = high-place S n (omega arith) in
      let new : next ≡ even_back S y (n + 1) = back ∙ d ∙ even_back-is S y g (n + 1) _ _ (omega arith) (omega arith) (omega arith) in
      let k : from + n ≡ count lo S + (n + b) = omega arith in
      let i : n + 1 ≡ near (count lo S) (n + 1) = omega arith in
      let m : 2 * n + b + 1 + 1 ≡ 2 * (n + 1) + b = omega arith in
      record {
        places = record {
          more = g;
          bit = bit;
          lows = q.lows;
          highs = q.highs;
          all = q.all;
          least = q.least;
          first = q.first;
          last = q.last;
          room = q.room;
          small = q.small;
          within = omega arith;
        };
        carried = new;
        size = ap length e ∙ length-set (set l (2 * n + b) even) (2 * n + b + 1) _ ∙ length-set l (2 * n + b) even ∙ c.size;
        swept = λ z s.
            rw e
            (rw m at
            (store (unpredicted wrap32 (y (from + n)) even next) (store even (c.swept z s) (omega arith)
            (cc (bit, c.carried, back_low S y g z n (omega arith)))) (omega arith)
            (cc (bit, k, i, c.carried, new, back-after S y g z n (n + b) (omega arith) (omega arith) (omega arith)))));
      }

  -- out is the memory as it was lent, and the first even coordinate v is read back from w
  pub line-put : (out l' : List ℤ) (r : ℕ) (v w : ℤ) → S.length ≤ length out → r ≡ near high b → v ≡ w
      → w ≡ unupdated wrap32 (y 0) (y low) (y (low + r)) → l₀ ≡ pick (eqb b 1) (set out 0 (unpredicted wrap32 (y low) v v)) out
      → at l' ≡ rest_put S (2 * n + b) y (at l) → at l' ≡ backward_into S y (at out)
  line-put out l' r v w room e back is put end' =
      let q = c.places in
      rest-finish S (2 * n + b) y (at out) (length l₀) l l'
      (c.swept (at out) (first-put S y b low v out l₀ q.more q.bit q.lows room
      (back ∙ is ∙ even_back-first S y q.more low high b r q.lows q.highs q.bit e) put)) end'

-- ---- the halves of a line copied into memory, and lifted there
module _ (S : Side) (x z : ℕ → ℤ) (g : 0 < S.length) where
  abbrev N : ℕ
  N = S.length

  abbrev low : ℕ
  low = count lo S

  abbrev b : ℕ
  b = S.start % 2

  abbrev pub copied : ℕ → ℤ
  copied = spliced 0 low (evens_copied (N - b) (windowed b (N - b) x) (windowed 0 low z)) z

  abbrev pub twice : ℕ → ℤ
  twice = spliced low (N - low) (evens_copied (N - (1 - b)) (windowed (1 - b) (N - (1 - b)) x) (windowed low (N - low) copied)) copied

  -- where each half begins, what it has is there
  low-evens : low ≡ N - b - (N - b) / 2
  unfolding count
  low-evens = omega arith

  high-evens : N - low ≡ N - (1 - b) - (N - (1 - b)) / 2
  unfolding count
  high-evens = omega arith

  low-reach : (n : ℕ) → n < low → 2 * n < N - b
  unfolding count
  low-reach n h = omega arith

  high-reach : (n : ℕ) → n < count hi S → 2 * n < N - (1 - b)
  unfolding count
  high-reach n h = omega arith

  copied-low : (n : ℕ) → n < low → twice n ≡ x (place S lo n)
  unfolding place
  copied-low n h =
      let e = low-evens in
      let k : n - 0 ≡ n = omega arith in
      let i : b + 2 * n ≡ 2 * n + b = omega arith in
      splice-below low (N - low) _ copied n h
      ∙ splice-in 0 low _ z n (omega arith) (omega arith)
      ∙ ap (evens_copied (N - b) (windowed b (N - b) x) (windowed 0 low z)) k
      ∙ evens-in (N - b) _ _ n (omega arith)
      ∙ window-in b (N - b) x (2 * n) (low-reach n h)
      ∙ ap x i

  copied-high : (n : ℕ) → n < count hi S → twice (low + n) ≡ x (place S hi n)
  unfolding place
  copied-high n h =
      let both = counts S in
      let e = high-evens in
      let k : low + n - low ≡ n = omega arith in
      let i : 1 - b + 2 * n ≡ 2 * n + (1 - b) = omega arith in
      splice-in low (N - low) _ copied (low + n) (omega arith) (omega arith)
      ∙ ap (evens_copied (N - (1 - b)) (windowed (1 - b) (N - (1 - b)) x) (windowed low (N - low) copied)) k
      ∙ evens-in (N - (1 - b)) _ _ n (omega arith)
      ∙ window-in (1 - b) (N - (1 - b)) x (2 * n) (high-reach n h)
      ∙ ap x i

  copied-past : (j : ℕ) → N ≤ j → twice j ≡ z j
  copied-past j h =
      let both = counts S in
      splice-past low (N - low) _ copied j (omega arith) ∙ splice-past 0 low _ z j (omega arith)

  abbrev pub lent : ℕ → ℤ
  lent = windowed 0 N twice

  lent-in : (j : ℕ) → j < N → lent j ≡ twice j
  lent-in j h = let k : 0 + j ≡ j = omega arith in window-in 0 N twice j h ∙ ap twice k

  -- the line whose halves are lent
  copied-half : (h : Half) (n : ℕ) → n < count h S → halves_of S lent h n ≡ x (place S h n)
  unfolding halves_of
  copied-half lo n b = let both = counts S in lent-in n (omega arith) ∙ copied-low n b
  copied-half hi n b = let both = counts S in lent-in (low + n) (omega arith) ∙ copied-high n b

  copied-line : (i : ℕ) → i < N → x i ≡ joined S (halves_of S lent) i
  unfolding deinterleaved
  copied-line i h = sym (joined-reads S (halves_of S lent) (deinterleaved S x) copied-half i h ∙ joined-deinterleaved S x i)

  back_in : (j : ℕ) → j < N → spliced 0 N (lifted_in_place S lent) twice j ≡ lifted_in_place S lent j
  back_in j h = let k : j - 0 ≡ j = omega arith in splice-in 0 N (lifted_in_place S lent) twice j (omega arith) (omega arith) ∙ ap (lifted_in_place S lent) k

  pub forward-is : forward_into S x z ≡ spliced 0 N (lifted_in_place S lent) twice
  unfolding forward_into lifted_in_place
  forward-is =
      let both = counts S in
      let p = line_forward wrap32 S (joined S (halves_of S lent)) in
      halves_are S _ z _
      (λ n h. forward-reads wrap32 S x _ lo n h (λ i m _. copied-line i m) ∙ sym (back_in n (omega arith) ∙ halves-low S p lent n h))
      (λ n h.
      let k : low + n - low ≡ n = omega arith in
      forward-reads wrap32 S x _ hi n h (λ i m _. copied-line i m)
      ∙ sym (back_in (low + n) (omega arith) ∙ halves-high S p lent (low + n) (omega arith) (omega arith) ∙ ap (p hi) k))
      (λ j h. sym (splice-past 0 N (lifted_in_place S lent) twice j (omega arith) ∙ copied-past j h))

-- no line, no number
pub forward-none : (S : Side) (x z : ℕ → ℤ) → S.length ≡ 0 → forward_into S x z ≡ z
unfolding forward_into
forward-none S x z e =
    let both = counts S in
    halves_are S _ z z (λ n h. absurd (omega arith)) (λ n h. absurd (omega arith)) (λ j h. refl)

-- the same over the parts that are lent: o₁ and o₂ are the halves that come back, o₃ the line
pub forward-parts : (S : Side) (x z z₁ z₂ o₁ o₂ o₃ : List ℤ) (low l₀ n₀ : ℕ) → 0 < S.length → S.length ≡ length x → length x ≤ length z → low ≡ count lo S
    → l₀ ≡ low → n₀ ≡ length x → length o₁ ≡ length (mid_of 0 l₀ z)
    → at o₁ ≡ evens_copied (length (mid_of (S.start % 2) (length x - S.start % 2) x)) (at (mid_of (S.start % 2) (length x - S.start % 2) x))
    (at (mid_of 0 l₀ z)) → z₁ ≡ put_mid 0 l₀ z o₁ → length o₂ ≡ length (mid_of low (length x - low) z₁) → at o₂ ≡ evens_copied
    (length (mid_of (1 - S.start % 2) (length x - (1 - S.start % 2)) x)) (at (mid_of (1 - S.start % 2) (length x - (1 - S.start % 2)) x))
    (at (mid_of low (length x - low) z₁)) → z₂ ≡ put_mid low (length x - low) z₁ o₂ → length o₃ ≡ length (mid_of 0 n₀ z₂) → at o₃ ≡ lifted_in_place
    (side S.start (length (mid_of 0 n₀ z₂))) (at (mid_of 0 n₀ z₂)) → at (put_mid 0 n₀ z₂ o₃) ≡ forward_into S (at x) (at z)
forward-parts S x z z₁ z₂ o₁ o₂ o₃ low l₀ n₀ g en room el e₀ m₀ s₁ i₁ is₁ s₂ i₂ is₂ s₃ i₃ =
    let both = counts S in
    let b = S.start % 2 in
    let N = length x in
    let k₁ : length z₁ ≡ length z = ap length is₁ ∙ same_len_mid 0 l₀ z o₁ s₁ in
    let k₂ : length z₂ ≡ length z₁ = ap length is₂ ∙ same_len_mid low (N - low) z₁ o₂ s₂ in
    let f₁ = length-mid 0 l₀ z (omega arith) in
    let f₂ = length-mid low (N - low) z₁ (omega arith) in
    let f₃ = length-mid 0 n₀ z₂ (omega arith) in
    let h₁ = length-mid b (N - b) x (omega arith) in
    let h₂ = length-mid (1 - b) (N - (1 - b)) x (omega arith) in
    let one : at z₁ ≡ copied S (at x) (at z) g =
    cc (is₁, e₀, el, en, h₁, i₁, at_mid b (N - b) x, at_mid 0 l₀ z, at-put 0 l₀ z o₁ (omega arith) (omega arith)) in
    let two : at z₂ ≡ twice S (at x) (at z) g =
    cc (one, is₂, el, en, h₂, i₂, at_mid (1 - b) (N - (1 - b)) x, at_mid low (N - low) z₁, at-put low (N - low) z₁ o₂ (omega arith) (omega arith)) in
    let same : side S.start (length (mid_of 0 n₀ z₂)) ≡ S = ap (side S.start) (f₃ ∙ m₀ ∙ sym en) in
    cc (two, m₀, en, same, i₃, at_mid 0 n₀ z₂, at-put 0 n₀ z₂ o₃ (omega arith) (omega arith), forward-is S (at x) (at z) g)

-- a part of all but none, and none of it
pub from-none : (n : ℕ) → 0 ≤ n
from-none n = omega arith

pub to-all : (n : ℕ) → n ≤ n
to-all n = omega arith

pub less_none : (n : ℕ) → n - 0 ≡ n
less_none n = omega arith

pub up-to : (n m k : ℕ) → n ≤ m → k ≡ m → n ≤ k
up-to n m k h e = omega arith

-- room for half of a part in another
part_room : (x z : List ℤ) (a n b m : ℕ) → a + n ≤ length x → b + m ≤ length z → n ≤ m + m
    → length (mid_of a n x) ≤ length (mid_of b m z) + length (mid_of b m z)
part_room x z a n b m g h e = rw (length-mid a n x g, length-mid b m z h) e

-- a line, its low numbers and a memory of M numbers
pub record Parts (S : Side) (M low : ℕ) : Type 0 where
  pub some : 0 < S.length
  pub room : S.length ≤ M
  pub small : S.length * 4 < 2 ^ 63
  pub lows : low ≡ count lo S

module _ {S : Side} {M low : ℕ} (p : Parts S M low) where
  pub part-sums : Fits w64 (S.start % 2 * 4) × Fits w64 ((1 - S.start % 2) * 4) × Fits w64 (low * 4)
  part-sums = let both = counts S in omega arith

  pub part-starts : (S.start % 2 ≤ S.length) × (1 - S.start % 2 ≤ S.length) × (low ≤ S.length) × (low ≤ M) × (S.start % 2 ≤ 1)
  part-starts = let both = counts S in omega arith

  pub low-room : (x z : List ℤ) → S.length ≡ length x → length z ≡ M
      → length (mid_of (S.start % 2) (S.length - S.start % 2) x) ≤ length (mid_of 0 (low - 0) z) + length (mid_of 0 (low - 0) z)
  low-room x z ex ez =
      let both = counts S in
      let d = (every-second S).0 in
      part_room x z (S.start % 2) (S.length - S.start % 2) 0 (low - 0) (omega arith) (omega arith) (omega arith)

  pub high-room : (x z : List ℤ) → S.length ≡ length x → length z ≡ M
      → length (mid_of (1 - S.start % 2) (S.length - (1 - S.start % 2)) x) ≤ length (mid_of low (S.length - low) z) + length (mid_of low (S.length - low) z)
  high-room x z ex ez =
      let both = counts S in
      let d = (every-second S).1 in
      part_room x z (1 - S.start % 2) (S.length - (1 - S.start % 2)) low (S.length - low) (omega arith) (omega arith) (omega arith)
