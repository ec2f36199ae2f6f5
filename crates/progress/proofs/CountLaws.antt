-- The laws of the derived numbers, as the code's branches meet them. Assumes nothing.
use Rattle.std.proofs.Common.{◌≡◌, ℕ, zero, suc, ◌+◌, ◌-◌, ◌*◌, ◌/◌, ◌%◌, ◌^◌, ◌<◌, ◌≤◌, min, Bool, true, false, eqb, ltb, leb, sym, refl, ap, ◌∙◌, ap₂, mul-suc, arith, ltb-true, le-ltb, lt-ltb, eq-eqb, ne_eqb, eqb-true, le-leb, leb-true}
use native.Mathlib.Decide.{dec_lt, ℕ_discrete}
use Rattle.lifting.specs.Line.{lo, hi}
use Rattle.lifting.specs.Grid.{Side, side, count}
use Rattle.wavelet.specs.Bands.{Band, LL, HL, LH, HH, code, across, down}
use Rattle.wavelet.specs.Levels.{next}
use Rattle.wavelet.specs.Order.{first_set, set_row, set_has}
use Rattle.wavelet.proofs.StoreLaws.{store-none, store_below}
use Rattle.wavelet.proofs.SideLaws.{count-lo, count-hi, next_start, next-length}
use Rattle.filters.specs.Filters.{filter_of}
use Rattle.level.specs.Level.{prev, completes}
use Rattle.level.proofs.Places.{prev-is}
use Rattle.filters.proofs.FigureLaws.{store-few}
use Rattle.progress.specs.Counts.{deeper, deeper_by, further, made, most, most_left, band_at, skip, start_of}
use borrow.Author.Tests.{lt-leb}
use Rattle.numbers.specs.Signal.{both, pick}
use Rattle.numbers.proofs.Sweep as sweep

pub deeper-none : (v : ℕ) → v ≡ 0 → 0 ≡ deeper v
unfolding deeper
deeper-none zero e = refl
deeper-none (suc v) e = absurd (omega arith)

pub deeper-some : (v : ℕ) → 0 < v → v + 1 ≡ deeper v
unfolding deeper
deeper-some zero h = absurd (omega arith)
deeper-some (suc v) h = omega arith

pub deeper-le : (v l : ℕ) → v ≤ l → deeper v ≤ l + 1
unfolding deeper
deeper-le zero l h = omega arith
deeper-le (suc v) l h = omega arith

-- codes tell bands apart
uncode : ℕ → Band
uncode zero = LL
uncode (suc zero) = HL
uncode (suc (suc zero)) = LH
uncode (suc (suc (suc c))) = HH

code-back : (b : Band) → uncode (code b) ≡ b
unfolding uncode code
code-back LL = refl
code-back HL = refl
code-back LH = refl
code-back HH = refl

pub code_one : (b d : Band) → code b ≡ code d → b ≡ d
code_one b d e = sym (code-back b) ∙ ap uncode e ∙ code-back d

-- what can be left: nowhere, at the first level, and seen from the level above
pub left-none : (l v : ℕ) → v ≡ 0 → 0 ≡ most_left l v
unfolding most_left
left-none l zero e = refl
left-none l (suc v) e = absurd (omega arith)

pub left-some : (l v : ℕ) → 0 < v → most (l - v) ≡ most_left l v
unfolding most_left
left-some l zero h = absurd (omega arith)
left-some l (suc v) h = refl

pub left-first : (l : ℕ) → most_left (suc l) 1 ≡ most l
unfolding most_left
left-first l = ap most (omega arith)

pub left-under : (l v : ℕ) → most_left (suc l) (deeper v) ≡ most_left l v
unfolding most_left deeper
left-under l zero = refl
left-under l (suc v) = ap most (omega arith)

pub left-next : (l v : ℕ) → most_left (suc l) (suc (suc v)) ≡ most_left l (suc v)
unfolding most_left
left-next l v = ap most (omega arith)

pub deeper-by-none : (k v : ℕ) → v ≡ 0 → 0 ≡ deeper_by k v
unfolding deeper_by
deeper-by-none k zero e = refl
deeper-by-none k (suc v) e = absurd (omega arith)

pub deeper-by-some : (k v : ℕ) → 0 < v → v + k ≡ deeper_by k v
unfolding deeper_by
deeper-by-some k zero h = absurd (omega arith)
deeper-by-some k (suc v) h = refl

pub deeper-by-le : (k v : ℕ) → deeper_by k v ≤ v + k
unfolding deeper_by
deeper-by-le k zero = omega arith
deeper-by-le k (suc v) = omega arith

pub deeper-by-same : (v : ℕ) → deeper_by 0 v ≡ v
unfolding deeper_by
deeper-by-same zero = refl
deeper-by-same (suc v) = omega arith

pub deeper-by-more : (k v : ℕ) → deeper (deeper_by k v) ≡ deeper_by (suc k) v
deeper-by-more k v =
    elim (dec_lt 0 v) [
      | yes h ↦
          let a = deeper-by-some k v h in
          let b = deeper-by-some (suc k) v h in
          sym (ap deeper a) ∙ sym (deeper-some (v + k) (omega arith)) ∙ omega arith
      | no d ↦ sym (ap deeper (deeper-by-none k v (omega arith))) ∙ sym (deeper-none 0 refl) ∙ deeper-by-none (suc k) v (omega arith)
    ]

pub deeper-by-one : (v : ℕ) → deeper_by 1 v ≡ deeper v
unfolding deeper_by deeper
deeper-by-one zero = refl
deeper-by-one (suc v) = omega arith

-- ---- where a stretch begins
pub further-none : (v a o : ℕ) → v ≡ 0 → 0 ≡ further v a o
unfolding further
further-none zero a o e = refl
further-none (suc v) a o e = absurd (omega arith)

pub further-some : (v a o : ℕ) → 0 < v → a + o ≡ further v a o
unfolding further
further-some zero a o h = absurd (omega arith)
further-some (suc v) a o h = refl

-- at the filter of number f
module _ (f : ℕ) where
  pub start_first : (w : Side) (v : ℕ) → v ≤ 1 → start_of f w v ≡ 0
  start_first w zero h = store-none (filter_of f).rows w
  start_first w (suc zero) h = store-none (filter_of f).rows w
  start_first w (suc (suc v)) h = absurd (omega arith)

  -- one level deeper
  pub start-more : (w : Side) (v : ℕ) → 1 < v → (filter_of f).rows * w.length + start_of f (next w) (v - 1) ≡ start_of f w v
  start-more w zero h = absurd (omega arith)
  start-more w (suc zero) h = absurd (omega arith)
  start-more w (suc (suc v)) h = let e : suc (suc v) - 1 ≡ suc v = omega arith in rw e (sym (store_below (filter_of f).rows w v))

  -- seen from the level above
  pub start-deeper : (w : Side) (v : ℕ) → start_of f w (deeper v) ≡ further v ((filter_of f).rows * w.length) (start_of f (next w) v)
  unfolding deeper further
  start-deeper w zero = store-none (filter_of f).rows w
  start-deeper w (suc v) = store_below (filter_of f).rows w v

  pub start_small : (w : Side) (v : ℕ) → w.length < 2 ^ 16 → v < 2 ^ 16 → start_of f w v < 2 ^ 32
  start_small w v h g = omega (arith, store-few f w (prev v), prev-is v)

-- ---- the steps of l levels, a of them each
pub steps-more : (a l : ℕ) → 0 < l → a * l ≡ a + a * (l - 1)
steps-more a zero h = absurd (omega arith)
steps-more a (suc l) h = let e : suc l - 1 ≡ l = omega arith in rw e (omega (arith, mul-suc a l))

-- ---- how many sets are made, at the look-ahead a
pub ahead-some : (f : ℕ) → 1 ≤ (filter_of f).ahead
unfolding filter_of
ahead-some zero = omega arith
ahead-some (suc f) = omega arith

pub made-is : (a c s m : ℕ) → made a c s m ≡ min ((s % 2 + m + 1) / 2) ((s % 2 + (m - 1)) / 2 + 1 - a + c)
unfolding made
made-is a c s m = refl

-- by the rows alone
pub made-open : (a s m : ℕ) → 1 ≤ a → made a 0 s m ≡ (s % 2 + (m - 1)) / 2 + 1 - a
made-open a s m one = omega (arith, made-is a 0 s m)

-- by all steps of the closing
pub made-closed : (a c s m : ℕ) → 1 ≤ a → a ≤ c → made a c s m ≡ (s % 2 + m + 1) / 2
made-closed a c s m one h = omega (arith, made-is a c s m)

-- no more than there are, so no more than the rows, but for a set of a high row alone
pub made-most : (a c s m : ℕ) → made a c s m ≤ (s % 2 + m + 1) / 2
made-most a c s m = omega (arith, made-is a c s m)

-- as the code counts them: no sum is more than there are
pub made_all : (a c s m n : ℕ) → 1 ≤ a → n ≡ m / 2 + (s % 2 + m % 2 + 1) / 2 → a ≤ c → n ≡ made a c s m
made_all a c s m n one e h = omega (arith, made-closed a c s m one h)

pub made-few : (a c s m n k : ℕ) → n ≡ m / 2 + (s % 2 + m % 2 + 1) / 2 → k ≡ (s % 2 + (m - 1)) / 2 + 1 - a + c → n < k → n ≡ made a c s m
made-few a c s m n k e d h = omega (arith, made-is a c s m)

pub made_some : (a c s m n k : ℕ) → n ≡ m / 2 + (s % 2 + m % 2 + 1) / 2 → k ≡ (s % 2 + (m - 1)) / 2 + 1 - a + c → k ≤ n → k ≡ made a c s m
made_some a c s m n k e d h = omega (arith, made-is a c s m)

pub made-le : (a c s m : ℕ) → made a c s m ≤ m + 1
made-le a c s m = omega (arith, made-most a c s m)

-- a step makes one more while one is left
pub made-step : (a c s m n : ℕ) → 0 < m → made a c s m ≡ n → n ≤ (s % 2 + (m - 1)) / 2 → made a (suc c) s m ≡ suc n
made-step a c s m n h e p = omega (arith, made-is a c s m, made-is a (suc c) s m)

pub made-stop : (a c s m : ℕ) → (s % 2 + (m - 1)) / 2 < made a c s m → made a (suc c) s m ≡ made a c s m
made-stop a c s m p = omega (arith, made-is a c s m, made-is a (suc c) s m)

-- what they give the next level
pub low-le : (a c s m : ℕ) → made a c s m - s % 2 ≤ m
low-le a c s m = omega (arith, made-most a c s m)

pub low-closed : (a c s m : ℕ) → 1 ≤ a → a ≤ c → made a c s m - s % 2 ≡ count lo (side s m)
unfolding count
low-closed a c s m one h = omega (arith, made-closed a c s m one h)

pub low-none : (a c s m : ℕ) → m ≡ 0 → made a c s m - s % 2 ≡ 0
low-none a c s m e = omega (arith, made-most a c s m)

-- ---- the next level, as the code finds it
pub start_is : (s b : ℕ) → ((n : ℕ) → b ≡ (next (side s n)).start) → b ≡ (s + 1) / 2
start_is s b e = e 0 ∙ next_start (side s 0)

pub next-is : (s n b m : ℕ) → ((n : ℕ) → b ≡ (next (side s n)).start) → m ≡ count lo (side s n) → side b m ≡ next (side s n)
next-is s n b m e f = ap₂ side (e n) (f ∙ sym (next-length (side s n)))

-- ---- whether a row completes a set
pub completes-yes : (a s m n : ℕ) → s % 2 + m ≡ 2 * n + 2 * a → completes a s m ≡ true
unfolding completes
completes-yes a s m n e = simp (eq-eqb ((s % 2 + m) % 2) 0 (omega arith), le-leb (2 * a) (s % 2 + m) (omega arith))

-- of the first of l levels: no level is there, no set is complete yet, or the row's parity says
pub off-none : (a l s m : ℕ) → l ≡ 0 → false ≡ both (ltb 0 l) (completes a s m)
off-none a l s m e = simp (le-ltb 0 l (omega arith))

pub off-early : (a l s m : ℕ) → 1 ≤ a → m < 2 * a - s % 2 → false ≡ both (ltb 0 l) (completes a s m)
unfolding completes
off-early a l s m one h = simp (lt-leb (2 * a) (s % 2 + m) (omega arith)) (none (ltb 0 l) (eqb ((s % 2 + m) % 2) 0))
  where
    none : (b t : Bool) → false ≡ both b (both t false)
    none true true = refl
    none true false = refl
    none false t = refl

pub off-late : (a l s m : ℕ) → 0 < l → 2 * a - s % 2 ≤ m → eqb (s % 2) (m % 2) ≡ both (ltb 0 l) (completes a s m)
unfolding completes
off-late a l s m p h =
    simp (lt-ltb 0 l p, le-leb (2 * a) (s % 2 + m) (omega arith))
    (elim (ℕ_discrete (s % 2) (m % 2)) [
      | yes d ↦ simp (eq-eqb (s % 2) (m % 2) d, eq-eqb ((s % 2 + m) % 2) 0 (omega arith))
      | no d ↦ simp (ne_eqb (s % 2) (m % 2) d, ne_eqb ((s % 2 + m) % 2) 0 (λ e. d (omega arith)))
    ])

-- of a row that does, the set; of one that does not, one set more is not made
pub completes-set : (a s m : ℕ) → completes a s m ≡ true → s % 2 + m ≡ 2 * ((s % 2 + m) / 2 - a) + 2 * a
unfolding completes
completes-set a s m e =
    let p = sweep.both (eqb ((s % 2 + m) % 2) 0) (leb (2 * a) (s % 2 + m)) e in
    omega (arith, eqb-true ((s % 2 + m) % 2) 0 p.0, leb-true (2 * a) (s % 2 + m) p.1)

rows-make : (a s m : ℕ) → 1 ≤ a → made a 0 s (suc m) ≡ (s % 2 + m) / 2 + 1 - a
rows-make a s m one = let e : suc m - 1 ≡ m = omega arith in made-open a s (suc m) one ∙ ap (λ i. (s % 2 + i) / 2 + 1 - a) e

pub completes-no : (a s m : ℕ) → 1 ≤ a → completes a s m ≡ false → made a 0 s (suc m) ≡ made a 0 s m
completes-no a s m one e =
    elim (ℕ_discrete ((s % 2 + m) % 2) 0) [
      | yes d ↦
          elim (dec_lt (s % 2 + m) (2 * a)) [
            | yes h ↦ omega (arith, rows-make a s m one, made-open a s m one)
            | no h ↦
                let z : false ≡ true = sym e ∙ completes-yes a s m ((s % 2 + m) / 2 - a) (omega arith) in
                let y : ◌≡◌ {A = ℕ} 0 1 = ap (λ t. pick t 1 0) z in
                absurd (omega arith)
          ]
      | no d ↦ omega (arith, d, rows-make a s m one, made-open a s m one)
    ]

-- ---- whether a set gives a row to the levels below
pub goes_none : (l s n : ℕ) → l ≡ 0 → false ≡ both (ltb 0 l) (leb (s % 2) n)
goes_none l s n e = simp (le-ltb 0 l (omega arith))

pub goes_some : (l s n : ℕ) → 0 < l → leb (s % 2) n ≡ both (ltb 0 l) (leb (s % 2) n)
goes_some l s n h = simp (lt-ltb 0 l h)

pub most-last : (l : ℕ) → l ≡ 0 → 4 ≡ most l
unfolding most
most-last zero e = refl
most-last (suc l) e = absurd (omega arith)

pub most-more : (l : ℕ) → 0 < l → 3 ≡ most l
unfolding most
most-more zero h = absurd (omega arith)
most-more (suc l) h = refl

-- a band past the fourth counts as the fourth
pub same-band : {A : Type 0} (f : Band → A) (k i : ℕ) → k ≡ min i 3 → f (band_at k) ≡ f (band_at i)
same-band f k i e = ap (λ (j : ℕ). f (band_at j)) e ∙ ap f (least i)
  where
    least : (i : ℕ) → band_at (min i 3) ≡ band_at i
    least zero = refl
    least (suc zero) = refl
    least (suc (suc zero)) = refl
    least (suc (suc (suc i))) = let e : min (suc (suc (suc i))) 3 ≡ 3 = omega arith in ap band_at e ∙ unfold band_at in refl

-- ---- the next band
module _ (W H : Side) (n : ℕ) where
  pub skip_stop : (k : ℕ) → 0 < k → set_has W H (band_at (k - 1)) n ≡ true → k ≡ skip W H n k
  unfolding skip
  skip_stop zero h e = absurd (omega arith)
  skip_stop (suc k) h e = let q : suc k - 1 ≡ k = omega arith in simp (rw q at e)

  pub skip-go : (k : ℕ) → 0 < k → set_has W H (band_at (k - 1)) n ≡ false → skip W H n (k - 1) ≡ skip W H n k
  unfolding skip
  skip-go zero h e = absurd (omega arith)
  skip-go (suc k) h e = let q : suc k - 1 ≡ k = omega arith in rw q (simp (rw q at e))

  -- where every band has a row in the set, none is passed over
  band-has : 1 < W.length → H.start % 2 ≤ n → n < count hi H → (b : Band) → set_has W H b n ≡ true
  unfolding set_has set_row first_set across down
  band-has h f g LL =
      simp (
        lt-ltb 0 (count lo W) (omega (arith, count-lo W)),
        le-leb (H.start % 2) n f,
        lt-ltb (n - H.start % 2) (count lo H)
            (omega (arith, count-lo H, count-hi H)),
      )
  band-has h f g HL =
      simp (
        lt-ltb 0 (count hi W) (omega (arith, count-hi W)),
        le-leb (H.start % 2) n f,
        lt-ltb (n - H.start % 2) (count lo H)
            (omega (arith, count-lo H, count-hi H)),
      )
  band-has h f g LH = simp (lt-ltb 0 (count lo W) (omega (arith, count-lo W)), le-leb 0 n (omega arith), lt-ltb (n - 0) (count hi H) (omega arith))
  band-has h f g HH = simp (lt-ltb 0 (count hi W) (omega (arith, count-hi W)), le-leb 0 n (omega arith), lt-ltb (n - 0) (count hi H) (omega arith))

  pub skip_all : (t : Bool) → t ≡ both (ltb 1 W.length) (both (leb (H.start % 2) n) (ltb n (count hi H))) → t ≡ true → (i : ℕ) → i ≡ skip W H n i
  unfolding skip
  skip_all t e h zero = refl
  skip_all t e h (suc i) =
      let p = sweep.both (ltb 1 W.length) _ (sym e ∙ h) in
      let q = sweep.both (leb (H.start % 2) n) _ p.1 in
      simp (band-has (ltb-true 1 W.length p.0) (leb-true (H.start % 2) n q.0) (ltb-true n (count hi H) q.1) (band_at i))

  pub skip-none : 0 ≡ skip W H n 0
  unfolding skip
  skip-none = refl
