-- A set is made, whatever the filter: what it changes, and that its rows stand where they wait, if the level holds what it should. Assumes nothing.
use mathlib.Core.Path.{◌≡◌, sym, ap, ◌∙◌}
use mathlib.Core.Bool.{true}
use Prim.Native.Nat.{ℕ, suc, ◌+◌, ◌-◌, ◌*◌, ◌/◌, ◌%◌, ◌≤◌, ◌<◌}
use native.Mathlib.Decide.{ℕ_discrete}
use native.Mathlib.Omega.{arith}
use lib.IntN.{ℤ}
use borrow.Author.Tests.{le-leb, lt-ltb}
use Rattle.numbers.specs.Word.{wrap32}
use Rattle.lifting.specs.Line.{Half, lo, hi}
use Rattle.lifting.specs.Grid.{Side, count}
use Rattle.wavelet.specs.Bands.{Grid, across, down, columns_lifted, subband}
use Rattle.wavelet.specs.Order.{first_set, set_row}
use Rattle.wavelet.proofs.SideLaws.{count-lo, count-hi}
use Rattle.level.specs.Level.{Memory, SetStands}
use Rattle.level.specs.Stretch.{slot, row_place, half_place, RowStands}
use Rattle.level.proofs.RowsIn.{Only, is-old}
use Rattle.analysis.specs.Columns.{Columns}
use Rattle.analysis.specs.Sets.{has_row, waits, row_copied, high_made, low_made, high_copied, columns_made, wait_lifted, set_made, band_place}
use Rattle.analysis.specs.Stands.{Row, row_of, high, Left}
use Rattle.analysis.specs.Forward.{level_by}
use Rattle.analysis.proofs.ColumnLaws.{ColumnLaws}
use Rattle.analysis.proofs.Rows.{only_then, only_if, some, far, even_odd, odd_even, only-copied, copied-row, only-lifted, lifted-row}

pub has-row : (H : Side) (h : Half) (n : ℕ) → first_set H h ≤ n → n - first_set H h < count h H → has_row H h n ≡ true
unfolding has_row
has-row H h n f b = simp (le-leb (first_set H h) n f, lt-ltb (n - first_set H h) (count h H) b)

pub has-low : (H : Side) (n : ℕ) → H.start % 2 ≤ n → n - H.start % 2 < count lo H → has_row H lo n ≡ true
unfolding first_set
has-low H n f b = has-row H lo n f b

pub has-high : (H : Side) (n : ℕ) → n < count hi H → has_row H hi n ≡ true
unfolding first_set
has-high H n b = has-row H hi n (omega arith) (omega arith)

module _ (C : Columns) (L : ColumnLaws C) where
  -- where the low row waits is an even row's slot, where the high row waits an odd one's
  low-even : (n : ℕ) → 2 * (waits C lo n / 2) ≡ waits C lo n
  low-even n = omega arith

  high-odd : (n : ℕ) → 2 * (waits C hi n / 2) + 1 ≡ waits C hi n
  high-odd n = omega (arith, L.looks)

  abbrev Apart : ℕ → ℕ → Type 0
  Apart t q = slot C.filter.rows t ≡ slot C.filter.rows q → ⊥

  low-off : (n j : ℕ) → Apart (waits C lo n) (2 * j + 1)
  low-off n j e = even_odd C L (waits C lo n / 2) j (ap (slot C.filter.rows) (low-even n) ∙ e)

  high-off : (n j : ℕ) → Apart (waits C hi n) (2 * j)
  high-off n j e = odd_even C L j (waits C hi n / 2) (ap (slot C.filter.rows) (high-odd n) ∙ e)

  low-high : (n : ℕ) → Apart (waits C lo n) (waits C hi n)
  low-high n e = low-off n (waits C hi n / 2) (e ∙ ap (slot C.filter.rows) (sym (high-odd n)))

  module _ (w : ℕ) (H : Side) (n : ℕ) (x : Memory) where
    abbrev Changes : ℕ → Memory → Type 0
    Changes t = Only C.filter.rows w t x

    pub high-only : Changes (2 * n + 1) (high_made C w H n x)
    unfolding high_made
    high-only = only_if (has_row H hi n) (L.only_high w H (2 * n + 1) x)

    pub low-only : Changes (waits C lo n) (low_made C w H n x)
    unfolding low_made
    low-only = only_if (has_row H lo n) (only_then (only-copied C L H (2 * n) x w (waits C lo n)) (L.only-low w H (waits C lo n) (2 * n) _))

    pub copied-only : Changes (waits C hi n) (high_copied C w H n x)
    unfolding high_copied
    copied-only = only_if (has_row H hi n) (only-copied C L H (2 * n + 1) x w (waits C hi n))

  pub wait-only : (h : Half) (W H : Side) (n : ℕ) (x : Memory) → Only C.filter.rows W.length (waits C h n) x (wait_lifted C h W H n x)
  unfolding wait_lifted
  wait-only h W H n x = only_if (has_row H h n) (only-lifted C L W (waits C h n) x)

  module _ (W H : Side) (n : ℕ) (x : Memory) where
    abbrev w : ℕ
    w = W.length

    abbrev x1 : Memory
    x1 = high_made C w H n x

    abbrev x2 : Memory
    x2 = low_made C w H n x1

    abbrev x3 : Memory
    x3 = high_copied C w H n x2

    abbrev x4 : Memory
    x4 = wait_lifted C lo W H n x3

    pub made-past : (j : ℕ) → C.filter.rows * W.length ≤ j → set_made C W H n x j ≡ x j
    unfolding set_made columns_made
    made-past j h =
        (wait-only hi W H n x4).past j h ∙ (wait-only lo W H n x3).past j h ∙ (copied-only w H n x2).past j h ∙ (low-only w H n x1).past j h
        ∙ (high-only w H n x).past j h

    -- a row in none of the slots where rows wait stays as it is once the high row is made,
    pub stays : (q : ℕ) (c : Half → ℕ → ℤ) → Apart (waits C lo n) q → Apart (waits C hi n) q → RowStands C.filter.rows W x1 q c
        → RowStands C.filter.rows W (set_made C W H n x) q c
    unfolding set_made columns_made
    stays q c a b s =
        is-old (some C L) W (waits C hi n) x4 _ q c (wait-only hi W H n x4) b
        (is-old (some C L) W (waits C lo n) x3 x4 q c (wait-only lo W H n x3) a
        (is-old (some C L) W (waits C hi n) x2 x3 q c (copied-only w H n x2) b
        (is-old (some C L) W (waits C lo n) x1 x2 q c (low-only w H n x1) a s)))

    -- and any other than that one before it, too
    pub keeps : (q : ℕ) (c : Half → ℕ → ℤ) → Apart (2 * n + 1) q → RowStands C.filter.rows W x q c → RowStands C.filter.rows W x1 q c
    keeps q c d s = is-old (some C L) W (2 * n + 1) x x1 q c (high-only w H n x) d s

  -- ---- the level holds all rows H, and the sets before n are made
  module _ (W H : Side) (g : Grid) (n : ℕ) (x : Memory) (k : Left C W H g n x) where
    abbrev p : ℕ
    p = H.start % 2

    abbrev Is : Memory → ℕ → (ℕ → ℤ) → Type 0
    Is = Row C W H g

    -- ---- the high row made
    module _ (b : n < count hi H) where
      high-1 : Is (x1 W H n x) (2 * n + 1) (high C W H g n)
      unfolding high_made
      high-1 =
          rw (has-high H n b)
          (L.high_is W H g n x b (k.odd n (omega arith) (omega (arith, count-hi H))) (λ j f l e. k.even j f l e))

      high-2 : Is (x2 W H n x) (2 * n + 1) (high C W H g n)
      high-2 = is-old (some C L) W (waits C lo n) _ _ (2 * n + 1) _ (low-only W.length H n (x1 W H n x)) (low-off n n) high-1

      copy-3 : Is (x3 W H n x) (waits C hi n) (high C W H g n)
      unfolding high_copied
      copy-3 = rw (has-high H n b) (copied-row C L W (2 * n + 1) (x2 W H n x) (waits C hi n) _ high-2)

      copy-4 : Is (x4 W H n x) (waits C hi n) (high C W H g n)
      copy-4 = is-old (some C L) W (waits C lo n) _ _ (waits C hi n) _ (wait-only lo W H n (x3 W H n x)) (low-high n) copy-3

      pub high-waits : RowStands C.filter.rows W (set_made C W H n x) (waits C hi n) (C.filter.forward wrap32 W (high C W H g n))
      unfolding set_made columns_made wait_lifted
      high-waits = rw (has-high H n b) (lifted-row C L W (waits C hi n) _ _ copy-4)

      -- d(n) stays for the next set
      pub high-stays : Is (set_made C W H n x) (2 * n + 1) (high C W H g n)
      high-stays =
          stays W H n x (2 * n + 1) _ (low-off n n)
          (far C L (waits C hi n) (2 * n + 1) (λ e. omega (arith, L.looks)) (omega (arith, L.looks)) (omega (arith, L.looks))) high-1

    -- ---- the low row made
    module _ (f : p ≤ n) (b : n - p < count lo H) where
      copy-1 : Is (row_copied C W.length (2 * n) (waits C lo n) (x1 W H n x)) (waits C lo n) (row_of C W H g (2 * n))
      copy-1 =
          copied-row C L W (2 * n) (x1 W H n x) (waits C lo n) _
          (keeps W H n x (2 * n) _ (odd_even C L n n) (k.even n f (omega (arith, L.looks)) (omega (arith, count-lo H))))

      -- a high row beside it stands: d(n − 1) or d(n)
      beside : (j : ℕ) → j < count hi H → j ≤ n → n ≤ j + 1
          → Is (row_copied C W.length (2 * n) (waits C lo n) (x1 W H n x)) (2 * j + 1) (high C W H g j)
      beside j c l m =
          is-old (some C L) W (waits C lo n) _ _ (2 * j + 1) _ (only-copied C L W (2 * n) (x1 W H n x) W.length (waits C lo n)) (low-off n j)
          (elim (ℕ_discrete j n) [
            | yes d ↦ rw d (high-1 (omega arith))
            | no d ↦
                keeps W H n x (2 * j + 1) _ (far C L (2 * n + 1) (2 * j + 1) (λ e. d (omega arith)) (omega (arith, L.looks)) (omega (arith, L.looks)))
                (k.high j (omega (arith, d)) (omega (arith, count-hi H)))
          ])

      low-2 : Is (x2 W H n x) (waits C lo n) (columns_lifted C.filter wrap32 H g lo (n - p))
      unfolding low_made
      low-2 = rw (has-low H n f b) (L.low-is W H g n (waits C lo n) _ f b copy-1 beside)

      low-3 : Is (x3 W H n x) (waits C lo n) (columns_lifted C.filter wrap32 H g lo (n - p))
      low-3 =
          is-old (some C L) W (waits C hi n) _ _ (waits C lo n) _ (copied-only W.length H n (x2 W H n x)) (λ e. low-high n (sym e)) low-2

      pub low-waits : RowStands C.filter.rows W (set_made C W H n x) (waits C lo n)
          (C.filter.forward wrap32 W (columns_lifted C.filter wrap32 H g lo (n - p)))
      unfolding set_made columns_made
      low-waits =
          is-old (some C L) W (waits C hi n) (x4 W H n x) _ (waits C lo n) _ (wait-only hi W H n (x4 W H n x)) (λ e. low-high n (sym e)) lifted
        where
          lifted : RowStands C.filter.rows W (x4 W H n x) (waits C lo n) (C.filter.forward wrap32 W (columns_lifted C.filter wrap32 H g lo (n - p)))
          lifted = unfold wait_lifted in (rw (has-low H n f b) (lifted-row C L W (waits C lo n) _ _ low-3))

    -- its rows stand where they wait
    half-stands : (h : Half) → first_set H h ≤ n → n - first_set H h < count h H → RowStands C.filter.rows W (set_made C W H n x) (waits C h n)
        (C.filter.forward wrap32 W (columns_lifted C.filter wrap32 H g h (n - first_set H h)))
    unfolding first_set
    half-stands lo f b = low-waits f b
    half-stands hi f b = let z : n - 0 ≡ n = omega arith in rw z (high-waits (omega arith))

    pub set-stands : SetStands (level_by C) W H g n (set_made C W H n x)
    unfolding band_place subband set_row
    set-stands b i f c h =
        let e : row_place C.filter.rows W.length (waits C (down b) n) + half_place (across b) W + i
        ≡ row_place C.filter.rows W.length (waits C (down b) n) + (half_place (across b) W + i) = omega arith in
        ap (set_made C W H n x) e ∙ half-stands (down b) f c (across b) i h

    -- and the level holds what the next set needs
    pub set-left : Left C W H g (suc n) (set_made C W H n x)
    set-left =
        let e = k.near in
        let a = L.looks in
        record {
          near = omega arith;
          even = λ i f l m.
              stays W H n x (2 * i) _ (far C L (waits C lo n) (2 * i) (λ z. omega arith) (omega arith) (omega arith)) (high-off n i)
              (keeps W H n x (2 * i) _ (odd_even C L i n) (k.even i f (omega arith) m));
          odd = λ i l m.
              stays W H n x (2 * i + 1) _ (low-off n i) (far C L (waits C hi n) (2 * i + 1) (λ z. omega arith) (omega arith) (omega arith))
              (keeps W H n x (2 * i + 1) _ (far C L (2 * n + 1) (2 * i + 1) (λ z. omega arith) (omega arith) (omega arith)) (k.odd i (omega arith) m));
          high = λ i l m. let z : i ≡ n = omega arith in rw z (high-stays (omega (arith, count-hi H)));
        }
