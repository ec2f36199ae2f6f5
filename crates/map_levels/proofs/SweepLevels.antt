-- The levels of a map in sweeps: one level of one row, and from a level to the low-low part that it leaves. Assumes nothing.
use mathlib.Core.Path.{◌≡◌, refl, sym, ap, ◌∙◌, fun_ext}
use mathlib.Core.Bool.{Bool, true, false}
use Prim.Native.Nat.{ℕ, zero, suc, ◌+◌, ◌-◌, ◌*◌, ◌/◌, ◌%◌, ◌^◌, ◌≤◌, ◌<◌}
use mathlib.Core.List.{List}
use native.Mathlib.Nat.{div-add-mod', mod-lt, mul-le-mul_left, mul-le-mul, pow-le-pow_right, pow-suc, mul_assoc, mul_comm, suc-mul}
use native.Mathlib.Omega.{arith}
use lib.IntN.{ℤ}
use lib.ListN.{get_or}
use Rattle.numbers.specs.Signal.{pick}
use Rattle.numbers.specs.Word.{wrap32}
use Rattle.lifting.specs.Line.{lo}
use Rattle.lifting.specs.Grid.{Side, count}
use Rattle.lifting.specs.GridHalves.{lifted_in_place}
use Rattle.lifting.specs.FiveThree.{five_three_filter}
use Rattle.lifting.proofs.FiveThreeFilter.{five-three-laws}
use Rattle.lifting.proofs.GridLaws.{counts}
use Rattle.wavelet.specs.Bands.{Grid, LL, band_of, across, down, subband}
use Rattle.wavelet.specs.Plane.{cells, flat}
use Rattle.wavelet.specs.Levels.{next}
use Rattle.wavelet.proofs.GridLaws.{cells-flat}
use Rattle.wavelet.proofs.LevelTheory.{plane-reads}
use Rattle.wavelet.proofs.Bridge.{subband-range, subband-exact}
use Rattle.areas.specs.Areas.{heights_at}
use Rattle.map_levels.specs.Passes.{Rows, KeptFrom, within, grid_halved, grid_copied}
use Rattle.map_levels.specs.LevelPasses.{corner_grid, level_lifted, columns_lifted_in_place, plane_written, has_next}
use Rattle.map_levels.specs.Sweep.{level_written, source_grid, LevelArea, Small, Growing, LowSaved, LevelSwept}
use Rattle.map_levels.proofs.CellLaws.{by-within, half-low, halved-grid, halved-out, mapped_out, column-out, copied-in, copied-out, kept-flat}
use Rattle.map_levels.proofs.LevelMath.{level-forward}
use Rattle.map_levels.proofs.LevelsMath.{written_in, written_out, plane-corner, plane-rest, plane-last}
use Rattle.map_levels.proofs.ByFilterLaws.{five-three-level}
use Rattle.map_levels.proofs.TestLaws.{goes-no}
use Rattle.map_levels.proofs.ForwardSteps.{own-rows, own-end}
use Rattle.map_levels.proofs.LevelSteps.{rows-corner}
use Rattle.map_levels.proofs.SweepSets.{written_in as level_in, written_out as level_out}

-- cells that are all known
pub all-cells : (A : ℕ) (z : ℕ → ℤ) (Y : Grid) → 0 < A → ((r c : ℕ) → c < A → cells A z r c ≡ Y r c) → z ≡ flat A Y
unfolding flat cells
all-cells A z Y some e = fun_ext λ j. ap z (sym (div-add-mod' j A)) ∙ e (j / A) (j % A) (mod-lt j some)

all-rows : (w h : ℕ) → 0 < h → (h - 1) * w + w ≡ h * w
all-rows w zero g = absurd (omega arith)
all-rows w (suc h) g = let k : suc h - 1 ≡ h = omega arith in rw k (sym (suc-mul h w))

-- after one level none follows
one-level : (w h : ℕ) → has_next 1 w h ≡ false
unfolding has_next
one-level w h = refl

four-some : (L : ℕ) → 1 ≤ 4 ^ L
four-some zero = omega arith
four-some (suc L) = let h = four-some L in let p : 4 ^ suc L ≡ 4 ^ L * 4 = pow-suc 4 L in omega arith

four-more : (M L : ℕ) → 4 * M * 4 ^ L ≡ M * 4 ^ suc L
four-more M L =
    let p : 4 ^ suc L ≡ 4 ^ L * 4 = pow-suc 4 L in
    let q : M * (4 ^ L * 4) ≡ M * 4 ^ L * 4 = sym (mul_assoc M (4 ^ L) 4) in
    let r : 4 * M * 4 ^ L ≡ 4 * (M * 4 ^ L) = mul_assoc 4 M (4 ^ L) in
    r ∙ omega arith ∙ sym q ∙ ap (λ (i : ℕ). M * i) (sym p)

-- numbers that may grow are small, and heights may
pub growing-small : (first : Bool) (L : ℕ) (W H : Side) (g x : ℕ → ℤ) → Growing L W H (source_grid first W.length g x) → Small first W H g x
growing-small first L W H g x K r c rh cw =
    let low : K.most * 1 ≤ K.most * 4 ^ L = mul-le-mul_left K.most (four-some L) in
    omega (arith, K.within r c rh cw, K.room)

pub heights-grow : (L : ℕ) (W H : Side) (l : List ℕ) (x : ℕ → ℤ) → L ≤ 5 → ((i : ℕ) → get_or l i 0 < 65536) →
    Growing L W H (source_grid true W.length (heights_at l) x)
unfolding cells
heights-grow L W H l x few fits =
    let p : 4 ^ L ≤ 4 ^ 5 = pow-le-pow_right (omega arith) few in
    let q : 65535 * 4 ^ L ≤ 65535 * 4 ^ 5 = mul-le-mul_left 65535 p in
    record { most = 65535; room = omega arith; within = λ r c rh cw. omega (arith, fits (r * W.length + c)) }

-- ---- room for the low-low part
pub low-least : (W H : Side) → count lo W * count lo H ≤ W.length * H.length
low-least W H =
    let l = counts W in
    let k = counts H in
    mul-le-mul {n₁ = count lo W} {m₁ = count lo H} {n₂ = W.length} {m₂ = H.length} (omega arith) (omega arith)

pub low-room : (n : ℕ) (W H : Side) → Rows n W.length W.length H.length → count lo W * count lo H ≤ n
low-room n W H R =
    let t = all-rows W.length H.length R.some in
    let s = mul_comm H.length W.length in
    let room = R.room in
    omega (arith, low-least W H)

pub low-rows : (n : ℕ) (W H : Side) (w h : ℕ) → w ≡ count lo W → h ≡ count lo H → 0 < w → 0 < h → count lo W * count lo H ≤ n → Rows n w w h
low-rows n W H w h ew eh sw sh b =
    let t = all-rows w h sh in
    let s : h * w ≡ count lo W * count lo H = rw (ew, eh) (mul_comm (count lo H) (count lo W)) in
    record { apart = sw; wide = omega arith; some = sh; room = omega arith }

-- ---- the low-low part saved, and where it is empty
module _ (A : ℕ) (W H : Side) (z x₀ : ℕ → ℤ) (w h : ℕ) (ew : w ≡ count lo W) (eh : h ≡ count lo H) where
  pub low-saved : (n : ℕ) (x : ℕ → ℤ) → 0 < w → 0 < h → Rows n w w h → x ≡ flat w (grid_copied w h (cells A z) (cells w x₀)) → LowSaved A W H z x₀ x
  unfolding cells
  low-saved n x sw sh R e =
      let k = kept-flat n w w h x₀ x _ R e (copied-out w h (cells A z) (cells w x₀)) in
      let t = all-rows w h sh in
      let p : h * w ≡ count lo H * count lo W = rw (ew, eh) refl in
      record {
        made = λ r c rb cb.
            let f : r * count lo W + c ≡ r * w + c = ap (λ (i : ℕ). r * i + c) (sym ew) in
            ap x f ∙ ap (λ (u : ℕ → ℤ). u (r * w + c)) e ∙ cells-flat w (grid_copied w h (cells A z) (cells w x₀)) r c (omega arith)
            ∙ copied-in w h (cells A z) (cells w x₀) r c (omega arith) (omega arith);
        kept = λ j b. k.kept j (omega arith);
      }

  pub low-none : has_next 2 w h ≡ false → LowSaved A W H z x₀ x₀
  low-none e =
      record {
        made = λ r c rb cb. absurd (omega (arith, goes-no 2 w h e (omega arith) (omega arith)));
        kept = λ j b. refl;
      }

-- ---- a level of one row: z₁ is the plane with it in halves, z₂ lifted, and x the work area with its low-low part
module _ (first : Bool) (A : ℕ) (W H : Side) (g z₀ x₀ z₁ z₂ x : ℕ → ℤ) (wide : W.length ≤ A) (some : 0 < A)
    (e₁ : z₁ ≡ flat A (grid_halved W H (source_grid first W.length g x₀) (cells A z₀))) (e₂ : z₂ ≡ flat A (level_lifted W H (cells A z₁)))
    (S : LowSaved A W H z₂ x₀ x) where
  abbrev G : Grid
  G = source_grid first W.length g x₀

  one_cell : (r c : ℕ) → c < A → cells A z₂ r c ≡ level_written five_three_filter W H G (cells A z₀) r c
  unfolding level_lifted
  one_cell r c ca =
      let X = cells A z₁ in
      let l = one-level (count lo W) (count lo H) in
      ap (λ (u : ℕ → ℤ). cells A u r c) e₂
      ∙ cells-flat A (level_lifted W H X) r c ca
      ∙ by-within W.length H.length r c
      (λ rh cw.
      ap (λ (Y : Grid). Y r c) (five-three-level W H X)
      ∙ level-forward five_three_filter five-three-laws W H X r c rh cw
      ∙ sym (plane-last five_three_filter wrap32 W H (corner_grid W H X) r c 1 (omega arith) l)
      ∙ plane-reads five_three_filter five-three-laws wrap32 1 W H (corner_grid W H X) G (halved-grid A W H G (cells A z₀) z₁ wide e₁) r c rh cw
      ∙ plane-last five_three_filter wrap32 W H G r c 1 (omega arith) l
      ∙ sym (level_in W H G (cells A z₀) r c rh cw))
      (λ o.
      mapped_out W.length H.length (columns_lifted_in_place W.length H X) r c o (lifted_in_place W)
      ∙ column-out W.length H X r c o
      ∙ ap (λ (u : ℕ → ℤ). cells A u r c) e₁
      ∙ cells-flat A _ r c ca
      ∙ halved-out W H G (cells A z₀) r c o
      ∙ sym (level_out W H G (cells A z₀) r c o))

  pub one-swept : LevelSwept five_three_filter first A W H g z₀ x₀ z₂ x
  unfolding band_of
  one-swept =
      record {
        cells_are = one_cell;
        made = λ r c rb cb.
            let l = counts W in
            let k = counts H in
            S.made r c rb cb
            ∙ one_cell r c (omega arith)
            ∙ level_in W H G (cells A z₀) r c (omega arith) (omega arith)
            ∙ rw ((half-low W c cb).0, (half-low H r rb).0, (half-low W c cb).1, (half-low H r rb).1);
        kept = S.kept;
      }

-- ---- from a level to the levels left
module _ (first : Bool) (A : ℕ) (W H : Side) (g z₀ x₀ z₁ x₁ : ℕ → ℤ) (wide : W.length ≤ A) (some : 0 < A)
    (T : LevelSwept five_three_filter first A W H g z₀ x₀ z₁ x₁) where
  abbrev grid : Grid
  grid = source_grid first W.length g x₀

  level-kept : 0 < H.length → KeptFrom ((H.length - 1) * W.length + W.length) x₀ x₁
  level-kept sh =
      let l = counts W in
      let k = counts H in
      let m : count lo H * count lo W ≤ H.length * W.length = mul-le-mul {n₁ = count lo H} {m₁ = count lo W} {n₂ = H.length} {m₂ = W.length}
      (omega arith) (omega arith) in
      let t = all-rows W.length H.length sh in
      record { kept = λ j b. T.kept j (omega arith) }

  pub sweep-last : (L w' h' : ℕ) → 0 < L → 0 < H.length → w' ≡ count lo W → h' ≡ count lo H → has_next L w' h' ≡ false →
      (z₁ ≡ flat A (plane_written five_three_filter L W H grid (cells A z₀))) × KeptFrom ((H.length - 1) * W.length + W.length) x₀ x₁
  sweep-last L w' h' l sh ew eh e =
      let e' : has_next L (count lo W) (count lo H) ≡ false = rw (ew, eh) at e in (
        all-cells A z₁ _ some
            (λ r c ca.
            T.cells_are r c ca
            ∙ by-within W.length H.length r c
            (λ rh cw.
            level_in W H grid (cells A z₀) r c rh cw
            ∙ sym (written_in five_three_filter L W H grid (cells A z₀) r c rh cw ∙ plane-last five_three_filter wrap32 W H grid r c L l e'))
            (λ o. level_out W H grid (cells A z₀) r c o ∙ sym (written_out five_three_filter L W H grid (cells A z₀) r c o))),
        level-kept sh,
      )

  -- W' and H' are the sides of the low-low part
  module _ (W' H' : Side) (e_w : W' ≡ next W) (e_h : H' ≡ next H) where
    low-grid : (r c : ℕ) → r < H'.length → c < W'.length → source_grid false W'.length g x₁ r c ≡ subband five_three_filter wrap32 W H grid LL r c
    unfolding cells next
    low-grid r c rb cb =
        let ew : W'.length ≡ count lo W = ap (λ (S : Side). S.length) e_w in
        let eh : H'.length ≡ count lo H = ap (λ (S : Side). S.length) e_h in
        ap (λ (i : ℕ). x₁ (r * i + c)) ew ∙ T.made r c (omega arith) (omega arith)

    -- its numbers are four times as large at most
    pub growing-next : (L : ℕ) → 1 < L → Growing L W H grid → Growing (L - 1) W' H' (source_grid false W'.length g x₁)
    unfolding next down across
    growing-next zero b K = absurd (omega arith)
    growing-next (suc L) b K =
        let t : suc L - 1 ≡ L = omega arith in
        let M = K.most in
        let ew : W'.length ≡ count lo W = ap (λ (S : Side). S.length) e_w in
        let eh : H'.length ≡ count lo H = ap (λ (S : Side). S.length) e_h in
        let one = four-some (suc L) in
        let low = mul-le-mul_left M one in
        let four : 4 * M * 4 ^ L ≡ M * 4 ^ suc L = four-more M L in
        record {
          most = 4 * M;
          room = rw t (omega (arith, four, K.room));
          within = λ r c rb cb.
              let exact = subband-exact five_three_filter five-three-laws M W H grid (omega (arith, K.room, low)) K.within LL r c (omega arith)
              (omega arith) in
              rw (low-grid r c rb cb ∙ exact) (subband-range five_three_filter five-three-laws M W H grid K.within LL r c (omega arith) (omega arith));
        }

    -- z₃ and x₃ are what the levels left leave
    module _ (z₃ x₃ : ℕ → ℤ) where
      more-cell : (L : ℕ) → z₃ ≡ flat A (plane_written five_three_filter L W' H' (source_grid false W'.length g x₁) (cells A z₁)) → (r c : ℕ) → c < A →
          cells A z₃ r c ≡ plane_written five_three_filter (suc L) W H grid (cells A z₀) r c
      unfolding next
      more-cell L f r c ca =
          let l = counts W in
          let k = counts H in
          let ew : W'.length ≡ count lo W = ap (λ (S : Side). S.length) e_w in
          let eh : H'.length ≡ count lo H = ap (λ (S : Side). S.length) e_h in
          let G₂ = source_grid false W'.length g x₁ in
          ap (λ (u : ℕ → ℤ). cells A u r c) f
          ∙ cells-flat A _ r c ca
          ∙ by-within W'.length H'.length r c
          (λ rb cb.
          written_in five_three_filter L W' H' G₂ (cells A z₁) r c rb cb
          ∙ plane-reads five_three_filter five-three-laws wrap32 L W' H' G₂ (subband five_three_filter wrap32 W H grid LL) low-grid r c rb cb
          ∙ rw (e_w, e_h) refl
          ∙ sym (written_in five_three_filter (suc L) W H grid (cells A z₀) r c (omega arith) (omega arith)
          ∙ plane-corner five_three_filter wrap32 W H grid r c L (omega arith) (omega arith)))
          (λ o.
          let o' : within (count lo W) (count lo H) r c ≡ false = rw (ew, eh) at o in
          written_out five_three_filter L W' H' G₂ (cells A z₁) r c o
          ∙ T.cells_are r c ca
          ∙ by-within W.length H.length r c
          (λ rh cw.
          level_in W H grid (cells A z₀) r c rh cw
          ∙ sym (written_in five_three_filter (suc L) W H grid (cells A z₀) r c rh cw ∙ plane-rest five_three_filter wrap32 W H grid r c L o'))
          (λ q. level_out W H grid (cells A z₀) r c q ∙ sym (written_out five_three_filter (suc L) W H grid (cells A z₀) r c q)))

      pub sweep-more : (L : ℕ) → 1 < L → 0 < H.length →
          z₃ ≡ flat A (plane_written five_three_filter (L - 1) W' H' (source_grid false W'.length g x₁) (cells A z₁)) →
          KeptFrom ((H'.length - 1) * W'.length + W'.length) x₁ x₃ →
          (z₃ ≡ flat A (plane_written five_three_filter L W H grid (cells A z₀))) × KeptFrom ((H.length - 1) * W.length + W.length) x₀ x₃
      unfolding next
      sweep-more zero l sh f k = absurd (omega arith)
      sweep-more (suc L) l sh f k =
          let t : suc L - 1 ≡ L = omega arith in
          let ew : W'.length ≡ count lo W = ap (λ (S : Side). S.length) e_w in
          let eh : H'.length ≡ count lo H = ap (λ (S : Side). S.length) e_h in
          let end : (H'.length - 1) * W'.length + W'.length ≤ (H.length - 1) * W.length + W.length = rw (ew, eh) (own-end W H) in
          let k₁ = level-kept sh in (
            all-cells A z₃ _ some (more-cell L (rw t at f)),
            record { kept = λ j b. k.kept j (omega arith) ∙ k₁.kept j b },
          )

-- room for the level after
pub area-next : (first : Bool) (k n n' m m' A : ℕ) (W H : Side) (u v w' h' : ℕ) → LevelArea first k n m A W H → n' ≡ n → m' ≡ m → w' ≡ count lo W →
    h' ≡ count lo H → 0 < w' → 0 < h' → LevelArea false k n' m' A (record { start = u; length = w' }) (record { start = v; length = h' })
area-next first k n n' m m' A W H u v w' h' R en em ew eh sw sh =
    let l = counts W in
    let narrow = R.narrow in
    let own = own-rows m m' W H w' h' em ew eh sw sh R.work in
    record { source = own; plane = rows-corner n n' A W H w' h' ew eh sh R.plane en; work = own; narrow = omega arith }

-- ---- a level of one row laid in halves, from the heights or from the work area
pub rows-first : (first : Bool) (k m w h : ℕ) → first ≡ true → Rows (pick first k m) w w h → Rows k w w h
rows-first first k m w h e R = rw e at R

module _ (first : Bool) (A : ℕ) (W H : Side) (g x z z' : ℕ → ℤ) where
  pub laid-first : first ≡ true → A ≡ W.length → z' ≡ flat W.length (grid_halved W H (cells W.length g) (cells W.length z)) →
      z' ≡ flat A (grid_halved W H (source_grid first W.length g x) (cells A z))
  laid-first e f is = rw (e, f) is

  pub laid-work : first ≡ false → z' ≡ flat A (grid_halved W H (cells W.length x) (cells A z)) →
      z' ≡ flat A (grid_halved W H (source_grid first W.length g x) (cells A z))
  laid-work e is = rw e is
