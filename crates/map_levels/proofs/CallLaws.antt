-- What the two calls come to: the questions of the plane, and the areas that they leave. Assumes nothing.
use mathlib.Core.Path.{◌≡◌, refl, sym, ap, ap₂, ◌∙◌, fun_ext}
use mathlib.Core.Bool.{Bool, true, false}
use mathlib.Core.List.{List}
use Prim.Native.Nat.{ℕ, zero, suc, ◌+◌, ◌-◌, ◌*◌, ◌/◌, ◌%◌, ◌^◌, ◌≤◌, ◌<◌}
use native.Mathlib.Nat.{mul-le-mul, pow-le-pow_right, mod-lt, mul_comm, suc-mul, div-add-mod'}
use native.Mathlib.Decide.{dec_lt}
use native.Mathlib.Omega.{arith}
use lib.IntN.{ℤ, pos, nat_abs}
use lib.Signed.{◌≤ℤ◌}
use lib.ListN.{get_or}
use lib.Dec.{leb, le→leb}
use Rattle.numbers.specs.Signal.{pick}
use Rattle.numbers.specs.Word.{wrap32, whole}
use Rattle.lifting.specs.Halves.{fronted}
use Rattle.lifting.specs.Grid.{Side, side}
use Rattle.lifting.specs.Filter.{Filter}
use Rattle.lifting.proofs.FilterLaws.{FilterLaws}
use Rattle.wavelet.specs.Limits.{max_width, max_levels, max_sample, range}
use Rattle.wavelet.specs.Questions.{Sized}
use Rattle.wavelet.specs.Bands.{Grid, level_has}
use Rattle.wavelet.specs.Plane.{cells, flat, plane_cell, plane_of, plane_bands, map_back}
use Rattle.wavelet.specs.Maps.{IsMap, every_cell, value_fits, in-range, rebuilt_fits}
use Rattle.wavelet.proofs.GridLaws.{cells-flat, row_below}
use Rattle.wavelet.proofs.LimitLaws.{stride-small}
use Rattle.wavelet.proofs.MapTheorems.{cells_same}
use Rattle.wavelet.specs.Levels.{next}
use Rattle.wavelet.proofs.LevelTheory.{plane-reads}
use Rattle.wavelet.proofs.Bridge.{map-plane}
use Rattle.map_levels.specs.Rowwise.{heights_at}
use Rattle.map_levels.specs.Passes.{within as inside}
use Rattle.map_levels.specs.Passes.{Rows, KeptFrom, rows_mapped, grid_halved, rows_returned}
use Rattle.map_levels.specs.LevelPasses.{corner_grid, plane_written, Rebuilt, region_in_range, Doubling, LevelsBack, Finished, MapRebuilt}
use Rattle.map_levels.specs.SweepBack.{SweptBack}
use Rattle.map_levels.specs.BackLines.{line_long, BackRoom}
use Rattle.map_questions.specs.Calls.{plane_questions, zeros}
use Rattle.areas.proofs.AreaLaws.{front_at, front_rest}
use Rattle.map_levels.proofs.CellLaws.{flat-same, by-within, past-rows, kept_then, halved-grid, halved-out, returned-in, returned-out, mapped_out}
use Rattle.map_levels.proofs.GridSweep.{mapped_in}
use Rattle.map_levels.proofs.LevelsMath.{written_in, written_out}
use Rattle.map_levels.proofs.TestLaws.{false-true, both-both, rebuilt-cells, fits_more}

-- ---- sizes of a map
whole-rows : (W H : ℕ) → 0 < H → (H - 1) * W + W ≡ W * H
whole-rows W zero g = absurd (omega arith)
whole-rows W (suc H) g = let k : suc H - 1 ≡ H = omega arith in rw k (sym (suc-mul H W) ∙ mul_comm (suc H) W)

pub map-rows : (W H L n : ℕ) → Sized W H L → W * H ≤ n → Rows n W W H
map-rows W H L n s b =
    let w = s.width in
    let h = s.height in
    record { apart = w.0; wide = omega arith; some = h.0; room = omega (arith, whole-rows W H h.0) }

pub map-doubling : (W H L : ℕ) → Sized W H L → Doubling L W W
map-doubling W H L s =
    let w = s.width in
    let l = s.levels in
    let p : 2 ^ L ≤ 2 ^ max_levels = pow-le-pow_right (omega arith) l.1 in
    let a : W * 2 ^ L ≤ max_width * 2 ^ max_levels = mul-le-mul {n₁ = W} {m₁ = 2 ^ L} {n₂ = max_width} {m₂ = 2 ^ max_levels} w.1 p in
    record { some = l.0; small = omega (arith, a, stride-small); narrow = w.1 }

-- ---- a place of the first W × H numbers is a cell of H rows of W, and any other place is none
module _ (W H j : ℕ) (some : 0 < W) where
  pub cell-of : j < W * H → (j / W < H) × (j % W < W)
  cell-of b = (row_below W H j (rw (mul_comm H W) b) some, mod-lt j some)

  pub none_of : W * H ≤ j → 0 < H → inside W H (j / W) (j % W) ≡ false
  none_of b h = past-rows W W H j h (omega (arith, whole-rows W H h))

pub map-places : (W H : ℕ) (P Q : Grid) (z : ℕ → ℤ) → 0 < W → 0 < H → ((r c : ℕ) → r < H → c < W → P r c ≡ Q r c) →
    ((r c : ℕ) → inside W H r c ≡ false → P r c ≡ cells W z r c) → flat W P ≡ fronted (W * H) (flat W Q) z
unfolding flat cells
map-places W H P Q z w h e o =
    fun_ext λ j.
    elim (dec_lt j (W * H)) [
      | yes b ↦ let k = cell-of W H j w b in e (j / W) (j % W) k.0 k.1 ∙ sym (front_at (W * H) (flat W Q) z j b)
      | no b ↦ o (j / W) (j % W) (none_of W H j w (omega arith) h) ∙ ap z (div-add-mod' j W) ∙ sym (front_rest (W * H) (flat W Q) z j (omega arith))
    ]

-- what is cleared: the first W × H numbers, after calls that leave all others
pub cleared : (W H : ℕ) (x y z : ℕ → ℤ) → 0 < H → KeptFrom ((H - 1) * W + W) x y → z ≡ fronted (W * H) zeros y → z ≡ fronted (W * H) zeros x
cleared W H x y z h k e =
    fun_ext λ j.
    ap (λ (f : ℕ → ℤ). f j) e
    ∙ elim (dec_lt j (W * H)) [
      | yes b ↦ front_at (W * H) zeros y j b ∙ sym (front_at (W * H) zeros x j b)
      | no b ↦ front_rest (W * H) zeros y j (omega arith) ∙ k.kept j (omega (arith, whole-rows W H h)) ∙ sym (front_rest (W * H) zeros x j (omega arith))
    ]

-- ---- forward
-- heights are a map
pub heights-map : (W H : ℕ) (l : List ℕ) → ((i : ℕ) → get_or l i 0 < 65536) → IsMap W H (cells W (heights_at l))
unfolding cells max_sample
heights-map W H l f = record { heights = λ r c _ _. height (get_or l (r * W + c) 0) (f (r * W + c)) }
  where
    height : (n : ℕ) → n < 65536 → (pos 0 ≤ℤ pos n) × (pos n ≤ℤ pos max_sample)
    height n b = (record { le = le→leb 0 n (omega arith) }, record { le = le→leb n max_sample (omega arith) })

-- z₁ is the plane loaded with the heights l, z₂ the plane after the levels
module _ (F : Filter) (laws : FilterLaws F) (W H : Side) (L : ℕ) (l : List ℕ) (z₀ z₁ : ℕ → ℤ) (s : Sized W.length H.length L)
    (e : z₁ ≡ flat W.length (grid_halved W H (cells W.length (heights_at l)) (cells W.length z₀))) where
  abbrev w : ℕ
  w = W.length

  abbrev heights : Grid
  heights = cells w (heights_at l)

  -- what stood past the map still does
  over : (g : Grid) → flat w (plane_written F L W H g (cells w z₁)) ≡ flat w (plane_written F L W H g (cells w z₀))
  over g =
      flat-same w _ _ s.width.0
      (λ r c cw.
      by-within w H.length r c
      (λ rh cv. written_in F L W H g (cells w z₁) r c rh cv ∙ sym (written_in F L W H g (cells w z₀) r c rh cv))
      (λ o.
      written_out F L W H g (cells w z₁) r c o
      ∙ ap (λ (z : ℕ → ℤ). cells w z r c) e
      ∙ cells-flat w _ r c cw
      ∙ halved-out W H heights (cells w z₀) r c o
      ∙ sym (written_out F L W H g (cells w z₀) r c o)))

  pub plane-loaded : (z₂ : ℕ → ℤ) → z₂ ≡ flat w (plane_written F L W H (corner_grid W H (cells w z₁)) (cells w z₁)) →
      z₂ ≡ flat w (plane_written F L W H heights (cells w z₀))
  plane-loaded z₂ f =
      let g = corner_grid W H (cells w z₁) in
      f ∙ over g ∙ flat-same w _ _ s.width.0
      (λ r c cw.
      by-within w H.length r c
      (λ rh cv.
      written_in F L W H g (cells w z₀) r c rh cv
      ∙ plane-reads F laws wrap32 L W H g heights (halved-grid w W H heights (cells w z₀) z₁ (omega arith) e) r c rh cv
      ∙ sym (written_in F L W H heights (cells w z₀) r c rh cv))
      (λ o. written_out F L W H g (cells w z₀) r c o ∙ sym (written_out F L W H heights (cells w z₀) r c o)))

-- for a map the words are whole numbers
pub plane-made : (F : Filter) (laws : FilterLaws F) (W H : Side) (L : ℕ) (l : List ℕ) (z₀ z₂ : ℕ → ℤ) → Sized W.length H.length L → L ≤ F.levels →
    ((i : ℕ) → get_or l i 0 < 65536) → z₂ ≡ flat W.length (plane_written F L W H (cells W.length (heights_at l)) (cells W.length z₀)) →
    z₂ ≡ fronted (W.length * H.length) (plane_of F whole L W H (cells W.length (heights_at l))) z₀
unfolding plane_of
plane-made F laws W H L l z₀ z₂ s few fits f =
    let w = W.length in
    let g = cells w (heights_at l) in
    f ∙ map-places w H.length _ (plane_cell F whole L W H g) z₀ s.width.0 s.height.0
    (λ r c rh cw. written_in F L W H g (cells w z₀) r c rh cw ∙ map-plane F laws W H g (heights-map w H.length l fits) L few r c rh cw)
    (λ r c o. written_out F L W H g (cells w z₀) r c o)

module _ (F : Filter) (laws : FilterLaws F) where
  -- ---- backward
  pub region-one : (L : ℕ) (W H : Side) (x : Grid) → region_in_range F 1 L W H x ≡ in-range F L W H x
  unfolding region_in_range in-range
  region-one L W H x =
      cells_same W.length H.length _ _ (λ r c _ _. ap (λ (k : ℕ). leb (nat_abs (x r c)) (range F k)) (omega arith))

  module _ (W H : Side) (L : ℕ) (x : Grid) (ok : Bool) (e : ok ≡ region_in_range F 1 L W H x) where
    pub out_of_range : ok ≡ false → 7 ≡ plane_questions F W H L x
    unfolding plane_questions
    out_of_range f = let g = sym (region-one L W H x) ∙ sym e ∙ f in rw g

    module _ (t : ok ≡ true) (ok' : Bool) (e' : ok' ≡ rebuilt_fits F 0 L W H x) where
      pub not-rebuilt : ok' ≡ false → 14 ≡ plane_questions F W H L x
      unfolding plane_questions
      not-rebuilt f =
          let g = sym (region-one L W H x) ∙ sym e ∙ t in
          let g' = sym e' ∙ f in
          rw (g, g')

      pub all-rebuilt : ok' ≡ true → 0 ≡ plane_questions F W H L x
      unfolding plane_questions
      all-rebuilt f =
          let g = sym (region-one L W H x) ∙ sym e ∙ t in
          let g' = sym e' ∙ f in
          rw (g, g')

  module _ (W H : Side) (L : ℕ) (x X : Grid) (s : Sized W.length H.length L) (B : Rebuilt F L W H x X) where
    -- the rebuilt rows, returned
    pub map-returned : (h h' : ℕ → ℤ) → h' ≡ flat W.length (rows_returned W H.length X (cells W.length h)) →
        h' ≡ fronted (W.length * H.length) (flat W.length (map_back F wrap32 L W H x)) h
    map-returned h h' e =
        e ∙ map-places W.length H.length _ (map_back F wrap32 L W H x) h s.width.0 s.height.0
        (λ r c rh cw. returned-in W H.length X (cells W.length h) r c rh cw ∙ B.cell r c rh cw)
        (returned-out W H.length X (cells W.length h))

  -- the rows cleared, each by itself
  map-cleared : (W H : ℕ) (x : ℕ → ℤ) → 0 < W → 0 < H → flat W (rows_mapped (fronted W zeros) W H (cells W x)) ≡ fronted (W * H) zeros x
  unfolding flat
  map-cleared W H x w h =
      map-places W H _ (λ _ _. pos 0) x w h
      (λ r c rh cw. mapped_in (fronted W zeros) W H (cells W x) r c rh cw ∙ front_at W zeros _ c cw)
      (λ r c o. mapped_out W H (cells W x) r c o (fronted W zeros))

  -- 14 of a map: of the low-low part and of what level 1 halves, `done`, and of the heights, t
  map-fits : (W H : Side) (L : ℕ) (x : Grid) (done t : Bool) → 0 < L →
      done ≡ pick (rebuilt_fits F (0 + 1) (L - 1) (next W) (next H) x)
      (level_has F W H (plane_bands W H (map_back F wrap32 (L - 1) (next W) (next H) x) x)) false →
      t ≡ every_cell W.length H.length (λ r c. value_fits F 0 (map_back F wrap32 L W H x r c))
      → pick done t false ≡ rebuilt_fits F 0 L W H x
  map-fits W H L x done t some e f =
      let A = rebuilt_fits F (0 + 1) (L - 1) (next W) (next H) x in
      let B = level_has F W H (plane_bands W H (map_back F wrap32 (L - 1) (next W) (next H) x) x) in
      let C = every_cell W.length H.length (λ r c. value_fits F 0 (map_back F wrap32 L W H x r c)) in
      ap₂ (λ (p q : Bool). pick p q false) e f
      ∙ sym (both-both A B C)
      ∙ sym (fits_more F laws 0 L W H x some)

  -- what the levels and the last test come to: z is the plane, y₁ the work area that the levels left
  module _ (W H : Side) (L : ℕ) (z g₀ y₀ y₁ : ℕ → ℤ) (s : Sized W.length H.length L) where
    abbrev plane : Grid
    plane = cells W.length z

    pub map-no : (done : Bool) → done ≡ false → LevelsBack F done 0 L W.length W.length W H z y₀ y₁ → MapRebuilt F false W H L z g₀ g₀ y₀ y₁
    map-no done it b =
        let l = s.levels in
        let f = map-fits W H L plane done _ l.0 b.answer refl in
        record {
          answer = (rw it at f);
          heights = λ t. absurd (false-true t);
          cleared = λ t. absurd (false-true t);
          kept = b.kept;
          kept_heights = record { kept = λ j q. refl };
        }

    pub map-yes : (ok done : Bool) (g y : ℕ → ℤ) → done ≡ true → LevelsBack F done 0 L W.length W.length W H z y₀ y₁ →
        Finished ok W H.length y₁ y g₀ g → MapRebuilt F ok W H L z g₀ g y₀ y
    unfolding value_fits every_cell
    map-yes ok done g y it b f =
        let l = s.levels in
        let B = b.grid it in
        let w = s.width.0 in
        let h = s.height.0 in
        let all = map-fits W H L plane done ok l.0 b.answer (f.answer ∙ rebuilt-cells F laws 0 L W H plane (cells W.length y₁) B) in
        record {
          answer = (rw it at all);
          heights = λ t. map-returned W H L plane (cells W.length y₁) s B g₀ g (f.heights t);
          cleared = λ t. cleared W.length H.length y₀ y₁ y h b.kept (f.cleared t ∙ map-cleared W.length H.length y₁ w h);
          kept = kept_then b.kept f.kept (omega arith);
          kept_heights = f.kept_heights;
        }

    -- the levels in sweeps, whose last gives the heights: y is the work area y₁ cleared
    pub map-swept : (done : Bool) (g y : ℕ → ℤ) → done ≡ true → SweptBack F done 0 L W.length W H z g₀ g y₀ y₁ →
        y ≡ fronted (W.length * H.length) zeros y₁ →
        MapRebuilt F true W H L z g₀ g y₀ y
    unfolding flat cells
    map-swept done g y it b e =
        let w = s.width.0 in
        let h = s.height.0 in
        let rows = whole-rows W.length H.length h in
        let kept : KeptFrom ((H.length - 1) * W.length + W.length) y₀ y₁ = record { kept = λ j q. b.kept.kept j (omega arith) } in
        let all = cleared W.length H.length y₀ y₁ y h kept e in
        record {
          answer = sym it ∙ b.answer;
          heights = λ t. fun_ext λ j.
              elim (dec_lt j (W.length * H.length)) [
                | yes q ↦
                    let k = cell-of W.length H.length j w q in
                    ap g (sym (div-add-mod' j W.length))
                    ∙ b.made it (j / W.length) (j % W.length) k.0 k.1
                    ∙ sym (front_at (W.length * H.length) (flat W.length (map_back F wrap32 L W H plane)) g₀ j q)
                | no q ↦ b.kept_heights.kept j (omega arith) ∙ sym (front_rest (W.length * H.length) _ g₀ j (omega arith))
              ];
          cleared = λ t. all;
          kept = record { kept = λ j q. ap (λ (u : ℕ → ℤ). u j) all ∙ front_rest (W.length * H.length) zeros y₀ j (omega arith) };
          kept_heights = record { kept = λ j q. b.kept_heights.kept j (omega arith) };
        }

    pub map-odd : (done : Bool) (g : ℕ → ℤ) → done ≡ false → SweptBack F done 0 L W.length W H z g₀ g y₀ y₁ → MapRebuilt F false W H L z g₀ g y₀ y₁
    map-odd done g it b =
        let rows = whole-rows W.length H.length s.height.0 in
        record {
          answer = sym it ∙ b.answer;
          heights = λ t. absurd (false-true t);
          cleared = λ t. absurd (false-true t);
          kept = record { kept = λ j q. b.kept.kept j (omega arith) };
          kept_heights = record { kept = λ j q. b.kept_heights.kept j (omega arith) };
        }

-- room for the levels of a map in sweeps
pub map-room : (W H L n l m o : ℕ) (x y : ℕ) → Sized W H L → W * H ≤ n → W * H ≤ l → W * H ≤ m → 5 * line_long ≤ o →
    BackRoom 0 n l m o W (side x W) (side y H)
map-room W H L n l m o x y s bn bl bm bo =
    let w = s.width in
    record {
      area = record { plane = map-rows W H L n s bn; heights = λ q. bl; work = bm; narrow = w.1 };
      wide = w.0;
      lines = bo;
      level = omega arith;
    }
