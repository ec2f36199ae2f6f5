-- The laws of a level's stretch of m rows: its slots, a part lent and come back, a row changed. Assumes nothing.
use mathlib.Core.Path.{◌≡◌, refl, sym, ap, ap₂, ◌∙◌, fun_ext}
use mathlib.Core.Bool.{Bool, true, false}
use mathlib.Core.List.{List}
use Prim.Native.Nat.{ℕ, ◌+◌, ◌-◌, ◌*◌, ◌%◌, ◌≤◌, ◌<◌}
use native.Mathlib.Decide.{dec_lt}
use native.Mathlib.Omega.{arith}
use lib.IntN.{ℤ}
use lib.Signed.{shr_z}
use lib.Dec.{eqb}
use lib.ListN.{length}
use borrow.Rule.Slice.PartMut.{mid_of, put_mid}
use Rattle.numbers.specs.Signal.{at, pick, spliced}
use Rattle.numbers.specs.Tests.{every}
use Rattle.numbers.proofs.Parts.{length-mid, at_mid, at-put, window-in, splice-below, splice-in, splice-past}
use Rattle.numbers.proofs.TestLaws.{every-same}
use Rattle.lifting.specs.Grid.{Side, side, is_even}
use Rattle.lifting.specs.Halves.{fronted}
use Rattle.lifting.specs.GridHalves.{has_line_in}
use Rattle.lifting.specs.Rows.{rows_changed}
use Rattle.lifting.proofs.RowLaws.{rows-fit, changed}
use Rattle.areas.proofs.AreaLaws.{front_at}
use Rattle.level.specs.Tried.{outcome}
use Rattle.level.specs.Stretch.{row_place, row_in, row_unlifted, row_has_line, line_tried, row_by, row_halved, row_is_even}
use Rattle.level.specs.Rebuilding.{Kept}
use Rattle.level.proofs.RowsIn.{row-end}

module _ {m : ℕ} (some : 0 < m) where
  pub slot-room : (w q : ℕ) → q % m * w + w ≤ m * w
  unfolding row_place
  slot-room w q = row-end some w q

  -- ---- a row in the part that is lent
  module _ (w q a k : ℕ) (l : List ℤ) (ea : a ≡ row_place m w q) (ek : k ≡ w) (room : a + k ≤ length l) where
    mid-is : at (mid_of a k l) ≡ row_in m w q (at l)
    unfolding row_in
    mid-is = cc (at_mid a k l, ea, ek)

    mid-long : length (mid_of a k l) ≡ w
    mid-long = length-mid a k l room ∙ ek

    -- what comes back changes the row alone
    pub part-kept : (ys : List ℤ) → length ys ≡ k → Kept (m * w) (at l) (at (put_mid a k l ys))
    part-kept ys long =
        let r = row-end some w q in
        record { same = λ j h. ap (λ (f : ℕ → ℤ). f j) (at-put a k l ys long room) ∙ splice-past a k (at ys) (at l) j (omega arith) }

    -- lifted back
    lifted : (back : Side → (ℕ → ℤ) → ℕ → ℤ) (x r : ℕ) (y z : ℕ → ℤ) (t : Bool) → row_has_line m (side x w) q (at l) ≡ t → r ≡ pick t 0 14 →
        z ≡ spliced a k y (at l) →
        y ≡ pick t (back (side x w) (row_in m w q (at l))) (row_in m w q (at l)) →
        outcome (eqb r 0) z ≡ outcome t (row_unlifted m back (side x w) q (at l))
    unfolding row_unlifted
    lifted back x r y z true has er ez ey = rw (er, ez, ey, ea, ek) refl
    lifted back x r y z false has er ez ey = rw er refl

    pub unlift-part : (back : Side → (ℕ → ℤ) → ℕ → ℤ) (x r : ℕ) (ys : List ℤ) → length ys ≡ k →
        r ≡ pick (has_line_in (side x (length (mid_of a k l))) (at (mid_of a k l))) 0 14 →
        at ys ≡ pick (has_line_in (side x (length (mid_of a k l))) (at (mid_of a k l))) (back (side x (length (mid_of a k l))) (at (mid_of a k l)))
        (at (mid_of a k l)) →
        outcome (eqb r 0) (at (put_mid a k l ys)) ≡ line_tried m back (side x w) q (at l)
    unfolding line_tried row_has_line
    unlift-part back x r ys long er ey =
        lifted back x r (at ys) (at (put_mid a k l ys)) (row_has_line m (side x w) q (at l)) refl (rw (mid-long, mid-is) at er) (at-put a k l ys long room)
        (rw (mid-long, mid-is) at ey)

    -- tested
    pub even-part : every (length (mid_of a k l)) (λ i. is_even (at (mid_of a k l) i)) ≡ row_is_even m w q (at l)
    unfolding row_is_even row_in
    even-part =
        ap (λ (n : ℕ). every n (λ i. is_even (at (mid_of a k l) i))) mid-long
        ∙ every-same w _ _ (λ i h. ap is_even (ap (λ (f : ℕ → ℤ). f i) mid-is ∙ window-in (row_place m w q) w (at l) i h))

    -- halved
    pub halve-part : (ys : List ℤ) → length ys ≡ k →
        at ys ≡ fronted (length (mid_of a k l)) (λ i. shr_z (at (mid_of a k l) i) 2) (at (mid_of a k l)) → at (put_mid a k l ys) ≡ row_halved m w q (at l)
    unfolding row_halved
    halve-part ys long ey =
        at-put a k l ys long room
        ∙ ap (λ (y : ℕ → ℤ). spliced a k y (at l)) (ey ∙ ap₂ halved mid-long mid-is)
        ∙ ap₂ (λ (p n : ℕ). spliced p n (halved w (row_in m w q (at l))) (at l)) ea ek
        ∙ same-splice (row_place m w q) w (λ i. shr_z (row_in m w q (at l) i) 2) (row_in m w q (at l)) (at l)
      where
        halved : ℕ → (ℕ → ℤ) → ℕ → ℤ
        halved n z = fronted n (λ i. shr_z (z i) 2) z

        same-splice : (p n : ℕ) (f z x : ℕ → ℤ) → spliced p n (fronted n f z) x ≡ spliced p n f x
        same-splice p n f z x = fun_ext λ j. elim (dec_lt j p) [
          | yes b ↦ splice-below p n _ x j b ∙ sym (splice-below p n f x j b)
          | no b ↦ elim (dec_lt j (p + n)) [
            | yes c ↦ splice-in p n _ x j (omega arith) c ∙ front_at n f z (j - p) (omega arith) ∙ sym (splice-in p n f x j (omega arith) c)
            | no c ↦ splice-past p n _ x j (omega arith) ∙ sym (splice-past p n f x j (omega arith))
          ]
        ]

    -- halved where a test says so
    pub halve-tried : (ok : Bool) (ys : List ℤ) → ok ≡ true → length ys ≡ k →
        at ys ≡ pick ok (fronted (length (mid_of a k l)) (λ i. shr_z (at (mid_of a k l) i) 2) (at (mid_of a k l))) (at (mid_of a k l)) →
        at (put_mid a k l ys) ≡ row_halved m w q (at l)
    halve-tried ok ys e long ey =
        halve-part ys long
        (ey ∙ ap (λ (t : Bool). pick t (fronted (length (mid_of a k l)) (λ i. shr_z (at (mid_of a k l) i) 2) (at (mid_of a k l))) (at (mid_of a k l))) e)

  -- ---- three rows of m fit
  module _ (f : ℤ → ℤ → ℤ → ℤ) (n w t l r : ℕ) (x : ℕ → ℤ) (room : m * w ≤ n) where
    pub row-by : rows_changed f n w w (t % m) (l % m) (r % m) x ≡ row_by m f w t l r x
    unfolding row_by
    row-by =
        let a = slot-room w t in
        let b = slot-room w l in
        let c = slot-room w r in
        changed f w w (t % m) (l % m) (r % m) x n (rows-fit n w w (t % m) (l % m) (r % m) (omega arith) (omega arith) (omega arith) (omega arith))
