-- What a saving call leaves, of every saver and every plane: a saver that passes question 1 passes it again (`calls-pass`), the number that is answered
-- (`answer-is`), and what stays (`saves-kept`, `saves-past`). Assumes nothing.
use mathlib.Core.Path.{◌≡◌, refl, sym, ap, ap₂, subst, ◌∙◌}
use mathlib.Core.Bool.{Bool, true, false}
use mathlib.Core.List.{List, []}
use Prim.Native.Nat.{ℕ, ◌+◌, ◌-◌, ◌*◌, ◌%◌, ◌^◌, ◌≤◌, ◌<◌, min}
use native.Mathlib.Nat.{mul-le-mul}
use native.Mathlib.Omega.{arith}
use native.Mathlib.Decide.{dec_lt}
use lib.IntN.{ℤ}
use lib.Dec.{leb, ltb, eqb}
use lib.ListN.{length, take, drop, length-take, length-drop, length-append}
use borrow.Author.Tests.{lt-ltb, le-ltb, le-leb, eq-eqb, ne_eqb, eqb-true, ltb-true, leb-true}
use Rattle.numbers.specs.Signal.{at, pick, both}
use Rattle.numbers.proofs.Sweep.{both as halves}
use Rattle.wavelet.specs.declared.shape.Shape.{Shape}
use Rattle.wavelet.specs.Shape.{columns, rows}
use Rattle.wavelet.specs.Limits.{max_width}
use Rattle.wavelet.specs.ViewCall.{view_question, view_start, view_length, view_row}
use Rattle.wavelet.proofs.ViewLaws.{viewed, length-is}
use Rattle.wavelet.proofs.BandPlaces.{columns-in}
use Rattle.reader_order.specs.declared.Place.{Place}
use Rattle.reader_order.specs.Order.{first_place, next_place, row_at}
use Rattle.ground_file.specs.declared.saver.Saver.{Saver}
use Rattle.ground_file.specs.Saving.{Saved}
use Rattle.ground_file.specs.Groups.{width_of, code_of, bytes_of, part_of, group_of}
use Rattle.ground_file.specs.File.{header_of, listed, as_number, prime}
use Rattle.ground_file.specs.Values.{kept}
use Rattle.ground_file.specs.Saving.{saver_at, row_of, step_of, piece_of, at_row, onward, partly, from_of, moved, begins, row_fits, row_divides}
use Rattle.ground_file.specs.Saving.{row_number, stop_of, Went, here, on, set_up_number, saver_fits, save_number, fresh, Ran, Saves, Calls, none, call}
use Rattle.ground_file.proofs.Digits.{Below}
use Rattle.ground_file.proofs.FileLaws.{listed-length, listed_below}
use Rattle.ground_file.proofs.GroupLaws.{code-small, part_length, below-take, below-drop}
use Rattle.ground_file.proofs.PutLaws.{width-most}
use Rattle.ground_file.proofs.ValueLaws.{kept_small}
use Rattle.ground_file.proofs.SaverLaws.{remains, prime-some, stop-full, stop-over, stop-row, nothing_written}
use Rattle.ground_file.proofs.SaverAsks.{passed}
use Rattle.ground_file.proofs.FileSaved.{drop-0, goes-forward}

-- ---- no piece is longer than 57 bytes
part-few : (l : List ℕ) → Below (2 ^ 28) l → length l ≤ 8 → length (part_of (width_of (code_of l)) l) ≤ 28
part-few l b h =
    let m : width_of (code_of l) * length l ≤ 28 * 8 = mul-le-mul (width-most (code_of l) (code-small l b)) h in
    omega (arith, part_length (width_of (code_of l)) l, m)

group-few : (l : List ℕ) → Below (2 ^ 28) l → length l ≤ 16 → length (group_of l) ≤ 57
unfolding group_of
group-few l b h =
    let first = part-few (take 8 l) (below-take (2 ^ 28) 8 l b) (omega (arith, length-take 8 l)) in
    let others = part-few (drop 8 l) (below-drop (2 ^ 28) 8 l b) (omega (arith, length-drop 8 l, h)) in
    omega (arith, length-append (part_of (width_of (code_of (take 8 l))) (take 8 l)) (part_of (width_of (code_of (drop 8 l))) (drop 8 l)), first, others)

piece-few : (s : Saver) (row : List ℤ) → length (piece_of s row) ≤ 57
unfolding piece_of
piece-few s row = go (eqb s.phase 0) (eqb s.phase 1)
  where
    n : ℕ
    n = min (length row - 16 * s.group) 16

    x : ℕ → ℕ
    x i = kept (step_of s) (at row (16 * s.group + i))

    head_few : length (header_of s.shape s.step) ≤ 57
    head_few = unfold header_of bytes_of in omega arith

    sum-few : length (bytes_of 4 s.sum) ≤ 57
    sum-few = unfold bytes_of in omega arith

    go : (t u : Bool) → length (pick t (header_of s.shape s.step) (pick u (group_of (listed n x)) (bytes_of 4 s.sum))) ≤ 57
    go true u = head_few
    go false true =
        group-few (listed n x) (listed_below (2 ^ 28) n x (λ i h. kept_small (step_of s) (at row (16 * s.group + i)))) (omega (arith, listed-length n x))
    go false false = sum-few

-- ---- question 1
record Fine (s : Saver) : Type 0 where
  shape : set_up_number s.shape s.step ≡ 0
  phase : s.phase ≤ 3
  group : s.group ≤ max_width
  part : s.part ≤ 57
  sum : s.sum < prime

fine : (s : Saver) → saver_fits s ≡ true → Fine s
unfolding saver_fits
fine s e =
    let a = halves (eqb (set_up_number s.shape s.step) 0) _ e in
    let b = halves (leb s.phase 3) _ a.1 in
    let c = halves (leb s.group max_width) _ b.1 in
    let d = halves (leb s.part 57) (ltb s.sum prime) c.1 in
    record {
      shape = eqb-true _ _ a.0;
      phase = leb-true s.phase 3 b.0;
      group = leb-true s.group max_width c.0;
      part = leb-true s.part 57 d.0;
      sum = ltb-true s.sum prime d.1;
    }

passes : (s : Saver) → Fine s → saver_fits s ≡ true
unfolding saver_fits
passes s f =
    rw (
      eq-eqb (set_up_number s.shape s.step) 0 f.shape,
      le-leb s.phase 3 f.phase,
      le-leb s.group max_width f.group,
      le-leb s.part 57 f.part,
      lt-ltb s.sum prime f.sum,
    ) refl

-- a row is no longer than the map is wide
row-wide : (s : Saver) (p : List ℤ) → length (row_of s p) ≤ s.shape.width
unfolding row_of view_row
row-wide s p = go (eqb question 0) refl
  where
    k : ℕ
    k = s.place.level

    r : ℕ
    r = row_at s.shape s.place

    question : ℕ
    question = view_question (length p) (columns s.shape) (rows s.shape) s.shape.levels k s.place.band r

    n : ℕ
    n = view_length (columns s.shape) k s.place.band

    f : ℕ
    f = view_start (columns s.shape) (rows s.shape) k s.place.band r

    go : (t : Bool) → eqb question 0 ≡ t → length (pick t (take n (drop f p)) []) ≤ s.shape.width
    go true e =
        let v = viewed (length p) (columns s.shape) (rows s.shape) s.shape.levels k s.place.band r (eqb-true _ _ e) in
        let size = length-is (length p) (columns s.shape) (rows s.shape) s.shape.levels k s.place.band r v in
        let wide = columns-in (columns s.shape) (rows s.shape) k v.band v.kept.deep in
        omega (arith, length-take n (drop f p), size, wide)
    go false e = omega arith

module _ (s : Saver) (f : Fine s) where
  fine-at : (pl : Place) (c : ℕ) → c < prime → Fine (at_row s pl c)
  unfolding at_row
  fine-at pl c h =
      record { shape = f.shape; phase = few (eqb pl.level 0); group = omega arith; part = omega arith; sum = h }
    where
      few : (t : Bool) → pick t 2 1 ≤ 3
      few true = omega arith
      few false = omega arith

  fine-on : (n c : ℕ) → n ≤ max_width → c < prime → Fine (onward s n c)
  unfolding onward
  fine-on n c w h = go (eqb s.phase 0) (eqb s.phase 1) (ltb (16 * (s.group + 1)) n) refl
    where
      go : (t u v : Bool) → ltb (16 * (s.group + 1)) n ≡ v → Fine (pick t (at_row s (first_place s.shape) c)
          (pick u
          (pick v (saver_at s.shape s.step s.place (s.group + 1) 0 c 1) (at_row s (next_place s.shape s.place) c))
          (saver_at s.shape s.step s.place 0 0 0 3)))
      go true u v e = fine-at (first_place s.shape) c h
      go false true true e =
          record {
            shape = f.shape;
            phase = omega arith;
            group = omega (arith, ltb-true (16 * (s.group + 1)) n e, w);
            part = omega arith;
            sum = h;
          }
      go false true false e = fine-at (next_place s.shape s.place) c h
      go false false v e = record { shape = f.shape; phase = omega arith; group = omega arith; part = omega arith; sum = prime-some }

  fine_moved : (p : List ℤ) (m : ℕ) → Fine (moved s (row_of s p) m)
  unfolding moved
  fine_moved p m = go (ltb (from_of s (row_of s p) + m) (length (piece_of s (row_of s p)))) refl
    where
      row : List ℤ
      row = row_of s p

      go : (t : Bool) → ltb (from_of s row + m) (length (piece_of s row)) ≡ t
          → Fine (pick t (partly s (from_of s row + m)) (onward s (length row) (as_number s.sum (piece_of s row) % prime)))
      go true e = record {
        shape = f.shape;
        phase = f.phase;
        group = f.group;
        part = omega (arith, ltb-true (from_of s row + m) (length (piece_of s row)) e, piece-few s row);
        sum = f.sum;
      }
      go false e =
          fine-on (length row) _ (omega (arith, row-wide s p, (passed s.shape s.step f.shape).wide.1)) (remains _)

fine-went : {p : List ℤ} {s : Saver} (b : List ℕ) (s' : Saver) → Went p s b s' → Fine s → Fine s'
fine-went _ _ here f = f
fine-went {p} _ _ (on {b = b} {s = v} m w ph free some n) f = fine_moved v (fine-went b v w f) p m

-- what a call leaves passes question 1 again; so does what a list of calls leaves
pub saves-pass : (s : Saver) (p : List ℤ) (before after : List ℕ) (r : Saved) → Saves s p before after r → saver_fits s ≡ true → saver_fits r.saver ≡ true
saves-pass s p before after r v e =
    elim (dec_lt 0 (save_number s (length p))) [
      | yes h ↦ ap saver_fits (v.refused h).2 ∙ e
      | no h ↦ passes r.saver (fine-went (take r.written after) r.saver (v.done (omega (arith, h))).went (fine s e))
    ]

pub fresh-passes : (sh : Shape) (q : ℕ) → set_up_number sh q ≡ 0 → saver_fits (fresh sh q) ≡ true
fresh-passes sh q e =
    passes (fresh sh q) (record { shape = e; phase = omega arith; group = omega arith; part = omega arith; sum = prime-some })

pub calls-pass : (sh : Shape) (q : ℕ) → set_up_number sh q ≡ 0 → (p : List ℤ) (b : List ℕ) (s : Saver) → Calls p (fresh sh q) b s → saver_fits s ≡ true
calls-pass sh q e p _ _ none = fresh-passes sh q e
calls-pass sh q e p _ _ (call {b} {s} before after r w v) = saves-pass s p before after r v (calls-pass sh q e p b s w)

-- ---- what it answers, and what stays
stays : {p : List ℤ} {s : Saver} (b : List ℕ) (s' : Saver) → (s.phase < 3 → row_number s (row_of s p) ≡ 0 → ⊥) → Went p s b s' → length b ≡ 0
stays _ _ stuck here = refl
stays {p} {s} _ _ stuck (on {b = b} {s = v} m w ph free some n) =
    let e : v ≡ s = nothing_written b v w (stays b v stuck w) in
    absurd (stuck (subst (λ (u : Saver). u.phase < 3) e ph) (sym (ap (λ (u : Saver). row_number u (row_of u p)) e) ∙ free))

module _ (s : Saver) (p : List ℤ) (before after : List ℕ) (r : Saved) (v : Saves s p before after r) where
  module _ (ok : save_number s (length p) ≡ 0) where
    ran : Ran s p before after r
    ran = v.done ok

    front : r.written ≡ length (take r.written after)
    front = omega (arith, length-take r.written after, ran.size, ran.room)

    none-saver : r.written ≡ 0 → r.saver ≡ s
    none-saver e = nothing_written (take r.written after) r.saver ran.went (omega (arith, front, e))

    none-stop : r.written ≡ 0 → stop_of r.saver p r.written (length before) ≡ stop_of s p 0 (length before)
    none-stop e = ap₂ (λ (u : Saver) n. stop_of u p n (length before)) (none-saver e) e

    abbrev stop : ℕ
    stop = stop_of r.saver p r.written (length before)

    none-answer : (n : ℕ) → r.written ≡ 0 → stop_of s p 0 (length before) ≡ n → r.answer ≡ pick (ltb 1 n) n 0
    none-answer n e f =
        ran.answer ∙ ap (λ t. pick (both t (ltb 1 stop)) stop 0) (eq-eqb r.written 0 e) ∙ ap (λ k. pick (ltb 1 k) k 0) (none-stop e ∙ f)

    some-answer : 0 < r.written → r.answer ≡ 0
    some-answer h = ran.answer ∙ ap (λ t. pick (both t (ltb 1 stop)) stop 0) (ne_eqb r.written 0 (λ e. omega arith))

    stuck-none : (s.phase < 3 → row_number s (row_of s p) ≡ 0 → ⊥) → r.written ≡ 0
    stuck-none stuck = omega (arith, front, stays (take r.written after) r.saver stuck ran.went)

    large : (n : ℕ) → n ≡ row_number s (row_of s p) → (n ≡ 0 → ⊥) → pick (ltb 1 n) n 0 ≡ n
    unfolding row_number
    large n e z = go (begins s) (row_fits s (row_of s p)) (row_divides s (row_of s p)) e
      where
        go : (a b d : Bool) → n ≡ pick a (pick b (pick d 0 22) 7) 0 → pick (ltb 1 n) n 0 ≡ n
        go true true true h = absurd (z h)
        go true true false h = rw h refl
        go true false d h = rw h refl
        go false b d h = absurd (z h)

    -- 7 or 22 of the row that is to be begun, where there is room for a byte and the file is not over
    pub answer-is : r.answer ≡ pick (both (ltb 0 (length before)) (ltb s.phase 3)) (row_number s (row_of s p)) 0
    answer-is = elim (dec_lt 0 (length before)) [
      | yes room ↦ elim (dec_lt s.phase 3) [
        | yes ph ↦ rw (lt-ltb 0 (length before) room, lt-ltb s.phase 3 ph) (row (eqb (row_number s (row_of s p)) 0) refl room ph)
        | no ph ↦ past (λ h e. ph h) (sym (stop-over s p 0 (length before) room (omega (arith, ph)))) (both-no (ltb 0 (length before)) (no-phase ph))
      ]
      | no room ↦ none-answer 1 (omega (arith, ran.room, room)) (sym (stop-full s p 0 (length before) (omega (arith, room))))
          ∙ ap (λ t. pick (both t (ltb s.phase 3)) (row_number s (row_of s p)) 0) (sym (no_room room))
    ]
      where
        no_room : (0 < length before → ⊥) → ltb 0 (length before) ≡ false
        no_room h = le-ltb 0 (length before) (omega (arith, h))

        no-phase : (s.phase < 3 → ⊥) → ltb s.phase 3 ≡ false
        no-phase h = le-ltb s.phase 3 (omega (arith, h))

        both-no : (t : Bool) {u : Bool} → u ≡ false → both t u ≡ false
        both-no true e = e
        both-no false e = refl

        past : (s.phase < 3 → row_number s (row_of s p) ≡ 0 → ⊥) → stop_of s p 0 (length before) ≡ 1 → both (ltb 0 (length before)) (ltb s.phase 3) ≡ false
            → r.answer ≡ pick (both (ltb 0 (length before)) (ltb s.phase 3)) (row_number s (row_of s p)) 0
        past stuck f g = none-answer 1 (stuck-none stuck) f ∙ ap (λ t. pick t (row_number s (row_of s p)) 0) (sym g)

        eqb_apart : (n : ℕ) → n ≡ 0 → eqb n 0 ≡ false → ⊥
        eqb_apart n z e = let w : ◌≡◌ {A = ℕ} 1 0 = ap (λ t. pick t 1 0) (sym (eq-eqb n 0 z) ∙ e) in omega arith

        row : (t : Bool) → eqb (row_number s (row_of s p)) 0 ≡ t → 0 < length before → s.phase < 3 → r.answer ≡ row_number s (row_of s p)
        row true e room ph =
            let free : row_number s (row_of s p) ≡ 0 = eqb-true _ _ e in
            some-answer (goes-forward s p before after r v ok room ph free) ∙ sym free
        row false e room ph =
            let stuck : row_number s (row_of s p) ≡ 0 → ⊥ = λ z. eqb_apart (row_number s (row_of s p)) z e in
            none-answer (row_number s (row_of s p)) (stuck-none (λ h. stuck)) (sym (stop-row s p 0 (length before) room ph))
            ∙ large (row_number s (row_of s p)) refl stuck

  -- a number that is not 0 changes nothing
  pub saves-kept : (r.answer ≡ 0 → ⊥) → (r.written ≡ 0) × (r.saver ≡ s) × (after ≡ before)
  saves-kept z = elim (dec_lt 0 (save_number s (length p))) [
    | yes h ↦ ((v.refused h).1, (v.refused h).2, (v.refused h).3)
    | no h ↦ same (omega (arith, h))
  ]
    where
      same : save_number s (length p) ≡ 0 → (r.written ≡ 0) × (r.saver ≡ s) × (after ≡ before)
      same ok = elim (dec_lt 0 r.written) [
        | yes h ↦ absurd (z (some-answer ok h))
        | no h ↦ (let e : r.written ≡ 0 = omega (arith, h) in (
          e,
          none-saver ok e,
          sym (drop-0 after) ∙ ap (λ n. drop n after) (sym e) ∙ (v.done ok).past ∙ ap (λ n. drop n before) e ∙ drop-0 before,
        ))
      ]

  -- the area past what was written
  pub saves-past : (length after ≡ length before) × (r.written ≤ length before) × (drop r.written after ≡ drop r.written before)
  saves-past = elim (dec_lt 0 (save_number s (length p))) [
    | yes h ↦ (ap length (v.refused h).3, omega (arith, (v.refused h).1), ap (drop r.written) (v.refused h).3)
    | no h ↦ (let ran = v.done (omega (arith, h)) in (ran.size, ran.room, ran.past))
  ]
