-- Heights that came together, read into the row area at once: it is as if their bytes were read one after the other (`run-reads`). Assumes nothing.
use mathlib.Core.Path.{◌≡◌, refl, sym, ap, ap₂, subst, ◌∙◌}
use mathlib.Core.Bool.{Bool, true, false}
use mathlib.Core.List.{List, [], ◌∷◌, ◌++◌, append_assoc}
use Prim.Native.Nat.{ℕ, zero, suc, ◌+◌, ◌-◌, ◌*◌, ◌≤◌, ◌<◌, min}
use native.Mathlib.Omega.{arith}
use lib.Dec.{leb}
use lib.ListN.{length, take, drop, get_or, set, length-take, length-drop, take-append-drop}
use lib.Seq.{take-suc, drop-cons, drop-drop, drop-append-le, get_or-take, length-take-le, paste, paste-zero, paste-suc, length-paste}
use borrow.Rule.Slice.PartMut.{mid_of, put_mid, put_same}
use Rattle.numbers.specs.Signal.{pick}
use Rattle.pgm.proofs.RunReads.{fitting-prefix, fitting-stop, sample-at, bytes-room, bytes-more}
use Rattle.pgm.specs.Runs.{wide, sample_size, samples_of, fitting, heights_of}
use Rattle.pgm.specs.InputSteps.{read_byte, heights_came}
use Rattle.pgm.specs.StepAnswer as steps
use Rattle.pgm.specs.declared.header.Header.{Header}
use Rattle.pgm.specs.declared.input.Input.{Input}
use Rattle.pgm.proofs.InputReads.{at, first_byte, second-byte, single-byte}
use Rattle.text.specs.Moves.{Goes, stays, then}
use Rattle.text.proofs.MoveLaws.{one, goes-on}
use Rattle.picture.specs.Machine.{no_part, rewriting, row_part, Kept, kept, step_to, byte_read, Move, reads, Reads}
use Rattle.picture.specs.declared.parts.Part.{Part}
use Rattle.picture.specs.declared.rewriting.Rewriting.{Rewriting}
use Rattle.picture.proofs.MachineLaws.{kept-some, row-begun}

-- ---- a byte
pub byte_reads : (r r' : Rewriting) (z z' p : List ℕ) (a : ℕ) → r.part.kind ≡ 0 → a < length p → r' ≡ (byte_read r z (get_or p a 0)).state →
    z' ≡ (byte_read r z (get_or p a 0)).row → Reads (kept r z) p a (a + 1) (kept r' z')
byte_reads r r' z z' p a k h e f = record {
  bytes = get_or p a 0 ∷ [];
  goes = one (reads (get_or p a 0) k refl refl (ap₂ kept e f));
  read = let n : a + 1 ≡ suc a = omega arith in drop-cons p a 0 h ∙ ap (λ m. get_or p a 0 ∷ drop m p) (sym n);
  used = refl;
  part = omega arith;
  some = omega arith;
}

-- ---- one height u of the largest value m, and its bytes
pub data Sample (m u : ℕ) (bs : List ℕ) : Type 0 where
  two : (b c : ℕ) → wide m ≡ true → bs ≡ b ∷ c ∷ [] → u ≡ 256 * b + c → leb u m ≡ true → Sample m u bs
  single : (b : ℕ) → wide m ≡ false → bs ≡ b ∷ [] → u ≡ b → leb u m ≡ true → Sample m u bs

module _ (h : Header) (L W H m : ℕ) where
  -- n heights are still to come, f stand in the row area; half a sample, v, is held or not
  abbrev state : ℕ → Bool → ℕ → ℕ → Part → Rewriting
  state n x v f p = rewriting (at 3 L h n m x v) W H f p

  first : (n v f b : ℕ) (p : Part) (z : List ℕ) → p.kind ≡ 0 → wide m ≡ true →
      Move (kept (state (suc n) false v f p) z) (b ∷ []) [] (kept (state (suc n) true b f no_part) z)
  unfolding byte_read
  first n v f b p z k w = reads b k refl refl (sym (ap (step_to (state (suc n) false v f p) z) (first_byte 0 L h n m v b w)))

  last : (n v f b u : ℕ) (x : Bool) (p : Part) (z : List ℕ) → p.kind ≡ 0 → f < length z →
      read_byte 0 (at 3 L h (suc n) m x v) b ≡ steps.Height (at 3 L h n m false 0) u →
      Move (kept (state (suc n) x v f p) z) (b ∷ []) [] (kept (state n false 0 (f + 1) (row_part (f + 1) W)) (set z f u))
  unfolding byte_read
  last n v f b u x p z k lt e =
      let r = state (suc n) x v f p in
      let s = kept-some r (at 3 L h n m false 0) u z _ lt refl in
      reads b k refl refl (ap₂ kept s.0 s.1 ∙ sym (ap (step_to r z) e))

  height : (n v f u : ℕ) (p : Part) (z bs : List ℕ) → p.kind ≡ 0 → f < length z → Sample m u bs →
      Goes Move (kept (state (suc n) false v f p) z) bs [] (kept (state n false 0 (f + 1) (row_part (f + 1) W)) (set z f u))
  height n v f u p z bs k lt (two b c w eb eu le) =
      rw eb (then (one (first n v f b p z k w)) (last n b f c u true no_part z refl lt
      (rw eu ((second-byte 0 L h n m b c w).0 (rw (sym eu) le)))))
  height n v f u p z bs k lt (single b w eb eu le) =
      rw eb (one (last n v f b u false p z k lt (rw eu ((single-byte 0 L h n m false v b w).0 (rw (sym eu) le)))))

-- ---- height k of the bytes s
module _ (m : ℕ) (s : List ℕ) where
  -- its bytes
  abbrev bytes_at : Bool → ℕ → List ℕ
  bytes_at true k = get_or s (2 * k) 0 ∷ get_or s (2 * k + 1) 0 ∷ []
  bytes_at false k = get_or s k 0 ∷ []

  height-is : (k : ℕ) → k < length (heights_of m s) → (get_or (heights_of m s) k 0 ≡ get_or (samples_of m s) k 0) × (k < length (samples_of m s))
  unfolding heights_of
  height-is k h =
      let l = samples_of m s in
      let e = fitting-prefix m l (suc k) h in
      let lt : k < suc k = omega arith in
      let n : k < length l = omega (arith, ap length e, length-take-le (suc k) (fitting m l) h, most (suc k) l) in
      (sym (get_or-take (suc k) (fitting m l) k 0 lt) ∙ ap (λ x. get_or x k 0) e ∙ get_or-take (suc k) l k 0 lt, n)
    where
      most : (j : ℕ) (l : List ℕ) → length (take j l) ≤ length l
      most zero l = omega arith
      most (suc j) [] = omega arith
      most (suc j) (x ∷ l) = omega (arith, most j l)

  height-fits : (k : ℕ) → k < length (heights_of m s) → leb (get_or (heights_of m s) k 0) m ≡ true
  unfolding heights_of
  height-fits k h =
      let e = height-is k h in
      ap (λ u. leb u m) e.0 ∙ go (leb (get_or (samples_of m s) k 0) m) refl
    where
      go : (b : Bool) → leb (get_or (samples_of m s) k 0) m ≡ b → leb (get_or (samples_of m s) k 0) m ≡ true
      go true f = f
      go false f = let l = fitting-stop m (samples_of m s) k (omega arith) (height-is k h).1 f in absurd (omega arith)

  sample-of : (k : ℕ) → k < length (heights_of m s) → Sample m (get_or (heights_of m s) k 0) (bytes_at (wide m) k)
  sample-of k h =
      let e = height-is k h in
      go (wide m) refl (e.0 ∙ sample-at m s k e.1)
    where
      go : (w : Bool) → wide m ≡ w → get_or (heights_of m s) k 0 ≡ pick w (256 * get_or s (2 * k) 0 + get_or s (2 * k + 1) 0) (get_or s k 0) →
          Sample m (get_or (heights_of m s) k 0) (bytes_at w k)
      go true w e = two (get_or s (2 * k) 0) (get_or s (2 * k + 1) 0) w refl e (height-fits k h)
      go false w e = single (get_or s k 0) w refl e (height-fits k h)

  bytes_next : (k : ℕ) → k < length (heights_of m s) → take (sample_size m * suc k) s ≡ take (sample_size m * k) s ++ bytes_at (wide m) k
  unfolding sample_size
  bytes_next k h = go (wide m) (bytes-room m s (suc k) h)
    where
      go : (w : Bool) → pick w 2 1 * suc k ≤ length s → take (pick w 2 1 * suc k) s ≡ take (pick w 2 1 * k) s ++ bytes_at w k
      go true room =
          let e : 2 * suc k ≡ suc (suc (2 * k)) = omega arith in
          let f : 2 * k + 1 ≡ suc (2 * k) = omega arith in
          rw (e, f) (take-suc s (suc (2 * k)) 0 (omega arith) ∙ ap (λ l. l ++ (get_or s (suc (2 * k)) 0 ∷ [])) (take-suc s (2 * k) 0 (omega arith))
          ∙ append_assoc (take (2 * k) s) (get_or s (2 * k) 0 ∷ []) (get_or s (suc (2 * k)) 0 ∷ []))
      go false room =
          let e : 1 * suc k ≡ suc k = omega arith in
          let f : 1 * k ≡ k = omega arith in
          rw (e, f) (take-suc s k 0 (omega arith))

-- ---- k heights of the bytes s, from a state of the heights that nothing is being written in
row-none : (f W : ℕ) → f < W → (row_part f W).kind ≡ 0
row-none f W h = ap (λ p. p.kind) (sym (row-begun f W (λ e. omega arith)))

module _ (h : Header) (L W H m : ℕ) (n v f : ℕ) (p : Part) (z s : List ℕ) (idle : p.kind ≡ 0) (Wide-Row : W ≤ length z) where
  abbrev hs : List ℕ
  hs = heights_of m s

  abbrev done : ℕ → Rewriting
  done zero = state h L W H m n false v f p
  done (suc k) = state h L W H m (n - suc k) false 0 (f + suc k) (row_part (f + suc k) W)

  next : (k : ℕ) (y bs : List ℕ) (u : ℕ) → k < n → f + k < W → f + k < length y → Sample m u bs →
      Goes Move (kept (done k) y) bs [] (kept (done (suc k)) (set y (f + k) u))
  next zero y bs u a b c d =
      let e : n ≡ suc (n - 1) = omega arith in
      let g : f + 0 ≡ f = omega arith in
      let s : Rewriting = state h L W H m (n - 1) false 0 (f + 1) (row_part (f + 1) W) in
      rw g (subst (λ i. Goes Move (kept (state h L W H m i false v f p) y) bs [] (kept s (set y f u)))
      (sym e) (height h L W H m (n - 1) v f u p y bs idle (omega arith) d))
  next (suc k) y bs u a b c d =
      let e : n - suc k ≡ suc (n - suc (suc k)) = omega arith in
      let g : f + suc (suc k) ≡ f + suc k + 1 = omega arith in
      rw (e, g) (height h L W H m (n - suc (suc k)) 0 (f + suc k) u (row_part (f + suc k) W) y bs (row-none (f + suc k) W b) c d)

  run-goes : (k : ℕ) → k ≤ length hs → k ≤ n → f + k ≤ W → Goes Move (kept (state h L W H m n false v f p) z) (take (sample_size m * k) s) []
      (kept (done k) (paste z f hs k))
  run-goes zero a b c =
      let e : sample_size m * 0 ≡ 0 = omega arith in
      subst (λ l. Goes Move (kept (done 0) z) (take (sample_size m * 0) s) [] (kept (done 0) l)) (paste-zero z f hs) (rw e (stays (kept (done 0) z)))
  run-goes (suc k) a b c =
      let size = length-paste z f hs k (omega arith) (omega arith) in
      let g = goes-on (run-goes k (omega arith) (omega arith) (omega arith))
      (next k (paste z f hs k) (bytes_at m s (wide m) k) (get_or hs k 0) (omega arith) (omega arith) (omega arith) (sample-of m s k (omega arith))) in
      subst (λ l. Goes Move (kept (done 0) z) (take (sample_size m * suc k) s) [] (kept (done (suc k)) l)) (paste-suc z f hs k 0 (omega arith) (omega arith))
      (rw (bytes_next m s k (omega arith)) g)

-- ---- a part of the row area was lent for them and came back
back_is : (f k n : ℕ) (z hs : List ℕ) → f + k ≤ length z → n ≤ k → n ≤ length hs →
    put_mid f k z (take n hs ++ drop n (mid_of f k z)) ≡ paste z f hs n
back_is f k n z hs room a b =
    let l = drop f z in
    let size : length (take k l) ≡ k = length-take-le k l (omega (arith, length-drop f z)) in
    ap (λ x. take f z ++ x)
    (append_assoc (take n hs) (drop n (take k l)) (drop k l)
    ∙ ap (λ x. take n hs ++ x) (sym (drop-append-le n (take k l) (drop k l) (omega arith)) ∙ ap (drop n) (take-append-drop k l) ∙ drop-drop n f z))
    ∙ sym (append_assoc (take f z) (take n hs) (drop (f + n) z))

-- what a call of it comes to: c heights of the piece t from place a on, the row area y afterwards
pub run-reads : (r : Rewriting) (z t y : List ℕ) (i : Input) (a c k : ℕ) → r.part.kind ≡ 0 → r.input.phase ≡ 3 → r.input.samples.half ≡ false →
    r.width ≤ length z → a + 2 ≤ length t → (c ≡ 0 → ⊥) → k ≡ min r.input.left (r.width - r.filled) → r.filled ≤ r.width →
    c ≡ min (length (heights_of r.input.samples.largest (drop a t))) (length (mid_of r.filled k z)) →
    y ≡ take c (heights_of r.input.samples.largest (drop a t)) ++ drop c (mid_of r.filled k z) → i ≡ heights_came c r.input →
    Reads (kept r z) t a (a + sample_size r.input.samples.largest * c)
    (kept (rewriting i r.width r.height (r.filled + c) (row_part (r.filled + c) r.width)) (put_mid r.filled k z y))
run-reads r z t y i a zero k idle ph hf wr ra some ek fw ec ey ei = absurd (some refl)
run-reads r z t y i a (suc c) k idle ph hf wr ra some ek fw ec ey ei =
    let I = r.input in
    let m = I.samples.largest in
    let s = drop a t in
    let f = r.filled in
    let n = suc c in
    let size : length (mid_of f k z) ≡ k = length-take-le k (drop f z) (omega (arith, length-drop f z)) in
    let len : sample_size m * n ≤ length s = bytes-room m s n (omega arith) in
    let more = bytes-more m n n (omega arith) in
    let from : kept r z ≡ kept (state I.header I.levels r.width r.height m I.left false I.samples.high f r.part) z =
    ap₂ (λ x b. kept (rewriting (at x I.levels I.header I.left m b I.samples.high) r.width r.height f r.part) z) ph hf in
    let to : i ≡ at 3 I.levels I.header (I.left - n) m false 0 = ei ∙ ap (λ x. at x I.levels I.header (I.left - n) m false 0) ph in
    let goes = run-goes I.header I.levels r.width r.height m I.left I.samples.high f r.part z s idle wr n (omega arith) (omega arith)
    (omega arith) in
    record {
      bytes = take (sample_size m * n) s;
      goes = rw (from, to, ey, back_is f k n z (heights_of m s) (omega arith) (omega arith) (omega arith)) goes;
      read = sym (take-append-drop (sample_size m * n) s) ∙ ap (λ l. take (sample_size m * n) s ++ l) (drop-drop (sample_size m * n) a t);
      used = ap (λ j. a + j) (sym (length-take-le (sample_size m * n) s len));
      part = omega (arith, len, length-drop a t);
      some = omega (arith, more.1);
    }

-- no height was read: the row area is as it was
pub none_read : (f k c : ℕ) (z y hs : List ℕ) → c ≡ 0 → y ≡ take c hs ++ drop c (mid_of f k z) → put_mid f k z y ≡ z
none_read f k c z y hs e g = rw (g, e) (put_same f k z)

pub still-there : {r : Rewriting} {z z' t : List ℕ} {a a' : ℕ} {s : Kept} → z' ≡ z → Reads (kept r z') t a a' s → Reads (kept r z) t a a' s
still-there {r} {t = t} {a = a} {a' = a'} {s = s} e d = subst (λ l. Reads (kept r l) t a a' s) e d

-- the bytes that were read are there
pub run_room : (m a c : ℕ) (t : List ℕ) (k : ℕ) → c ≡ min (length (heights_of m (drop a t))) k → a ≤ length t → a + sample_size m * c ≤ length t
run_room m a c t k e h = let b = bytes-room m (drop a t) c (omega arith) in omega (arith, length-drop a t)

pub run-few : (f k c n : ℕ) (z : List ℕ) → c ≡ min n (length (mid_of f k z)) → c ≤ k
run-few f k c n z e = omega (arith, length-take k (drop f z))
