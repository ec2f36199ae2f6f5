-- Behind the packing of a part: bytes after bytes, the whole bytes among some bits (`Flushed`), the bits of the numbers put so far (`Packed`). Assumes nothing.
use mathlib.Core.Path.{◌≡◌, refl, sym, ap, ap₂, ◌∙◌, subst}
use mathlib.Core.Bool.{true}
use mathlib.Core.List.{List, [], ◌∷◌, ◌++◌}
use Prim.Native.Nat.{ℕ, zero, suc, ◌+◌, ◌*◌, ◌-◌, ◌/◌, ◌%◌, ◌^◌, ◌≤◌, ◌<◌, min}
use native.Mathlib.Nat.{div-one, mul-suc, mul_comm, mul_assoc, mul-zero, mul-one, one-mul, mul-add, add-mul, mul-le-mul_left, mul-le-mul_right}
use native.Mathlib.Nat.{add-mul-div_left, zero-add, lt_of_lt_of_le}
use native.Mathlib.Omega.{arith}
use lib.ListN.{length, take, drop, get_or, set, length-take, length-drop}
use lib.Seq.{get_or-drop, get_or-take}
use lib.Pow.{pow_pos, pow-add, pow_mono, shr-shr, shr_lt}
use Rattle.text.specs.Text.{Wrote}
use Rattle.text.proofs.TextLaws.{wrote_none, wrote_on, wrote-byte, wrote-size}
use Rattle.ground_file.specs.Groups.{digits, bytes_of, part_of, holds}
use Rattle.ground_file.proofs.Digits.{bytes-length, below_at}
use Rattle.ground_file.proofs.GroupLaws.{holds-below}

-- ---- bytes after bytes
pub bytes_one : (n : ℕ) → bytes_of 1 n ≡ (n % 256) ∷ []
unfolding bytes_of
bytes_one n = refl

pub bytes-append : (j k n : ℕ) → bytes_of (j + k) n ≡ bytes_of j n ++ bytes_of k (n / 2 ^ (8 * j))
unfolding bytes_of
bytes-append zero k n = ap₂ bytes_of (zero-add k) (sym (div-one n))
bytes-append (suc j) k n =
    let e : suc j + k ≡ suc (j + k) = omega arith in
    let f : n / 256 / 2 ^ (8 * j) ≡ n / 2 ^ (8 * suc j) =
    shr-shr n 8 (8 * j) ∙ ap (λ i. n / 2 ^ i) (omega (arith, mul-suc 8 j)) in
    ap (λ i. bytes_of i n) e ∙ ap (λ l. (n % 256) ∷ l) (bytes-append j k (n / 256) ∙ ap (λ i. bytes_of j (n / 256) ++ bytes_of k i) f)

-- ---- flush: the bytes from place a₀ to `at` are written, of n
pub record Flushed (l₀ n a₀ : ℕ) (before out : List ℕ) (low at : ℕ) : Type 0 where
  pub from : a₀ ≤ at
  pub rest : low ≡ l₀ / 2 ^ (8 * (at - a₀))
  pub room : a₀ + n ≤ length before
  pub wrote : Wrote (bytes_of (at - a₀) l₀) a₀ at before out

pub flush-start : (l n a : ℕ) (o : List ℕ) → a + n ≤ length o → Flushed l n a o o l a
unfolding bytes_of
flush-start l n a o h =
    let e : a - a ≡ 0 = omega arith in
    record { from = omega arith; rest = rw e (sym (div-one l)); room = h; wrote = rw e (wrote_none a o (omega arith)) }

module _ {l₀ n a₀ : ℕ} {before out : List ℕ} {low at : ℕ} (f : Flushed l₀ n a₀ before out low at) where
  pub flush-place : at < a₀ + n → at < length out
  flush-place h = omega (arith, f.room, wrote-size f.wrote)

  pub flush-next : at < a₀ + n → Flushed l₀ n a₀ before (set out at (low % 256)) (low / 256) (at + 1)
  flush-next h =
      let done = at - a₀ in
      let next : at + 1 - a₀ ≡ done + 1 = omega (arith, f.from) in
      let more : bytes_of done l₀ ++ ((low % 256) ∷ []) ≡ bytes_of (at + 1 - a₀) l₀ =
      ap (λ v. bytes_of done l₀ ++ ((v % 256) ∷ [])) f.rest
      ∙ ap (λ l. bytes_of done l₀ ++ l) (sym (bytes_one (l₀ / 2 ^ (8 * done)))) ∙ sym (bytes-append done 1 l₀) ∙ ap (λ k. bytes_of k l₀) (sym next) in
      let bits' : 8 * (at + 1 - a₀) ≡ 8 * done + 8 = omega (arith, next) in
      record {
        from = omega (arith, f.from);
        rest = ap (λ v. v / 256) f.rest ∙ shr-shr l₀ (8 * done) 8 ∙ ap (λ i. l₀ / 2 ^ i) (sym bits');
        room = f.room;
        wrote = subst (λ l. Wrote l a₀ (at + 1) before (set out at (low % 256))) more
            (wrote_on f.wrote (wrote-byte (low % 256) out at (flush-place h)));
      }

  pub flush-end : at ≡ a₀ + n → Wrote (bytes_of n l₀) a₀ at before out × (low ≡ l₀ / 2 ^ (8 * n))
  flush-end h =
      let e : at - a₀ ≡ n = omega arith in
      (subst (λ k. Wrote (bytes_of k l₀) a₀ at before out) e f.wrote, f.rest ∙ ap (λ k. l₀ / 2 ^ (8 * k)) e)

-- ---- the low bits of a number
-- whole bytes of it do not depend on what stands above
pub bytes_low : (m a d : ℕ) → bytes_of m (a + 2 ^ (8 * m) * d) ≡ bytes_of m a
unfolding bytes_of
bytes_low zero a d = refl
bytes_low (suc m) a d =
    let p : 2 ^ (8 * suc m) ≡ 256 * 2 ^ (8 * m) = ap (λ e. 2 ^ e) (mul-suc 8 m) ∙ pow-add 2 (8 * m) 8 ∙ mul_comm (2 ^ (8 * m)) 256 in
    let q : 2 ^ (8 * suc m) * d ≡ 256 * (2 ^ (8 * m) * d) = ap (λ e. e * d) p ∙ mul_assoc 256 (2 ^ (8 * m)) d in
    let first : (a + 2 ^ (8 * suc m) * d) % 256 ≡ a % 256 = rw q (omega arith) in
    let rest : (a + 2 ^ (8 * suc m) * d) / 256 ≡ a / 256 + 2 ^ (8 * m) * d = rw q (omega arith) in
    ap₂ ◌∷◌ first (ap (bytes_of m) rest ∙ bytes_low m (a / 256) d)

-- ---- pack: i numbers are put, `done` bytes are written; N is the number of all of them
pub record Packed (w : ℕ) (l : List ℕ) (a₀ : ℕ) (before out : List ℕ) (low count at i : ℕ) : Type 0 where
  pub done : ℕ
  pub some : i ≤ length l
  pub few : count < 8
  pub bits : count + 8 * done ≡ w * i
  pub small : low < 2 ^ count
  pub number : low + 2 ^ count * digits (2 ^ w) (drop i l) ≡ digits (2 ^ w) l / 2 ^ (8 * done)
  pub wrote : Wrote (bytes_of done (digits (2 ^ w) l)) a₀ at before out

pub pack-start : (w : ℕ) (l : List ℕ) (a : ℕ) (o : List ℕ) → a ≤ length o → Packed w l a o o 0 0 a 0
unfolding bytes_of
pack-start w l a o h =
    record {
      done = 0;
      some = omega arith;
      few = omega arith;
      bits = omega (arith, mul-zero w);
      small = omega arith;
      number = omega arith;
      wrote = wrote_none a o h;
    }

digits-drop : (b : ℕ) (l : List ℕ) (i : ℕ) → i < length l → digits b (drop i l) ≡ get_or l i 0 + b * digits b (drop (i + 1) l)
unfolding digits
digits-drop b [] i h = absurd (omega arith)
digits-drop b (x ∷ l) zero h = refl
digits-drop b (x ∷ l) (suc i) h = let e : suc i + 1 ≡ suc (i + 1) = omega arith in rw e (digits-drop b l i (omega arith))

drop_all : (b : ℕ) (l : List ℕ) → digits b (drop (length l) l) ≡ 0
unfolding digits
drop_all b [] = refl
drop_all b (x ∷ l) = drop_all b l

module _ {w a₀ : ℕ} {l before out : List ℕ} {low count at i : ℕ} (p : Packed w l a₀ before out low count at i) where
  module _ (x : ℕ) (h : i < length l) (is : x ≡ get_or l i 0) (fits : x < 2 ^ w) where
    -- the bits with one number more, before whole bytes are written
    pub one-small : low + x * 2 ^ count < 2 ^ (count + w)
    one-small =
        let top : (x + 1) * 2 ^ count ≤ 2 ^ w * 2 ^ count = mul-le-mul_right (2 ^ count) (omega arith) in
        omega (arith, top, p.small, add-mul x 1 (2 ^ count), one-mul (2 ^ count), pow-add 2 count w, mul_comm (2 ^ count) (2 ^ w))

    pub one_number : (low + x * 2 ^ count) + 2 ^ (count + w) * digits (2 ^ w) (drop (i + 1) l) ≡ digits (2 ^ w) l / 2 ^ (8 * p.done)
    one_number =
        let d = digits (2 ^ w) (drop (i + 1) l) in
        let parts : 2 ^ count * digits (2 ^ w) (drop i l) ≡ 2 ^ count * x + 2 ^ count * (2 ^ w * d) =
        ap (λ v. 2 ^ count * v) (digits-drop (2 ^ w) l i h ∙ ap (λ v. v + 2 ^ w * d) (sym is)) ∙ mul-add (2 ^ count) x (2 ^ w * d) in
        let above : 2 ^ (count + w) * d ≡ 2 ^ count * (2 ^ w * d) = ap (λ v. v * d) (pow-add 2 count w) ∙ mul_assoc (2 ^ count) (2 ^ w) d in
        omega (arith, parts, above, mul_comm x (2 ^ count), p.number)

    -- whole bytes written
    pub pack-next : {out' : List ℕ} {low' count' at' : ℕ} → Wrote (bytes_of ((count + w) / 8) (low + x * 2 ^ count)) at at' out out'
        → low' ≡ (low + x * 2 ^ count) / 2 ^ (8 * ((count + w) / 8)) → count' ≡ (count + w) % 8 → Packed w l a₀ before out' low' count' at' (i + 1)
    pack-next {out'} {low'} {count'} {at'} wr el ec =
        let m = (count + w) / 8 in
        let d = digits (2 ^ w) (drop (i + 1) l) in
        let all = digits (2 ^ w) l in
        let now = low + x * 2 ^ count in
        let split : count + w ≡ 8 * m + (count + w) % 8 = omega arith in
        let power : 2 ^ (count + w) * d ≡ 2 ^ (8 * m) * (2 ^ ((count + w) % 8) * d) =
        ap (λ e. 2 ^ e * d) split ∙ ap (λ e. e * d) (pow-add 2 (8 * m) ((count + w) % 8)) ∙ mul_assoc (2 ^ (8 * m)) (2 ^ ((count + w) % 8)) d in
        let whole : all / 2 ^ (8 * p.done) ≡ now + 2 ^ (8 * m) * (2 ^ ((count + w) % 8) * d) = sym one_number ∙ ap (λ v. now + v) power in
        let further : 8 * (p.done + m) ≡ 8 * p.done + 8 * m = mul-add 8 p.done m in
        let shifted : all / 2 ^ (8 * (p.done + m)) ≡ now / 2 ^ (8 * m) + 2 ^ ((count + w) % 8) * d =
        ap (λ e. all / 2 ^ e) further ∙ sym (shr-shr all (8 * p.done) (8 * m)) ∙ ap (λ v. v / 2 ^ (8 * m)) whole
        ∙ add-mul-div_left now (2 ^ ((count + w) % 8) * d) (pow_pos (8 * m)) in
        let text : bytes_of p.done all ++ bytes_of m now ≡ bytes_of (p.done + m) all =
        ap (λ v. bytes_of p.done all ++ v) (sym (ap (bytes_of m) whole ∙ bytes_low m now (2 ^ ((count + w) % 8) * d)))
        ∙ sym (bytes-append p.done m all) in
        let below : now < 2 ^ ((count + w) % 8 + 8 * m) = subst (λ e. now < 2 ^ e) (omega arith) one-small in
        record {
          done = p.done + m;
          some = omega arith;
          few = omega arith;
          bits = omega (arith, p.bits, mul-add w i 1, mul-one w);
          small = subst (λ v. v < 2 ^ count') (sym el) (subst (λ e. now / 2 ^ (8 * m) < 2 ^ e) (sym ec) (shr_lt ((count + w) % 8) (8 * m) below));
          number = ap₂ (λ u e. u + 2 ^ e * d) el ec ∙ sym shifted;
          wrote = subst (λ t. Wrote t a₀ at' before out') text (wrote_on p.wrote wr);
        }

  -- all numbers are put: the bits left fill a last byte, if there are any
  pub pack-end : {out' : List ℕ} {at' : ℕ} → i ≡ length l → Wrote (bytes_of ((count + 7) / 8) low) at at' out out' → Wrote (part_of w l) a₀ at' before out'
  unfolding part_of
  pack-end {out'} {at'} e wr =
      let all = digits (2 ^ w) l in
      let none : digits (2 ^ w) (drop i l) ≡ 0 = ap (λ k. digits (2 ^ w) (drop k l)) e ∙ drop_all (2 ^ w) l in
      let left : low ≡ all / 2 ^ (8 * p.done) = omega (arith, p.number, ap (λ v. 2 ^ count * v) none, mul-zero (2 ^ count)) in
      let size : p.done + (count + 7) / 8 ≡ (w * length l + 7) / 8 = omega (arith, p.bits, ap (λ k. w * k) e) in
      let text : bytes_of p.done all ++ bytes_of ((count + 7) / 8) low ≡ bytes_of ((w * length l + 7) / 8) all =
      ap (λ v. bytes_of p.done all ++ bytes_of ((count + 7) / 8) v) left ∙ sym (bytes-append p.done ((count + 7) / 8) all) ∙ ap (λ k. bytes_of k all) size in
      subst (λ t. Wrote t a₀ at' before out') text (wrote_on p.wrote wr)

-- ---- the loop's invariant: what stays, and what is put
pub record Puts (l : List ℕ) (w at : ℕ) (before out : List ℕ) (low count place i : ℕ) : Type 0 where
  pub narrow : w ≤ 28
  pub held : holds w l ≡ true
  pub room : at + (w * length l + 7) / 8 ≤ length before
  pub packed : Packed w l at before out low count place i

module _ {l before out : List ℕ} {w at low count place i : ℕ} (p : Puts l w at before out low count place i) where
  -- the bits so far, and those of one number more, have room
  bits-room : i ≤ length l → count + 8 * p.packed.done ≤ w * length l
  bits-room h = omega (arith, p.packed.bits, mul-le-mul_left w h)

  pub placed : place ≡ at + p.packed.done
  placed = p.packed.wrote.place ∙ ap (λ k. at + k) (bytes-length p.packed.done (digits (2 ^ w) l))

  pub last-room : place + (count + 7) / 8 ≤ length out
  last-room = omega (arith, placed, p.room, bits-room p.packed.some, wrote-size p.packed.wrote)

  pub next-room : i < length l → place + (count + w) / 8 ≤ length out
  next-room h = omega (arith, placed, p.room, p.packed.bits, mul-add w i 1, mul-one w, mul-le-mul_left w (step h), wrote-size p.packed.wrote)
    where
      step : i < length l → i + 1 ≤ length l
      step h = omega arith

  module _ (h : i < length l) (x : ℕ) (is : x ≡ get_or l i 0) where
    pub fits : x < 2 ^ w
    fits = rw is (below_at (2 ^ w) _ i (holds-below w _ p.held) h)

    -- the sum of the bits does not wrap, and neither does the shift
    pub sum-small : low + x * 2 ^ count < 2 ^ 36
    sum-small = lt_of_lt_of_le (one-small p.packed x h is fits) (pow_mono {j = 36} (omega (arith, p.narrow, p.packed.few)))

    -- v is what the code has for the bits with one number more
    pub puts-next : {out' : List ℕ} {v low' count' place' : ℕ} → v ≡ low + x * 2 ^ count → Wrote (bytes_of ((count + w) / 8) v) place place' out out'
        → low' ≡ v / 2 ^ (8 * ((count + w) / 8)) → count' ≡ (count + w) % 8 → Puts l w at before out' low' count' place' (i + 1)
    puts-next {out'} {v} {low'} {count'} {place'} e wr el ec =
        record {
          narrow = p.narrow;
          held = p.held;
          room = p.room;
          packed =
              pack-next p.packed x h is fits (subst (λ u. Wrote (bytes_of ((count + w) / 8) u) place place' out out') e wr)
              (el ∙ ap (λ u. u / 2 ^ (8 * ((count + w) / 8))) e) ec;
        }

pub puts-start : {l out : List ℕ} {w at : ℕ} → (w ≤ 28) × (length l ≤ 8) × (holds w l ≡ true) × (at + (w * length l + 7) / 8 ≤ length out)
    → Puts l w at out out 0 0 at 0
puts-start h = record { narrow = h.0; held = h.2; room = h.3; packed = pack-start _ _ _ _ (omega (arith, h.3)) }

pub puts-end : {l before out out' : List ℕ} {w at low count place i place' : ℕ} → Puts l w at before out low count place i → length l ≤ i
    → Wrote (bytes_of ((count + 7) / 8) low) place place' out out' → Wrote (part_of w l) at place' before out'
puts-end p h wr = pack-end p.packed (omega (arith, p.packed.some)) wr
