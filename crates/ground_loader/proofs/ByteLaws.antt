-- Behind the calls that take a byte, over plain variables: what each case of a definition says. Assumes nothing.
use mathlib.Core.Path.{◌≡◌, refl, sym, ap, ap₂, ◌∙◌}
use mathlib.Core.Bool.{Bool, true, false, not}
use mathlib.Core.List.{[], ◌∷◌}
use Prim.Native.Nat.{ℕ, zero, suc, ◌+◌, ◌*◌, ◌-◌, ◌/◌, ◌%◌, ◌^◌, ◌≤◌, ◌<◌, min}
use native.Mathlib.Nat.{mul-le-mul_left, mul-le-mul_right, div-mul-le_self, mul_comm, mod-lt}
use native.Mathlib.Omega.{arith}
use lib.IntN.{ℤ}
use lib.Dec.{ltb, leb, eqb}
use lib.Pow.{pow_pos, pow_mono}
use borrow.Author.Tests.{lt-ltb, le-ltb, eq-eqb, ne_eqb}
use Rattle.std.proofs.Common.{Some, None}
use Rattle.numbers.specs.Signal.{pick, spliced}
use Rattle.ground_file.specs.Groups.{width_of, code_of}
use Rattle.ground_loader.specs.declared.rows.Coming.{Coming}
use Rattle.ground_loader.specs.declared.rows.Seen.{Seen}
use Rattle.ground_loader.specs.Numbers.{value_of, number_at, numbers_in, greatest}
use Rattle.ground_loader.specs.Coming.{put, part_size, between, opened, second, second_put, grouped, group_put, group_refused}
use Rattle.ground_loader.specs.Coming.{seen_bits, whole_of, seen_of, part_refused, stayed, deinterleaved, ends_first, part_stored, part_put}
use Rattle.ground_loader.specs.Coming.{refused, moved, put_on, next_of, InPart}
use Rattle.ground_loader.proofs.SmallestLaws.{widest, some-width}

-- ---- the second part
module _ (n d c : ℕ) where
  pub second-open : {k : ℕ} {r : Coming} → 0 < c → k ≡ part_size n d → r ≡ opened 2 d c 0 k → r ≡ second n d c
  unfolding second
  second-open h e f = rw (ne_eqb c 0 (λ z. omega arith)) (f ∙ ap (opened 2 d c 0) e)

  pub second-kept : {x : ℕ → ℤ} → 0 < c → x ≡ second_put n d c x
  unfolding second_put
  second-kept h = rw (ne_eqb c 0 (λ z. omega arith)) refl

  pub second_none : {k : ℕ} {r : Coming} → c ≡ 0 → k ≡ part_size n d → r ≡ between (d + k) → r ≡ second n d c
  unfolding second
  second_none h e f = rw (eq-eqb c 0 h) (f ∙ ap (λ v. between (d + v)) e)

  pub second-zeros : {k : ℕ} (x : ℕ → ℤ) {y : ℕ → ℤ} → c ≡ 0 → k ≡ part_size n d → y ≡ spliced d k (λ i. value_of (number_at 0 0 i)) x → y ≡ second_put n d c x
  unfolding second_put put
  second-zeros x h e f = rw (eq-eqb c 0 h) (f ∙ ap (λ v. spliced d v (λ i. value_of (number_at 0 0 i)) x) e)

-- ---- a group's byte
module _ (n d b : ℕ) where
  pub group-open : {k : ℕ} {r : Coming} → 0 < b % 16 → k ≡ part_size n d → r ≡ opened 1 d (b % 16) (b / 16) k → r ≡ grouped n d b
  unfolding grouped
  group-open h e f = rw (ne_eqb (b % 16) 0 (λ z. omega arith)) (f ∙ ap (opened 1 d (b % 16) (b / 16)) e)

  pub group-kept : {x : ℕ → ℤ} → 0 < b % 16 → x ≡ group_put n d b x
  unfolding group_put
  group-kept h = rw (ne_eqb (b % 16) 0 (λ z. omega arith)) refl

  pub group-none : {k : ℕ} {r : Coming} → b % 16 ≡ 0 → k ≡ part_size n d → r ≡ second n (d + k) (b / 16) → r ≡ grouped n d b
  unfolding grouped
  group-none h e f = rw (eq-eqb (b % 16) 0 h) (f ∙ ap (λ v. second n (d + v) (b / 16)) e)

  pub group-zeros : {k : ℕ} (x : ℕ → ℤ) {y z : ℕ → ℤ} → b % 16 ≡ 0 → k ≡ part_size n d → y ≡ spliced d k (λ i. value_of (number_at 0 0 i)) x
      → z ≡ second_put n (d + k) (b / 16) y → z ≡ group_put n d b x
  unfolding group_put put
  group-zeros x h e f g =
      rw (eq-eqb (b % 16) 0 h)
      (g ∙ (λ i. second_put n (d + e i) (b / 16) ((f ∙ ap (λ v. spliced d v (λ j. value_of (number_at 0 0 j)) x) e) i)))

  pub group-few : b < 16 → false ≡ group_refused n d b
  unfolding group_refused
  group-few h = rw (lt-ltb b 16 h) refl

  pub group-many : 16 ≤ b → leb (n - d) 8 ≡ group_refused n d b
  unfolding group_refused
  group-many h = rw (le-ltb b 16 h) refl

-- ---- the bits of a part's byte
module _ (l b c : ℕ) (p : c < 28) (q : l < 2 ^ c) (r : b < 256) where
  pub joined_small : l + b * 2 ^ c < 2 ^ 36
  joined_small =
      let top : 2 ^ c ≤ 2 ^ 27 = pow_mono {i = c} {j = 27} (omega arith) in
      let times : b * 2 ^ c ≤ 255 * 2 ^ c = mul-le-mul_right (2 ^ c) (omega arith) in
      omega (arith, top, times)

  pub joined-fits : l + (b * 2 ^ c) % 2 ^ 64 < 2 ^ 64
  joined-fits = omega (arith, joined_small)

  pub joined_is : l + (b * 2 ^ c) % 2 ^ 64 ≡ l + b * 2 ^ c
  joined_is = omega (arith, joined_small)

pub seen-is : (c : Coming) (b : ℕ) {w x k m : ℕ} → w ≡ width_of c.code → x ≡ seen_bits c b → k ≡ min ((c.bits + 8) / w) c.left
    → m ≡ greatest c.most (numbers_in w k x) → ◌≡◌ {A = Seen} (record { bits = x; whole = k; most = m }) (seen_of c b)
seen-is c b ew ex ek em =
    let ek' = ek ∙ ap (λ v. min ((c.bits + 8) / v) c.left) ew in
    let em' = em ∙ (λ i. greatest c.most (numbers_in (ew i) (ek' i) (ex i))) in
    λ i. record { bits = ex i; whole = ek' i; most = em' i }

pub size_room : (n d : ℕ) {k : ℕ} → d ≤ n → k ≡ part_size n d → d + k ≤ n
size_room n d h e = omega arith

-- ---- a part: what its numbers allow
pub greatest-below : (w k m b : ℕ) → m < 2 ^ w → greatest m (numbers_in w k b) < 2 ^ w
unfolding greatest numbers_in
greatest-below w zero m b h = h
greatest-below w (suc k) m b h = greatest-below w k (pick (ltb m (b % 2 ^ w)) (b % 2 ^ w) m) (b / 2 ^ w) (go (ltb m (b % 2 ^ w)))
  where
    go : (t : Bool) → pick t (b % 2 ^ w) m < 2 ^ w
    go true = mod-lt b (pow_pos w)
    go false = h

module _ {n : ℕ} {c : Coming} (p : InPart n c) where
  pub few_bits : c.bits < 28
  few_bits = omega (arith, p.narrow, widest c.code)

  pub wide : 0 < width_of c.code
  wide = some-width c.code p.code_some

  pub whole-used : width_of c.code * whole_of c ≤ c.bits + 8
  whole-used =
      let q = (c.bits + 8) / width_of c.code in
      let most : width_of c.code * whole_of c ≤ width_of c.code * q = mul-le-mul_left (width_of c.code) (omega arith) in
      let all : q * width_of c.code ≤ c.bits + 8 = div-mul-le_self (c.bits + 8) (width_of c.code) in
      omega (arith, most, all, mul_comm (width_of c.code) q)

  module _ (b : ℕ) (s : Seen) (is : s ≡ seen_of c b) where
    pub whole-left : s.whole ≤ c.left
    whole-left = let e : s.whole ≡ whole_of c = ap (λ v. v.whole) is in omega arith

    pub used : {w : ℕ} → w ≡ width_of c.code → w * s.whole ≤ c.bits + 8
    used {w} e = let f : w * s.whole ≡ width_of c.code * whole_of c = ap₂ ◌*◌ e (ap (λ v. v.whole) is) in omega (arith, f, whole-used)

    pub most-held : s.most < 2 ^ width_of c.code
    most-held = rw (ap (λ v. v.most) is) (greatest-below (width_of c.code) (whole_of c) c.most (seen_bits c b) p.held)

-- ---- a part's byte
module _ (c : Coming) (s : Seen) where
  pub refused-more : s.whole < c.left → false ≡ part_refused c s
  unfolding part_refused
  refused-more h = rw (lt-ltb s.whole c.left h) refl

  pub refused-bits : {w : ℕ} → c.left ≤ s.whole → w ≡ width_of c.code → 0 < s.bits / 2 ^ (w * s.whole) → true ≡ part_refused c s
  unfolding part_refused
  refused-bits {w} h e g =
      rw (le-ltb s.whole c.left h, sym e, lt-ltb 0 (s.bits / 2 ^ (w * s.whole)) g) refl

  pub refused-code : {w : ℕ} {r : Bool} → c.left ≤ s.whole → w ≡ width_of c.code → s.bits / 2 ^ (w * s.whole) ≤ 0
      → r ≡ eqb (code_of (s.most ∷ [])) c.code → not r ≡ part_refused c s
  unfolding part_refused
  refused-code {w} h e g f =
      rw (le-ltb s.whole c.left h, sym e, le-ltb 0 (s.bits / 2 ^ (w * s.whole)) g) (ap not f)

  module _ (n : ℕ) where
    pub deinterleaved-stay : {r : Coming} → s.whole < c.left → r ≡ stayed c s → r ≡ deinterleaved n c s
    unfolding deinterleaved
    deinterleaved-stay h g = rw (lt-ltb s.whole c.left h) g

    pub deinterleaved-second : {r : Coming} → c.left ≤ s.whole → c.phase ≡ 1 → r ≡ second n (c.done + s.whole) c.next → r ≡ deinterleaved n c s
    unfolding deinterleaved
    deinterleaved-second h e g = rw (le-ltb s.whole c.left h, eq-eqb c.phase 1 e) g

    pub deinterleaved-over : {r : Coming} → c.left ≤ s.whole → (c.phase ≡ 1 → ⊥) → r ≡ between (c.done + s.whole) → r ≡ deinterleaved n c s
    unfolding deinterleaved
    deinterleaved-over h e g = rw (le-ltb s.whole c.left h, ne_eqb c.phase 1 e) g

    pub put_second : {t : Bool} (x : ℕ → ℤ) {y z : ℕ → ℤ} → t ≡ ends_first c s → t ≡ true → y ≡ part_stored c s x
        → z ≡ second_put n (c.done + s.whole) c.next y → z ≡ part_put n c s x
    unfolding part_put
    put_second x e h f g = rw (sym e ∙ h) (g ∙ ap (second_put n (c.done + s.whole) c.next) f)

    pub put_only : {t : Bool} (x : ℕ → ℤ) {y : ℕ → ℤ} → t ≡ ends_first c s → t ≡ false → y ≡ part_stored c s x → y ≡ part_put n c s x
    unfolding part_put
    put_only x e h f = rw (sym e ∙ h) f

  pub ends_more : s.whole < c.left → false ≡ ends_first c s
  unfolding ends_first
  ends_more h = rw (lt-ltb s.whole c.left h) refl

  pub ends-all : c.left ≤ s.whole → eqb c.phase 1 ≡ ends_first c s
  unfolding ends_first
  ends-all h = rw (le-ltb s.whole c.left h) refl

  pub stored_is : {w : ℕ} (x : ℕ → ℤ) {y : ℕ → ℤ} → w ≡ width_of c.code
      → y ≡ spliced c.done s.whole (λ i. value_of (number_at w s.bits i)) x → y ≡ part_stored c s x
  unfolding part_stored put
  stored_is x e f = f ∙ ap (λ v. spliced c.done s.whole (λ i. value_of (number_at v s.bits i)) x) e

  pub stayed-is : {w : ℕ} → w ≡ width_of c.code
      → ◌≡◌ {A = Coming}
      (record {
        phase = c.phase;
        done = c.done + s.whole;
        code = c.code;
        next = c.next;
        left = c.left - s.whole;
        low = s.bits / 2 ^ (w * s.whole);
        bits = c.bits + 8 - w * s.whole;
        most = s.most;
      })
      (stayed c s)
  stayed-is e =
      λ i.
      record {
        phase = c.phase;
        done = c.done + s.whole;
        code = c.code;
        next = c.next;
        left = c.left - s.whole;
        low = s.bits / 2 ^ (e i * s.whole);
        bits = c.bits + 8 - e i * s.whole;
        most = s.most;
      }

-- ---- a byte
module _ (n : ℕ) (c : Coming) (b : ℕ) where
  -- where the test t, which is that of the phase, says yes or no
  took-no : {t : Bool} → t ≡ refused n c b → t ≡ true → None ≡ next_of n c b
  unfolding next_of
  took-no e h = rw (sym e ∙ h) refl

  took-yes : {t : Bool} {r : Coming} → t ≡ refused n c b → t ≡ false → r ≡ moved n c b → Some r ≡ next_of n c b
  unfolding next_of
  took-yes e h g = rw (sym e ∙ h) (ap Some g)

  module _ (z : c.phase ≡ 0) where
    at-group : {t : Bool} → t ≡ group_refused n c.done b → t ≡ refused n c b
    unfolding refused
    at-group e = rw (eq-eqb c.phase 0 z) e

    pub group-away : {t : Bool} → t ≡ group_refused n c.done b → t ≡ true → None ≡ next_of n c b
    group-away e h = took-no (at-group e) h

    pub group-on : {t : Bool} {r : Coming} → t ≡ group_refused n c.done b → t ≡ false → r ≡ grouped n c.done b → Some r ≡ next_of n c b
    unfolding moved
    group-on e h f = took-yes (at-group e) h (rw (eq-eqb c.phase 0 z) f)

    pub group-put : (x : ℕ → ℤ) {y : ℕ → ℤ} → y ≡ group_put n c.done b x → y ≡ put_on n c b x
    unfolding put_on
    group-put x g = rw (eq-eqb c.phase 0 z) g

    pub group-moved : moved n c b ≡ grouped n c.done b
    unfolding moved
    group-moved = rw (eq-eqb c.phase 0 z) refl

    pub group-refuses : refused n c b ≡ group_refused n c.done b
    unfolding refused
    group-refuses = rw (eq-eqb c.phase 0 z) refl

  module _ (z : 0 < c.phase) where
    pub part_moved : moved n c b ≡ deinterleaved n c (seen_of c b)
    unfolding moved
    part_moved = rw (ne_eqb c.phase 0 (λ v. omega arith)) refl

    module _ {s : Seen} (is : s ≡ seen_of c b) where
      at_part : {t : Bool} → t ≡ part_refused c s → t ≡ refused n c b
      unfolding refused
      at_part e = rw (ne_eqb c.phase 0 (λ v. omega arith)) (e ∙ ap (part_refused c) is)

      pub part-away : {t : Bool} → t ≡ part_refused c s → t ≡ true → None ≡ next_of n c b
      part-away e h = took-no (at_part e) h

      pub part-on : {t : Bool} {r : Coming} → t ≡ part_refused c s → t ≡ false → r ≡ deinterleaved n c s → Some r ≡ next_of n c b
      part-on e h f = took-yes (at_part e) h (f ∙ ap (deinterleaved n c) is ∙ sym part_moved)

      pub part-put : (x : ℕ → ℤ) {y : ℕ → ℤ} → y ≡ part_put n c s x → y ≡ put_on n c b x
      unfolding put_on
      part-put x g = rw (ne_eqb c.phase 0 (λ v. omega arith)) (g ∙ ap (λ v. part_put n c v x) is)

-- what a taken byte is
pub took-away : (n : ℕ) (c : Coming) (b : ℕ) → next_of n c b ≡ None → refused n c b ≡ true
unfolding next_of
took-away n c b h = go (refused n c b) h
  where
    go : (t : Bool) → pick t None (Some (moved n c b)) ≡ None → t ≡ true
    go true h = refl
    go false h = cc

pub took-on : (n : ℕ) (c : Coming) (b : ℕ) (v : Coming) → next_of n c b ≡ Some v → (refused n c b ≡ false) × (v ≡ moved n c b)
unfolding next_of
took-on n c b v h = go (refused n c b) h
  where
    go : (t : Bool) → pick t None (Some (moved n c b)) ≡ Some v → (t ≡ false) × (v ≡ moved n c b)
    go true h = cc
    go false h = (refl, cc)
