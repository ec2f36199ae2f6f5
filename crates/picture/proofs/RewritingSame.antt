-- Accepted inputs: what is written is the fixed form of size and heights (`accepted-form`), it is accepted itself and gives itself (`gives-itself`),
-- and two accepted inputs give equal bytes exactly where size and heights are equal (`equal-bytes`, `equal-maps`). Assumes nothing.
use mathlib.Core.Path.{◌≡◌, refl, sym, ap, ap₂, subst, ◌∙◌}
use mathlib.Core.Bool.{Bool, true, false}
use mathlib.Core.List.{List, [], ◌∷◌, ◌++◌, append-nil}
use Prim.Native.Nat.{ℕ, ◌*◌, ◌/◌, ◌≤◌}
use native.Mathlib.Omega.{arith}
use native.Mathlib.Nat.{mul-div_cancel_left, mul_comm}
use lib.Dec.{leb}
use lib.ListN.{length, take}
use lib.Seq.{take_at}
use borrow.Author.Tests.{le-leb, leb-true, eq-eqb}
use Rattle.numbers.specs.Signal.{pick, both}
use Rattle.numbers.proofs.Sweep.{both as split-both}
use Rattle.pgm.specs.Limits.{max_field, size_fits}
use Rattle.pgm.specs.Heights.{heights_taken, too_large, bytes_of}
use Rattle.pgm.specs.Header.{Read, found, short, wrong, and_then, is, one, gap, field, Size, side, sized, header_end, header_of}
use Rattle.pgm.specs.Runs.{wide, sample_size, samples_of, fitting, exceeds, heights_of}
use Rattle.pgm.proofs.LimitLaws.{up-to}
use Rattle.pgm.proofs.RunReads.{samples-count}
use Rattle.picture.specs.Form.{form_largest, form_head, row_bytes}
use Rattle.text.specs.Refusal.{refused_line}
use Rattle.picture.specs.Rewriting.{size_end, picture_of, heights_in, whole_rows, rows_of, body_of, rewriting_of, Accepted}
use Rattle.picture.proofs.RowLaws.{row-length}
use Rattle.picture.proofs.FormReads.{largest-wide, largest-holds, head_read, samples-back}

-- ---- what is found was held to the limits
abbrev Good : Read Size → Type 0
Good x = (z : Size) (r : List ℕ) → x ≡ found z r → sized z.width z.height z.largest ≡ true

no_found : {z : Size} {r : List ℕ} → wrong ≡ found z r → ⊥
no_found e = let f : ◌≡◌ {A = ℕ} 0 1 = cc in omega arith

not_short : {z : Size} {r : List ℕ} → short ≡ found z r → ⊥
not_short e = let f : ◌≡◌ {A = ℕ} 0 1 = cc in omega arith

good-then : {A : Type 0} (x : Read A) (f : A → List ℕ → Read Size) → ((a : A) (s : List ℕ) → Good (f a s)) → Good (and_then x f)
good-then (found a s) f g z r e = g a s z r e
good-then short f g z r e = absurd (not_short e)
good-then wrong f g z r e = absurd (no_found e)

good-end : (w h m : ℕ) (s : List ℕ) → Good (header_end w h m s)
unfolding header_end
good-end w h m s z r = go (sized w h m) refl
  where
    go : (b : Bool) → sized w h m ≡ b → pick b (found (record { width = w; height = h; largest = m }) s) wrong ≡ found z r
        → sized z.width z.height z.largest ≡ true
    go true p e = let q : record { width = w; height = h; largest = m } ≡ z = cc in subst (λ y. sized y.width y.height y.largest ≡ true) q p
    go false p e = absurd (no_found e)

-- the header's parts, each with what comes after it
abbrev at_end : ℕ → ℕ → ℕ → ℕ → List ℕ → Read Size
at_end w h m b s = header_end w h m s

abbrev at_largest : ℕ → ℕ → ℕ → List ℕ → Read Size
at_largest w h m s = and_then (gap s) (at_end w h m)

abbrev at_height : ℕ → ℕ → List ℕ → Read Size
at_height w h s = and_then (field s) (at_largest w h)

abbrev at_width : ℕ → List ℕ → Read Size
at_width w s = and_then (field s) (at_height w)

abbrev at_five : ℕ → List ℕ → Read Size
at_five b s = and_then (field s) at_width

abbrev at_mark : ℕ → List ℕ → Read Size
at_mark b s = and_then (one (is 53) s) at_five

good-header : (s : List ℕ) → Good (header_of s)
unfolding header_of
good-header s =
    good-then (one (is 80) s) at_mark λ _ s.
    good-then (one (is 53) s) at_five λ _ s.
    good-then (field s) at_width λ w s.
    good-then (field s) (at_height w) λ h s.
    good-then (field s) (at_largest w h) λ m s.
    good-then (gap s) (at_end w h m) λ _ s.
    good-end w h m s

-- the limits of an input that is accepted
record Limits (z : Size) : Type 0 where
  pub fits : size_fits z.width z.height ≡ true
  pub wide : (1 ≤ z.width) × (z.width ≤ max_field)
  pub high : (1 ≤ z.height) × (z.height ≤ max_field)
  pub largest : z.largest ≤ max_field

make : (y : Size) → size_fits y.width y.height ≡ true → sized y.width y.height y.largest ≡ true → Limits y
unfolding sized side
make y p q =
    let u = split-both (side y.width) (both (side y.height) (side y.largest)) q in
    let v = split-both (side y.height) (side y.largest) u.1 in
    record {
      fits = p;
      wide = up-to max_field y.width u.0;
      high = up-to max_field y.height v.0;
      largest = (up-to max_field y.largest v.1).1;
    }

end-limits : (y z : Size) (s r : List ℕ) (b : Bool) → size_fits y.width y.height ≡ b → sized y.width y.height y.largest ≡ true
    → pick b (found y s) wrong ≡ found z r → Limits z
end-limits y z s r true p q e = let d : y ≡ z = cc in subst Limits d (make y p q)
end-limits y z s r false p q e = absurd (no_found e)

limits_of : (x : Read Size) → Good x → (z : Size) (r : List ℕ) → and_then x size_end ≡ found z r → Limits z
unfolding size_end
limits_of (found y s) g z r e = end-limits y z s r (size_fits y.width y.height) refl (g y s refl) e
limits_of short g z r e = absurd (not_short e)
limits_of wrong g z r e = absurd (no_found e)

-- ---- samples that fit
all_fit : (m : ℕ) (l : List ℕ) → exceeds m l ≡ false → fitting m l ≡ l
unfolding exceeds fitting
all_fit m [] e = refl
all_fit m (v ∷ l) e = go (leb v m) e (all_fit m l)
  where
    go : (b : Bool) → pick b (exceeds m l) true ≡ false → (exceeds m l ≡ false → fitting m l ≡ l) → pick b (v ∷ fitting m l) [] ≡ v ∷ l
    go true e h = ap (λ k. v ∷ k) (h e)
    go false e h = let f : ◌≡◌ {A = ℕ} 0 1 = cc in absurd (omega arith)

larger-fit : (m n : ℕ) (l : List ℕ) → m ≤ n → exceeds m l ≡ false → exceeds n l ≡ false
unfolding exceeds
larger-fit m n [] h e = refl
larger-fit m n (v ∷ l) h e = go (leb v m) refl e (larger-fit m n l h)
  where
    go : (b : Bool) → leb v m ≡ b → pick b (exceeds m l) true ≡ false → (exceeds m l ≡ false → exceeds n l ≡ false) → pick (leb v n) (exceeds n l) true ≡ false
    go true p e g = let k = leb-true v m p in rw (le-leb v n (omega arith)) (g e)
    go false p e g = let f : ◌≡◌ {A = ℕ} 0 1 = cc in absurd (omega arith)

take_whole : (n : ℕ) (l : List ℕ) → length l ≡ n → take n l ≡ l
take_whole n l e = ap (take n) (sym (append-nil l)) ∙ take_at l [] n e

-- ---- an accepted input
abbrev size_of : ℕ → ℕ → ℕ → Size
size_of W H m = record { width = W; height = H; largest = m }

sample-count : (m n : ℕ) (r : List ℕ) → length r ≡ sample_size m * n → length (samples_of m r) ≡ n
unfolding sample_size
sample-count m n r e = samples-count m r ∙ go (wide m) e
  where
    go : (w : Bool) → length r ≡ pick w 2 1 * n → pick w (length r / 2) (length r) ≡ n
    go true e = omega arith
    go false e = omega arith

module _ {s : List ℕ} {W H : ℕ} {hs : List ℕ} (a : Accepted s W H hs) where
  abbrev z : Size
  z = size_of W H a.largest

  limits : Limits z
  unfolding picture_of
  limits = limits_of (header_of s) (good-header s) z a.rest a.head

  count : length (samples_of a.largest a.rest) ≡ W * H
  count = sample-count a.largest (W * H) a.rest a.bytes

  all : take (W * H) (samples_of a.largest a.rest) ≡ samples_of a.largest a.rest
  all = take_whole (W * H) (samples_of a.largest a.rest) count

  fit : exceeds a.largest (samples_of a.largest a.rest) ≡ false
  unfolding too_large
  fit = ap (exceeds a.largest) (sym all) ∙ a.within

  are : hs ≡ samples_of a.largest a.rest
  unfolding heights_taken heights_of
  are = a.heights ∙ ap (take (W * H)) (all_fit a.largest (samples_of a.largest a.rest) fit) ∙ all

  size : length hs ≡ W * H
  size = ap length are ∙ count

  small : exceeds form_largest hs ≡ false
  small = larger-fit a.largest form_largest hs (largest-holds a.largest limits.largest) (ap (exceeds a.largest) are ∙ fit)

  rows : whole_rows W hs ≡ hs
  unfolding whole_rows
  rows =
      let e : length hs / W * W ≡ length hs = ap (λ k. k / W * W) size ∙ ap (λ k. k * W) (mul-div_cancel_left H limits.wide.0) ∙ mul_comm H W ∙ sym size in
      take_whole (length hs / W * W) hs (sym e)

  body : body_of z a.rest ≡ form_head W H ++ row_bytes hs
  unfolding body_of rows_of
  body =
      rw (a.within, eq-eqb (length a.rest) (bytes_of a.largest (W * H)) a.bytes)
      (ap (λ l. form_head W H ++ row_bytes (whole_rows W l)) (sym a.heights) ∙ ap (λ l. form_head W H ++ row_bytes l) rows)

  -- what is written is the fixed form
  pub accepted-form : rewriting_of s ≡ form_head W H ++ row_bytes hs
  unfolding rewriting_of
  accepted-form = ap (λ x. elim x [ found z r ↦ body_of z r | short ↦ refused_line 15 | wrong ↦ refused_line 15 ]) a.head ∙ body

  -- it is accepted, with the same size and heights
  form-accepted : Accepted (form_head W H ++ row_bytes hs) W H hs
  unfolding picture_of size_end too_large heights_taken heights_of sample_size
  form-accepted = record {
    largest = form_largest;
    rest = row_bytes hs;
    head =
        ap (λ x. and_then x size_end) (head_read W H (row_bytes hs) limits.wide.0 limits.wide.1 limits.high.0 limits.high.1)
        ∙ rw limits.fits;
    within = ap (λ l. exceeds form_largest (take (W * H) l)) (samples-back hs) ∙ ap (exceeds form_largest) (take_whole (W * H) hs size) ∙ small;
    bytes = rw largest-wide (row-length hs ∙ ap (λ n. 2 * n) size);
    heights =
        sym
        (ap (λ l. take (W * H) (fitting form_largest l)) (samples-back hs)
        ∙ ap (take (W * H)) (all_fit form_largest hs small)
        ∙ take_whole (W * H) hs size);
  }

  pub rewritten : Accepted (rewriting_of s) W H hs
  rewritten = subst (λ t. Accepted t W H hs) (sym accepted-form) form-accepted

-- "feeding its output for an accepted input to it changes nothing"
pub gives-itself : {s : List ℕ} {W H : ℕ} {hs : List ℕ} → Accepted s W H hs → rewriting_of (rewriting_of s) ≡ rewriting_of s
gives-itself a = accepted-form (rewritten a) ∙ sym (accepted-form a)

-- equal size and heights, equal bytes
pub equal-bytes : {s t : List ℕ} {W H : ℕ} {hs : List ℕ} → Accepted s W H hs → Accepted t W H hs → rewriting_of s ≡ rewriting_of t
equal-bytes a b = accepted-form a ∙ sym (accepted-form b)

-- an input is accepted with one size and one list of heights
pub record Same (W H : ℕ) (hs : List ℕ) (W' H' : ℕ) (ks : List ℕ) : Type 0 where
  pub width : W ≡ W'
  pub height : H ≡ H'
  pub heights : hs ≡ ks

found-size : {y z : Size} {r s : List ℕ} → found y r ≡ found z s → (y ≡ z) × (r ≡ s)
found-size e = (cc, cc)

same-input : {s : List ℕ} {W H : ℕ} {hs : List ℕ} {W' H' : ℕ} {ks : List ℕ} → Accepted s W H hs → Accepted s W' H' ks → Same W H hs W' H' ks
same-input a b =
    let e = found-size (sym a.head ∙ b.head) in
    record {
      width = ap (λ z. z.width) e.0;
      height = ap (λ z. z.height) e.0;
      heights = a.heights ∙ ap₂ heights_in e.0 e.1 ∙ sym b.heights;
    }

-- equal bytes, equal size and heights
pub equal-maps : {s t : List ℕ} {W H : ℕ} {hs : List ℕ} {W' H' : ℕ} {ks : List ℕ} → Accepted s W H hs → Accepted t W' H' ks
    → rewriting_of s ≡ rewriting_of t → Same W H hs W' H' ks
equal-maps {W' = W'} {H' = H'} {ks = ks} a b e = same-input (rewritten a) (subst (λ t. Accepted t W' H' ks) (sym e) (rewritten b))
