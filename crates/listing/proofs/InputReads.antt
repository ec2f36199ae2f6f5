-- What is read byte by byte is what the definition reads of the bytes (`read-all`), and reading can be cut anywhere (`cut-events`, `cut-input`).
-- Assumes nothing.
use mathlib.Core.Path.{◌≡◌, refl, ap, ◌∙◌}
use mathlib.Core.Bool.{Bool, true, false}
use mathlib.Core.List.{List, [], ◌∷◌, ◌++◌}
use Prim.Native.Nat.{ℕ, zero, suc, ◌+◌, ◌*◌, ◌<◌}
use native.Mathlib.Omega.{arith}
use lib.Dec.{leb, ltb, eqb}
use lib.ListN.{length}
use borrow.Author.Tests.{lt-ltb, le-ltb, ne_eqb}
use Rattle.wavelet.specs.Limits.{max_levels}
use Rattle.numbers.specs.Signal.{pick}
use Rattle.pgm.specs.Characters.{digit_value}
use Rattle.pgm.specs.Header.{Read, found, short, wrong, and_then, is, one, Size, header_of}
use Rattle.pgm.specs.Steps.{begun, step_of, feed, stepped, read_by}
use Rattle.pgm.specs.Runs.{wide, sample_size, pairs_of, samples_of, fitting, exceeds, heights_of}
use Rattle.pgm.specs.declared.header.Header.{Header}
use Rattle.pgm.specs.NextAnswer.{NextAnswer}
use Rattle.pgm.specs.NextAnswer as next
use Rattle.pgm.specs.Limits.{size_fits}
use Rattle.pgm.specs.Heights.{heights_taken, too_large, refusal_in}
use Rattle.pgm.proofs.HeaderReads.{reads}
use Rattle.pgm.proofs.InputReads.{at, first_byte, Lasts, second-byte, single-byte}
use Rattle.pgm.proofs.HeightLaws.{Leads, leads-two, leads_one, more_lt, more-eq, no-sample, some_byte, bytes-none}
use Rattle.listing.specs.Listing.{Head, head_end, head_of}
use Rattle.pgm.specs.InputSteps.{start_at, levels_read, line_feed_read, shape_read, next_read, header_read, height_read}
use Rattle.pgm.specs.InputSteps.{level_digit, read_byte, input_ended}
use Rattle.listing.specs.Events.{begins, height, refusal, whole, over, Reading, with_event, heights_reading}
use Rattle.listing.specs.Events.{nothing_yet, refused_reading, head_reading, reading_of, and_on, step_then, read_all, sum}
use Rattle.pgm.specs.declared.input.Input.{Input}
use Rattle.pgm.specs.StepAnswer.{StepAnswer}
use Rattle.pgm.specs.StepAnswer as steps

-- ---- nothing more is read
after-refusal : (L : ℕ) (h : Header) (n m : ℕ) (x : Bool) (v : ℕ) (s : List ℕ) → sum (read_all (at 4 L h n m x v) s) ≡ record { events = []; ending = over }
unfolding read_all read_byte input_ended
after-refusal L h n m x v [] = refl
after-refusal L h n m x v (b ∷ s) = after-refusal L h n m x v s

-- a refusal, and nothing more
refused : (q L : ℕ) (h : Header) (n m : ℕ) (x : Bool) (v : ℕ) (s : List ℕ)
    → sum (and_on (refusal q) (read_all (at 4 L h n m x v) s)) ≡ record { events = refusal q ∷ []; ending = over }
refused q L h n m x v s = ap (with_event (refusal q)) (after-refusal L h n m x v s)

-- ---- heights, as the definition reads them
module _ (m n : ℕ) where
  one-more : (v : ℕ) (s r : List ℕ) → Leads m v s r → leb v m ≡ true → with_event (height v) (heights_reading m n r) ≡ heights_reading m (suc n) s
  unfolding heights_reading heights_taken too_large refusal_in heights_of fitting exceeds sample_size
  one-more v s r l e = rw (l.samples, e, more_lt (wide m) n (length r) (length s) l.bytes, more-eq (wide m) n (length r) (length s) l.bytes)

  too-large : (v : ℕ) (s r : List ℕ) → Leads m v s r → leb v m ≡ false → record { events = refusal 16 ∷ []; ending = over } ≡ heights_reading m (suc n) s
  unfolding heights_reading heights_taken too_large refusal_in heights_of fitting exceeds
  too-large v s r l e = rw (l.samples, e)

  -- no whole sample, and fewer bytes than the next has
  short-of : (s : List ℕ) → samples_of m s ≡ [] → length s < sample_size m → nothing_yet ≡ heights_reading m (suc n) s
  unfolding heights_reading heights_taken too_large refusal_in heights_of fitting exceeds sample_size
  short-of s e h = rw (e, (below (wide m) h).0, (below (wide m) h).1)
    where
      below : (w : Bool) → length s < pick w 2 1 → (ltb (pick w 2 1 * suc n) (length s) ≡ false) × (eqb (length s) (pick w 2 1 * suc n) ≡ false)
      below true h = (le-ltb (2 * suc n) (length s) (omega arith), ne_eqb (length s) (2 * suc n) (λ z. omega arith))
      below false h = (le-ltb (1 * suc n) (length s) (omega arith), ne_eqb (length s) (1 * suc n) (λ z. omega arith))

none-short : (m n : ℕ) → nothing_yet ≡ heights_reading m (suc n) []
none-short m n = short-of m n [] (no-sample m) (some_byte m)

half-short : (m n a : ℕ) → wide m ≡ true → nothing_yet ≡ heights_reading m (suc n) (a ∷ [])
unfolding samples_of pairs_of sample_size
half-short m n a e = short-of m n (a ∷ []) (rw e refl) (rw e (omega arith))

surplus : (m b : ℕ) (r : List ℕ) → refused_reading ≡ heights_reading m 0 (b ∷ r)
unfolding heights_reading heights_taken too_large refusal_in exceeds
surplus m b r = rw (bytes-none m, lt-ltb 0 (suc (length r)) (omega arith), ne_eqb (suc (length r)) 0 (λ e. omega arith))

all_there : (m : ℕ) → record { events = []; ending = whole } ≡ heights_reading m 0 []
unfolding heights_reading heights_taken too_large refusal_in exceeds
all_there m = rw (bytes-none m)

-- ---- and byte by byte
-- the end, with heights still to come
too_few : (L : ℕ) (h : Header) (n m : ℕ) (x : Bool) (v : ℕ) → sum (read_all (at 3 L h (suc n) m x v) []) ≡ nothing_yet
unfolding read_all input_ended
too_few L h n m x v = rw (lt-ltb 0 (suc n) (omega arith))

-- what the bytes s bring after a byte
abbrev then : List ℕ → StepAnswer → Reading
then s x = sum (step_then (λ j. read_all j s) x)

-- after the last byte of a sample
lasts : (L : ℕ) (h : Header) (n m : ℕ) (x : Bool) (v b u : ℕ) (s r : List ℕ) (f : Bool) → leb u m ≡ f → Lasts max_levels L h n m x v b u → Leads m u s r
    → sum (read_all (at 3 L h n m false 0) r) ≡ heights_reading m n r → then r (read_byte max_levels (at 3 L h (suc n) m x v) b) ≡ heights_reading m (suc n) s
lasts L h n m x v b u s r true e d l g = ap (then r) (d.0 e) ∙ ap (with_event (height u)) g ∙ one-more m n u s r l e
lasts L h n m x v b u s r false e d l g = ap (then r) (d.1 e) ∙ refused 16 L h (suc n) m x v r ∙ too-large m n u s r l e

pairs : (L : ℕ) (h : Header) (m : ℕ) → wide m ≡ true → (r : List ℕ) (n v : ℕ) → sum (read_all (at 3 L h n m false v) r) ≡ heights_reading m n r
unfolding read_all read_byte height_read input_ended
pairs L h m w [] zero v = all_there m
pairs L h m w [] (suc n) v = too_few L h n m false v ∙ none-short m n
pairs L h m w (b ∷ r) zero v = refused 15 L h zero m false v r ∙ surplus m b r
pairs L h m w (b ∷ []) (suc n) v = ap (then []) (first_byte max_levels L h n m v b w) ∙ too_few L h n m true b ∙ half-short m n b w
pairs L h m w (b ∷ c ∷ r) (suc n) v =
    ap (then (c ∷ r)) (first_byte max_levels L h n m v b w)
    ∙ lasts L h n m true b c (256 * b + c) (b ∷ c ∷ r) r (leb (256 * b + c) m) refl (second-byte max_levels L h n m b c w) (leads-two m b c r w)
    (pairs L h m w r n 0)

singles : (L : ℕ) (h : Header) (m : ℕ) → wide m ≡ false → (r : List ℕ) (n v : ℕ) → sum (read_all (at 3 L h n m false v) r) ≡ heights_reading m n r
unfolding read_all read_byte height_read input_ended
singles L h m w [] zero v = all_there m
singles L h m w [] (suc n) v = too_few L h n m false v ∙ none-short m n
singles L h m w (b ∷ r) zero v = refused 15 L h zero m false v r ∙ surplus m b r
singles L h m w (b ∷ r) (suc n) v =
    lasts L h n m false v b b (b ∷ r) r (leb b m) refl (single-byte max_levels L h n m false v b w) (leads_one m b r w) (singles L h m w r n 0)

heights : (r : List ℕ) (L : ℕ) (h : Header) (n m v : ℕ) → sum (read_all (at 3 L h n m false v) r) ≡ heights_reading m n r
heights r L h n m v = go (wide m) refl
  where
    go : (w : Bool) → wide m ≡ w → sum (read_all (at 3 L h n m false v) r) ≡ heights_reading m n r
    go true e = pairs L h m e r n v
    go false e = singles L h m e r n v

-- ---- the head
-- what comes after a header of w × h and largest value m, L being the levels
abbrev shape_reading : ℕ → ℕ → ℕ → ℕ → List ℕ → Reading
shape_reading L w h m r = head_reading (head_end L w h m r)

-- the input's state before the heights
abbrev early : ℕ → ℕ → Header → Input
early p L k = at p L k 0 0 false 0

shape : (L : ℕ) (k : Header) (w h m : ℕ) (r : List ℕ) (t : Bool) → size_fits w h ≡ t
    → sum (step_then (λ j. read_all j r) (shape_read (early 2 L k) w h m)) ≡ shape_reading L w h m r
unfolding shape_read head_end
shape L k w h m r true e = rw e (ap (with_event (begins (record { width = w; height = h; levels = L }))) (heights r L k (w * h) m 0))
shape L k w h m r false e = rw e (refused 15 L k 0 0 false 0 r)

abbrev size_reading : ℕ → Read Size → Reading
size_reading L (found z r) = shape_reading L z.width z.height z.largest r
size_reading L short = nothing_yet
size_reading L wrong = refused_reading

step_reading : (L : ℕ) (k : Header) (x : NextAnswer) (s : List ℕ) → ((k : Header) → sum (read_all (early 2 L k) s) ≡ size_reading L (read_by (feed k s)))
    → sum (step_then (λ j. read_all j s) (next_read (early 2 L k) x)) ≡ size_reading L (read_by (stepped (λ y. feed y s) s x))
step_reading L k (next.More y) s e = e y
step_reading L k (next.Done w h m) s e = shape L k w h m s (size_fits w h) refl
step_reading L k next.No15 s e = refused 15 L k 0 0 false 0 s

header : (s : List ℕ) (L : ℕ) (k : Header) → sum (read_all (early 2 L k) s) ≡ size_reading L (read_by (feed k s))
unfolding read_all read_byte header_read input_ended feed
header [] L k = refl
header (b ∷ s) L k = step_reading L k (step_of k b) s (λ y. header s L y)

-- the definition's head, from its header
from-size : (L : ℕ) (x : Read Size) → size_reading L x ≡ head_reading (and_then x λ z r. head_end L z.width z.height z.largest r)
from-size L (found z r) = refl
from-size L short = refl
from-size L wrong = refl

abbrev after_digit : ℕ → List ℕ → Read Head
after_digit L s = and_then (one (is 10) s) λ _ s. and_then (header_of s) λ z r. head_end L z.width z.height z.largest r

feeds : (L b : ℕ) (s : List ℕ) (t : Bool) → eqb b 10 ≡ t
    → sum (step_then (λ j. read_all j s) (line_feed_read (early 1 L (begun 0)) b)) ≡ head_reading (after_digit L (b ∷ s))
unfolding line_feed_read one
feeds L b s true e = rw e (header s L (begun 0) ∙ ap (size_reading L) (reads s) ∙ from-size L (header_of s))
feeds L b s false e = rw e (refused 15 L (begun 0) 0 0 false 0 s)

line-feed : (s : List ℕ) (L : ℕ) → sum (read_all (early 1 L (begun 0)) s) ≡ head_reading (after_digit L s)
unfolding read_all read_byte input_ended one
line-feed [] L = refl
line-feed (b ∷ s) L = feeds L b s (eqb b 10) refl

digits : (b : ℕ) (s : List ℕ) (t : Bool) → level_digit max_levels b ≡ t
    → sum (step_then (λ j. read_all j s) (levels_read max_levels (start_at 0) b)) ≡ reading_of (b ∷ s)
unfolding levels_read reading_of head_of one
digits b s true e = rw e (line-feed s (digit_value b))
digits b s false e = rw e (refused 15 0 (begun 0) 0 0 false 0 s)

pub read-all : (s : List ℕ) → sum (read_all (start_at 0) s) ≡ reading_of s
unfolding read_all read_byte input_ended reading_of head_of one
read-all [] = refl
read-all (b ∷ s) = digits b s (level_digit max_levels b) refl

-- ---- cut anywhere
events-step : (x : StepAnswer) (s t : List ℕ) → ((i : Input) → (read_all i (s ++ t)).events ≡ (read_all i s).events ++ (read_all (read_all i s).input t).events)
    → (step_then (λ i. read_all i (s ++ t)) x).events ≡ (step_then (λ i. read_all i s) x).events ++ (read_all (step_then (λ i. read_all i s) x).input t).events
events-step (steps.More i) s t e = e i
events-step (steps.Begun i w h) s t e = ap (λ l. begins (record { width = w; height = h; levels = i.levels }) ∷ l) (e i)
events-step (steps.Height i v) s t e = ap (λ l. height v ∷ l) (e i)
events-step (steps.No i q) s t e = ap (λ l. refusal q ∷ l) (e i)

input-step : (x : StepAnswer) (s t : List ℕ) → ((i : Input) → (read_all i (s ++ t)).input ≡ (read_all (read_all i s).input t).input)
    → (step_then (λ i. read_all i (s ++ t)) x).input ≡ (read_all (step_then (λ i. read_all i s) x).input t).input
input-step (steps.More i) s t e = e i
input-step (steps.Begun i w h) s t e = e i
input-step (steps.Height i v) s t e = e i
input-step (steps.No i q) s t e = e i

pub cut-events : (s t : List ℕ) (i : Input) → (read_all i (s ++ t)).events ≡ (read_all i s).events ++ (read_all (read_all i s).input t).events
unfolding read_all
cut-events [] t i = refl
cut-events (b ∷ s) t i = events-step (read_byte max_levels i b) s t (cut-events s t)

pub cut-input : (s t : List ℕ) (i : Input) → (read_all i (s ++ t)).input ≡ (read_all (read_all i s).input t).input
unfolding read_all
cut-input [] t i = refl
cut-input (b ∷ s) t i = input-step (read_byte max_levels i b) s t (cut-input s t)
