-- Behind the steps of a loader: what becomes of a byte, by its cases (`Became`), and that the next step is met with what it requires (`Onward`). Assumes
-- nothing.
use mathlib.Core.Path.{◌≡◌, refl, sym, ap, ◌∙◌, subst}
use mathlib.Core.Bool.{Bool, true, false}
use Prim.Native.Nat.{ℕ, ◌+◌, ◌*◌, ◌/◌, ◌%◌, ◌^◌, ◌<◌}
use native.Mathlib.Nat.{mod-lt}
use native.Mathlib.Omega.{arith}
use lib.IntN.{ℤ}
use lib.Dec.{eqb}
use lib.ListN.{get_or}
use borrow.Author.Tests.{eq-eqb, ne_eqb}
use Rattle.numbers.specs.Signal.{windowed}
use Rattle.reader.specs.declared.Reader.{Reader}
use Rattle.reader.specs.Answers as answer
use Rattle.reader.specs.Reading.{feed_question, feed_reply, feed_store}
use Rattle.ground_file.specs.Groups.{bytes_of}
use Rattle.ground_file.specs.File.{header_of, prime}
use Rattle.ground_loader.specs.declared.rows.Coming.{Coming}
use Rattle.ground_loader.specs.declared.loader.Loader.{Loader}
use Rattle.ground_loader.specs.declared.loader.Due.{Due}
use Rattle.ground_loader.specs.Coming.{between, refused, moved, put_on}
use Rattle.ground_loader.specs.Loader.{World, world_of, loader_at, shape_of, taken, away, ends, sum_on, is_over}
use Rattle.ground_loader.specs.Loader.{header_byte, tail_byte, feed_byte, row_byte, row_over, fed_number, fed_store}
use Rattle.ground_loader.specs.Local.{Step, plain_due, due_of, Stands, Sound, Onward, Became, took, turned, over, FedStep, passed, ended, HeaderTaken}
use Rattle.ground_loader.specs.Local.{TailTaken}
use Rattle.ground_loader.proofs.SumLaws.{prime-some, sum-bytes}
use Rattle.ground_loader.proofs.StandLaws.{byte-on}
use Rattle.ground_loader.proofs.ReaderLaws.{fed-same, fed-ended}
use Rattle.ground_loader.proofs.DueLaws.{due-ended, in_tail, in-row-header, sound-fresh}

abbrev refusing : ℕ → Loader → Due → Step
refusing q l d = record { answer = q; loader = l; due = d }

abbrev taking : Loader → Step
taking l = record { answer = 0; loader = l; due = due_of l }

sum-small : (s b : ℕ) → sum_on s b < prime
sum-small s b = mod-lt (256 * s + b) prime-some

stays : (l : Loader) (d : Due) (q : ℕ) → Sound l d → Onward l (refusing q l d)
stays l d q s = record { due = s.due; sound = λ _ _. s; store = λ _. refl; row = λ _. refl }

-- ---- the header
module _ (l : Loader) (d : Due) (b : ℕ) (s : Sound l d) (z : d.phase ≡ 0) where
  pub header-away : (v : ℕ) (t : Step) → v ≡ get_or (header_of (shape_of l.reader) l.step) l.header 0 → (v ≡ b → ⊥) → t ≡ refusing 22 l d
      → HeaderTaken l b t × Onward l t
  unfolding header_byte
  header-away v t e never is =
      subst (λ t. HeaderTaken l b t × Onward l t) (sym is) (
        λ n x y. rw (ne_eqb (get_or (header_of (shape_of l.reader) l.step) l.header 0) b (λ f. never (e ∙ f)))
            (turned (omega arith) (λ f. omega arith) refl),
        stays l d 22 s,
      )

  pub header-on : (v u : ℕ) (k : Loader) (t : Step) → v ≡ get_or (header_of (shape_of l.reader) l.step) l.header 0 → v ≡ b → u ≡ sum_on l.sum b
      → k ≡ loader_at l.reader l.step (l.header + 1) l.coming u l.tail → t ≡ taking k → HeaderTaken l b t × Onward l t
  unfolding header_byte
  header-on v u k t e f eu ek is =
      subst (λ t. HeaderTaken l b t × Onward l t) (sym (is ∙ ap taking ek')) (
        λ n x y. rw (eq-eqb (get_or (header_of (shape_of l.reader) l.step) l.header 0) b (sym e ∙ f)) (took refl),
        record {
          due = refl;
          sound = λ _ p. sound-fresh to (due_of to) refl p (λ _. s.fits) s.stop s.step (sum-small l.sum b) (s.none (λ g. omega arith));
          store = λ _. refl;
          row = λ _. refl;
        },
      )
    where
      to : Loader
      to = loader_at l.reader l.step (l.header + 1) l.coming (sum_on l.sum b) l.tail

      ek' : k ≡ to
      ek' = ek ∙ ap (λ w. loader_at l.reader l.step (l.header + 1) l.coming w l.tail) eu

-- ---- the checksum
module _ (l : Loader) (d : Due) (b : ℕ) (s : Sound l d) (z : d.phase ≡ 2) where
  byte-is : get_or (bytes_of 4 l.sum) l.tail 0 ≡ l.sum / 2 ^ (8 * l.tail) % 256
  byte-is = sum-bytes 4 l.tail l.sum (in_tail l d s.due z).1

  pub tail-away : (r : Bool) (t : Step) → r ≡ eqb (l.sum / 2 ^ (8 * l.tail) % 256) b → r ≡ false → t ≡ refusing 22 l d → TailTaken l b t × Onward l t
  unfolding tail_byte
  tail-away r t e not-it is =
      subst (λ t. TailTaken l b t × Onward l t) (sym is)
      (λ n x y. rw (ap (λ v. eqb v b) byte-is ∙ sym e ∙ not-it) (turned (omega arith) (λ f. omega arith) refl), stays l d 22 s)

  pub tail-on : (r : Bool) (k : Loader) (t : Step) → r ≡ eqb (l.sum / 2 ^ (8 * l.tail) % 256) b → r ≡ true
      → k ≡ loader_at l.reader l.step l.header l.coming l.sum (l.tail + 1) → t ≡ taking k → TailTaken l b t × Onward l t
  unfolding tail_byte
  tail-on r k t e it ek is =
      subst (λ t. TailTaken l b t × Onward l t) (sym (is ∙ ap taking ek)) (
        λ n x y. rw (ap (λ v. eqb v b) byte-is ∙ sym e ∙ it) (took refl),
        record {
          due = refl;
          sound = λ _ p. sound-fresh to (due_of to) refl p (λ _. s.fits) s.stop s.step s.sum (s.none (λ g. omega arith));
          store = λ _. refl;
          row = λ _. refl;
        },
      )
    where
      to : Loader
      to = loader_at l.reader l.step l.header l.coming l.sum (l.tail + 1)

-- ---- a row that is over is fed
module _ (l : Loader) (d : Due) (b : ℕ) (s : Sound l d) (z : d.phase ≡ 1) (q : ℕ) where
  pub fed-on : (a : answer.Reply Reader) (r : Reader) (u : ℕ) (c : Coming) (k : Loader) (t : Step) → a ≡ feed_reply l.reader q → a ≡ answer.gives r
      → u ≡ sum_on l.sum b → c ≡ between 0 → k ≡ loader_at r l.step l.header c u l.tail → t ≡ taking k
      → FedStep l b t (feed_reply l.reader q) × Onward l t
  fed-on a r u c k t ea er eu ec ek is =
      let same = fed-same l.reader r q (sym er ∙ ea) in
      subst (λ t. FedStep l b t (feed_reply l.reader q) × Onward l t) (sym (is ∙ ap taking ek')) (
        subst (FedStep l b (taking to)) (sym er ∙ ea) (passed r refl refl),
        record {
          due = refl;
          sound = λ _ p. sound-fresh to (due_of to) refl p (λ h. absurd (omega (arith, h, in-row-header l d s.due z)))
              (same.stop.0 ∙ s.stop.0, same.stop.1 ∙ s.stop.1) s.step (sum-small l.sum b) refl;
          store = λ _. same.needs;
          row = λ _. same.row;
        },
      )
    where
      to : Loader
      to = loader_at r l.step l.header (between 0) (sum_on l.sum b) l.tail

      ek' : k ≡ to
      ek' = ek ∙ (λ i. loader_at r l.step l.header (ec i) (eu i) l.tail)

  pub fed-over : (a : answer.Reply Reader) (r : Reader) (c : Coming) (k : Loader) (t : Step) → a ≡ feed_reply l.reader q → a ≡ answer.impossible r
      → c ≡ between 0 → k ≡ loader_at r l.step l.header c l.sum l.tail → t ≡ record { answer = 14; loader = k; due = plain_due 5 }
      → FedStep l b t (feed_reply l.reader q) × Onward l t
  fed-over a r c k t ea er ec ek is =
      subst (λ t. FedStep l b t (feed_reply l.reader q) × Onward l t) (sym (is ∙ ap (λ v. record { answer = 14; loader = v; due = plain_due 5 }) ek')) (
        subst (FedStep l b (record { answer = 14; loader = to; due = plain_due 5 })) (sym er ∙ ea) (ended r refl refl),
        record {
          due = due-ended to (fed-ended l.reader r q (sym er ∙ ea)) refl;
          sound = λ f. absurd (omega arith);
          store = λ f. absurd (omega arith);
          row = λ f. absurd (omega arith);
        },
      )
    where
      to : Loader
      to = loader_at r l.step l.header (between 0) l.sum l.tail

      ek' : k ≡ to
      ek' = ek ∙ ap (λ v. loader_at r l.step l.header v l.sum l.tail) ec

-- ---- a byte of a row
module _ (l : Loader) (x y : ℕ → ℤ) (n b c m : ℕ) where
  abbrev w : World
  w = world_of l x y

  row-away : refused m l.coming b ≡ true → row_byte w n b c m ≡ away 22
  unfolding row_byte
  row-away e = rw e refl

  row_last : refused m l.coming b ≡ false → is_over m (moved m l.coming b) ≡ true
      → row_byte w n b c m ≡ feed_byte w n b c m (feed_reply l.reader (fed_number w n b c m))
  unfolding row_byte
  row_last e f = rw (e, f) refl

  row_more : refused m l.coming b ≡ false → is_over m (moved m l.coming b) ≡ false → row_byte w n b c m
      ≡ taken (world_of (loader_at l.reader l.step l.header (moved m l.coming b) (sum_on l.sum b) l.tail) x (put_on m l.coming b y))
  unfolding row_byte
  row_more e f = rw (e, f) refl

  pub row-refuses : (d : Due) (t : Step) → Sound l d → refused m l.coming b ≡ true → t ≡ refusing 22 l d → Became w t x y (row_byte w n b c m) × Onward l t
  row-refuses d t s e is =
      subst (λ t. Became w t x y (row_byte w n b c m) × Onward l t) (sym is)
      (subst (Became w (refusing 22 l d) x y) (sym (row-away e)) (turned (omega arith) (λ f. omega arith) refl), stays l d 22 s)

  -- 7: nothing is changed
  pub row-seven : (d : Due) (t : Step) → Sound l d → refused m l.coming b ≡ false → is_over m (moved m l.coming b) ≡ true
      → feed_reply l.reader (fed_number w n b c m) ≡ answer.refused 7 → t ≡ refusing 7 l d → Became w t x y (row_byte w n b c m) × Onward l t
  unfolding feed_byte
  row-seven d t s e f g is =
      subst (λ t. Became w t x y (row_byte w n b c m) × Onward l t) (sym is)
      (subst (Became w (refusing 7 l d) x y) (sym (row_last e f ∙ ap (feed_byte w n b c m) g)) (turned (omega arith) (λ f. omega arith) refl), stays l d 7 s)

  -- the row over was fed: v is what was fed, x' and y' what stands in the areas
  pub row-fed : (t : Step) (v x' y' : ℕ → ℤ) → refused m l.coming b ≡ false → is_over m (moved m l.coming b) ≡ true → v ≡ windowed 0 m (row_over w n b c m)
      → y' ≡ row_over w n b c m → x' ≡ feed_store l.reader (feed_question l.reader n x m v) v x
      → FedStep l b t (feed_reply l.reader (feed_question l.reader n x m v)) → Became w t x' y' (row_byte w n b c m)
  unfolding feed_byte
  row-fed t v x' y' e f ev ey ex g =
      let number : feed_question l.reader n x m v ≡ fed_number w n b c m = ap (feed_question l.reader n x m) ev in
      let store : x' ≡ fed_store w n b c m = ex ∙ (λ i. feed_store l.reader (number i) (ev i) x) in
      subst (Became w t x' y') (sym (row_last e f ∙ ap (λ q. feed_byte w n b c m (feed_reply l.reader q)) (sym number)))
      (go store g)
    where
      go : {a : answer.Reply Reader} → x' ≡ fed_store w n b c m → FedStep l b t a → Became w t x' y' (feed_byte w n b c m a)
      go store (passed r ea el) = subst (Became w t x' y') (λ i. taken (world_of (el i) (store i) (ey i))) (took ea)
      go store (ended r ea el) = subst (Became w t x' y') (λ i. ends (world_of (el i) (store i) (ey i))) (over ea)

  -- the same where the length of what was fed is m by an equation
  pub row-fed-by : (t : Step) (m' : ℕ) (v x' y' : ℕ → ℤ) → m' ≡ m → refused m l.coming b ≡ false → is_over m (moved m l.coming b) ≡ true
      → v ≡ windowed 0 m (row_over w n b c m) → y' ≡ row_over w n b c m
      → x' ≡ feed_store l.reader (feed_question l.reader n x m' v) v x → FedStep l b t (feed_reply l.reader (feed_question l.reader n x m' v))
      → Became w t x' y' (row_byte w n b c m)
  row-fed-by t m' v x' y' em e f ev ey =
      subst
      (λ u. x' ≡ feed_store l.reader (feed_question l.reader n x u v) v x → FedStep l b t (feed_reply l.reader (feed_question l.reader n x u v))
      → Became w t x' y' (row_byte w n b c m)) (sym em) (λ ex g. row-fed t v x' y' e f ev ey ex g)

  -- a byte that does not end the row
  pub row_on : (d : Due) (u : ℕ) (v : Coming) (y' : ℕ → ℤ) (k : Loader) (t : Step) → b < 256 → Sound l d → d.phase ≡ 1 → m ≡ d.count
      → refused m l.coming b ≡ false → is_over m (moved m l.coming b) ≡ false → u ≡ sum_on l.sum b → v ≡ moved m l.coming b
      → y' ≡ put_on m l.coming b y → k ≡ loader_at l.reader l.step l.header v u l.tail → t ≡ record { answer = 0; loader = k; due = d }
      → Became w t x y' (row_byte w n b c m) × Onward l t
  unfolding due_of
  row_on d u v y' k t byte s z em e f eu ev ey ek is =
      subst (λ t. Became w t x y' (row_byte w n b c m) × Onward l t) (sym (is ∙ ap (λ g. record { answer = 0; loader = g; due = d }) ek')) (
        subst (Became w (record { answer = 0; loader = to; due = d }) x y') ((λ i. taken (world_of to x (ey i))) ∙ sym (row_more e f)) (took refl),
        record {
          due = s.due;
          sound = λ _ p.
              record {
                due = s.due;
                bytes = p;
                fits = s.fits;
                stop = s.stop;
                step = s.step;
                sum = sum-small l.sum b;
                comes = λ _. subst (λ g. Stands g (moved m l.coming b)) em
                    (byte-on m l.coming b byte (subst (λ g. Stands g l.coming) (sym em) (s.comes z)) e f);
                none = λ g. absurd (g z);
              };
          store = λ _. refl;
          row = λ _. refl;
        },
      )
    where
      to : Loader
      to = loader_at l.reader l.step l.header (moved m l.coming b) (sum_on l.sum b) l.tail

      ek' : k ≡ to
      ek' = ek ∙ (λ i. loader_at l.reader l.step l.header (ev i) (eu i) l.tail)
