-- What is packed into a state array is what is unpacked from it, and the array is one of its kind: a call finds what the call before it left. Assumes nothing.
use mathlib.Core.Path.{◌≡◌, refl, ap, ap₂, ◌∙◌}
use mathlib.Core.Bool.{Bool, true, false}
use Prim.Native.Nat.{ℕ, ◌%◌, ◌<◌}
use native.Mathlib.Omega.{arith}
use lib.Dec.{eqb, leb}
use borrow.Author.Tests.{le-leb}
use Rattle.numbers.specs.Signal.{both}
use Rattle.writer.specs.declared.Writer.{Writer}
use Rattle.reader.specs.declared.Reader.{Reader}
use Rattle.turns.specs.declared.Turns.{Turns}
use Rattle.states.specs.States.{flag, zero_next, zero_to, is_state}
use Rattle.states.specs.WriterState.{is_writer, writer_of, writer_words}
use Rattle.states.specs.ReaderState.{is_reader, reader_of, reader_words}
use Rattle.ground_file.specs.declared.saver.Saver.{Saver}
use Rattle.states.specs.SaverState.{is_saver, saver_of, saver_words}
use Rattle.ground_loader.specs.declared.loader.Loader.{Loader}
use Rattle.states.specs.LoaderState.{is_loader, loader_of, loader_words}
use Rattle.states.specs.TurnsState.{is_turns, turns_of, turns_words}

flag-back : (b : Bool) → eqb (flag b) 1 ≡ b
flag-back true = refl
flag-back false = refl

-- ---- a writer
pub writer-back : (w : Writer) → writer_of (writer_words w) ≡ w
writer-back w =
    ap
    (λ (b : Bool). record {
      width = w.width;
      levels = w.levels;
      rows = w.rows;
      column = w.column;
      finished = b;
      closed = w.closed;
      level = w.level;
      left = w.left;
      offset = w.offset;
      x = w.x;
      y = w.y;
      filter = w.filter;
    })
    (flag-back w.finished)

pub writer-is : (w : Writer) → is_writer (writer_words w) ≡ true
unfolding is_state zero_to zero_next
writer-is w = go w.finished refl
  where
    go : (b : Bool) → w.finished ≡ b → is_writer (writer_words w) ≡ true
    go true e = rw e refl
    go false e = rw e refl

-- ---- a reader
pub reader-back : (r : Reader) → reader_of (reader_words r) ≡ r
reader-back r =
    ap
    (λ (b : Bool). record {
      width = r.width;
      height = r.height;
      levels = r.levels;
      x = r.x;
      y = r.y;
      drawn = r.drawn;
      level = r.level;
      back = r.back;
      band = r.band;
      ended = b;
      filter = r.filter;
      stop = r.stop;
      spare = r.spare;
      admission = r.admission;
    })
    (flag-back r.ended)

pub reader-is : (r : Reader) → is_reader (reader_words r) ≡ true
unfolding is_state zero_to zero_next
reader-is r = go r.ended refl
  where
    go : (b : Bool) → r.ended ≡ b → is_reader (reader_words r) ≡ true
    go true e = rw e refl
    go false e = rw e refl

-- ---- a turn-giver
pub turns-back : (t : Turns) → turns_of (turns_words t) ≡ t
turns-back t = refl

pub turns-is : (t : Turns) → is_turns (turns_words t) ≡ true
unfolding is_turns
turns-is t = refl

-- ---- a saver; of its shape x and y are of 16 bits and the filter of 32, as the structure has them
pub saver-back : (s : Saver) → s.shape.x < 65536 → s.shape.y < 65536 → s.shape.filter < 4294967296 → saver_of (saver_words s) ≡ s
saver-back s hx hy hf = of (omega arith) (omega arith) (omega arith)
  where
    with : ℕ → ℕ → ℕ → Saver
    with x y f = record {
      shape = record { width = s.shape.width; height = s.shape.height; levels = s.shape.levels; x = x; y = y; filter = f };
      step = s.step;
      place = s.place;
      group = s.group;
      part = s.part;
      sum = s.sum;
      phase = s.phase;
    }

    of : s.shape.x % 65536 ≡ s.shape.x → s.shape.y % 65536 ≡ s.shape.y → s.shape.filter % 4294967296 ≡ s.shape.filter → saver_of (saver_words s) ≡ s
    of a b e = ap₂ (λ x y. with x y (s.shape.filter % 4294967296)) a b ∙ ap (with s.shape.x s.shape.y) e

pub saver-is : (s : Saver) → s.shape.x < 65536 → s.shape.y < 65536 → s.shape.filter < 4294967296 → is_saver (saver_words s) ≡ true
unfolding is_saver zero_to zero_next
saver-is s hx hy hf =
    rw
    (le-leb s.shape.x 65535 (omega arith), le-leb s.shape.y 65535 (omega arith), le-leb s.shape.filter 4294967295 (omega arith))
    refl

-- ---- a loader
pub loader-back : (l : Loader) → loader_of (loader_words l) ≡ l
loader-back l = ap (λ r. record { reader = r; step = l.step; header = l.header; coming = l.coming; sum = l.sum; tail = l.tail }) (reader-back l.reader)

pub loader-is : (l : Loader) → is_loader (loader_words l) ≡ true
unfolding is_loader zero_to zero_next
loader-is l = go l.reader.ended refl
  where
    go : (b : Bool) → l.reader.ended ≡ b → is_loader (loader_words l) ≡ true
    go true e = ap (λ u. both (leb (flag u) 1) true) e
    go false e = ap (λ u. both (leb (flag u) 1) true) e
