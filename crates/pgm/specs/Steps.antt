-- What one byte makes of a header that is being read, and the reading of a whole list of bytes by such steps. proofs/HeaderReads: that reading is `header_of`'s.
use Rattle.std.specs.Prelude.{Bool, true, false, List, [], ◌∷◌, ◌++◌, ℕ, suc, ◌+◌, ◌*◌, min, eqb}
use Rattle.numbers.specs.Signal.{pick}
use Rattle.pgm.specs.Characters.{space, line_end, digit, digit_value}
use Rattle.pgm.specs.Limits.{max_field}
use Rattle.pgm.specs.Header.{Read, found, short, wrong, Size, sized}
use Rattle.pgm.specs.declared.header.Header.{Header}
use Rattle.pgm.specs.NextAnswer.{NextAnswer}
use Rattle.pgm.specs.NextAnswer.{More, Done, No15}

-- at a stage, no digit of its number read yet: c, inside a comment
abbrev pub staged : ℕ → Bool → ℕ → ℕ → ℕ → Header
staged k c w h m = record { stage = k; comment = c; any = false; number = 0; width = w; height = h; largest = m }

abbrev pub begun : ℕ → Header
begun k = staged k false 0 0 0

-- before the gaps
unfoldable pub expected : Bool → ℕ → NextAnswer
expected right k = pick right (More (begun k)) No15

-- inside a comment, or after it
abbrev pub commented : Bool → Header → Header
commented c h = record { stage = h.stage; comment = c; any = h.any; number = h.number; width = h.width; height = h.height; largest = h.largest }

-- a gap's last byte: the one after the largest value ends the header
unfoldable pub gap_ended : Header → NextAnswer
gap_ended h =
    pick (eqb h.stage 6)
    (pick (sized h.width h.height h.largest) (Done h.width h.height h.largest) No15)
    (More (commented false h))

-- a gap's first byte, and a byte of a comment
unfoldable pub gap_read : Header → ℕ → NextAnswer
gap_read h b = pick (space b) (gap_ended h) (pick (eqb b 35) (More (commented true h)) No15)

unfoldable pub comment_read : Header → ℕ → NextAnswer
comment_read h b = pick (line_end b) (gap_ended h) (More h)

-- the number of a stage is read
unfoldable pub number_ended : Header → Header
number_ended h =
    pick (eqb h.stage 3) (staged 4 false h.number h.height h.largest)
    (pick (eqb h.stage 4) (staged 5 false h.width h.number h.largest)
    (staged 6 false h.width h.height h.number))

-- a digit more of the number, which is v then: the one after the largest that a header may have stands for every larger one
abbrev pub numbered : ℕ → Header → Header
numbered v h = record {
  stage = h.stage;
  comment = false;
  any = true;
  number = v;
  width = h.width;
  height = h.height;
  largest = h.largest;
}

-- a byte of a number, of the gaps before it, or of the gap after it
unfoldable pub in_number : Header → ℕ → NextAnswer
in_number h b =
    pick (digit b)
    (More (numbered (min (10 * h.number + digit_value b) (suc max_field)) h))
    (gap_read (pick h.any (number_ended h) h) b)

unfoldable pub step_of : Header → ℕ → NextAnswer
step_of h b =
    pick (eqb h.stage 0) (expected (eqb b 80) 1)
    (pick (eqb h.stage 1) (expected (eqb b 53) 2)
    (pick (eqb h.stage 2) (gap_read (begun 3) b)
    (pick h.comment (comment_read h b)
    (in_number h b))))

-- ---- bytes after bytes
-- what the steps have come to: a header still being read, or a size and the bytes left over, or a refusal
pub data Fed : Type 0 where
  still : Header → Fed
  ended : ℕ → ℕ → ℕ → List ℕ → Fed
  bad : Fed

-- after a step: f reads on, s is left over
abbrev pub stepped : (Header → Fed) → List ℕ → NextAnswer → Fed
stepped f s (More h) = f h
stepped f s (Done w n m) = ended w n m s
stepped f s No15 = bad

unfoldable pub feed : Header → List ℕ → Fed
feed h [] = still h
feed h (b ∷ s) = stepped (λ k. feed k s) s (step_of h b)

-- more bytes, after what came before
unfoldable pub feed_on : Fed → List ℕ → Fed
feed_on (still h) s = feed h s
feed_on (ended w n m r) s = ended w n m (r ++ s)
feed_on bad s = bad

-- the bytes of all pieces
abbrev pub joined : List (List ℕ) → List ℕ
joined [] = []
joined (p ∷ ps) = p ++ joined ps

-- piece after piece
unfoldable pub feed_pieces : Fed → List (List ℕ) → Fed
feed_pieces f [] = f
feed_pieces f (p ∷ ps) = feed_pieces (feed_on f p) ps

-- what it says of the input so far
abbrev pub read_by : Fed → Read Size
read_by (still h) = short
read_by (ended w n m r) = found (record { width = w; height = n; largest = m }) r
read_by bad = wrong
