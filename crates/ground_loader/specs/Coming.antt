-- A band row of n numbers, byte by byte as it comes in: what a byte makes of what came (`next_of`) and of the values (`put_on`), and where it is turned away
-- (`refused`).
use Rattle.std.specs.Prelude.{◌≡◌, Option, Some, None, Bool, true, false, not, [], ◌∷◌, ℕ, ◌+◌, ◌*◌, ◌-◌, ◌/◌, ◌%◌, ◌^◌, ◌≤◌, ◌<◌, min, ℤ, ltb, leb, eqb}
use Rattle.numbers.specs.Signal.{pick, spliced}
use Rattle.ground_file.specs.Groups.{width_of, code_of}
use Rattle.ground_loader.specs.declared.rows.Coming.{Coming}
use Rattle.ground_loader.specs.declared.rows.Seen.{Seen}
use Rattle.ground_loader.specs.Numbers.{value_of, number_at, numbers_in, greatest}

-- the values of k numbers of w bits each, from place d of a row on
unfoldable pub put : ℕ → ℕ → ℕ → ℕ → (ℕ → ℤ) → ℕ → ℤ
put d w k b x = spliced d k (λ i. value_of (number_at w b i)) x

-- ---- a group
-- before a group's byte, or after the row's last; before a part's first byte
abbrev pub between : ℕ → Coming
between d = record { phase = 0; done = d; code = 0; next = 0; left = 0; low = 0; bits = 0; most = 0 }

abbrev pub opened : ℕ → ℕ → ℕ → ℕ → ℕ → Coming
opened p d c e k = record { phase = p; done = d; code = c; next = e; left = k; low = 0; bits = 0; most = 0 }

-- "its first eight numbers, then the others"
abbrev pub part_size : ℕ → ℕ → ℕ
part_size n d = min 8 (n - d)

-- a part of width 0 takes no byte
unfoldable pub second : ℕ → ℕ → ℕ → Coming
second n d c = pick (eqb c 0) (between (d + part_size n d)) (opened 2 d c 0 (part_size n d))

unfoldable pub second_put : ℕ → ℕ → ℕ → (ℕ → ℤ) → ℕ → ℤ
second_put n d c x = pick (eqb c 0) (put d 0 (part_size n d) 0 x) x

unfoldable pub grouped : ℕ → ℕ → ℕ → Coming
grouped n d b = pick (eqb (b % 16) 0) (second n (d + part_size n d) (b / 16)) (opened 1 d (b % 16) (b / 16) (part_size n d))

unfoldable pub group_put : ℕ → ℕ → ℕ → (ℕ → ℤ) → ℕ → ℤ
group_put n d b x = pick (eqb (b % 16) 0) (second_put n (d + part_size n d) (b / 16) (put d 0 (part_size n d) 0 x)) x

-- "0 for a part without numbers"
unfoldable pub group_refused : ℕ → ℕ → ℕ → Bool
group_refused n d b = pick (ltb b 16) false (leb (n - d) 8)

-- ---- a part
abbrev pub seen_bits : Coming → ℕ → ℕ
seen_bits c b = c.low + b * 2 ^ c.bits

abbrev pub whole_of : Coming → ℕ
whole_of c = min ((c.bits + 8) / width_of c.code) c.left

abbrev pub seen_of : Coming → ℕ → Seen
seen_of c b = record {
  bits = seen_bits c b;
  whole = whole_of c;
  most = greatest c.most (numbers_in (width_of c.code) (whole_of c) (seen_bits c b));
}

-- with its last byte: "bits past the last number are 0", "the smallest that holds the part's numbers"
unfoldable pub part_refused : Coming → Seen → Bool
part_refused c s =
    pick (ltb s.whole c.left) false (pick (ltb 0 (s.bits / 2 ^ (width_of c.code * s.whole))) true (not (eqb (code_of (s.most ∷ [])) c.code)))

abbrev pub stayed : Coming → Seen → Coming
stayed c s = record {
  phase = c.phase;
  done = c.done + s.whole;
  code = c.code;
  next = c.next;
  left = c.left - s.whole;
  low = s.bits / 2 ^ (width_of c.code * s.whole);
  bits = c.bits + 8 - width_of c.code * s.whole;
  most = s.most;
}

unfoldable pub deinterleaved : ℕ → Coming → Seen → Coming
deinterleaved n c s =
    pick (ltb s.whole c.left) (stayed c s)
    (pick (eqb c.phase 1) (second n (c.done + s.whole) c.next) (between (c.done + s.whole)))

unfoldable pub part_stored : Coming → Seen → (ℕ → ℤ) → ℕ → ℤ
part_stored c s x = put c.done (width_of c.code) s.whole s.bits x

-- the last byte of a group's first part
unfoldable pub ends_first : Coming → Seen → Bool
ends_first c s = pick (ltb s.whole c.left) false (eqb c.phase 1)

unfoldable pub part_put : ℕ → Coming → Seen → (ℕ → ℤ) → ℕ → ℤ
part_put n c s x = pick (ends_first c s) (second_put n (c.done + s.whole) c.next (part_stored c s x)) (part_stored c s x)

-- ---- a byte
unfoldable pub refused : ℕ → Coming → ℕ → Bool
refused n c b = pick (eqb c.phase 0) (group_refused n c.done b) (part_refused c (seen_of c b))

unfoldable pub moved : ℕ → Coming → ℕ → Coming
moved n c b = pick (eqb c.phase 0) (grouped n c.done b) (deinterleaved n c (seen_of c b))

unfoldable pub put_on : ℕ → Coming → ℕ → (ℕ → ℤ) → ℕ → ℤ
put_on n c b x = pick (eqb c.phase 0) (group_put n c.done b x) (part_put n c (seen_of c b) x)

-- a byte that is turned away is not taken
unfoldable pub next_of : ℕ → Coming → ℕ → Option Coming
next_of n c b = pick (refused n c b) None (Some (moved n c b))

-- ---- the ranges of its numbers
pub record InPart (n : ℕ) (c : Coming) : Type 0 where
  pub code_some : 0 < c.code
  pub code_few : c.code ≤ 15
  pub some : 0 < c.left
  pub room : c.done + c.left ≤ n
  pub narrow : c.bits < width_of c.code
  pub small : c.low < 2 ^ c.bits
  pub held : c.most < 2 ^ width_of c.code

-- before a byte of a row that is not over
pub record Standing (n : ℕ) (c : Coming) : Type 0 where
  pub before : c.phase ≡ 0 → c.done < n
  pub within : 0 < c.phase → InPart n c
