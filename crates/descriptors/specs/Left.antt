-- What is left of a chunk, and what a fill does.
use Rattle.std.specs.Prelude.{◌≡◌, Bool, true, false, cond, List, ℕ, ◌+◌, ◌-◌, ◌≤◌, leb, eqb, length, take, drop, Option, Some, None, IfSome}
use Rattle.descriptors.specs.declared.input.Left.{Left}
use Rattle.descriptors.specs.declared.input.Came.{Came}
use Rattle.descriptors.specs.declared.input.Came.TheVariants as coming
use Rattle.descriptors.specs.declared.input.Filled.{Filled}

-- the bytes of the chunk c that are left
unfoldable pub left_in : List ℕ → Left → List ℕ
left_in c l = take (l.to - l.from) (drop l.from c)

-- l stands within the chunk c
pub record Within (c : List ℕ) (l : Left) : Type 0 where
  pub start : l.from ≤ l.to
  pub end : l.to ≤ length c

-- n of the bytes left are used; all of them, where there are no more
unfoldable pub used_of : Left → ℕ → Left
used_of l n = record { from = cond (leb (l.from + n) l.to) (l.from + n) l.to; to = l.to }

-- whether a fill reads: more is wanted (w), and nothing is left
unfoldable pub reads_now : Bool → Left → Bool
reads_now w l = cond w (leb l.to l.from) false

-- so many bytes came
abbrev pub count_of : Came → ℕ
count_of coming.Nothing = 0
count_of (coming.Bytes n) = n
count_of coming.End = 0
count_of coming.Failed = 0

abbrev pub is_end : Came → Bool
is_end coming.Nothing = false
is_end (coming.Bytes n) = false
is_end coming.End = true
is_end coming.Failed = false

abbrev pub is_failed : Came → Bool
is_failed coming.Nothing = false
is_failed (coming.Bytes n) = false
is_failed coming.End = false
is_failed coming.Failed = true

-- what came where a read answered `got`, None where it failed: none at the input's end, which no failure is
abbrev pub came : Option ℕ → Came
came None = coming.Failed
came (Some n) = cond (eqb n 0) coming.End (coming.Bytes n)

-- what is so once that came: so much is left
abbrev pub read_of : Came → Filled
read_of k = record { left = record { from = 0; to = count_of k }; came = k }

abbrev pub nothing_new : Left → Filled
nothing_new l = record { left = l; came = coming.Nothing }

-- what a fill leaves where l was left of the chunk c; c' stands there then
pub data Fills (w : Bool) (l : Left) (c c' : List ℕ) (r : Filled) : Type 0 where
  keeps : reads_now w l ≡ false → r ≡ nothing_new l → c' ≡ c → Fills w l c c' r
  -- a read answers no more than the chunk holds
  reads : (got : Option ℕ) → reads_now w l ≡ true → IfSome got (λ n. n ≤ length c') → r ≡ read_of (came got) → Fills w l c c' r
