-- What the steps of the one pass compute, each by itself: the private functions' contracts cite it. That together they give the four
-- passes is proved in proofs/OnePassLaws.antt.
use Rattle.std.specs.Prelude.{List, ℕ, ◌+◌, length, set, ltb, eqb, Float}
use Rattle.numbers.specs.Signal.{pick}
use Rattle.profile.specs.Profile.{alpha, beta, gamma, delta, lifted, four_passes}
use Rattle.profile.specs.Calls.{heights, floats, fronted}
use Rattle.profile.specs.declared.carry.Carried.{Carried}

-- carried on, with the third value that is due
abbrev pub carried_on : Carried → Float → Float → Float → Carried
carried_on s e f g = record { even = e; first = f; second = g; third = lifted gamma s.second s.first g }

-- one turn, given the next odd and even sample
abbrev pub turned : Carried → Float → Float → Carried
turned s o e = carried_on s e (lifted alpha s.even o e) (lifted beta s.first s.even (lifted alpha s.even o e))

-- the even sample that is done with the new third value
abbrev pub low : Carried → Float → Float
low s third = lifted delta s.third s.second third

-- the whole of it: the four passes at the front of the area
abbrev pub passed : List ℕ → List Float → ℕ → Float
passed row out = fronted (length row) (four_passes (length row) (heights row)) (floats out)

-- the turn at place p of a row x of n samples, where what is outside the row is mirrored: it is one of the values carried
abbrev pub next_even : ℕ → (ℕ → Float) → ℕ → Carried → Float
next_even n x p s = pick (ltb (p + 4) n) (x (p + 4)) s.even

abbrev pub next_first : ℕ → (ℕ → Float) → ℕ → Carried → Float → Float
next_first n x p s e = pick (ltb (p + 3) n) (lifted alpha s.even (x (p + 3)) e) s.first

abbrev pub next_second : ℕ → ℕ → Carried → Float → Float
next_second n p s f = pick (ltb (p + 2) n) (lifted beta s.first s.even f) s.second

abbrev pub turned_at : ℕ → (ℕ → Float) → ℕ → Carried → Carried
turned_at n x p s =
    let e = next_even n x p s in
    let f = next_first n x p s e in
    carried_on s e f (next_second n p s f)

-- before the first pair: the third value is the one that the turn at 0 makes, since it is its own mirror; that turn reads no third value
abbrev pub opened : ℕ → (ℕ → Float) → Carried
opened n x =
    let e = pick (ltb 2 n) (x 2) (x 0) in
    let f = lifted alpha (x 0) (x 1) e in
    let g = lifted beta f (x 0) f in
    record { even = e; first = f; second = g; third = (turned_at n x 0 (record { even = e; first = f; second = g; third = f })).third }

-- a pair stored, and the last samples of the row
abbrev pub paired : List Float → ℕ → Float → Float → List Float
paired l p even odd = set (set l p even) (p + 1) odd

abbrev pub closed : ℕ → (ℕ → Float) → ℕ → Carried → List Float → List Float
closed n x p s l =
    let t = turned_at n x p s in
    pick (eqb p n) l (pick (ltb (p + 1) n) (paired l p (low s t.third) t.third) (set l p (low s s.third)))
