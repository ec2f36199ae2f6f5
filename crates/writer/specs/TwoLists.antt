-- Document 02, Q-2: "What is drawn must be what it would have been had those heights come after the draws." Two lists of calls on fresh writers of one
-- set-up. In the first, heights are offered while rows wait; the second leaves these offers out and has, after each draw that empties the wait, one offer of
-- the heights held. By the calls, their answers and values alone: whether rows wait is what a look tells.
use Rattle.std.specs.Prelude.{Bool, false, not, List, [], ◌∷◌, ◌++◌, ℕ, eqb, length}
use Rattle.numbers.specs.Signal.{pick, both}
use Rattle.calls.specs.Lists.{Reply, gives, refused}
use Rattle.writer.specs.History.{Call, offer, draw, finish, look, Event, offered, drew, finished, looked, World, event, next, taken_by}
use Rattle.writer.specs.Demand3.{is_none}

-- rows wait
abbrev pub tells : Event → Bool
tells (looked (gives b)) = not (eqb b.level 0)
tells (looked (refused q)) = false
tells (offered run r) = false
tells (drew a r b) = false
tells (finished r) = false

abbrev pub waits_in : World → Bool
waits_in w = tells (event look w)

-- the draw that the second list has just made emptied the wait, and heights are held
abbrev pub is_due : List ℕ → World → Bool
is_due hs b = both (not (is_none hs)) (not (waits_in b))

-- ---- the second list: a and b are the worlds that the two lists have come to, hs the heights held
unfoldable pub apart : List Call → List ℕ → World → World → List Call
apart [] hs a b = []
apart (offer n run ∷ cs) hs a b =
    pick (waits_in b)
    (apart cs (hs ++ taken_by (event (offer n run) a)) (next (offer n run) a) b)
    (offer n run ∷ apart cs hs (next (offer n run) a) (next (offer n run) b))
apart (draw n z ∷ cs) hs a b =
    draw n z ∷ pick (is_due hs (next (draw n z) b))
    (offer n hs ∷ apart cs [] (next (draw n z) a) (next (offer n hs) (next (draw n z) b)))
    (apart cs hs (next (draw n z) a) (next (draw n z) b))
apart (finish n ∷ cs) hs a b = finish n ∷ apart cs hs (next (finish n) a) (next (finish n) b)
apart (look ∷ cs) hs a b = look ∷ apart cs hs a b

-- ---- what is seen of the two lists: every draw, finish and look, and every offer that found no row waiting, is seen alike, answer and values; an offer that
-- found rows waiting is the first list's alone; the offer of the heights held takes them all
pub data Alike : List ℕ → List Event → List Event → Type 0 where
  ended : {hs : List ℕ} → Alike hs [] []
  alike : {hs : List ℕ} {es fs : List Event} (e : Event) → Alike hs es fs → Alike hs (e ∷ es) (e ∷ fs)
  held : {hs : List ℕ} {es fs : List Event} (run : List ℕ) (r : Reply ℕ) → Alike (hs ++ taken_by (offered run r)) es fs → Alike hs (offered run r ∷ es) fs
  moved : {hs : List ℕ} {es fs : List Event} (e : Event) → Alike [] es fs → Alike hs (e ∷ es) (e ∷ offered hs (gives (length hs)) ∷ fs)
