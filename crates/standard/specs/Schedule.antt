-- What a reader that is fed and drawn as it wants does, in order: its steps, and between them the sets that are worked out.
use Rattle.std.specs.Prelude.{List, [], ◌∷◌, ◌++◌, ℕ, zero, suc, ◌-◌, ◌*◌, leb, eqb}
use Rattle.numbers.specs.Signal.{pick}
use Rattle.lifting.specs.Line.{lo}
use Rattle.wavelet.specs.Steps.{Step, draw, feed_all}
use Rattle.standard.specs.Line.{Interval, half_of}
use Rattle.standard.specs.WriterOrder.{between, waiting}
use Rattle.standard.specs.ReaderSteps.{row_steps}

pub data Action : Type 0 where
  call : Step → Action
  -- set n of level k is worked out
  works : ℕ → ℕ → Action

unfoldable pub calls : List Step → List Action
calls [] = []
calls (x ∷ t) = call x ∷ calls t

-- A set is worked out once it has all that it needs, as in `set_steps`: its LL row, which sets of the next level make, and its fed rows.
-- "A set completed by a fed row is worked out in that feed": it stands right after that row. "A set without a fed row of its own .. is worked out in the next
-- feed, or draw with a row to give, .. ahead of that call's own work": it stands before that call.
unfoldable pub set_schedule : ℕ → ℕ → ℕ → Interval → Interval → ℕ → List Action
set_schedule f zero k W H n = calls (feed_all (waiting zero k W H n)) ++ (works k n ∷ [])
set_schedule f (suc l) k W H n =
    pick (leb H.i0 (2 * n)) (row_steps f (half_of lo H) (set_schedule f l (suc k) (half_of lo W) (half_of lo H)) n) []
    ++ (calls (feed_all (waiting (suc l) k W H n)) ++ (works k n ∷ []))

unfoldable pub schedule : ℕ → Interval → Interval → ℕ → List Action
schedule f W H L = between H.i0 H.i1 (λ v. row_steps f H (set_schedule f (L - 1) 1 W H) v ++ (call (draw (v - H.i0)) ∷ []))

-- the calls among some of them, in order; and the sets of level k that are worked out
unfoldable pub calls_of : List Action → List Step
calls_of [] = []
calls_of (call x ∷ l) = x ∷ calls_of l
calls_of (works k n ∷ l) = calls_of l

unfoldable pub worked : ℕ → List Action → List ℕ
worked k [] = []
worked k (call x ∷ l) = worked k l
worked k (works j n ∷ l) = pick (eqb j k) (n ∷ worked k l) (worked k l)
