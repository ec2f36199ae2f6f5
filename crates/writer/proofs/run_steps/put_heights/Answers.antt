-- `run_steps::put_heights` meets its contract: the heights put, and where they complete the row, what that makes. Assumes nothing.
use mathlib.Core.Path.{◌≡◌, ◌∙◌}
use mathlib.Core.List.{List}
use Prim.Native.Nat.{ℕ, ◌+◌, ◌%◌, ◌≤◌}
use native.Mathlib.Omega.{arith}
use lib.IntN.{ℤ}
use lib.ListN.{length}
use Rattle.numbers.specs.Signal.{pick}
use Rattle.wavelet.proofs.LimitLaws.{height-small}
use Rattle.wavelet.proofs.StoreLaws.{store-back}
use Rattle.filters.specs.Filters.{filter_of}
use Rattle.level.specs.Heights.{height_at}
use Rattle.analysis.specs.Forward.{heights_put, heights_fit}
use Rattle.analysis.proofs.ForwardLaws.{heights-done}
use Rattle.writer.specs.declared.Writer.{Writer}
use Rattle.writer.specs.Taking.{columns_of}
use Rattle.writer.specs.OfferSteps.{Taker}
use Rattle.writer.proofs.OfferLaws.{heights-taken}
use borrow.Author.Rules.{rules}
use Rattle.writer.proofs.run_steps.put_heights.Goals as goal

-- the heights are put: the store has room for every level, and so for level 1 alone
put-there : (s : Writer) (run : List ℕ) (from n k : ℕ) (x y : ℕ → ℤ) → Taker s k → s.column + n ≤ s.width → from + n ≤ length run →
    y ≡ pick (heights_fit s.filter k (columns_of s) s.column n (length run) from)
    (heights_put s.filter (columns_of s) (s.y % 2 + s.rows) s.column n (λ j. height_at run (from + j)) x) x →
    y ≡ heights_put s.filter (columns_of s) (s.y % 2 + s.rows) s.column n (λ j. height_at run (from + j)) x
put-there s run from n k x y t p q e =
    heights-done s.filter k (columns_of s) x _ y s.column n (length run) from
    (omega (arith, t.room.room, store-back (filter_of s.filter).rows (columns_of s) s.levels t.deep)) p q e

pub overflow_add-q : goal.overflow_add-q
overflow_add-q c = omega (arith, height-small)

pub reach-requires : goal.reach-requires
reach-requires c =
    let t = c.requires.0 in
    let room = t.room in (
      record {
        room = record { room = omega (arith, room.room, c.put.auto.store); wide = room.wide; rows = room.rows; deep = room.deep };
        wide = omega (arith, t.column);
        deep = t.deep;
      },
      omega arith,
      omega arith,
    )

pub shape_of-store : goal.shape_of-store
shape_of-store c = c.reach.auto.store ∙ c.put.auto.store

pub returns : goal.returns
returns c =
    let a = c.args in
    let t = c.requires.0 in
    heights-taken a.s a.run.now a.from a.n _ _ _ _ (length a.store.now) _
    (put-there a.s a.run.now a.from a.n (length a.store.now) _ _ t (omega arith) (omega arith) c.put.ensures.store_after)
    c.put.auto.store c.reach.ensures
