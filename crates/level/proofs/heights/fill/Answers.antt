-- `heights::fill` meets its contract: the pairs, and the height that is left where there is one. Assumes nothing.
use mathlib.Core.Path.{◌≡◌, ap, ◌∙◌}
use Prim.Native.Nat.{ℕ, ◌+◌, ◌*◌, ◌/◌}
use native.Mathlib.Omega.{arith}
use lib.ListN.{length, get_or}
use Rattle.numbers.specs.Signal.{at}
use borrow.Author.Rules.{rules}
use Rattle.lifting.specs.Grid.{side}
use Rattle.level.specs.Heights.{height_at, heights_put}
use Rattle.level.proofs.Spots.{spot_in}
use Rattle.level.proofs.FillLaws.{height-fits, height-read, Put, put_one}
use Rattle.level.proofs.heights.fill.Goals as goal

pub overflow_cast-row : goal.overflow_cast-row
overflow_cast-row c =
    let a = c.args in
    height-fits _ (omega (arith, c.shared_slice_known-then-k-n-1.given (2 * (length a.run.now / 2))))

pub offset_bounds-row-p : goal.offset_bounds-row-p
offset_bounds-row-p c =
    let a = c.args in
    omega (arith, c.cell-p.ensures, spot_in (side a.x (length a.row.now)) (a.column + 2 * (length a.run.now / 2)) (omega arith))

pub bounds-row-p : goal.bounds-row-p
bounds-row-p c =
    let a = c.args in
    let p = spot_in (side a.x (length a.row.now)) (a.column + 2 * (length a.run.now / 2)) (omega arith) in
    omega (arith, c.cell-p.ensures, p, c.row-1.given)

pub returns-then-k-n : goal.returns-then-k-n
returns-then-k-n c =
    let a = c.args in
    let k = 2 * (length a.run.now / 2) in
    let f : Put (side a.x (length a.row.now)) a.column k (height_at a.run.now) a.row.now c.fill_pairs.new.row =
    record { room = omega arith; size = omega (arith, c.row-1.given); value = c.fill_pairs.ensures } in
    let v = height-read (get_or a.run.now k 0) (omega (arith, c.shared_slice_known-then-k-n-1.given k)) in
    let e : k + 1 ≡ length a.run.now = omega arith in
    (put_one (side a.x (length a.row.now)) a.column _ a.row.now k _ _ _ f (omega arith) c.cell-p.ensures v).value
    ∙ ap (λ (n : ℕ). heights_put (side a.x (length a.row.now)) a.column n (height_at a.run.now) (at a.row.now)) e

pub returns-else-k-n : goal.returns-else-k-n
returns-else-k-n c =
    let a = c.args in
    let e : 2 * (length a.run.now / 2) ≡ length a.run.now = omega arith in
    c.fill_pairs.ensures
    ∙ ap (λ (n : ℕ). heights_put (side a.x (length a.row.now)) a.column n (height_at a.run.now) (at a.row.now)) e
