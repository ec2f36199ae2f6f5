-- `spare::put` meets its contract: pairs, and a last number where there is one, before the numbers that are read. Assumes nothing.
use Prim.Native.Nat.{◌+◌, ◌*◌, ◌/◌}
use native.Mathlib.Omega.{arith}
use lib.ListN.{length}
use borrow.Author.Rules.{rules}
use Rattle.numbers.specs.Signal.{at}
use Rattle.numbers.proofs.Words.{read_back}
use Rattle.numbers.proofs.Stores.{at_stored}
use Rattle.writer.proofs.SpareCells.{rows-some, row_room, Places, places, put-even, put-odd, last-read}
use Rattle.writer.proofs.spare.put.Goals as goal

pub nonzero_rem-a : goal.nonzero_rem-a
nonzero_rem-a c = rw c.rows_kept.ensures (rows-some c.args.filter)

pub overflow_mul-a : goal.overflow_mul-a
overflow_mul-a c =
    let a = c.args in
    omega (arith, row_room a.filter a.w a.q _ a.from a.n _ c.requires c.rows_kept.ensures, c.requires.room)

pub overflow_add-a : goal.overflow_add-a
overflow_add-a c =
    let fits : (let a = c.args in
    Places a.w a.q c.rows_kept.result c.low_count-low.result c.first_place-o.result a.from a.n
    (length a.store.now)) = let a = c.args in
    places a.filter a.w a.x a.q _ _ _ a.from a.n _ c.requires c.rows_kept.ensures
    c.low_count-low.ensures c.first_place-o.ensures in
    let f = fits in omega (arith, f.row, f.firsts, f.room)

pub overflow_sub-low : goal.overflow_sub-low
overflow_sub-low c =
    let fits : (let a = c.args in
    Places a.w a.q c.rows_kept.result c.low_count-low.result c.first_place-o.result a.from a.n
    (length a.store.now)) = let a = c.args in
    places a.filter a.w a.x a.q _ _ _ a.from a.n _ c.requires c.rows_kept.ensures
    c.low_count-low.ensures c.first_place-o.ensures in
    (fits).half

pub overflow_add-a-2 : goal.overflow_add-a-2
overflow_add-a-2 c =
    let fits : (let a = c.args in
    Places a.w a.q c.rows_kept.result c.low_count-low.result c.first_place-o.result a.from a.n
    (length a.store.now)) = let a = c.args in
    places a.filter a.w a.x a.q _ _ _ a.from a.n _ c.requires c.rows_kept.ensures
    c.low_count-low.ensures c.first_place-o.ensures in
    let f = fits in omega (arith, f.row, f.seconds, f.room)

pub separate-requires : goal.separate-requires
separate-requires c =
    let fits : (let a = c.args in
    Places a.w a.q c.rows_kept.result c.low_count-low.result c.first_place-o.result a.from a.n
    (length a.store.now)) = let a = c.args in
    places a.filter a.w a.x a.q _ _ _ a.from a.n _ c.requires c.rows_kept.ensures
    c.low_count-low.ensures c.first_place-o.ensures in
    let f = fits in
    (omega (arith, f.row, f.firsts), omega (arith, f.row, f.seconds), omega (arith, f.room))

pub overflow_mul-pairs : goal.overflow_mul-pairs
overflow_mul-pairs c =
    let fits : (let a = c.args in
    Places a.w a.q c.rows_kept.result c.low_count-low.result c.first_place-o.result a.from a.n
    (length a.store.now)) = let a = c.args in
    places a.filter a.w a.x a.q _ _ _ a.from a.n _ c.requires c.rows_kept.ensures
    c.low_count-low.ensures c.first_place-o.ensures in
    let f = fits in omega (arith, f.room)

pub overflow_mul-store : goal.overflow_mul-store
overflow_mul-store c =
    let fits : (let a = c.args in
    Places a.w a.q c.rows_kept.result c.low_count-low.result c.first_place-o.result a.from a.n
    (length a.store.now)) = let a = c.args in
    places a.filter a.w a.x a.q _ _ _ a.from a.n _ c.requires c.rows_kept.ensures
    c.low_count-low.ensures c.first_place-o.ensures in
    let f = fits in omega (arith, f.room)

pub overflow_add-store : goal.overflow_add-store
overflow_add-store c =
    let fits : (let a = c.args in
    Places a.w a.q c.rows_kept.result c.low_count-low.result c.first_place-o.result a.from a.n
    (length a.store.now)) = let a = c.args in
    places a.filter a.w a.x a.q _ _ _ a.from a.n _ c.requires c.rows_kept.ensures
    c.low_count-low.ensures c.first_place-o.ensures in
    let f = fits in omega (arith, f.room)

pub offset_bounds-store-from : goal.offset_bounds-store-from
offset_bounds-store-from c =
    let fits : (let a = c.args in
    Places a.w a.q c.rows_kept.result c.low_count-low.result c.first_place-o.result a.from a.n
    (length a.store.now)) = let a = c.args in
    places a.filter a.w a.x a.q _ _ _ a.from a.n _ c.requires c.rows_kept.ensures
    c.low_count-low.ensures c.first_place-o.ensures in
    let f = fits in omega (arith, f.room)

pub slice_copy_out-store : goal.slice_copy_out-store
slice_copy_out-store c =
    let fits : (let a = c.args in
    Places a.w a.q c.rows_kept.result c.low_count-low.result c.first_place-o.result a.from a.n
    (length a.store.now)) = let a = c.args in
    places a.filter a.w a.x a.q _ _ _ a.from a.n _ c.requires c.rows_kept.ensures
    c.low_count-low.ensures c.first_place-o.ensures in
    let f = fits in omega (arith, f.room, c.separate.auto.store)

pub overflow_add-a-then-pairs-n : goal.overflow_add-a-then-pairs-n
overflow_add-a-then-pairs-n c =
    let fits : (let a = c.args in
    Places a.w a.q c.rows_kept.result c.low_count-low.result c.first_place-o.result a.from a.n
    (length a.store.now)) = let a = c.args in
    places a.filter a.w a.x a.q _ _ _ a.from a.n _ c.requires c.rows_kept.ensures
    c.low_count-low.ensures c.first_place-o.ensures in
    let f = fits in omega (arith, f.row, f.firsts, f.room)

pub overflow_add-a-then-pairs-n-2 : goal.overflow_add-a-then-pairs-n-2
overflow_add-a-then-pairs-n-2 c =
    let fits : (let a = c.args in
    Places a.w a.q c.rows_kept.result c.low_count-low.result c.first_place-o.result a.from a.n
    (length a.store.now)) = let a = c.args in
    places a.filter a.w a.x a.q _ _ _ a.from a.n _ c.requires c.rows_kept.ensures
    c.low_count-low.ensures c.first_place-o.ensures in
    let f = fits in omega (arith, f.row, f.firsts, f.room)

pub offset_bounds-store-a : goal.offset_bounds-store-a
offset_bounds-store-a c =
    let fits : (let a = c.args in
    Places a.w a.q c.rows_kept.result c.low_count-low.result c.first_place-o.result a.from a.n
    (length a.store.now)) = let a = c.args in
    places a.filter a.w a.x a.q _ _ _ a.from a.n _ c.requires c.rows_kept.ensures
    c.low_count-low.ensures c.first_place-o.ensures in
    let f = fits in omega (arith, f.row, f.firsts, f.room)

pub bounds-store-a : goal.bounds-store-a
bounds-store-a c =
    let fits : (let a = c.args in
    Places a.w a.q c.rows_kept.result c.low_count-low.result c.first_place-o.result a.from a.n
    (length a.store.now)) = let a = c.args in
    places a.filter a.w a.x a.q _ _ _ a.from a.n _ c.requires c.rows_kept.ensures
    c.low_count-low.ensures c.first_place-o.ensures in
    let f = fits in
    omega (arith, f.row, f.last (omega arith), f.room, c.separate.auto.store)

pub returns-then-pairs-n : goal.returns-then-pairs-n
returns-then-pairs-n c =
    let fits : (let a = c.args in
    Places a.w a.q c.rows_kept.result c.low_count-low.result c.first_place-o.result a.from a.n
    (length a.store.now)) = let a = c.args in
    places a.filter a.w a.x a.q _ _ _ a.from a.n _ c.requires c.rows_kept.ensures
    c.low_count-low.ensures c.first_place-o.ensures in
    let a = c.args in
    let f = fits in
    let l = c.low_count-low.ensures in
    put-odd a.filter a.w a.x a.q _ _ _ a.from a.n (at a.store.now) _ c.rows_kept.ensures l c.first_place-o.ensures
    c.separate.ensures _ _ (omega arith)
    (last-read a.filter a.w a.x a.q _ _ _ a.from a.n (at a.store.now) _ c.rows_kept.ensures l c.first_place-o.ensures
    c.separate.ensures _ (a.from + 2 * (a.n / 2)) f (omega arith))
    (rw (read_back _ c.store-then-pairs-n-1.given)
    (at_stored c.separate.new.store _ _ (omega (arith, f.row, f.last (omega arith), f.room, c.separate.auto.store))))

pub shape_of-store-else-pairs-n : goal.shape_of-store-else-pairs-n
shape_of-store-else-pairs-n c = c.separate.auto.store

pub returns-else-pairs-n : goal.returns-else-pairs-n
returns-else-pairs-n c =
    let a = c.args in
    put-even a.filter a.w a.x a.q _ _ _ a.from a.n (at a.store.now) _ c.rows_kept.ensures
    c.low_count-low.ensures c.first_place-o.ensures c.separate.ensures (omega arith)
