-- `forward::placed` meets its contract: each band's place is the definition's. Assumes nothing.
use native.Mathlib.Omega.{arith}
use Rattle.lifting.specs.Grid.{side}
use Rattle.lifting.proofs.RowLaws.{row-order}
use Rattle.wavelet.proofs.SideLaws.{count-lo}
use Rattle.analysis.proofs.StretchLaws.{place-low, place-right, place-high, place-last, place_none}
use Rattle.analysis.proofs.forward.placed.Goals as goal

pub overflow_mul-result : goal.overflow_mul-result
overflow_mul-result c = let a = c.args in omega (arith, row-order a.w c.low_waits.result 8 c.low_waits.ensures.1)

pub overflow_mul-result-in-1 : goal.overflow_mul-result-in-1
overflow_mul-result-in-1 c = let a = c.args in omega (arith, row-order a.w c.low_waits-in-1.result 8 c.low_waits-in-1.ensures.1)

pub overflow_add-result : goal.overflow_add-result
overflow_add-result c =
    let a = c.args in
    omega (arith, row-order a.w c.low_waits-in-1.result 8 c.low_waits-in-1.ensures.1, c.low_count.ensures, count-lo (side a.x a.w))

pub overflow_mul-result-in-2 : goal.overflow_mul-result-in-2
overflow_mul-result-in-2 c = let a = c.args in omega (arith, row-order a.w c.high_waits.result 8 c.high_waits.ensures.1)

pub overflow_mul-result-in-3 : goal.overflow_mul-result-in-3
overflow_mul-result-in-3 c = let a = c.args in omega (arith, row-order a.w c.high_waits-in-3.result 8 c.high_waits-in-3.ensures.1)

pub overflow_add-result-in-3 : goal.overflow_add-result-in-3
overflow_add-result-in-3 c =
    let a = c.args in
    omega (arith, row-order a.w c.high_waits-in-3.result 8 c.high_waits-in-3.ensures.1, c.low_count-in-3.ensures, count-lo (side a.x a.w))

pub returns-in-0 : goal.returns-in-0
returns-in-0 c = let a = c.args in place-low a.filter (side a.x a.w) a.n a.band _ c.low_waits.ensures.0 (omega arith)

pub returns-in-1 : goal.returns-in-1
returns-in-1 c =
    let a = c.args in
    place-right a.filter (side a.x a.w) a.n a.band _ c.low_waits-in-1.ensures.0 _ (omega arith) c.low_count.ensures

pub returns-in-2 : goal.returns-in-2
returns-in-2 c = let a = c.args in place-high a.filter (side a.x a.w) a.n a.band _ c.high_waits.ensures.0 (omega arith)

pub returns-in-3 : goal.returns-in-3
returns-in-3 c =
    let a = c.args in
    place-last a.filter (side a.x a.w) a.n a.band _ c.high_waits-in-3.ensures.0 _ (omega arith) c.low_count-in-3.ensures

pub returns-in_default : goal.returns-in_default
returns-in_default c =
    let a = c.args in
    place_none a.filter (side a.x a.w) a.n a.band 0 (λ e. omega arith) (λ e. omega arith) (λ e. omega arith) (λ e. omega arith)
