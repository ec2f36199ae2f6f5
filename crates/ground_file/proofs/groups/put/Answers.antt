-- `groups::put` meets its contract: the byte of the two codes, then the two parts (`all-wrote`). Assumes nothing.
use mathlib.Core.Path.{refl, ◌∙◌}
use Prim.Native.Nat.{◌+◌, ◌*◌}
use native.Mathlib.Omega.{arith}
use lib.ListN.{length-set}
use Rattle.text.proofs.TextLaws.{wrote-size}
use Rattle.ground_file.proofs.PutLaws.{low-part, high-part, low-asks, high-asks, all-wrote}
use Rattle.ground_file.proofs.groups.put.Goals as goal

pub overflow_mul-out : goal.overflow_mul-out
overflow_mul-out c =
    let pre = c.requires in
    let low = low-part _ _ c.min-k.ensures pre.0 pre.1 c.largest.ensures c.code_of-low.ensures refl in
    let high = high-part _ _ c.min-k.ensures pre.0 pre.1 c.largest-2.ensures c.code_of-high.ensures refl in
    omega (arith, low.few, high.few)

pub overflow_add-out : goal.overflow_add-out
overflow_add-out c =
    let pre = c.requires in
    let low = low-part _ _ c.min-k.ensures pre.0 pre.1 c.largest.ensures c.code_of-low.ensures refl in
    let high = high-part _ _ c.min-k.ensures pre.0 pre.1 c.largest-2.ensures c.code_of-high.ensures refl in
    omega (arith, low.few, high.few)

pub overflow_cast-out : goal.overflow_cast-out
overflow_cast-out c =
    let pre = c.requires in
    let low = low-part _ _ c.min-k.ensures pre.0 pre.1 c.largest.ensures c.code_of-low.ensures refl in
    let high = high-part _ _ c.min-k.ensures pre.0 pre.1 c.largest-2.ensures c.code_of-high.ensures refl in
    omega (arith, low.few, high.few)

pub pack-p-requires : goal.pack-p-requires
pack-p-requires c =
    let pre = c.requires in
    let low = low-part _ _ c.min-k.ensures pre.0 pre.1 c.largest.ensures c.code_of-low.ensures c.width_of.ensures in
    low-asks _ _ c.min-k.ensures pre.0 pre.1 c.args.at _ c.args.out.now low pre.2

pub pack-requires : goal.pack-requires
pack-requires c =
    let pre = c.requires in
    let low = low-part _ _ c.min-k.ensures pre.0 pre.1 c.largest.ensures c.code_of-low.ensures c.width_of.ensures in
    let high = high-part _ _ c.min-k.ensures pre.0 pre.1 c.largest-2.ensures c.code_of-high.ensures c.width_of-2.ensures in
    high-asks _ _ c.min-k.ensures pre.0 pre.1 c.args.at _ c.args.out.now low high pre.2 c.pack-p.ensures

pub shape_of-out : goal.shape_of-out
shape_of-out c =
    wrote-size c.pack.ensures ∙ wrote-size c.pack-p.ensures ∙ length-set c.args.out.now c.args.at (c.code_of-low.result + 16 * c.code_of-high.result)

pub returns : goal.returns
returns c =
    let pre = c.requires in
    let low = low-part _ _ c.min-k.ensures pre.0 pre.1 c.largest.ensures c.code_of-low.ensures c.width_of.ensures in
    let high = high-part _ _ c.min-k.ensures pre.0 pre.1 c.largest-2.ensures c.code_of-high.ensures c.width_of-2.ensures in
    all-wrote _ _ c.min-k.ensures pre.0 pre.1 low high (omega (arith, pre.2)) c.pack-p.ensures c.pack.ensures
