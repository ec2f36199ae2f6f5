-- `view::band_row` meets its contract: the stretch that `locate` found, which the plane has, at its place in the plane, or none. Assumes nothing.
use mathlib.Core.Path.{sym, ap}
use native.Mathlib.Omega.{arith}
use Rattle.wavelet.specs.ViewCall.{address_of}
use Rattle.wavelet.specs.Shape.{columns, rows}
use Rattle.wavelet.proofs.ViewLaws.{located-in, row-at, row-none, place_at, place_none}
use Rattle.wavelet.proofs.view.band_row.Goals as goal

pub overflow_add-result : goal.overflow_add-result
overflow_add-result c =
    let a = c.args in
    let W = columns a.shape in
    let H = rows a.shape in
    let p = located-in a.plane.now W H a.shape.levels a.level a.band a.row _ _ (sym c.in-Ok.ensures) in
    omega arith

pub offset_bounds-plane-span : goal.offset_bounds-plane-span
offset_bounds-plane-span c =
    let a = c.args in
    let W = columns a.shape in
    let H = rows a.shape in
    let p = located-in a.plane.now W H a.shape.levels a.level a.band a.row _ _ (sym c.in-Ok.ensures) in
    omega arith

pub slice_bounds-result-end : goal.slice_bounds-result-end
slice_bounds-result-end c =
    let a = c.args in
    let W = columns a.shape in
    let H = rows a.shape in
    located-in a.plane.now W H a.shape.levels a.level a.band a.row _ _ (sym c.in-Ok.ensures)

pub returns-in-Ok : goal.returns-in-Ok
unfolding address_of
returns-in-Ok c =
    let a = c.args in
    let W = columns a.shape in
    let H = rows a.shape in
    let e = sym c.in-Ok.ensures in
    record { result_value = row-at a.plane.now W H a.shape.levels a.level a.band a.row _ _ e; ref_ptr_value = ap (address_of a.plane.ref_ptr) (place_at a.plane.now W H a.shape.levels a.level a.band a.row _ _ e) }

pub returns-in-Err : goal.returns-in-Err
unfolding address_of
returns-in-Err c =
    let a = c.args in
    let W = columns a.shape in
    let H = rows a.shape in
    let e = sym c.in-Err.ensures in
    record { result_value = row-none a.plane.now W H a.shape.levels a.level a.band a.row _ e; ref_ptr_value = ap (address_of a.plane.ref_ptr) (place_none a.plane.now W H a.shape.levels a.level a.band a.row _ e) }
