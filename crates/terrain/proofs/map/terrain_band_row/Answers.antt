-- `terrain_band_row` meets its contract: what `locate` answers, in its two cases. Assumes nothing.
use mathlib.Core.Path.{◌≡◌, sym, ap, ◌∙◌}
use mathlib.Core.Bool.{false}
use Prim.Native.Nat.{ℕ}
use lib.Dec.{eqb}
use borrow.Author.Rules.{rules}
use Rattle.wavelet.specs.Shape.{columns, rows}
use Rattle.wavelet.proofs.ViewLaws.{span-at, span-refused}
use Rattle.terrain.proofs.CallLaws.{pick_no}
use Rattle.terrain.proofs.map.terrain_band_row.Goals as goal

pub returns-in-Ok : goal.returns-in-Ok
returns-in-Ok c =
    let a = c.args in
    let s = span-at a.len (columns a.shape) (rows a.shape) a.shape.levels a.level a.band a.row _ _ (sym c.in-Ok.ensures) in
    record { value = sym s.passes; start_after = sym s.starts; count_after = sym s.counts }

pub returns-in-Err : goal.returns-in-Err
returns-in-Err c =
    let a = c.args in
    let s = span-refused a.len (columns a.shape) (rows a.shape) a.shape.levels a.level a.band a.row _ (sym c.in-Err.ensures) in
    let no = c.number.result in
    let n : eqb no 0 ≡ false = ap (λ (q : ℕ). eqb q 0) (c.number.ensures ∙ sym s.0) ∙ s.1 in
    record { value = c.number.ensures ∙ sym s.0; start_after = sym (pick_no (eqb no 0) _ _ n); count_after = sym (pick_no (eqb no 0) _ _ n) }
