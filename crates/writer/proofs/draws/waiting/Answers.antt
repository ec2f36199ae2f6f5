-- `draws::waiting` meets its contract: the row stands at its place from the offset on. Assumes nothing.
use mathlib.Core.Path.{sym, ◌∙◌}
use Prim.Native.Nat.{◌-◌}
use native.Mathlib.Omega.{arith}
use Rattle.wavelet.proofs.StoreLaws.{store-next}
use Rattle.filters.specs.Filters.{filter_of}
use Rattle.filters.proofs.FigureLaws.{store-few}
use Rattle.analysis.proofs.ForwardLaws.{place-room, place-code}
use Rattle.progress.specs.Counts.{band_at}
use Rattle.level.proofs.Places.{prev-is}
use Rattle.writer.specs.Taking.{columns_of}
use Rattle.writer.specs.Steps.{columns}
use Rattle.writer.proofs.DrawLaws.{found}
use Rattle.writer.proofs.draws.waiting.Goals as goal

pub overflow_add-result : goal.overflow_add-result
overflow_add-result c =
    let a = c.args in
    let p = place-code a.s.filter (columns a.q) a.q.y a.q.set (band_at c.minus-i.result) _ _ (omega (arith, c.requires.2.wide))
    c.code-band.ensures
    c.band_place.ensures in
    omega (
      arith,
      p,
      c.requires.1,
      c.requires.2.room,
      store-next (filter_of a.s.filter).rows (columns a.q) (a.s.levels - a.s.level),
      place-room a.s.filter (columns a.q) a.q.y a.q.set (band_at c.minus-i.result),
      store-few a.s.filter (columns_of a.s) a.s.levels,
      c.requires.0,
    )

pub returns : goal.returns
returns c =
    let a = c.args in
    found a.s a.q c.requires.2 c.requires.1 _ _ _ _ _ (omega arith)
    (c.minus-i.ensures ∙ sym (prev-is _)) c.code-band.ensures c.set_row.ensures c.columns.ensures
    (place-code a.s.filter (columns a.q) a.q.y a.q.set (band_at c.minus-i.result) _ _ (omega (arith, c.requires.2.wide))
    c.code-band.ensures c.band_place.ensures)
