-- `terrain_level_size` meets its contract: what `level_size` answers, in its two cases. Assumes nothing.
use mathlib.Core.Path.{◌≡◌, sym, ap, ◌∙◌}
use Prim.Native.Nat.{ℕ}
use borrow.Author.Rules.{rules}
use Rattle.wavelet.specs.Shape.{columns, rows}
use Rattle.calls.specs.Lists as lists
use Rattle.reader.specs.Stops.{of_level_size}
use Rattle.terrain.specs.ReaderCalls.{sizing, size_number, columns_of, rows_of}
use Rattle.terrain.proofs.reader_calls.terrain_level_size.Goals as goal

pub returns-in-Ok : goal.returns-in-Ok
returns-in-Ok c =
    let a = c.args in
    let e : sizing a.shape.filter (columns a.shape) (rows a.shape) a.shape.levels a.level ≡ _ =
    sym c.level_size.ensures ∙ ap of_level_size c.in-Ok.is in
    record { value = sym (ap size_number e); across_after = sym (ap (λ (q : lists.Reply (ℕ × ℕ)). columns_of q a.across.now) e); down_after = sym (ap (λ (q : lists.Reply (ℕ × ℕ)). rows_of q a.down.now) e) }

pub returns-in-Err : goal.returns-in-Err
returns-in-Err c =
    let a = c.args in
    let e : sizing a.shape.filter (columns a.shape) (rows a.shape) a.shape.levels a.level ≡ _ =
    sym c.level_size.ensures ∙ ap of_level_size c.in-Err.is in
    record { value = c.number.ensures ∙ sym (ap size_number e); across_after = sym (ap (λ (q : lists.Reply (ℕ × ℕ)). columns_of q a.across.now) e); down_after = sym (ap (λ (q : lists.Reply (ℕ × ℕ)). rows_of q a.down.now) e) }
