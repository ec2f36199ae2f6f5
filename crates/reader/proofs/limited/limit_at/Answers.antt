-- `reader::limited::limit_at` meets its contract: one height stored. Assumes nothing.
use mathlib.Core.Path.{◌∙◌, ap}
use lib.IntN.{ℤ}
use lib.ListN.{set}
use borrow.Author.Rules.{rules}
use Rattle.numbers.proofs.Words.{read_back}
use Rattle.areas.specs.Areas.{wholes}
use Rattle.areas.proofs.HeightLaws.{wholes-set}
use Rattle.reader.specs.Limited.{limited}
use Rattle.reader.proofs.limited.limit_at.Goals as goal

pub returns : goal.returns
returns c =
    let a = c.args in
    wholes-set a.out.now a.p c.limit.result
    ∙ ap (λ (v : ℤ). set (wholes a.out.now) a.p v) (c.limit.ensures ∙ ap limited (read_back _ c.limit-arg-1.given))
