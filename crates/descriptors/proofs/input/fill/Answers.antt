-- `descriptors::input::fill` reads or leaves all as it is. Assumes nothing.
use mathlib.Core.Path.{refl, sym, ◌∙◌}
use Rattle.descriptors.specs.Left.{keeps, reads}
use Rattle.descriptors.proofs.input.fill.Goals as goal

pub returns-then-reads_now : goal.returns-then-reads_now
returns-then-reads_now g c =
    reads _ (sym c.reads_now.ensures ∙ c.if-reads_now.true) c.read_some.ensures (rw (c.count.ensures, c.what_came-came.ensures) refl)

pub returns : goal.returns
returns g c = keeps (sym c.reads_now.ensures ∙ c.if-reads_now.false) refl refl
