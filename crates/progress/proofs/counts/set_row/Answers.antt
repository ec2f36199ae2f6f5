-- `counts::set_row` meets its contract. Assumes nothing.
use Rattle.std.proofs.Common.{◌-◌, ap, ◌∙◌}
use Rattle.wavelet.specs.Order.{set_row}
use Rattle.progress.proofs.counts.set_row.Goals as goal

pub returns : goal.returns
unfolding set_row
returns c = c.minus.ensures ∙ ap (λ i. c.args.n - i) c.first_set.ensures
