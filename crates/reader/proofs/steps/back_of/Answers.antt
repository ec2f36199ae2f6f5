-- `reader::steps::back_of` meets its contract: the difference of two sets. Assumes nothing.
use mathlib.Core.Path.{◌∙◌, ap}
use Prim.Native.Nat.{ℕ, ◌-◌}
use Rattle.reader.proofs.steps.back_of.Goals as goal

pub last_of-requires : goal.last_of-requires
last_of-requires c = c.requires

pub returns : goal.returns
returns c =
    let q = c.args.q in
    c.less.ensures ∙ ap (λ (i : ℕ). i - q.set) c.last_of.ensures
