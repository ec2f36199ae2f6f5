-- `loader_state::is_loader` meets its contract: its tests in turn. Assumes nothing.
use mathlib.Core.Path.{◌∙◌}
use Rattle.states.proofs.StateLaws.{loader-kind, loader-flag, loader-rest}
use Rattle.states.proofs.loader_state.is_loader.Goals as goal

pub returns-then-s-ne5 : goal.returns-then-s-ne5
returns-then-s-ne5 c = loader-kind c.args.s.now c.if-s-ne5.true

pub returns-then-s-gt1 : goal.returns-then-s-gt1
returns-then-s-gt1 c = loader-flag c.args.s.now c.if-s-ne5.false c.if-s-gt1.true

pub returns : goal.returns
returns c =
    c.zero_from.ensures ∙ loader-rest c.args.s.now c.if-s-ne5.false c.if-s-gt1.false
