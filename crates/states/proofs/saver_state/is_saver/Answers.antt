-- `saver_state::is_saver` meets its contract: its tests in turn. Assumes nothing.
use mathlib.Core.Path.{◌∙◌}
use Rattle.states.proofs.StateLaws.{saver-kind, saver-across, saver-down, saver-filter, saver-rest}
use Rattle.states.proofs.saver_state.is_saver.Goals as goal

pub returns-then-s-ne4 : goal.returns-then-s-ne4
returns-then-s-ne4 c = saver-kind c.args.s.now c.if-s-ne4.true

pub returns-then-s-gt65535 : goal.returns-then-s-gt65535
returns-then-s-gt65535 c = saver-across c.args.s.now c.if-s-ne4.false c.if-s-gt65535.true

pub returns-then-s-gt65535-2 : goal.returns-then-s-gt65535-2
returns-then-s-gt65535-2 c =
    saver-down c.args.s.now c.if-s-ne4.false c.if-s-gt65535.false c.if-s-gt65535-2.true

pub returns-then-s-gt4294967295 : goal.returns-then-s-gt4294967295
returns-then-s-gt4294967295 c =
    saver-filter c.args.s.now c.if-s-ne4.false c.if-s-gt65535.false c.if-s-gt65535-2.false c.if-s-gt4294967295.true

pub returns : goal.returns
returns c =
    c.zero_from.ensures ∙ saver-rest c.args.s.now c.if-s-ne4.false c.if-s-gt65535.false c.if-s-gt65535-2.false c.if-s-gt4294967295.false
