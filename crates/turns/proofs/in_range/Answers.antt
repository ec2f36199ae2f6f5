-- `in-range` meets its contract: its tests are the definition's. Assumes nothing.
use mathlib.Core.Path.{refl}
use borrow.Author.Tests.{lt-leb, le-leb}
use Rattle.turns.specs.Calls.{in-range}
use Rattle.turns.proofs.in_range.Goals as goal

pub returns-then-t-gt-ALL_MARKED : goal.returns-then-t-gt-ALL_MARKED
unfolding in-range
returns-then-t-gt-ALL_MARKED c = let t = c.args.t in rw (lt-leb t.marks 65535 c.if-t-gt-ALL_MARKED.true) refl

pub returns : goal.returns
unfolding in-range
returns c = let t = c.args.t in rw (le-leb t.marks 65535 c.if-t-gt-ALL_MARKED.false) refl
