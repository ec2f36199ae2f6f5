-- `counts::makes_set` meets its contract. Assumes nothing.
use Rattle.std.proofs.Common.{arith}
use Rattle.filters.specs.Filters.{filter_of}
use Rattle.filters.proofs.FigureLaws.{ahead-few}
use Rattle.progress.proofs.CountLaws.{ahead-some, off-none, off-early, off-late}
use Rattle.progress.proofs.counts.makes_set.Goals as goal

pub returns-then-l-eq0 : goal.returns-then-l-eq0
returns-then-l-eq0 c = let a = c.args in off-none (filter_of a.filter).ahead a.l a.y a.m (omega arith)

pub overflow_mul-look_ahead : goal.overflow_mul-look_ahead
overflow_mul-look_ahead c = omega (arith, c.look_ahead.ensures, ahead-few c.args.filter)

pub overflow_sub-look_ahead : goal.overflow_sub-look_ahead
overflow_sub-look_ahead c = omega (arith, c.look_ahead.ensures, ahead-some c.args.filter)

pub returns-then-m-look_ahead : goal.returns-then-m-look_ahead
returns-then-m-look_ahead c =
    let a = c.args in
    off-early (filter_of a.filter).ahead a.l a.y a.m (ahead-some a.filter) (omega (arith, c.look_ahead.ensures))

pub returns : goal.returns
returns c =
    let a = c.args in
    off-late (filter_of a.filter).ahead a.l a.y a.m (omega arith) (omega (arith, c.look_ahead.ensures))
