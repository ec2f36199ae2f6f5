-- `reader_steps::sets::next_band` meets its contract: every band has a row, or each is tried. Assumes nothing.
use Rattle.lifting.specs.Grid.{side}
use Rattle.reader_steps.proofs.BandLaws.{full-of, full-low, full-first, full-own, full-none}
use Rattle.reader_steps.proofs.sets.next_band.Goals as goal

pub returns-then-w-n : goal.returns-then-w-n
returns-then-w-n c = c.tried_band.ensures

pub returns-then-last : goal.returns-then-last
returns-then-last c =
    let a = c.args in
    let W = side a.x a.w in
    let H = side a.y a.h in
    full-low a.last W H a.n a.first (full-of W H a.n c.if-w-n.false) c.if-first-eq0.true c.if-last.true

pub returns-else-last : goal.returns-else-last
returns-else-last c =
    let a = c.args in
    let W = side a.x a.w in
    let H = side a.y a.h in
    full-first a.last W H a.n a.first (full-of W H a.n c.if-w-n.false) c.if-first-eq0.true c.if-last.false

pub returns-then-first-lt4 : goal.returns-then-first-lt4
returns-then-first-lt4 c =
    let a = c.args in
    let W = side a.x a.w in
    let H = side a.y a.h in
    full-own a.last W H a.n a.first (full-of W H a.n c.if-w-n.false) c.if-first-eq0.false c.if-first-lt4.true

pub returns-else-first-lt4 : goal.returns-else-first-lt4
returns-else-first-lt4 c =
    let a = c.args in
    let W = side a.x a.w in
    let H = side a.y a.h in
    full-none a.last W H a.n a.first (full-of W H a.n c.if-w-n.false) c.if-first-lt4.false
