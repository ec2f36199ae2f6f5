-- `alters_by`: by the sign and the limit. Assumes nothing.
use Rattle.std.proofs.Common.{◌+◌, ◌*◌, ◌∙◌, arith}
use borrow.Author.Tests.{lt-leb}
use Rattle.nearest_change.proofs.StepLaws.{cut-none, cut-some, raise-none, raise-some}
use Rattle.wavelet.proofs.LimitLaws.{sample-small}
use Rattle.nearest_change.proofs.trial.Cell.alters_by.Goals as goal

pub alters-requires : goal.alters-requires
alters-requires c =
    let h = c.requires.0.heights (5 * c.args.k + c.args.i) in
    (c.requires.0, omega arith, omega arith, omega arith, omega arith, omega arith)

pub returns-then-by-old : goal.returns-then-by-old
returns-then-by-old c =
    let a = c.args in cut-some a.self.now.window a.self.now a.i a.k a.cut a.by _ c.if-cut.true c.if-by-old.true c.alters.ensures

pub returns-else-by-old : goal.returns-else-by-old
returns-else-by-old c =
    let a = c.args in lt-leb _ _ c.if-by-old.false ∙ cut-none a.self.now.window a.self.now a.i a.k a.cut a.by c.if-cut.true c.if-by-old.false

pub overflow_add-old-2 : goal.overflow_add-old-2
overflow_add-old-2 c = let h = c.requires.0.heights (5 * c.args.k + c.args.i) in omega arith

pub overflow_add-old-then-old-by : goal.overflow_add-old-then-old-by
overflow_add-old-then-old-by c = let h = c.requires.0.heights (5 * c.args.k + c.args.i) in omega arith

pub alters-requires-then-old-by : goal.alters-requires-then-old-by
alters-requires-then-old-by c =
    let m = c.largest.ensures in
    let n = c.if-old-by.true in
    let k = sample-small in
    (c.requires.0, omega arith, omega arith, omega arith, omega arith, omega arith)

pub returns-then-old-by : goal.returns-then-old-by
returns-then-old-by c =
    let a = c.args in
    raise-some a.self.now.window a.self.now a.i a.k a.cut a.by _ _ c.if-cut.false c.largest.ensures c.if-old-by.true c.alters-then-old-by.ensures

pub returns-else-old-by : goal.returns-else-old-by
returns-else-old-by c =
    let a = c.args in lt-leb _ _ c.if-old-by.false ∙ raise-none a.self.now.window a.self.now a.i a.k a.cut a.by _ c.if-cut.false c.largest.ensures c.if-old-by.false
