-- `writer_store_length` meets its contract. Assumes nothing.
use native.Mathlib.Omega.{arith}
use Rattle.filters.proofs.FigureLaws.{writer_none, writer-some, writer-fits}
use Rattle.filters.proofs.writer_store_length.Goals as goal

pub returns-then-n-eq0 : goal.returns-then-n-eq0
returns-then-n-eq0 c = writer_none _ _ _ _ c.store_length-n.ensures (omega arith)

pub overflow_add-result : goal.overflow_add-result
overflow_add-result c = omega (arith, writer-fits _ _ _ _ c.store_length-n.ensures (omega arith))

pub returns : goal.returns
returns c = writer-some _ _ _ _ c.store_length-n.ensures (omega arith)
