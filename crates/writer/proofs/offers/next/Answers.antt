-- `offers::next` meets its contract. Assumes nothing.
use native.Mathlib.Omega.{arith}
use Rattle.wavelet.specs.Limits.{max_height}
use Rattle.writer.proofs.OfferLaws.{takes-yes, takes-waits, takes-full, next-none, next-some, next-empty}
use Rattle.writer.proofs.offers.next.Goals as goal

pub returns-then-k-eq0 : goal.returns-then-k-eq0
returns-then-k-eq0 c = let a = c.args in next-empty a.s a.k (omega arith)

pub returns-then-s-gt0 : goal.returns-then-s-gt0
returns-then-s-gt0 c = let a = c.args in next-none a.s a.k (takes-waits a.s (omega arith))

pub returns-then-s-ge-MAX_HEIGHT : goal.returns-then-s-ge-MAX_HEIGHT
unfolding max_height
returns-then-s-ge-MAX_HEIGHT c = let a = c.args in next-none a.s a.k (takes-full a.s (omega arith))

pub returns-then-n-k : goal.returns-then-n-k
unfolding max_height
returns-then-n-k c =
    let a = c.args in
    next-some a.s a.k _ (takes-yes a.s (omega arith) (omega arith)) (omega arith)

pub returns : goal.returns
unfolding max_height
returns c =
    let a = c.args in
    next-some a.s a.k _ (takes-yes a.s (omega arith) (omega arith)) (omega arith)
