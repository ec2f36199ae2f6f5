-- `store::any_widths` meets its contract: the definition; below the limit no product overflows. Assumes nothing.
use mathlib.Core.Path.{◌≡◌}
use Prim.Native.Nat.{ℕ, ◌≤◌, ◌<◌}
use native.Mathlib.Omega.{arith}
use lib.Dec.{leb}
use borrow.Author.Tests.{le-leb, lt-leb}
use Rattle.numbers.specs.Signal.{pick}
use Rattle.wavelet.specs.Limits.{max_width}
use Rattle.wavelet.specs.Store.{any_widths}
use Rattle.wavelet.proofs.store.any_widths.Goals as goal

module _ (w : ℕ) where
  wide : max_width < w → 0 ≡ pick (leb w max_width) (any_widths w) 0
  wide h = rw (lt-leb w max_width h)

  narrow : w ≤ max_width → any_widths w ≡ pick (leb w max_width) (any_widths w) 0
  narrow h = rw (le-leb w max_width h)

pub returns-then-width-gt-MAX_WIDTH : goal.returns-then-width-gt-MAX_WIDTH
unfolding max_width
returns-then-width-gt-MAX_WIDTH c = wide _ c.if-width-gt-MAX_WIDTH.true

pub overflow_mul-result : goal.overflow_mul-result
unfolding max_width
overflow_mul-result c = omega arith

pub overflow_add-result : goal.overflow_add-result
unfolding max_width
overflow_add-result c = omega arith

pub returns : goal.returns
unfolding max_width any_widths
returns c = narrow c.args.width (omega arith)
