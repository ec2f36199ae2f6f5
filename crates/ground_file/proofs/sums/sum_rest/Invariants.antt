-- `sums::sum_rest` meets its contract: after each turn one byte more is summed. Assumes nothing.
use mathlib.Core.Path.{◌≡◌}
use Prim.Native.Nat.{◌%◌, ◌<◌}
use lib.ListN.{take}
use Rattle.ground_file.specs.File.{as_number, prime}
use Rattle.ground_file.proofs.sums.sum_rest.Given as goal

abbrev pub invariant-loop-byte : goal.invariant-loop-byte
invariant-loop-byte l = (l.r < prime) × (l.r ≡ as_number l.sum (take l.byte-index l.bytes) % prime)
