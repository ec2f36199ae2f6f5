-- The version of the C interface as one number: 10,000 for each major number, 100 for each minor one, and the patch.
use Rattle.std.specs.Prelude.{ℕ, ◌+◌, ◌*◌}

abbrev pub version : ℕ
version = 10000 * 0 + 100 * 3 + 0
