-- `runs::put_name` meets its contract: the first four numbers are the name, the others stay. Assumes nothing.
use mathlib.Core.Path.{◌≡◌, refl}
use mathlib.Core.List.{List, [], ◌∷◌}
use Prim.Native.Nat.{ℕ, ◌≤◌}
use native.Mathlib.Omega.{arith}
use lib.ListN.{length, drop, set, length-set}
use Rattle.writer.proofs.runs.put_name.Goals as goal

four : (l : List ℕ) (a b c d : ℕ) → 4 ≤ length l → set (set (set (set l 0 a) 1 b) 2 c) 3 d ≡ a ∷ b ∷ c ∷ d ∷ drop 4 l
four [] a b c d h = absurd (omega arith)
four (p ∷ []) a b c d h = absurd (omega arith)
four (p ∷ q ∷ []) a b c d h = absurd (omega arith)
four (p ∷ q ∷ r ∷ []) a b c d h = absurd (omega arith)
four (p ∷ q ∷ r ∷ s ∷ l) a b c d h = refl

pub bounds-names-0 : goal.bounds-names-0
bounds-names-0 c = omega (arith, c.requires)

pub bounds-names-1 : goal.bounds-names-1
bounds-names-1 c = simp length-set (omega (arith, c.requires))

pub bounds-names-2 : goal.bounds-names-2
bounds-names-2 c = simp length-set (omega (arith, c.requires))

pub bounds-names-3 : goal.bounds-names-3
bounds-names-3 c = simp length-set (omega (arith, c.requires))

pub shape_of-names : goal.shape_of-names
shape_of-names c = simp length-set refl

pub returns : goal.returns
returns c = four c.args.names.now _ _ _ _ c.requires
