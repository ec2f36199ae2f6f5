-- What the functions at the row's ends are to give, from what their calls gave. Assumes nothing.
use mathlib.Core.Path.{◌≡◌, sym, ap, ◌∙◌}
use mathlib.Core.List.{List}
use mathlib.Core.Logic.{◌≢◌}
use Prim.Native.Nat.{ℕ, ◌+◌, ◌≤◌, ◌<◌}
use lib.Dec.{ltb}
use lib.ListN.{set}
use lib.Ieee.{Float}
use Rattle.numbers.specs.Signal.{pick}
use Rattle.profile.specs.Profile.{lifted, alpha, beta, delta}
use Rattle.profile.specs.OnePass.{turned_at, opened, paired, closed}
use Rattle.profile.specs.declared.carry.Carried.{Carried}
use Rattle.profile.proofs.PassLaws.{differs, below, not-below}

module _ (n : ℕ) (x : ℕ → Float) where
  pub opened_of : {h e k f g : Float} {t : Carried} → h ≡ x 0 → e ≡ pick (ltb 2 n) (x 2) (x 0) → k ≡ x 1 → f ≡ lifted alpha h k e → g ≡ lifted beta f h f
      → t ≡ turned_at n x 0 (record { even = e; first = f; second = g; third = f })
      → ◌≡◌ {A = Carried} (record { even = e; first = f; second = g; third = t.third }) (opened n x)
  opened_of h e k f g t = cc

  module _ (p : ℕ) (s : Carried) (l : List Float) where
    pub closed-pair : {t : Carried} {v : Float} {m : List Float} → p ≢ n → p + 1 < n → t ≡ turned_at n x p s → v ≡ lifted delta s.third s.second t.third
        → m ≡ paired l p v t.third → m ≡ closed n x p s l
    closed-pair d b t v m = let e : _ ≡ closed n x p s l = sym (differs p n _ _ d ∙ below (p + 1) n _ _ b) in cc

    pub closed-one : {v : Float} → p ≢ n → n ≤ p + 1 → v ≡ lifted delta s.third s.second s.third → set l p v ≡ closed n x p s l
    closed-one d b v = ap (set l p) v ∙ sym (differs p n _ _ d ∙ not-below (p + 1) n _ _ b)
