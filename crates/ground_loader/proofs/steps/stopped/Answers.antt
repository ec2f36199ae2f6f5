-- `steps::stopped` meets its contract: by what ended the run. Assumes nothing.
use mathlib.Core.Path.{refl, sym, subst}
use native.Mathlib.Omega.{arith}
use Rattle.ground_loader.specs.declared.loader.Stop.{Stop}
use Rattle.ground_loader.specs.Loader.{passed, impossible, turned}
use Rattle.ground_loader.specs.Local.{stop_number, stop_loader, ToldOf}
use Rattle.ground_loader.proofs.RunLaws.{told-14, told-turned, told-passed}
use Rattle.ground_loader.proofs.steps.stopped.Goals as goal

pub returns-in-Ended : goal.returns-in-Ended
returns-in-Ended c =
    let a = c.args in
    subst (λ (s : Stop). ToldOf (stop_number s) a.at (stop_loader a.l s) (impossible a.at c.in-Ended.ended)) (sym c.in-Ended.is) (told-14 14 a.at _ refl)

pub returns-then-at-eq0 : goal.returns-then-at-eq0
returns-then-at-eq0 c =
    let a = c.args in
    subst (λ (s : Stop). ToldOf (stop_number s) a.at (stop_loader a.l s) (turned 22)) (sym c.in-NoFile.is)
    (told-turned 22 a.at _ (λ e. omega arith) (omega arith) c.if-at-eq0.true)

pub returns-else-at-eq0 : goal.returns-else-at-eq0
returns-else-at-eq0 c =
    let a = c.args in
    subst (λ (s : Stop). ToldOf (stop_number s) a.at (stop_loader a.l s) (passed a.at a.l)) (sym c.in-NoFile.is)
    (told-passed 22 a.at _ (λ e. omega arith) (λ h. c.if-at-eq0.false))

pub returns-then-at-eq0-2 : goal.returns-then-at-eq0-2
returns-then-at-eq0-2 c =
    let a = c.args in
    subst (λ (s : Stop). ToldOf (stop_number s) a.at (stop_loader a.l s) (turned 7)) (sym c.in-OutOfRange.is)
    (told-turned 7 a.at _ (λ e. omega arith) (omega arith) c.if-at-eq0-2.true)

pub returns-else-at-eq0-2 : goal.returns-else-at-eq0-2
returns-else-at-eq0-2 c =
    let a = c.args in
    subst (λ (s : Stop). ToldOf (stop_number s) a.at (stop_loader a.l s) (passed a.at a.l)) (sym c.in-OutOfRange.is)
    (told-passed 7 a.at _ (λ e. omega arith) (λ h. c.if-at-eq0-2.false))
