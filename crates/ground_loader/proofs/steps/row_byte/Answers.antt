-- `steps::row_byte` meets its contract: turned away, the row's last, or another. Assumes nothing.
use mathlib.Core.Path.{refl, sym, ap, ◌∙◌}
use native.Mathlib.Omega.{arith}
use native.Mathlib.Nat.{le_trans}
use Rattle.ground_loader.specs.Loader.{is_over}
use Rattle.ground_loader.proofs.ByteLaws.{took-away, took-on}
use Rattle.ground_loader.proofs.ReaderLaws.{row-half}
use Rattle.ground_loader.proofs.DueLaws.{in_row}
use Rattle.ground_loader.proofs.StepLaws.{row-refuses, row_on}
use Rattle.ground_loader.proofs.Clauses.{became-onward}
use Rattle.ground_loader.proofs.steps.row_byte.Goals as goal

pub next_of-requires : goal.next_of-requires
next_of-requires c = let p = c.requires in (p.0.comes p.1).standing

pub returns-in_default : goal.returns-in_default
returns-in_default c =
    let d = c.args.d in
    became-onward (row-refuses c.args.l _ _ _ c.args.byte d.band d.count d _ c.requires.0
    (took-away d.count c.args.l.coming c.args.byte (sym c.next_of.ensures ∙ c.in_default.is))
    refl)

pub last_byte-requires : goal.last_byte-requires
last_byte-requires c =
    let n = c.args.d.count in
    let on = took-on n c.args.l.coming c.args.byte c.in-Some.next (sym c.next_of.ensures ∙ c.in-Some.is) in (
      c.requires.0,
      c.requires.1,
      c.requires.2,
      on.0,
      ap (is_over n) (sym on.1) ∙ sym c.is_over.ensures ∙ c.if-is_over.true,
    )

pub returns-then-is_over : goal.returns-then-is_over
returns-then-is_over c = record { became = c.last_byte.ensures.became; onward = c.last_byte.ensures.onward }

pub put_byte-requires : goal.put_byte-requires
put_byte-requires c =
    let p = c.requires in
    ((p.0.comes p.1).standing, le_trans (row-half (in_row c.args.l c.args.d p.0 p.1)) p.2.1)

pub sum_on-requires : goal.sum_on-requires
sum_on-requires c = c.requires.0.sum

pub returns : goal.returns
returns c =
    let d = c.args.d in
    let n = d.count in
    let on = took-on n c.args.l.coming c.args.byte c.in-Some.next (sym c.next_of.ensures ∙ c.in-Some.is) in
    let coming = on.1 in
    became-onward (row_on c.args.l _ _ _ c.args.byte d.band n d _ _ _ _ _ (omega (arith, c.ranges.byte.fits)) c.requires.0 c.requires.1 refl on.0
    (ap (is_over n) (sym coming) ∙ sym c.is_over.ensures ∙ c.if-is_over.false) c.sum_on.ensures
    coming c.put_byte.ensures
    refl refl)
