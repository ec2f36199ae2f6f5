-- `Writer::waits` meets its contract. Assumes nothing.
use mathlib.Core.Path.{ap, ◌∙◌}
use native.Mathlib.Omega.{arith}
use Rattle.writer.proofs.CallLaws.{sound-walk}
use Rattle.writer.proofs.DrawLaws.{reached}
use Rattle.writer.proofs.LookLaws.{look-no, look_none, look-sound, look-row, waiting-level}
use Rattle.writer.specs.declared.BandRow.{BandRow}
use Rattle.writer.proofs.Writer.waits.Goals as goal

pub returns-then-not-in_ranges-clause-value : goal.returns-then-not-in_ranges-clause-value
returns-then-not-in_ranges-clause-value c = look-no _ _ c.in_ranges.ensures c.if-not-in_ranges.true-raw

pub looked-requires : goal.looked-requires
looked-requires c =
    let f = look-sound _ _ c.in_ranges.ensures c.if-not-in_ranges.false-raw in
    let s = c.args.self in
    let walk = sound-walk s _ f (omega arith) in
    (walk, f.placed, reached s.filter _ _ _ _ _ _ _ walk c.level_of-q.ensures)

pub returns-then-self-gt0 : goal.returns-then-self-gt0
returns-then-self-gt0 c =
    let f = look-sound _ _ c.in_ranges.ensures c.if-not-in_ranges.false-raw in
    let s = c.args.self in
    let r = reached s.filter _ _ _ _ _ _ _ (sound-walk s _ f (omega arith)) c.level_of-q.ensures in
    record {
      value = look-row _ _ c.in_ranges.ensures _ c.looked.ensures c.if-not-in_ranges.false-raw (omega arith);
      some = rw (ap (λ (b : BandRow). b.level) c.looked.ensures ∙ waiting-level s _ r) (omega arith);
    }

pub returns-clause-value : goal.returns-clause-value
returns-clause-value c = look_none _ _ c.in_ranges.ensures c.if-not-in_ranges.false-raw (omega arith)
