-- `header::is_header` meets its contract: its tests in turn. Assumes nothing.
use native.Mathlib.Omega.{arith}
use Rattle.ground_file.proofs.HeaderLaws.{header-signature, header-version, header-end}
use Rattle.ground_file.proofs.header.is_header.Goals as goal

pub number_in-requires : goal.number_in-requires
number_in-requires c = omega arith

pub returns-then-number_in-ne-SIGNATURE : goal.returns-then-number_in-ne-SIGNATURE
returns-then-number_in-ne-SIGNATURE c =
    header-signature c.args.bytes.now _ c.number_in.ensures.0 c.if-number_in-ne-SIGNATURE.true

pub number_in-requires-2 : goal.number_in-requires-2
number_in-requires-2 c = omega arith

pub returns-then-number_in-ne1 : goal.returns-then-number_in-ne1
returns-then-number_in-ne1 c =
    header-version c.args.bytes.now _ c.number_in.ensures.0 c.if-number_in-ne-SIGNATURE.false _ c.number_in-2.ensures.0 c.if-number_in-ne1.true

pub number_in-requires-3 : goal.number_in-requires-3
number_in-requires-3 c = omega arith

pub returns : goal.returns
returns c =
    header-end c.args.bytes.now _ c.number_in.ensures.0 c.if-number_in-ne-SIGNATURE.false _ _ c.number_in-2.ensures.0 c.if-number_in-ne1.false
    c.number_in-3.ensures.0
