-- `rewriting::read_byte` meets its contract: the byte is read. Assumes nothing.
use Rattle.picture.proofs.RunLaws.{byte_reads}
use Rattle.picture.proofs.rewriting.read_byte.Goals as goal

pub returns : goal.returns
returns c =
    byte_reads c.args.rewriting _ c.args.row.now _ c.args.piece.now c.args.used c.requires.0 c.requires.1
    c.read.ensures.value c.read.ensures.row_after
