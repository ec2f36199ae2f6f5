-- `flush` calls itself at a smaller `l`.
use Rattle.writer.proofs.closing.+flush.Given as goal

abbrev pub decreases-flush : goal.decreases-flush
decreases-flush l = l.l
