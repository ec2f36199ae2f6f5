-- `arrive` calls itself at a smaller `l`.
use Rattle.writer.proofs.cascade.+arrive.Given as goal

abbrev pub decreases-arrive : goal.decreases-arrive
decreases-arrive l = l.l
