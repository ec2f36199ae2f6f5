-- Demand 1 of the rounding and of its figure: `round-calls`. Assumes nothing.
use Rattle.rounding.proofs.RoundAsks.{round_asks, bound_asks}
use Rattle.demand_1.specs.Rounding.{RoundCalls}
use Rattle.demand_1.proofs.WordLaws.{kept}
use Rattle.demand_1.proofs.Maps.{passed-kept, passed-surplus}

pub round-calls : RoundCalls
round-calls = record {
  round_asks = round_asks;
  round = λ L W H s x q. record { plane = passed-kept q _ _ x; surplus = passed-surplus q _ _ x };
  bound_asks = bound_asks;
  bound = λ L s b q. kept q _ b;
}
