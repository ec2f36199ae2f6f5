-- `run::one_round`: read, turn and write, as the definition has them. Assumes nothing.
use Rattle.descriptors.proofs.LeftLaws.{fills-within}
use Rattle.rounds.proofs.RoundLaws.{round_is}
use Rattle.rounds.proofs.run.one_round.Goals as goal

pub turn-fed-requires : goal.turn-fed-requires
turn-fed-requires g c = fills-within c.requires c.fill-filled.ensures

pub returns : goal.returns
returns g c =
    let e = c.turn-fed.ensures.went in
    round_is _ _ _ _ _ _ c.requires c.waits.ensures c.fill-filled.ensures e c.turn-fed.ensures.stops c.send-sent.ensures.whole c.send-sent.ensures.cut
    c.after.ensures
