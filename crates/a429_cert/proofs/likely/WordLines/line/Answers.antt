use Rattle.a429_cert.proofs.LikelyFacts.{likely_pieces}
use Rattle.a429_cert.proofs.likely.WordLines.line.Goals as goal

pub returns : goal.returns
returns c =
    likely_pieces c.args.act c.act_letter.result c.args.states c.in_ok-source.source.now c.in_ok-ways.ways.now c.requires
    c.act_letter.ensures c.in_ok-source.ensures c.in_ok-ways.ensures
