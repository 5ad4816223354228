use Rattle.a429_word.proofs.ScreeningLanes.{parity-lanes}
use Rattle.a429_word.proofs.screening.parities.Goals as goal

pub returns : goal.returns
returns c =
    parity-lanes c.args.words c.fold-halves.result c.fold-bytes.result c.fold-nibbles.result c.fold-pairs.result c.fold.result c.requires
    c.fold-halves.ensures c.fold-bytes.ensures c.fold-nibbles.ensures c.fold-pairs.ensures c.fold.ensures
