use Rattle.a429_side.specs.Counts.{is_a_request}
use Rattle.a429_side.proofs.CountsFacts.{word_more}
use Rattle.a429_side.proofs.counts.DestinationCount.and.Goals as goal

pub returns : goal.returns
returns c =
    λ lots lot few is h. word_more c.args.self _ lots lot c.saturating_add.ensures (c.with.ensures is_a_request lots lot few is) few h
