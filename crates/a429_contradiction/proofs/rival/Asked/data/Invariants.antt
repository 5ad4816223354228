use Rattle.std.proofs.Common.{◌≡◌, take}
use Rattle.a429_link.specs.WholeBlock.{data_words}
use Rattle.a429_contradiction.proofs.rival.Asked.data.Given as goal

abbrev pub invariant-loop-place : goal.invariant-loop-place
invariant-loop-place l = l.data.items ≡ data_words l.profile.codes (take l.place l.self.attempt.words)
