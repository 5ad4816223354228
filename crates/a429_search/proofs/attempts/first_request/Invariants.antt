use Rattle.std.proofs.Common.{◌≡◌, [], take}
use Rattle.a429_search.proofs.RecordedFacts.{closed}
use Rattle.a429_search.proofs.attempts.first_request.Given as goal

abbrev pub invariant-loop-at : goal.invariant-loop-at
invariant-loop-at l = closed l.decoded.profile (take l.at l.decoded.items) ≡ []
