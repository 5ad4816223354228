use Rattle.a429_search.specs.Recorded.{HasNoRequestBetween}
use Rattle.a429_search.proofs.attempts.next_request.Given as goal

abbrev pub invariant-loop-at : goal.invariant-loop-at
invariant-loop-at l = HasNoRequestBetween l.decoded.profile l.decoded.items l.from l.at
