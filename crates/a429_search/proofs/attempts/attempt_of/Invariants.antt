use Rattle.std.proofs.Common.{◌≡◌, take}
use Rattle.a429_link.specs.Attempt.{attempts, latest}
use Rattle.a429_search.specs.Recorded.{IsRecorded}
use Rattle.a429_search.proofs.RecordedFacts.{closed}
use Rattle.a429_search.proofs.attempts.attempt_of.Given as goal

abbrev pub invariant-loop-at : goal.invariant-loop-at
invariant-loop-at l = record {
  done : closed l.decoded.profile (take l.at l.decoded.items) ≡ attempts l.decoded.profile (take l.from l.decoded.items);
  is : IsRecorded l.decoded.profile.codes (latest l.decoded.profile (take l.at l.decoded.items)) l.attempt;
  at : l.attempt.at ≡ l.from;
}
