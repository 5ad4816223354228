use Rattle.std.proofs.Common.{◌≡◌, IsSome, slice_range}
use Rattle.a429_ldu.specs.Carried.{semis_of_words}
use Rattle.a429_explain.specs.Filled.{last_data, none_yet}
use Rattle.a429_explain.proofs.filled.last_data.Given as goal

abbrev pub invariant-loop-at : goal.invariant-loop-at
invariant-loop-at l = record {
  exact : last_data l.decoded.profile.codes (slice_range l.decoded.items l.fn.group.from l.fn.group.to) none_yet
      ≡ last_data l.decoded.profile.codes (slice_range l.decoded.items l.at l.fn.group.to) l.last;
  sound : IsSome (semis_of_words l.decoded.profile.codes l.last.words);
}
