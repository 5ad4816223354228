use Rattle.a429_profile.proofs.ProfileRanges.{in_range}
use Rattle.a429_profile.proofs.laws.each_number_lies_in_its_range.Goals as goal

pub returns : goal.returns
returns c = in_range
