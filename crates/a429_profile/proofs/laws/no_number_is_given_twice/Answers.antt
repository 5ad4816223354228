use Rattle.a429_profile.proofs.ClashNumbers.{types_differ, codes_differ, partial_codes_differ}
use Rattle.a429_profile.proofs.laws.no_number_is_given_twice.Goals as goal

pub returns-clause-types : goal.returns-clause-types
returns-clause-types c = types_differ

pub returns-clause-codes : goal.returns-clause-codes
returns-clause-codes c = codes_differ

pub returns-clause-partial_codes : goal.returns-clause-partial_codes
returns-clause-partial_codes c = partial_codes_differ
