use Rattle.a429_profile.proofs.ClashEntries.{no_addresses, bits_differ}
use Rattle.a429_profile.proofs.laws.nothing_clashes.Goals as goal

pub returns-clause-addresses : goal.returns-clause-addresses
returns-clause-addresses c = no_addresses

pub returns-clause-bits : goal.returns-clause-bits
returns-clause-bits c = bits_differ
