use Rattle.std.proofs.Common.{rules}
use Rattle.a429_profile.proofs.codes.read_transfer.Goals as goal

pub returns-in_err-final_bit : goal.returns-in_err-final_bit
returns-in_err-final_bit c = search rules
