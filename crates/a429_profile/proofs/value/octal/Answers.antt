use Rattle.std.proofs.Common.{rules}
use Rattle.a429_profile.proofs.value.octal.Goals as goal

pub overflow_add-result-in-48-to-51 : goal.overflow_add-result-in-48-to-51
overflow_add-result-in-48-to-51 c = search rules

pub returns-in-48-to-51 : goal.returns-in-48-to-51
returns-in-48-to-51 c = search rules
