use Rattle.std.proofs.Common.{rules}
use Rattle.a429_profile.proofs.labels.read_entry.Goals as goal

pub text_at-requires-clause-rule : goal.text_at-requires-clause-rule
text_at-requires-clause-rule c = search rules
