use Rattle.std.proofs.Common.{◌∙◌}
use Rattle.a429_profile.specs.Profile.{is_for}
use Rattle.a429_profile.proofs.EntryRanges.{lent-in_range}
use Rattle.a429_profile.proofs.profile.Profile.entry.Goals as goal

pub returns-clause-range : goal.returns-clause-range
returns-clause-range c =
    lent-in_range (λ e. e.now) _ (is_for c.args.label c.args.sdi) c.entries.result c.codes-codes.ensures.sound
    (c.entries.ensures ∙ c.in_ok-place.ensures)
