use Rattle.std.proofs.Common.{length, refl}
use Rattle.std.proofs.lemmas.Option.{slice_get_read}
use Rattle.a429_contradiction.proofs.AgainstFacts.{held_at}
use Rattle.a429_contradiction.proofs.against.held_before.Goals as goal

pub returns-in-Ok : goal.returns-in-Ok
returns-in-Ok c =
    let es = c.args.entries.now in
    let e = c.index-entries-entry.result in
    held_at c.args.profile.now es c.args.entry c.args.reason c.in-Ok.before e c.seen.result c.held_after.result c.in-Ok.ensures.decoded
    (slice_get_read es (length es) c.args.entry e refl c.requires c.index-entries-entry.is) c.seen.ensures c.held_after.ensures
