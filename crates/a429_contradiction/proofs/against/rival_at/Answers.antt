use Rattle.std.proofs.Common.{get_or}
use Rattle.std.proofs.lemmas.Option.{slice_get-get_or}
use Rattle.a429_word.specs.declared.bus.Bus.TheVariants as bus
use Rattle.a429_contradiction.proofs.AgainstFacts.{rival_of_entries}
use Rattle.a429_contradiction.proofs.against.rival_at.Goals as goal

pub returns-in_ok-found-in-Ok : goal.returns-in_ok-found-in-Ok
returns-in_ok-found-in-Ok c =
    let es = c.args.entries.now in
    rw c.as_against.ensures
    (rival_of_entries c.args.profile.now es c.args.entry c.in-Ok.decoded
    (get_or es c.args.entry (record { time = 0; bus = bus.A; word = 0 })) c.in_ok-found-in-Ok.found c.in-Ok.ensures.decoded
    (slice_get-get_or es c.args.entry (record { time = 0; bus = bus.A; word = 0 }) c.requires) c.in_ok-found-in-Ok.ensures)
