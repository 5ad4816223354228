use Rattle.std.proofs.Common.{◌++◌, Option, refl, ap, ◌∙◌, subst}
use Rattle.std.specs.Prelude.{IsSome}
use Rattle.a429_link.specs.declared.doing.Crossing.{Crossing}
use Rattle.a429_sink.specs.Lone.{listed}
use Rattle.a429_sink.proofs.LoneTraceFacts.{asked_after, crossing_acked, trace_more, trace_stops}
use Rattle.a429_sink.proofs.lone_trace.LoneTrace.see.Goals as goal

pub returns-clause-goes_on : goal.returns-clause-goes_on
returns-clause-goes_on c = λ items t.
    let p = c.args.profile.now in
    let old = c.args.self.now in
    trace_more p items c.args.seen old _ t c.in-Ok.ensures.allowed refl c.in-Ok.ensures.taken
    (c.in-Ok-add_file.ensures.added ∙ ap (λ (x : Option Crossing). old.files.items ++ listed x) c.in-Ok.ensures.crosses)
    (asked_after p items c.args.seen old (record { entry = old.entries; owed = c.owes-owed.result }) c.last_request-self.result t refl
    c.owes-owed.ensures c.last_request-self.ensures)

pub returns-in-Err-Refused-clause-stop : goal.returns-in-Err-Refused-clause-stop
returns-in-Err-Refused-clause-stop c = λ items t.
    trace_stops c.args.profile.now items c.args.seen c.args.self.now _ t
    (rw c.in-Err-Refused.field-0-is at c.in-Err-Refused.ensures.fault) refl c.owed_before.ensures c.owes-owed.ensures

pub returns-in-Err-OutOfMemory-clause-stop : goal.returns-in-Err-OutOfMemory-clause-stop
returns-in-Err-OutOfMemory-clause-stop c = λ items t. (rw c.in-Err-OutOfMemory.field-0-is at c.in-Err-OutOfMemory.ensures.fault).1

pub returns-in-Err-clause-stop : goal.returns-in-Err-clause-stop
returns-in-Err-clause-stop c =
    λ items t.
    crossing_acked c.args.profile.now c.args.self.now.sink c.args.seen (subst IsSome c.in-Ok.ensures.crosses c.in-Err.ensures.memory)
