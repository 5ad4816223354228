use Rattle.std.proofs.Common.{List, None, Some, Option, sym, subst}
use Rattle.a429_link.specs.declared.file.FileBytes.{FileBytes}
use Rattle.a429_sink.specs.declared.glimpsed.Accepted.{Accepted}
use Rattle.a429_sink.specs.Anywhere.{learned, unknown}
use Rattle.a429_sink.specs.Glimpsed.{FollowsWord}
use Rattle.a429_sink.specs.GlimpsedTrace.{MakesSure}
use Rattle.a429_sink.proofs.GlimpsedTraceFacts.{accepted_acked, sure_more, trace_more, trace_stops}
use Rattle.a429_sink.proofs.glimpsed_trace.GlimpsedTrace.see.Goals as goal

pub returns-in-Ok-None-clause-goes_on : goal.returns-in-Ok-None-clause-goes_on
returns-in-Ok-None-clause-goes_on c = λ items is.
    let p = c.args.profile.now in
    let old = c.args.self.now in
    let follows =
    subst (λ (said : Option Accepted). FollowsWord p c.args.seen old.sink c.see.new.self said) c.in-Ok-None.field-0-is
    c.in-Ok-None.ensures.follows in
    trace_more p items c.args.seen old
    (record old { sink = c.see.new.self }) None is c.in-Ok-None.ensures.allowed c.in-Ok-None.ensures.taken follows (λ us h. h)

pub returns-in-Ok-None-clause-files : goal.returns-in-Ok-None-clause-files
returns-in-Ok-None-clause-files c = λ items is.
    let p = c.args.profile.now in
    let old = c.args.self.now in
    let follows =
    subst (λ (said : Option Accepted). FollowsWord p c.args.seen old.sink c.see.new.self said) c.in-Ok-None.field-0-is
    c.in-Ok-None.ensures.follows in
    subst (λ (fs : List FileBytes). MakesSure p items c.args.seen fs) (sym c.new.ensures.items)
    (sure_more p items c.args.seen old (record old { sink = c.see.new.self }) None is follows)

pub returns-in-Ok-clause-goes_on : goal.returns-in-Ok-clause-goes_on
returns-in-Ok-clause-goes_on c = λ items is.
    let p = c.args.profile.now in
    let old = c.args.self.now in
    let a = c.in-Ok-Some.accepted in
    let follows =
    subst (λ (said : Option Accepted). FollowsWord p c.args.seen old.sink c.see.new.self said) c.in-Ok-Some.field-0-is
    c.in-Ok-Some.ensures.follows in
    trace_more p items c.args.seen old (record { sink = c.see.new.self; units = c.add.new.self })
    (Some a) is c.in-Ok-Some.ensures.allowed c.in-Ok-Some.ensures.taken follows c.in-Ok.ensures.added

pub returns-in-Ok-clause-files : goal.returns-in-Ok-clause-files
returns-in-Ok-clause-files c = λ items is.
    let p = c.args.profile.now in
    let old = c.args.self.now in
    let follows =
    subst (λ (said : Option Accepted). FollowsWord p c.args.seen old.sink c.see.new.self said) c.in-Ok-Some.field-0-is
    c.in-Ok-Some.ensures.follows in
    sure_more p items c.args.seen old (record { sink = c.see.new.self; units = c.add.new.self }) (Some c.in-Ok-Some.accepted) is follows

pub returns-in-Err-add-clause-stop : goal.returns-in-Err-add-clause-stop
returns-in-Err-add-clause-stop c = λ items is.
    let p = c.args.profile.now in
    let old = c.args.self.now in
    let follows =
    subst (λ (said : Option Accepted). FollowsWord p c.args.seen old.sink c.see.new.self said) c.in-Ok-Some.field-0-is
    c.in-Ok-Some.ensures.follows in
    accepted_acked p c.args.seen old (record old { sink = c.see.new.self }) c.in-Ok-Some.accepted (learned p items unknown) is.known follows

pub returns-in-Err-clause-stop : goal.returns-in-Err-clause-stop
returns-in-Err-clause-stop c =
    λ items is. trace_stops c.args.profile.now items c.args.seen c.args.self.now c.in-Err.fault is c.in-Err.ensures.fault
