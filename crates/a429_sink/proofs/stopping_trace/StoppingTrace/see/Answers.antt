use Rattle.std.proofs.Common.{Err, ap, arith, sym, ◌∙◌}
use Rattle.a429_sink.specs.declared.fault.SinkFault.{SinkFault}
use Rattle.a429_sink.proofs.StoppingFacts.{ends_here, goes_past, trace_grown}
use Rattle.a429_sink.proofs.stopping_trace.StoppingTrace.see.Goals as goal

pub returns-then-is_some-clause-goes_on : goal.returns-then-is_some-clause-goes_on
returns-then-is_some-clause-goes_on c = λ items is.
    goes_past c.args.profile.now items c.args.seen c.args.self.now c.in-Some.size (omega (arith, c.in-Some.ensures.1))
    (sym c.is_some.ensures ∙ c.if-is_some.true) is

pub returns-in-Some-checked_add-clause-goes_on : goal.returns-in-Some-checked_add-clause-goes_on
returns-in-Some-checked_add-clause-goes_on c = λ items is.
    trace_grown c.args.profile.now items c.args.seen c.args.self.now c.see.new.self c.in-Some.size c.in-Some-checked_add.count
    c.in-Ok.files.items
    (omega (arith, c.in-Some.ensures.1)) (omega (arith, c.in-Some-checked_add.ensures.1, c.len.ensures))
    (sym c.is_some.ensures ∙ c.if-is_some.false) is (c.in-Ok.ensures.goes_on items) (c.in-Ok.ensures.files items)

pub returns-in-Err-Refused-clause-goes_on : goal.returns-in-Err-Refused-clause-goes_on
returns-in-Err-Refused-clause-goes_on c = λ items is.
    ends_here c.args.profile.now items c.args.seen c.args.self.now c.see.new.self c.in-Some.size
    (omega (arith, c.in-Some.ensures.1)) (c.in-Err-Refused.ensures.unchanged (ap (λ (f : SinkFault). Err f) c.in-Err-Refused.field-0-is))
    (sym c.is_some.ensures ∙ c.if-is_some.false) is
    ((rw c.in-Err-Refused.field-0-is at c.in-Err-Refused.ensures.stop) items)
