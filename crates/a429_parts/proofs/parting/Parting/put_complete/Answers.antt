use Rattle.std.proofs.Common.{arith, refl, rules}
use Rattle.a429_word.proofs.SheetFacts.{says_nothing}
use Rattle.a429_parts.specs.Parting.{EndsFor}
use Rattle.a429_parts.proofs.PartsFacts.{part_reason, same_parts, stopped, trouble_reason}
use Rattle.a429_parts.proofs.parting.Parting.put_complete.Goals as goal

pub parts-init : goal.parts-init
parts-init g c = record { reach = λ h. h; few = omega arith; goes = λ p most known first es h. h }

pub parts-preserved : goal.parts-preserved
parts-preserved g c =
    let ends : EndsFor c.args.at_end c.parts.self.cutter c.in-Ok-Some.size = search rules in
    record {
      reach = λ h. c.in-Ok.ensures.reach;
      few = omega (arith, c.in-Ok.ensures.waits, c.parts.invariant.few);
      goes =
          λ p most known first es h.
          c.in-Ok.ensures.ok p most c.args.at_end known first es ends (c.parts.invariant.goes p most known first es h);
    }

pub returns-in-Err-put_and_end-clause-err : goal.returns-in-Err-put_and_end-clause-err
returns-in-Err-put_and_end-clause-err g c p most known first es few h =
    c.in-Err-put_and_end.ensures.err p most c.args.at_end known first es c.fault_by.result
    (λ entries from. trouble_reason p most entries from c.parts.self.cutter.waiting c.fault_by.result c.fault_by.ensures.either)
    (omega (arith, few, c.parts.invariant.few)) (c.parts.invariant.goes p most known first es h)

pub returns-in-Ok-None-clause-ok : goal.returns-in-Ok-None-clause-ok
returns-in-Ok-None-clause-ok g c p most known first es h = c.parts.invariant.goes p most known first es h

pub returns-in-Err-clause-err : goal.returns-in-Err-clause-err
returns-in-Err-clause-err g c p most known first es few h =
    let now = c.parts.invariant.goes p most known first es h in
    let s = c.parts.self in
    let many = c.in-Err.ensures.many refl in
    stopped g.W.Write.contents p most known first es c.args.at_end (g.P.Parts.known c.parts.parts)
    (g.P.Parts.known c.parts.parts) c.parts.sheet c.parts.sheet s c.fault_of.result now (omega (arith, few, c.parts.invariant.few))
    (same_parts (g.P.Parts.known c.parts.parts)) (says_nothing g.W.Write.contents c.parts.sheet)
    (part_reason p most c.args.at_end now.parts es s c.fault_of.result now.holds c.fault_of.ensures.either many.0 (many.1 now.holds.reach))
