use Rattle.a429_ldu.specs.Cut.{pieces, units_in}
use Rattle.a429_ldu.proofs.CutFacts.{unit_more, unit_last}
use Rattle.a429_ldu.proofs.cutting.units.Goals as goal

pub loop-rest-preserved : goal.loop-rest-preserved
loop-rest-preserved c =
    let p = c.args.profile.now in
    let m =
    unit_more p c.args.room c.loop-rest.units.items c.push.new.self.items
    (units_in p (pieces 255 c.args.room c.args.bytes.now)) c.loop-rest.rest.now c.split_at.result.0.now c.split_at.result.1.now
    c.in_ok-unit.field-0 c.loop-rest-test.true c.loop-rest.invariant.most
    c.split_at.ensures.front c.split_at.ensures.back c.in_ok-unit.ensures c.in_ok-push.ensures.items c.loop-rest.invariant.units in
    record { units = m.units; some = m.some; most = m.most }

pub returns-clause-units : goal.returns-clause-units
returns-clause-units c =
    let p = c.args.profile.now in
    unit_last p c.args.room c.loop-rest.units.items c.push-2.new.self.items
    (units_in p (pieces 255 c.args.room c.args.bytes.now)) c.loop-rest.rest.now c.in_ok-unit-2.field-0 c.final_flag.result
    c.loop-rest-test.false c.loop-rest.invariant.some c.loop-rest.invariant.most
    c.final_flag.ensures.value c.in_ok-unit-2.ensures c.in_ok-push-2.ensures.items c.loop-rest.invariant.units
