use Rattle.std.proofs.Common.{arith, refl, true}
use Rattle.a429_parts.proofs.PartsFacts.{finished_by, progress_at_end, stopped, trouble_reason}
use Rattle.a429_parts.proofs.parting.Parting.finish.Goals as goal

pub returns-in-Ok-put-clause-ok : goal.returns-in-Ok-put-clause-ok
returns-in-Ok-put-clause-ok g c p most known first es h =
    let ended = c.put_complete.new in
    finished_by g.W.Write.contents p most known first es (g.P.Parts.known ended.parts)
    (g.P.Parts.known c.put.new.parts) ended.sheet c.put.new.sheet ended.self _ _ c.count_waiting-size.ensures
    (c.in-Ok.ensures.ok p most known first es (progress_at_end p most _ es c.args.self h))
    (c.in-Ok.ensures.last refl) c.in-Ok-put.ensures.ok.0 c.in-Ok-put.ensures.ok.1 c.in-Ok-put.ensures.ok.2

pub returns-in-Err-put-clause-err : goal.returns-in-Err-put-clause-err
returns-in-Err-put-clause-err g c p most known first es few h =
    let ended = c.put_complete.new in
    let all = c.in-Ok.ensures.ok p most known first es (progress_at_end p most _ es c.args.self h) in
    stopped g.W.Write.contents p most known first es true (g.P.Parts.known ended.parts) (g.P.Parts.known c.put.new.parts) ended.sheet
    c.put.new.sheet ended.self c.fault_by.result all (omega (arith, c.in-Ok.ensures.last refl, all.holds.limit))
    c.in-Err-put.ensures.err.0 c.in-Err-put.ensures.err.1
    (λ more left. trouble_reason p most _ _ ended.self.cutter.waiting c.fault_by.result c.fault_by.ensures.either)

pub returns-in-Err-clause-err : goal.returns-in-Err-clause-err
returns-in-Err-clause-err g c p most known first es few h =
    c.in-Err.ensures.err p most known first es few (progress_at_end p most _ es c.args.self h)
