use Rattle.std.proofs.Common.{◌++◌, ◌∷◌, [], length-append, subst, arith}
use Rattle.a429_link.specs.declared.seen.Seen.{Seen}
use Rattle.a429_cert.specs.Explained.{items_of}
use Rattle.a429_parts.specs.Keeping.{taken}
use Rattle.a429_parts.proofs.KeepingFacts.{came_first, came_more}
use Rattle.a429_sink.specs.LoneTrace.{IsLoneTrace}
use Rattle.a429_sink.proofs.JudgingFacts.{began, ran_out, says_no, traced_more}
use Rattle.a429_sink.proofs.judging.see_all.Goals as goal

pub entries-init : goal.entries-init
entries-init g c = ([], c.requires, came_first _, omega arith)

pub entries-preserved : goal.entries-preserved
entries-preserved g c =
    let so_far = c.entries.invariant in
    let es = so_far.0 in
    let e = c.in-Ok-Some.entry in
    let p = c.args.profile.now in
    let sum = length-append es (e ∷ []) in
    let counts = rw c.in-Ok-Some.field-0-is at c.in-Ok-Some.ensures.counts in
    let gives = rw c.in-Ok-Some.field-0-is at c.in-Ok-Some.ensures.gives in (
      es ++ e ∷ [],
      traced_more p es e c.see.new.self
          (subst (λ (i : Seen). IsLoneTrace p (items_of es ++ i ∷ []) c.see.new.self) c.seen.ensures
          (c.in-Ok.ensures.goes_on (items_of es) so_far.1)),
      came_more _ _ _ es e gives so_far.2,
      omega (arith, sum, so_far.3, counts),
    )

pub returns-in-Err-Refused-clause-sees : goal.returns-in-Err-Refused-clause-sees
returns-in-Err-Refused-clause-sees g c =
    let so_far = c.entries.invariant in
    let es = so_far.0 in
    let e = c.in-Ok-Some.entry in
    let p = c.args.profile.now in
    let counts = rw c.in-Ok-Some.field-0-is at c.in-Ok-Some.ensures.counts in
    let gives = rw c.in-Ok-Some.field-0-is at c.in-Ok-Some.ensures.gives in
    let stop = rw c.in-Err-Refused.field-0-is at c.in-Err-Refused.ensures.stop in
    rw c.in-Err-Refused.refusal-is
    (says_no p c.codes-codes.ensures.sound (taken c.args.rec.now c.next_of.new.rec) es e c.in-Err-Refused.refusal
    (began _ _ (es ++ e ∷ []) (came_more _ _ _ es e gives so_far.2))
    (omega (arith, so_far.3, counts))
    (rw c.seen.ensures at (stop (items_of es) so_far.1)))

pub returns-in-Err-OutOfMemory-clause-fault : goal.returns-in-Err-OutOfMemory-clause-fault
returns-in-Err-OutOfMemory-clause-fault g c =
    let so_far = c.entries.invariant in
    let es = so_far.0 in
    let e = c.in-Ok-Some.entry in
    let sum = length-append es (e ∷ []) in
    let counts = rw c.in-Ok-Some.field-0-is at c.in-Ok-Some.ensures.counts in
    let gives = rw c.in-Ok-Some.field-0-is at c.in-Ok-Some.ensures.gives in
    record {
      entries = es ++ e ∷ [];
      came = omega (arith, sum, so_far.3, counts);
      stops = ran_out _ _ (es ++ e ∷ []) (came_more _ _ _ es e gives so_far.2);
    }
