use Rattle.std.proofs.Common.{◌≢◌, ◌∙◌, rules, arith}
use Rattle.a429_ldu.specs.declared.fault.LduFault.TheVariants.{OutOfMemory}
use Rattle.a429_explain.proofs.WholeFacts.{unit_is_made, unit_not_made}
use Rattle.a429_explain.proofs.whole.unit_with.Goals as goal

pub returns-in-Ok-clause-made : goal.returns-in-Ok-clause-made
returns-in-Ok-clause-made c =
    unit_is_made c.args.profile.now c.codes-codes.ensures.sound c.args.count c.args.ends.start c.in-Some.gfi c.args.ends.flags
    c.args.ends.check c.args.words.now c.in-Ok.unit c.in-Some.is c.in-Ok.ensures.value c.in-Ok.ensures.sound
    (c.if-words-from.false ∙ c.from.ensures)

pub returns-in-Err-2-clause-made : goal.returns-in-Err-2-clause-made
returns-in-Err-2-clause-made c =
    let other : c.in-Err.fault ≢ OutOfMemory = λ e. absurd (search (rules, e)) in
    unit_not_made c.args.profile.now c.codes-codes.ensures.sound c.args.count c.args.ends.start c.in-Some.gfi c.args.ends.flags
    c.args.ends.check c.args.words.now c.in-Err.fault
    (omega (arith, c.ranges.count.fits)) c.in-Some.is (c.if-words-from.false ∙ c.from.ensures) (c.in-Err.ensures.err other)

pub returns-in-Ok-clause-count : goal.returns-in-Ok-clause-count
returns-in-Ok-clause-count c = search rules
