use Rattle.std.proofs.Common.{◌≡◌, ◌≢◌, IfSome, subst}
use Rattle.a429_ldu.specs.declared.fault.LduFault.TheVariants.{OutOfMemory}
use Rattle.a429_merge.specs.Block.{check_wanted, HaveCheckWord}
use Rattle.a429_merge.proofs.BlockFacts.{IsMadeEnd, no_fault, unit_of}
use Rattle.a429_merge.proofs.block.unit_with.Goals as goal

pub returns-in-Err-2-clause-found : goal.returns-in-Err-2-clause-found
returns-in-Err-2-clause-found c =
    let p = c.args.profile.now in
    let words = c.args.words.now in
    let check = c.in-Some.end.check in
    let has : HaveCheckWord p words check =
    subst (λ o. IfSome o (λ e. HaveCheckWord p words e.check)) c.in-Some.is c.in_ok-end.ensures.check in
    let other : c.in-Err.fault ≢ OutOfMemory = λ same. let found = c.is_out_of_memory.ensures.1 same in
    absurd (cc (found, c.if-is_out_of_memory.false)) in
    absurd (no_fault p c.codes-codes.ensures.sound
    (check_wanted p c.args.pieces.now.end) words check c.requires.fits c.requires.long has c.in-Err.fault (c.in-Err.ensures.err other))

pub returns-in-Ok-clause-unit : goal.returns-in-Ok-clause-unit
returns-in-Ok-clause-unit c =
    let p = c.args.profile.now in
    let pieces = c.args.pieces.now in
    let words = c.args.words.now in
    let recorded = subst (λ o. IfSome o (λ e. IfSome pieces.end (λ r. e ≡ r))) c.in-Some.is c.in_ok-end.ensures.recorded in
    let made = subst (λ o. IfSome o (IsMadeEnd p words pieces.end)) c.in-Some.is c.in_ok-end.ensures.made in
    unit_of p pieces c.in-Ok.unit c.unwrap_or-gfi.result c.in-Some.end words c.in-Ok.ensures.value c.in-Ok.ensures.sound c.requires.count
    c.unwrap_or-gfi.ensures recorded made c.requires.each
