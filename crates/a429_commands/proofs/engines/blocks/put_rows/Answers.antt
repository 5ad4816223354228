use Rattle.std.proofs.Common.{◌+◌, ◌<◌, ◌^◌, ◌++◌, ◌∷◌, [], length, length-append, inr, arith}
use Rattle.a429_word.proofs.SheetFacts.{says_nothing}
use Rattle.a429_parts.specs.Keeping.{taken}
use Rattle.a429_parts.proofs.KeepingFacts.{came_first, came_more, came_whole}
use Rattle.a429_commands.specs.declared.fault.RunFault.TheVariants as run
use Rattle.a429_commands.proofs.TraceLines.{all_given, begins_with}
use Rattle.a429_commands.proofs.BlocksRows.{blocked_more, ends_all, puts_both, puts_none, says_all, says_rows, says_up_to}
use Rattle.a429_commands.proofs.engines.blocks.put_rows.Goals as goal

pub entries-init : goal.entries-init
entries-init g c =
    ([], record { is = c.requires; allowed = tt }, came_first _, omega arith, puts_none (says_nothing g.W.Write.contents c.args.sheet.now))

pub entries-preserved : goal.entries-preserved
entries-preserved g c =
    let so_far = c.entries.invariant in
    let e = c.in-Ok-Some.entry in
    let sum = length-append so_far.0 (e ∷ []) in
    let counts = rw c.in-Ok-Some.field-0-is at c.in-Ok-Some.ensures.counts in
    let gives = rw c.in-Ok-Some.field-0-is at c.in-Ok-Some.ensures.gives in
    let few : length so_far.0 + 1 < 2 ^ 64 = omega (arith, so_far.3, counts.0, counts.1) in (
      so_far.0 ++ e ∷ [],
      blocked_more c.args.profile.now c.entries.blocks c.put_entry.new.self so_far.0 e few c.in-Ok.ensures.next c.in-Ok.ensures.allowed
          so_far.1,
      came_more _ _ _ so_far.0 e gives so_far.2,
      omega (arith, sum, so_far.3, counts.0),
      puts_both so_far.4 (c.in-Ok.ensures.rows so_far.0 few so_far.1.is),
    )

pub returns-then-failed-clause-text : goal.returns-then-failed-clause-text
returns-then-failed-clause-text g c =
    let so_far = c.entries.invariant in
    says_rows g.W.Write.contents c.args.sheet.now c.entries.sheet c.args.profile.now _ _ c.entries.blocks so_far.0 run.Device so_far.1
    so_far.2 tt (omega (arith, so_far.3)) so_far.4

pub returns-in-Err-clause-text : goal.returns-in-Err-clause-text
returns-in-Err-clause-text g c =
    let so_far = c.entries.invariant in
    let same = c.in-Err.ensures.same in
    says_rows g.W.Write.contents c.args.sheet.now c.entries.sheet c.args.profile.now _ _ c.entries.blocks so_far.0 c.in-Err.fault so_far.1
    so_far.2 c.in-Err.ensures.none_before (all_given c.in-Err.fault _ _ (omega (arith, so_far.3, same))) so_far.4

pub returns-in-Err-OutOfMemory-clause-text : goal.returns-in-Err-OutOfMemory-clause-text
returns-in-Err-OutOfMemory-clause-text g c =
    let so_far = c.entries.invariant in
    let puts = rw c.in-Err-OutOfMemory.field-0-is at c.in-Err-OutOfMemory.ensures.stop_rows in
    let counts = rw c.in-Ok-Some.field-0-is at c.in-Ok-Some.ensures.counts in
    says_rows g.W.Write.contents c.args.sheet.now c.put_entry.new.sheet c.args.profile.now _ _ c.entries.blocks so_far.0 run.Memory so_far.1
    so_far.2 tt (inr (omega (arith, so_far.3, counts.0))) (puts_both so_far.4 (puts so_far.0 so_far.1.is))

pub returns-in-Err-Refused-clause-text : goal.returns-in-Err-Refused-clause-text
returns-in-Err-Refused-clause-text g c =
    let so_far = c.entries.invariant in
    let p = c.args.profile.now in
    let e = c.in-Ok-Some.entry in
    let gives = rw c.in-Ok-Some.field-0-is at c.in-Ok-Some.ensures.gives in
    let stopped = rw c.in-Err-Refused.field-0-is at c.in-Err-Refused.ensures.stop in
    let puts = rw c.in-Err-Refused.field-0-is at c.in-Err-Refused.ensures.stop_rows in
    says_up_to g.W.Write.contents c.args.sheet.now c.put_entry.new.sheet p (taken c.args.rec.now c.next_entry.new.rec) so_far.0 e
    (begins_with _ _ (so_far.0 ++ e ∷ []) (came_more _ _ _ so_far.0 e gives so_far.2))
    (ends_all p c.put_entry.ensures.sound c.entries.blocks so_far.0 e _ so_far.1 stopped) (puts_both so_far.4 (puts so_far.0 so_far.1.is))

pub returns-in-Ok-None-clause-text : goal.returns-in-Ok-None-clause-text
returns-in-Ok-None-clause-text g c =
    let so_far = c.entries.invariant in
    let p = c.args.profile.now in
    let gives = rw c.in-Ok-None.field-0-is at c.in-Ok-None.ensures.gives in
    says_all g.W.Write.contents c.args.sheet.now c.put_last.new.sheet p
    (taken c.args.rec.now c.next_entry.new.rec) c.entries.blocks so_far.0 so_far.1 (came_whole _ _ _ so_far.0 gives so_far.2)
    (puts_both so_far.4 (c.put_last.ensures p so_far.0 so_far.1.is))
