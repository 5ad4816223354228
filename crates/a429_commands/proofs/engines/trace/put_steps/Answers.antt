use Rattle.std.proofs.Common.{◌++◌, ◌∷◌, [], length-append, append-nil, subst, inr, arith}
use Rattle.a429_word.specs.Sheet.{Says}
use Rattle.a429_word.proofs.SheetFacts.{◌▹◌, says_nothing}
use Rattle.a429_parts.specs.Keeping.{taken}
use Rattle.a429_commands.specs.Trace.{first_lines}
use Rattle.a429_commands.specs.declared.fault.RunFault.TheVariants as run
use Rattle.a429_parts.proofs.KeepingFacts.{came_first, came_more, came_whole}
use Rattle.a429_commands.proofs.TraceLines.{all_given, begins_with, may_name, refused_after, says_cut, says_impossible, says_more, says_only, traced_more}
use Rattle.a429_commands.proofs.engines.trace.put_steps.Goals as goal

pub entries-init : goal.entries-init
entries-init g c =
    ([], record { is = c.requires; allowed = tt }, came_first _, omega arith, says_nothing g.W.Write.contents c.args.sheet.now)

pub entries-preserved : goal.entries-preserved
entries-preserved g c =
    let so_far = c.entries.invariant in
    let e = c.in-Ok-Some.entry in
    let sum = length-append so_far.0 (e ∷ []) in
    let counts = rw c.in-Ok-Some.field-0-is at c.in-Ok-Some.ensures.counts in
    let gives = rw c.in-Ok-Some.field-0-is at c.in-Ok-Some.ensures.gives in (
      so_far.0 ++ e ∷ [],
      traced_more c.args.profile.now c.entries.trace c.put_entry.new.self so_far.0 e c.in-Ok.ensures.goes_on
          (omega (arith, so_far.3, counts.0, counts.1)) so_far.1,
      came_more _ _ _ so_far.0 e gives so_far.2,
      omega (arith, sum, so_far.3, counts.0),
      says_more g.W.Write.contents c.args.sheet.now c.entries.sheet c.put_entry.new.sheet c.args.profile.now c.entries.trace so_far.0 e
          so_far.1 so_far.4 c.in-Ok.ensures.line,
    )

pub returns-then-failed-clause-text : goal.returns-then-failed-clause-text
returns-then-failed-clause-text g c =
    let so_far = c.entries.invariant in
    says_cut g.W.Write.contents c.args.sheet.now c.entries.sheet c.args.profile.now _ _ c.entries.trace so_far.0 run.Device so_far.1
    so_far.2 tt (omega (arith, so_far.3)) so_far.4

pub returns-in-Err-clause-text : goal.returns-in-Err-clause-text
returns-in-Err-clause-text g c =
    let so_far = c.entries.invariant in
    let same = c.in-Err.ensures.same in
    says_cut g.W.Write.contents c.args.sheet.now c.entries.sheet c.args.profile.now _ _ c.entries.trace so_far.0 c.in-Err.fault so_far.1
    so_far.2 c.in-Err.ensures.none_before (all_given c.in-Err.fault _ _ (omega (arith, so_far.3, same))) so_far.4

pub returns-in-Err-OutOfMemory-clause-text : goal.returns-in-Err-OutOfMemory-clause-text
returns-in-Err-OutOfMemory-clause-text g c =
    let so_far = c.entries.invariant in
    let nothing = rw c.in-Err-OutOfMemory.field-0-is at c.in-Err-OutOfMemory.ensures.stop_line in
    let counts = rw c.in-Ok-Some.field-0-is at c.in-Ok-Some.ensures.counts in
    let says =
    subst (Says g.W.Write.contents c.args.sheet.now c.put_entry.new.sheet) (append-nil (first_lines c.args.profile.now so_far.0))
    (so_far.4 ▹ nothing) in
    says_cut g.W.Write.contents c.args.sheet.now c.put_entry.new.sheet c.args.profile.now _ _ c.entries.trace so_far.0 run.Memory so_far.1
    so_far.2 tt (inr (omega (arith, so_far.3, counts.0))) says

pub reason_of-requires : goal.reason_of-requires
reason_of-requires g c =
    let so_far = c.entries.invariant in
    let stopped = rw c.in-Err-Refused.field-0-is at c.in-Err-Refused.ensures.stop in
    rw (c.form.ensures, c.in-Err-Refused.sight-is)
    (may_name c.args.profile.now c.put_entry.ensures.sound c.entries.trace so_far.0 c.in-Ok-Some.entry c.in-Err-Refused.sight so_far.1
    stopped)

pub returns-in-Err-Refused-clause-text : goal.returns-in-Err-Refused-clause-text
returns-in-Err-Refused-clause-text g c =
    let so_far = c.entries.invariant in
    let p = c.args.profile.now in
    let e = c.in-Ok-Some.entry in
    let gives = rw c.in-Ok-Some.field-0-is at c.in-Ok-Some.ensures.gives in
    let stopped = rw c.in-Err-Refused.field-0-is at c.in-Err-Refused.ensures.stop in
    let line = rw c.in-Err-Refused.field-0-is at c.in-Err-Refused.ensures.stop_line in
    let fits = rw (c.form.ensures, c.in-Err-Refused.sight-is) at c.reason_of.ensures in
    let refused =
    refused_after p c.put_entry.ensures.sound c.entries.trace so_far.0 e c.in-Err-Refused.sight c.reason_of.result so_far.1 stopped fits in
    says_impossible g.W.Write.contents c.args.sheet.now c.entries.sheet c.put_entry.new.sheet c.put_impossible.new.sheet p
    (taken c.args.rec.now c.next_entry.new.rec) c.entries.trace so_far.0 e c.entries-number.result c.reason_of.result
    c.entries-number.ensures
    (begins_with _ _ (so_far.0 ++ e ∷ []) (came_more _ _ _ so_far.0 e gives so_far.2)) so_far.1 refused so_far.4 line
    c.put_impossible.ensures

pub returns-in-Ok-None-clause-text : goal.returns-in-Ok-None-clause-text
returns-in-Ok-None-clause-text g c =
    let so_far = c.entries.invariant in
    let gives = rw c.in-Ok-None.field-0-is at c.in-Ok-None.ensures.gives in
    let last = rw c.files.ensures at c.put_only.ensures in
    says_only g.W.Write.contents c.args.sheet.now c.entries.sheet c.put_only.new.sheet c.args.profile.now
    (taken c.args.rec.now c.next_entry.new.rec) c.entries.trace so_far.0 so_far.1 (came_whole _ _ _ so_far.0 gives so_far.2) so_far.4 last
