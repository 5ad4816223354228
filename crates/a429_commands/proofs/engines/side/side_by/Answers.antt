use Rattle.std.proofs.Common.{◌∙◌, refl, rules}
use Rattle.std.proofs.lemmas.Bool.{false_from_ne_true}
use Rattle.std.proofs.lemmas.Result.{err_from_is_err_and}
use Rattle.a429_word.proofs.SheetFacts.{says_same_out, says_works, writes}
use Rattle.a429_parts.specs.Keeping.{taken}
use Rattle.a429_commands.specs.Ends.{cut_off, stopped}
use Rattle.a429_commands.proofs.SideFacts.{before_fault, next_fault, some_rows}
use Rattle.a429_commands.proofs.engines.side.side_by.Goals as goal

pub returns-in_err-finish-clause-err : goal.returns-in_err-finish-clause-err
returns-in_err-finish-clause-err g c =
    let p = err_from_is_err_and c.from_residual.result c.from_residual.ensures.1 in
    let t = taken c.args.rec.now c.put_side-counts.new.rec in
    let first =
    some_rows g.C.Write.contents c.args.side c.args.profile.now t _ _ c.put_side-counts.result c.put_side-counts.ensures.all
    c.put_side-counts.ensures.until in
    let written =
    writes (c.new-sheet.ensures.page ∙ c.requires) c.new-sheet.ensures.out first.2 c.in_err-finish.ensures.nothing_more
    c.in_err-finish.ensures.written in
    let prefix = written.prefix in
    let same = says_same_out first.2 in
    let stays = says_same_out c.in_err-finish.ensures.nothing_more in
    let device = c.in_err-finish.ensures.device.0 refl in
    rw (p.1, p.2) (cut_off first.0 refl first.1 (search rules) (search rules))

pub returns-in-Ok-clause-ok : goal.returns-in-Ok-clause-ok
returns-in-Ok-clause-ok g c =
    let all = c.in-Ok.ensures.all in
    let done = false_from_ne_true _ (λ broken. absurd (cc (c.in_ok-finish.ensures.device.1 broken))) in
    let works = says_works c.in_ok-finish.ensures.nothing_more done in
    let written =
    writes (c.new-sheet.ensures.page ∙ c.requires) c.new-sheet.ensures.out all.says c.in_ok-finish.ensures.nothing_more
    c.in_ok-finish.ensures.written in
    let put = written.all done in
    let same = says_same_out all.says in
    let stays = says_same_out c.in_ok-finish.ensures.nothing_more in
    record {
      entries = all.entries;
      came = all.came works;
      all = all.all works;
      counted = all.counted;
      works = search rules;
      puts = search rules;
    }

pub returns-in-Ok-clause-works : goal.returns-in-Ok-clause-works
returns-in-Ok-clause-works g c =
    let done = false_from_ne_true _ (λ broken. absurd (cc (c.in_ok-finish.ensures.device.1 broken))) in
    c.in-Ok.ensures.works (says_works c.in_ok-finish.ensures.nothing_more done)

pub returns-clause-err : goal.returns-clause-err
returns-clause-err g c =
    let until = c.in-Err.ensures.until in
    let t = taken c.args.rec.now c.put_side-counts.new.rec in
    let done = false_from_ne_true _ (λ broken. absurd (cc (c.in_ok-finish.ensures.device.1 broken))) in
    let written =
    writes (c.new-sheet.ensures.page ∙ c.requires) c.new-sheet.ensures.out until.says c.in_ok-finish.ensures.nothing_more
    c.in_ok-finish.ensures.written in
    let put = written.all done in
    let same = says_same_out until.says in
    let stays = says_same_out c.in_ok-finish.ensures.nothing_more in
    let rows =
    before_fault c.args.side c.args.profile.now t c.in-Err.fault _
    (record { entries = until.entries; came = until.came; stops = until.stops; text_is = refl }) in
    let next =
    next_fault t.recording until.entries c.put_side-counts.new.rec.failed c.in-Err.fault
    (λ is. c.in-Err.ensures.device (cc is)) until.stops in
    rw c.fault_of.ensures (stopped _ _ refl (rows, next) (search rules) (search rules))
