use Rattle.std.proofs.Common.{◌∙◌, Err, ap, refl, rules}
use Rattle.std.proofs.lemmas.Bool.{false_from_ne_true}
use Rattle.std.proofs.lemmas.Result.{err_from_is_err_and}
use Rattle.a429_word.proofs.SheetFacts.{says_same_out, says_works, writes}
use Rattle.a429_record.specs.declared.fault.ReadFault.{ReadFault}
use Rattle.a429_parts.specs.Keeping.{taken}
use Rattle.a429_parts.specs.Parts.{list_text}
use Rattle.a429_commands.specs.Cut.{placed}
use Rattle.a429_commands.specs.Ends.{cut_off, stopped}
use Rattle.a429_commands.proofs.CutFacts.{but_sheet, cuts_into, ends_by, leaves_all, leaves_some, leaves_until}
use Rattle.a429_commands.proofs.engines.cut.write_parts.Goals as goal

pub returns-in_err-finish-in-Ok-clause-left : goal.returns-in_err-finish-in-Ok-clause-left
returns-in_err-finish-in-Ok-clause-left g c =
    let p = err_from_is_err_and c.from_residual.result c.from_residual.ensures.1 in
    let all = c.in-Ok.ensures.all in
    let o = placed g.P.Parts.known g.P.Failing.failed c.args.parts.now c.put_parts.new.parts in
    let written =
    writes (c.new-sheet.ensures.page ∙ c.requires) c.new-sheet.ensures.out all.puts.says c.finish.ensures.nothing_more
    c.finish.ensures.written in
    let prefix = written.prefix in
    let same = says_same_out all.puts.says in
    let stays = says_same_out c.finish.ensures.nothing_more in
    let device = c.in_err-finish-in-Ok.ensures.device.0 refl in
    rw (p.1, p.2)
    (cut_off (list_text all.parts) refl
    (leaves_all g.W.Write.contents c.args.cut.now.profile.now c.args.cut.now.most (taken c.args.rec.now c.put_parts.new.rec) _ o _ all)
    (search rules) (search rules))

pub returns-in-Ok-clause-all : goal.returns-in-Ok-clause-all
returns-in-Ok-clause-all g c =
    let all = c.in-Ok.ensures.all in
    let o = placed g.P.Parts.known g.P.Failing.failed c.args.parts.now c.put_parts.new.parts in
    let written =
    writes (c.new-sheet.ensures.page ∙ c.requires) c.new-sheet.ensures.out all.puts.says c.finish.ensures.nothing_more
    c.finish.ensures.written in
    let done = false_from_ne_true _ (λ failed. absurd (cc (c.in_ok-finish-in-Ok.ensures.device.1 failed))) in
    let put = written.all done in
    let same = says_same_out all.puts.says in
    let stays = says_same_out c.finish.ensures.nothing_more in (
      cuts_into g.W.Write.contents c.args.cut.now.profile.now c.args.cut.now.most (taken c.args.rec.now c.put_parts.new.rec) _ o _ all,
      search rules,
    )

pub returns-in_err-finish-in-Err-clause-left : goal.returns-in_err-finish-in-Err-clause-left
returns-in_err-finish-in-Err-clause-left g c =
    let p = err_from_is_err_and c.from_residual-in_err-finish-in-Err.result c.from_residual-in_err-finish-in-Err.ensures.1 in
    let until = c.in-Err.ensures.until in
    let o = placed g.P.Parts.known g.P.Failing.failed c.args.parts.now c.put_parts.new.parts in
    let written =
    writes (c.new-sheet.ensures.page ∙ c.requires) c.new-sheet.ensures.out until.puts.says c.finish-in-Err.ensures.nothing_more
    c.finish-in-Err.ensures.written in
    let prefix = written.prefix in
    let same = says_same_out until.puts.says in
    let stays = says_same_out c.finish-in-Err.ensures.nothing_more in
    let device = c.in_err-finish-in-Err.ensures.device.0 refl in
    rw (p.1, p.2)
    (cut_off (list_text until.parts) refl (leaves_some g.W.Write.contents c.args.cut.now.profile.now c.args.cut.now.most
    (taken c.args.rec.now c.put_parts.new.rec) _ o c.in-Err.fault until) (search rules) (search rules))

pub returns-clause-left : goal.returns-clause-left
returns-clause-left g c =
    let until = c.in-Err.ensures.until in
    let o = placed g.P.Parts.known g.P.Failing.failed c.args.parts.now c.put_parts.new.parts in
    let k = taken c.args.rec.now c.put_parts.new.rec in
    let written =
    writes (c.new-sheet.ensures.page ∙ c.requires) c.new-sheet.ensures.out until.puts.says c.finish-in-Err.ensures.nothing_more
    c.finish-in-Err.ensures.written in
    let same = says_same_out until.puts.says in
    let stays = says_same_out c.finish-in-Err.ensures.nothing_more in
    let done = false_from_ne_true _ (λ failed. absurd (cc (c.in_ok-finish-in-Err.ensures.device.1 failed))) in
    let put = written.all done in
    let works = says_works c.finish-in-Err.ensures.nothing_more done in
    let why =
    ends_by g.W.Write.contents c.args.cut.now.profile.now c.args.cut.now.most k c.put_parts.new.rec.failed o c.in-Err.fault until
    (λ is. but_sheet _ _ _ (c.in-Err.ensures.device (ap (λ (f : ReadFault). Err f) is)) works) in
    rw c.fault_of_cut.ensures (stopped _ (list_text until.parts) refl (
      leaves_until g.W.Write.contents c.args.cut.now.profile.now c.args.cut.now.most k _ o c.in-Err.fault until,
      why,
    ) (search rules) (search rules))

pub returns-in_err-finish-in-Ok-clause-stays : goal.returns-in_err-finish-in-Ok-clause-stays
returns-in_err-finish-in-Ok-clause-stays g c =
    let all = c.in-Ok.ensures.all in
    let written =
    writes (c.new-sheet.ensures.page ∙ c.requires) c.new-sheet.ensures.out all.puts.says c.finish.ensures.nothing_more
    c.finish.ensures.written in
    let kept = written.stays in
    let same = says_same_out all.puts.says in
    let stays = says_same_out c.finish.ensures.nothing_more in
    search rules

pub returns-in-Ok-clause-stays : goal.returns-in-Ok-clause-stays
returns-in-Ok-clause-stays g c =
    let all = c.in-Ok.ensures.all in
    let written =
    writes (c.new-sheet.ensures.page ∙ c.requires) c.new-sheet.ensures.out all.puts.says c.finish.ensures.nothing_more
    c.finish.ensures.written in
    let kept = written.stays in
    let same = says_same_out all.puts.says in
    let stays = says_same_out c.finish.ensures.nothing_more in
    search rules

pub returns-in_err-finish-in-Err-clause-stays : goal.returns-in_err-finish-in-Err-clause-stays
returns-in_err-finish-in-Err-clause-stays g c =
    let until = c.in-Err.ensures.until in
    let written =
    writes (c.new-sheet.ensures.page ∙ c.requires) c.new-sheet.ensures.out until.puts.says c.finish-in-Err.ensures.nothing_more
    c.finish-in-Err.ensures.written in
    let kept = written.stays in
    let same = says_same_out until.puts.says in
    let stays = says_same_out c.finish-in-Err.ensures.nothing_more in
    search rules

pub returns-clause-stays : goal.returns-clause-stays
returns-clause-stays g c =
    let until = c.in-Err.ensures.until in
    let written =
    writes (c.new-sheet.ensures.page ∙ c.requires) c.new-sheet.ensures.out until.puts.says c.finish-in-Err.ensures.nothing_more
    c.finish-in-Err.ensures.written in
    let kept = written.stays in
    let same = says_same_out until.puts.says in
    let stays = says_same_out c.finish-in-Err.ensures.nothing_more in
    search rules
