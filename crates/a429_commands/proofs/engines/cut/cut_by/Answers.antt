use Rattle.std.proofs.Common.{◌≡◌, ◌∙◌, Err, ap, refl, rules}
use Rattle.std.proofs.lemmas.Result.{err_from_is_err_and}
use Rattle.a429_word.specs.declared.trouble.Trouble.{Trouble}
use Rattle.a429_parts.proofs.PartsFacts.{same_parts}
use Rattle.a429_parts.specs.Keeping.{taken}
use Rattle.a429_commands.specs.Cut.{placed, task}
use Rattle.a429_commands.specs.Ends.{answered, refused, stopped}
use Rattle.a429_commands.proofs.CutFacts.{puts_all, without_list}
use Rattle.a429_commands.proofs.engines.cut.cut_by.Goals as goal

pub returns-in_err-page-clause-ends : goal.returns-in_err-page-clause-ends
returns-in_err-page-clause-ends g c =
    let p = err_from_is_err_and c.from_residual.result c.from_residual.ensures.1 in
    refused _ (p.1 ∙ ap Err p.2) (refl, same_parts (g.P.Parts.known c.args.parts.now)) refl

pub returns-in-Ok-put_list-clause-ends : goal.returns-in-Ok-put_list-clause-ends
returns-in-Ok-put_list-clause-ends g c =
    let o = placed g.P.Parts.known g.P.Failing.failed c.args.parts.now c.write_parts.new.parts in
    let t = task c.args.cut.now.most (taken c.args.rec.now c.write_parts.new.rec) c.write_parts.new.rec.failed in
    let list = c.in-Ok.list.items in
    let same : c.as_slice.result.now ≡ list = search rules in
    let all =
    puts_all t c.args.cut.now.profile.now o (g.P.Parts.known c.put_list.new.self)
    (g.P.Failing.failed c.put_list.new.self) list c.in-Ok.ensures.all.0 (rw same at c.in-Ok-put_list.ensures.ok) in
    answered 0 list refl
    (refl, all, (c.in-Ok.ensures.device.0, c.in-Ok-put_list.ensures.works)) c.in-Ok.ensures.device.1 c.in-Ok.ensures.all.1

pub returns-clause-ends : goal.returns-clause-ends
returns-clause-ends g c =
    let o = placed g.P.Parts.known g.P.Failing.failed c.args.parts.now c.write_parts.new.parts in
    let t = task c.args.cut.now.most (taken c.args.rec.now c.write_parts.new.rec) c.write_parts.new.rec.failed in
    let list = c.in-Ok.list.items in
    let why =
    without_list t c.args.cut.now.profile.now o (g.P.Parts.known c.put_list.new.self)
    (g.P.Failing.failed c.put_list.new.self) list c.in-Ok.ensures.all.0 c.in-Err-put_list.trouble c.in-Err-put_list.ensures.err
    (λ is. c.in-Err-put_list.ensures.device (ap (λ (t : Trouble). Err t) is)) in
    rw c.fault_by.ensures (stopped _ list refl why c.in-Ok.ensures.device.1 c.in-Ok.ensures.all.1)
