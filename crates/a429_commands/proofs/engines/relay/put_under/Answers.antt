use Rattle.std.proofs.Common.{◌∙◌, ap, Err, refl, rules}
use Rattle.std.proofs.lemmas.Bool.{false_from_ne_true}
use Rattle.std.proofs.lemmas.Result.{err_from_is_err_and}
use Rattle.a429_word.proofs.SheetFacts.{says_same_out, says_works, writes}
use Rattle.a429_parts.specs.Keeping.{taken}
use Rattle.a429_commands.specs.Ends.{cut_off}
use Rattle.a429_commands.proofs.EndsFacts.{written}
use Rattle.a429_commands.proofs.engines.relay.put_under.Goals as goal

pub returns-in_err-finish : goal.returns-in_err-finish
returns-in_err-finish g c =
    let p = err_from_is_err_and c.from_residual.result c.from_residual.ensures.1 in
    let first = c.put-status.ensures.first in
    let written =
    writes (c.new-sheet.ensures.page ∙ c.requires) c.new-sheet.ensures.out first.2 c.in_err-finish.ensures.nothing_more
    c.in_err-finish.ensures.written in
    let prefix = written.prefix in
    let same = says_same_out first.2 in
    let stays = says_same_out c.in_err-finish.ensures.nothing_more in
    let device = c.in_err-finish.ensures.device.0 refl in
    cut_off first.0 (p.1 ∙ ap Err p.2) first.1 (search rules) (search rules)

pub returns : goal.returns
returns g c =
    let status = c.put-status in
    let done = false_from_ne_true _ (λ broken. absurd (cc (c.in_ok-finish.ensures.device.1 broken))) in
    let works = says_works c.in_ok-finish.ensures.nothing_more done in
    let text = status.ensures.all works in
    let put =
    writes (c.new-sheet.ensures.page ∙ c.requires) c.new-sheet.ensures.out text.2 c.in_ok-finish.ensures.nothing_more
    c.in_ok-finish.ensures.written in
    let all = put.all done in
    let same = says_same_out text.2 in
    let stays = says_same_out c.in_ok-finish.ensures.nothing_more in
    let t = taken c.args.rec.now status.new.rec in
    written g.T.Relay.says g.T.Relay.stops g.T.Relay.begins c.args.profile.now t status.new.rec.failed _ status.result text.0 text.1
    (status.ensures.works works) status.ensures.err works (search rules) (search rules)
