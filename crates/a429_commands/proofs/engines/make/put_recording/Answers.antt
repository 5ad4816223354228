use Rattle.std.proofs.Common.{◌∙◌, Err, ap, map, refl, rules}
use Rattle.std.proofs.lemmas.Bool.{false_from_ne_true}
use Rattle.std.proofs.lemmas.Result.{err_from_is_err_and}
use Rattle.a429_word.proofs.SheetFacts.{says_same_out, writes}
use Rattle.a429_commands.specs.Ends.{cut_off, refused}
use Rattle.a429_commands.specs.Make.{of_recording, recording_made}
use Rattle.a429_commands.proofs.EndsFacts.{by_text}
use Rattle.a429_commands.proofs.MakeEnds.{prefix_by}
use Rattle.a429_commands.proofs.OutputFacts.{prefix_of_whole}
use Rattle.a429_commands.proofs.engines.make.put_recording.Goals as goal

pub returns-in_err-page : goal.returns-in_err-page
returns-in_err-page g c =
    let p = err_from_is_err_and c.from_residual.result c.from_residual.ensures.1 in
    refused _ (p.1 ∙ ap Err p.2) refl refl

pub returns-in_err-finish : goal.returns-in_err-finish
returns-in_err-finish g c =
    let p = err_from_is_err_and c.from_residual-in_err-finish.result c.from_residual-in_err-finish.ensures.1 in
    let status = c.put_files-status in
    let whole = recording_made c.args.profile.now (map (λ f. f.items) c.args.files.now) in
    let text = status.ensures in
    let prefix = prefix_by whole status.result text.0 text.1 in
    let written =
    writes (c.new-sheet.ensures.page ∙ c.in_ok-page.ensures) c.new-sheet.ensures.out text.2 c.in_err-finish.ensures.nothing_more
    c.in_err-finish.ensures.written in
    let put = prefix_of_whole _ _ text.0 prefix.0 whole prefix.1 written.prefix in
    let same = says_same_out text.2 in
    let stays = says_same_out c.in_err-finish.ensures.nothing_more in
    let device = c.in_err-finish.ensures.device.0 refl in
    cut_off whole (p.1 ∙ ap Err p.2) refl (search rules) (search rules)

pub returns : goal.returns
returns g c =
    let status = c.put_files-status in
    let whole = recording_made c.args.profile.now (map (λ f. f.items) c.args.files.now) in
    let text = status.ensures in
    let done = false_from_ne_true _ (λ failed. absurd (cc (c.in_ok-finish.ensures.device.1 failed))) in
    let written =
    writes (c.new-sheet.ensures.page ∙ c.in_ok-page.ensures) c.new-sheet.ensures.out text.2 c.in_ok-finish.ensures.nothing_more
    c.in_ok-finish.ensures.written in
    let all = written.all done in
    let same = says_same_out text.2 in
    let stays = says_same_out c.in_ok-finish.ensures.nothing_more in
    by_text (of_recording whole) status.result text.0 text.1 (search rules) (search rules)
