use Rattle.std.proofs.Common.{◌+◌, drop, sym, ap, ◌∙◌}
use Rattle.a429_explain.specs.Attempts.{next_start}
use Rattle.a429_explain.specs.Guess.{file_of}
use Rattle.a429_explain.specs.Decoded.{forms_of}
use Rattle.a429_explain.proofs.DecodedFacts.{forms_from}
use Rattle.a429_explain.proofs.AttemptsFacts.{start_here, start_past}
use Rattle.a429_explain.proofs.guess.first_file.Goals as goal

pub returns-in-Some : goal.returns-in-Some
returns-in-Some c =
    let codes = c.args.decoded.now.profile.codes in
    let items = c.args.decoded.now.items in
    let here = forms_from codes items c.loop-at.at c.word.result c.word.ensures.is in
    start_here c.word.result.form (drop (c.loop-at.at + 1) (forms_of codes items)) c.in-Some.file (sym c.in-Some.is ∙ c.started.ensures)
    ∙ ap file_of (ap next_start (sym here) ∙ sym c.loop-at.invariant)

pub loop-at-preserved : goal.loop-at-preserved
loop-at-preserved c =
    let codes = c.args.decoded.now.profile.codes in
    let items = c.args.decoded.now.items in
    let here = forms_from codes items c.loop-at.at c.word.result c.word.ensures.is in
    c.loop-at.invariant ∙ ap next_start here
    ∙ start_past c.word.result.form (drop (c.loop-at.at + 1) (forms_of codes items)) (sym c.in_default.is ∙ c.started.ensures)
