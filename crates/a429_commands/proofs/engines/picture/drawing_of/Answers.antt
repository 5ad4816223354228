use Rattle.a429_word.specs.Tally.{has_failed}
use Rattle.std.proofs.Common.{◌≡◌, ◌||◌, true}
use Rattle.std.proofs.lemmas.Result.{err_from_is_err_and}
use Rattle.a429_commands.specs.Verdict.{input}
use Rattle.a429_commands.proofs.PictureFacts.{as_verify, not_pictured, pictured}
use Rattle.a429_commands.proofs.engines.picture.drawing_of.Goals as goal

pub returns-in_err-judged-clause-err : goal.returns-in_err-judged-clause-err
returns-in_err-judged-clause-err g c =
    let i = input c.args.profile.now g.C.Read.remaining c.args.cert.now c.args.rec.now in
    let p = err_from_is_err_and c.from_residual.result c.from_residual.ensures.1 in
    rw (p.1, p.2) (as_verify i c.args.span _ _ c.in_err-judged.ensures.err)

pub returns-then-is_too_long-clause-err : goal.returns-then-is_too_long-clause-err
returns-then-is_too_long-clause-err g c =
    let i = input c.args.profile.now g.C.Read.remaining c.args.cert.now c.args.rec.now in
    let said = c.in_ok-judged.ensures in
    not_pictured i c.args.span c.new-sketch.result c.judge.new.listener c.new-sketch.ensures
    ((c.judge.new.rec.failed || has_failed c.judge.new.cert) ≡ true) c.in_ok-judged.judged said.judged said.heard
    (c.is_too_long.ensures.yes c.if-is_too_long.true)

pub returns-clause-ok : goal.returns-clause-ok
returns-clause-ok g c =
    let i = input c.args.profile.now g.C.Read.remaining c.args.cert.now c.args.rec.now in
    let said = c.in_ok-judged.ensures in
    pictured i c.args.span c.new-sketch.result c.judge.new.listener c.new-sketch.ensures c.in_ok-judged.judged said.judged said.heard
    (c.is_too_long.ensures.no c.if-is_too_long.false)
