use Rattle.std.proofs.Common.{◌≡◌, ◌||◌, true}
use Rattle.std.proofs.lemmas.Bool.{both_ways}
use Rattle.a429_word.specs.Tally.{has_failed}
use Rattle.a429_commands.specs.Picture.{of_picture}
use Rattle.a429_commands.specs.Verdict.{input}
use Rattle.a429_commands.proofs.EndsFacts.{and_on, ends}
use Rattle.a429_commands.proofs.PictureFacts.{drawing_is}
use Rattle.a429_commands.proofs.engines.picture.run_picture.Goals as goal

pub returns : goal.returns
returns g c =
    let new = c.drawing_of.new in
    let i = input c.args.profile.now g.C.Read.remaining c.args.cert.now c.args.rec.now in
    let promise = of_picture i c.args.span ((new.rec.failed || has_failed new.cert) ≡ true) in
    ends promise c.drawing_of.result (and_on _ _ c.drawing_of.result c.drawing_of.ensures.ok c.drawing_of.ensures.works)
    (λ d is. drawing_is i c.args.span _ _ _ is.0 (both_ways _ is.1)) c.drawing_of.ensures.err c.write.ensures
