use Rattle.std.proofs.Common.{◌≡◌, ◌||◌, true, false, inr}
use Rattle.std.proofs.lemmas.Result.{IfOk-weaker}
use Rattle.std.proofs.lemmas.Bool.{both_ways}
use Rattle.a429_word.specs.Tally.{has_failed}
use Rattle.a429_cert.specs.BreakOff.{readers, shelved}
use Rattle.a429_commands.specs.Extract.{Leaves, progress}
use Rattle.a429_commands.specs.Verdict.{SaysAnswer, input, of_verdict, text_of_answer}
use Rattle.a429_commands.proofs.EndsFacts.{and_on, at_fault, ends}
use Rattle.a429_commands.proofs.VerdictFacts.{judged_bears, verdict}
use Rattle.a429_commands.proofs.engines.extract.run_extract.Goals as goal

pub returns-clause-ends : goal.returns-clause-ends
returns-clause-ends g c =
    let new = c.judge.new in
    let i = input c.args.profile.now g.C.Read.remaining c.args.cert.now c.args.rec.now in
    let shelf = shelved g.S.Shelf.files g.S.Failing.failed c.args.shelf.now new.shelf in
    let promise = of_verdict i shelf ((g.S.Failing.failed new.shelf || (new.rec.failed || has_failed new.cert)) ≡ true) in
    ends promise c.judge.result (and_on _ _ c.judge.result c.judge.ensures.judged c.judge.ensures.works)
    (λ j is. judged_bears i shelf _ j is.0 (both_ways _ is.1))
    c.judge.ensures.err c.write_at_once.ensures

pub returns-clause-files : goal.returns-clause-files
returns-clause-files g c =
    let new = c.judge.new in
    let i = input c.args.profile.now g.C.Read.remaining c.args.cert.now c.args.rec.now in
    let shelf = shelved g.S.Shelf.files g.S.Failing.failed c.args.shelf.now new.shelf in
    let Failed = (g.S.Failing.failed new.shelf || (new.rec.failed || has_failed new.cert)) ≡ true in
    let at = progress (readers g.C.Read.remaining c.args.cert.now new.cert c.args.rec.now new.rec) shelf false in
    at_fault (Leaves c.args.profile.now at Failed) (λ j. SaysAnswer j.answer)
    (λ j text. text ≡ text_of_answer j.answer) c.judge.result c.write_at_once.result c.judge.ensures.files
    (IfOk-weaker c.judge.result _ _ (λ j is. inr (_, (_, verdict i shelf j is))) c.judge.ensures.judged) c.write_at_once.ensures
