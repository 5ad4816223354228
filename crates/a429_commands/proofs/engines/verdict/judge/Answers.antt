use Rattle.std.proofs.Common.{◌||◌, ◌∙◌, inl, inr, refl, sym, arith}
use Rattle.std.proofs.lemmas.Result.{err_from_is_err_and}
use Rattle.std.proofs.lemmas.Bool.{or_parts}
use Rattle.a429_word.specs.Tally.{has_failed}
use Rattle.a429_cert.specs.BreakOff.{readers, shelved}
use Rattle.a429_cert.specs.Report.{listening}
use Rattle.a429_commands.specs.Extract.{progress}
use Rattle.a429_commands.specs.Verdict.{input, no_shelf}
use Rattle.a429_commands.proofs.ExtractFacts.{left_by_no_answer, left_by_profile}
use Rattle.a429_commands.proofs.VerdictFacts.{answered_by, by_no_answer, by_profile, heard_by, heard_until, none_has_failed, none_of_profile, of_a_device, one_failed, reader_failed, unchanged, unheard}
use Rattle.a429_commands.proofs.engines.verdict.judge.Goals as goal

pub returns-in_err-profile-clause-err : goal.returns-in_err-profile-clause-err
returns-in_err-profile-clause-err g c =
    let shelf = c.args.shelf.now in
    let p = err_from_is_err_and c.from_residual.result c.from_residual.ensures.1 in
    rw (p.1, p.2)
    (by_profile (input c.args.profile.now g.C.Read.remaining c.args.cert.now c.args.rec.now)
    (shelved g.S.Shelf.files g.S.Failing.failed shelf shelf) _ _ (unchanged (g.S.Shelf.files shelf)) c.in_err-profile.ensures.err)

pub returns-in_err-profile-clause-files : goal.returns-in_err-profile-clause-files
returns-in_err-profile-clause-files g c =
    let shelf = c.args.shelf.now in
    let p = err_from_is_err_and c.from_residual.result c.from_residual.ensures.1 in
    rw (p.1, p.2)
    (left_by_profile c.args.profile.now (progress (readers g.C.Read.remaining c.args.cert.now c.args.cert.now c.args.rec.now c.args.rec.now)
    (shelved g.S.Shelf.files g.S.Failing.failed shelf shelf) (g.T.Failing.failed c.args.listener.now))
    _ _ c.in_err-profile.ensures.err (refl, omega (arith), unchanged (g.S.Shelf.files shelf)))

pub returns-in_err-profile-clause-until : goal.returns-in_err-profile-clause-until
returns-in_err-profile-clause-until g c =
    let p = err_from_is_err_and c.from_residual.result c.from_residual.ensures.1 in
    rw (p.1, p.2)
    (unheard (listening g.T.Listener.hears c.args.listener.now c.args.listener.now)
    (input c.args.profile.now g.C.Read.remaining c.args.cert.now c.args.rec.now) _ c.in_err-profile.ensures.err)

pub returns-in-Ok-clause-judged : goal.returns-in-Ok-clause-judged
returns-in-Ok-clause-judged g c =
    let stream = c.replay_stream-answer in
    let i = input c.args.profile.now g.C.Read.remaining c.args.cert.now c.args.rec.now in
    let shelf = shelved g.S.Shelf.files g.S.Failing.failed c.args.shelf.now stream.new.shelf in (
      c.in_ok-profile.ensures.ok,
      answered_by i shelf c.in_ok-profile.profile c.any_failed.result stream.result c.in-Ok.answer c.in-Ok.ensures.ok stream.ensures.ok
          stream.ensures.err,
    )

pub returns-in-Ok-clause-heard : goal.returns-in-Ok-clause-heard
returns-in-Ok-clause-heard g c =
    let stream = c.replay_stream-answer in
    let i = input c.args.profile.now g.C.Read.remaining c.args.cert.now c.args.rec.now in
    let shelf = shelved g.S.Shelf.files g.S.Failing.failed c.args.shelf.now stream.new.shelf in
    heard_by i shelf c.in_ok-profile.profile c.any_failed.result (listening g.T.Listener.hears c.args.listener.now stream.new.listener)
    stream.result c.in-Ok.answer c.in-Ok.ensures.ok stream.ensures.heard stream.ensures.reports

pub returns-in-Ok-clause-works : goal.returns-in-Ok-clause-works
returns-in-Ok-clause-works g c =
    let stream = c.replay_stream-answer in
    let i = input c.args.profile.now g.C.Read.remaining c.args.cert.now c.args.rec.now in
    sym c.any_failed.ensures
    ∙ none_has_failed i no_shelf c.in_ok-profile.profile c.any_failed.result stream.result c.in-Ok.answer c.in-Ok.ensures.ok

pub returns-in-Err-clause-err : goal.returns-in-Err-clause-err
returns-in-Err-clause-err g c =
    let stream = c.replay_stream-answer in
    let i = input c.args.profile.now g.C.Read.remaining c.args.cert.now c.args.rec.now in
    let shelf = shelved g.S.Shelf.files g.S.Failing.failed c.args.shelf.now stream.new.shelf in
    by_no_answer i shelf c.in_ok-profile.profile c.any_failed.result _ stream.result c.in-Err.fault c.in_ok-profile.ensures.ok
    c.in-Err.ensures.err stream.ensures.ok stream.ensures.err (λ e. sym c.any_failed.ensures ∙ e)
    (λ e. one_failed stream.new.rec.failed (has_failed stream.new.cert) (g.S.Failing.failed stream.new.shelf)
    (g.T.Failing.failed stream.new.listener) (stream.ensures.device e))
    (λ e. reader_failed stream.new.rec.failed (has_failed stream.new.cert) (g.S.Failing.failed stream.new.shelf)
    (g.T.Failing.failed stream.new.listener) (stream.ensures.read e))

pub returns-in-Err-clause-until : goal.returns-in-Err-clause-until
returns-in-Err-clause-until g c =
    let stream = c.replay_stream-answer in
    let i = input c.args.profile.now g.C.Read.remaining c.args.cert.now c.args.rec.now in
    let shelf = shelved g.S.Shelf.files g.S.Failing.failed c.args.shelf.now stream.new.shelf in
    heard_until i shelf c.in_ok-profile.profile c.any_failed.result (listening g.T.Listener.hears c.args.listener.now stream.new.listener)
    stream.result c.in-Err.fault c.in_ok-profile.ensures.ok c.in-Err.ensures.err stream.ensures.reports

pub returns-in-Err-clause-files : goal.returns-in-Err-clause-files
returns-in-Err-clause-files g c =
    let stream = c.replay_stream-answer in
    let at =
    progress (readers g.C.Read.remaining c.args.cert.now stream.new.cert c.args.rec.now stream.new.rec)
    (shelved g.S.Shelf.files g.S.Failing.failed c.args.shelf.now stream.new.shelf) (g.T.Failing.failed stream.new.listener) in
    left_by_no_answer c.args.profile.now c.in_ok-profile.profile at _ c.in_ok-profile.ensures.ok c.any_failed.result stream.result
    c.in-Err.fault c.in-Err.ensures.err stream.ensures.ok stream.ensures.err stream.ensures.place (λ e. sym c.any_failed.ensures ∙ e)
    (λ e. one_failed stream.new.rec.failed (has_failed stream.new.cert) (g.S.Failing.failed stream.new.shelf)
    (g.T.Failing.failed stream.new.listener) (stream.ensures.device e))
    (λ e. reader_failed stream.new.rec.failed (has_failed stream.new.cert) (g.S.Failing.failed stream.new.shelf)
    (g.T.Failing.failed stream.new.listener) (stream.ensures.read e))

pub returns-in-Ok-clause-tried : goal.returns-in-Ok-clause-tried
returns-in-Ok-clause-tried g c = c.replay_stream-answer.ensures.tried

pub returns-in-Err-clause-untried : goal.returns-in-Err-clause-untried
returns-in-Err-clause-untried g c =
    let stream = c.replay_stream-answer in
    inr
    (record {
      contents = c.in_ok-profile.profile;
      is_profile = c.in_ok-profile.ensures.ok;
      tried = stream.ensures.tried;
      no_profile = λ f e. none_of_profile c.any_failed.result stream.result c.in-Err.fault f c.in-Err.ensures.err (cc e);
      device =
          of_a_device c.any_failed.result (g.T.Failing.failed stream.new.listener) stream.result c.in-Err.fault c.in-Err.ensures.err (λ no.
          (or_parts (g.T.Failing.failed stream.new.listener)
          (g.S.Failing.failed stream.new.shelf || (stream.new.rec.failed || has_failed stream.new.cert))
          (sym c.any_failed.ensures ∙ no)).0);
    })

pub returns-in_err-profile-clause-untried : goal.returns-in_err-profile-clause-untried
returns-in_err-profile-clause-untried g c =
    let p = err_from_is_err_and c.from_residual.result c.from_residual.ensures.1 in
    rw (p.1, p.2) (inl (c.in_err-profile.ensures.err, refl))
