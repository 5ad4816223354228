use Rattle.std.proofs.Common.{◌∙◌, Err, ap, map, refl, sym, subst}
use Rattle.std.proofs.lemmas.Result.{err_from_is_err_and}
use Rattle.a429_commands.specs.Ends.{refused}
use Rattle.a429_commands.specs.Fault.{ComesBy}
use Rattle.a429_commands.specs.Make.{MakesRecording, make_causes, of_make, of_recording, recording_made}
use Rattle.a429_commands.proofs.EndsFacts.{ends_as}
use Rattle.a429_commands.proofs.MakeEnds.{unmade, unprofiled}
use Rattle.a429_commands.proofs.engines.make.run_make.Goals as goal

pub returns-in_err-profile : goal.returns-in_err-profile
returns-in_err-profile g c =
    let p = err_from_is_err_and c.from_residual.result c.from_residual.ensures.1 in
    refused _ (p.1 ∙ ap Err p.2) (unprofiled c.args.profile.now (map (λ f. f.items) c.args.files.now) _ c.in_err-profile.ensures.err) refl

pub returns-in_err-check_files : goal.returns-in_err-check_files
returns-in_err-check_files g c =
    let p = err_from_is_err_and c.from_residual-in_err-check_files.result c.from_residual-in_err-check_files.ensures.1 in
    refused _ (p.1 ∙ ap Err p.2) (unmade c.args.profile.now (map (λ f. f.items) c.args.files.now) _ (
      c.in_ok-profile.profile,
      c.in_ok-profile.ensures.ok,
    ) c.in_err-check_files.ensures.err) refl

pub returns : goal.returns
returns g c =
    let p = c.in_ok-profile.profile in
    let files = map (λ f. f.items) c.args.files.now in
    let whole = recording_made p files in
    let made : MakesRecording c.args.profile.now files whole = record {
      contents = p;
      is_profile = c.in_ok-profile.ensures.ok;
      cut = c.in_ok-check_files.ensures.cut;
      room = c.in_ok-check_files.ensures.room p;
      is = refl;
    } in
    let fault = ComesBy (make_causes c.args.profile.now files) in
    ends_as (of_recording whole) (of_make c.args.profile.now files) (λ status text h. (h.0, rw h.1 made))
    (λ e text h. (h.0, (h.1.0, rw h.1.1 made))) (λ text h. rw h made) (λ e h. subst fault (sym h) made.is_profile.0) c.put_recording.ensures
