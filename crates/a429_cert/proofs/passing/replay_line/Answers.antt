use Rattle.std.proofs.Common.{refl, option_map}
use Rattle.std.proofs.lemmas.Result.{IfErr-weaker}
use Rattle.a429_cert.specs.Passing.{RefusesListed, RefusesText}
use Rattle.a429_cert.proofs.PassingText.{fault-listed}
use Rattle.a429_cert.proofs.passing.replay_line.Goals as goal

pub returns-in-Ok-clause-refused : goal.returns-in-Ok-clause-refused
returns-in-Ok-clause-refused c =
    let p = c.args.profile.now in
    let s = c.args.link.now.state in
    IfErr-weaker c.make_step.result (RefusesListed p c.in-Ok.listed c.args.at s)
    (RefusesText p (option_map (λ b. b.now) c.args.text) c.args.at s)
    (λ f h. fault-listed p (option_map (λ b. b.now) c.args.text) c.in-Ok.listed c.args.at s f c.in-Ok.ensures.listed h)
    (rw c.requires.profile at c.make_step.ensures.refused)

pub returns-in-Err-clause-refused : goal.returns-in-Err-clause-refused
returns-in-Err-clause-refused c = c.in-Err.ensures.refused c.args.at refl
