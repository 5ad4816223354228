use Rattle.a429_commands.specs.Survey.{of_survey}
use Rattle.a429_commands.proofs.EndsFacts.{and_on, ends}
use Rattle.a429_commands.proofs.engines.survey.run_survey.Goals as goal

pub returns : goal.returns
returns g c =
    let promise = of_survey c.args.profile.now c.args.rec.now.to_come c.counted.new.rec.failed in
    ends promise c.counted.result (and_on _ _ c.counted.result c.counted.ensures.ok c.counted.ensures.works)
    (λ s is. record {
      says = λ status text here. (here.0, rw here.1 is.0, is.1);
      begins = λ text here. (rw here is.0, is.1);
      no_room = λ _. is.0.says.is_profile.0;
    })
    c.counted.ensures.err c.write.ensures
