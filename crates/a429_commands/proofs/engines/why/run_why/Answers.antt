use Rattle.std.proofs.Common.{refl}
use Rattle.a429_commands.specs.Ends.{heard}
use Rattle.a429_commands.specs.Why.{of_why}
use Rattle.a429_commands.proofs.EndsFacts.{and_on, ends}
use Rattle.a429_commands.proofs.engines.why.run_why.Goals as goal

pub returns : goal.returns
returns g c =
    let rec = heard g.R.Read.remaining c.args.rec.now c.answer_on.new.rec in
    let promise = of_why c.args.profile.now rec in
    ends promise c.answer_on.result (and_on _ _ c.answer_on.result c.answer_on.ensures.ok c.answer_on.ensures.device)
    (λ a is. record {
      says = λ status text here. record { answer = a; is = is.0; works = is.1; status_is = here.0; text_is = here.1 };
      begins = λ text here. (_, record { answer = a; is = is.0; works = is.1; status_is = refl; text_is = here });
      no_room = λ _. is.0.0.is_profile.0;
    })
    c.answer_on.ensures.err c.write.ensures
