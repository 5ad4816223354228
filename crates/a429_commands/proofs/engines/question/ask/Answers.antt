use Rattle.a429_commands.specs.Ends.{heard, of_entries}
use Rattle.a429_commands.proofs.EndsFacts.{ends}
use Rattle.a429_commands.proofs.engines.question.ask.Goals as goal

pub returns : goal.returns
returns g c =
    let promise =
    of_entries c.args.profile.now (heard g.R.Read.remaining c.args.rec.now c.read_input.new.rec) g.Q.Question.says g.Q.Question.begins in
    ends promise c.read_input.result c.read_input.ensures.ok
    (λ a is. record {
      says = λ status text here. (a.profile, a.entries.items, is, here);
      begins = λ text here. (a.profile, a.entries.items, is, here);
      no_room = λ _. is.is_profile.0;
    })
    c.read_input.ensures.err c.write.ensures
