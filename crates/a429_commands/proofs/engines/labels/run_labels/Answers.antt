use Rattle.a429_commands.specs.Labels.{of_labels}
use Rattle.a429_commands.proofs.EndsFacts.{ends}
use Rattle.a429_commands.proofs.engines.labels.run_labels.Goals as goal

pub returns : goal.returns
returns g c =
    ends (of_labels c.args.profile.now) c.profile_of.result c.profile_of.ensures.ok
    (λ p is. record {
      says = λ status text h. (h.0, record { contents = p; is_profile = is; lines = h.1 });
      begins = λ text h. record { contents = p; is_profile = is; lines = h };
      no_room = λ e. absurd e;
    }) c.profile_of.ensures.err c.write_at_once.ensures
