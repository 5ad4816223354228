use Rattle.std.proofs.Common.{inr, refl}
use Rattle.a429_parts.specs.Keeping.{taken}
use Rattle.a429_commands.specs.History.{of_history, put_in}
use Rattle.a429_commands.proofs.EndsFacts.{and_on, ends}
use Rattle.a429_commands.proofs.engines.history.run_history.Goals as goal

pub returns : goal.returns
returns g c =
    let o = put_in g.P.Pieces.known g.P.Failing.failed c.args.pieces.now c.told.new.pieces in
    let promise = of_history c.args.profile.now (taken c.args.rec.now c.told.new.rec) c.told.new.rec.failed o in
    ends promise c.told.result (and_on _ _ c.told.result c.told.ensures.ok c.told.ensures.works)
    (λ h is. record {
      says =
          λ status text here.
          (record { contents = h.profile; told = h.told.items; is = is.0; status_is = here.0; text_is = here.1 }, is.1.0, is.1.1);
      begins = λ text here. (_, record { contents = h.profile; told = h.told.items; is = is.0; status_is = refl; text_is = here });
      no_room = λ _. inr ((h.profile, is.0.is_profile), tt);
    })
    c.told.ensures.err c.write.ensures
