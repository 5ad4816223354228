use Rattle.std.proofs.Common.{◌≡◌, subst}
use Rattle.a429_word.specs.declared.bus.Bus.TheVariants as bus
use Rattle.a429_profile.specs.Profile.{Contents}
use Rattle.a429_ldu.specs.declared.forms.Form.TheVariants.{Eot}
use Rattle.a429_link.specs.Implied.{does}
use Rattle.a429_contradiction.specs.Against.{known_by}
use Rattle.a429_contradiction.proofs.AgainstFacts.{bad_by}
use Rattle.a429_contradiction.proofs.against.Watch.bad_end.Goals as goal

pub returns : goal.returns
returns c =
    let p = c.args.before.now.profile in
    let s = c.args.self.now in
    let d = c.in_ok-doing.doing in
    rw c.by_doing.ensures
    (bad_by p (known_by s.sink s.witness.observer s.witness.so_far) c.args.before.now.items c.args.word c.args.flags c.args.check d
    (subst (λ (q : Contents). d ≡ does q bus.A c.args.word (Eot c.args.flags c.args.check) s.sink.sink) c.profile.ensures.is
    c.in_ok-doing.ensures.does))
