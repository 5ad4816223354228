use Rattle.std.proofs.Common.{sym, subst}
use Rattle.a429_link.specs.Observer.{Observer}
use Rattle.a429_parts.specs.Follower.{Remembers}
use Rattle.a429_parts.proofs.FollowerFacts.{end_remembered}
use Rattle.a429_parts.proofs.follower.Follower.see.Goals as goal

pub invariant_of-self-in-Eot : goal.invariant_of-self-in-Eot
invariant_of-self-in-Eot c =
    let i = c.args.seen.now in
    let ok = c.if-not-see_form.false in
    subst (λ (x : Observer). Remembers c.self.inside.last c.in-Eot.flags x) (sym (c.see_form.ensures.taken ok))
    (end_remembered c.args.profile.now c.self.inside.observer i.bus i.word c.args.form.now c.in-Eot.flags c.in-Eot.check c.self.inside.last
    c.in-Eot.is (c.see_form.ensures.allowed.0 ok) c.self.invariant.0)
