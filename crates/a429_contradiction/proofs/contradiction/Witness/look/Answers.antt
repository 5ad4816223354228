use Rattle.std.proofs.Common.{Option, sym, subst}
use Rattle.a429_ldu.specs.declared.forms.Form.{Form}
use Rattle.a429_contradiction.specs.Contradiction.{Contradicts, HasNoneBefore}
use Rattle.a429_contradiction.proofs.contradiction.Witness.look.Goals as goal

pub returns-in-Some-reason-clause-ranked : goal.returns-in-Some-reason-clause-ranked
returns-in-Some-reason-clause-ranked c =
    let old = c.args.self.now in
    let seen = c.args.seen.now in
    subst (λ (x : Option Form).
    HasNoneBefore (Contradicts c.args.profile.now old.observer old.so_far seen.bus seen.word x) c.in-Some-reason.reason)
    (sym c.in-Some.is) c.in-Some-reason.ensures.ranked
