use Rattle.std.proofs.Common.{Option, Some, refl, ap, sym, subst}
use Rattle.a429_ldu.specs.declared.forms.Form.{Form}
use Rattle.a429_parts.specs.declared.doubt.Doubt.TheVariants.{Anew}
use Rattle.a429_parts.specs.Cutting.{IsRequest}
use Rattle.a429_parts.specs.Watch.{Watched}
use Rattle.a429_parts.proofs.WatchFacts.{follows_begun}
use Rattle.a429_parts.proofs.watch.Watch.begin.Goals as goal

pub returns-clause-follows : goal.returns-clause-follows
returns-clause-follows c =
    let i = c.args.seen.now in
    let new : Watched = record { count = c.self.inside.count; observer = Some c.see.new.self; doubt = Some (Anew c.self.inside.count) } in
    follows_begun c.args.profile.now i c.args.self.now new c.see.new.self c.see.result c.requires.lost
    (subst (λ (f : Option Form). IsRequest i.bus f) (sym c.requires.form) c.requires.request)
    (rw c.new.ensures at c.see.ensures.allowed.1) (rw c.new.ensures at c.see.ensures.taken)
    (ap (λ (v : Watched). v.count) c.self.view_is) refl (ap (λ (v : Watched). Some (Anew v.count)) c.self.view_is)
