use Rattle.std.proofs.Common.{◌≡◌, [], Some, refl, sym, ap, ◌∙◌, subst}
use Rattle.a429_word.specs.declared.bus.Bus.TheVariants as bus
use Rattle.a429_ldu.specs.declared.forms.Form.TheVariants as form
use Rattle.a429_link.specs.Implied.{Implied}
use Rattle.a429_link.specs.Observer.{HasGrant}
use Rattle.a429_link.specs.Sink.{Sink}
use Rattle.a429_sink.specs.Lone.{IsCounted, keeps_form}
use Rattle.a429_sink.proofs.LoneFacts.{end_is_counted, end_is_kept}
use Rattle.a429_sink.proofs.lone.LoneSink.take_end.Goals as goal

pub invariant_of-self : goal.invariant_of-self
invariant_of-self c =
    let grant = subst (λ (k : Sink). HasGrant k.phase) (sym c.self.view_is) (c.has_grant.ensures.0 c.if-has_grant.true) in
    subst (λ (q : Implied). (c.self.inside.count ≡ q.sink.count) × (q.sink.received.files ≡ []) × IsCounted q) (sym c.take_allowed.ensures)
    (c.self.invariant.0, refl, end_is_counted c.args.profile.now c.self.inside.implied c.args.flags c.args.check grant)

pub returns-then-has_grant : goal.returns-then-has_grant
returns-then-has_grant c =
    let grant = subst (λ (k : Sink). HasGrant k.phase) (sym c.self.view_is) (c.has_grant.ensures.0 c.if-has_grant.true) in
    subst (λ (k : Sink). c.take_allowed.new.sink.sink ≡ keeps_form c.args.profile.now bus.A 0 (Some (form.Eot c.args.flags c.args.check)) k)
    c.self.view_is
    (ap (λ (q : Implied). q.sink) c.take_allowed.ensures
    ∙ end_is_kept c.args.profile.now c.self.inside.implied c.args.flags c.args.check grant)
