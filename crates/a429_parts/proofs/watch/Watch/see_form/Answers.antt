use Rattle.std.proofs.Common.{Option, sym, subst}
use Rattle.a429_ldu.specs.declared.forms.Form.{Form}
use Rattle.a429_parts.specs.Watch.{Settles}
use Rattle.a429_parts.proofs.watch.Watch.see_form.Goals as goal

pub returns-clause-sees : goal.returns-clause-sees
returns-clause-sees c = record {
  settled = c.settle-place.new.self;
  settles =
      subst (λ (f : Option Form). Settles c.args.profile.now.codes f c.args.self.now c.settle-place.new.self c.settle-place.result)
      (sym c.requires.form) c.settle-place.ensures.settles;
  follows = c.follow.ensures.follows;
}
