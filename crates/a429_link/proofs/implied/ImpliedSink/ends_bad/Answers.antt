use Rattle.std.proofs.Common.{◌↔◌, Some, IsTrue, subst, sym}
use Rattle.a429_word.specs.declared.bus.Bus.{Bus}
use Rattle.a429_word.specs.declared.bus.Bus.TheVariants as bus
use Rattle.a429_ldu.specs.declared.forms.Form.{Form}
use Rattle.a429_link.specs.Implied.{Implied}
use Rattle.a429_link.specs.WholeBlock.{EndsBadForm}
use Rattle.a429_link.proofs.implied.ImpliedSink.ends_bad.Goals as goal

pub returns-in-A-Eot : goal.returns-in-A-Eot
returns-in-A-Eot c =
    let p = c.args.profile.now in
    let k = c.self.inside.sink.sink in
    subst (λ (o : Implied). IsTrue c.ends_bad.result
    ↔ EndsBadForm p c.args.bus (Some c.args.form.now) o.sink.phase o.sink.count) c.self.view_is
    (subst (λ (b : Bus). IsTrue c.ends_bad.result ↔ EndsBadForm p b (Some c.args.form.now) k.phase k.count) (sym c.in-A-Eot.is-0)
    (subst (λ (x : Form). IsTrue c.ends_bad.result ↔ EndsBadForm p bus.A (Some x) k.phase k.count) (sym c.in-A-Eot.is-1)
    (c.ends_bad.ensures c.in-A-Eot.flags-1)))
