use Rattle.std.proofs.Common.{◌↔◌, IsTrue, Option, subst}
use Rattle.a429_link.specs.declared.why.Why.{Why}
use Rattle.a429_link.specs.Why.{MakesNoUnit}
use Rattle.a429_link.proofs.SinkBadBlock.{ends_where}
use Rattle.a429_link.proofs.sink.Sink.ends_bad.Goals as goal

pub returns : goal.returns
returns c = λ flags.
    let k = c.args.self.now.sink in
    let here = ends_where c.args.profile.now k.last k.count k.phase flags c.args.check in
    let is = subst (λ (o : Option Why). IsTrue c.makes_no_unit.result ↔ MakesNoUnit o) c.why_bad.ensures c.makes_no_unit.ensures in
    (λ h. here.0 (is.0 h), λ h. is.1 (here.1 h))
