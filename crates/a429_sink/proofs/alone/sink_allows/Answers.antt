use Rattle.std.proofs.Common.{◌↔◌, IsTrue, sym, ◌∙◌, subst}
use Rattle.a429_sink.specs.Alone.{SinkAllowsOn}
use Rattle.a429_sink.proofs.AloneFacts.{allows_answer}
use Rattle.a429_sink.proofs.alone.sink_allows.Goals as goal

pub returns-in-Form : goal.returns-in-Form
returns-in-Form c =
    let k = c.args.sink.now.sink in
    let by = allows_answer c.args.profile.now k c.args.seen.word _ (sym c.in-Form.is ∙ c.form.ensures.computed) in
    subst (λ b. IsTrue c.allows.result ↔ SinkAllowsOn c.args.profile.now k b c.args.seen.word) (sym c.in-B.is)
    (λ e. by.1 (c.allows.ensures.0 e), λ a. c.allows.ensures.1 (by.0 a))
