use Rattle.std.proofs.Common.{Bool, ◌||◌, ap, sym, ◌∙◌}
use Rattle.a429_link.specs.declared.state.States.{States}
use Rattle.a429_cert.specs.declared.line.CertLine.TheVariants.{Moved}
use Rattle.a429_explain.proofs.ScribeFacts.{make_written, closes_on}
use Rattle.a429_explain.proofs.scribe.Scribe.make.Goals as goal

pub returns-clause-written : goal.returns-clause-written
returns-clause-written c =
    let line = ap {A = States} (λ states. Moved (record { act = c.in-Some.act; states = states })) c.states-states.ensures.states in
    make_written c.write.result c.args.self.now c.write.new.self c.apply.new.self c.args.step c.in-Some.act
    (Moved (record { act = c.in-Some.act; states = c.states-states.result }))
    (sym c.letter_of.ensures ∙ c.in-Some.is) c.in_ok-apply.ensures.allowed c.in_ok-apply.ensures.done c.write.ensures.link
    (c.write.ensures.gave_up ∙ ap (λ (t : Bool). c.args.self.now.gave_up || t) c.is_give_up-gives_up.ensures) line
    c.states-states.ensures.bounds c.write.ensures.ok c.write.ensures.held

pub returns-clause-closed : goal.returns-clause-closed
returns-clause-closed c =
    closes_on c.write.result c.args.self.now.link c.write.new.self.link c.args.step (c.write.ensures.link ∙ c.in_ok-apply.ensures.done)
