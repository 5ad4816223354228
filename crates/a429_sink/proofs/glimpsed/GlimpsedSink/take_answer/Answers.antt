use Rattle.std.proofs.Common.{◌≡◌, ℕ, Some, OnOk, IfOk, Option, sym, subst}
use Rattle.a429_word.specs.declared.bus.Bus.TheVariants as bus
use Rattle.a429_ldu.specs.declared.forms.Form.{Form}
use Rattle.a429_sink.specs.declared.glimpsed.Accepted.{Accepted}
use Rattle.a429_sink.specs.Anywhere.{glimpses_form}
use Rattle.a429_sink.specs.Glimpsed.{FollowsForm, glimpse_of}
use Rattle.a429_sink.proofs.glimpsed.GlimpsedSink.take_answer.Goals as goal

pub returns-in-Ack-clause-taken : goal.returns-in-Ack-clause-taken
returns-in-Ack-clause-taken c =
    subst (λ (x : Form). OnOk c.acknowledge.result ((w : ℕ)
    → glimpse_of c.acknowledge.new.self ≡ glimpses_form c.args.profile.now bus.B w (Some x) (glimpse_of c.args.self.now)))
    (sym c.in-Ack.is) c.acknowledge.ensures.taken

pub returns-in-Ack-clause-follows : goal.returns-in-Ack-clause-follows
returns-in-Ack-clause-follows c =
    subst (λ (x : Form). IfOk c.acknowledge.result (λ (said : Option Accepted). (w : ℕ)
    → FollowsForm c.args.profile.now bus.B w (Some x) c.args.self.now c.acknowledge.new.self said))
    (sym c.in-Ack.is) c.acknowledge.ensures.follows
