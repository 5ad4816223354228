use Rattle.std.proofs.Common.{sym, subst, ap, ◌∙◌}
use Rattle.a429_link.specs.Sink.{SinkSide}
use Rattle.a429_link.proofs.ObserverBlock.{IsWatched, after_taking, others_watched}
use Rattle.a429_link.proofs.implied.ImpliedSink.take_word.Goals as goal

pub invariant_of-self-in_default : goal.invariant_of-self-in_default
invariant_of-self-in_default c =
    let taken = c.take-why.ensures.taken ∙ ap (after_taking c.args.profile.now c.args.form.now) c.push.ensures in
    subst (λ (k : SinkSide). IsWatched k c.self.inside.parts) (sym taken)
    (others_watched c.args.profile.now c.args.word c.args.form.now c.self.inside.sink c.self.inside.parts c.in_default.not-Part
    c.self.invariant)
