use Rattle.std.proofs.Common.{sym, ap, ◌∙◌}
use Rattle.a429_link.specs.Sink.{OwesAck, Sink, SinkSide, block_with, in_phase, phase_of, takes_end}
use Rattle.a429_link.specs.declared.sink.Phase.{Phase}
use Rattle.a429_link.proofs.SinkBadBlock.{ends_bad, ends_good}
use Rattle.a429_link.proofs.sink.Sink.end_block.Goals as goal

pub returns-in-None-clause-taken : goal.returns-in-None-clause-taken
returns-in-None-clause-taken c =
    let words = c.self.inside.lane.taken in
    let block = block_with c.in-InBlock.start words in
    let at = ap (λ (s : SinkSide). s.sink.phase) (sym c.self.view_is) ∙ ap (λ (x : Phase). phase_of x words) c.in-InBlock.is in
    ap (λ (s : SinkSide). record { sink = in_phase (OwesAck block c.args.flags) s.sink; to_sink = s.to_sink }) c.self.view_is
    ∙ ap (λ (k : Sink). record { sink = k; to_sink = c.pass.new.self.to_sink })
    (sym (ends_good c.args.profile.now c.pass.new.self.sink block c.args.flags c.args.check at (sym c.in-None.is ∙ c.why_bad-why.ensures)))
    ∙ ap (λ (s : SinkSide). record { sink = takes_end c.args.profile.now c.args.flags c.args.check s.sink; to_sink = s.to_sink })
    c.pass.ensures

pub returns-in-Some-clause-taken : goal.returns-in-Some-clause-taken
returns-in-Some-clause-taken c =
    let words = c.self.inside.lane.taken in
    let block = block_with c.in-InBlock.start words in
    let at = ap (λ (s : SinkSide). s.sink.phase) (sym c.self.view_is) ∙ ap (λ (x : Phase). phase_of x words) c.in-InBlock.is in
    c.enter-in-Some.ensures
    ∙ ap (λ (k : Sink). record { sink = k; to_sink = c.pass.new.self.to_sink })
    (sym (ends_bad c.args.profile.now c.pass.new.self.sink block c.args.flags c.args.check
    c.in-Some.field-0 at (sym c.in-Some.is ∙ c.why_bad-why.ensures)))
    ∙ ap (λ (s : SinkSide). record { sink = takes_end c.args.profile.now c.args.flags c.args.check s.sink; to_sink = s.to_sink })
    c.pass.ensures
