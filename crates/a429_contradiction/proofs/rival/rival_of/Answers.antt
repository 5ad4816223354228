use Rattle.std.proofs.Common.{◌≡◌, List, length, take, subst, arith}
use Rattle.std.proofs.Math.Seq.{take-length}
use Rattle.a429_word.proofs.Outcomes.{each_some}
use Rattle.a429_link.specs.declared.seen.Seen.{Seen}
use Rattle.a429_profile.specs.Profile.{Contents}
use Rattle.a429_contradiction.specs.Rival.{IsRival}
use Rattle.a429_contradiction.proofs.RivalFacts.{Keeps, keeps_first, keeps_next, rival_at}
use Rattle.a429_contradiction.proofs.rival.rival_of.Goals as goal

pub loop-entry-init : goal.loop-entry-init
loop-entry-init c = keeps_first c.args.decoded.now.profile c.args.decoded.now.items c.new-attempts.result c.new-attempts.ensures

pub loop-entry-preserved : goal.loop-entry-preserved
loop-entry-preserved c =
    keeps_next c.args.decoded.now.profile c.args.decoded.now.items c.loop-entry.entry c.seen-seen.result c.word-form.result
    c.loop-entry.attempts c.take.new.self
    c.seen-seen.ensures c.word-form.ensures.is c.in_ok-take.ensures c.loop-entry.invariant

pub returns : goal.returns
returns c =
    let p = c.args.decoded.now.profile in
    let items = c.args.decoded.now.items in
    let end : c.loop-entry.entry ≡ length items =
    omega (arith, c.loop-entry-test.false, c.loop-entry.auto.entry-end, c.len-entry-end.ensures) in
    let first = subst (λ m. Keeps p (take m items) c.loop-entry.attempts) end c.loop-entry.invariant in
    let all = subst (λ (l : List Seen). Keeps p l c.loop-entry.attempts) (take-length items) first in
    each_some c.rival.result (λ r h.
    rival_at p items c.loop-entry.attempts r all (subst (λ (q : Contents). IsRival q.codes c.loop-entry.attempts r) c.profile.ensures.is h))
    c.rival.ensures
