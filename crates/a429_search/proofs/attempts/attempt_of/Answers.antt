use Rattle.std.proofs.Common.{◌≡◌, ◌∙◌, None, refl, subst, sym, take, arith}
use Rattle.a429_link.specs.Attempt.{attempts, latest}
use Rattle.a429_search.specs.Recorded.{IsRecorded}
use Rattle.a429_search.proofs.RecordedFacts.{asked_first, attempt_from, closed, closed_on, recorded_on}
use Rattle.a429_search.proofs.attempts.attempt_of.Goals as goal

pub loop-at-init : goal.loop-at-init
loop-at-init c =
    let first =
    asked_first c.args.decoded.now.profile c.args.decoded.now.items c.args.from c.in-Some.count c.new-attempt.result
    (omega (arith, c.requires.some, c.requires.inside)) (sym c.in-Some.is ∙ c.requested.ensures)
    (c.new-attempt.ensures.is c.args.decoded.now.profile.codes) in
    record { done = first.0; is = first.1; at = c.new-attempt.ensures.at }

pub loop-at-preserved : goal.loop-at-preserved
loop-at-preserved c =
    let p = c.args.decoded.now.profile in
    let items = c.args.decoded.now.items in
    let n = c.loop-at.at in
    let none = sym (c.requires.between n (omega (arith, c.loop-at.auto)) c.loop-at-test.true) in
    record {
      done = closed_on p items n None (omega (arith, c.loop-at-test.true, c.requires.inside)) none refl ∙ c.loop-at.invariant.done;
      is =
          recorded_on p items n None c.seen-seen.result c.word.result c.loop-at.attempt c.take.new.self none refl c.seen-seen.ensures
          c.word.ensures.is c.in_ok-take.ensures.taken c.loop-at.invariant.is;
      at = c.in_ok-take.ensures.at ∙ c.loop-at.invariant.at;
    }

pub returns-clause-is : goal.returns-clause-is
returns-clause-is c =
    let p = c.args.decoded.now.profile in
    let items = c.args.decoded.now.items in
    let end : c.loop-at.at ≡ c.args.to = omega (arith, c.loop-at-test.false, c.loop-at.auto, c.requires.some) in
    attempt_from p items c.args.from c.args.to c.loop-at.attempt
    (subst (λ k. closed p (take k items) ≡ attempts p (take c.args.from items)) end c.loop-at.invariant.done)
    (subst (λ k. IsRecorded p.codes (latest p (take k items)) c.loop-at.attempt) end c.loop-at.invariant.is)
