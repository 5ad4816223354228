use Rattle.a429_search.proofs.SearchingFacts.{carried_on, covered_kept, named, then_too, ways_cover}
use Rattle.a429_search.specs.Frontier.{AreCovered, IsAmong}
use Rattle.a429_search.specs.Recorded.{number_of}
use Rattle.a429_search.proofs.SoundFacts.{add_both, ways_only}
use Rattle.a429_search.proofs.searching.Carrier.carry_on.Goals as goal

pub returns-then-ways-clause-covers : goal.returns-then-ways-clause-covers
returns-then-ways-clause-covers c = λ whole t sound may covers.
    let p = c.args.profile.now in
    let a = c.args.attempt.now in
    let h = c.args.hypothesis.now in
    let all =
    ways_cover p a h.standing c.codes.result.now c.number.result c.is_some-has_group.result c.ways-ways.result c.codes.ensures.codes
    c.number.ensures c.ways-ways.ensures.covers in
    carried_on p h c.ways-ways.result (number_of a.start) c.is_some-has_group.result t
    (AreCovered p c.join.new.next.items t) all c.is_some-has_group.ensures sound (named p a t may) covers
    (λ fits. c.in_ok-joins.ensures.covers whole t may.unit fits)
    (λ b. c.in_ok-joins.ensures.later c.if-joins.true t (all.last c.if-ways.true t.number t.give_ups b))

pub returns-clause-covers : goal.returns-clause-covers
returns-clause-covers c = λ whole t sound may covers.
    let p = c.args.profile.now in
    let a = c.args.attempt.now in
    let h = c.args.hypothesis.now in
    let all =
    ways_cover p a h.standing c.codes.result.now c.number.result c.is_some-has_group.result c.ways-ways.result c.codes.ensures.codes
    c.number.ensures c.ways-ways.ensures.covers in
    carried_on p h c.ways-ways.result (number_of a.start) c.is_some-has_group.result t
    (AreCovered p c.begin.new.next.items t) all c.is_some-has_group.ensures sound (named p a t may) covers
    (λ fits. then_too c.ways-ways.result.join (λ j. IsAmong p.codes.first_ldu j t) (AreCovered p c.join.new.next.items t)
    (AreCovered p c.begin.new.next.items t) (covered_kept p c.join.new.next.items c.begin.new.next.items t c.in_ok-begin.ensures.kept)
    (c.in_ok-joins.ensures.covers (c.in_ok-begin.ensures.cut whole) t may.unit fits))
    (λ b. c.in_ok-begin.ensures.covers whole t may.unit b)

pub returns-clause-kept : goal.returns-clause-kept
returns-clause-kept c = λ k h at. c.in_ok-begin.ensures.kept k h (c.in_ok-joins.ensures.kept k h at)

pub returns-clause-at : goal.returns-clause-at
returns-clause-at c = λ old.
    let p = c.args.profile.now in
    let a = c.args.attempt.now in
    let all =
    ways_cover p a c.args.hypothesis.now.standing c.codes.result.now c.number.result c.is_some-has_group.result c.ways-ways.result
    c.codes.ensures.codes c.number.ensures c.ways-ways.ensures.covers in
    c.in_ok-begin.ensures.at (number_of a.start) all.begin_at (c.in_ok-joins.ensures.at (number_of a.start) all.join_at old)

pub returns-then-ways-clause-only : goal.returns-then-ways-clause-only
returns-then-ways-clause-only c = λ real.
    let only =
    ways_only c.args.profile.now c.args.attempt.now c.args.hypothesis.now c.codes.result.now c.number.result c.is_some-has_group.result
    c.ways-ways.result c.codes.ensures.codes
    c.number.ensures c.is_some-has_group.ensures real c.ways-ways.ensures.only in
    c.in_ok-joins.ensures.only only real

pub returns-clause-only : goal.returns-clause-only
returns-clause-only c = λ real.
    let only =
    ways_only c.args.profile.now c.args.attempt.now c.args.hypothesis.now c.codes.result.now c.number.result c.is_some-has_group.result
    c.ways-ways.result c.codes.ensures.codes
    c.number.ensures c.is_some-has_group.ensures real c.ways-ways.ensures.only in
    add_both c.args.profile.now c.args.hypothesis.now c.args.attempt.now c.args.next.now.items c.join.new.next.items c.begin.new.next.items
    (c.in_ok-joins.ensures.only only real) (c.in_ok-begin.ensures.only only real)
