use Rattle.std.proofs.Common.{rules, ◌<◌, length, sym, ap, ◌∙◌, arith}
use Rattle.a429_profile.specs.Profile.{Contents}
use Rattle.a429_explain.specs.Whole.{ended_by}
use Rattle.a429_explain.proofs.AttemptsFacts.{roles_long}
use Rattle.a429_explain.proofs.WholeFacts.{whole_here, whole_on, whole_past}
use Rattle.a429_explain.proofs.whole.whole_unit.Goals as goal

pub returns-in-Ok-Some-clause-first : goal.returns-in-Ok-Some-clause-first
returns-in-Ok-Some-clause-first c =
    let made = c.in-Ok-Some.ensures.made
    ∙ ap (λ (p : Contents). ended_by p c.args.request.count c.word-word.result.form c.loop-at.attempt) c.profile-profile.ensures.is in
    sym (c.loop-at.invariant
    ∙ whole_here c.args.decoded.now.profile c.args.request.count c.args.decoded.now.items c.loop-at.at c.args.request.group.to
    c.word-word.result c.loop-at.attempt c.in-Ok-Some.unit c.loop-at-test.true c.word-word.ensures.is (sym c.in-Ok-Some.field-0-is ∙ made))

pub bounds-roles-at : goal.bounds-roles-at
bounds-roles-at c =
    let long = roles_long c.args.decoded.now.profile.codes c.args.decoded.now.items c.args.roles.now c.requires.roles in
    omega (arith, long, c.loop-at-test.true, c.requires.inside)

pub offset_bounds-roles-at : goal.offset_bounds-roles-at
offset_bounds-roles-at c =
    let long = roles_long c.args.decoded.now.profile.codes c.args.decoded.now.items c.args.roles.now c.requires.roles in
    let inside : c.loop-at.at < length c.args.roles.now = omega (arith, long, c.loop-at-test.true, c.requires.inside) in
    search rules

pub loop-at-preserved-then-not-is_of_attempt : goal.loop-at-preserved-then-not-is_of_attempt
loop-at-preserved-then-not-is_of_attempt c =
    let inside : c.loop-at.at < length c.args.decoded.now.items = omega (arith, c.loop-at-test.true, c.requires.inside) in
    c.loop-at.invariant
    ∙ whole_past c.args.decoded.now.profile c.args.request.count c.args.decoded.now.items c.args.roles.now c.loop-at.at
    c.args.request.group.to _ c.loop-at.attempt c.loop-at-test.true inside c.requires.roles
    (sym c.is_of_attempt.ensures ∙ c.if-not-is_of_attempt.true)

pub loop-at-preserved : goal.loop-at-preserved
loop-at-preserved c =
    let made = c.in-Ok-None.ensures.made
    ∙ ap (λ (p : Contents). ended_by p c.args.request.count c.word-word.result.form c.loop-at.attempt) c.profile-profile.ensures.is in
    c.loop-at.invariant
    ∙ whole_on c.args.decoded.now.profile c.args.request.count c.args.decoded.now.items c.loop-at.at c.args.request.group.to
    c.word-word.result c.loop-at.attempt c.take.new.self c.loop-at-test.true c.word-word.ensures.is
    (sym c.in-Ok-None.field-0-is ∙ made) c.in_ok-take.ensures
