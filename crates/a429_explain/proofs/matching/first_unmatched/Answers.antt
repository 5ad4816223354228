use Rattle.std.proofs.Common.{rules, ◌≡◌, ◌<◌, ◌-◌, length, get_or, Some, None, refl, sym, ap, ◌∙◌, arith}
use Rattle.a429_profile.specs.Profile.{Contents}
use Rattle.a429_ldu.specs.Form.{form_of}
use Rattle.a429_ldu.specs.Ldu.{count_of}
use Rattle.a429_explain.specs.declared.attempts.Role.TheVariants as role
use Rattle.a429_explain.specs.Matching.{is_word, passed_with, passing_by}
use Rattle.a429_explain.proofs.AttemptsFacts.{IsRole, of_block, role_here, roles_long}
use Rattle.a429_explain.proofs.WalkFacts.{block_doubt}
use Rattle.a429_explain.proofs.MatchingFacts.{passed_by, passed_none, no_some}
use Rattle.a429_explain.proofs.matching.first_unmatched.Goals as goal
use Rattle.a429_explain.proofs.matching.first_unmatched.Goals.{After-passing}

pub bounds-roles-at : goal.bounds-roles-at
bounds-roles-at c =
    let long = roles_long c.args.decoded.now.profile.codes c.args.decoded.now.items c.args.roles.now c.requires.roles in
    omega (arith, long, c.loop-at-test.true, c.requires.inside)

pub offset_bounds-roles-at : goal.offset_bounds-roles-at
offset_bounds-roles-at c =
    let long = roles_long c.args.decoded.now.profile.codes c.args.decoded.now.items c.args.roles.now c.requires.roles in
    let inside : c.loop-at.at < length c.args.roles.now = omega (arith, long, c.loop-at-test.true, c.requires.inside) in
    search rules

-- the role of the word
has_role : (a : After-passing)
    → IsRole (get_or a.args.roles.now a.loop-at.at role.Free)
    (form_of a.args.decoded.now.profile.codes a.seen-word.result.bus a.seen-word.result.word)
has_role a =
    role_here a.args.decoded.now.profile.codes a.args.decoded.now.items a.args.roles.now a.loop-at.at role.Free a.seen-word.result
    a.requires.roles a.seen-word.ensures

-- how many words are passed with this one
passes : (a : After-passing)
    → a.passing.result ≡ passing_by (get_or a.args.roles.now a.loop-at.at role.Free)
    (passed_with (is_word a.args.decoded.now.profile.codes a.args.unit.now a.args.place a.seen-word.result.word) a.loop-at.passed
    (count_of a.args.unit.now - a.loop-at.passed)) a.loop-at.passed
passes a = a.passing.ensures.passed
    ∙ ap (λ (p : Contents). passing_by (get_or a.args.roles.now a.loop-at.at role.Free)
    (passed_with (is_word p.codes a.args.unit.now a.args.place a.seen-word.result.word) a.loop-at.passed
    (count_of a.args.unit.now - a.loop-at.passed)) a.loop-at.passed)
    a.profile-profile.ensures.is

pub returns-in-None-clause-fits : goal.returns-in-None-clause-fits
returns-in-None-clause-fits c =
    let a = (goal.at.returns-in-None-clause-fits c).After-passing in
    let codes = c.args.decoded.now.profile.codes in
    let seen = c.seen-word.result in
    let form = form_of codes seen.bus seen.word in
    block_doubt codes c.args.decoded.now.items c.loop-at.at (record { word = seen.word; form = form })
    (record { item = seen; is = c.seen-word.ensures; form_is = refl; word_is = refl })
    (of_block (get_or c.args.roles.now c.loop-at.at role.Free) form (has_role a) (c.in-None.ensures.fits refl))

pub returns-in-None-clause-unmatched : goal.returns-in-None-clause-unmatched
returns-in-None-clause-unmatched c =
    let a = (goal.at.returns-in-None-clause-unmatched c).After-passing in
    no_some _
    (passed_by c.args.decoded.now.profile.codes c.args.unit.now c.args.place c.args.decoded.now.items c.args.group.from c.loop-at.at
    c.seen-word.result (get_or c.args.roles.now c.loop-at.at role.Free) c.loop-at.passed None c.loop-at.auto.at c.seen-word.ensures
    (has_role a) c.loop-at.invariant.passed (sym c.in-None.is ∙ passes a))

pub loop-at-preserved : goal.loop-at-preserved
loop-at-preserved c =
    let a = (goal.at.loop-at-preserved c).After-passing in
    record {
      few = c.in-Some.ensures.inside;
      passed =
          passed_by c.args.decoded.now.profile.codes c.args.unit.now c.args.place c.args.decoded.now.items c.args.group.from c.loop-at.at
          c.seen-word.result (get_or c.args.roles.now c.loop-at.at role.Free) c.loop-at.passed
          (Some c.in-Some.more) c.loop-at.auto.at c.seen-word.ensures (has_role a) c.loop-at.invariant.passed (sym c.in-Some.is ∙ passes a);
    }

pub loop-at-init : goal.loop-at-init
loop-at-init c = record {
  few = omega arith;
  passed = passed_none c.args.decoded.now.profile.codes c.args.unit.now c.args.place c.args.decoded.now.items c.args.group.from;
}
