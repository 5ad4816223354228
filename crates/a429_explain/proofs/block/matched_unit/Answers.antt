use Rattle.std.proofs.Common.{◌≡◌, Option, ◌+◌, IsSome, slice_range, Some, None, refl, sym, inr, subst, rules}
use Rattle.a429_ldu.specs.Ldu.{LduValue}
use Rattle.a429_explain.specs.declared.groups.Request.{Request}
use Rattle.a429_explain.specs.declared.stop.Stop.{Stop}
use Rattle.a429_explain.specs.declared.stop.Stop.TheVariants.{Unexplained, OutOfMemory}
use Rattle.a429_explain.specs.declared.verdict.Doubt.TheVariants.{NeverWhole, NotOneBlock, NotReplayed, OutOfSteps}
use Rattle.a429_explain.specs.Decoded.{HeardValue}
use Rattle.a429_explain.specs.Block.{other_for, unit_for, IsWhyNoUnit, HasCrossed}
use Rattle.a429_explain.specs.Matching.{passed_after}
use Rattle.a429_explain.proofs.CrossedUnit.{GivesUnit, crossed_gives}
use Rattle.a429_explain.proofs.block.matched_unit.Goals as goal
use Rattle.a429_explain.proofs.block.matched_unit.Goals.{After-unit_of}

-- what the group gives, where a link data unit has crossed
gives : (c : After-unit_of) (u : LduValue) → HasCrossed c.args.decoded.now c.args.request c.args.place u
    → GivesUnit c.args.decoded.now.profile c.args.decoded.now.items c.args.request.group.from c.args.request.group.to c.args.request.count
    c.args.place u
gives c u h =
    crossed_gives c.args.decoded.now.profile c.profile-profile.ensures.sound c.args.decoded.now.items c.args.request.group.from
    c.args.request.group.to c.args.request.count c.args.place u c.requires.request.some c.requires.request.inside c.requires.request.wants h

-- a group has one unit
found : (unit u : LduValue) (o : Option LduValue) → o ≡ Some unit → o ≡ Some u → unit ≡ u
found unit u o e h = cc

-- a group that gives a link data unit lacks it for want of memory alone
lacks_memory : (h : HeardValue) (r : Request) (s : Stop) (u : LduValue)
    → IsWhyNoUnit h r s → other_for h r ≡ None → unit_for h r ≡ Some u → s ≡ OutOfMemory
lacks_memory h r (Unexplained i NotOneBlock) u why none is = absurd (cc (why, none))
lacks_memory h r (Unexplained i NeverWhole) u why none is = absurd (let never = why.2 in cc (never, is))
lacks_memory h r (Unexplained i NotReplayed) u why none is = absurd why
lacks_memory h r (Unexplained i OutOfSteps) u why none is = absurd why
lacks_memory h r OutOfMemory u why none is = refl

pub returns-in-Some-clause-first : goal.returns-in-Some-clause-first
returns-in-Some-clause-first c = inr (record {
  unit = c.in-Ok.unit;
  gives = c.in-Ok.ensures.ok;
  inside = c.in-Some.ensures.within;
  before = c.in-Some.ensures.before;
  unmatched = c.in-Some.ensures.unmatched;
})

pub returns-in-Err-clause-crossed_err : goal.returns-in-Err-clause-crossed_err
returns-in-Err-clause-crossed_err c = λ u h. let g = gives (goal.at.returns-in-Err-clause-crossed_err c).After-unit_of u h in
    lacks_memory c.args.decoded.now c.args.request c.in-Err.stop u c.in-Err.ensures.err.0 g.others g.is

pub returns-in-Some-clause-crossed_err : goal.returns-in-Some-clause-crossed_err
returns-in-Some-clause-crossed_err c = λ u h.
    let g = gives (goal.at.returns-in-Some-clause-crossed_err c).After-unit_of u h in
    let same = found c.in-Ok.unit u _ c.in-Ok.ensures.ok.is g.is in
    absurd (c.in-Some.ensures.unmatched (subst (λ (v : LduValue). IsSome (passed_after c.args.decoded.now.profile.codes v c.args.place
    (slice_range c.args.decoded.now.items c.args.request.group.from (c.in-Some.entry + 1)) (Some 0)))
    (sym same) (g.matched c.in-Some.entry c.in-Some.ensures.within)))

pub returns-in-None-clause-crossed : goal.returns-in-None-clause-crossed
returns-in-None-clause-crossed c =
    λ u h. let g = gives (goal.at.returns-in-None-clause-crossed c).After-unit_of u h in found c.in-Ok.unit u _ c.in-Ok.ensures.ok.is g.is

pub returns-in-None-clause-unit : goal.returns-in-None-clause-unit
returns-in-None-clause-unit c = search rules
