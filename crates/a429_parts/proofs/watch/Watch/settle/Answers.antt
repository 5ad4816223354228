use Rattle.std.proofs.Common.{Some, rules}
use Rattle.a429_parts.proofs.CuttingFacts.{none_anew, none_unit}
use Rattle.a429_parts.proofs.WatchFacts.{settles_none, settles_nothing, settles_open, settles_place}
use Rattle.a429_parts.proofs.watch.Watch.settle.Goals as goal

pub returns-in_default-clause-settles : goal.returns-in_default-clause-settles
returns-in_default-clause-settles c = settles_nothing c.args.profile.now.codes (Some c.args.form.now) c.args.self.now (search rules)

pub returns-in-Open-clause-settles : goal.returns-in-Open-clause-settles
returns-in-Open-clause-settles c =
    settles_open c.args.profile.now.codes (Some c.args.form.now) c.args.self.now c.in-Some.doubt (search rules)
    (c.outcome.ensures.open c.in-Open.is)

pub returns-in-IsPlace-clause-settles : goal.returns-in-IsPlace-clause-settles
returns-in-IsPlace-clause-settles c =
    settles_place c.args.profile.now.codes (Some c.args.form.now) c.args.self.now _ c.in-Some.doubt c.place.result (search rules)
    (c.outcome.ensures.place c.in-IsPlace.is) (search rules) (search rules) (search rules) c.place.ensures

pub returns-then-is_anew-clause-settles : goal.returns-then-is_anew-clause-settles
returns-then-is_anew-clause-settles c =
    let lost = none_anew c.in-Some.doubt c.args.self.now.observer (c.is_anew.ensures.0 c.if-is_anew.true) in
    settles_none c.args.profile.now.codes (Some c.args.form.now) c.args.self.now _ c.in-Some.doubt (search rules)
    (c.outcome.ensures.none c.in-IsNone.is) (search rules) (search rules) (search rules)

pub returns-else-is_anew-clause-settles : goal.returns-else-is_anew-clause-settles
returns-else-is_anew-clause-settles c =
    let same = none_unit c.in-Some.doubt c.args.self.now.observer (λ anew. cc (c.is_anew.ensures.1 anew, c.if-is_anew.false)) in
    settles_none c.args.profile.now.codes (Some c.args.form.now) c.args.self.now _ c.in-Some.doubt (search rules)
    (c.outcome.ensures.none c.in-IsNone.is) (search rules) (search rules) (search rules)
