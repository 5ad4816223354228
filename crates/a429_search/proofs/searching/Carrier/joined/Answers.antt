use Rattle.std.proofs.Common.{Err, IfOk, IfSome, None, Ok, Option, Result, Some, subst, sym}
use Rattle.a429_ldu.specs.Ldu.{LduValue}
use Rattle.a429_search.specs.declared.groups.Group.{Group}
use Rattle.a429_merge.specs.Block.{MayBeUnitOf}
use Rattle.a429_search.specs.Frontier.{FitsGroup}
use Rattle.a429_search.specs.Recorded.{MayBeOf}
use Rattle.a429_search.proofs.searching.Carrier.joined.Goals as goal

pub returns-in-Some-clause-covers : goal.returns-in-Some-clause-covers
returns-in-Some-clause-covers c =
    let p = c.args.profile.now in
    subst (λ (o : Option Group). IfOk c.with.result
    (λ found. IfSome found (λ g. (u : LduValue) → FitsGroup p o u → MayBeOf p c.args.attempt.now u → MayBeUnitOf p g.pieces u)))
    (sym c.in-Some.is) c.with.ensures.covers

pub returns-in-None-clause-covers : goal.returns-in-None-clause-covers
returns-in-None-clause-covers c = by c.begin.result c.begin.ensures.covers
  where
    may : Group → LduValue → Type 0
    may g u = MayBeOf c.args.profile.now c.args.attempt.now u → MayBeUnitOf c.args.profile.now g.pieces u

    by : {E : Type 0} (r : Result (Option Group) E) → IfOk r (λ found. IfSome found (λ g. (u : LduValue) → may g u))
        → IfOk r (λ found. IfSome found (λ g. (u : LduValue) → FitsGroup c.args.profile.now c.args.hypothesis.now.group u → may g u))
    by (Ok None) h = tt
    by (Ok (Some g)) h = λ u fits. h u
    by (Err e) h = tt
