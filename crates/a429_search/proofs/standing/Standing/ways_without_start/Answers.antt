use Rattle.std.proofs.Common.{true, subst, Bool}
use Rattle.a429_search.specs.Standing.{IsRegular}
use Rattle.std.proofs.lemmas.Option.{IfSome_then}
use Rattle.a429_search.proofs.StandingFacts.{begun_later}
use Rattle.a429_search.proofs.standing.Standing.ways_without_start.Goals as goal

pub returns-then-has_group-clause-only : goal.returns-then-has_group-clause-only
returns-then-has_group-clause-only c = λ regular.
    let first = c.args.first_ldu in
    let s = c.args.self.now in
    let r : IsRegular first s true = subst (λ (b : Bool). IsRegular first s b) c.if-has_group.true regular in
    let later = begun_later first s c.given_up-then-has_group.result r c.given_up-then-has_group.ensures in
    record {
      join = λ m g range h. (tt, h);
      begin =
          IfSome_then c.given_up-then-has_group.result later
          (λ b both m g range h. (tt, (λ _. both.0 m g range h), (λ off. absurd (cc (off, c.if-has_group.true)))));
      join_regular = r;
      begin_regular = IfSome_then c.given_up-then-has_group.result later (λ b both. both.1);
    }
