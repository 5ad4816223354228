use Rattle.std.proofs.Common.{◌≡◌, ◌++◌, List, length, refl, subst, sym}
use Rattle.a429_search.specs.declared.searching.Hypothesis.{Hypothesis}
use Rattle.a429_search.specs.Frontier.{AreCovered, AreSame}
use Rattle.a429_search.proofs.SearchingFacts.{moved_many, moved_one}
use Rattle.a429_search.proofs.SoundFacts.{moved_same, same_first}
use Rattle.a429_search.proofs.trail.Trail.leave_out.Goals as goal

pub loop-hypothesis-preserved : goal.loop-hypothesis-preserved
loop-hypothesis-preserved c =
    let moved : List Hypothesis = c.loop-hypothesis.moved.items in
    let rest : List Hypothesis = c.next.new.self.rest.items in
    let old = c.loop-hypothesis.invariant in
    record {
      covers = λ p t covered.
          subst (λ (l : List Hypothesis). AreCovered p (l ++ rest) t) (sym c.in_ok-push.ensures.items)
          (moved_one p t moved rest c.in-Some.hypothesis _ refl refl
          (subst (λ (l : List Hypothesis). AreCovered p (moved ++ l) t) c.in-Some.ensures.steps.0 (old.covers p t covered)));
      many =
          subst (λ (l : List Hypothesis). length (l ++ rest) ≡ length c.args.hypotheses.items) (sym c.in_ok-push.ensures.items)
          (moved_many c.args.hypotheses.items moved rest c.in-Some.hypothesis _
          (subst (λ (l : List Hypothesis). length (moved ++ l) ≡ length c.args.hypotheses.items) c.in-Some.ensures.steps.0 old.many));
      same =
          subst (λ (l : List Hypothesis). AreSame c.args.hypotheses.items (l ++ rest)) (sym c.in_ok-push.ensures.items)
          (moved_same c.args.hypotheses.items moved rest c.in-Some.hypothesis _ refl refl
          (subst (λ (l : List Hypothesis). AreSame c.args.hypotheses.items (moved ++ l)) c.in-Some.ensures.steps.0 old.same));
    }

pub returns-clause-same : goal.returns-clause-same
returns-clause-same c =
    same_first c.args.hypotheses.items c.loop-hypothesis.moved.items c.loop-hypothesis.hypothesis-iterator.rest.items
    c.loop-hypothesis.invariant.same
