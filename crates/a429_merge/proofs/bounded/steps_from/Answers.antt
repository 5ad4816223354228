use Rattle.std.proofs.Common.{Vec, Global, arith, ◌+◌, ◌≡◌, ◌≤◌, ◌<◌, ℕ, List, [], ◌∷◌, ◌++◌, IfSome, IfNone, length, sym, subst, ap, ◌∙◌}
use Rattle.a429_merge.specs.declared.bounded.Step.{Step}
use Rattle.a429_merge.specs.Order.{lists_of, IsNext}
use Rattle.a429_merge.specs.Bounded.{HasRests, IsStep, IsBoundedStep, HasStepOf}
use Rattle.std.proofs.lemmas.List.{length-map}
use Rattle.a429_merge.proofs.OrderFacts.{inside_lists}
use Rattle.a429_merge.proofs.HopelessFacts.{steps_without, steps_best, steps_other, same_steps, all_steps}
use Rattle.a429_merge.proofs.bounded.steps_from.Goals as goal
use Rattle.a429_merge.proofs.bounded.steps_from.Goals.{then-left-least+in_ok-push, else-left-least+in_ok-push-2}

pub loop-i-preserved-in_default : goal.loop-i-preserved-in_default
loop-i-preserved-in_default c =
    let L = lists_of c.args.search.now.lists.now in
    let ps = c.args.passed.now in
    let before =
    subst (λ o. IfNone o ((w : ℕ) → IsNext L ps c.loop-i.i w → (j : ℕ) × (j < c.loop-i.i) × IsNext L ps j w)) c.in_default.is
    c.in_ok-next.ensures.none in (
      steps_without L ps c.loop-i.i c.loop-i.steps.items c.loop-i.others.items c.loop-i.invariant.0 before,
      c.spend.ensures.cut ∙ c.loop-i.invariant.1,
      c.spend.ensures.entry ∙ c.loop-i.invariant.2,
    )

pub loop-i-preserved : goal.loop-i-preserved
loop-i-preserved c =
    let L = lists_of c.args.search.now.lists.now in
    let ps = c.args.passed.now in
    let inside : c.loop-i.i < length L = inside_lists c.args.search.now.lists.now c.loop-i.i c.loop-i-test.true in
    let step = subst (λ o. IfSome o (λ s. IsStep L ps c.loop-i.i s.word s.passed.items)) c.in-Some.is c.in_ok-next.ensures.some in
    let made : Step = record { word = c.in-Some.next.word; passed = c.in-Some.next.passed; left = c.least_left-left.result } in
    let bound : (zs : List ℕ)
    → HasRests L c.in-Some.next.passed.items zs → c.least_left-left.result ≤ length zs =
    subst (λ qs. (zs : List ℕ) → HasRests L qs zs → c.least_left-left.result ≤ length zs) c.deref.ensures.value c.least_left-left.ensures in
    let b : IsBoundedStep L ps c.loop-i.i made = record { step = step; bound = bound } in
    let best = c.loop-i.steps.items in
    let others = c.loop-i.others.items in
    let are = c.loop-i.invariant.0 in
    let vec_items = λ (v : Vec Step Global). v.items in (
      elim c.if-left-least.branch [
        | then-left-least+in_ok-push w ↦
            same_steps L ps (c.loop-i.i + 1) (best ++ made ∷ []) others c.if-left-least.steps.items c.if-left-least.others.items
            (ap vec_items w.steps-is ∙ w.in_ok-push.ensures.items) (ap vec_items w.others-is)
            (steps_best L ps c.loop-i.i best others are made inside b)
        | else-left-least+in_ok-push-2 w ↦
            same_steps L ps (c.loop-i.i + 1) best (others ++ made ∷ []) c.if-left-least.steps.items c.if-left-least.others.items
            (ap vec_items w.steps-is) (ap vec_items w.others-is ∙ w.in_ok-push-2.ensures.items)
            (steps_other L ps c.loop-i.i best others are made inside b)
      ],
      c.spend.ensures.cut ∙ c.loop-i.invariant.1,
      c.spend.ensures.entry ∙ c.loop-i.invariant.2,
    )

pub returns-clause-every : goal.returns-clause-every
returns-clause-every c i l w next =
    let L = lists_of c.args.search.now.lists.now in
    let ps = c.args.passed.now in
    let done : length L ≤ c.loop-i.i = omega (arith, c.loop-i-test.false, length-map c.args.search.now.lists.now (λ v. v.items)) in
    let all = all_steps L ps c.loop-i.i c.loop-i.steps.items c.loop-i.others.items done c.loop-i.invariant.0 in
    let items : c.append.new.self.items ≡ c.loop-i.steps.items ++ c.loop-i.others.items = c.in_ok-append.ensures.items in
    subst (HasStepOf w) (sym items) (all.1 i (inside_lists c.args.search.now.lists.now i l) w next)
