use Rattle.std.proofs.Common.{◌≡◌, ◌<◌, ◌≤◌, ◌++◌, ◌∷◌, ◌-◌, [], ℕ, List, Ok, length, length-append, sym, ap, ◌∙◌, subst, arith}
use Rattle.std.specs.Vec.{vec_len}
use Rattle.a429_merge.specs.Order.{lists_of, IsNext, IsAllPassed}
use Rattle.a429_merge.specs.Bounded.{ArePassed, HasPassed, IsStep, IsBoundedStep, AreSteps, HasStepOf, IsHopeless}
use Rattle.a429_merge.proofs.OrderFacts.{left_count, inside_given}
use Rattle.a429_merge.proofs.BoundedFacts.{step_merged, step_fewer}
use Rattle.a429_merge.proofs.HopelessFacts.{hopeless_steps, hopeless_far, one_more, is_none, one_less}
use Rattle.a429_merge.proofs.bounded.+extend.Goals as goal

pub extend-requires : goal.extend-requires
extend-requires t c =
    let L = lists_of c.args.search.now.lists.now in
    let ps = c.args.passed.now in
    let s = c.step-item.result in
    let qs = s.passed.items in
    let given = c.deref.ensures.value in
    let merged = c.args.path.now.merged.items in
    let are : AreSteps L ps c.deref-step-items.result.now =
    subst (AreSteps L ps) (sym c.deref-step-items.ensures.value) c.in_ok-steps.ensures.are in
    let found =
    subst (λ s. (i : ℕ) × (i < length L) × IsBoundedStep L ps i s) (sym c.step-item.is)
    (are c.loop-step.step-index s c.loop-step-test.true) in
    let step : IsStep L ps found.0 s.word qs = found.2.step in
    let same = c.loop-step.invariant.0 in
    let pushed = c.in_ok-push.ensures.items ∙ ap (λ (ms : List ℕ). ms ++ s.word ∷ []) same in
    let smaller : left_count L c.deref.result.now < left_count L ps =
    subst (λ qs. left_count L qs < left_count L ps) (sym given) (step_fewer L ps qs found.0 s.word found.1 c.requires.passed step) in
    let after : HasPassed L qs c.push.new.self.items =
    subst (HasPassed L qs) (sym pushed) (step_merged L ps qs merged found.0 s.word c.requires.merged step) in
    let short : length c.push.new.self.items ≤ c.args.search.now.wanted.count =
    omega
    (arith, ap length pushed, length-append merged (s.word ∷ []), ap length same, c.len-in-loop-step.ensures, c.if-step-search.false) in (
      subst (λ (n : ℕ). left_count L c.deref.result.now < n) c.decreases smaller,
      (subst (ArePassed L) (sym given) step.are, (subst (λ qs. HasPassed L qs c.push.new.self.items) (sym given) after, short)),
    )

pub loop-step-preserved-then-step-search : goal.loop-step-preserved-then-step-search
loop-step-preserved-then-step-search t c =
    let L = lists_of c.args.search.now.lists.now in
    let ps = c.args.passed.now in
    let p = c.args.search.now.profile.now in
    let count = c.args.search.now.wanted.count in
    let wanted = c.args.search.now.wanted.check in
    let merged = c.args.path.now.merged.items in
    let items = c.deref-step-items.result.now in
    let s = c.step-item.result in
    let are : AreSteps L ps items = subst (AreSteps L ps) (sym c.deref-step-items.ensures.value) c.in_ok-steps.ensures.are in
    let found =
    subst (λ s. (i : ℕ) × (i < length L) × IsBoundedStep L ps i s) (sym c.step-item.is)
    (are c.loop-step.step-index s c.loop-step-test.true) in
    let far : count - length merged ≤ s.left =
    omega (arith, c.if-step-search.true, c.len-in-loop-step.ensures, ap length c.loop-step.invariant.0) in (
      c.loop-step.invariant.0,
      c.loop-step.invariant.1,
      c.loop-step.invariant.2,
      (λ uncut. one_more (λ s. IsHopeless p count wanted L s.passed.items (merged ++ s.word ∷ [])) items c.loop-step.step-index s
          c.loop-step-test.true c.step-item.is
          (hopeless_far p count wanted L ps merged found.0 s found.2 c.requires.short far) (c.loop-step.invariant.3 uncut)),
    )

pub loop-step-preserved : goal.loop-step-preserved
loop-step-preserved t c =
    let L = lists_of c.args.search.now.lists.now in
    let ps = c.args.passed.now in
    let p = c.args.search.now.profile.now in
    let count = c.args.search.now.wanted.count in
    let wanted = c.args.search.now.wanted.check in
    let merged = c.args.path.now.merged.items in
    let items = c.deref-step-items.result.now in
    let s = c.step-item.result in
    let pushed : c.push.new.self.items ≡ merged ++ s.word ∷ [] =
    c.in_ok-push.ensures.items ∙ ap (λ (ms : List ℕ). ms ++ s.word ∷ []) c.loop-step.invariant.0 in
    let none = is_none c.in_ok-found.found c.if-is_some.ensures in
    let back : c.extend.new.path.merged.items ≡ merged ++ s.word ∷ [] = c.in_ok-found.ensures.back (ap Ok none) ∙ pushed in
    let popped : c.pop.new.self.items ≡ merged =
    one_less merged c.extend.new.path.merged.items c.pop.new.self.items s.word (vec_len c.extend.new.path.merged) c.pop.ensures.rest back
    (omega arith) in (
      popped,
      c.in_ok-found.ensures.entry ∙ c.loop-step.invariant.1,
      (λ uncut. c.loop-step.invariant.2 (c.in_ok-found.ensures.cut uncut)),
      (λ uncut. one_more (λ s. IsHopeless p count wanted L s.passed.items (merged ++ s.word ∷ [])) items c.loop-step.step-index s
          c.loop-step-test.true c.step-item.is
          (subst (λ qs. IsHopeless p count wanted L qs (merged ++ s.word ∷ [])) c.deref.ensures.value
          (subst (IsHopeless p count wanted L c.deref.result.now) pushed (c.in_ok-found.ensures.none (ap Ok none) uncut)))
          (c.loop-step.invariant.3 (c.in_ok-found.ensures.cut uncut))),
    )

pub returns-clause-none : goal.returns-clause-none
returns-clause-none t c nothing uncut =
    let L = lists_of c.args.search.now.lists.now in
    let ps = c.args.passed.now in
    let p = c.args.search.now.profile.now in
    let count = c.args.search.now.wanted.count in
    let wanted = c.args.search.now.wanted.check in
    let merged = c.args.path.now.merged.items in
    let items = c.deref-step-items.result.now in
    let left : ¬ IsAllPassed L ps = λ all. absurd (cc (c.if-are_passed.ensures.1 all)) in
    let are : AreSteps L ps items = subst (AreSteps L ps) (sym c.deref-step-items.ensures.value) c.in_ok-steps.ensures.are in
    let every : (i : ℕ)
    → i < length L → (w : ℕ) → IsNext L ps i w → HasStepOf w items = λ i l w next. subst (HasStepOf w)
    (sym c.deref-step-items.ensures.value) (c.in_ok-steps.ensures.every i (inside_given c.args.search.now.lists.now i l) w next) in
    hopeless_steps p count wanted L ps merged items left are every
    (λ k d l. c.loop-step.invariant.3 uncut k d (omega (arith, l, c.loop-step-test.false)))
