use Rattle.std.proofs.Common.{sym, ap, ◌∙◌, subst, Vec, Global, ℕ, length, arith}
use Rattle.std.proofs.lemmas.List.{map-set, map_push}
use Rattle.std.proofs.lemmas.List.Elements.{All-set, All-push}
use Rattle.a429_link.specs.Run.{IsSubsequenceOf}
use Rattle.a429_merge.specs.Order.{lists_of, words_at, HasEach}
use Rattle.a429_merge.proofs.OrderFacts.{inside_lists}
use Rattle.a429_merge.proofs.DifferingFacts.{each_replaced, each_pushed}
use Rattle.a429_merge.proofs.differing.keep.Goals as goal

pub returns-in-Some-clause-all : goal.returns-in-Some-clause-all
returns-in-Some-clause-all c zs each =
    let kept = c.args.kept.now.items in
    let list = c.args.list in
    let at = c.in-Some.at in
    let found = c.in-Some.ensures.some in
    let inside = inside_lists kept at (omega (arith, found.0, ap length c.deref.ensures.value)) in
    each_replaced (lists_of kept) at list.items zs inside
    (subst (λ xs. IsSubsequenceOf (words_at (lists_of kept) at) xs) c.deref-2.ensures.value
    (subst (λ vs. IsSubsequenceOf (words_at (lists_of vs) at) c.deref-2.result.now) c.deref.ensures.value found.1))
    (subst (HasEach zs) (map-set (λ (v : Vec ℕ Global). v.items) kept at list) each)

pub returns-in-Some-clause-only : goal.returns-in-Some-clause-only
returns-in-Some-clause-only c zs each has =
    let kept = c.args.kept.now.items in
    let list = c.args.list in
    let at = c.in-Some.at in
    subst (HasEach zs) (sym (map-set (λ (v : Vec ℕ Global). v.items) kept at list))
    (All-set (λ xs. IsSubsequenceOf xs zs) (lists_of kept) at list.items has each)

pub returns-clause-all : goal.returns-clause-all
returns-clause-all c zs each =
    let kept = c.args.kept.now.items in
    let list = c.args.list in
    each_pushed (lists_of kept) list.items zs
    (subst (HasEach zs) (ap lists_of c.in_ok-push.ensures.items ∙ map_push (λ (v : Vec ℕ Global). v.items) kept list) each)

pub returns-clause-only : goal.returns-clause-only
returns-clause-only c zs each has =
    let kept = c.args.kept.now.items in
    let list = c.args.list in
    subst (HasEach zs) (sym (ap lists_of c.in_ok-push.ensures.items ∙ map_push (λ (v : Vec ℕ Global). v.items) kept list))
    (All-push (λ xs. IsSubsequenceOf xs zs) (lists_of kept) list.items each has)
