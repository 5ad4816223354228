use Rattle.std.proofs.Common.{rules, ◌≡◌, ◌<◌, ℕ, List, IfNone, SomeIndex, length, replicate, slice_index, subst, ap, ◌∙◌}
use Rattle.std.proofs.lemmas.List.{length-map, get_or-replicate}
use Rattle.a429_merge.specs.Order.{lists_of, words_at}
use Rattle.a429_merge.specs.Bounded.{IsHopeless}
use Rattle.a429_merge.proofs.OrderFacts.{inside_lists}
use Rattle.a429_merge.proofs.HopelessFacts.{none_at_all, none_with_long}
use Rattle.a429_merge.proofs.bounded.search_words.Goals as goal

pub returns-in_default-clause-none : goal.returns-in_default-clause-none
returns-in_default-clause-none c nothing uncut few words =
    let L = lists_of c.args.lists.now in
    let long =
    subst (λ o. IfNone o (SomeIndex c.args.lists.now (λ i. 253 < length (words_at L i)))) c.in_default.is c.in_ok-pairs.ensures.none in
    none_with_long c.args.profile.now c.args.wanted.count c.args.wanted.check L long.0 few
    (inside_lists c.args.lists.now long.0 long.1) long.2 words

pub returns-clause-none : goal.returns-clause-none
returns-clause-none c nothing uncut few words =
    let L = lists_of c.args.lists.now in
    let zeros : c.deref.result.now ≡ replicate (length L) 0 = search (rules, length-map) in
    none_at_all c.args.profile.now c.args.wanted.count c.args.wanted.check L c.deref.result.now
    (λ i l. ap (λ (xs : List ℕ). slice_index xs i) zeros ∙ get_or-replicate {A = ℕ} (length L) i 0 0 l)
    (subst (IsHopeless c.args.profile.now c.args.wanted.count c.args.wanted.check L c.deref.result.now) c.new.ensures.items
    (c.extend.ensures.none nothing uncut)) words
