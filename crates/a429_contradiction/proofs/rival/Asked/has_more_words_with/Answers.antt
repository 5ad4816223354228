use Rattle.std.proofs.Common.{arith, subst, sym}
use Rattle.a429_link.specs.Run.{IsSubsequenceOf}
use Rattle.a429_contradiction.proofs.RivalFacts.{no_part, other_whole, ours_whole}
use Rattle.a429_contradiction.proofs.rival.Asked.has_more_words_with.Goals as goal

pub returns-then-len-most : goal.returns-then-len-most
returns-then-len-most c = λ found.
    let ours = c.in_ok-ours.ours.items in
    let others = c.in_ok-others.others.items in
    let none = no_part _ _ _ c.is_subsequence.ensures found in
    ours_whole c.args.profile.now.codes c.args.self.now.attempt c.args.other.now.attempt ours others c.in_ok-ours.ensures
    c.in_ok-others.ensures (omega (arith, c.if-len-most.true, c.count-most.ensures, c.len.ensures))
    (λ h.
    none (subst (λ l. IsSubsequenceOf l c.deref-then-len-most.result.now) (sym c.deref.ensures.value)
    (subst (IsSubsequenceOf others) (sym c.deref-then-len-most.ensures.value) h)))

pub returns-then-len-most-2 : goal.returns-then-len-most-2
returns-then-len-most-2 c = λ found.
    let ours = c.in_ok-ours.ours.items in
    let others = c.in_ok-others.others.items in
    let none = no_part _ _ _ c.is_subsequence-then-len-most-2.ensures found in
    other_whole c.args.profile.now.codes c.args.self.now.attempt c.args.other.now.attempt ours others c.in_ok-ours.ensures
    c.in_ok-others.ensures c.requires (omega (arith, c.if-len-most-2.true, c.count-most.ensures, c.len-2.ensures, c.requires))
    (λ h.
    none (subst (λ l. IsSubsequenceOf l c.deref-then-len-most-2-2.result.now) (sym c.deref-then-len-most-2.ensures.value)
    (subst (IsSubsequenceOf ours) (sym c.deref-then-len-most-2-2.ensures.value) h)))
