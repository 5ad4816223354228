use Rattle.std.proofs.Common.{sym, subst}
use Rattle.a429_merge.specs.Order.{lists_of, HasEach}
use Rattle.a429_merge.proofs.block.data_words.Goals as goal

pub returns-in-Some-clause-exact : goal.returns-in-Some-clause-exact
returns-in-Some-clause-exact c nothing uncut few words d =
    let only = rw c.in-Some.is at c.in_ok-lists.ensures.only in
    let each = subst (λ vs. HasEach words (lists_of vs)) (sym c.deref.ensures.value) (only words d.each) in
    c.words_of.ensures.exact nothing uncut few words (record { long = d.long; each = each; fits = d.fits })
