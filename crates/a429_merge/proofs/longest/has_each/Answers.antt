use Rattle.std.proofs.Common.{◌<◌, [], length, refl, subst, arith}
use Rattle.std.proofs.lemmas.List.{get_or_default}
use Rattle.a429_link.specs.Run.{IsSubsequenceOf}
use Rattle.a429_merge.specs.Order.{lists_of}
use Rattle.a429_merge.proofs.OrderFacts.{inside_given}
use Rattle.a429_merge.proofs.longest.has_each.Goals as goal

pub returns-clause-is : goal.returns-clause-is
returns-clause-is c =
    let lists = c.args.lists.now in
    let words = c.args.words.now in (
      (λ h k d l. subst (λ xs. IsSubsequenceOf xs words) (get_or_default (lists_of lists) k [] d l)
          (c.loop-i.invariant.each k (let inside : k < length lists = inside_given lists k l in omega arith))),
      (λ h. refl),
    )
