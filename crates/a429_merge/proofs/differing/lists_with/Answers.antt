use Rattle.std.proofs.Common.{◌≤◌, ◌+◌, IfSome, length, subst, arith}
use Rattle.a429_merge.proofs.differing.lists_with.Goals as goal

pub returns-then-len-gt-MOST_ATTEMPTS-clause-none : goal.returns-then-len-gt-MOST_ATTEMPTS-clause-none
returns-then-len-gt-MOST_ATTEMPTS-clause-none c =
    let most : length c.in-Some.kept.items ≤ length c.args.lists.now =
    subst (λ o. IfSome o (λ kept. length kept.items ≤ length c.args.lists.now)) c.in-Some.is c.in_ok-kept.ensures.most in
    let count : length c.keep.new.kept.items ≤ length c.in-Some.kept.items + 1 = c.in_ok-keep.ensures.count in
    omega (arith, most, count, c.len.ensures, c.if-len-gt-MOST_ATTEMPTS.true)
