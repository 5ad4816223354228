use Rattle.a429_search.proofs.groups.Group.contradicts.Goals as goal

pub returns-else-are_other-clause-other : goal.returns-else-are_other-clause-other
returns-else-are_other-clause-other c = λ found p u unit attempt. c.are_other_ends.ensures.other found u.flags u.check unit.end attempt.end
