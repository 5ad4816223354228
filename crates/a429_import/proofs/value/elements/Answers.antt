use Rattle.a429_profile.proofs.ValueArrays.{list_of-items_view}
use Rattle.a429_import.proofs.value.elements.Goals as goal

pub returns-in-Some-clause-some : goal.returns-in-Some-clause-some
returns-in-Some-clause-some c =
    let found = rw c.in-Some.is at c.as_array.ensures in
    rw (← found, c.as_slice.ensures.value) (list_of-items_view c.in-Some.array.now.items)
