use Rattle.a429_import.proofs.KeyCountsFacts.{counted_more}
use Rattle.a429_import.proofs.repeats.LastEntries.add.Goals as goal

pub invariant_of-self-2 : goal.invariant_of-self-2
invariant_of-self-2 c =
    let counts = c.self.inside.counts in
    rw (c.push_front_reserved.ensures.items, c.reserve.ensures.items)
    (counted_more counts c.count_one.new.counts c.self.inside.entries.items c.args.entry c.self.invariant
    (rw c.of.ensures at c.in_ok-count_one.ensures.ok))
