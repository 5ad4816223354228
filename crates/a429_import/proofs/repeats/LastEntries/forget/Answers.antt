use Rattle.std.proofs.Common.{subst}
use Rattle.a429_import.specs.KeyCounts.{AreCounted}
use Rattle.a429_import.proofs.KeyCountsFacts.{counted_less}
use Rattle.a429_import.proofs.repeats.LastEntries.forget.Goals as goal

pub invariant_of-self : goal.invariant_of-self
invariant_of-self c =
    counted_less c.self.inside.counts c.uncount_one.new.counts c.pop_back.new.self.items c.in-Some.entry
    (subst (AreCounted c.self.inside.counts) c.in-Some.ensures.items c.self.invariant)
    (rw c.of.ensures at c.uncount_one.ensures)
