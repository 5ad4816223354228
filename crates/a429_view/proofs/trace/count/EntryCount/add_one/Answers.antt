use Rattle.std.proofs.Common.{◌≡◌, ◌+◌, ◌%◌, ◌∙◌, sym, arith}
use Rattle.std.proofs.lemmas.Fmt.{decimal_nonempty}
use Rattle.a429_view.proofs.DigitCounts.{decimal-next}
use Rattle.a429_view.proofs.trace.count.EntryCount.add_one.Goals as goal

pub set_last-requires : goal.set_last-requires
set_last-requires c = rw c.self.invariant.0 (decimal_nonempty c.self.inside.count (omega arith))

pub invariant_of-self-else-self-eq9 : goal.invariant_of-self-else-self-eq9
invariant_of-self-else-self-eq9 c =
    let old = c.self.inside.count in
    let last : c.self.inside.last + 1 ≡ (old + 1) % 10 = omega (arith, c.self.invariant.1) in
    let digits = rw (c.self.invariant.0, last) at c.set_last.ensures in
    (digits ∙ sym (decimal-next old (omega arith) (omega (arith, last))), last)
