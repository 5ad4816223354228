use Rattle.std.proofs.Common.{arith}
use Rattle.std.proofs.lemmas.Fmt.{length-decimal-le}
use Rattle.std.specs.Fmt.{decimal}
use Rattle.a429_record.proofs.WritingFacts.{upper_written}
use Rattle.a429_record.proofs.entry_text.EntryText.new.Goals as goal

pub write_digits-start-requires : goal.write_digits-start-requires
write_digits-start-requires c = (length-decimal-le 16 1 (omega arith) (omega arith) (omega arith), omega arith)

pub invariant_of-result : goal.invariant_of-result
invariant_of-result c =
    let written = c.write_digits-start.ensures in
    (omega arith, omega (arith, written.start), upper_written _ (decimal 1) _ _ written.start written.written)
