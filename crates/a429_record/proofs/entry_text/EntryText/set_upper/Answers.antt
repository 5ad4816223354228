use Rattle.std.proofs.Common.{arith}
use Rattle.std.proofs.lemmas.Fmt.{length-decimal-le}
use Rattle.std.specs.Fmt.{decimal}
use Rattle.a429_record.proofs.WritingFacts.{upper_written}
use Rattle.a429_record.proofs.entry_text.EntryText.set_upper.Goals as goal

pub write_digits-self-inside-requires : goal.write_digits-self-inside-requires
write_digits-self-inside-requires c =
    (length-decimal-le 16 c.args.upper (omega arith) (omega (arith, c.requires.most)) (omega (arith, c.requires.most)), omega arith)

pub invariant_of-self : goal.invariant_of-self
invariant_of-self c =
    let written = c.write_digits-self-inside.ensures in
    (c.requires.some, omega (arith, written.start), upper_written _ (decimal c.args.upper) _ _ written.start written.written)
