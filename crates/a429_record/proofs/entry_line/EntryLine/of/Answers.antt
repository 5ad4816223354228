use Rattle.std.proofs.Common.{◌∙◌, ◌++◌, arith, rules, refl, ap, replicate}
use Rattle.std.proofs.lemmas.Fmt.{length-decimal-le}
use Rattle.std.specs.Fmt.{decimal}
use Rattle.a429_record.proofs.WritingFacts.{entry_parts, entry_written}
use Rattle.a429_record.proofs.entry_line.EntryLine.of.Goals as goal

pub write_digits-start-requires : goal.write_digits-start-requires
write_digits-start-requires c = (search (rules, length-decimal-le 20), omega arith)

pub returns : goal.returns
returns c =
    let written = c.write_digits-start.ensures in
    c.copy.ensures
    ∙ entry_written _ (decimal c.args.entry.time) (replicate 20 0) c.bus_and_word-fields.result (replicate 20 0) _ _ written.start refl
    (omega arith)
    (ap (λ t. replicate 20 0 ++ (t ++ replicate 20 0)) c.copy_from_slice.ensures.after) written.written
    ∙ ap (λ t. decimal c.args.entry.time ++ t) c.bus_and_word-fields.ensures ∙ entry_parts c.args.between c.args.after c.args.entry
