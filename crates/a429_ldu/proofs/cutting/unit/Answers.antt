use Rattle.std.proofs.Common.{arith, ◌∙◌}
use Rattle.a429_ldu.proofs.CutPieces.{words-least, words-most}
use Rattle.a429_ldu.proofs.CutFacts.{unit_made}
use Rattle.a429_ldu.proofs.cutting.unit.Goals as goal

pub of_parts-requires-clause-words : goal.of_parts-requires-clause-words
of_parts-requires-clause-words c =
    let p = c.args.profile.now in
    rw c.in_ok-words.ensures
    (words-least p c.args.bytes.now c.requires.some, words-most p c.args.bytes.now 253 (omega (arith, c.requires.most)))

pub returns : goal.returns
returns c = c.of_parts.ensures
    ∙ unit_made c.args.profile.now c.args.bytes.now c.args.flags c.check_word_by.result c.in_ok-words.words.items c.check_tables.result.now
    c.check_tables.ensures c.check_word_by.ensures c.in_ok-words.ensures
