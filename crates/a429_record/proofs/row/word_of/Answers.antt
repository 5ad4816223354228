use Rattle.a429_record.proofs.RowDigits.{word_in-reads}
use Rattle.a429_record.proofs.row.word_of.Goals as goal

pub returns : goal.returns
returns c = word_in-reads c.args.text.now _ c.parse_hex.ensures
