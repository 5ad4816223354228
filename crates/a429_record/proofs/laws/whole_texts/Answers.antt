use Rattle.a429_record.proofs.WholeRecordings.{text-whole, whole-text}
use Rattle.a429_record.proofs.laws.whole_texts.Goals as goal

pub returns : goal.returns
returns c = record { there = text-whole; only = whole-text }
