use Rattle.a429_record.proofs.FaultyRecordings.{faulty_text-stands, fault-faulty_text}
use Rattle.a429_record.proofs.laws.texts_with_a_fault.Goals as goal

pub returns : goal.returns
returns c = record { there = faulty_text-stands; only = fault-faulty_text }
