use Rattle.a429_record.proofs.FaultyRecordings.{faulty_binary-stands, fault-faulty_binary}
use Rattle.a429_record.proofs.laws.binaries_with_a_fault.Goals as goal

pub returns : goal.returns
returns c = record { there = faulty_binary-stands; only = fault-faulty_binary }
