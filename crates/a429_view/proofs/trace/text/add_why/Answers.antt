use Rattle.std.proofs.Common.{arith}
use Rattle.a429_view.proofs.LineFacts.{◌▹◌, within}
use Rattle.a429_view.proofs.trace.text.add_why.Goals as goal

pub returns-in-HalfBytes : goal.returns-in-HalfBytes
returns-in-HalfBytes c = rw c.in-HalfBytes.is (within 38 (c.put_number.ensures ▹ c.put-in-HalfBytes.ensures) (omega arith))

pub returns-in-OtherCheck : goal.returns-in-OtherCheck
returns-in-OtherCheck c = rw c.in-OtherCheck.is (within 38 (c.put-in-OtherCheck.ensures ▹ c.put_hex.ensures) (omega arith))

pub returns-in-OutOfSequence : goal.returns-in-OutOfSequence
returns-in-OutOfSequence c = rw c.in-OutOfSequence.is (within 38 c.put-in-OutOfSequence.ensures (omega arith))
