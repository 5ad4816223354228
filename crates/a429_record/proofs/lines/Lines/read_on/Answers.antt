use Rattle.std.proofs.Common.{arith, take, ◌-◌}
use Rattle.a429_word.proofs.TallySlices.{take-put_mid_within}
use Rattle.a429_record.proofs.lines.Lines.read_on.Goals as goal

pub returns-clause-came : goal.returns-clause-came
returns-clause-came g c =
    let s = c.args.self.now in
    let n = c.in_ok-n.n in (
      take n c.pull.new.buf,
      take-put_mid_within s.filled (c.args.end - s.filled) n s.buffer c.pull.new.buf (omega arith) c.in_ok-n.ensures.bound.0,
      c.in_ok-n.ensures.bytes.0,
    )
