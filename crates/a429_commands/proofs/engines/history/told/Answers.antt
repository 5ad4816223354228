use Rattle.std.proofs.Common.{Err, ap, inr}
use Rattle.a429_record.specs.declared.fault.ReadFault.{ReadFault}
use Rattle.a429_parts.specs.Keeping.{taken}
use Rattle.a429_commands.specs.History.{put_in}
use Rattle.a429_commands.proofs.HistoryFacts.{untold}
use Rattle.a429_commands.proofs.engines.history.told.Goals as goal

pub returns-in-Err-clause-err : goal.returns-in-Err-clause-err
returns-in-Err-clause-err g c =
    let o = put_in g.P.Pieces.known g.P.Failing.failed c.args.pieces.now c.put_pieces.new.pieces in
    rw c.fault_of.ensures (inr (
      (c.in_ok-profile.profile, c.in_ok-profile.ensures.ok),
      untold c.in_ok-profile.profile (taken c.args.rec.now c.put_pieces.new.rec) (g.P.Pieces.known c.args.pieces.now)
          (g.P.Pieces.known c.put_pieces.new.pieces) c.put_pieces.new.rec.failed o c.in-Err.fault c.in-Err.ensures.until
          (λ is. c.in-Err.ensures.device (ap (λ (f : ReadFault). Err f) is)),
    ))
