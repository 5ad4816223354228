use Rattle.a429_ldu.proofs.FillingWords.{frame_made}
use Rattle.a429_ldu.proofs.filling.full_frame.Goals as goal

pub returns-clause-value : goal.returns-clause-value
returns-clause-value c =
    (frame_made c.args.profile.now c.codes-codes.ensures.sound c.codes-codes.result.now c.codes-codes.ensures.codes c.reverse_bits.result
    c.from.result c.from-2.result c.reverse_bits.ensures c.from.ensures c.from-2.ensures).value

pub returns-clause-room : goal.returns-clause-room
returns-clause-room c =
    (frame_made c.args.profile.now c.codes-codes.ensures.sound c.codes-codes.result.now c.codes-codes.ensures.codes c.reverse_bits.result
    c.from.result c.from-2.result c.reverse_bits.ensures c.from.ensures c.from-2.ensures).room
