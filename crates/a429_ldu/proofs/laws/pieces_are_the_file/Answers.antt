use Rattle.a429_ldu.proofs.CutPieces.{pieces-sized, room-is}
use Rattle.a429_ldu.proofs.laws.pieces_are_the_file.Goals as goal

pub returns-clause-whole : goal.returns-clause-whole
returns-clause-whole c f m bytes hm some most = (pieces-sized f m bytes hm some most).0

pub returns-clause-sizes : goal.returns-clause-sizes
returns-clause-sizes c f m bytes hm some most = (pieces-sized f m bytes hm some most).1

pub returns-clause-room : goal.returns-clause-room
returns-clause-room c = room-is
