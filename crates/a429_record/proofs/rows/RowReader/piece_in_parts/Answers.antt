use Rattle.std.proofs.Common.{◌≡◌, take, length, arith, rules}
use Rattle.std.proofs.lemmas.List.{length-take-le}
use Rattle.a429_word.specs.Tally.{inner_of}
use Rattle.a429_record.specs.Binary.{entry_bytes}
use Rattle.a429_record.specs.Lines.{ahead_of, pending_of}
use Rattle.a429_record.proofs.PiecesFacts.{pieces_full, piece_given}
use Rattle.a429_record.proofs.rows.RowReader.piece_in_parts.Goals as goal

pub returns-in-Ok-true-clause-gives : goal.returns-in-Ok-true-clause-gives
returns-in-Ok-true-clause-gives g c =
    let full : c.args.self.now.count ≡ c.args.self.now.most = search rules in
    pieces_full c.args.self.now.most c.args.self.now.count c.args.self.now.last
    (pending_of g.R.Read.remaining c.args.self.now.lines c.args.rec.now) (g.R.Read.remaining (inner_of c.is_more.new.rec))
    (ahead_of c.is_more.new.self) _ full (c.in-Ok-true.ensures.some c.in-Ok-true.field-0-test) c.in-Ok-true.ensures.keeps

pub returns-in-Ok-clause-gives : goal.returns-in-Ok-clause-gives
returns-in-Ok-clause-gives g c =
    let s = c.args.self.now in
    let part = take c.in-Ok.len c.fill.new.bytes in
    let all : length c.fill.new.bytes ≡ entry_bytes = c.in-Ok.ensures.size in
    let size = length-take-le c.in-Ok.len c.fill.new.bytes c.in-Ok.ensures.most in
    let given =
    piece_given s.most s.count s.last c.take_row.new.self.most c.take_row.new.self.count c.take_row.new.self.last
    (pending_of g.R.Read.remaining s.lines c.args.rec.now) (g.R.Read.remaining (inner_of c.is_more.new.rec))
    (pending_of g.R.Read.remaining c.fill.new.self c.fill.new.rec)
    (ahead_of c.is_more.new.self) part c.entry_of_piece.result c.take_row.result c.in-Ok-true.ensures.keeps
    (c.in-Ok-true.ensures.some c.in-Ok-true.field-0-test) c.in-Ok.ensures.takes (omega (arith, size, all, c.in-Ok.ensures.most))
    (λ few. c.in-Ok.ensures.end (omega (arith, size, all, few)))
    c.entry_of_piece.ensures c.take_row.ensures.gives in
    rw c.take_row.ensures.lines given

pub returns-in-Err-fill-clause-gives : goal.returns-in-Err-fill-clause-gives
returns-in-Err-fill-clause-gives g c = search rules

pub returns-in-Err-fill-clause-device : goal.returns-in-Err-fill-clause-device
returns-in-Err-fill-clause-device g c = search rules

pub returns-in-Ok-clause-piece : goal.returns-in-Ok-clause-piece
returns-in-Ok-clause-piece g c = search rules

pub returns-in-Ok-clause-room : goal.returns-in-Ok-clause-room
returns-in-Ok-clause-room g c = search rules
