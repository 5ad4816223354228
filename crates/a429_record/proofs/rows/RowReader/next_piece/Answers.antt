use Rattle.std.proofs.Common.{◌≡◌, ◌∙◌, ◌≤◌, ◌++◌, List, ℕ, take, length, arith, sym, ap}
use Rattle.std.proofs.lemmas.List.{length-take-le, take-append-drop}
use Rattle.std.specs.Io.KnownBytes.{Consumes}
use Rattle.std.proofs.KnownBytes.{Keeps-refl}
use Rattle.a429_word.specs.Tally.{inner_of}
use Rattle.a429_record.specs.Binary.{piece_entry}
use Rattle.a429_record.specs.Lines.{ahead_of, pending_of}
use Rattle.a429_record.proofs.LinesFacts.{gives}
use Rattle.a429_record.proofs.PiecesFacts.{piece_given, piece_lost}
use Rattle.a429_record.proofs.rows.RowReader.next_piece.Given.{Over}
use Rattle.a429_record.proofs.rows.RowReader.next_piece.Goals as goal
use Rattle.a429_record.proofs.rows.RowReader.next_piece.Goals.{After-take_row}

-- the bytes lose those of the piece
took : (g : Over) (c : After-take_row g)
    → Consumes (pending_of g.R.Read.remaining c.args.self.now.lines c.args.rec.now)
    (pending_of g.R.Read.remaining c.pass.new.self c.args.rec.now) (take 13 (ahead_of c.args.self.now.lines))
took g c =
    let ahead = ahead_of c.args.self.now.lines in
    gives (g.R.Read.remaining (inner_of c.args.rec.now)) ahead (take 13 ahead) (ahead_of c.pass.new.self)
    (sym (take-append-drop 13 ahead) ∙ ap (λ (r : List ℕ). take 13 ahead ++ r) (sym c.pass.ensures))

-- its entry
row_is : (g : Over) (c : After-take_row g) → c.entry_of_piece-row.result ≡ piece_entry (take 13 (ahead_of c.args.self.now.lines))
row_is g c = rw c.ahead-ahead.ensures at c.entry_of_piece-row.ensures

pub returns-clause-gives : goal.returns-clause-gives
returns-clause-gives g c =
    let s = c.args.self.now in
    let ahead = ahead_of s.lines in
    let before = pending_of g.R.Read.remaining s.lines c.args.rec.now in
    let long : 13 ≤ length ahead = rw c.ahead-ahead.ensures at c.if-ahead-lt-ENTRY_BYTES.false in
    let size = length-take-le 13 ahead long in
    let given =
    piece_given s.most s.count s.last c.take_row.new.self.most c.take_row.new.self.count c.take_row.new.self.last before
    (g.R.Read.remaining (inner_of c.args.rec.now))
    (pending_of g.R.Read.remaining c.pass.new.self c.args.rec.now) ahead (take 13 ahead) c.entry_of_piece-row.result c.take_row.result
    (Keeps-refl before)
    (omega arith) (took g c) (omega (arith, size)) (λ few. absurd (omega (arith, size, few))) (row_is g c) c.take_row.ensures.gives in
    rw c.take_row.ensures.lines given

pub returns-clause-piece : goal.returns-clause-piece
returns-clause-piece g c =
    let before = pending_of g.R.Read.remaining c.args.self.now.lines c.args.rec.now in
    let lost =
    piece_lost before before (pending_of g.R.Read.remaining c.pass.new.self c.args.rec.now) (take 13 (ahead_of c.args.self.now.lines))
    c.entry_of_piece-row.result c.take_row.result (Keeps-refl before) (took g c) (row_is g c) c.take_row.ensures.entry in
    rw c.take_row.ensures.lines lost
