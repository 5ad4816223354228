-- a binary recording, or a reader that fails
use Rattle.std.proofs.Common.{◌≡◌, sym, subst, rules}
use Rattle.a429_word.specs.Tally.{unread}
use Rattle.a429_record.specs.declared.format.Format.{Format}
use Rattle.a429_record.specs.declared.format.Format.TheVariants as format
use Rattle.a429_record.specs.Lines.{pending_of, Chooses}
use Rattle.a429_record.specs.Handed.{Loses}
use Rattle.a429_record.specs.Rows.{IfEntry}
use Rattle.a429_record.specs.Reading.{AreFirstHanded}
use Rattle.a429_record.proofs.HandedFormats.{failed_magic, failed_binary, piece_first}
use Rattle.a429_record.proofs.rows.RowReader.first.Goals as goal

pub returns-in-Err-clause-before : goal.returns-in-Err-clause-before
returns-in-Err-clause-before g c failed =
    failed_magic c.args.self.now.most (pending_of g.R.Read.remaining c.args.self.now.lines c.args.rec.now)
    (unread g.R.Read.remaining c.format.new.rec) c.in-Err.ensures.before

pub returns-in-Binary-clause-lines : goal.returns-in-Binary-clause-lines
returns-in-Binary-clause-lines g c =
    let a = pending_of g.R.Read.remaining c.args.self.now.lines c.args.rec.now in
    let b = pending_of g.R.Read.remaining c.format.new.self c.format.new.rec in
    let d = pending_of g.R.Read.remaining c.next_piece.new.self.lines c.next_piece.new.rec in
    let chosen : Chooses format.Binary a b = rw c.in-Binary.is at c.in-Ok.ensures.chosen in
    let binary : c.next_piece.new.self.format ≡ format.Binary = search rules in
    let There : Format → Type 0 = λ f. IfEntry c.next_piece.result (λ e. Loses (AreFirstHanded f e) a d) in
    subst There (sym binary) (piece_first a b d c.next_piece.result chosen c.next_piece.ensures.piece)

pub returns-in-Binary-clause-before : goal.returns-in-Binary-clause-before
returns-in-Binary-clause-before g c failed =
    let a = pending_of g.R.Read.remaining c.args.self.now.lines c.args.rec.now in
    let b = pending_of g.R.Read.remaining c.format.new.self c.format.new.rec in
    let chosen : Chooses format.Binary a b = rw c.in-Binary.is at c.in-Ok.ensures.chosen in
    failed_binary c.args.self.now.most a b (unread g.R.Read.remaining c.next_piece.new.rec) c.args.self.now.count c.requires.0.0 chosen
    (c.next_piece.ensures.before failed)

pub format-requires-clause-works : goal.format-requires-clause-works
format-requires-clause-works g c = search rules
