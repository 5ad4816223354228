-- An entry whose row was read whole, and is as it is written.
use Rattle.std.proofs.Common.{◌≡◌, ◌+◌, ◌<◌, ◌≤◌, ◌^◌, ℕ, List, length, take, Option, Some, Ok, option_map, sym, ap, arith}
use Rattle.std.proofs.lemmas.List.{length-take-le}
use Rattle.a429_word.specs.declared.tally.Tally.{Tally}
use Rattle.a429_word.specs.Tally.{inner_of}
use Rattle.a429_record.specs.declared.entry.Entry.{Entry}
use Rattle.a429_record.specs.declared.rows.RowReader.{RowReader}
use Rattle.a429_record.specs.declared.format.Format.TheVariants as format
use Rattle.a429_record.specs.declared.stage.Stage.{Stage}
use Rattle.a429_record.specs.declared.stage.Stage.TheVariants as stage
use Rattle.a429_record.specs.Row.{line_rows}
use Rattle.a429_record.specs.Recording.{rows_of}
use Rattle.a429_record.specs.Line.{GivesEntry}
use Rattle.a429_record.specs.Lines.{ahead_of, pending_of}
use Rattle.a429_record.specs.Handed.{Loses, AreEntryOf}
use Rattle.a429_record.specs.Rows.{GivesNext, GivesRow}
use Rattle.a429_record.specs.Reading.{AreHandedAt, still_to_come}
use Rattle.a429_record.specs.Writing.{line_text}
use Rattle.a429_record.proofs.LinesFacts.{gives, takes_ended}
use Rattle.a429_record.proofs.RowsFacts.{own_rows, taken, one_row, gives_row}
use Rattle.a429_record.proofs.Handed.{line_lost, no_lines}
use Rattle.a429_record.proofs.WrittenRow.{line_length}

-- its row has few bytes
pub row_short : (bytes : List ℕ) (n : ℕ) (e : Entry) → e.time < 2 ^ 64 → n < length bytes → take (n + 1) bytes ≡ line_text e → n + 1 ≤ 32
row_short bytes n e small inside is = omega (arith, length-take-le (n + 1) bytes (omega (arith, inside)), ap length is, line_length e small)

-- it is the next
pub written_gives : {R : Type 0} (remaining : R → Option (List ℕ)) (before after : Stage) (s t : RowReader) (rec : Tally R) (e : Entry)
    → before ≡ stage.Rows → after ≡ before → s.format ≡ format.Text → t.format ≡ s.format
    → GivesEntry (ahead_of s.lines) (ahead_of t.lines) e → GivesRow s (Some e) t (Ok (Some e))
    → GivesNext (still_to_come remaining before s rec) (still_to_come remaining after t rec) (Ok (Some e))
written_gives remaining before after s t rec e is stays text kept gave row =
    let old = pending_of remaining s.lines rec in
    let new = pending_of remaining t.lines rec in
    let took = takes_ended old new gave.0 gave.1 (gives (remaining (inner_of rec)) _ _ _ gave.3) in
    let one = one_row (line_rows gave.0) (Some e) (sym gave.2) in
    let given =
    gives_row s.most s.count s.last t.most t.count t.last (option_map rows_of old) new gave.0 one.0 (Some e) (Ok (Some e)) one.1 one.2
    (taken (option_map rows_of old) old new gave.0 (own_rows old) took) row in
    rw (stays, is, kept, text) given

-- its bytes are passed
pub written_lost : {R : Type 0} (remaining : R → Option (List ℕ)) (before : Stage) (s t : RowReader) (rec : Tally R) (e : Entry)
    → before ≡ stage.Rows → s.format ≡ format.Text → t.format ≡ s.format
    → GivesEntry (ahead_of s.lines) (ahead_of t.lines) e
    → Loses (AreHandedAt before t.format e) (pending_of remaining s.lines rec) (pending_of remaining t.lines rec)
written_lost remaining before s t rec e is text kept gave =
    let old = pending_of remaining s.lines rec in
    let new = pending_of remaining t.lines rec in
    let took = takes_ended old new gave.0 gave.1 (gives (remaining (inner_of rec)) _ _ _ gave.3) in
    let lost = line_lost (AreEntryOf e) old old new gave.0 (no_lines old) took gave.2 in
    rw (is, kept, text) lost
