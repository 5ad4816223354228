use Rattle.std.proofs.Common.{sym, ◌∙◌, drop, get_or}
use Rattle.std.specs.List.{flat_map}
use Rattle.a429_word.proofs.SheetFacts.{◌▹◌, says_after_failure}
use Rattle.a429_record.proofs.WritingTexts.{flat_map-more, flat_map-rest}
use Rattle.a429_explain.specs.declared.note.Note.TheVariants.{First}
use Rattle.a429_explain.specs.Note.{note_text}
use Rattle.a429_explain.proofs.NoteFacts.{item_is}
use Rattle.a429_explain.proofs.lines.put_notes.Goals as goal

pub loop-note-preserved : goal.loop-note-preserved
loop-note-preserved g c =
    let notes = c.args.notes.now in
    let i = c.loop-note.note-index in
    rw (flat_map-more note_text notes i (get_or notes i (First 0)) c.loop-note-test.true (item_is notes i (First 0) c.loop-note-test.true))
    (c.loop-note.invariant ▹ c.put_note.ensures)

-- the notes that are left are not written
pub returns-then-failed : goal.returns-then-failed
returns-then-failed g c =
    let rest = flat_map note_text (drop c.loop-note.note-index c.args.notes.now) in
    rw (flat_map-rest note_text c.args.notes.now c.loop-note.note-index) at (c.loop-note.invariant
    ▹ says_after_failure _ _ rest (sym c.failed.ensures ∙ c.if-failed.true))
