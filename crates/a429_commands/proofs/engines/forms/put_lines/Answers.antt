use Rattle.std.proofs.Common.{sym, ◌∙◌, drop}
use Rattle.a429_word.proofs.SheetFacts.{◌▹◌, says_after_failure}
use Rattle.a429_record.proofs.WritingTexts.{flat_map-more, flat_map-rest}
use Rattle.a429_commands.specs.Forms.{form_line, form_lines}
use Rattle.a429_commands.proofs.engines.forms.put_lines.Goals as goal

pub loop-entry-preserved : goal.loop-entry-preserved
loop-entry-preserved g c =
    rw (flat_map-more (form_line c.args.profile.now.codes) c.args.entries.now c.loop-entry.entry-index c.entry-item.result
    c.loop-entry-test.true c.entry-item.is)
    (c.loop-entry.invariant ▹ c.put_entry.ensures)

-- the lines that are left are not written
pub returns-then-failed : goal.returns-then-failed
returns-then-failed g c =
    let codes = c.args.profile.now.codes in
    let rest = form_lines codes (drop c.loop-entry.entry-index c.args.entries.now) in
    rw (flat_map-rest (form_line codes) c.args.entries.now c.loop-entry.entry-index) at (c.loop-entry.invariant
    ▹ says_after_failure _ _ rest (sym c.failed.ensures ∙ c.if-failed.true))
