use Rattle.std.proofs.Common.{◌≤◌, List, length}
use Rattle.a429_record.specs.declared.entry.Entry.{Entry}
use Rattle.a429_view.specs.Survey.{IsSurvey}
use Rattle.a429_parts.proofs.KeepingFacts.{Came}
use Rattle.a429_commands.proofs.engines.survey.survey_of.Given as goal

abbrev pub invariant-entries : goal.invariant-entries
invariant-entries g l =
    (es : List Entry) × IsSurvey l.profile.codes l.survey es × Came l.fn.rec.to_come es l.rec.to_come × (length es ≤ l.rec.count)

abbrev pub decreases-entries : goal.decreases-entries
decreases-entries g l = l.rec.room
