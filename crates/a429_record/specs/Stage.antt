-- The stages of reading a recording, and what a call returns at each (profile).
use Rattle.std.specs.Prelude.{◌≡◌, ◌≢◌, Bool, true, false, Option, Some, None, Result, Ok, Err}
use Rattle.a429_record.specs.declared.entry.Entry.{Entry}
use Rattle.a429_record.specs.declared.fault.ReadFault.{ReadFault}
use Rattle.a429_record.specs.declared.fault.ReadFault.TheVariants as fault
use Rattle.a429_record.specs.declared.stage.Stage.{Stage}
use Rattle.a429_record.specs.declared.stage.Stage.TheVariants as stage

-- neither the end nor a fault was returned
abbrev pub may_go_on : Stage → Bool
may_go_on stage.Begins = true
may_go_on stage.Rows = true
may_go_on stage.Ended = false
may_go_on stage.Failed = false

-- the stage after an answer
abbrev pub stage_after : Result (Option Entry) ReadFault → Stage
stage_after (Ok (Some e)) = stage.Rows
stage_after (Ok None) = stage.Ended
stage_after (Err f) = stage.Failed

-- after the end comes the end again, after a fault the fault `Failed`, which comes nowhere else
abbrev pub AnswersAt : Stage → Result (Option Entry) ReadFault → Type 0
AnswersAt stage.Begins r = r ≢ Err fault.Failed
AnswersAt stage.Rows r = r ≢ Err fault.Failed
AnswersAt stage.Ended r = r ≡ Ok None
AnswersAt stage.Failed r = r ≡ Err fault.Failed
