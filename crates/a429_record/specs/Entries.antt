-- What contracts see of a reader of entries (profile).
use Rattle.std.specs.Prelude.{◌≡◌, ◌≤◌, ◌<◌, ◌^◌, ◌+◌, ℕ, List, Bool, false, Option}
use Rattle.a429_word.specs.declared.tally.Tally.{Tally}
use Rattle.a429_word.specs.Tally.{has_failed, unread}
use Rattle.a429_record.specs.declared.entry.Entry.{Entry}
use Rattle.a429_record.specs.declared.format.Format.{Format}
use Rattle.a429_record.specs.declared.stage.Stage.{Stage}
use Rattle.a429_record.specs.declared.stage.Stage.TheVariants as stage
use Rattle.a429_record.specs.declared.reading.Reading.{Reading}
use Rattle.a429_record.specs.Recording.{Recording}
use Rattle.a429_record.specs.Lines.{pending_of, room_of}
use Rattle.a429_record.specs.Reading.{still_to_come, PassesAt}

-- what is still to come, where the bytes are known; the stage of the reading, and the format, once an entry was returned; how many
-- entries may be returned in all, how many were, and the time of the last; the bytes that were not used, those of them that are not
-- read yet, and how many may still be read; whether it has failed
pub record EntriesLeft : Type 0 where
  pub to_come : Option Recording
  pub stage : Stage
  pub format : Format
  pub most : ℕ
  pub count : ℕ
  pub last : ℕ
  pub bytes : Option (List ℕ)
  pub unread : Option (List ℕ)
  pub room : ℕ
  pub failed : Bool

-- what a reading has left of its reader
abbrev pub entries_left : {R : Type 0} → (R → Option (List ℕ)) → Reading → Tally R → EntriesLeft
entries_left remaining s rec = record {
  to_come = still_to_come remaining s.stage s.rows rec;
  stage = s.stage;
  format = s.rows.format;
  most = s.rows.most;
  count = s.rows.count;
  last = s.rows.last;
  bytes = pending_of remaining s.rows.lines rec;
  unread = unread remaining rec;
  room = room_of s.rows.lines rec;
  failed = has_failed rec;
}

-- among the rows the reader has not failed
abbrev pub IsWorking : {R : Type 0} → Reading → Tally R → Type 0
IsWorking s rec = s.stage ≡ stage.Rows → has_failed rec ≡ false

-- an entry comes next, no earlier than the last one, and is then the last one; the limit of entries stays, and their number fits in 64
-- bits
abbrev pub ComesNext : EntriesLeft → EntriesLeft → Entry → Type 0
ComesNext old new e = (old.last ≤ e.time) × (new.last ≡ e.time) × (new.count ≡ old.count + 1) × (new.count ≤ new.most) × (new.most ≡ old.most) × (new.count < 2 ^ 64)

-- what is handed out makes no fault, by the stage of a reader of entries
abbrev pub PassesFrom : EntriesLeft → List ℕ → Type 0
PassesFrom old taken = PassesAt old.most old.stage old.format old.count taken
