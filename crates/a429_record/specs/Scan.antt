-- What a scan of a line finds, in the words of `csv` (profile).
use Rattle.std.specs.Prelude.{◌≡◌, ◌≤◌, ℕ, List, [], length, drop, Option, Some, None}
use Rattle.csv.specs.Machine.{next_record}
use Rattle.csv.specs.Reading.{default_config}
use Rattle.csv.specs.declared.parser.State.{State}
use Rattle.csv.specs.declared.parser.State.TheVariants as st
use Rattle.csv.specs.declared.parser.Action.{Action}
use Rattle.csv.specs.declared.parser.Action.TheVariants as act
use Rattle.a429_record.specs.declared.scan.Place.{Place}
use Rattle.a429_record.specs.declared.scan.Place.TheVariants as place
use Rattle.a429_record.specs.declared.scan.Deed.{Deed}
use Rattle.a429_record.specs.declared.scan.Deed.TheVariants as deed
use Rattle.a429_record.specs.declared.scan.RecordEnd.{RecordEnd}

-- the state of `csv` at a place
abbrev pub state_of : Place → State
state_of place.Start = st.StartRecord
state_of place.FieldStart = st.StartField
state_of place.Field = st.InField
state_of place.Quoted = st.InQuoted
state_of place.AfterQuote = st.AfterQuote
state_of place.AfterReturn = st.AfterCr

-- the action of `csv`
abbrev pub action_of : Deed → Action
action_of deed.Skip = act.Skip
action_of deed.Copy = act.Copy
action_of deed.EndField = act.EndField
action_of deed.EndRecord = act.EndRecord

-- the next record of bytes from a state, if there is one, has these fields and ends there
abbrev pub ScansTo : State → List ℕ → List (List ℕ) → Option RecordEnd → Type 0
ScansTo s bytes fields None = next_record default_config s [] [] bytes ≡ None
ScansTo s bytes fields (Some end) = (end.len ≤ length bytes) × (next_record default_config s [] [] bytes ≡ Some (fields, state_of end.place, drop end.len bytes))
