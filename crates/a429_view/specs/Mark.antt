-- What a picture shows of the steps that are reported of a run (profile).
use Rattle.std.specs.Prelude.{◌+◌, ◌&&◌, ℕ, nat_le, List, [], ◌∷◌, ◌++◌, if◌then◌else◌, Bool, false, Option, Some, None}
use Rattle.a429_profile.specs.declared.codes.Codes.{Codes}
use Rattle.a429_ldu.specs.Form.{form_of}
use Rattle.a429_ldu.specs.Ldu.{LduValue, is_final}
use Rattle.a429_link.specs.declared.number.UnitNumber.{UnitNumber}
use Rattle.a429_record.specs.declared.entry.Entry.{Entry}
use Rattle.a429_cert.specs.declared.act.Act.{Act}
use Rattle.a429_cert.specs.declared.act.Act.TheVariants as act
use Rattle.a429_cert.specs.Report.{Report, Loads, Makes}
use Rattle.a429_view.specs.declared.mark.Span.{Span}
use Rattle.a429_view.specs.declared.mark.Mark.{Mark}
use Rattle.a429_view.specs.declared.mark.Mark.TheVariants as mark
use Rattle.a429_view.specs.declared.sketch.Place.{Place}
use Rattle.a429_view.specs.Units.{is_ack_form}

-- ---- where the steps are that were reported

-- the file that ends with a link data unit, where one does
abbrev pub file_ended : Codes → UnitNumber → LduValue → Option ℕ
file_ended c number unit = if is_final c unit.flags then Some number.file else None

-- a step that records an acknowledgement: of the link data unit that was loaded last, since no other can come
abbrev pub acknowledges : Codes → Act → Entry → Bool
acknowledges c act.Answered e = is_ack_form (form_of c e.bus e.word)
acknowledges c _ e = false

-- the file that crosses: that which ends with the unit loaded last, where this is its first acknowledgement
abbrev pub crossing : Bool → Option ℕ → Option ℕ
crossing acknowledged due = if acknowledged then due else None

abbrev pub still_due : Bool → Option ℕ → Option ℕ
still_due acknowledged due = if acknowledged then None else due

-- at the start entry 0 comes next, and no file is due to cross
abbrev pub before_all : Place
before_all = record { next = 0; due = None }

abbrev pub past : Codes → Place → Report → Place
past c at (Loads number unit) = record at { due = file_ended c number unit }
past c at (Makes a None) = at
past c at (Makes a (Some e)) = record { next = e.0 + 1; due = still_due (acknowledges c a e.1) at.due }

-- ---- what is shown

-- of a step that records nothing; nothing where a word or an answer is taken
abbrev pub unseen : Act → Option Mark
unseen act.SinkTakes = None
unseen act.TakeAnswer = None
unseen a = Some (mark.Unseen a)

abbrev pub mark_of : Codes → Place → Report → Option Mark
mark_of c at (Loads number unit) = Some (mark.Load number)
mark_of c at (Makes a None) = unseen a
mark_of c at (Makes a (Some e)) = Some (mark.Seen (record { act = a; number = e.0; entry = e.1; crosses = crossing (acknowledges c a e.1) at.due }))

-- this entry is one of the span
abbrev pub is_within : Span → ℕ → Bool
is_within span next = nat_le span.from next && nat_le next span.to

abbrev pub listed : Option Mark → List Mark
listed None = []
listed (Some m) = m ∷ []

-- the rows of one step
abbrev pub shown : Codes → Span → Place → Report → List Mark
shown c span at t = if is_within span at.next then listed (mark_of c at t) else []

-- the rows of steps, in their order
abbrev pub marks : Codes → Span → Place → List Report → List Mark
marks c span at [] = []
marks c span at (t ∷ more) = shown c span at t ++ marks c span (past c at t) more

-- ---- how many steps there are

abbrev pub step_within : Span → Place → ℕ
step_within span at = if is_within span at.next then 1 else 0

-- how many steps of the span there are, shown or not
abbrev pub steps_within : Codes → Span → Place → List Report → ℕ
steps_within c span at [] = 0
steps_within c span at (t ∷ more) = step_within span at + steps_within c span (past c at t) more
