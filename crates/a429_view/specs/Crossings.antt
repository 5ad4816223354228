-- The files that cross, by the rows of a picture that say so (profile).
use Rattle.std.specs.Prelude.{◌≡◌, ◌+◌, ◌≤◌, ◌++◌, ℕ, List, map, length, Option, None}
use Rattle.std.specs.List.{filter_map}
use Rattle.a429_profile.specs.Profile.{Contents, IsProfile}
use Rattle.a429_link.specs.declared.file.FileBytes.{FileBytes}
use Rattle.a429_link.specs.declared.seen.Seen.{Seen}
use Rattle.a429_link.specs.declared.step.Step.{Step}
use Rattle.a429_link.specs.Run.{RunOf, trace, delivered_by}
use Rattle.a429_record.specs.declared.entry.Entry.{Entry}
use Rattle.a429_cert.specs.Explained.{items_of, Explains, IsExplained}
use Rattle.a429_cert.specs.Report.{reports_of_run}
use Rattle.a429_view.specs.declared.mark.Span.{Span}
use Rattle.a429_view.specs.declared.mark.Mark.{Mark}
use Rattle.a429_view.specs.declared.mark.Mark.TheVariants as mark
use Rattle.a429_view.specs.Mark.{before_all, marks}

-- the number in the text 'file N crosses' of a row, where the row has this text
abbrev pub file_crossing : Mark → Option ℕ
file_crossing (mark.Load n) = None
file_crossing (mark.Unseen a) = None
file_crossing (mark.Seen r) = r.crosses

-- these numbers of rows, in the order of the rows
abbrev pub crossings : List Mark → List ℕ
crossings rows = filter_map file_crossing rows

-- the numbers of files
abbrev pub numbers : List FileBytes → List ℕ
numbers files = map (λ (f : FileBytes). f.number) files

-- a run, or the steps that one begins with, and entries: the words that it records are the first of these entries
pub record RunOver (p : Contents) (entries : List Entry) : Type 0 where
  pub run : RunOf p
  pub later : List Seen
  pub records : items_of entries ≡ trace run.steps ++ later

-- entries that a certificate explains, the run by which it does, and the files of a yes to it
pub record ExplainedRun (p : Contents) (entries : List Entry) : Type 0 where
  pub sound : IsProfile p
  pub certificate : List ℕ
  pub first : ℕ
  pub steps : List Step
  pub explains : Explains p certificate (items_of entries) first steps
  pub files : List FileBytes
  pub yes : IsExplained p certificate (items_of entries) files

-- the span begins with the first entry, and ends with the last or after it
abbrev pub HasAll : Span → List Entry → Type 0
HasAll span entries = (span.from ≡ 0) × (length entries ≤ span.to + 1)

-- the rows of a picture of these runs
abbrev pub rows_over : {p : Contents} {entries : List Entry} → Span → RunOver p entries → List Mark
rows_over {p} {entries} span r = marks p.codes span before_all (reports_of_run p entries r.run.first r.run.steps)

-- the rows of a picture of the run by which a certificate explains
abbrev pub rows_explained : {p : Contents} {entries : List Entry} → Span → ExplainedRun p entries → List Mark
rows_explained {p} {entries} span e = marks p.codes span before_all (reports_of_run p entries e.first e.steps)

-- the files that a run delivers
abbrev pub delivered_over : {p : Contents} {entries : List Entry} → RunOver p entries → List FileBytes
delivered_over r = delivered_by r.run
