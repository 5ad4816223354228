-- What `sink` says of a recording (profile).
use Rattle.std.specs.Prelude.{ℕ, ◌++◌, List, [], length, codes, flat_map, Option, Some, None}
use Rattle.std.specs.Fmt.{decimal}
use Rattle.a429_link.specs.declared.doing.Crossing.{Crossing}
use Rattle.a429_sink.specs.declared.judging.SinkVerdict.{SinkVerdict}
use Rattle.a429_sink.specs.declared.judging.SinkVerdict.TheVariants as verdict
use Rattle.a429_sink.specs.declared.lone_trace.Refusal.{Refusal}
use Rattle.a429_sink.specs.declared.owed.Owed.{Owed}
use Rattle.a429_sink.specs.declared.owed.Owed.TheVariants as owed
use Rattle.a429_sink.specs.Owed.{kinds_owed}
use Rattle.a429_view.specs.Trace.{kinds_text}
use Rattle.a429_view.specs.Verdict.{file_line}

-- the line of a file: its number, and how many bytes it has
abbrev pub crossed_line : Crossing → List ℕ
crossed_line f = file_line (f.number, f.bytes)

-- a sink that keeps the rules may have recorded this: the files that cross
abbrev pub yes_lines : List Crossing → List ℕ
yes_lines files = codes "SINK YES files " ++ decimal (length files) ++ codes "\n" ++ flat_map crossed_line files

-- the request before which the answer was owed
abbrev pub before_text : Option ℕ → List ℕ
before_text None = []
before_text (Some entry) = codes " owed before " ++ decimal entry

-- the answers that are allowed
abbrev pub owed_text : Owed → List ℕ
owed_text owed.Nothing = codes "nothing"
owed_text o = kinds_text (kinds_owed o)

-- no sink that keeps the rules sends this answer
abbrev pub no_line : Refusal → List ℕ
no_line r = codes "SINK NO " ++ decimal r.entry ++ before_text r.owed_before ++ codes " allowed " ++ owed_text r.owed ++ codes "\n"

-- the lines of a verdict on a sink
abbrev pub sink_text : SinkVerdict → List ℕ
sink_text (verdict.Yes files) = yes_lines files.items
sink_text (verdict.No refusal) = no_line refusal
