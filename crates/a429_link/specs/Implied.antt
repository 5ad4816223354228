-- What a recording implies of its sink, word after word, and what the sink does then (profile).
use Rattle.std.specs.Prelude.{ℕ, ◌-◌, Bool, false, if◌then◌else◌, List, [], ◌∷◌, length, map, Option, Some, None, unwrap_or}
use Rattle.a429_word.specs.declared.bus.Bus.{Bus}
use Rattle.a429_word.specs.declared.bus.Bus.TheVariants as bus
use Rattle.a429_profile.specs.Profile.{Contents}
use Rattle.a429_ldu.specs.declared.forms.Form.{Form}
use Rattle.a429_ldu.specs.declared.forms.Form.TheVariants as form
use Rattle.a429_ldu.specs.Form.{form_of}
use Rattle.a429_link.specs.declared.file.FileBytes.{FileBytes}
use Rattle.a429_link.specs.declared.seen.Seen.{Seen}
use Rattle.a429_link.specs.declared.why.Why.{Why}
use Rattle.a429_link.specs.declared.why.Why.TheVariants as why
use Rattle.a429_link.specs.declared.doing.Crossing.{Crossing}
use Rattle.a429_link.specs.declared.doing.Doing.{Doing}
use Rattle.a429_link.specs.declared.doing.Doing.TheVariants as doing
use Rattle.a429_link.specs.Sink.{Sink, SinkPhase, Quiet, OwesClear, Granted, InBlock, OwesAck, OwesNak, answers_form, is_same, takes_form, without_files}
use Rattle.a429_link.specs.Observer.{Observer, sees_form, watching}
use Rattle.a429_link.specs.Trace.{sink_at_first}
use Rattle.a429_link.specs.Why.{block_in, why_bad}

-- ---- the sink

-- the sink with its delivered files handed out; whether a start or data word was recorded since the last clear answer, and
-- how many data words
pub record Implied : Type 0 where
  pub sink : Sink
  pub begun : Bool
  pub parts : ℕ

abbrev pub implied_at_first : Implied
implied_at_first = record { sink = sink_at_first; begun = false; parts = 0 }

-- the observer of the same words
abbrev pub observer_of : Implied → Observer
observer_of k = watching k.sink k.begun k.parts

-- the sink after a word of this form, or of none: it takes a word of bus A, and gives one of bus B
abbrev pub sink_sees_form : Contents → Bus → ℕ → Option Form → Sink → Sink
sink_sees_form p bus.A word x k = takes_form p word x k
sink_sees_form p bus.B word x k = answers_form p.codes x k

-- what is implied after this sink and this observer have seen a word
abbrev pub with_counts : Observer → Sink → Implied
with_counts o k = record { sink = without_files k; begun = o.begun; parts = o.parts }

-- a word without form changes nothing
abbrev pub implies_form : Contents → Bus → ℕ → Option Form → Implied → Implied
implies_form p b word None k = k
implies_form p b word (Some x) k = with_counts (sees_form p b word (Some x) (observer_of k)) (sink_sees_form p b word (Some x) k.sink)

-- what is implied after one more recorded word
abbrev pub implies : Contents → Seen → Implied → Implied
implies p i k = implies_form p i.bus i.word (form_of p.codes i.bus i.word) k

abbrev pub implied : Contents → List Seen → Implied → Implied
implied p [] k = k
implied p (i ∷ items) k = implied p items (implies p i k)

-- ---- what it does

-- a file by its number and its length
abbrev pub size_of : FileBytes → Crossing
size_of f = record { number = f.number; bytes = length f.bytes }

-- the first of the files that cross
abbrev pub crossing_in : List FileBytes → Option Crossing
crossing_in [] = None
crossing_in (f ∷ fs) = Some (size_of f)

-- why a word of this form ends a block that is not good
abbrev pub why_at : Contents → Form → Sink → Option Why
why_at p (form.Eot flags check) k = why_bad p k.last k.count (block_in k.phase) check
why_at p _ k = None

-- by its phase; a negative answer is owed where the last word was an end word, for this reason
abbrev pub doing_in : ℕ → Option Why → SinkPhase → Doing
doing_in count reason Quiet = doing.Quiet
doing_in count reason OwesClear = doing.OwesClear count
doing_in count reason Granted = doing.Granted count
doing_in count reason (InBlock b) = doing.InBlock b.file b.ldu (length b.words) (count - 2)
doing_in count reason (OwesAck b flags) = doing.OwesAck b.file b.ldu
doing_in count reason OwesNak = doing.OwesNak (unwrap_or reason why.NoStart)

-- a sink that was the first of these acknowledges a link data unit, and is then the second
abbrev pub acknowledging : ℕ → ℕ → Sink → Sink → Doing
acknowledging file ldu old new =
    if is_same old.last (record { file = file; ldu = ldu })
    then doing.Again file ldu
    else doing.Accepts file ldu (crossing_in new.received.files)

-- by the form of the word, the sink before and the sink after
abbrev pub doing_after : Contents → Form → Sink → Sink → Doing
doing_after p (form.Ack file ldu) old new = acknowledging file ldu old new
doing_after p x old new = doing_in new.count (why_at p x old) new.phase

-- what it does after a word of this form
abbrev pub does : Contents → Bus → ℕ → Form → Sink → Doing
does p b word x k = doing_after p x k (sink_sees_form p b word (Some x) k)

-- ---- the files that cross

abbrev pub sizes_of : List FileBytes → List Crossing
sizes_of files = map size_of files

-- what crosses by what a sink does
abbrev pub crossings_of : Doing → List Crossing
crossings_of (doing.Accepts file ldu (Some crossing)) = crossing ∷ []
crossings_of _ = []
