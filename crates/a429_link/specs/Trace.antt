-- What a recording implies of its sink, which takes each word of bus A, and sends each answer of bus B, at the moment it is recorded.
use Rattle.std.specs.Prelude.{ℕ, List, [], ◌∷◌, None}
use Rattle.a429_word.specs.declared.bus.Bus.{Bus}
use Rattle.a429_word.specs.declared.bus.Bus.TheVariants as bus
use Rattle.a429_profile.specs.Profile.{Contents}
use Rattle.a429_link.specs.declared.file.FileBytes.{FileBytes}
use Rattle.a429_link.specs.declared.seen.Seen.{Seen}
use Rattle.a429_link.specs.Sink.{Sink, Quiet, answers_word, nothing_received, takes_word}

abbrev pub sink_at_first : Sink
sink_at_first = record { last = None; received = nothing_received; count = 0; phase = Quiet }

-- the sink after a recorded word
abbrev pub sink_sees : Contents → Bus → ℕ → Sink → Sink
sink_sees p bus.A word k = takes_word p word k
sink_sees p bus.B word k = answers_word p.codes word k

-- the sink after these recorded words
abbrev pub sink_after : Contents → List Seen → Sink → Sink
sink_after p [] k = k
sink_after p (i ∷ items) k = sink_after p items (sink_sees p i.bus i.word k)

-- the files that it delivers
abbrev pub files_of : Contents → List Seen → List FileBytes
files_of p items = (sink_after p items sink_at_first).received.files
