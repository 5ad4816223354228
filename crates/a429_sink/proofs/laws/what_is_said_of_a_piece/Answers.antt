use Rattle.std.proofs.Common.{List, Some, sym, subst}
use Rattle.a429_link.specs.declared.file.FileBytes.{FileBytes}
use Rattle.a429_link.specs.Run.{delivered_by}
use Rattle.a429_link.proofs.MessageRead.{is_read}
use Rattle.a429_sink.specs.Anywhere.{AreLastOf}
use Rattle.a429_sink.specs.History.{IsStop, sound_words}
use Rattle.a429_sink.proofs.AnywhereRuns.{files_crossed}
use Rattle.a429_sink.proofs.GlimpseRuns.{refused_anywhere}
use Rattle.a429_sink.proofs.HistoryFacts.{sound_stops_nowhere}
use Rattle.a429_sink.proofs.laws.what_is_said_of_a_piece.Goals as goal

pub returns-clause-sound : goal.returns-clause-sound
returns-clause-sound c = λ p piece t told. sound_stops_nowhere p piece t.stop told.stops

pub returns-clause-stop : goal.returns-clause-stop
returns-clause-stop c = λ p piece t k is told at. let stops : IsStop p piece (Some k) = subst (IsStop p piece) at told.stops in
    refused_anywhere p (is_read p is) piece k stops.0

pub returns-clause-files : goal.returns-clause-files
returns-clause-files c = λ p piece t r told e.
    subst (λ (files : List FileBytes). AreLastOf files (delivered_by r)) (sym told.sure)
    (files_crossed p (is_read p r.is_run.sound) r.first r.is_run.byte r.steps r.is_run.run e.before (sound_words piece t.stop) e.records)
