-- What is told of the pieces of a recording, and why nothing is.
use Rattle.std.proofs.Common.{◌≡◌, ◌⊎◌, List, length, Bool, true, Option, Some, None, IfSome, refl, sym, ap, ◌∙◌}
use Rattle.std.proofs.lemmas.List.{append-nil}
use Rattle.a429_profile.specs.Profile.{Contents}
use Rattle.a429_record.specs.declared.fault.ReadFault.{ReadFault}
use Rattle.a429_record.specs.declared.fault.ReadFault.TheVariants as read
use Rattle.a429_record.specs.declared.entry.Entry.{Entry}
use Rattle.a429_record.specs.Recording.{Recording, stops}
use Rattle.a429_parts.specs.Keeping.{Taken, with_entries}
use Rattle.a429_sink.specs.Pieces.{PutPieces}
use Rattle.a429_sink.specs.Splitting.{SplitsUntil}
use Rattle.a429_commands.specs.Fault.{ComesBy}
use Rattle.a429_commands.specs.History.{InPieces, untold_causes}
use Rattle.a429_commands.specs.Streaming.{reported}

-- ---- why nothing is told

module _ (p : Contents) (t : Taken) (first now : Option PutPieces) where
  -- the recording's fault comes after the entries that were handed out
  next_in : (f : ReadFault) (entries : List Entry) (known : Option Recording)
      → t.given ≡ length entries → IfSome known (λ r. (rest : Recording) × (r ≡ with_entries entries rest) × (rest ≡ stops f))
      → IfSome known (λ r. (r.fault ≡ Some f) × (length r.entries ≡ t.given))
  next_in f entries None came h = tt
  next_in f entries (Some r) came (rest, is, all) =
      let whole : r ≡ with_entries entries (stops f) = is ∙ ap (with_entries entries) all in
      (ap (λ (x : Recording). x.fault) whole, ap (λ (x : Recording). length x.entries) whole ∙ ap length (append-nil entries) ∙ sym came)

  pub untold : (failed : Bool) (o : InPieces) (f : ReadFault) → SplitsUntil p t first now f
      → (f ≡ read.Device → (failed ≡ true) ⊎ (o.failed ≡ true)) → ComesBy (untold_causes t failed o) (reported f)
  untold failed o read.Device until device = device refl
  untold failed o read.OutOfMemory until device = tt
  untold failed o read.Header until device = next_in read.Header until.entries t.recording until.came until.stops
  untold failed o (read.Row i) until device = next_in (read.Row i) until.entries t.recording until.came until.stops
  untold failed o (read.TimeBack i) until device = next_in (read.TimeBack i) until.entries t.recording until.came until.stops
  untold failed o read.TooMany until device = next_in read.TooMany until.entries t.recording until.came until.stops
  untold failed o read.Failed until device = next_in read.Failed until.entries t.recording until.came until.stops
