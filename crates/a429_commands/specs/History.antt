-- What `a429 history` puts and writes (profile).
use Rattle.std.specs.Prelude.{◌≡◌, ◌⊎◌, ◌++◌, ℕ, List, [], ◌∷◌, length, Bool, true, false, Option, Some, None, IfSome}
use Rattle.a429_profile.specs.Profile.{Contents}
use Rattle.a429_record.specs.declared.fault.ReadFault.{ReadFault}
use Rattle.a429_parts.specs.Keeping.{Taken}
use Rattle.a429_sink.specs.declared.summary.PieceSummary.{PieceSummary}
use Rattle.a429_sink.specs.declared.summary.Stopped.{Stopped}
use Rattle.a429_sink.specs.Pieces.{PutPieces}
use Rattle.a429_sink.specs.Splitting.{SplitsAll}
use Rattle.a429_view.specs.History.{caveat, history_text}
use Rattle.a429_commands.specs.declared.fault.RunFault.{RunFault}
use Rattle.a429_commands.specs.Ends.{Promise}
use Rattle.a429_commands.specs.Fault.{Causes, ComesBy, never}
use Rattle.a429_commands.specs.Profile.{IsProfileFault, IsProfileOf, IsSomeProfile}

-- the pieces that were put before and after a call, where they are known, and whether the receiver of the pieces has failed
pub record InPieces : Type 0 where
  pub old : Option PutPieces
  pub new : Option PutPieces
  pub failed : Bool

-- the same, from the receiver before and after the call
abbrev pub put_in : {P : Type 0} → (P → Option PutPieces) → (P → Bool) → P → P → InPieces
put_in known failed old new = record { old = known old; new = known new; failed = failed new }

-- the status is 1 where a piece stops
abbrev pub stop_status : Option Stopped → ℕ → ℕ
stop_status None others = others
stop_status (Some s) others = 1

abbrev pub history_status : List PieceSummary → ℕ
history_status [] = 0
history_status (t ∷ told) = stop_status t.stop (history_status told)

-- these bytes are a profile, the recording has no fault, its pieces under this profile were put, and these are their summaries
pub record IsHistory (profile : List ℕ) (t : Taken) (o : InPieces) (p : Contents) (told : List PieceSummary) : Type 0 where
  pub is_profile : IsProfileOf profile p
  pub splits : SplitsAll p t o.old o.new told

-- these are the status and the text of `history` for such a recording
pub record TellsHistory (profile : List ℕ) (t : Taken) (o : InPieces) (status : ℕ) (text : List ℕ) : Type 0 where
  pub contents : Contents
  pub told : List PieceSummary
  pub is : IsHistory profile t o contents told
  pub status_is : status ≡ history_status told
  pub text_is : text ≡ history_text contents.codes 1 told ++ caveat

-- this is the recording's fault, and all entries before it were handed out
abbrev pub IsNextIn : Taken → ReadFault → Type 0
IsNextIn t f = IfSome t.recording (λ r. (r.fault ≡ Some f) × (length r.entries ≡ t.given))

-- why nothing is written where the profile has no fault: the recording's fault; its reader, or the receiver of the pieces, has failed; or
-- out of memory
abbrev pub untold_causes : Taken → Bool → InPieces → Causes
untold_causes t failed o = record never { recording = IsNextIn t; device = (failed ≡ true) ⊎ (o.failed ≡ true); memory = Unit {0} }

-- nothing is written: the profile has a fault, and no piece was put; or the profile has none, and there is another fault
abbrev pub AreUntold : List ℕ → Taken → Bool → InPieces → RunFault → Type 0
AreUntold profile t failed o e = (IsProfileFault profile e × (o.new ≡ o.old)) ⊎ (IsSomeProfile profile × ComesBy (untold_causes t failed o) e)

-- `history` writes its text once all pieces were put
abbrev pub of_history : List ℕ → Taken → Bool → InPieces → Promise
of_history profile t failed o = record {
  says = λ status text. TellsHistory profile t o status text × (failed ≡ false) × (o.failed ≡ false);
  stops = λ e text. ⊥;
  begins = λ text. (status : ℕ) × TellsHistory profile t o status text;
  refuses = AreUntold profile t failed o;
}
