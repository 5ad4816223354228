-- The words of the observer's block.
use Rattle.std.proofs.Common.{ℕ, ◌≡◌, ◌≤◌, ◌++◌, Bool, true, false, cond, List, [], ◌∷◌, length, slice_index, Option, refl, ap, ◌∙◌, arith}
use Rattle.a429_profile.specs.Profile.{Contents}
use Rattle.a429_ldu.specs.declared.semis.Semis.{Semis}
use Rattle.a429_ldu.specs.declared.forms.Form.{Form}
use Rattle.a429_ldu.specs.declared.forms.Form.TheVariants.{Rts, Cts, Ack, Nak, Sot, Part, Eot}
use Rattle.a429_link.specs.Sink.{Number, Sink, SinkPhase, Quiet, OwesClear, Granted, InBlock, OwesAck, OwesNak, SinkSide, at_start, at_end, is_good, kept_words, takes, empty_block, Received}
use Rattle.a429_link.specs.State.{rest}
use Rattle.a429_link.specs.Sink.{end_word}
use Rattle.a429_link.specs.Observer.{KeepsRecorded}

start_keeps : (gfi file ldu : ℕ) (kp : SinkPhase) (n : ℕ)
    → length (kept_words kp) ≤ n → length (kept_words (at_start (empty_block gfi file ldu) kp)) ≤ n
start_keeps g f l Quiet n h = h
start_keeps g f l OwesClear n h = h
start_keeps g f l Granted n h = omega arith
start_keeps g f l (InBlock old) n h = omega arith
start_keeps g f l (OwesAck old flags) n h = h
start_keeps g f l OwesNak n h = h

end_keeps : (p : Contents) (last : Option Number) (count flags check : ℕ) (kp : SinkPhase) (n : ℕ)
    → length (kept_words kp) ≤ n → length (kept_words (at_end p last count (end_word flags check) kp)) ≤ n
end_keeps p last count flags check Quiet n h = h
end_keeps p last count flags check OwesClear n h = h
end_keeps p last count flags check Granted n h = h
end_keeps p last count flags check (InBlock b) n h = by (is_good p last count b check)
  where
    by : (t : Bool) → length (kept_words (cond t (OwesAck b flags) OwesNak)) ≤ n
    by true = h
    by false = omega arith
end_keeps p last count flags check (OwesAck b f) n h = h
end_keeps p last count flags check OwesNak n h = h

-- the sink that is watched: without delivered files and without words on their way, and what it keeps was recorded
abbrev pub IsWatched : SinkSide → ℕ → Type 0
IsWatched k n = (k.sink.received.files ≡ []) × (k.to_sink ≡ []) × KeepsRecorded k.sink.phase n

keeps_others : (p : Contents) (w : ℕ) (x : Form) (k : Sink) (n : ℕ)
    → ((s : Semis) → x ≡ Part s → ⊥) → KeepsRecorded k.phase n → KeepsRecorded (takes p w x k).phase n
keeps_others p w (Rts c) k n o h = (omega arith, h.1)
keeps_others p w (Cts c) k n o h = h
keeps_others p w (Ack f l) k n o h = h
keeps_others p w (Nak b) k n o h = h
keeps_others p w (Sot g f l) k n o h = (start_keeps g f l k.phase n h.0, h.1)
keeps_others p w (Part s) k n o h = absurd (o s refl)
keeps_others p w (Eot f c) k n o h = (end_keeps p k.last k.count f c k.phase n h.0, h.1)

pub files_stay : (p : Contents) (w : ℕ) (x : Form) (k : Sink) → (takes p w x k).received ≡ k.received
files_stay p w (Rts c) k = refl
files_stay p w (Cts c) k = refl
files_stay p w (Ack f l) k = refl
files_stay p w (Nak b) k = refl
files_stay p w (Sot g f l) k = refl
files_stay p w (Part s) k = refl
files_stay p w (Eot f c) k = refl

-- the sink that has taken the first word on its way
abbrev pub after_taking : Contents → Form → SinkSide → SinkSide
after_taking p x k = record { sink = takes p (slice_index k.to_sink 0) x k.sink; to_sink = rest k.to_sink }

-- a word that is no data word adds none
pub others_watched : (p : Contents) (w : ℕ) (x : Form) (k : SinkSide) (n : ℕ)
    → ((s : Semis) → x ≡ Part s → ⊥) → IsWatched k n → IsWatched (after_taking p x (record k { to_sink = k.to_sink ++ w ∷ [] })) n
others_watched p w x k n o h = (
  ap (λ (r : Received). r.files) (files_stay p _ x k.sink) ∙ h.0,
  ap (λ (ws : List ℕ). rest (ws ++ w ∷ [])) h.1,
  keeps_others p _ x k.sink n o h.2,
)
