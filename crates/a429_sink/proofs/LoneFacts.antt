-- What is kept of a sink by itself.
use Rattle.std.proofs.Common.{◌≡◌, ℕ, ◌+◌, ◌≤◌, Bool, true, false, cond, List, [], length, Option, Some, refl, sym, ap, ◌∙◌, subst}
use Rattle.std.proofs.lemmas.Bool.{le-ltb}
use Rattle.a429_word.specs.declared.bus.Bus.{Bus}
use Rattle.a429_word.specs.declared.bus.Bus.TheVariants as bus
use Rattle.a429_profile.specs.Profile.{Contents}
use Rattle.a429_ldu.specs.Form.{form_of}
use Rattle.a429_ldu.specs.Sight.{form_in, sight_of}
use Rattle.a429_ldu.specs.declared.sight.Sight.{Sight}
use Rattle.a429_ldu.specs.declared.sight.Sight.TheVariants as sight
use Rattle.a429_ldu.proofs.SightFacts.{form_of-sight}
use Rattle.a429_ldu.specs.declared.forms.Form.{Form}
use Rattle.a429_ldu.specs.declared.forms.Form.TheVariants as form
use Rattle.a429_link.specs.declared.file.FileBytes.{FileBytes}
use Rattle.a429_link.specs.Implied.{Implied, implies_form}
use Rattle.a429_link.specs.Observer.{HasGrant}
use Rattle.a429_link.specs.Sink.{Block, EndWord, Granted, InBlock, IsAck, Number, OwesAck, OwesClear, OwesNak, Quiet, Sink, SinkPhase, at_end, end_word, in_phase, is_good, without_files}
use Rattle.a429_sink.specs.declared.fault.SinkFault.{SinkFault}
use Rattle.a429_sink.specs.declared.fault.SinkFault.TheVariants as fault
use Rattle.a429_sink.proofs.AloneFacts.{allows_answer}
use Rattle.a429_sink.specs.Lone.{IsFaultOf, IsFaultOn, IsCounted, IsCountedIn, capped, capped_in, keeps_form}

-- ---- what stays as it is

-- a sink from which no file has crossed has none to hand out
filed : (k : Sink) → k.received.files ≡ [] → without_files k ≡ k
filed k e = ap (λ (fs : List FileBytes). record k { received = record (k.received) { files = fs } }) (sym e)

stays : (k : Sink) (phase : SinkPhase) → k.received.files ≡ [] → phase ≡ k.phase → without_files (in_phase phase k) ≡ k
stays k phase files e = ap (λ (q : SinkPhase). without_files (in_phase q k)) e ∙ filed k files

-- a block that is counted is kept
kept_block : (count : ℕ) (b : Block) → length b.words + 2 ≤ count → capped_in count (InBlock b) ≡ InBlock b
kept_block count b le = rw (le-ltb count (length b.words + 2) le) refl

counted_phase : (count : ℕ) (begun : Bool) (parts : ℕ) (phase : SinkPhase)
    → IsCountedIn count begun parts phase → capped_in count phase ≡ phase
counted_phase count begun parts Quiet h = refl
counted_phase count begun parts OwesClear h = refl
counted_phase count begun parts Granted h = refl
counted_phase count begun parts (InBlock b) h = kept_block count b h.2
counted_phase count begun parts (OwesAck b flags) h = refl
counted_phase count begun parts OwesNak h = refl

pub counted_stays : (i : Implied) → i.sink.received.files ≡ [] → IsCounted i → without_files (capped i.sink) ≡ i.sink
counted_stays i files h =
    stays i.sink (capped_in i.sink.count i.sink.phase) files (counted_phase i.sink.count i.begun i.parts i.sink.phase h)

-- ---- an end word

end_owes : (p : Contents) (last : Option Number) (count : ℕ) (e : EndWord) (phase : SinkPhase) → HasGrant phase
    → (capped_in count (at_end p last count e phase) ≡ at_end p last count e phase)
    × ((begun : Bool) (parts : ℕ) → IsCountedIn count begun parts (at_end p last count e phase))
end_owes p last count e Granted g = (refl, λ begun parts. tt)
end_owes p last count e (InBlock b) g = by (is_good p last count b e.check)
  where
    by : (t : Bool)
        → (capped_in count (cond t (OwesAck b e.flags) OwesNak) ≡ cond t (OwesAck b e.flags) OwesNak)
        × ((begun : Bool) (parts : ℕ) → IsCountedIn count begun parts (cond t (OwesAck b e.flags) OwesNak))
    by true = (refl, λ begun parts. tt)
    by false = (refl, λ begun parts. tt)
end_owes p last count e Quiet g = absurd g
end_owes p last count e OwesClear g = absurd g
end_owes p last count e (OwesAck b flags) g = absurd g
end_owes p last count e OwesNak g = absurd g

pub end_is_kept : (p : Contents) (i : Implied) (flags check : ℕ) → HasGrant i.sink.phase
    → (implies_form p bus.A 0 (Some (form.Eot flags check)) i).sink ≡ keeps_form p bus.A 0 (Some (form.Eot flags check)) i.sink
end_is_kept p i flags check g =
    ap (λ (q : SinkPhase). without_files (in_phase q i.sink))
    (sym (end_owes p i.sink.last i.sink.count (end_word flags check) i.sink.phase g).0)

pub end_is_counted : (p : Contents) (i : Implied) (flags check : ℕ)
    → HasGrant i.sink.phase → IsCounted (implies_form p bus.A 0 (Some (form.Eot flags check)) i)
end_is_counted p i flags check g = (end_owes p i.sink.last i.sink.count (end_word flags check) i.sink.phase g).1 i.begun i.parts

-- ---- a word by what it is

pub form_seen : (p : Contents) (b : Bus) (w : ℕ) (s : Sight) → s ≡ sight_of p.codes b w → form_of p.codes b w ≡ form_in s
form_seen p b w s e = sym (ap form_in e ∙ form_of-sight p.codes b w)

pub fault_on : (p : Contents) (k : Sink) (w : ℕ) (x : Form) (f : SinkFault)
    → sight.Form x ≡ sight_of p.codes bus.B w → IsFaultOf k x f → IsFaultOn p k bus.B w f
fault_on p k w x fault.Refused e h = λ a. h ((allows_answer p k w (sight.Form x) e).0 a)
fault_on p k w x fault.OutOfMemory e h =
    ((allows_answer p k w (sight.Form x) e).1 h.0, subst IsAck (sym (form_seen p bus.B w (sight.Form x) e)) h.1)
