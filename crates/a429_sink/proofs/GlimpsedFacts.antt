-- What is kept of a sink where the recording begins anywhere.
use Rattle.std.proofs.Common.{◌≡◌, ◌↔◌, ◌⊎◌, ℕ, Bool, true, false, cond, eqb, not, ◌&&◌, List, [], ◌++◌, append-nil, Option, Some, None, option_map, unwrap_or, refl, sym, ap, ◌∙◌, subst, inl, inr}
use Rattle.std.proofs.lemmas.Bool.{and_parts}
use Rattle.a429_word.specs.declared.bus.Bus.{Bus}
use Rattle.a429_word.specs.declared.bus.Bus.TheVariants as bus
use Rattle.a429_profile.specs.Profile.{Contents}
use Rattle.a429_profile.specs.declared.codes.Codes.{Codes}
use Rattle.a429_ldu.specs.Carried.{bytes_in}
use Rattle.a429_ldu.specs.Form.{form_of, is_free}
use Rattle.a429_ldu.specs.Ldu.{is_final}
use Rattle.a429_ldu.specs.Sight.{sight_in, sight_of}
use Rattle.a429_ldu.specs.declared.sight.Sight.{Sight}
use Rattle.a429_ldu.specs.declared.sight.Sight.TheVariants as sight
use Rattle.a429_ldu.specs.declared.forms.Form.{Form}
use Rattle.a429_ldu.specs.declared.forms.Form.TheVariants as form
use Rattle.a429_link.specs.declared.file.FileBytes.{FileBytes}
use Rattle.a429_link.specs.declared.number.UnitNumber.{UnitNumber}
use Rattle.a429_link.specs.declared.seen.Seen.{Seen}
use Rattle.a429_link.specs.declared.sink.Latest.{Latest}
use Rattle.a429_link.specs.Implied.{Implied, implies_form, observer_of}
use Rattle.a429_link.specs.Observer.{AllowsForm, HasGrant, Observer}
use Rattle.a429_link.specs.Sink.{Block, Granted, InBlock, IsAck, MayAnswer, Number, OwesAck, OwesClear, OwesNak, Quiet, Received, Sink, SinkPhase, accepts_owed, answers, at_end, at_part, at_start, emptied, empty_block, end_word, is_good, is_same, is_same_file, latest_number, number_of, owed_unit, put, received_for, with_last}
use Rattle.a429_link.proofs.NumberFacts.{number_same}
use Rattle.a429_link.proofs.StateConfigs.{acks_count}
use Rattle.a429_sink.specs.declared.fault.SinkFault.{SinkFault}
use Rattle.a429_sink.specs.declared.fault.SinkFault.TheVariants as fault
use Rattle.a429_sink.specs.declared.glimpsed.Accepted.{Accepted}
use Rattle.a429_sink.specs.declared.glimpsed.GlimpsedSink.{GlimpsedSink}
use Rattle.a429_sink.specs.declared.glimpsed.UnitStep.{UnitStep}
use Rattle.a429_sink.specs.declared.glimpsed.UnitStep.TheVariants as step
use Rattle.a429_sink.specs.Anywhere.{Glimpse, GlimpseAllows, GlimpseAllowsForm, Known, acked_in, acknowledges, bytes_with, closes, ends_block, glimpses, glimpses_form, glimpses_known, is_known, is_known_file, joins, known_in, learns_form, more_bytes}
use Rattle.a429_sink.specs.Glimpsed.{FollowsForm, FollowsWord, IsGlimpseFault, IsGlimpseFaultOf, IsKnownIn, IsPhaseKnown, assumed_for, bytes_if, glimpse_of, is_whole_with, step_to, unit_by, unit_in}

-- ---- what the words so far allow does not rest on the unit accepted last

abbrev pub masked : Option Number → Implied → Observer
masked last i = record (observer_of i) { last = last }

-- the sink where another unit is taken for the one accepted last
abbrev pub assuming : Option Number → Implied → Implied
assuming last i = record i { sink = with_last last i.sink }

abbrev pub seen_by : Option Number → Implied → Glimpse
seen_by last i = record { known = true; observer = masked last i }

-- ---- phases

start_known : (b : Block) (q t : SinkPhase) → HasGrant q → IsPhaseKnown q t → IsPhaseKnown (at_start b q) (at_start b t)
start_known b Granted t g h = ap (at_start b) h
start_known b (InBlock c) t g h = ap (at_start b) h
start_known b Quiet t g h = absurd g
start_known b OwesClear t g h = absurd g
start_known b (OwesAck c f) t g h = absurd g
start_known b OwesNak t g h = absurd g

part_known : (w : ℕ) (q t : SinkPhase) → HasGrant q → IsPhaseKnown q t → IsPhaseKnown (at_part w q) (at_part w t)
part_known w Granted t g h = ap (at_part w) h
part_known w (InBlock c) t g h = ap (at_part w) h
part_known w Quiet t g h = absurd g
part_known w OwesClear t g h = absurd g
part_known w (OwesAck c f) t g h = absurd g
part_known w OwesNak t g h = absurd g

end_known : (p : Contents) (last : Option Number) (count flags check : ℕ) (q t : SinkPhase)
    → HasGrant q → IsPhaseKnown q t → IsPhaseKnown (at_end p last count (end_word flags check) q) (ends_block flags t)
end_known p last count flags check Granted t g h = tt
end_known p last count flags check (InBlock b) t g h = by (is_good p last count b check)
  where
    by : (m : Bool) → IsPhaseKnown (cond m (OwesAck b flags) OwesNak) (ends_block flags t)
    by true = ap (ends_block flags) h
    by false = tt
end_known p last count flags check Quiet t g h = absurd g
end_known p last count flags check OwesClear t g h = absurd g
end_known p last count flags check (OwesAck b f) t g h = absurd g
end_known p last count flags check OwesNak t g h = absurd g

word_phase : (p : Contents) (i : Implied) (w : ℕ) (x : Form) (t : Known)
    → AllowsForm (observer_of i) bus.A (Some x) → IsPhaseKnown i.sink.phase t.phase
    → IsPhaseKnown (implies_form p bus.A w (Some x) i).sink.phase (learns_form p bus.A w (Some x) t).phase
word_phase p i w (form.Rts n) t a h = tt
word_phase p i w (form.Sot gfi file ldu) t a h = start_known (empty_block gfi file ldu) i.sink.phase t.phase a.0 h
word_phase p i w (form.Part semis) t a h = part_known w i.sink.phase t.phase a.0 h
word_phase p i w (form.Eot flags check) t a h = end_known p i.sink.last i.sink.count flags check i.sink.phase t.phase a h
word_phase p i w (form.Cts n) t a h = absurd a
word_phase p i w (form.Ack file ldu) t a h = absurd a
word_phase p i w (form.Nak bits) t a h = absurd a

-- ---- a word of bus A

-- nothing but the phase changes
pub record OnlyPhase (p : Contents) (w : ℕ) (x : Form) (i : Implied) (t : Known) : Type 0 where
  pub last : (learns_form p bus.A w (Some x) t).last ≡ t.last
  pub bytes : (learns_form p bus.A w (Some x) t).bytes ≡ t.bytes
  pub held : (implies_form p bus.A w (Some x) i).sink.received.open_bytes ≡ i.sink.received.open_bytes
  pub files : (learns_form p bus.A w (Some x) t).files ≡ t.files
  pub unit : (c : Codes) → None ≡ unit_by c bus.A (Some x) t

only_phase : (p : Contents) (w : ℕ) (x : Form) (i : Implied) (t : Known) → OnlyPhase p w x i t
only_phase p w (form.Rts n) i t = record { last = refl; bytes = refl; held = refl; files = refl; unit = λ c. refl }
only_phase p w (form.Sot gfi file ldu) i t = record { last = refl; bytes = refl; held = refl; files = refl; unit = λ c. refl }
only_phase p w (form.Part semis) i t = record { last = refl; bytes = refl; held = refl; files = refl; unit = λ c. refl }
only_phase p w (form.Eot flags check) i t = record { last = refl; bytes = refl; held = refl; files = refl; unit = λ c. refl }
only_phase p w (form.Cts n) i t = record { last = refl; bytes = refl; held = refl; files = refl; unit = λ c. refl }
only_phase p w (form.Ack file ldu) i t = record { last = refl; bytes = refl; held = refl; files = refl; unit = λ c. refl }
only_phase p w (form.Nak bits) i t = record { last = refl; bytes = refl; held = refl; files = refl; unit = λ c. refl }

abbrev pub with_sink : Implied → GlimpsedSink → GlimpsedSink
with_sink i s = record s { implied = i }

pub word_follows : (p : Contents) (w : ℕ) (x : Form) (l : Option Number) (s : GlimpsedSink)
    → s.is_known ≡ true → AllowsForm (observer_of s.implied) bus.A (Some x)
    → FollowsForm p bus.A w (Some x) s (with_sink (implies_form p bus.A w (Some x) (assuming l s.implied)) s) None
word_follows p w x l s e a k h =
    let only = only_phase p w x (assuming l s.implied) k in
    let known = subst (λ (t : Bool). IsKnownIn t s.implied.sink.phase k) e h.phase in
    record {
      known = record {
        filed = refl;
        phase =
            subst (λ (t : Bool).
            IsKnownIn t (implies_form p bus.A w (Some x) (assuming l s.implied)).sink.phase (learns_form p bus.A w (Some x) k))
            (sym e) (word_phase p (assuming l s.implied) w x k (allowed_as x a) known);
        last = only.last ∙ h.last;
        bytes = only.bytes ∙ h.bytes ∙ ap (bytes_if s.is_whole) (sym only.held);
      };
      unit = only.unit p.codes;
      files = only.files ∙ sym (append-nil k.files);
    }
  where
    allowed_as : (x : Form)
        → AllowsForm (observer_of s.implied) bus.A (Some x) → AllowsForm (observer_of (assuming l s.implied)) bus.A (Some x)
    allowed_as (form.Rts n) h = h
    allowed_as (form.Sot gfi file ldu) h = h
    allowed_as (form.Part semis) h = h
    allowed_as (form.Eot flags check) h = h
    allowed_as (form.Cts n) h = h
    allowed_as (form.Ack file ldu) h = h
    allowed_as (form.Nak bits) h = h

-- ---- an acknowledgement

-- a block for which it is owed, with these flags
pub record OwesFor (q : SinkPhase) (file ldu : ℕ) : Type 0 where
  pub block : Block
  pub flags : ℕ
  pub owed : q ≡ OwesAck block flags

pub ack_owed : (count : ℕ) (q : SinkPhase) (file ldu : ℕ) → MayAnswer count q (form.Ack file ldu) → OwesFor q file ldu
ack_owed count (OwesAck b f) file ldu h = record { block = b; flags = f; owed = refl }
ack_owed count Quiet file ldu h = absurd h
ack_owed count OwesClear file ldu h = absurd h
ack_owed count Granted file ldu h = absurd h
ack_owed count (InBlock b) file ldu h = absurd h
ack_owed count OwesNak file ldu h = absurd h

-- what is acknowledged is the unit that is owed
acked_unit : (c : Codes) (q : SinkPhase) (last : Option Number) (n : Number) → owed_unit c q ≡ Some n → acked_in c q last ≡ Some n
acked_unit c (OwesAck b f) last n e = e
acked_unit c Quiet last n e = absurd (cc e)
acked_unit c OwesClear last n e = absurd (cc e)
acked_unit c Granted last n e = absurd (cc e)
acked_unit c (InBlock b) last n e = absurd (cc e)
acked_unit c OwesNak last n e = absurd (cc e)

pub ack_seen : (p : Contents) (last assumed : Option Number) (i : Implied) (w file ldu : ℕ) (n : Number)
    → owed_unit p.codes i.sink.phase ≡ Some n
    → seen_by (Some n) (implies_form p bus.B 0 (Some (form.Ack file ldu)) (assuming assumed i))
    ≡ glimpses_form p bus.B w (Some (form.Ack file ldu)) (seen_by last i)
ack_seen p last assumed i w file ldu n e =
    ap (λ (m : ℕ). record { known = true; observer = record { last = Some n; count = m; phase = Quiet; begun = i.begun; parts = i.parts } })
    (acks_count p.codes i.sink.phase (with_last assumed i.sink))
    ∙ ap (λ (l : Option Number). record {
      known = true;
      observer = record { last = l; count = i.sink.count; phase = Quiet; begun = i.begun; parts = i.parts };
    }) (sym (acked_unit p.codes i.sink.phase last n e))

-- what is known of the unit accepted last
known_as : (l : Option Latest) (n : UnitNumber)
    → is_known (option_map (λ (m : Latest). m.number) l) n ≡ is_same (option_map latest_number l) n
known_as None n = refl
known_as (Some m) n = refl

file_as : (l : Option Latest) (file : ℕ)
    → is_known_file (option_map (λ (m : Latest). m.number) l) file ≡ is_same_file (option_map latest_number l) file
file_as None file = refl
file_as (Some m) file = refl

-- ---- what is received with a unit that is accepted

-- the unit of this block, with these flags
abbrev pub unit_with : Codes → Block → ℕ → Number
unit_with c b flags = record { number = number_of b; final = is_final c flags }

-- what is received where the sink acknowledges the block in this phase, and this is taken for the unit accepted last
abbrev pub received_with : Codes → SinkPhase → Option Number → Sink → Received
received_with c q assumed k = (accepts_owed c q (with_last assumed k)).received

rec_again : (c : Codes) (b : Block) (flags : ℕ) (k : Sink) → received_with c (OwesAck b flags) (Some (unit_with c b flags)) k ≡ k.received
rec_again c b flags k =
    let l = with_last (Some (unit_with c b flags)) k in
    ap (λ (t : Bool).
    (cond t l (record l {
      last = Some (unit_with c b flags);
      received = put b.file (bytes_in c b.words) (is_final c flags) (received_for l.last b.file l.received);
    })).received) (number_same (number_of b))

rec_next : (c : Codes) (b : Block) (flags : ℕ) (last : Option Number) (k : Sink)
    → is_same last (number_of b) ≡ false → is_same_file last b.file ≡ true
    → received_with c (OwesAck b flags) last k ≡ put b.file (bytes_in c b.words) (is_final c flags) k.received
rec_next c b flags last k other file =
    let l = with_last last k in
    ap (λ (t : Bool).
    (cond t l (record l {
      last = Some (unit_with c b flags);
      received = put b.file (bytes_in c b.words) (is_final c flags) (received_for last b.file k.received);
    })).received) other
    ∙ ap (λ (t : Bool). put b.file (bytes_in c b.words) (is_final c flags) (cond t k.received (emptied k.received))) file

-- ---- what is known with it

-- what is known, with the unit of this block, is this
record Joined (c : Codes) (b : Block) (flags : ℕ) (k : Known) (r : Received) (whole : Bool) : Type 0 where
  last : (joins c b flags k).last ≡ Some (number_of b)
  bytes : (joins c b flags k).bytes ≡ bytes_if whole r.open_bytes
  files : (joins c b flags k).files ≡ k.files ++ r.files

-- the same of a file whose last unit this is, or not
record Closed (final : Bool) (n : UnitNumber) (known : Option (List ℕ)) (k : Known) (r : Received) (whole : Bool) : Type 0 where
  last : (closes final n known k).last ≡ Some n
  bytes : (closes final n known k).bytes ≡ bytes_if whole r.open_bytes
  files : (closes final n known k).files ≡ k.files ++ r.files

closes_known : (final : Bool) (n : UnitNumber) (earlier bytes : List ℕ) (k : Known)
    → Closed final n (Some (earlier ++ bytes)) k (put n.file bytes final (record { files = []; open_bytes = earlier })) (not final)
closes_known true n earlier bytes k = record { last = refl; bytes = refl; files = refl }
closes_known false n earlier bytes k = record { last = refl; bytes = refl; files = sym (append-nil k.files) }

closes_unknown : (final : Bool) (n : UnitNumber) (held : List ℕ) (k : Known)
    → Closed final n None k (record { files = []; open_bytes = held }) false
closes_unknown true n held k = record { last = refl; bytes = refl; files = sym (append-nil k.files) }
closes_unknown false n held k = record { last = refl; bytes = refl; files = sym (append-nil k.files) }

joined_new : (c : Codes) (b : Block) (flags : ℕ) (k : Known) (r : Received) (whole : Bool) (bytes : Option (List ℕ))
    → is_known k.last (number_of b) ≡ false → bytes_with c (number_of b) (bytes_in c b.words) k ≡ bytes
    → Closed (is_final c flags) (number_of b) bytes k r whole → Joined c b flags k r whole
joined_new c b flags k r whole bytes new e h =
    let f : Known → Type 0 =
    λ t. (t.last ≡ Some (number_of b)) × (t.bytes ≡ bytes_if whole r.open_bytes) × (t.files ≡ k.files ++ r.files) in
    let is : joins c b flags k ≡ closes (is_final c flags) (number_of b) bytes k =
    ap (λ (t : Bool).
    cond t (known_in Quiet k) (closes (is_final c flags) (number_of b) (bytes_with c (number_of b) (bytes_in c b.words) k) k)) new
    ∙ ap (λ (xs : Option (List ℕ)). closes (is_final c flags) (number_of b) xs k) e in
    let all = subst f (sym is) (h.last, h.bytes, h.files) in
    record { last = all.0; bytes = all.1; files = all.2 }

-- the first of a file
joined_first : (c : Codes) (b : Block) (flags : ℕ) (k : Known) (held : List ℕ)
    → is_known k.last (number_of b) ≡ false → eqb b.ldu c.first_ldu ≡ true
    → Joined c b flags k (put b.file (bytes_in c b.words) (is_final c flags) (emptied (record { files = []; open_bytes = held })))
    (not (is_final c flags))
joined_first c b flags k held new first =
    joined_new c b flags k _ _ (Some (bytes_in c b.words)) new
    (ap (λ (t : Bool).
    cond t (Some (bytes_in c b.words)) (cond (is_known_file k.last b.file) (more_bytes (bytes_in c b.words) k.bytes) None)) first)
    (closes_known (is_final c flags) (number_of b) [] (bytes_in c b.words) k)

-- one that goes on with a file of which all bytes are known
joined_next : (c : Codes) (b : Block) (flags : ℕ) (k : Known) (held : List ℕ)
    → is_known k.last (number_of b) ≡ false → eqb b.ldu c.first_ldu ≡ false → is_known_file k.last b.file ≡ true → k.bytes ≡ Some held
    → Joined c b flags k (put b.file (bytes_in c b.words) (is_final c flags) (record { files = []; open_bytes = held }))
    (not (is_final c flags))
joined_next c b flags k held new first file bytes =
    joined_new c b flags k _ _ (Some (held ++ bytes_in c b.words)) new
    (ap (λ (t : Bool).
    cond t (Some (bytes_in c b.words)) (cond (is_known_file k.last b.file) (more_bytes (bytes_in c b.words) k.bytes) None)) first
    ∙ ap (λ (t : Bool). cond t (more_bytes (bytes_in c b.words) k.bytes) None) file
    ∙ ap (more_bytes (bytes_in c b.words)) bytes)
    (closes_known (is_final c flags) (number_of b) held (bytes_in c b.words) k)

-- one of a file of which not all bytes are known
joined_unknown : (c : Codes) (b : Block) (flags : ℕ) (k : Known) (held : List ℕ) (whole : Bool)
    → is_known k.last (number_of b) ≡ false → eqb b.ldu c.first_ldu ≡ false → (whole && is_known_file k.last b.file) ≡ false
    → k.bytes ≡ bytes_if whole held → Joined c b flags k (record { files = []; open_bytes = held }) false
joined_unknown c b flags k held whole new first file bytes =
    joined_new c b flags k _ _ None new
    (ap (λ (t : Bool).
    cond t (Some (bytes_in c b.words)) (cond (is_known_file k.last b.file) (more_bytes (bytes_in c b.words) k.bytes) None)) first
    ∙ ap (λ (xs : Option (List ℕ)). cond (is_known_file k.last b.file) (more_bytes (bytes_in c b.words) xs) None) bytes
    ∙ none whole (is_known_file k.last b.file) file)
    (closes_unknown (is_final c flags) (number_of b) held k)
  where
    none : (whole known : Bool) → (whole && known) ≡ false → cond known (more_bytes (bytes_in c b.words) (bytes_if whole held)) None ≡ None
    none false false e = refl
    none false true e = refl
    none true false e = refl
    none true true e = absurd (cc e)

-- ---- how its bytes come to those of its file

abbrev pub StepFacts : UnitStep → Bool → Bool → Bool → Type 0
StepFacts step.Again same first next = same ≡ true
StepFacts step.First same first next = (same ≡ false) × (first ≡ true)
StepFacts step.Next same first next = (same ≡ false) × (first ≡ false) × (next ≡ true)
StepFacts step.Unknown same first next = (same ≡ false) × (first ≡ false) × (next ≡ false)

step_facts : (same first next : Bool)
    → StepFacts (cond same step.Again (cond first step.First (cond next step.Next step.Unknown))) same first next
step_facts true first next = refl
step_facts false true next = (refl, refl)
step_facts false false true = (refl, refl, refl)
step_facts false false false = (refl, refl, refl)

-- it comes for the first time
abbrev pub IsNew : UnitStep → Type 0
IsNew step.Again = ⊥
IsNew _ = Unit {0}

-- what is received with the unit of this block, by its step, and what is known then
joined_by : (c : Codes) (b : Block) (flags : ℕ) (k : Known) (l : Option Latest) (whole : Bool) (s : Sink) (st : UnitStep)
    → k.last ≡ option_map (λ (n : Latest). n.number) l → k.bytes ≡ bytes_if whole s.received.open_bytes → s.received.files ≡ []
    → StepFacts st (is_same (option_map latest_number l) (number_of b)) (eqb b.ldu c.first_ldu)
    (whole && is_same_file (option_map latest_number l) b.file)
    → IsNew st
    → Joined c b flags k (received_with c (OwesAck b flags) (assumed_for (option_map latest_number l) (unit_with c b flags) st) s)
    (is_whole_with st && not (is_final c flags))
joined_by c b flags k l whole s step.Again last bytes none h o = absurd o
joined_by c b flags k l whole s step.First last bytes none h o =
    subst (λ (fs : List FileBytes). Joined c b flags k
    (put b.file (bytes_in c b.words) (is_final c flags) (emptied (record { files = fs; open_bytes = s.received.open_bytes })))
    (not (is_final c flags)))
    (sym none)
    (joined_first c b flags k s.received.open_bytes
    (ap (λ (q : Option UnitNumber). is_known q (number_of b)) last ∙ known_as l (number_of b) ∙ h.0) h.1)
joined_by c b flags k l whole s step.Next last bytes none h o =
    let next = and_parts whole (is_same_file (option_map latest_number l) b.file) h.2 in
    subst (λ (r : Received). Joined c b flags k r (not (is_final c flags)))
    (sym (rec_next c b flags (option_map latest_number l) s h.0 next.1))
    (subst (λ (fs : List FileBytes).
    Joined c b flags k (put b.file (bytes_in c b.words) (is_final c flags) (record { files = fs; open_bytes = s.received.open_bytes }))
    (not (is_final c flags))) (sym none)
    (joined_next c b flags k s.received.open_bytes
    (ap (λ (q : Option UnitNumber). is_known q (number_of b)) last ∙ known_as l (number_of b) ∙ h.0) h.1
    (ap (λ (q : Option UnitNumber). is_known_file q b.file) last ∙ file_as l b.file ∙ next.1)
    (bytes ∙ ap (λ (t : Bool). bytes_if t s.received.open_bytes) next.0)))
joined_by c b flags k l whole s step.Unknown last bytes none h o =
    subst (λ (r : Received). Joined c b flags k r false) (sym (rec_again c b flags s))
    (subst (λ (fs : List FileBytes). Joined c b flags k (record { files = fs; open_bytes = s.received.open_bytes }) false) (sym none)
    (joined_unknown c b flags k s.received.open_bytes whole
    (ap (λ (q : Option UnitNumber). is_known q (number_of b)) last ∙ known_as l (number_of b) ∙ h.0) h.1
    (ap (λ (t : Bool). whole && t) (ap (λ (q : Option UnitNumber). is_known_file q b.file) last ∙ file_as l b.file) ∙ h.2)
    bytes))

-- ---- what follows with it

-- the sink of these is acknowledged a unit, this being taken for the unit accepted last
abbrev pub acked_with : Contents → ℕ → ℕ → Option Number → Implied → Implied
acked_with p file ldu assumed i = implies_form p bus.B 0 (Some (form.Ack file ldu)) (assuming assumed i)

-- the files that cross by it
abbrev pub received_with_files : Contents → ℕ → ℕ → Option Number → Implied → List FileBytes
received_with_files p file ldu assumed i = (answers p.codes (form.Ack file ldu) (with_last assumed i.sink)).received.files

-- the block that it is
block_is : (c : Codes) (q : SinkPhase) (unit : Latest)
    → owed_unit c q ≡ Some (latest_number unit) → (b : Block) (flags : ℕ) → q ≡ OwesAck b flags → latest_number unit ≡ unit_with c b flags
block_is c q unit e b flags owed = some_is (sym e ∙ ap (owed_unit c) owed)
  where
    some_is : {x y : Number} → Some x ≡ Some y → x ≡ y
    some_is {x} {y} h = ap (λ (o : Option Number). unwrap_or o x) h

-- a unit that comes for the first time is accepted
pub new_follows : (p : Contents) (w file ldu : ℕ) (s : GlimpsedSink) (st : UnitStep) (said : Accepted)
    → s.is_known ≡ true → MayAnswer s.implied.sink.count s.implied.sink.phase (form.Ack file ldu)
    → owed_unit p.codes s.implied.sink.phase ≡ Some (latest_number said.unit)
    → st ≡ step_to p.codes s.is_whole (option_map latest_number s.last) said.unit.number → IsNew st
    → said.files.items
    ≡ received_with_files p file ldu (assumed_for (option_map latest_number s.last) (latest_number said.unit) st) s.implied
    → FollowsForm p bus.B w (Some (form.Ack file ldu)) s (record s {
      implied = acked_with p file ldu (assumed_for (option_map latest_number s.last) (latest_number said.unit) st) s.implied;
      last = Some said.unit;
      is_whole = is_whole_with st && not said.unit.is_final;
    }) (Some said)
new_follows p w file ldu s st said e a owed is_st new files k h =
    let o = ack_owed s.implied.sink.count s.implied.sink.phase file ldu a in
    let b = o.block in
    let c = p.codes in
    let n = block_is c s.implied.sink.phase said.unit owed b o.flags o.owed in
    let last = option_map latest_number s.last in
    let known = subst (λ (t : Bool). IsKnownIn t s.implied.sink.phase k) e h.phase in
    let phase : k.phase ≡ OwesAck b o.flags = subst (λ (q : SinkPhase). IsPhaseKnown q k.phase) o.owed known in
    let facts : StepFacts st (is_same last (number_of b)) (eqb b.ldu c.first_ldu) (s.is_whole && is_same_file last b.file) =
    subst (λ (m : Number).
    StepFacts st (is_same last m.number) (eqb m.number.ldu c.first_ldu) (s.is_whole && is_same_file last m.number.file)) n
    (subst (λ (t : UnitStep). StepFacts t (is_same last said.unit.number) (eqb said.unit.number.ldu c.first_ldu)
    (s.is_whole && is_same_file last said.unit.number.file)) (sym is_st)
    (step_facts (is_same last said.unit.number) (eqb said.unit.number.ldu c.first_ldu)
    (s.is_whole && is_same_file last said.unit.number.file))) in
    let joined = joined_by c b o.flags k s.last s.is_whole s.implied.sink st h.last h.bytes h.filed facts new in
    let rec : received_with c (OwesAck b o.flags) (assumed_for last (unit_with c b o.flags) st) s.implied.sink
    ≡ received_with c s.implied.sink.phase (assumed_for last (latest_number said.unit) st) s.implied.sink =
    sym (ap (λ (m : Number). received_with c s.implied.sink.phase (assumed_for last m st) s.implied.sink) n
    ∙ ap (λ (q : SinkPhase). received_with c q (assumed_for last (unit_with c b o.flags) st) s.implied.sink) o.owed) in
    let final : is_final c o.flags ≡ said.unit.is_final = sym (ap (λ (m : Number). m.final) n) in
    let number : number_of b ≡ said.unit.number = sym (ap (λ (m : Number). m.number) n) in
    let acks : joins c b o.flags k ≡ acknowledges c k.phase k = sym (ap (λ (q : SinkPhase). acknowledges c q k) phase) in
    let new_k : is_known k.last (number_of b) ≡ false =
    ap (λ (q : Option UnitNumber). is_known q (number_of b)) h.last ∙ known_as s.last (number_of b) ∙ not_same st new _ _ _ facts in
    record {
      known = record {
        filed = refl;
        phase = subst (λ (t : Bool). IsKnownIn t Quiet (acknowledges c k.phase k)) (sym e) tt;
        last = ap (λ (t : Known). t.last) (sym acks) ∙ joined.last ∙ ap (λ (m : UnitNumber). Some m) number;
        bytes = ap (λ (t : Known). t.bytes) (sym acks) ∙ joined.bytes
            ∙ ap (λ (r : Received). bytes_if (is_whole_with st && not (is_final c o.flags)) r.open_bytes) rec
            ∙ ap (λ (t : Bool). bytes_if (is_whole_with st && not t)
            (received_with c s.implied.sink.phase (assumed_for last (latest_number said.unit) st) s.implied.sink).open_bytes) final;
      };
      unit = ap (λ (m : Number). Some m) n ∙ sym (ap (λ (q : SinkPhase). unit_in c q k.last) phase
          ∙ ap (λ (t : Bool). cond t None (Some (unit_with c b o.flags))) new_k);
      files = ap (λ (t : Known). t.files) (sym acks) ∙ joined.files ∙ ap (λ (r : Received). k.files ++ r.files) rec
          ∙ ap (λ (fs : List FileBytes). k.files ++ fs) (sym files);
    }
  where
    not_same : (st : UnitStep) → IsNew st → (same first next : Bool) → StepFacts st same first next → same ≡ false
    not_same step.Again o same first next f = absurd o
    not_same step.First o same first next f = f.0
    not_same step.Next o same first next f = f.0
    not_same step.Unknown o same first next f = f.0

-- ---- by what the code has in its hands

-- a word of bus A, where this is taken for the unit accepted last
pub word_taken : (p : Contents) (w : ℕ) (x : Form) (l : Option Number) (s mid : GlimpsedSink) (new : Implied)
    → mid ≡ with_sink (assuming l s.implied) s → new ≡ implies_form p bus.A w (Some x) mid.implied → s.is_known ≡ true
    → AllowsForm (observer_of s.implied) bus.A (Some x) → FollowsForm p bus.A w (Some x) s (with_sink new mid) None
word_taken p w x l s mid new is e known a =
    subst (λ (m : GlimpsedSink). FollowsForm p bus.A w (Some x) s m None)
    (sym (ap (λ (m : GlimpsedSink). with_sink new m) is
    ∙ ap (λ (i : Implied). with_sink i s) (e ∙ ap (λ (m : GlimpsedSink). implies_form p bus.A w (Some x) m.implied) is)))
    (word_follows p w x l s known a)

-- an acknowledgement
pub ack_taken : (p : Contents) (w file ldu : ℕ) (s : GlimpsedSink) (unit : Latest) (assumed : Option Number) (whole : Bool)
    → s.is_known ≡ true → owed_unit p.codes s.implied.sink.phase ≡ Some (latest_number unit)
    → glimpse_of (record s { implied = acked_with p file ldu assumed s.implied; last = Some unit; is_whole = whole })
    ≡ glimpses_form p bus.B w (Some (form.Ack file ldu)) (glimpse_of s)
ack_taken p w file ldu s unit assumed whole e owed =
    subst (λ (t : Bool).
    record { known = t; observer = masked (Some (latest_number unit)) (acked_with p file ldu assumed s.implied) } ≡ glimpses_form p bus.B w
    (Some (form.Ack file ldu)) (record { known = t; observer = masked (option_map latest_number s.last) s.implied }))
    (sym e)
    (ack_seen p (option_map latest_number s.last) assumed s.implied w file ldu (latest_number unit) owed)

pub new_of : (st : UnitStep) → (st ≡ step.Again → ⊥) → IsNew st
new_of step.Again h = h refl
new_of step.First h = tt
new_of step.Next h = tt
new_of step.Unknown h = tt

-- ---- a word by what it is

abbrev pub GlimpseSight : Bool → Observer → Bus → Sight → Type 0
GlimpseSight known o b (sight.Form x) = GlimpseAllowsForm known o b (Some x)
GlimpseSight known o b sight.Free = Unit {0}
GlimpseSight known o b sight.NoForm = ⊥

pub glimpse_sight : (p : Contents) (g : Glimpse) (i : Seen) (s : Sight)
    → s ≡ sight_of p.codes i.bus i.word → GlimpseAllows p g i ↔ GlimpseSight g.known g.observer i.bus s
glimpse_sight p g i s e =
    subst (λ (q : Sight). GlimpseAllows p g i ↔ GlimpseSight g.known g.observer i.bus q) (sym e)
    (by g.known (is_free p.codes i.bus i.word) (form_of p.codes i.bus i.word))
  where
    by : (k t : Bool) (x : Option Form)
        → ((t ≡ true) ⊎ GlimpseAllowsForm k g.observer i.bus x) ↔ GlimpseSight k g.observer i.bus (cond t sight.Free (sight_in x))
    by k true x = (λ a. tt, λ a. inl refl)
    by true false None = (λ a. elim a [ inl f ↦ cc f | inr h ↦ h ], λ h. absurd h)
    by false false None = (λ a. elim a [ inl f ↦ cc f | inr h ↦ h ], λ h. absurd h)
    by k false (Some x) = (λ a. elim a [ inl f ↦ cc f | inr h ↦ h ], λ h. inr h)

-- a word without form changes nothing
rests : (p : Contents) (b : Bus) (w : ℕ) (g : Glimpse) → g ≡ glimpses_form p b w None g
rests p bus.A w g = by g.known
  where
    by : (k : Bool) → g ≡ cond k (record g { observer = glimpses_known p bus.A w None g.observer }) g
    by true = refl
    by false = refl
rests p bus.B w g = by g.known
  where
    by : (k : Bool) → g ≡ cond k (record g { observer = glimpses_known p bus.B w None g.observer }) g
    by true = refl
    by false = refl

pub free_taken : (p : Contents) (i : Seen) (g : Glimpse) → form_of p.codes i.bus i.word ≡ None → g ≡ glimpses p i g
free_taken p i g e = rests p i.bus i.word g ∙ ap (λ (x : Option Form). glimpses_form p i.bus i.word x g) (sym e)

free_form : (p : Contents) (b : Bus) (w : ℕ) (s : GlimpsedSink) → FollowsForm p b w None s s None
free_form p bus.A w s k h = record { known = h; unit = refl; files = sym (append-nil k.files) }
free_form p bus.B w s k h = record { known = h; unit = refl; files = sym (append-nil k.files) }

pub free_follows : (p : Contents) (i : Seen) (s : GlimpsedSink) → form_of p.codes i.bus i.word ≡ None → FollowsWord p i s s None
free_follows p i s e = subst (λ (x : Option Form). FollowsForm p i.bus i.word x s s None) (sym e) (free_form p i.bus i.word s)

pub glimpse_fault : (p : Contents) (s : GlimpsedSink) (i : Seen) (x : Form) (f : SinkFault) → sight.Form x ≡ sight_of p.codes i.bus i.word
    → form_of p.codes i.bus i.word ≡ Some x → IsGlimpseFaultOf s.is_known (glimpse_of s) i.bus x f → IsGlimpseFault p (glimpse_of s) i f
glimpse_fault p s i x fault.Refused e o h = λ a. h ((glimpse_sight p (glimpse_of s) i (sight.Form x) e).0 a)
glimpse_fault p s i x fault.OutOfMemory e o h = ((glimpse_sight p (glimpse_of s) i (sight.Form x) e).1 h.0, subst IsAck (sym o) h.1)

-- a value by the branch that was taken
pub and_then : (b a whole r : Bool) → r ≡ whole → r ≡ true → b ≡ a → b ≡ (whole && a)
and_then b a whole r is e h = h ∙ ap (λ (t : Bool). t && a) (sym e ∙ is)

pub and_else : (b a whole r : Bool) → r ≡ whole → r ≡ false → b ≡ false → b ≡ (whole && a)
and_else b a whole r is e h = h ∙ ap (λ (t : Bool). t && a) (sym e ∙ is)
