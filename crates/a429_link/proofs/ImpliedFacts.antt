-- What is implied word after word.
use Rattle.std.proofs.Common.{◌≡◌, ℕ, Bool, true, false, cond, List, [], ◌∷◌, ◌++◌, append-nil, Option, Some, None, refl, sym, ap, ◌∙◌, subst}
use Rattle.a429_word.specs.declared.bus.Bus.{Bus}
use Rattle.a429_word.specs.declared.bus.Bus.TheVariants as bus
use Rattle.a429_profile.specs.Profile.{Contents}
use Rattle.a429_profile.specs.declared.codes.Codes.{Codes}
use Rattle.a429_ldu.specs.declared.forms.Form.{Form}
use Rattle.a429_ldu.specs.declared.forms.Form.TheVariants as form
use Rattle.a429_ldu.specs.Form.{form_of}
use Rattle.a429_ldu.specs.Carried.{bytes_in}
use Rattle.a429_ldu.specs.Ldu.{is_final}
use Rattle.a429_link.specs.declared.seen.Seen.{Seen}
use Rattle.a429_link.specs.declared.file.FileBytes.{FileBytes}
use Rattle.a429_link.specs.declared.why.Why.{Why}
use Rattle.a429_link.specs.declared.doing.Crossing.{Crossing}
use Rattle.a429_link.specs.declared.doing.Doing.{Doing}
use Rattle.a429_link.specs.declared.doing.Doing.TheVariants as doing
use Rattle.a429_link.specs.Sink.{Block, Granted, InBlock, MayAnswer, OwesAck, OwesClear, OwesNak, Quiet, Sink, SinkPhase, accepts_owed, emptied, in_phase, is_same, is_same_file, number_of, put, without_files, Number}
use Rattle.a429_link.specs.Observer.{AllowsForm, Observer, at_first, observed, sees, sees_form}
use Rattle.a429_link.specs.Trace.{files_of, sink_after, sink_at_first, sink_sees}
use Rattle.a429_link.specs.Implied.{Implied, acknowledging, crossing_in, crossings_of, does, doing_in, implied, implied_at_first, implies, implies_form, sink_sees_form, size_of, sizes_of, why_at, with_counts, observer_of}
use Rattle.a429_link.proofs.Message.{Message}
use Rattle.a429_link.proofs.RunTraces.{see_item}
use Rattle.a429_link.proofs.ObserverRefuses.{seeing, sees_on_as, sees_same}
use Rattle.a429_link.proofs.TraceFiles.{after_push, observed_sink}

-- ---- the files that are handed out change nothing else

-- the sink that has accepted a block which did not come again
abbrev accepted : Codes → Block → ℕ → Bool → Bool → Sink → Sink
accepted c b flags same_file final k = record k {
  last = Some (record { number = number_of b; final = final });
  received = put b.file (bytes_in c b.words) final (cond same_file k.received (emptied k.received));
}

accepted_out : (c : Codes) (b : Block) (flags : ℕ) (same_file final : Bool) (k : Sink)
    → without_files (in_phase Quiet (accepted c b flags same_file final (without_files k)))
    ≡ without_files (in_phase Quiet (accepted c b flags same_file final k))
accepted_out c b flags true true k = refl
accepted_out c b flags true false k = refl
accepted_out c b flags false true k = refl
accepted_out c b flags false false k = refl

block_out : (c : Codes) (b : Block) (flags : ℕ) (again same_file final : Bool) (k : Sink)
    → without_files (in_phase Quiet (cond again (without_files k) (accepted c b flags same_file final (without_files k))))
    ≡ without_files (in_phase Quiet (cond again k (accepted c b flags same_file final k)))
block_out c b flags true same_file final k = refl
block_out c b flags false same_file final k = accepted_out c b flags same_file final k

owed_out : (c : Codes) (phase : SinkPhase) (k : Sink)
    → without_files (in_phase Quiet (accepts_owed c phase (without_files k))) ≡ without_files (in_phase Quiet (accepts_owed c phase k))
owed_out c (OwesAck b flags) k = block_out c b flags (is_same k.last (number_of b)) (is_same_file k.last b.file) (is_final c flags) k
owed_out c Quiet k = refl
owed_out c OwesClear k = refl
owed_out c Granted k = refl
owed_out c (InBlock b) k = refl
owed_out c OwesNak k = refl

handed_out : (p : Contents) (b : Bus) (w : ℕ) (x : Option Form) (k : Sink)
    → without_files (sink_sees_form p b w x (without_files k)) ≡ without_files (sink_sees_form p b w x k)
handed_out p bus.A w None k = refl
handed_out p bus.A w (Some (form.Rts n)) k = refl
handed_out p bus.A w (Some (form.Cts n)) k = refl
handed_out p bus.A w (Some (form.Ack f l)) k = refl
handed_out p bus.A w (Some (form.Nak b)) k = refl
handed_out p bus.A w (Some (form.Sot g f l)) k = refl
handed_out p bus.A w (Some (form.Part s)) k = refl
handed_out p bus.A w (Some (form.Eot f c)) k = refl
handed_out p bus.B w None k = refl
handed_out p bus.B w (Some (form.Rts n)) k = refl
handed_out p bus.B w (Some (form.Cts n)) k = refl
handed_out p bus.B w (Some (form.Ack f l)) k = owed_out p.codes k.phase k
handed_out p bus.B w (Some (form.Nak b)) k = refl
handed_out p bus.B w (Some (form.Sot g f l)) k = refl
handed_out p bus.B w (Some (form.Part s)) k = refl
handed_out p bus.B w (Some (form.Eot f c)) k = refl

-- ---- what is implied is the sink, and what an observer counts

implies_one : (p : Contents) (i : Seen) (k : Sink) (seen : List Message) (o : Observer)
    → o ≡ seeing k seen → implies p i (with_counts o k) ≡ with_counts (sees p i o) (sink_sees p i.bus i.word k)
implies_one p i k seen o e =
    let counts =
    by i.bus (form_of p.codes i.bus i.word) ∙ ap (with_counts (sees p i (seeing k seen))) (sym (sees_on_as p i.bus i.word k)) in
    subst (λ (q : Observer). implies p i (with_counts q k) ≡ with_counts (sees p i q) (sink_sees p i.bus i.word k)) (sym e) counts
  where
    by : (b : Bus) (x : Option Form)
        → implies_form p b i.word x (with_counts (seeing k seen) k)
        ≡ with_counts (sees_form p b i.word x (seeing k seen)) (sink_sees_form p b i.word x k)
    by bus.A None = refl
    by bus.B None = refl
    by b (Some x) =
        ap (λ (s : Sink). record {
          sink = s;
          begun = (sees_form p b i.word (Some x) (seeing k seen)).begun;
          parts = (sees_form p b i.word (Some x) (seeing k seen)).parts;
        }) (handed_out p b i.word (Some x) k)

implied_as : (p : Contents) (items : List Seen) (k : Sink) (seen : List Message) (o : Observer)
    → o ≡ seeing k seen → implied p items (with_counts o k) ≡ with_counts (observed p items o) (sink_after p items k)
implied_as p [] k seen o e = refl
implied_as p (i ∷ items) k seen o e =
    ap (implied p items) (implies_one p i k seen o e)
    ∙ implied_as p items (sink_sees p i.bus i.word k) (see_item p i seen) (sees p i o) (ap (sees p i) e ∙ sees_same p i k seen)

pub implied_sink : (p : Contents) (items : List Seen)
    → implied p items implied_at_first ≡ with_counts (observed p items at_first) (sink_after p items sink_at_first)
implied_sink p items = implied_as p items sink_at_first [] at_first refl

pub implied_push : (p : Contents) (items : List Seen) (i : Seen) (k : Implied)
    → implied p (items ++ i ∷ []) k ≡ implies p i (implied p items k)
implied_push p [] i k = refl
implied_push p (x ∷ items) i k = implied_push p items i (implies p x k)

-- ---- the files that cross

sizes_push : (files : List FileBytes) (f : FileBytes) → sizes_of (files ++ f ∷ []) ≡ sizes_of files ++ size_of f ∷ []
sizes_push [] f = refl
sizes_push (x ∷ files) f = ap (λ fs. size_of x ∷ fs) (sizes_push files f)

none_crosses : (count : ℕ) (reason : Option Why) (phase : SinkPhase) → crossings_of (doing_in count reason phase) ≡ []
none_crosses count reason Quiet = refl
none_crosses count reason OwesClear = refl
none_crosses count reason Granted = refl
none_crosses count reason (InBlock b) = refl
none_crosses count reason (OwesAck b flags) = refl
none_crosses count reason OwesNak = refl

abbrev Crosses : Contents → Bus → ℕ → Form → Sink → Type 0
Crosses p b w x k =
    sizes_of (sink_sees_form p b w (Some x) k).received.files ≡ sizes_of k.received.files ++ crossings_of (does p b w x (without_files k))

-- nothing crosses by a word that is no acknowledgement
none_cross : (p : Contents) (b : Bus) (w : ℕ) (x : Form) (k : Sink) → (sink_sees_form p b w (Some x) k).received.files ≡ k.received.files
    → does p b w x (without_files k) ≡ doing_in (sink_sees_form p b w (Some x) (without_files k)).count (why_at p x (without_files k))
    (sink_sees_form p b w (Some x) (without_files k)).phase
    → Crosses p b w x k
none_cross p b w x k files is =
    let new = sink_sees_form p b w (Some x) (without_files k) in
    let none = ap crossings_of is ∙ none_crosses new.count (why_at p x (without_files k)) new.phase in
    ap sizes_of files ∙ sym (append-nil (sizes_of k.received.files)) ∙ ap (λ (c : List Crossing). sizes_of k.received.files ++ c) (sym none)

-- what crosses with an acknowledgement
abbrev acknowledged : Bool → ℕ → ℕ → List FileBytes → Doing
acknowledged again file ldu files = cond again (doing.Again file ldu) (doing.Accepts file ldu (crossing_in files))

accepted_crosses : (c : Codes) (b : Block) (flags : ℕ) (again same_file final : Bool) (k : Sink) →
    sizes_of (cond again k (accepted c b flags same_file final k)).received.files ≡ sizes_of k.received.files
    ++ crossings_of (acknowledged again b.file b.ldu
    (cond again (without_files k) (accepted c b flags same_file final (without_files k))).received.files)
accepted_crosses c b flags true same_file final k = sym (append-nil (sizes_of k.received.files))
accepted_crosses c b flags false true true k = sizes_push k.received.files _
accepted_crosses c b flags false false true k = sizes_push k.received.files _
accepted_crosses c b flags false true false k = sym (append-nil (sizes_of k.received.files))
accepted_crosses c b flags false false false k = sym (append-nil (sizes_of k.received.files))

abbrev OwedCrosses : Codes → SinkPhase → Sink → ℕ → ℕ → Type 0
OwedCrosses c phase k file ldu =
    sizes_of (accepts_owed c phase k).received.files ≡ sizes_of k.received.files
    ++ crossings_of (acknowledging file ldu (without_files k) (in_phase Quiet (accepts_owed c phase (without_files k))))

owed_crosses : (c : Codes) (count : ℕ) (phase : SinkPhase) (file ldu : ℕ) (k : Sink)
    → MayAnswer count phase (form.Ack file ldu) → OwedCrosses c phase k file ldu
owed_crosses c count (OwesAck b flags) file ldu k may =
    subst (λ f. OwedCrosses c (OwesAck b flags) k f ldu) (sym may.0)
    (subst (λ l. OwedCrosses c (OwesAck b flags) k b.file l) (sym may.1)
    (accepted_crosses c b flags (is_same k.last (number_of b)) (is_same_file k.last b.file) (is_final c flags) k))
owed_crosses c count Quiet file ldu k may = absurd may
owed_crosses c count OwesClear file ldu k may = absurd may
owed_crosses c count Granted file ldu k may = absurd may
owed_crosses c count (InBlock b) file ldu k may = absurd may
owed_crosses c count OwesNak file ldu k may = absurd may

crosses : (p : Contents) (b : Bus) (w : ℕ) (x : Form) (k : Sink) (o : Observer)
    → o.phase ≡ k.phase → AllowsForm o b (Some x) → Crosses p b w x k
crosses p bus.A w (form.Rts n) k o at a = none_cross p bus.A w (form.Rts n) k refl refl
crosses p bus.A w (form.Cts n) k o at a = none_cross p bus.A w (form.Cts n) k refl refl
crosses p bus.A w (form.Ack f l) k o at a = absurd a
crosses p bus.A w (form.Nak b) k o at a = none_cross p bus.A w (form.Nak b) k refl refl
crosses p bus.A w (form.Sot g f l) k o at a = none_cross p bus.A w (form.Sot g f l) k refl refl
crosses p bus.A w (form.Part s) k o at a = none_cross p bus.A w (form.Part s) k refl refl
crosses p bus.A w (form.Eot f c) k o at a = none_cross p bus.A w (form.Eot f c) k refl refl
crosses p bus.B w (form.Rts n) k o at a = none_cross p bus.B w (form.Rts n) k refl refl
crosses p bus.B w (form.Cts n) k o at a = none_cross p bus.B w (form.Cts n) k refl refl
crosses p bus.B w (form.Ack f l) k o at a =
    owed_crosses p.codes o.count k.phase f l k (subst (λ (phase : SinkPhase). MayAnswer o.count phase (form.Ack f l)) at a)
crosses p bus.B w (form.Nak b) k o at a = none_cross p bus.B w (form.Nak b) k refl refl
crosses p bus.B w (form.Sot g f l) k o at a = none_cross p bus.B w (form.Sot g f l) k refl refl
crosses p bus.B w (form.Part s) k o at a = none_cross p bus.B w (form.Part s) k refl refl
crosses p bus.B w (form.Eot f c) k o at a = none_cross p bus.B w (form.Eot f c) k refl refl

-- the files after one more word
files_push : (p : Contents) (items : List Seen) (i : Seen)
    → files_of p (items ++ i ∷ [])
    ≡ (sink_sees_form p i.bus i.word (form_of p.codes i.bus i.word) (sink_after p items sink_at_first)).received.files
files_push p items i =
    ap (λ (k : Sink). k.received.files) (after_push p items i sink_at_first ∙ sees_on_as p i.bus i.word (sink_after p items sink_at_first))

pub file_crosses : (p : Contents) (items : List Seen) (i : Seen) (x : Form)
    → form_of p.codes i.bus i.word ≡ Some x → AllowsForm (observed p items at_first) i.bus (Some x)
    → sizes_of (files_of p (items ++ i ∷ [])) ≡ sizes_of (files_of p items)
    ++ crossings_of (does p i.bus i.word x (implied p items implied_at_first).sink)
file_crosses p items i x e a =
    let k = sink_after p items sink_at_first in
    let at = ap (λ (s : Sink). s.phase) (observed_sink p items) in
    let out = ap (λ (s : Implied). s.sink) (implied_sink p items) in
    ap sizes_of (files_push p items i ∙ ap (λ (o : Option Form). (sink_sees_form p i.bus i.word o k).received.files) e)
    ∙ crosses p i.bus i.word x k (observed p items at_first) at a
    ∙ ap (λ (s : Sink). sizes_of (files_of p items) ++ crossings_of (does p i.bus i.word x s)) (sym out)

pub files_stay_without : (p : Contents) (items : List Seen) (i : Seen)
    → form_of p.codes i.bus i.word ≡ None → files_of p (items ++ i ∷ []) ≡ files_of p items
files_stay_without p items i e =
    let k = sink_after p items sink_at_first in
    files_push p items i ∙ ap (λ (o : Option Form). (sink_sees_form p i.bus i.word o k).received.files) e ∙ by i.bus k
  where
    by : (b : Bus) (k : Sink) → (sink_sees_form p b i.word None k).received.files ≡ k.received.files
    by bus.A k = refl
    by bus.B k = refl

-- what is implied has the observer of the same words
pub observer_again : (p : Contents) (items : List Seen) → observer_of (implied p items implied_at_first) ≡ observed p items at_first
observer_again p items =
    let o = observed p items at_first in
    let k = sink_after p items sink_at_first in
    let last : k.last ≡ o.last = sym (ap (λ (s : Sink). s.last) (observed_sink p items)) in
    let count : k.count ≡ o.count = sym (ap (λ (s : Sink). s.count) (observed_sink p items)) in
    let phase : k.phase ≡ o.phase = sym (ap (λ (s : Sink). s.phase) (observed_sink p items)) in
    ap observer_of (implied_sink p items)
    ∙ ap (λ (l : Option Number). record { last = l; count = k.count; phase = k.phase; begun = o.begun; parts = o.parts }) last
    ∙ ap (λ (n : ℕ). record { last = o.last; count = n; phase = k.phase; begun = o.begun; parts = o.parts }) count
    ∙ ap (λ (f : SinkPhase). record { last = o.last; count = o.count; phase = f; begun = o.begun; parts = o.parts }) phase
