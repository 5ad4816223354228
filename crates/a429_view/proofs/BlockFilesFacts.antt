-- The rows by which files cross are those of the files that the sink delivers.
use Rattle.std.proofs.Common.{◌≡◌, ℕ, suc, Bool, true, false, cond, ◌&&◌, ◌⊎◌, List, [], ◌∷◌, ◌++◌, map, append_assoc, append-nil, Option, Some, None, refl, sym, ap, ◌∙◌, subst, inl, inr}
use Rattle.std.specs.Prelude.{option_map}
use Rattle.std.specs.List.{cons_option, filter, filter_map, last_or}
use Rattle.std.specs.Option.{option_or}
use Rattle.a429_word.specs.declared.bus.Bus.{Bus}
use Rattle.a429_word.specs.declared.bus.Bus.TheVariants as bus
use Rattle.a429_profile.specs.Profile.{Contents}
use Rattle.a429_profile.specs.declared.codes.Codes.{Codes}
use Rattle.a429_ldu.specs.Carried.{bytes_in}
use Rattle.a429_ldu.specs.declared.forms.Form.{Form}
use Rattle.a429_ldu.specs.declared.forms.Form.TheVariants as form
use Rattle.a429_ldu.specs.Form.{form_of, is_free}
use Rattle.a429_ldu.specs.Ldu.{is_final}
use Rattle.a429_link.specs.declared.file.FileBytes.{FileBytes}
use Rattle.a429_link.specs.declared.number.UnitNumber.{UnitNumber}
use Rattle.a429_link.specs.declared.seen.Seen.{Seen}
use Rattle.a429_link.specs.declared.why.Why.{Why}
use Rattle.a429_link.specs.declared.doing.Crossing.{Crossing}
use Rattle.a429_link.specs.declared.doing.Doing.{Doing}
use Rattle.a429_link.specs.declared.doing.Doing.TheVariants as doing
use Rattle.a429_link.specs.Run.{BeginsARun, RunOf, delivered_by, trace}
use Rattle.a429_link.specs.Sink.{Block, Granted, InBlock, MayAnswer, Number, OwesAck, OwesClear, OwesNak, Quiet, Received, Sink, SinkPhase, accepts_owed, at_end, at_part, at_start, emptied, empty_block, end_word, in_phase, is_good, is_same, is_same_file, number_of, put, received_for}
use Rattle.a429_link.specs.Observer.{Allows, AllowsForm, AreAllowed, HasGrant, Observer, at_first, observed, sees, sees_form, sink_of, watching}
use Rattle.a429_link.specs.Trace.{files_of}
use Rattle.a429_link.specs.Implied.{Implied, acknowledging, crossing_in, crossings_of, does, doing_in, implied, implied_at_first, implies, implies_form, observer_of, sizes_of, why_at}
use Rattle.a429_link.proofs.AssignedRun.{run_is_assigned}
use Rattle.a429_link.proofs.ImpliedFacts.{file_crosses, files_stay_without, implied_push}
use Rattle.a429_link.proofs.MessageRead.{is_read}
use Rattle.a429_link.proofs.TraceFiles.{files_delivered}
use Rattle.a429_record.specs.declared.entry.Entry.{Entry}
use Rattle.a429_ldu.proofs.FormFree.{free_none}
use Rattle.a429_cert.specs.Explained.{items_of, seen_of}
use Rattle.a429_view.specs.declared.blocks.row.Answer.{Answer}
use Rattle.a429_view.specs.declared.blocks.row.Answer.TheVariants as answer
use Rattle.a429_view.specs.BlockFiles.{NameFiles, are_final, delivering_rows, delivers, file_in, flags_by, is_accepted}
use Rattle.a429_view.specs.Blocks.{Attempt, Placed, acknowledged_by, answer_by, answer_in, asked_by, attempt_by, attempts, before_request, form_at, latest, placed_from, row_of, unit_by, up_to}
use Rattle.a429_view.specs.Trace.{crossings_by}

-- ---- the files, word by word

-- what crosses by these words, after words that imply this
abbrev crossed : Contents → Implied → List Seen → List Crossing
crossed p k [] = []
crossed p k (i ∷ items) = crossings_by p i.bus i.word (form_of p.codes i.bus i.word) k ++ crossed p (implies p i k) items

observed_push : (p : Contents) (items : List Seen) (i : Seen) (o : Observer)
    → observed p (items ++ i ∷ []) o ≡ sees p i (observed p items o)
observed_push p [] i o = refl
observed_push p (x ∷ items) i o = observed_push p items i (sees p x o)

one_crosses : (p : Contents) (items : List Seen) (i : Seen) → Allows p (observed p items at_first) i
    → sizes_of (files_of p (items ++ i ∷ [])) ≡ sizes_of (files_of p items)
    ++ crossings_by p i.bus i.word (form_of p.codes i.bus i.word) (implied p items implied_at_first)
one_crosses p items i a = by (form_of p.codes i.bus i.word) refl a
  where
    by : (x : Option Form)
        → form_of p.codes i.bus i.word ≡ x → (is_free p.codes i.bus i.word ≡ true) ⊎ AllowsForm (observed p items at_first) i.bus x
        → sizes_of (files_of p (items ++ i ∷ [])) ≡ sizes_of (files_of p items)
        ++ crossings_by p i.bus i.word x (implied p items implied_at_first)
    by None e a = ap sizes_of (files_stay_without p items i e) ∙ sym (append-nil (sizes_of (files_of p items)))
    by (Some x) e (inl free) = absurd (cc (e, free_none p.codes i.bus i.word free))
    by (Some x) e (inr allows) = file_crosses p items i x e allows

files_from : (p : Contents) (before items : List Seen) → AreAllowed p (observed p before at_first) items
    → sizes_of (files_of p (before ++ items)) ≡ sizes_of (files_of p before) ++ crossed p (implied p before implied_at_first) items
files_from p before [] a =
    ap (λ (l : List Seen). sizes_of (files_of p l)) (append-nil before) ∙ sym (append-nil (sizes_of (files_of p before)))
files_from p before (i ∷ items) a =
    let k = implied p before implied_at_first in
    let here = crossings_by p i.bus i.word (form_of p.codes i.bus i.word) k in
    let later = crossed p (implies p i k) items in
    ap (λ (l : List Seen). sizes_of (files_of p l)) (sym (append_assoc before (i ∷ []) items))
    ∙ files_from p (before ++ i ∷ []) items (subst (λ (o : Observer). AreAllowed p o items) (sym (observed_push p before i at_first)) a.1)
    ∙ ap (λ (q : Implied). sizes_of (files_of p (before ++ i ∷ [])) ++ crossed p q items) (implied_push p before i implied_at_first)
    ∙ ap (λ (t : List Crossing). t ++ later) (one_crosses p before i a.0)
    ∙ append_assoc (sizes_of (files_of p before)) here later

-- ---- the observer of what is implied

-- the sink that has accepted a block which did not come again
abbrev accepted : Codes → Block → ℕ → Sink → Sink
accepted c b flags k = record k {
  last = Some (record { number = number_of b; final = is_final c flags });
  received = put b.file (bytes_in c b.words) (is_final c flags) (received_for k.last b.file k.received);
}

abbrev quiet_observer : Option Number → ℕ → Bool → ℕ → Observer
quiet_observer last count begun parts = record { last = last; count = count; phase = Quiet; begun = begun; parts = parts }

owed_alike : (c : Codes) (phase : SinkPhase) (j k : Sink) (begun : Bool) (parts : ℕ) → j.last ≡ k.last → j.count ≡ k.count
    → watching (in_phase Quiet (accepts_owed c phase j)) begun parts ≡ watching (in_phase Quiet (accepts_owed c phase k)) begun parts
owed_alike c phase j k begun parts last count = by phase
  where
    alike : (l m : Option Number) (n o : ℕ) → l ≡ m → n ≡ o → quiet_observer l n begun parts ≡ quiet_observer m o begun parts
    alike l m n o e f = ap (λ (q : Option Number). quiet_observer q n begun parts) e ∙ ap (λ (q : ℕ). quiet_observer m q begun parts) f

    same : watching (in_phase Quiet j) begun parts ≡ watching (in_phase Quiet k) begun parts
    same = alike j.last k.last j.count k.count last count

    block : (b : Block) (flags : ℕ) (again other : Bool) → again ≡ other
        → watching (in_phase Quiet (cond again j (accepted c b flags j))) begun parts
        ≡ watching (in_phase Quiet (cond other k (accepted c b flags k))) begun parts
    block b flags true true e = same
    block b flags false false e = alike _ _ j.count k.count refl count
    block b flags true false e = absurd (cc e)
    block b flags false true e = absurd (cc e)

    by : (phase : SinkPhase)
        → watching (in_phase Quiet (accepts_owed c phase j)) begun parts ≡ watching (in_phase Quiet (accepts_owed c phase k)) begun parts
    by (OwesAck b flags) =
        block b flags (is_same j.last (number_of b)) (is_same k.last (number_of b))
        (ap (λ (l : Option Number). is_same l (number_of b)) last)
    by Quiet = same
    by OwesClear = same
    by Granted = same
    by (InBlock b) = same
    by OwesNak = same

observer_step : (p : Contents) (i : Seen) (k : Implied) → observer_of (implies p i k) ≡ sees p i (observer_of k)
observer_step p i k = by i.bus (form_of p.codes i.bus i.word)
  where
    by : (b : Bus) (x : Option Form) → observer_of (implies_form p b i.word x k) ≡ sees_form p b i.word x (observer_of k)
    by bus.A None = refl
    by bus.A (Some (form.Rts n)) = refl
    by bus.A (Some (form.Cts n)) = refl
    by bus.A (Some (form.Ack f l)) = refl
    by bus.A (Some (form.Nak q)) = refl
    by bus.A (Some (form.Sot g f l)) = refl
    by bus.A (Some (form.Part s)) = refl
    by bus.A (Some (form.Eot f c)) = refl
    by bus.B None = refl
    by bus.B (Some (form.Rts n)) = refl
    by bus.B (Some (form.Cts n)) = refl
    by bus.B (Some (form.Ack f l)) = owed_alike p.codes k.sink.phase k.sink (sink_of (observer_of k)) k.begun k.parts refl refl
    by bus.B (Some (form.Nak q)) = refl
    by bus.B (Some (form.Sot g f l)) = refl
    by bus.B (Some (form.Part s)) = refl
    by bus.B (Some (form.Eot f c)) = refl

-- ---- what the entries after a request say

-- the last answer, the last start word's number, and the flags of the last end word
record Said : Type 0 where
  answer : Option Answer
  unit : Option UnitNumber
  flags : Option ℕ

abbrev said : Contents → List Placed → Said
said p xs = record {
  answer = latest (λ x. answer_in p x (form_at p.codes x)) xs;
  unit = latest (λ x. unit_by (form_at p.codes x)) xs;
  flags = latest (λ x. flags_by (form_at p.codes x)) xs;
}

-- after a word of this form, after which the sink does this
abbrev said_by : Form → Doing → Said → Said
said_by f d s = record {
  answer = option_or (answer_by f d) s.answer;
  unit = option_or (unit_by (Some f)) s.unit;
  flags = option_or (flags_by (Some f)) s.flags;
}

-- after a word of this form or none
abbrev said_in : Contents → Placed → Option Form → Said → Said
said_in p x o s = record {
  answer = option_or (answer_in p x o) s.answer;
  unit = option_or (unit_by o) s.unit;
  flags = option_or (flags_by o) s.flags;
}

last_push : {T : Type 0} (f : Placed → Option T) (o : Option T) (xs : List Placed) (x : Placed)
    → last_or o (filter_map f (xs ++ x ∷ [])) ≡ option_or (f x) (last_or o (filter_map f xs))
last_push {T} f o [] x = by (f x)
  where
    by : (m : Option T) → last_or o (cons_option m []) ≡ option_or m o
    by None = refl
    by (Some y) = refl
last_push {T} f o (y ∷ xs) x = by (f y) (λ m. last_push f m xs x)
  where
    by : (m : Option T) → ((n : Option T) → last_or n (filter_map f (xs ++ x ∷ [])) ≡ option_or (f x) (last_or n (filter_map f xs)))
        → last_or o (cons_option m (filter_map f (xs ++ x ∷ []))) ≡ option_or (f x) (last_or o (cons_option m (filter_map f xs)))
    by None h = h o
    by (Some z) h = h (Some z)

said_push : (p : Contents) (xs : List Placed) (x : Placed) → said p (xs ++ x ∷ []) ≡ said_in p x (form_at p.codes x) (said p xs)
said_push p xs x =
    let a = last_push (λ y. answer_in p y (form_at p.codes y)) None xs x in
    let u = last_push (λ y. unit_by (form_at p.codes y)) None xs x in
    let f = last_push (λ y. flags_by (form_at p.codes y)) None xs x in
    rw (a, u, f) refl

-- ---- the files of rows

-- the file that an attempt delivers of which this is said
abbrev file_said : Codes → Said → List (Option ℕ)
file_said c s = cond (is_accepted s.answer && are_final c s.flags) (option_map (λ (u : UnitNumber). u.file) s.unit ∷ []) []

-- those of attempts
abbrev files_in : Contents → List Attempt → List (Option ℕ)
files_in p rows = map file_in (map (row_of p) (filter (delivers p) rows))

-- the numbers of files that cross
abbrev named : List Crossing → List (Option ℕ)
named files = map (λ (f : Crossing). Some f.number) files

files_cons : (p : Contents) (a : Attempt) (rows : List Attempt)
    → files_in p (a ∷ rows) ≡ file_said p.codes (said p a.after) ++ files_in p rows
files_cons p a rows = by (delivers p a)
  where
    by : (t : Bool)
        → map file_in (map (row_of p) (cond t (a ∷ filter (delivers p) rows) (filter (delivers p) rows)))
        ≡ cond t (file_in (row_of p a) ∷ []) [] ++ files_in p rows
    by true = refl
    by false = refl

named_append : (xs ys : List Crossing) → named (xs ++ ys) ≡ named xs ++ named ys
named_append [] ys = refl
named_append (x ∷ xs) ys = ap (λ (l : List (Option ℕ)). Some x.number ∷ l) (named_append xs ys)

named_sizes : (files : List FileBytes) → named (sizes_of files) ≡ map (λ (f : FileBytes). Some f.number) files
named_sizes [] = refl
named_sizes (f ∷ files) = ap (λ (l : List (Option ℕ)). Some f.number ∷ l) (named_sizes files)

-- no file without an acknowledgement
no_file : (c : Codes) (s : Said) (a : Option Answer) → s.answer ≡ a → is_accepted a ≡ false → file_said c s ≡ []
no_file c s a e n =
    let none : is_accepted s.answer ≡ false = ap is_accepted e ∙ n in
    ap (λ (t : Bool). cond (t && are_final c s.flags) (option_map (λ (u : UnitNumber). u.file) s.unit ∷ []) []) none

-- ---- what is said fits what is implied

abbrev Fits : SinkPhase → Said → Type 0
Fits Quiet s = Unit {0}
Fits OwesClear s = s.answer ≡ None
Fits Granted s = s.answer ≡ Some answer.Clear
Fits (InBlock b) s = (s.answer ≡ Some answer.Clear) × (s.unit ≡ Some (number_of b))
Fits (OwesAck b flags) s = (s.answer ≡ Some answer.Clear) × (s.unit ≡ Some (number_of b)) × (s.flags ≡ Some flags)
Fits OwesNak s = s.answer ≡ Some answer.Clear

-- after a word in this phase it fits, and no other file is delivered than the one that crosses
record Goes (c : Codes) (phase : SinkPhase) (d : Doing) (old new : Said) : Type 0 where
  fits : Fits phase new
  file : file_said c new ≡ file_said c old ++ named (crossings_of d)

-- the same where no file is delivered before or after
goes_without : (c : Codes) (phase : SinkPhase) (d : Doing) (old new : Said) (a b : Option Answer) → Fits phase new → old.answer ≡ a
    → is_accepted a ≡ false → new.answer ≡ b → is_accepted b ≡ false → crossings_of d ≡ [] → Goes c phase d old new
goes_without c phase d old new a b fits e n f m none = record {
  fits = fits;
  file = no_file c new b f m ∙ sym (ap (λ (l : List (Option ℕ)). l ++ []) (no_file c old a e n))
      ∙ ap (λ (l : List Crossing). file_said c old ++ named l) (sym none);
}

start_goes : (c : Codes) (g f l : ℕ) (phase : SinkPhase) (count : ℕ) (why : Option Why) (s : Said) → HasGrant phase → Fits phase s
    → let d = doing_in count why (at_start (empty_block g f l) phase) in
    Goes c (at_start (empty_block g f l) phase) d s (said_by (form.Sot g f l) d s)
start_goes c g f l Granted count why s grant h =
    goes_without c (InBlock (empty_block g f l)) _ s _ (Some answer.Clear) (Some answer.Clear) (h, refl) h refl h refl refl
start_goes c g f l (InBlock b) count why s grant h =
    goes_without c (InBlock (empty_block g f l)) _ s _ (Some answer.Clear) (Some answer.Clear) (h.0, refl) h.0 refl h.0 refl refl
start_goes c g f l Quiet count why s grant h = absurd grant
start_goes c g f l OwesClear count why s grant h = absurd grant
start_goes c g f l (OwesAck b flags) count why s grant h = absurd grant
start_goes c g f l OwesNak count why s grant h = absurd grant

part_goes : (c : Codes) (w : ℕ) (semis : List ℕ) (phase : SinkPhase) (count : ℕ) (why : Option Why) (s : Said)
    → HasGrant phase → Fits phase s
    → let d = doing_in count why (at_part w phase) in Goes c (at_part w phase) d s (said_by (form.Part semis) d s)
part_goes c w semis Granted count why s grant h = goes_without c Granted _ s _ (Some answer.Clear) (Some answer.Clear) h h refl h refl refl
part_goes c w semis (InBlock b) count why s grant h =
    goes_without c (InBlock (record b { words = b.words ++ w ∷ [] })) _ s _ (Some answer.Clear) (Some answer.Clear) h h.0 refl h.0 refl refl
part_goes c w semis Quiet count why s grant h = absurd grant
part_goes c w semis OwesClear count why s grant h = absurd grant
part_goes c w semis (OwesAck b flags) count why s grant h = absurd grant
part_goes c w semis OwesNak count why s grant h = absurd grant

end_goes : (p : Contents) (last : Option Number) (flags check : ℕ) (phase : SinkPhase) (count : ℕ) (why : Option Why) (s : Said)
    → HasGrant phase → Fits phase s
    → let d = doing_in count why (at_end p last count (end_word flags check) phase) in
    Goes p.codes (at_end p last count (end_word flags check) phase) d s (said_by (form.Eot flags check) d s)
end_goes p last flags check Granted count why s grant h =
    goes_without p.codes OwesNak _ s _ (Some answer.Clear) (Some answer.Clear) h h refl h refl refl
end_goes p last flags check (InBlock b) count why s grant h = by (is_good p last count b check)
  where
    by : (good : Bool) → let phase = cond good (OwesAck b flags) OwesNak in let d = doing_in count why phase in
        Goes p.codes phase d s (said_by (form.Eot flags check) d s)
    by true = goes_without p.codes (OwesAck b flags) _ s _ (Some answer.Clear) (Some answer.Clear) (h.0, h.1, refl) h.0 refl h.0 refl refl
    by false = goes_without p.codes OwesNak _ s _ (Some answer.Clear) (Some answer.Clear) h.0 h.0 refl h.0 refl refl
end_goes p last flags check Quiet count why s grant h = absurd grant
end_goes p last flags check OwesClear count why s grant h = absurd grant
end_goes p last flags check (OwesAck b f) count why s grant h = absurd grant
end_goes p last flags check OwesNak count why s grant h = absurd grant

-- ---- answers

abbrev IsAnswer : Form → Type 0
IsAnswer (form.Cts n) = Unit {0}
IsAnswer (form.Ack f l) = Unit {0}
IsAnswer (form.Nak q) = Unit {0}
IsAnswer _ = ⊥

may_only : (count : ℕ) (phase : SinkPhase) (x : Form) → MayAnswer count phase x → IsAnswer x
may_only count Quiet x h = absurd h
may_only count Granted x h = absurd h
may_only count (InBlock b) x h = absurd h
may_only count OwesClear (form.Cts n) h = tt
may_only count OwesClear (form.Rts n) h = absurd h
may_only count OwesClear (form.Ack f l) h = absurd h
may_only count OwesClear (form.Nak q) h = absurd h
may_only count OwesClear (form.Sot g f l) h = absurd h
may_only count OwesClear (form.Part s) h = absurd h
may_only count OwesClear (form.Eot f c) h = absurd h
may_only count (OwesAck b flags) (form.Ack f l) h = tt
may_only count (OwesAck b flags) (form.Nak q) h = tt
may_only count (OwesAck b flags) (form.Rts n) h = absurd h
may_only count (OwesAck b flags) (form.Cts n) h = absurd h
may_only count (OwesAck b flags) (form.Sot g f l) h = absurd h
may_only count (OwesAck b flags) (form.Part s) h = absurd h
may_only count (OwesAck b flags) (form.Eot f c) h = absurd h
may_only count OwesNak (form.Nak q) h = tt
may_only count OwesNak (form.Rts n) h = absurd h
may_only count OwesNak (form.Cts n) h = absurd h
may_only count OwesNak (form.Ack f l) h = absurd h
may_only count OwesNak (form.Sot g f l) h = absurd h
may_only count OwesNak (form.Part s) h = absurd h
may_only count OwesNak (form.Eot f c) h = absurd h

clear_goes : (c : Codes) (n count m : ℕ) (why : Option Why) (phase : SinkPhase) (s : Said) → MayAnswer count phase (form.Cts n)
    → Fits phase s → Goes c Granted (doing_in m why Granted) s (said_by (form.Cts n) (doing_in m why Granted) s)
clear_goes c n count m why OwesClear s may h = goes_without c Granted _ s _ None (Some answer.Clear) refl h refl refl refl refl
clear_goes c n count m why Quiet s may h = absurd may
clear_goes c n count m why Granted s may h = absurd may
clear_goes c n count m why (InBlock b) s may h = absurd may
clear_goes c n count m why (OwesAck b flags) s may h = absurd may
clear_goes c n count m why OwesNak s may h = absurd may

negative_goes : (c : Codes) (bits count m : ℕ) (why : Option Why) (phase : SinkPhase) (s : Said) → MayAnswer count phase (form.Nak bits)
    → Fits phase s → Goes c Quiet (doing_in m why Quiet) s (said_by (form.Nak bits) (doing_in m why Quiet) s)
negative_goes c bits count m why (OwesAck b flags) s may h =
    goes_without c Quiet _ s _ (Some answer.Clear) (Some answer.Negative) tt h.0 refl refl refl refl
negative_goes c bits count m why OwesNak s may h =
    goes_without c Quiet _ s _ (Some answer.Clear) (Some answer.Negative) tt h refl refl refl refl
negative_goes c bits count m why Quiet s may h = absurd may
negative_goes c bits count m why OwesClear s may h = absurd may
negative_goes c bits count m why Granted s may h = absurd may
negative_goes c bits count m why (InBlock b) s may h = absurd may

-- what a sink does that acknowledges a block, which comes again or not
abbrev acked : Codes → Block → ℕ → Bool → Sink → Doing
acked c b flags again k =
    cond again (doing.Again b.file b.ldu) (doing.Accepts b.file b.ldu (crossing_in (cond again k (accepted c b flags k)).received.files))

-- the file that crosses, where the block is the last of one
crossing_is : (b : Block) (bytes : List ℕ) (final : Bool) (old : Received) → old.files ≡ []
    → named (crossings_of (doing.Accepts b.file b.ldu (crossing_in (put b.file bytes final old).files))) ≡ cond final (Some b.file ∷ []) []
crossing_is b bytes true old none =
    ap (λ (fs : List FileBytes).
    named
    (crossings_of (doing.Accepts b.file b.ldu (crossing_in (fs ++ record { number = b.file; bytes = old.open_bytes ++ bytes } ∷ [])))))
    none
crossing_is b bytes false old none = ap (λ (fs : List FileBytes). named (crossings_of (doing.Accepts b.file b.ldu (crossing_in fs)))) none

received_none : (same : Bool) (k : Sink) → k.received.files ≡ [] → (cond same k.received (emptied k.received)).files ≡ []
received_none true k none = none
received_none false k none = none

-- the file of an attempt that was acknowledged
file_acked : (c : Codes) (b : Block) (flags : ℕ) (s : Said) (f l : ℕ) (d : Doing) → s.unit ≡ Some (number_of b) → s.flags ≡ Some flags
    → acknowledged_by d ≡ answer.Accepted → file_said c (said_by (form.Ack f l) d s) ≡ cond (is_final c flags) (Some b.file ∷ []) []
file_acked c b flags s f l d unit flags_are accepts = rw (accepts, unit, flags_are) refl

block_goes : (c : Codes) (b : Block) (flags : ℕ) (again : Bool) (k : Sink) (s : Said) → k.received.files ≡ [] → Fits (OwesAck b flags) s
    → Goes c Quiet (acked c b flags again k) s (said_by (form.Ack b.file b.ldu) (acked c b flags again k) s)
block_goes c b flags true k s none h = goes_without c Quiet _ s _ (Some answer.Clear) (Some answer.Again) tt h.0 refl refl refl refl
block_goes c b flags false k s none h = record {
  fits = tt;
  file =
      file_acked c b flags s b.file b.ldu (acked c b flags false k) h.1 h.2 refl
      ∙ sym (crossing_is b (bytes_in c b.words) (is_final c flags) (received_for k.last b.file k.received)
      (received_none (is_same_file k.last b.file) k none))
      ∙ sym (ap (λ (l : List (Option ℕ)). l ++ named (crossings_of (acked c b flags false k))) (no_file c s (Some answer.Clear) h.0 refl));
}

ack_goes : (c : Codes) (f l count : ℕ) (phase : SinkPhase) (k : Sink) (s : Said)
    → k.received.files ≡ [] → MayAnswer count phase (form.Ack f l) → Fits phase s
    → let d = acknowledging f l k (in_phase Quiet (accepts_owed c phase k)) in Goes c Quiet d s (said_by (form.Ack f l) d s)
ack_goes c f l count (OwesAck b flags) k s none may h =
    let Goal : ℕ → ℕ → Type 0 = λ f l. let d = acknowledging f l k (in_phase Quiet (accepts_owed c (OwesAck b flags) k)) in
    Goes c Quiet d s (said_by (form.Ack f l) d s) in
    subst (λ (n : ℕ). Goal n l) (sym may.0)
    (subst (λ (n : ℕ). Goal b.file n) (sym may.1) (block_goes c b flags (is_same k.last (number_of b)) k s none h))
ack_goes c f l count Quiet k s none may h = absurd may
ack_goes c f l count OwesClear k s none may h = absurd may
ack_goes c f l count Granted k s none may h = absurd may
ack_goes c f l count (InBlock b) k s none may h = absurd may
ack_goes c f l count OwesNak k s none may h = absurd may

-- ---- any word

word_goes : (p : Contents) (b : Bus) (w : ℕ) (f : Form) (k : Implied) (s : Said)
    → asked_by (Some f) ≡ None → AllowsForm (observer_of k) b (Some f) → k.sink.received.files ≡ [] → Fits k.sink.phase s
    → let d = does p b w f k.sink in Goes p.codes (implies_form p b w (Some f) k).sink.phase d s (said_by f d s)
word_goes p bus.A w (form.Sot g f l) k s e a none h = start_goes p.codes g f l k.sink.phase k.sink.count None s a.0 h
word_goes p bus.A w (form.Part semis) k s e a none h = part_goes p.codes w semis k.sink.phase k.sink.count None s a.0 h
word_goes p bus.A w (form.Eot flags check) k s e a none h =
    end_goes p k.sink.last flags check k.sink.phase k.sink.count (why_at p (form.Eot flags check) k.sink) s a h
word_goes p bus.A w (form.Rts n) k s e a none h = absurd (cc e)
word_goes p bus.A w (form.Cts n) k s e a none h = absurd a
word_goes p bus.A w (form.Ack f l) k s e a none h = absurd a
word_goes p bus.A w (form.Nak q) k s e a none h = absurd a
word_goes p bus.B w (form.Cts n) k s e a none h = clear_goes p.codes n k.sink.count k.sink.count None k.sink.phase s a h
word_goes p bus.B w (form.Ack f l) k s e a none h = ack_goes p.codes f l k.sink.count k.sink.phase k.sink s none a h
word_goes p bus.B w (form.Nak q) k s e a none h = negative_goes p.codes q k.sink.count k.sink.count None k.sink.phase s a h
word_goes p bus.B w (form.Rts n) k s e a none h = absurd (cc e)
word_goes p bus.B w (form.Sot g f l) k s e a none h = absurd (may_only k.sink.count k.sink.phase (form.Sot g f l) a)
word_goes p bus.B w (form.Part semis) k s e a none h = absurd (may_only k.sink.count k.sink.phase (form.Part semis) a)
word_goes p bus.B w (form.Eot flags check) k s e a none h = absurd (may_only k.sink.count k.sink.phase (form.Eot flags check) a)

-- a request
record Requests (p : Contents) (b : Bus) (w : ℕ) (f : Form) (k : Implied) : Type 0 where
  phase : (implies_form p b w (Some f) k).sink.phase ≡ OwesClear
  none : crossings_of (does p b w f k.sink) ≡ []

requests : (p : Contents) (b : Bus) (w : ℕ) (f : Form) (k : Implied) (n : ℕ)
    → asked_by (Some f) ≡ Some n → AllowsForm (observer_of k) b (Some f) → Requests p b w f k
requests p bus.A w (form.Rts m) k n e a = record { phase = refl; none = refl }
requests p bus.B w (form.Rts m) k n e a = absurd (may_only k.sink.count k.sink.phase (form.Rts m) a)
requests p b w (form.Cts m) k n e a = absurd (cc e)
requests p b w (form.Ack f l) k n e a = absurd (cc e)
requests p b w (form.Nak q) k n e a = absurd (cc e)
requests p b w (form.Sot g f l) k n e a = absurd (cc e)
requests p b w (form.Part s) k n e a = absurd (cc e)
requests p b w (form.Eot f c) k n e a = absurd (cc e)

-- a quiet sink allows a request alone
quiet_only : (b : Bus) (f : Form) (k : Implied)
    → k.sink.phase ≡ Quiet → asked_by (Some f) ≡ None → AllowsForm (observer_of k) b (Some f) → ⊥
quiet_only bus.A (form.Rts n) k q e a = absurd (cc e)
quiet_only bus.A (form.Sot g f l) k q e a = subst HasGrant q a.0
quiet_only bus.A (form.Part s) k q e a = subst HasGrant q a.0
quiet_only bus.A (form.Eot f c) k q e a = subst HasGrant q a
quiet_only bus.A (form.Cts n) k q e a = a
quiet_only bus.A (form.Ack f l) k q e a = a
quiet_only bus.A (form.Nak x) k q e a = a
quiet_only bus.B f k q e a = subst (λ (phase : SinkPhase). MayAnswer k.sink.count phase f) q a

-- an allowed word that has a form
allowed_form : (p : Contents) (e : Entry) (f : Form) (o : Observer)
    → form_of p.codes e.bus e.word ≡ Some f → Allows p o (seen_of e) → AllowsForm o e.bus (Some f)
allowed_form p e f o form (inl free) = absurd (cc (form, free_none p.codes e.bus e.word free))
allowed_form p e f o form (inr a) = subst (AllowsForm o e.bus) form a

-- ---- entries

module _ (p : Contents) where
  -- the files of the attempt under way, whose entries so far are these, and of those after it
  abbrev files_on : List Placed → List Placed → List (Option ℕ)
  files_on before xs = file_said p.codes (said p (before ++ before_request p.codes xs)) ++ files_in p (attempts p.codes xs)

  module _ (n : ℕ) (k : Implied) (e : Entry) (es : List Entry) where
    abbrev x : Placed
    x = record { number = n; entry = e; before = k }

    abbrev next : Implied
    next = implies p (seen_of e) k

    abbrev xs : List Placed
    xs = placed_from p (suc n) next es

    abbrev later : List Crossing
    later = crossed p next (items_of es)

    -- the entries after this one deliver what crosses by them
    abbrev Delivers : Type 0
    Delivers = (before : List Placed) → next.sink.received.files ≡ [] → Fits next.sink.phase (said p before)
        → files_on before xs ≡ file_said p.codes (said p before) ++ named later

    same_next : (o : Option Form) → form_of p.codes e.bus e.word ≡ o → next ≡ implies_form p e.bus e.word o k
    same_next o h = ap (λ (y : Option Form). implies_form p e.bus e.word y k) h

    -- a request begins an attempt with the entries after it
    request_on : (f : Form) (count : ℕ)
        → form_of p.codes e.bus e.word ≡ Some f → asked_by (Some f) ≡ Some count → Allows p (observer_of k) (seen_of e) → Delivers
        → files_in p (record { request = x; asked = count; after = before_request p.codes xs } ∷ attempts p.codes xs)
        ≡ named (crossings_of (does p e.bus e.word f k.sink) ++ later)
    request_on f count o q a ih =
        let same = same_next (Some f) o in
        let g = requests p e.bus e.word f k count q (allowed_form p e f (observer_of k) o a) in
        let phase : next.sink.phase ≡ OwesClear = ap (λ (y : Implied). y.sink.phase) same ∙ g.phase in
        files_cons p (record { request = x; asked = count; after = before_request p.codes xs }) (attempts p.codes xs)
        ∙ ih [] (ap (λ (y : Implied). y.sink.received.files) same) (subst (λ (y : SinkPhase). Fits y (said p [])) (sym phase) refl)
        ∙ ap (λ (l : List Crossing). named (l ++ later)) (sym g.none)

    module _ (before : List Placed) (none : k.sink.received.files ≡ []) (fits : Fits k.sink.phase (said p before))
        (a : Allows p (observer_of k) (seen_of e)) (ih : Delivers) where
      abbrev here : List (Option ℕ)
      here = file_said p.codes (said p before)

      -- the entries with this one of the attempt, and those after it
      abbrev now : Option ℕ → List (Option ℕ)
      now q =
          file_said p.codes (said p (before ++ up_to x q (before_request p.codes xs)))
          ++ files_in p (attempt_by x q (before_request p.codes xs) ++ attempts p.codes xs)

      on : (crossing : List Crossing) → next.sink.received.files ≡ [] → Fits next.sink.phase (said p (before ++ x ∷ []))
          → file_said p.codes (said p (before ++ x ∷ [])) ≡ here ++ named crossing → now None ≡ here ++ named (crossing ++ later)
      on crossing none fits file =
          ap (λ (l : List Placed). file_said p.codes (said p l) ++ files_in p (attempts p.codes xs))
          (sym (append_assoc before (x ∷ []) (before_request p.codes xs)))
          ∙ ih (before ++ x ∷ []) none fits
          ∙ ap (λ (l : List (Option ℕ)). l ++ named later) file
          ∙ append_assoc here (named crossing) (named later)
          ∙ ap (λ (l : List (Option ℕ)). here ++ l) (sym (named_append crossing later))

      no_form : form_of p.codes e.bus e.word ≡ None → now None ≡ here ++ named later
      no_form o =
          let same : next ≡ k = same_next None o in
          let says : said p (before ++ x ∷ []) ≡ said p before =
          said_push p before x ∙ ap (λ (q : Option Form). said_in p x q (said p before)) o in
          on [] (subst (λ (q : Implied). q.sink.received.files ≡ []) (sym same) none)
          (subst (λ (q : Implied). Fits q.sink.phase (said p (before ++ x ∷ []))) (sym same) (subst (Fits k.sink.phase) (sym says) fits))
          (ap (file_said p.codes) says ∙ sym (append-nil here))

      some_form : (f : Form) → form_of p.codes e.bus e.word ≡ Some f → (q : Option ℕ) → asked_by (Some f) ≡ q
          → now q ≡ here ++ named (crossings_of (does p e.bus e.word f k.sink) ++ later)
      some_form f o None q =
          let d = does p e.bus e.word f k.sink in
          let same = same_next (Some f) o in
          let says : said p (before ++ x ∷ []) ≡ said_by f d (said p before) =
          said_push p before x ∙ ap (λ (y : Option Form). said_in p x y (said p before)) o in
          let g = word_goes p e.bus e.word f k (said p before) q (allowed_form p e f (observer_of k) o a) none fits in
          on (crossings_of d) (ap (λ (y : Implied). y.sink.received.files) same)
          (subst (λ (y : Implied). Fits y.sink.phase (said p (before ++ x ∷ []))) (sym same)
          (subst (Fits (implies_form p e.bus e.word (Some f) k).sink.phase) (sym says) g.fits))
          (ap (file_said p.codes) says ∙ g.file)
      some_form f o (Some count) q =
          ap (λ (l : List Placed). file_said p.codes (said p l)
          ++ files_in p (record { request = x; asked = count; after = before_request p.codes xs } ∷ attempts p.codes xs))
          (append-nil before)
          ∙ ap (λ (l : List (Option ℕ)). here ++ l) (request_on f count o q a ih)

      step_on : (o : Option Form)
          → form_of p.codes e.bus e.word ≡ o → now (asked_by o) ≡ here ++ named (crossings_by p e.bus e.word o k ++ later)
      step_on None o = no_form o
      step_on (Some f) o = some_form f o (asked_by (Some f)) refl

    -- before the first request
    first_on : k.sink.phase ≡ Quiet → Allows p (observer_of k) (seen_of e) → Delivers
        → (next.sink.phase ≡ Quiet → files_in p (attempts p.codes xs) ≡ named later) → (o : Option Form) → form_of p.codes e.bus e.word ≡ o
        → files_in p (attempt_by x (asked_by o) (before_request p.codes xs) ++ attempts p.codes xs)
        ≡ named (crossings_by p e.bus e.word o k ++ later)
    first_on quiet a ih rows None o = rows (ap (λ (y : Implied). y.sink.phase) (same_next None o) ∙ quiet)
    first_on quiet a ih rows (Some f) o = by (asked_by (Some f)) refl
      where
        by : (q : Option ℕ) → asked_by (Some f) ≡ q
            → files_in p (attempt_by x q (before_request p.codes xs) ++ attempts p.codes xs)
            ≡ named (crossings_of (does p e.bus e.word f k.sink) ++ later)
        by None q = absurd (quiet_only e.bus f k quiet q (allowed_form p e f (observer_of k) o a))
        by (Some count) q = request_on f count o q a ih

  allowed_next : (k : Implied) (e : Entry) (es : List Entry)
      → AreAllowed p (sees p (seen_of e) (observer_of k)) (items_of es) → AreAllowed p (observer_of (implies p (seen_of e) k)) (items_of es)
  allowed_next k e es a = subst (λ (o : Observer). AreAllowed p o (items_of es)) (sym (observer_step p (seen_of e) k)) a

  none_next : (k : Implied) (i : Seen) → k.sink.received.files ≡ [] → (implies p i k).sink.received.files ≡ []
  none_next k i none = by (form_of p.codes i.bus i.word)
    where
      by : (o : Option Form) → (implies_form p i.bus i.word o k).sink.received.files ≡ []
      by None = none
      by (Some f) = refl

  attempts_from : (n : ℕ) (k : Implied) (es : List Entry) (before : List Placed)
      → k.sink.received.files ≡ [] → Fits k.sink.phase (said p before) → AreAllowed p (observer_of k) (items_of es)
      → files_on before (placed_from p n k es) ≡ file_said p.codes (said p before) ++ named (crossed p k (items_of es))
  attempts_from n k [] before none fits a = ap (λ (l : List Placed). file_said p.codes (said p l) ++ []) (append-nil before)
  attempts_from n k (e ∷ es) before none fits a =
      step_on n k e es before none fits a.0
      (λ b other fit. attempts_from (suc n) (implies p (seen_of e) k) es b other fit (allowed_next k e es a.1))
      (form_of p.codes e.bus e.word) refl

  rows_from : (n : ℕ) (k : Implied) (es : List Entry)
      → k.sink.received.files ≡ [] → k.sink.phase ≡ Quiet → AreAllowed p (observer_of k) (items_of es)
      → files_in p (attempts p.codes (placed_from p n k es)) ≡ named (crossed p k (items_of es))
  rows_from n k [] none quiet a = refl
  rows_from n k (e ∷ es) none quiet a =
      first_on n k e es quiet a.0 (λ b other fit. attempts_from (suc n) (implies p (seen_of e) k) es b other fit (allowed_next k e es a.1))
      (λ q. rows_from (suc n) (implies p (seen_of e) k) es (none_next k (seen_of e) none) q (allowed_next k e es a.1))
      (form_of p.codes e.bus e.word) refl

-- ---- the law

pub rows_are_files : (p : Contents) (es : List Entry)
    → AreAllowed p at_first (items_of es) → NameFiles (delivering_rows p es) (files_of p (items_of es))
rows_are_files p es a = rows_from p 0 implied_at_first es refl refl a ∙ sym (ap named (files_from p [] (items_of es) a))
    ∙ named_sizes (files_of p (items_of es))

pub rows_are_delivered : (p : Contents) (es : List Entry) (r : RunOf p)
    → trace r.steps ≡ items_of es → NameFiles (delivering_rows p es) (delivered_by r)
rows_are_delivered p es r e =
    let run = r.is_run in
    let good = is_read p run.sound in
    let begins : BeginsARun p (items_of es) =
    record { first = r.first; byte = run.byte; steps = r.steps; run = run.run; more = []; records = e ∙ sym (append-nil (items_of es)) } in
    rows_are_files p es ((run_is_assigned p run.sound good (items_of es)).0 begins).0
    ∙ ap (λ (fs : List FileBytes). map (λ (f : FileBytes). Some f.number) fs)
    (sym (files_delivered p good r.first run.byte r.steps run.run (items_of es) e))
