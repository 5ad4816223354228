-- What is kept of a sink by itself is what the words say of it.
use Rattle.std.proofs.Common.{◌≡◌, ◌↔◌, ◌⊎◌, ℕ, ◌+◌, ◌==◌, Bool, true, false, cond, nat_lt, List, [], ◌∷◌, ◌++◌, append-nil, length, Option, Some, None, refl, sym, ap, ◌∙◌, subst, inl, inr, arith}
use Rattle.std.proofs.lemmas.Bool.Decides.{nat_tests}
use Rattle.std.proofs.lemmas.List.{length_push}
use Rattle.a429_word.specs.declared.bus.Bus.{Bus}
use Rattle.a429_word.specs.declared.bus.Bus.TheVariants as bus
use Rattle.a429_profile.specs.Profile.{Contents}
use Rattle.a429_profile.specs.declared.codes.Codes.{Codes}
use Rattle.a429_ldu.specs.Form.{form_of, is_free}
use Rattle.a429_ldu.specs.Carried.{bytes_in}
use Rattle.a429_ldu.specs.Ldu.{is_final}
use Rattle.a429_ldu.specs.declared.forms.Form.{Form}
use Rattle.a429_ldu.specs.declared.forms.Form.TheVariants as form
use Rattle.a429_ldu.specs.Sight.{form_in, sight_in}
use Rattle.a429_ldu.specs.declared.sight.Sight.TheVariants as sight
use Rattle.a429_ldu.proofs.SightFacts.{form_of-sight}
use Rattle.a429_link.specs.declared.doing.Crossing.{Crossing}
use Rattle.a429_link.specs.declared.doing.Doing.{Doing}
use Rattle.a429_link.specs.declared.doing.Doing.TheVariants as doing
use Rattle.a429_link.specs.declared.seen.Seen.{Seen}
use Rattle.a429_link.specs.Implied.{crossings_of, does, sink_sees_form, sizes_of, Implied}
use Rattle.a429_link.specs.Sink.{Block, EndWord, Granted, InBlock, MayAnswer, MayAnswerForm, Number, OwesAck, OwesClear, OwesNak, Quiet, Sink, SinkPhase, accepts_owed, at_end, at_part, at_start, emptied, empty_block, end_word, in_phase, is_same, is_same_file, number_of, put, without_files}
use Rattle.a429_link.specs.Trace.{files_of, sink_after, sink_at_first, sink_sees}
use Rattle.a429_link.proofs.ImpliedFacts.{file_crosses, files_stay_without, implied_sink}
use Rattle.a429_link.proofs.ObserverRefuses.{sees_on_as}
use Rattle.a429_link.proofs.TraceFiles.{after_push, observed_sink}
use Rattle.a429_sink.specs.Alone.{SinkAllows, SinkAllowsOn}
use Rattle.a429_sink.specs.Lone.{capped, capped_in, crosses, crosses_form, crossing_by, keeps_form, kept, listed}

-- ---- a block that is left out changes nothing

abbrev SameCapped : ℕ → (SinkPhase → SinkPhase) → SinkPhase → Type 0
SameCapped count f phase = capped_in count (f (capped_in count phase)) ≡ capped_in count (f phase)

twice : (count : ℕ) (phase : SinkPhase) → SameCapped count (λ q. q) phase
twice count (InBlock b) = by (nat_lt count (length b.words + 2)) refl
  where
    by : (t : Bool) → nat_lt count (length b.words + 2) ≡ t → capped_in count (cond t Granted (InBlock b)) ≡ cond t Granted (InBlock b)
    by true e = refl
    by false e = rw e refl
twice count Quiet = refl
twice count OwesClear = refl
twice count Granted = refl
twice count (OwesAck b flags) = refl
twice count OwesNak = refl

start_twice : (count : ℕ) (new : Block) (phase : SinkPhase) → SameCapped count (at_start new) phase
start_twice count new (InBlock b) = by (nat_lt count (length b.words + 2))
  where
    by : (t : Bool) → capped_in count (at_start new (cond t Granted (InBlock b))) ≡ capped_in count (InBlock new)
    by true = refl
    by false = refl
start_twice count new Quiet = refl
start_twice count new OwesClear = refl
start_twice count new Granted = refl
start_twice count new (OwesAck b flags) = refl
start_twice count new OwesNak = refl

part_twice : (count w : ℕ) (phase : SinkPhase) → SameCapped count (at_part w) phase
part_twice count w (InBlock b) = by (nat_lt count (length b.words + 2)) refl
  where
    by : (t : Bool) → nat_lt count (length b.words + 2) ≡ t
        → capped_in count (at_part w (cond t Granted (InBlock b))) ≡ capped_in count (at_part w (InBlock b))
    by false e = refl
    by true e =
        let more : nat_lt count (length b.words + 1 + 2) ≡ true = grind (arith, nat_tests) in
        sym (ap (λ (n : ℕ). cond (nat_lt count (n + 2)) Granted (at_part w (InBlock b))) (length_push b.words w)
        ∙ ap (λ (t : Bool). cond t Granted (at_part w (InBlock b))) more)
part_twice count w Quiet = refl
part_twice count w OwesClear = refl
part_twice count w Granted = refl
part_twice count w (OwesAck b flags) = refl
part_twice count w OwesNak = refl

end_twice : (p : Contents) (last : Option Number) (count : ℕ) (e : EndWord) (phase : SinkPhase)
    → SameCapped count (at_end p last count e) phase
end_twice p last count e (InBlock b) = by (nat_lt count (length b.words + 2)) refl
  where
    by : (t : Bool) → nat_lt count (length b.words + 2) ≡ t
        → capped_in count (at_end p last count e (cond t Granted (InBlock b))) ≡ capped_in count (at_end p last count e (InBlock b))
    by false e = refl
    by true e =
        let other : (length b.words + 2 == count) ≡ false = grind (arith, nat_tests) in
        rw other refl
end_twice p last count e Quiet = refl
end_twice p last count e OwesClear = refl
end_twice p last count e Granted = refl
end_twice p last count e (OwesAck b flags) = refl
end_twice p last count e OwesNak = refl

-- an acknowledgement accepts the same
accepted : (c : Codes) (b : Block) (flags : ℕ) (again same_file final : Bool) (k : Sink)
    → without_files (in_phase Quiet (cond again (without_files k) (record (without_files k) {
      last = Some (record { number = number_of b; final = final });
      received = put b.file (bytes_in c b.words) final (cond same_file (without_files k).received (emptied (without_files k).received));
    })))
    ≡ without_files (in_phase Quiet (cond again k (record k {
      last = Some (record { number = number_of b; final = final });
      received = put b.file (bytes_in c b.words) final (cond same_file k.received (emptied k.received));
    })))
accepted c b flags true same_file final k = refl
accepted c b flags false true true k = refl
accepted c b flags false true false k = refl
accepted c b flags false false true k = refl
accepted c b flags false false false k = refl

accepts_twice : (c : Codes) (phase : SinkPhase) (k : Sink)
    → without_files (in_phase Quiet (accepts_owed c (capped_in k.count phase) (without_files (capped k))))
    ≡ without_files (in_phase Quiet (accepts_owed c phase k))
accepts_twice c (OwesAck b flags) k = out_of_phase (is_same k.last (number_of b))
    ∙ accepted c b flags (is_same k.last (number_of b)) (is_same_file k.last b.file) (is_final c flags) k
  where
    out_of_phase : (again : Bool)
        → without_files (in_phase Quiet (cond again (without_files (capped k)) (record (without_files (capped k)) {
          last = Some (record { number = number_of b; final = is_final c flags });
          received =
              put b.file (bytes_in c b.words) (is_final c flags)
              (cond (is_same_file k.last b.file) (without_files k).received (emptied (without_files k).received));
        })))
        ≡ without_files (in_phase Quiet (cond again (without_files k) (record (without_files k) {
          last = Some (record { number = number_of b; final = is_final c flags });
          received =
              put b.file (bytes_in c b.words) (is_final c flags)
              (cond (is_same_file k.last b.file) (without_files k).received (emptied (without_files k).received));
        })))
    out_of_phase true = refl
    out_of_phase false = refl
accepts_twice c (InBlock b) k = by (nat_lt k.count (length b.words + 2))
  where
    by : (t : Bool)
        → without_files (in_phase Quiet (accepts_owed c (cond t Granted (InBlock b)) (without_files (capped k))))
        ≡ without_files (in_phase Quiet k)
    by true = refl
    by false = refl
accepts_twice c Quiet k = refl
accepts_twice c OwesClear k = refl
accepts_twice c Granted k = refl
accepts_twice c OwesNak k = refl

in_capped : (k : Sink) (a b : SinkPhase) → a ≡ b → without_files (in_phase a k) ≡ without_files (in_phase b k)
in_capped k a b e = ap (λ (q : SinkPhase). without_files (in_phase q k)) e

-- what is kept of a sink takes a word as the sink does
sees_kept : (p : Contents) (b : Bus) (w : ℕ) (x : Option Form) (k : Sink)
    → keeps_form p b w x (without_files (capped k)) ≡ keeps_form p b w x k
sees_kept p bus.A w (Some (form.Rts n)) k = refl
sees_kept p bus.A w (Some (form.Sot g f l)) k = in_capped k _ _ (start_twice k.count (empty_block g f l) k.phase)
sees_kept p bus.A w (Some (form.Part s)) k = in_capped k _ _ (part_twice k.count w k.phase)
sees_kept p bus.A w (Some (form.Eot f c)) k = in_capped k _ _ (end_twice p k.last k.count (end_word f c) k.phase)
sees_kept p bus.A w (Some (form.Cts n)) k = in_capped k _ _ (twice k.count k.phase)
sees_kept p bus.A w (Some (form.Ack f l)) k = in_capped k _ _ (twice k.count k.phase)
sees_kept p bus.A w (Some (form.Nak b)) k = in_capped k _ _ (twice k.count k.phase)
sees_kept p bus.A w None k = in_capped k _ _ (twice k.count k.phase)
sees_kept p bus.B w (Some (form.Cts n)) k = refl
sees_kept p bus.B w (Some (form.Nak b)) k = refl
sees_kept p bus.B w (Some (form.Ack f l)) k = accepts_twice p.codes k.phase k
sees_kept p bus.B w (Some (form.Rts n)) k = in_capped k _ _ (twice k.count k.phase)
sees_kept p bus.B w (Some (form.Sot g f l)) k = in_capped k _ _ (twice k.count k.phase)
sees_kept p bus.B w (Some (form.Part s)) k = in_capped k _ _ (twice k.count k.phase)
sees_kept p bus.B w (Some (form.Eot f c)) k = in_capped k _ _ (twice k.count k.phase)
sees_kept p bus.B w None k = in_capped k _ _ (twice k.count k.phase)

kept_from : (p : Contents) (items : List Seen) (k : Sink)
    → kept p items (without_files (capped k)) ≡ without_files (capped (sink_after p items k))
kept_from p [] k = refl
kept_from p (i ∷ items) k =
    let one = sees_kept p i.bus i.word (form_of p.codes i.bus i.word) k
    ∙ ap (λ (s : Sink). without_files (capped s)) (sym (sees_on_as p i.bus i.word k)) in
    ap (kept p items) one ∙ kept_from p items (sink_sees p i.bus i.word k)

pub kept_sink : (p : Contents) (items : List Seen) → kept p items sink_at_first ≡ without_files (capped (sink_after p items sink_at_first))
kept_sink p items = kept_from p items sink_at_first

-- ---- it may send the same words

may_capped : (count : ℕ) (phase : SinkPhase) (x : Option Form) → MayAnswerForm count (capped_in count phase) x ↔ MayAnswerForm count phase x
may_capped count phase None = (λ h. h, λ h. h)
may_capped count (InBlock b) (Some x) = by (nat_lt count (length b.words + 2))
  where
    by : (t : Bool) → MayAnswer count (cond t Granted (InBlock b)) x ↔ MayAnswer count (InBlock b) x
    by true = (λ h. h, λ h. h)
    by false = (λ h. h, λ h. h)
may_capped count Quiet (Some x) = (λ h. h, λ h. h)
may_capped count OwesClear (Some x) = (λ h. h, λ h. h)
may_capped count Granted (Some x) = (λ h. h, λ h. h)
may_capped count (OwesAck b flags) (Some x) = (λ h. h, λ h. h)
may_capped count OwesNak (Some x) = (λ h. h, λ h. h)

allowed_kept : (p : Contents) (k : Sink) (b : Bus) (w : ℕ) → SinkAllowsOn p (without_files (capped k)) b w ↔ SinkAllowsOn p k b w
allowed_kept p k bus.A w = (λ h. h, λ h. h)
allowed_kept p k bus.B w =
    let may = may_capped k.count k.phase (form_of p.codes bus.B w) in
    (λ h. elim h [ inl f ↦ inl f | inr a ↦ inr (may.0 a) ], λ h. elim h [ inl f ↦ inl f | inr a ↦ inr (may.1 a) ])

pub kept_allows : (p : Contents) (items : List Seen) (i : Seen)
    → SinkAllows p (kept p items sink_at_first) i ↔ SinkAllows p (sink_after p items sink_at_first) i
kept_allows p items i =
    subst (λ (k : Sink). SinkAllows p k i ↔ SinkAllows p (sink_after p items sink_at_first) i) (sym (kept_sink p items))
    (allowed_kept p (sink_after p items sink_at_first) i.bus i.word)

-- ---- the files that cross

owes_kept : (count : ℕ) (phase : SinkPhase) (x : Form) → MayAnswer count phase x → capped_in count phase ≡ phase
owes_kept count (InBlock b) x h = absurd h
owes_kept count Quiet x h = refl
owes_kept count OwesClear x h = refl
owes_kept count Granted x h = refl
owes_kept count (OwesAck b flags) x h = refl
owes_kept count OwesNak x h = refl

kept_crosses : (p : Contents) (items : List Seen) (w : ℕ) (x : Form)
    → form_of p.codes bus.B w ≡ Some x → MayAnswer (kept p items sink_at_first).count (kept p items sink_at_first).phase x
    → sizes_of (files_of p (items ++ record { bus = bus.B; word = w } ∷ [])) ≡ sizes_of (files_of p items)
    ++ crossings_of (does p bus.B 0 x (kept p items sink_at_first))
kept_crosses p items w x e a =
    let s = sink_after p items sink_at_first in
    let may : MayAnswer s.count s.phase x =
    (may_capped s.count s.phase (Some x)).0 (subst (λ (k : Sink). MayAnswer k.count k.phase x) (kept_sink p items) a) in
    let same : kept p items sink_at_first ≡ without_files s = kept_sink p items ∙ in_capped s _ _ (owes_kept s.count s.phase x may) in
    let out = ap (λ (i : Implied). i.sink) (implied_sink p items) in
    let seen = subst (λ (k : Sink). MayAnswer k.count k.phase x) (sym (observed_sink p items)) may in
    file_crosses p items (record { bus = bus.B; word = w }) x e seen
    ∙ ap (λ (k : Sink). sizes_of (files_of p items) ++ crossings_of (does p bus.B 0 x k)) (out ∙ sym same)

kept_stays : (p : Contents) (items : List Seen) (i : Seen)
    → (i.bus ≡ bus.A) ⊎ (form_of p.codes i.bus i.word ≡ None) → files_of p (items ++ i ∷ []) ≡ files_of p items
kept_stays p items i (inr e) = files_stay_without p items i e
kept_stays p items i (inl e) =
    let s = sink_after p items sink_at_first in
    ap (λ (k : Sink). k.received.files) (after_push p items i sink_at_first) ∙ ap (λ (b : Bus). (sink_sees p b i.word s).received.files) e
    ∙ by (form_of p.codes bus.A i.word) s
  where
    by : (x : Option Form) (k : Sink) → (sink_sees_form p bus.A i.word x k).received.files ≡ k.received.files
    by None k = refl
    by (Some (form.Rts n)) k = refl
    by (Some (form.Cts n)) k = refl
    by (Some (form.Ack f l)) k = refl
    by (Some (form.Nak b)) k = refl
    by (Some (form.Sot g f l)) k = refl
    by (Some (form.Part s)) k = refl
    by (Some (form.Eot f c)) k = refl

-- a free word has no form
free_formless : (p : Contents) (b : Bus) (w : ℕ) → is_free p.codes b w ≡ true → form_of p.codes b w ≡ None
free_formless p b w e = sym (form_of-sight p.codes b w) ∙ ap (λ (t : Bool). form_in (cond t sight.Free (sight_in (form_of p.codes b w)))) e

as_listed : (d : Doing) → crossings_of d ≡ listed (crossing_by d)
as_listed (doing.Accepts file ldu None) = refl
as_listed (doing.Accepts file ldu (Some crossing)) = refl
as_listed (doing.Again file ldu) = refl
as_listed (doing.Quiet) = refl
as_listed (doing.OwesClear n) = refl
as_listed (doing.Granted n) = refl
as_listed (doing.InBlock file ldu taken asked) = refl
as_listed (doing.OwesAck file ldu) = refl
as_listed (doing.OwesNak why) = refl

pub all_crosses : (p : Contents) (items : List Seen) (i : Seen) → SinkAllows p (kept p items sink_at_first) i
    → sizes_of (files_of p (items ++ i ∷ [])) ≡ sizes_of (files_of p items) ++ listed (crosses p i (kept p items sink_at_first))
all_crosses p items i = by i.bus i.word (form_of p.codes i.bus i.word) refl
  where
    k : Sink
    k = kept p items sink_at_first

    none : (b : Bus) (w : ℕ) → (b ≡ bus.A) ⊎ (form_of p.codes b w ≡ None)
        → sizes_of (files_of p (items ++ record { bus = b; word = w } ∷ [])) ≡ sizes_of (files_of p items) ++ []
    none b w h = ap sizes_of (kept_stays p items (record { bus = b; word = w }) h) ∙ sym (append-nil (sizes_of (files_of p items)))

    by : (b : Bus) (w : ℕ) (x : Option Form) → form_of p.codes b w ≡ x → SinkAllowsOn p k b w
        → sizes_of (files_of p (items ++ record { bus = b; word = w } ∷ [])) ≡ sizes_of (files_of p items)
        ++ listed (crosses_form p b (form_of p.codes b w) k)
    by bus.A w x e a = none bus.A w (inl refl)
    by bus.B w None e a =
        subst (λ (q : Option Form). sizes_of (files_of p (items ++ record { bus = bus.B; word = w } ∷ [])) ≡ sizes_of (files_of p items)
        ++ listed (crosses_form p bus.B q k))
        (sym e) (none bus.B w (inr e))
    by bus.B w (Some x) e (inl f) = absurd (cc (sym e ∙ free_formless p bus.B w f))
    by bus.B w (Some x) e (inr a) =
        subst (λ (q : Option Form). sizes_of (files_of p (items ++ record { bus = bus.B; word = w } ∷ [])) ≡ sizes_of (files_of p items)
        ++ listed (crosses_form p bus.B q k))
        (sym e)
        (kept_crosses p items w x e (subst (MayAnswerForm k.count k.phase) e a)
        ∙ ap (λ (c : List Crossing). sizes_of (files_of p items) ++ c) (as_listed (does p bus.B 0 x k)))
