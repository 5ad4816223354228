-- What is allowed, as words of the profile.
use Rattle.std.proofs.Common.{◌≡◌, ◌↔◌, ℕ, ◌≤◌, Bool, true, false, cond, List, [], ◌∷◌, Option, Some, None, refl, sym, ◌∙◌, subst, inl, inr, arith}
use Rattle.std.specs.Prelude.{Contains}
use Rattle.a429_word.specs.declared.bus.Bus.{Bus}
use Rattle.a429_word.specs.declared.bus.Bus.TheVariants as bus
use Rattle.a429_profile.specs.Profile.{Contents, IsProfile}
use Rattle.a429_ldu.specs.declared.forms.Form.{Form}
use Rattle.a429_ldu.specs.declared.forms.Form.TheVariants as form
use Rattle.a429_ldu.specs.Form.{IsInRange, bus_of, form_of, word_number}
use Rattle.a429_ldu.proofs.FormFacts.{form_of-is, form_of-word_number}
use Rattle.a429_link.specs.declared.seen.Seen.{Seen}
use Rattle.a429_link.specs.Sink.{end_word, Granted, InBlock, MayAnswer, Number, OwesAck, OwesClear, OwesNak, Quiet, SinkPhase, at_end, at_part, at_start, empty_block, is_good}
use Rattle.a429_link.specs.Observer.{Allows, AllowsForm, Observer, at_first, observed, sees, sees_form}
use Rattle.a429_link.specs.Allowed.{AllowsKind, AllowsWordOf, Kind, kind_of, kinds_allowed}
use Rattle.a429_link.proofs.MessageRead.{is_read}
use Rattle.a429_link.proofs.TraceKinds.{listed_where_allowed}

-- ---- the numbers that an observer holds stand in words

abbrev HasNumbers : ℕ → SinkPhase → Type 0
HasNumbers count OwesClear = (3 ≤ count) × (count ≤ 255)
HasNumbers count (InBlock b) = (b.file ≤ 255) × (b.ldu ≤ 255)
HasNumbers count (OwesAck b flags) = (b.file ≤ 255) × (b.ldu ≤ 255)
HasNumbers count _ = Unit {0}

start_numbers : (g f l count : ℕ) (phase : SinkPhase)
    → f ≤ 255 → l ≤ 255 → HasNumbers count phase → HasNumbers count (at_start (empty_block g f l) phase)
start_numbers g f l count Granted hf hl h = (hf, hl)
start_numbers g f l count (InBlock b) hf hl h = (hf, hl)
start_numbers g f l count Quiet hf hl h = h
start_numbers g f l count OwesClear hf hl h = h
start_numbers g f l count (OwesAck b fl) hf hl h = h
start_numbers g f l count OwesNak hf hl h = h

part_numbers : (w count : ℕ) (phase : SinkPhase) → HasNumbers count phase → HasNumbers count (at_part w phase)
part_numbers w count Granted h = h
part_numbers w count (InBlock b) h = h
part_numbers w count Quiet h = h
part_numbers w count OwesClear h = h
part_numbers w count (OwesAck b fl) h = h
part_numbers w count OwesNak h = h

end_numbers : (p : Contents) (last : Option Number) (count flags check : ℕ) (phase : SinkPhase)
    → HasNumbers count phase → HasNumbers count (at_end p last count (end_word flags check) phase)
end_numbers p last count flags check Granted h = h
end_numbers p last count flags check (InBlock b) h = by (is_good p last count b check)
  where
    by : (t : Bool) → HasNumbers count (cond t (OwesAck b flags) OwesNak)
    by true = h
    by false = tt
end_numbers p last count flags check Quiet h = h
end_numbers p last count flags check OwesClear h = h
end_numbers p last count flags check (OwesAck b fl) h = h
end_numbers p last count flags check OwesNak h = h

abbrev Holds : Observer → Type 0
Holds o = HasNumbers o.count o.phase

sees_numbers : (p : Contents) (b : Bus) (w : ℕ) (f : Option Form) (o : Observer)
    → ((x : Form) → f ≡ Some x → IsInRange x) → Holds o → Holds (sees_form p b w f o)
sees_numbers p b w None o r h = h
sees_numbers p bus.A w (Some (form.Rts n)) o r h = let i = r (form.Rts n) refl in (i.0, i.1)
sees_numbers p bus.A w (Some (form.Sot g f l)) o r h = let i = r (form.Sot g f l) refl in start_numbers g f l o.count o.phase i.1 i.2 h
sees_numbers p bus.A w (Some (form.Part s)) o r h = part_numbers w o.count o.phase h
sees_numbers p bus.A w (Some (form.Eot f c)) o r h = end_numbers p o.last o.count f c o.phase h
sees_numbers p bus.A w (Some (form.Cts n)) o r h = h
sees_numbers p bus.A w (Some (form.Ack f l)) o r h = h
sees_numbers p bus.A w (Some (form.Nak b)) o r h = h
sees_numbers p bus.B w (Some (form.Cts n)) o r h = tt
sees_numbers p bus.B w (Some (form.Ack f l)) o r h = tt
sees_numbers p bus.B w (Some (form.Nak b)) o r h = tt
sees_numbers p bus.B w (Some (form.Rts n)) o r h = h
sees_numbers p bus.B w (Some (form.Sot g f l)) o r h = h
sees_numbers p bus.B w (Some (form.Part s)) o r h = h
sees_numbers p bus.B w (Some (form.Eot f c)) o r h = h

observed_numbers : (p : Contents) → IsProfile p → (items : List Seen) (o : Observer) → Holds o → Holds (observed p items o)
observed_numbers p is [] o h = h
observed_numbers p is (i ∷ items) o h =
    observed_numbers p is items (sees p i o)
    (sees_numbers p i.bus i.word (form_of p.codes i.bus i.word) o (λ x e. ((form_of-is p is i.bus i.word x).0 e).1.range) h)

-- ---- a form that is allowed, and one of its kind that stands in a word

abbrev AllowsRanged : Observer → Kind → Type 0
AllowsRanged o k = (x : Form) × IsInRange x × (kind_of x ≡ k) × AllowsForm o (bus_of x) (Some x)

answer_ranged : (o : Observer) (phase : SinkPhase) (x : Form) → HasNumbers o.count phase → MayAnswer o.count phase x
    → (y : Form) × IsInRange y × (kind_of y ≡ kind_of x) × (bus.B ≡ bus_of y) × MayAnswer o.count phase y
answer_ranged o OwesClear (form.Cts n) h a =
    let low = h.0 in let high = h.1 in let same : n ≡ o.count = a in (form.Cts n, (omega arith, omega arith), refl, refl, a)
answer_ranged o (OwesAck b flags) (form.Ack f l) h a =
    let file = h.0 in let ldu = h.1 in let one : f ≡ b.file = a.0 in let two : l ≡ b.ldu = a.1 in
    (form.Ack f l, (omega arith, omega arith), refl, refl, a)
answer_ranged o (OwesAck b flags) (form.Nak bits) h a = (form.Nak 0, omega arith, refl, refl, tt)
answer_ranged o OwesNak (form.Nak bits) h a = (form.Nak 0, omega arith, refl, refl, tt)
answer_ranged o _ _ h a = absurd a

ranged : (o : Observer) (b : Bus) (x : Form) → Holds o → AllowsForm o b (Some x) → AllowsRanged o (kind_of x)
ranged o bus.A (form.Rts n) h a = (form.Rts 3, (omega arith, omega arith), refl, tt)
ranged o bus.A (form.Sot g f l) h a = (form.Sot 0 0 0, (omega arith, omega arith, omega arith), refl, a)
ranged o bus.A (form.Part s) h a = (form.Part (0 ∷ []), (omega arith, omega arith, (omega arith, tt)), refl, a)
ranged o bus.A (form.Eot f c) h a = (form.Eot 0 0, (omega arith, omega arith), refl, a)
ranged o bus.A (form.Cts n) h a = absurd a
ranged o bus.A (form.Ack f l) h a = absurd a
ranged o bus.A (form.Nak b) h a = absurd a
ranged o bus.B x h a =
    let y = answer_ranged o o.phase x h a in
    (y.0, y.1, y.2, subst (λ b. AllowsForm o b (Some y.0)) y.3 y.4)

-- ---- words

word_from : (p : Contents) → IsProfile p → (o : Observer) (k : Kind) → AllowsRanged o k → AllowsWordOf p o k
word_from p is o k y =
    let read = form_of-word_number p is y.0 y.1 in (
      record { bus = bus_of y.0; word = word_number p.codes y.0 },
      y.0,
      read,
      y.2,
      inr (subst (λ f. AllowsForm o (bus_of y.0) f) (sym read) y.3),
    )

allowed_form : (p : Contents) → IsProfile p → (o : Observer) (i : Seen) (x : Form) → form_of p.codes i.bus i.word ≡ Some x → Allows p o i
    → AllowsForm o i.bus (Some x)
allowed_form p is o i x e (inl free) = let none = (is_read p is).free i.bus i.word free in absurd (cc (sym none ∙ e))
allowed_form p is o i x e (inr a) = subst (λ f. AllowsForm o i.bus f) e a

pub listed_where_word : (p : Contents) → IsProfile p → (items : List Seen) (k : Kind)
    → Contains (kinds_allowed (observed p items at_first)) k ↔ AllowsWordOf p (observed p items at_first) k
listed_where_word p is items k =
    let o = observed p items at_first in (
      λ c. to_word o (observed_numbers p is items at_first tt) ((listed_where_allowed o k).0 c),
      λ w. (listed_where_allowed o k).1 (w.0.bus, w.1, w.3, allowed_form p is o w.0 w.1 w.2 w.4),
    )
  where
    to_word : (o : Observer) → Holds o → AllowsKind o k → AllowsWordOf p o k
    to_word o h a = word_from p is o k (subst (λ x. AllowsRanged o x) a.2 (ranged o a.0 a.1 h a.3))
