-- What is allowed, as a list.
use Rattle.std.proofs.Common.{◌≡◌, ◌↔◌, ◌⊎◌, ℕ, zero, suc, ◌+◌, ◌<◌, Bool, true, false, cond, ltb, List, [], ◌∷◌, ◌++◌, length, Some, refl, sym, ap, ◌∙◌, subst, inl, inr, arith}
use Rattle.std.specs.Prelude.{Contains, slice_index_or}
use Rattle.std.proofs.lemmas.Bool.{lt-ltb, ltb-true}
use Rattle.a429_word.specs.declared.bus.Bus.{Bus}
use Rattle.a429_word.specs.declared.bus.Bus.TheVariants as bus
use Rattle.a429_ldu.specs.declared.forms.Form.{Form}
use Rattle.a429_ldu.specs.declared.forms.Form.TheVariants as form
use Rattle.a429_link.specs.Sink.{Granted, InBlock, MayAnswer, OwesAck, OwesClear, OwesNak, Quiet, SinkPhase}
use Rattle.a429_link.specs.Observer.{AllowsForm, HasGrant, Observer}
use Rattle.a429_link.specs.Allowed.{AckOf, AllowsKind, AnyData, AnyEot, AnySot, CtsOf, Kind, kind_of, kinds_allowed, kinds_in, kinds_of_block}

-- ---- lists by cases

abbrev IsIn : List Kind → Kind → Type 0
IsIn [] k = ⊥
IsIn (x ∷ xs) k = (x ≡ k) ⊎ IsIn xs k

in_at : (xs : List Kind) (k : Kind) (i : ℕ) → i < length xs → slice_index_or xs i k ≡ k → IsIn xs k
in_at [] k i l e = absurd (omega arith)
in_at (x ∷ xs) k zero l e = inl e
in_at (x ∷ xs) k (suc i) l e = inr (in_at xs k i (omega arith) e)

contains_in : (xs : List Kind) (k : Kind) → IsIn xs k → Contains xs k
contains_in [] k h = absurd h
contains_in (x ∷ xs) k (inl e) = (zero, omega arith, e)
contains_in (x ∷ xs) k (inr h) = let w = contains_in xs k h in let l = w.1 in (suc w.0, omega arith, w.2)

-- ---- the words of a block

block_kinds : (o : Observer) (phase : SinkPhase) → HasGrant phase → kinds_of_block o ≡ kinds_in o phase
block_kinds o Granted g = refl
block_kinds o (InBlock b) g = refl
block_kinds o Quiet g = absurd g
block_kinds o OwesClear g = absurd g
block_kinds o (OwesAck b f) g = absurd g
block_kinds o OwesNak g = absurd g

abbrev block_list : Bool → Bool → List Kind
block_list begun few = cond begun [] (AnySot ∷ []) ++ (cond few (AnyData ∷ []) [] ++ AnyEot ∷ [])

sot_in : (begun few : Bool) → begun ≡ false → IsIn (block_list begun few) AnySot
sot_in true few e = absurd (cc e)
sot_in false few e = inl refl

data_in : (begun few : Bool) → few ≡ true → IsIn (block_list begun few) AnyData
data_in begun false e = absurd (cc e)
data_in true true e = inl refl
data_in false true e = inr (inl refl)

eot_in : (begun few : Bool) → IsIn (block_list begun few) AnyEot
eot_in true true = inr (inl refl)
eot_in true false = inl refl
eot_in false true = inr (inr (inl refl))
eot_in false false = inr (inl refl)

-- ---- each form that is allowed is of a kind that is listed

answer_in : (o : Observer) (phase : SinkPhase) (x : Form) → MayAnswer o.count phase x → IsIn (kinds_in o phase) (kind_of x)
answer_in o OwesClear (form.Cts n) a = inl (ap (λ m. CtsOf m) (sym a))
answer_in o (OwesAck b flags) (form.Ack file ldu) a = inl (ap (λ n. AckOf n b.ldu) (sym a.0) ∙ ap (λ n. AckOf file n) (sym a.1))
answer_in o (OwesAck b flags) (form.Nak bits) a = inr (inl refl)
answer_in o OwesNak (form.Nak bits) a = inl refl
answer_in o _ _ a = absurd a

form_in : (o : Observer) (b : Bus) (x : Form) → AllowsForm o b (Some x) → IsIn (kinds_allowed o) (kind_of x)
form_in o bus.A (form.Rts n) a = inl refl
form_in o bus.A (form.Sot gfi file ldu) a =
    inr (subst (λ ks. IsIn ks AnySot) (block_kinds o o.phase a.0) (sot_in o.begun (ltb (o.parts + 2) o.count) a.1))
form_in o bus.A (form.Part semis) a =
    inr (subst (λ ks. IsIn ks AnyData) (block_kinds o o.phase a.0)
    (data_in o.begun (ltb (o.parts + 2) o.count) (lt-ltb (o.parts + 2) o.count a.1)))
form_in o bus.A (form.Eot flags check) a =
    inr (subst (λ ks. IsIn ks AnyEot) (block_kinds o o.phase a) (eot_in o.begun (ltb (o.parts + 2) o.count)))
form_in o bus.A (form.Cts n) a = absurd a
form_in o bus.A (form.Ack file ldu) a = absurd a
form_in o bus.A (form.Nak bits) a = absurd a
form_in o bus.B x a = inr (answer_in o o.phase x a)

-- ---- each kind that is listed is that of a form that is allowed

block_from : (o : Observer) (k : Kind) (begun few : Bool)
    → HasGrant o.phase → o.begun ≡ begun → ltb (o.parts + 2) o.count ≡ few → IsIn (block_list begun few) k → AllowsKind o k
block_from o k begun few g e f = by begun few e f
  where
    sot : o.begun ≡ false → AnySot ≡ k → AllowsKind o k
    sot e s = (bus.A, form.Sot 0 0 0, s, (g, e))

    part : ltb (o.parts + 2) o.count ≡ true → AnyData ≡ k → AllowsKind o k
    part f s = (bus.A, form.Part [], s, (g, ltb-true (o.parts + 2) o.count f))

    eot : AnyEot ≡ k → AllowsKind o k
    eot s = (bus.A, form.Eot 0 0, s, g)

    by : (begun few : Bool) → o.begun ≡ begun → ltb (o.parts + 2) o.count ≡ few → IsIn (block_list begun few) k → AllowsKind o k
    by true true e f h = elim h [ inl s ↦ part f s | inr t ↦ elim t [ inl s ↦ eot s | inr u ↦ absurd u ] ]
    by true false e f h = elim h [ inl s ↦ eot s | inr u ↦ absurd u ]
    by false true e f h =
        elim h [ inl s ↦ sot e s | inr t ↦ elim t [ inl s ↦ part f s | inr v ↦ elim v [ inl s ↦ eot s | inr u ↦ absurd u ] ] ]
    by false false e f h = elim h [ inl s ↦ sot e s | inr t ↦ elim t [ inl s ↦ eot s | inr u ↦ absurd u ] ]

abbrev at_phase : Observer → SinkPhase → Observer
at_phase o phase = record o { phase = phase }

phase_from : (o : Observer) (k : Kind) (phase : SinkPhase) → IsIn (kinds_in o phase) k → AllowsKind (at_phase o phase) k
phase_from o k Quiet h = absurd h
phase_from o k OwesClear h = elim h [ inl s ↦ (bus.B, form.Cts o.count, s, refl) | inr u ↦ absurd u ]
phase_from o k Granted h = block_from (at_phase o Granted) k o.begun (ltb (o.parts + 2) o.count) tt refl refl h
phase_from o k (InBlock b) h = block_from (at_phase o (InBlock b)) k o.begun (ltb (o.parts + 2) o.count) tt refl refl h
phase_from o k (OwesAck b flags) h = elim h [
  | inl s ↦ (bus.B, form.Ack b.file b.ldu, s, (refl, refl))
  | inr t ↦ elim t [ inl s ↦ (bus.B, form.Nak 0, s, tt) | inr u ↦ absurd u ]
]
phase_from o k OwesNak h = elim h [ inl s ↦ (bus.B, form.Nak 0, s, tt) | inr u ↦ absurd u ]

kind_from : (o : Observer) (k : Kind) → IsIn (kinds_allowed o) k → AllowsKind o k
kind_from o k (inl s) = (bus.A, form.Rts 3, s, tt)
kind_from o k (inr h) = phase_from o k o.phase h

pub listed_where_allowed : (o : Observer) (k : Kind) → Contains (kinds_allowed o) k ↔ AllowsKind o k
listed_where_allowed o k = (
  λ h. kind_from o k (in_at (kinds_allowed o) k h.0 h.1 h.2),
  λ a. contains_in (kinds_allowed o) k (subst (λ x. IsIn (kinds_allowed o) x) a.2 (form_in o a.0 a.1 a.3)),
)
