-- What contradicts the words before it.
use Rattle.std.proofs.lemmas.Bool.{cases_order}
use Rattle.std.proofs.lemmas.Option.{slice_get_within}
use Rattle.std.proofs.Common.{◌≡◌, ◌⊎◌, ◌↔◌, ℕ, zero, suc, ◌+◌, ◌<◌, ◌≤◌, List, [], ◌∷◌, ◌++◌, append-nil, length, take, Option, Some, None, Result, Ok, Err, IsOk, OnOk, slice_get, refl, sym, ap, ◌∙◌, subst, inl, inr, arith}
use Rattle.a429_word.specs.declared.bus.Bus.{Bus}
use Rattle.a429_word.specs.declared.bus.Bus.TheVariants as bus
use Rattle.a429_profile.specs.Profile.{Contents}
use Rattle.a429_profile.specs.declared.codes.Codes.{Codes}
use Rattle.a429_ldu.specs.declared.forms.Form.{Form}
use Rattle.a429_ldu.specs.declared.forms.Form.TheVariants.{Rts, Cts, Ack, Nak, Sot, Part, Eot}
use Rattle.a429_ldu.specs.Form.{form_of}
use Rattle.a429_link.specs.declared.number.UnitNumber.{UnitNumber}
use Rattle.a429_link.specs.declared.seen.Seen.{Seen}
use Rattle.a429_link.specs.Attempt.{Attempt}
use Rattle.a429_link.specs.Contradiction.{SoFar, UnitSoFar, so_far, so_far_from, so_far_after, with_start, with_end, none_so_far, IsOtherForm, IsOtherStart, IsOtherWord, IsOtherLast, IsWrongForm, IsOtherAt, IsWrongAt}
use Rattle.a429_link.specs.Observer.{Observer, Allows, AllowsNext, observed, sees, at_first}
use Rattle.a429_link.specs.Run.{BeginsARun}
use Rattle.a429_link.specs.WholeBlock.{ComesForm, EndsBadAt, EndsBadForm, IsHalfAt, IsHalfForm, NumberComesAt, data_first, data_words}
use Rattle.a429_explain.specs.declared.decoded.DecodedWord.{DecodedWord}
use Rattle.a429_explain.specs.Decoded.{IsHeardAt}
use Rattle.a429_explain.specs.Walk.{AreAllowedUpTo}
use Rattle.a429_explain.specs.declared.verdict.Reason.{Reason}
use Rattle.a429_explain.specs.declared.verdict.Reason.TheVariants.{NoForm, NotGranted, WrongAnswer, BadBlock, WrongNumber, OtherBlock, NoRun}
use Rattle.a429_link.proofs.AllData.{data-append}
use Rattle.a429_link.proofs.Contradictions.{so_far_latest}
use Rattle.a429_link.proofs.ObserverMore.{observed_more}
use Rattle.a429_contradiction.specs.SoFar.{data_after, unheard}
use Rattle.a429_contradiction.specs.Contradiction.{Contradicts, ContradictsAt, HasNoContradiction, HasNoneBefore}

-- ---- what is acknowledged in an attempt does not matter

abbrev plain : Attempt → Attempt
plain a = record a { acked = None }

heard_start : (a : Attempt) (words : List ℕ) (n : UnitNumber) (w : ℕ) (o : Option UnitSoFar)
    → IsOtherStart (plain a) words n w o ≡ IsOtherStart a words n w o
heard_start a [] n w (Some u) = refl
heard_start a [] n w None = refl
heard_start a (v ∷ words) n w o = refl

heard_word : (a : Attempt) (w : ℕ) (o : Option UnitSoFar) → IsOtherWord (plain a) w o ≡ IsOtherWord a w o
heard_word a w None = refl
heard_word a w (Some u) = refl

heard_last : (a : Attempt) (w : ℕ) (o : Option UnitSoFar) → IsOtherLast (plain a) w o ≡ IsOtherLast a w o
heard_last a w None = refl
heard_last a w (Some u) = refl

pub heard_other : (b : Bus) (w : ℕ) (x : Option Form) (s : SoFar) → IsOtherForm b w x (unheard s) ≡ IsOtherForm b w x s
heard_other bus.A w (Some (Sot g f l)) s = heard_start s.attempt s.attempt.words (record { file = f; ldu = l }) w s.unit
heard_other bus.A w (Some (Part q)) s = heard_word s.attempt w s.unit
heard_other bus.A w (Some (Eot f c)) s = heard_last s.attempt w s.unit
heard_other bus.A w (Some (Rts n)) s = refl
heard_other bus.A w (Some (Cts n)) s = refl
heard_other bus.A w (Some (Ack f l)) s = refl
heard_other bus.A w (Some (Nak q)) s = refl
heard_other bus.A w None s = refl
heard_other bus.B w x s = refl

pub heard_wrong : (b : Bus) (x : Option Form) (s : SoFar) → IsWrongForm b x (unheard s) ≡ IsWrongForm b x s
heard_wrong bus.A (Some (Sot g f l)) s = refl
heard_wrong bus.A (Some (Part q)) s = refl
heard_wrong bus.A (Some (Eot f c)) s = refl
heard_wrong bus.A (Some (Rts n)) s = refl
heard_wrong bus.A (Some (Cts n)) s = refl
heard_wrong bus.A (Some (Ack f l)) s = refl
heard_wrong bus.A (Some (Nak q)) s = refl
heard_wrong bus.A None s = refl
heard_wrong bus.B x s = refl

heard_half : (p : Contents) (b : Bus) (w : ℕ) (x : Option Form) (s : SoFar)
    → IsHalfForm p.codes b w x (unheard s).attempt ≡ IsHalfForm p.codes b w x s.attempt
heard_half p bus.A w (Some (Part q)) s = refl
heard_half p _ w _ s = refl

heard_contradicts : (p : Contents) (o : Observer) (s : SoFar) (b : Bus) (w : ℕ) (x : Option Form) (r : Reason)
    → Contradicts p o (unheard s) b w x r ≡ Contradicts p o s b w x r
heard_contradicts p o s b w x BadBlock = ap (λ (T : Type 0). EndsBadForm p b x o.phase o.count ⊎ T) (heard_half p b w x s)
heard_contradicts p o s b w x WrongNumber = ap (λ (T : Type 0). (¬ ComesForm p.codes b x o.last) ⊎ T) (heard_wrong b x s)
heard_contradicts p o s b w x OtherBlock = heard_other b w x s
heard_contradicts p o s b w x NoForm = refl
heard_contradicts p o s b w x NotGranted = refl
heard_contradicts p o s b w x WrongAnswer = refl
heard_contradicts p o s b w x NoRun = refl

start_unheard : (a : Attempt) (words : List ℕ) (n : UnitNumber) (w : ℕ) (o : Option UnitSoFar)
    → with_start (plain a) words n w o ≡ with_start a words n w o
start_unheard a [] n w None = refl
start_unheard a [] n w (Some u) = refl
start_unheard a (v ∷ words) n w o = refl

end_unheard : (a : Attempt) (w : ℕ) (o : Option UnitSoFar) → with_end (plain a) w o ≡ with_end a w o
end_unheard a w None = refl
end_unheard a w (Some u) = refl

pub after_unheard : (b : Bus) (w : ℕ) (x : Option Form) (s : SoFar)
    → unheard (so_far_after b w x (unheard s)) ≡ unheard (so_far_after b w x s)
after_unheard bus.A w (Some (Sot g f l)) s =
    ap (λ (o : Option UnitSoFar). unheard (record { attempt = (so_far_after bus.A w (Some (Sot g f l)) s).attempt; unit = o }))
    (start_unheard s.attempt s.attempt.words (record { file = f; ldu = l }) w s.unit)
after_unheard bus.A w (Some (Part q)) s = refl
after_unheard bus.A w (Some (Eot f c)) s =
    ap (λ (o : Option UnitSoFar). unheard (record { attempt = (so_far_after bus.A w (Some (Eot f c)) s).attempt; unit = o }))
    (end_unheard s.attempt w s.unit)
after_unheard bus.A w (Some (Rts n)) s = refl
after_unheard bus.A w (Some (Cts n)) s = refl
after_unheard bus.A w (Some (Ack f l)) s = refl
after_unheard bus.A w (Some (Nak q)) s = refl
after_unheard bus.A w None s = refl
after_unheard bus.B w (Some (Sot g f l)) s = refl
after_unheard bus.B w (Some (Part q)) s = refl
after_unheard bus.B w (Some (Eot f c)) s = refl
after_unheard bus.B w (Some (Rts n)) s = refl
after_unheard bus.B w (Some (Cts n)) s = refl
after_unheard bus.B w (Some (Ack f l)) s = refl
after_unheard bus.B w (Some (Nak q)) s = refl
after_unheard bus.B w None s = refl

-- ---- a word without form

-- ---- at a place of a recording

so_far_more : (p : Contents) (items : List Seen) (n : ℕ) (i : Seen) (s : SoFar) → slice_get items n ≡ Some i
    → so_far_from p s (take (suc n) items) ≡ so_far_after i.bus i.word (form_of p.codes i.bus i.word) (so_far_from p s (take n items))
so_far_more p [] n i s at = absurd (cc at)
so_far_more p (x ∷ items) zero i s at = ap (λ (j : Seen). so_far_after j.bus j.word (form_of p.codes j.bus j.word) s) (cc at)
so_far_more p (x ∷ items) (suc n) i s at = so_far_more p items n i (so_far_after x.bus x.word (form_of p.codes x.bus x.word) s) at

-- the data words of the attempt after one more word
added : (c : Codes) (w : ℕ) (o : Option Form) (words : List ℕ)
    → form_of c bus.A w ≡ o → data_words c (words ++ w ∷ []) ≡ data_words c words ++ data_first w o []
added c w o words e = data-append c words (w ∷ []) ∙ ap (λ y. data_words c words ++ data_first w y []) e

data_more : (c : Codes) (b : Bus) (w : ℕ) (x : Option Form) (s : SoFar)
    → form_of c b w ≡ x → data_after b w x (data_words c s.attempt.words) ≡ data_words c (so_far_after b w x s).attempt.words
data_more c bus.A w (Some (Rts n)) s e = refl
data_more c bus.A w (Some (Sot g f l)) s e =
    sym (added c w (Some (Sot g f l)) s.attempt.words e ∙ append-nil (data_words c s.attempt.words))
data_more c bus.A w (Some (Part q)) s e = sym (added c w (Some (Part q)) s.attempt.words e)
data_more c bus.A w (Some (Eot f k)) s e = sym (added c w (Some (Eot f k)) s.attempt.words e ∙ append-nil (data_words c s.attempt.words))
data_more c bus.A w (Some (Cts n)) s e = refl
data_more c bus.A w (Some (Ack f l)) s e = refl
data_more c bus.A w (Some (Nak q)) s e = refl
data_more c bus.A w None s e = refl
data_more c bus.B w (Some (Rts n)) s e = refl
data_more c bus.B w (Some (Sot g f l)) s e = refl
data_more c bus.B w (Some (Part q)) s e = refl
data_more c bus.B w (Some (Eot f k)) s e = refl
data_more c bus.B w (Some (Cts n)) s e = refl
data_more c bus.B w (Some (Ack f l)) s e = refl
data_more c bus.B w (Some (Nak q)) s e = refl
data_more c bus.B w None s e = refl

-- what a witness of the first n words has seen
pub record Witnesses (p : Contents) (items : List Seen) (n : ℕ) (o : Observer) (s : SoFar) (parts : List ℕ) : Type 0 where
  pub observer : o ≡ observed p (take n items) at_first
  pub so_far : unheard s ≡ unheard (so_far p (take n items))
  pub words : parts ≡ data_words p.codes s.attempt.words
  pub none : HasNoContradiction p items n

-- the word at a place, and its form
pub record IsAt (p : Contents) (items : List Seen) (n : ℕ) (i : Seen) (x : Option Form) : Type 0 where
  pub item : slice_get items n ≡ Some i
  pub form_is : form_of p.codes i.bus i.word ≡ x

pub is_at : (p : Contents) (items : List Seen) (n : ℕ) (i : Seen) (h : DecodedWord)
    → slice_get items n ≡ Some i → IsHeardAt p.codes items n h → IsAt p items n i h.form
is_at p items n i h at k =
    let same : k.item ≡ i = cc (k.is, at) in
    record { item = at; form_is = subst (λ (j : Seen). form_of p.codes j.bus j.word ≡ h.form) same k.form_is }

contradicts_here : (p : Contents) (items : List Seen) (n : ℕ) (i : Seen) (r : Reason) → slice_get items n ≡ Some i
    → ContradictsAt p items n r
    ≡ Contradicts p (observed p (take n items) at_first) (so_far p (take n items)) i.bus i.word (form_of p.codes i.bus i.word) r
contradicts_here p items n i BadBlock at =
    rw at (ap (λ (a : Attempt).
    EndsBadForm p i.bus (form_of p.codes i.bus i.word) (observed p (take n items) at_first).phase (observed p (take n items) at_first).count
    ⊎ IsHalfForm p.codes i.bus i.word (form_of p.codes i.bus i.word) a) (sym (so_far_latest p (take n items))))
contradicts_here p items n i WrongNumber at = rw at refl
contradicts_here p items n i OtherBlock at = rw at refl
contradicts_here p items n i NoForm at = refl
contradicts_here p items n i NotGranted at = refl
contradicts_here p items n i WrongAnswer at = refl
contradicts_here p items n i NoRun at = refl

pub contradicts_at : (p : Contents) (items : List Seen) (n : ℕ) (i : Seen) (x : Option Form) (o : Observer) (s : SoFar) (parts : List ℕ)
    (r : Reason) → IsAt p items n i x → Witnesses p items n o s parts → ContradictsAt p items n r ≡ Contradicts p o s i.bus i.word x r
contradicts_at p items n i x o s parts r at w =
    contradicts_here p items n i r at.item
    ∙ sym (heard_contradicts p (observed p (take n items) at_first) (so_far p (take n items)) i.bus i.word (form_of p.codes i.bus i.word) r)
    ∙ ap (λ (y : Option Form). Contradicts p (observed p (take n items) at_first) (unheard (so_far p (take n items))) i.bus i.word y r)
    at.form_is
    ∙ ap (λ (q : Observer). Contradicts p q (unheard (so_far p (take n items))) i.bus i.word x r) (sym w.observer)
    ∙ ap (λ (t : SoFar). Contradicts p o t i.bus i.word x r) (sym w.so_far)
    ∙ heard_contradicts p o s i.bus i.word x r

cases_le : (k n : ℕ) → k ≤ n → (k < n) ⊎ (k ≡ n)
cases_le k n l = elim (cases_order k n) [ inl e ↦ inr e | inr (inl m) ↦ inl m | inr (inr g) ↦ absurd (omega (arith, l, g)) ]

pub witnesses_more : (p : Contents) (items : List Seen) (n : ℕ) (i : Seen) (x : Option Form) (o q : Observer) (s t : SoFar)
    (parts after : List ℕ)
    → IsAt p items n i x → Witnesses p items n o s parts → q ≡ sees p i o → unheard t ≡ unheard (so_far_after i.bus i.word x s)
    → after ≡ data_after i.bus i.word x parts → ((r : Reason) → ¬ Contradicts p o s i.bus i.word x r) → Witnesses p items (n + 1) q t after
witnesses_more p items n i x o q s t parts after at w seen shown added none =
    let one : n + 1 ≡ suc n = omega arith in
    rw one (record {
      observer = seen ∙ ap (sees p i) w.observer ∙ sym (observed_more p items n i at_first at.item);
      so_far = shown ∙ sym (after_unheard i.bus i.word x s) ∙ ap (λ (z : SoFar). unheard (so_far_after i.bus i.word x z)) w.so_far
          ∙ after_unheard i.bus i.word x (so_far p (take n items))
          ∙ ap (λ (y : Option Form). unheard (so_far_after i.bus i.word y (so_far p (take n items)))) (sym at.form_is)
          ∙ ap unheard (sym (so_far_more p items n i none_so_far at.item));
      words = added ∙ ap (data_after i.bus i.word x) w.words ∙ data_more p.codes i.bus i.word x s at.form_is
          ∙ sym (ap (λ (z : SoFar). data_words p.codes z.attempt.words) shown);
      none = λ k l r. upto k r (omega (arith, l));
    })
  where
    upto : (k : ℕ) (r : Reason) → k ≤ n → ¬ ContradictsAt p items k r
    upto k r l h = elim (cases_le k n l) [
      | inl less ↦ w.none k less r h
      | inr same ↦
          none r
          (subst (λ (T : Type 0). T) (contradicts_at p items n i x o s parts r at w) (subst (λ (j : ℕ). ContradictsAt p items j r) same h))
    ]

-- the word at a place is allowed
pub allowed_at : (p : Contents) (items : List Seen) (n : ℕ) (i : Seen) (o : Observer) (s : SoFar) (parts : List ℕ)
    → slice_get items n ≡ Some i → AreAllowedUpTo p items (length items) → Witnesses p items n o s parts → Allows p o i
allowed_at p items n i o s parts at may w =
    let here : AllowsNext p (observed p (take n items) at_first) (Some i) =
    subst (AllowsNext p (observed p (take n items) at_first)) at (may n (slice_get_within items n i at)) in
    subst (λ (q : Observer). Allows p q i) (sym w.observer) here

-- where each reason that holds in one way holds in another, too
pub none_before : (Holds Other : Reason → Type 0) → ((r : Reason) → Holds r → Other r) → (r : Reason) → HasNoneBefore Other r
    → HasNoneBefore Holds r
none_before Holds Other f BadBlock h = tt
none_before Holds Other f WrongNumber h = λ k. h (f BadBlock k)
none_before Holds Other f OtherBlock h = ((λ k. h.0 (f BadBlock k)), (λ k. h.1 (f WrongNumber k)))
none_before Holds Other f NoForm h = tt
none_before Holds Other f NotGranted h = tt
none_before Holds Other f WrongAnswer h = tt
none_before Holds Other f NoRun h = tt

-- ---- no run

pub no_run : (p : Contents) (items : List Seen) (n : ℕ) (r : Reason)
    → (EndsBadAt p items n → BeginsARun p (take (suc n) items) → ⊥)
    → (IsHalfAt p items n → BeginsARun p (take (suc n) items) → ⊥)
    → (BeginsARun p (take (suc n) items) → NumberComesAt p items n)
    → (IsWrongAt p items n → BeginsARun p (take (suc n) items) → ⊥)
    → (IsOtherAt p items n → BeginsARun p (take (suc n) items) → ⊥)
    → ContradictsAt p items n r → BeginsARun p (take (n + 1) items) → ⊥
no_run p items n r bad half comes wrong other h run =
    let one : n + 1 ≡ suc n = omega arith in
    by r h (subst (λ (k : ℕ). BeginsARun p (take k items)) one run)
  where
    by : (r : Reason) → ContradictsAt p items n r → BeginsARun p (take (suc n) items) → ⊥
    by BadBlock (inl h) run = bad h run
    by BadBlock (inr h) run = half h run
    by WrongNumber (inl h) run = h (comes run)
    by WrongNumber (inr h) run = wrong h run
    by OtherBlock h run = other h run
    by NoForm h run = h
    by NotGranted h run = h
    by WrongAnswer h run = h
    by NoRun h run = h

-- ---- results

pub on_ok : {A E : Type 0} (r : Result A E) {P : Type 0} → P → OnOk r P
on_ok (Ok a) h = h
on_ok (Err e) h = tt

pub taken_if : {A E : Type 0} (r : Result A E) {P Q : Type 0} → IsOk r ↔ P → OnOk r Q → P → Q
taken_if (Ok a) (f, g) h p = h
taken_if (Err e) (f, g) h p = absurd (cc (g p))
