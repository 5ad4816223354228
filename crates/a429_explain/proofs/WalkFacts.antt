-- The walk over the entries of a recording.
use Rattle.std.proofs.lemmas.Bool.{cases_order}
use Rattle.std.proofs.lemmas.Option.{slice_get_within}
use Rattle.std.proofs.Common.{Bool, true, false, cond, ◌≡◌, ◌⊎◌, ℕ, zero, suc, ◌+◌, ◌<◌, ◌≤◌, List, [], ◌∷◌, length, take, get_or, Option, Some, None, slice_get, refl, sym, ap, ◌∙◌, subst, inl, inr, arith}
use Rattle.a429_word.specs.declared.bus.Bus.{Bus}
use Rattle.a429_profile.specs.declared.codes.Codes.{Codes}
use Rattle.a429_profile.specs.Profile.{Contents, IsProfile}
use Rattle.a429_ldu.specs.declared.forms.Form.{Form}
use Rattle.a429_ldu.specs.declared.forms.Form.TheVariants.{Rts, Cts, Ack, Nak, Sot, Part, Eot}
use Rattle.a429_ldu.specs.declared.sight.Sight.{Sight}
use Rattle.a429_ldu.specs.declared.sight.Sight.TheVariants as sight
use Rattle.a429_ldu.specs.Form.{is_free, form_of}
use Rattle.a429_ldu.specs.Sight.{sight_of, sight_in, form_in}
use Rattle.a429_ldu.proofs.SightFacts.{sees_of}
use Rattle.a429_link.specs.Observer.{AllowsForm, Observer, Allows, AllowsNext, IsRefused, observed, sees, at_first}
use Rattle.a429_link.specs.Run.{BeginsARun}
use Rattle.a429_link.specs.declared.seen.Seen.{Seen}
use Rattle.a429_link.proofs.ObserverSight.{allows_sight}
use Rattle.a429_record.specs.declared.entry.Entry.{Entry}
use Rattle.a429_ldu.proofs.FormFree.{free_none}
use Rattle.a429_link.proofs.ObserverMore.{observed_more}
use Rattle.a429_cert.specs.Explained.{seen_of, items_of}
use Rattle.a429_explain.specs.declared.verdict.Reason.{Reason}
use Rattle.a429_explain.specs.Verdict.{HasNoForm}
use Rattle.a429_explain.specs.declared.verdict.Doubt.TheVariants.{NotOneBlock}
use Rattle.a429_explain.specs.declared.decoded.DecodedWord.{DecodedWord}
use Rattle.a429_explain.specs.Decoded.{sight_at, IsHeardAt}
use Rattle.a429_explain.specs.Stop.{IsDoubtOf, IsDoubtAt}
use Rattle.a429_explain.specs.Walk.{AreAllowedUpTo, FitsAt, FitsSight, IsRefusable, IsRefusal}
use Rattle.a429_explain.proofs.AttemptsFacts.{IsOfBlock}

-- what is recorded in entry n
pub item_at : (es : List Entry) (n : ℕ) (e : Entry) (i : Seen)
    → n < length es → e ≡ get_or es n e → i ≡ seen_of e → slice_get (items_of es) n ≡ Some i
item_at es n e i l is same = by es n l ∙ ap (λ (x : Seen). Some x) (ap seen_of (sym is) ∙ sym same)
  where
    by : (es : List Entry) (n : ℕ) → n < length es → slice_get (items_of es) n ≡ Some (seen_of (get_or es n e))
    by [] n l = absurd (omega arith)
    by (x ∷ es) zero l = refl
    by (x ∷ es) (suc n) l = by es n (omega arith)

split : (k n : ℕ) → k < n + 1 → (k < n) ⊎ (k ≡ n)
split k n m = elim (cases_order k n) [ inl e ↦ inr e | inr (inl l) ↦ inl l | inr (inr g) ↦ absurd (omega arith) ]

-- where the walk has come to
pub record Walks (p : Contents) (items : List Seen) (n : ℕ) (o : Observer) : Type 0 where
  pub observer : o ≡ observed p (take n items) at_first
  pub allowed : AreAllowedUpTo p items n

-- the word at this place is allowed
pub record IsAllowedAt (p : Contents) (items : List Seen) (n : ℕ) (o : Observer) (i : Seen) : Type 0 where
  pub item : slice_get items n ≡ Some i
  pub allowed : Allows p o i

pub walks_on : (p : Contents) (items : List Seen) (n : ℕ) (o t : Observer) (i : Seen)
    → Walks p items n o → IsAllowedAt p items n o i → t ≡ sees p i o → Walks p items (n + 1) t
walks_on p items n o t i w a seen =
    let one : n + 1 ≡ suc n = omega arith in
    rw one (record {
      observer = seen ∙ ap (sees p i) w.observer ∙ sym (observed_more p items n i at_first a.item);
      allowed = λ k m. upto k (split k n (omega (arith, m)));
    })
  where
    here : AllowsNext p (observed p (take n items) at_first) (slice_get items n)
    here =
        subst (AllowsNext p (observed p (take n items) at_first)) (sym a.item) (subst (λ (q : Observer). Allows p q i) w.observer a.allowed)

    upto : (k : ℕ) → (k < n) ⊎ (k ≡ n) → AllowsNext p (observed p (take k items) at_first) (slice_get items k)
    upto k (inl m) = w.allowed k m
    upto k (inr e) = subst (λ (j : ℕ). AllowsNext p (observed p (take j items) at_first) (slice_get items j)) (sym e) here

-- at its end
pub walked : (p : Contents) (items : List Seen) (n : ℕ) (o : Observer)
    → length items ≤ n → Walks p items n o → AreAllowedUpTo p items (length items)
walked p items n o long w = λ k l. w.allowed k (omega arith)

-- the word at this place is not allowed
pub is_refusal : (p : Contents) (items : List Seen) (n : ℕ) (o : Observer) (i : Seen) (s : Sight) (r : Reason)
    → (IsRefused p items n → BeginsARun p (take (suc n) items) → ⊥) → slice_get items n ≡ Some i → s ≡ sight_of p.codes i.bus i.word
    → FitsSight s r → (Allows p o i → ⊥) → Walks p items n o → IsRefusal p items n r
is_refusal p items n o i s r law at said fits h w =
    let refused : IsRefused p items n =
    λ a. h (subst (λ (q : Observer). Allows p q i) (sym w.observer) (subst (AllowsNext p (observed p (take n items) at_first)) at a)) in
    let one : n + 1 ≡ suc n = omega arith in
    record {
      first = record { before = w.allowed; refused = refused };
      inside = slice_get_within items n i at;
      fits = subst (λ (x : Option Seen). FitsAt p.codes x r) (sym at) (subst (λ (x : Sight). FitsSight x r) said fits);
      impossible = λ begins. law refused (subst (λ (k : ℕ). BeginsARun p (take k items)) one begins);
    }

-- it is neither free nor a request to send
pub refusable : (p : Contents)
    → IsProfile p → (o : Observer) (i : Seen) (s : Sight) → s ≡ sight_of p.codes i.bus i.word → (Allows p o i → ⊥) → IsRefusable s
refusable p is o i s e h = by s e
  where
    by : (s : Sight) → s ≡ sight_of p.codes i.bus i.word → IsRefusable s
    by sight.Free e = h ((allows_sight p o i sight.Free e).1 tt)
    by sight.NoForm e = tt
    by (sight.Form (Rts n)) e =
        h ((allows_sight p o i (sight.Form (Rts n)) e).1 (subst (λ (b : Bus). AllowsForm o b (Some (Rts n)))
        (sym ((sees_of p is i.bus i.word p.codes (sight.Form (Rts n)) refl e).found (Rts n) refl).bus) tt))
    by (sight.Form (Cts n)) e = tt
    by (sight.Form (Ack f l)) e = tt
    by (sight.Form (Nak b)) e = tt
    by (sight.Form (Sot g f l)) e = tt
    by (sight.Form (Part q)) e = tt
    by (sight.Form (Eot f k)) e = tt

-- so its form tells what it is
pub form_told : (s : Sight) → IsRefusable s → sight_in (form_in s) ≡ s
form_told sight.Free h = absurd h
form_told sight.NoForm h = refl
form_told (sight.Form x) h = refl

-- where each word is allowed, each that is not free has a form
formed_from : (p : Contents) (items : List Seen) (o : Observer)
    → ((k : ℕ) → k < length items → AllowsNext p (observed p (take k items) o) (slice_get items k)) → HasNoForm p.codes items → ⊥
formed_from p [] o h n = n
formed_from p (i ∷ items) o h (inl e) = (allows_sight p o i sight.NoForm (sym e)).0 (h 0 (omega arith))
formed_from p (i ∷ items) o h (inr n) = formed_from p items (sees p i o) (λ k l. h (suc k) (omega arith)) n

pub formed : (p : Contents) (items : List Seen) → AreAllowedUpTo p items (length items) → HasNoForm p.codes items → ⊥
formed p items h = formed_from p items at_first h

-- a word of a block can be doubted
pub block_doubt : (c : Codes) (items : List Seen) (n : ℕ) (w : DecodedWord)
    → IsHeardAt c items n w → IsOfBlock w.form → IsDoubtAt c items n NotOneBlock
block_doubt c items n w k b =
    subst (λ (o : Option Seen). IsDoubtOf (sight_at c o) NotOneBlock) (sym k.is)
    (by (is_free c k.item.bus k.item.word) (form_of c k.item.bus k.item.word) (free_none c k.item.bus k.item.word)
    (subst IsOfBlock (sym k.form_is) b))
  where
    by : (t : Bool) (o : Option Form) → (t ≡ true → o ≡ None) → IsOfBlock o → IsDoubtOf (cond t sight.Free (sight_in o)) NotOneBlock
    by true None h b = absurd b
    by true (Some x) h b = cc (h refl)
    by false None h b = absurd b
    by false (Some (Sot g f q)) h b = tt
    by false (Some (Part s)) h b = tt
    by false (Some (Eot f k)) h b = tt
    by false (Some (Rts n)) h b = absurd b
    by false (Some (Cts n)) h b = absurd b
    by false (Some (Ack f q)) h b = absurd b
    by false (Some (Nak q)) h b = absurd b
