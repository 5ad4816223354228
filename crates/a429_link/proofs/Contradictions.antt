-- What contradicts the recorded words of a link data unit, no run records.
use Rattle.std.proofs.Common.{◌≡◌, ℕ, suc, Bool, true, false, cond, eqb, List, [], ◌∷◌, ◌++◌, length, take, Option, Some, None, slice_get, refl, sym, ap, ◌∙◌, subst, inl, inr, append_assoc, append-nil, eqb-true}
use Rattle.std.proofs.lemmas.Bool.{and_parts}
use Rattle.a429_word.specs.declared.bus.Bus.{Bus}
use Rattle.a429_word.specs.declared.bus.Bus.TheVariants as bus
use Rattle.a429_word.proofs.ListFacts.{next_item}
use Rattle.a429_profile.specs.Profile.{Contents, IsProfile}
use Rattle.a429_ldu.specs.declared.forms.Form.{Form}
use Rattle.a429_ldu.specs.declared.forms.Form.TheVariants as form
use Rattle.a429_ldu.specs.Form.{form_of}
use Rattle.a429_ldu.specs.Ldu.{LduValue, IsLdu, block_of}
use Rattle.a429_link.specs.declared.number.UnitNumber.{UnitNumber}
use Rattle.a429_link.specs.declared.seen.Seen.{Seen}
use Rattle.a429_link.specs.Attempt.{Attempt, BeginsUnder, HasNumber, IsAttemptAt, IsStartOf, IsWhole, asks, fresh, grown, latest, latest_from, under_way}
use Rattle.a429_link.specs.Contradiction.{AreOther, IsOtherAt, IsOtherEnd, IsOtherForm, IsOtherLast, IsOtherNext, IsOtherStart, IsOtherWord, IsWrongAt, IsWrongForm, IsWrongNext, IsWrongStart, SoFar, UnitSoFar, none_so_far, begun, ended, sends, so_far, so_far_after, so_far_from, started, unit_after, whole_block, with_ack, with_end, with_start}
use Rattle.a429_link.specs.Group.{AcksForm, AcksOnly}
use Rattle.a429_link.specs.Number.{is_number}
use Rattle.a429_link.specs.Run.{BeginsARun, IsSubsequenceOf}
use Rattle.a429_link.proofs.Message.{IsRead}
use Rattle.a429_link.proofs.NumberFacts.{number_from}
use Rattle.a429_link.proofs.NumberKept.{goes_forward, one_unit, sub_all}
use Rattle.a429_link.proofs.BlockWords.{IsIn, end_of_block, in_back, in_whole, start_of_block}
use Rattle.a429_link.proofs.SourceBlock.{block_length}

-- ---- the latest attempt of one item more

abbrev with_item : Contents → Attempt → Seen → Attempt
with_item p a i = under_way (asks i.bus (form_of p.codes i.bus i.word)) (grown i.bus i.word (form_of p.codes i.bus i.word) a)

latest_push_from : (p : Contents) (items : List Seen) (i : Seen) (a : Attempt)
    → latest_from p a (items ++ i ∷ []) ≡ with_item p (latest_from p a items) i
latest_push_from p [] i a = refl
latest_push_from p (x ∷ items) i a = latest_push_from p items i (with_item p a x)

pub latest_push : (p : Contents) (items : List Seen) (i : Seen) → latest p (items ++ i ∷ []) ≡ with_item p (latest p items) i
latest_push p items i = latest_push_from p items i (fresh 0)

pub acks_push : (p : Contents) (n : UnitNumber) (items : List Seen) (i : Seen)
    → AcksOnly p n items → AcksForm n i.bus (form_of p.codes i.bus i.word) → AcksOnly p n (items ++ i ∷ [])
acks_push p n [] i h k = (k, tt)
acks_push p n (x ∷ items) i h k = (h.0, acks_push p n items i h.1 k)

pub same_number : (m n : UnitNumber) → is_number m n ≡ true → m ≡ n
same_number m n e =
    let both = and_parts (eqb m.file n.file) (eqb m.ldu n.ldu) e in
    number_from m n (eqb-true m.file n.file both.0) (eqb-true m.ldu n.ldu both.1)

-- ---- what is known

-- after some beginning of these items the latest attempt had this number and this property, and no other number was acknowledged since
record Was (p : Contents) (n : UnitNumber) (items : List Seen) (P : Attempt → Type 0) : Type 0 where
  before : List Seen
  since : List Seen
  splits : items ≡ before ++ since
  has : HasNumber p n (latest p before)
  is : P (latest p before)
  acks : AcksOnly p n since

was_more : (p : Contents) (n : UnitNumber) (items : List Seen) (P : Attempt → Type 0) (i : Seen)
    → AcksForm n i.bus (form_of p.codes i.bus i.word) → Was p n items P → Was p n (items ++ i ∷ []) P
was_more p n items P i k h = record {
  before = h.before;
  since = h.since ++ i ∷ [];
  splits = ap (λ (l : List Seen). l ++ i ∷ []) h.splits ∙ append_assoc h.before h.since (i ∷ []);
  has = h.has;
  is = h.is;
  acks = acks_push p n h.since i h.acks k;
}

was_now : (p : Contents) (n : UnitNumber) (items : List Seen) (P : Attempt → Type 0) → HasNumber p n (latest p items) → P (latest p items)
    → Was p n items P
was_now p n items P h is = record { before = items; since = []; splits = sym (append-nil items); has = h; is = is; acks = tt }

-- an attempt with this start word after a request for this count; with this end word last; with these words, and whole
abbrev Starts : ℕ → ℕ → Attempt → Type 0
Starts w count a = (a.words ≡ w ∷ []) × (a.count ≡ count)

record Ends (p : Contents) (w : ℕ) (a : Attempt) : Type 0 where
  words : List ℕ
  is : a.words ≡ words ++ w ∷ []
  flags : ℕ
  check : ℕ
  form_is : form_of p.codes bus.A w ≡ Some (form.Eot flags check)

abbrev Wholly : List ℕ → Attempt → Type 0
Wholly words a = (a.words ≡ words) × IsWhole a

abbrev WasEnd : Contents → UnitNumber → List Seen → Option ℕ → Type 0
WasEnd p n items None = Unit {0}
WasEnd p n items (Some w) = Was p n items (Ends p w)

abbrev WasWhole : Contents → UnitNumber → List Seen → Option (List ℕ) → Type 0
WasWhole p n items None = Unit {0}
WasWhole p n items (Some words) = Was p n items (Wholly words)

record IsKnown (p : Contents) (items : List Seen) (u : UnitSoFar) : Type 0 where
  named : IsStartOf u.number (form_of p.codes bus.A u.start)
  started : Was p u.number items (Starts u.start u.count)
  ending : WasEnd p u.number items u.ending
  block : WasWhole p u.number items u.block

abbrev IsKnownIf : Contents → List Seen → Option UnitSoFar → Type 0
IsKnownIf p items None = Unit {0}
IsKnownIf p items (Some u) = IsKnown p items u

end_more : (p : Contents) (n : UnitNumber) (items : List Seen) (o : Option ℕ) (i : Seen)
    → AcksForm n i.bus (form_of p.codes i.bus i.word) → WasEnd p n items o → WasEnd p n (items ++ i ∷ []) o
end_more p n items None i k h = tt
end_more p n items (Some w) i k h = was_more p n items (Ends p w) i k h

whole_more : (p : Contents) (n : UnitNumber) (items : List Seen) (o : Option (List ℕ)) (i : Seen)
    → AcksForm n i.bus (form_of p.codes i.bus i.word) → WasWhole p n items o → WasWhole p n (items ++ i ∷ []) o
whole_more p n items None i k h = tt
whole_more p n items (Some words) i k h = was_more p n items (Wholly words) i k h

known_more : (p : Contents) (items : List Seen) (u : UnitSoFar) (i : Seen)
    → AcksForm u.number i.bus (form_of p.codes i.bus i.word) → IsKnown p items u → IsKnown p (items ++ i ∷ []) u
known_more p items u i k h = record {
  named = h.named;
  started = was_more p u.number items (Starts u.start u.count) i k h.started;
  ending = end_more p u.number items u.ending i k h.ending;
  block = whole_more p u.number items u.block i k h.block;
}

if_more : (p : Contents) (items : List Seen) (o : Option UnitSoFar) (i : Seen)
    → ((n : UnitNumber) → AcksForm n i.bus (form_of p.codes i.bus i.word)) → IsKnownIf p items o → IsKnownIf p (items ++ i ∷ []) o
if_more p items None i k h = tt
if_more p items (Some u) i k h = known_more p items u i (k u.number) h

-- ---- a start word

-- an attempt that begins with its start word
started_now : (p : Contents) (items : List Seen) (a : Attempt) (i : Seen) (n : UnitNumber) → IsStartOf n (form_of p.codes bus.A i.word)
    → latest p (items ++ i ∷ []) ≡ record a { words = i.word ∷ [] } → IsKnown p (items ++ i ∷ []) (begun a n i.word)
started_now p items a i n h e = record {
  named = h;
  started =
      was_now p n (items ++ i ∷ []) (Starts i.word a.count) (subst (HasNumber p n) (sym e) h)
      (ap (λ (b : Attempt). b.words) e, ap (λ (b : Attempt). b.count) e);
  ending = tt;
  block = tt;
}

known_start : (p : Contents) (items : List Seen) (a : Attempt) (i : Seen) (n : UnitNumber) (o : Option UnitSoFar)
    → ((m : UnitNumber) → AcksForm m i.bus (form_of p.codes i.bus i.word)) → IsStartOf n (form_of p.codes bus.A i.word)
    → latest p (items ++ i ∷ []) ≡ record a { words = i.word ∷ [] } → IsKnownIf p items o
    → IsKnownIf p (items ++ i ∷ []) (started a n i.word o)
known_start p items a i n None k h e known = started_now p items a i n h e
known_start p items a i n (Some u) k h e known = by (is_number u.number n)
  where
    by : (t : Bool) → IsKnownIf p (items ++ i ∷ []) (cond t (Some u) (Some (begun a n i.word)))
    by true = known_more p items u i (k u.number) known
    by false = started_now p items a i n h e

known_first : (p : Contents) (items : List Seen) (a : Attempt) (words : List ℕ) (i : Seen) (n : UnitNumber) (o : Option UnitSoFar)
    → a.words ≡ words → ((m : UnitNumber) → AcksForm m i.bus (form_of p.codes i.bus i.word)) → IsStartOf n (form_of p.codes bus.A i.word)
    → latest p (items ++ i ∷ []) ≡ record a { words = a.words ++ i.word ∷ [] } → IsKnownIf p items o
    → IsKnownIf p (items ++ i ∷ []) (with_start a words n i.word o)
known_first p items a [] i n o q k h e known =
    known_start p items a i n o k h (e ∙ ap (λ (l : List ℕ). record a { words = l ++ i.word ∷ [] }) q) known
known_first p items a (v ∷ words) i n o q k h e known = if_more p items o i k known

-- ---- an end word

sends_number : (p : Contents) (u : UnitSoFar) (words : List ℕ) (w : ℕ)
    → IsStartOf u.number (form_of p.codes bus.A u.start) → sends u words ≡ true → BeginsUnder p u.number (words ++ w ∷ [])
sends_number p u [] w h e = absurd (cc e)
sends_number p u (v ∷ words) w h e = subst (λ x. IsStartOf u.number (form_of p.codes bus.A x)) (sym (eqb-true v u.start e)) h

whole_now : (p : Contents) (n : UnitNumber) (items : List Seen) (count : ℕ) (words : List ℕ) (old : Option (List ℕ))
    → HasNumber p n (latest p items) → (latest p items).words ≡ words → (latest p items).count ≡ count → WasWhole p n items old
    → WasWhole p n items (whole_block count words old)
whole_now p n items count words old has e c h = by (eqb (length words) count) refl
  where
    by : (t : Bool) → eqb (length words) count ≡ t → WasWhole p n items (cond t (Some words) old)
    by true q = was_now p n items (Wholly words) has (e, ap length e ∙ eqb-true (length words) count q ∙ sym c)
    by false q = h

known_end : (p : Contents) (items : List Seen) (a : Attempt) (i : Seen) (u : UnitSoFar) (flags check : ℕ)
    → form_of p.codes bus.A i.word ≡ Some (form.Eot flags check) → AcksForm u.number i.bus (form_of p.codes i.bus i.word)
    → latest p (items ++ i ∷ []) ≡ record a { words = a.words ++ i.word ∷ [] } → sends u a.words ≡ true → IsKnown p items u
    → IsKnown p (items ++ i ∷ []) (ended a i.word u)
known_end p items a i u flags check x k e s h =
    let more = known_more p items u i k h in
    let words : (latest p (items ++ i ∷ [])).words ≡ a.words ++ i.word ∷ [] = ap (λ (b : Attempt). b.words) e in
    let has : HasNumber p u.number (latest p (items ++ i ∷ [])) =
    subst (BeginsUnder p u.number) (sym words) (sends_number p u a.words i.word h.named s) in
    record {
      named = h.named;
      started = more.started;
      ending =
          was_now p u.number (items ++ i ∷ []) (Ends p i.word) has
          (record { words = a.words; is = words; flags = flags; check = check; form_is = x });
      block =
          whole_now p u.number (items ++ i ∷ []) a.count (a.words ++ i.word ∷ []) u.block has words
          (ap (λ (b : Attempt). b.count) e) more.block;
    }

known_last : (p : Contents) (items : List Seen) (a : Attempt) (i : Seen) (o : Option UnitSoFar) (flags check : ℕ)
    → form_of p.codes bus.A i.word ≡ Some (form.Eot flags check) → ((m : UnitNumber) → AcksForm m i.bus (form_of p.codes i.bus i.word))
    → latest p (items ++ i ∷ []) ≡ record a { words = a.words ++ i.word ∷ [] } → IsKnownIf p items o
    → IsKnownIf p (items ++ i ∷ []) (with_end a i.word o)
known_last p items a i None flags check x k e h = tt
known_last p items a i (Some u) flags check x k e h = by (sends u a.words) refl
  where
    by : (t : Bool) → sends u a.words ≡ t → IsKnownIf p (items ++ i ∷ []) (cond t (Some (ended a i.word u)) (Some u))
    by true q = known_end p items a i u flags check x (k u.number) e q h
    by false q = known_more p items u i (k u.number) h

-- ---- an acknowledgement

known_ack : (p : Contents) (items : List Seen) (i : Seen) (n : UnitNumber) (o : Option UnitSoFar)
    → ((m : UnitNumber) → n ≡ m → AcksForm m i.bus (form_of p.codes i.bus i.word)) → IsKnownIf p items o
    → IsKnownIf p (items ++ i ∷ []) (with_ack n o)
known_ack p items i n None k h = tt
known_ack p items i n (Some u) k h = by (is_number u.number n) refl
  where
    by : (t : Bool) → is_number u.number n ≡ t → IsKnownIf p (items ++ i ∷ []) (cond t (Some u) None)
    by true q = known_more p items u i (k u.number (sym (same_number u.number n q))) h
    by false q = tt

-- ---- each word

known_form : (p : Contents) (items : List Seen) (b : Bus) (w : ℕ) (x : Option Form) (s : SoFar)
    → form_of p.codes b w ≡ x → latest p (items ++ record { bus = b; word = w } ∷ []) ≡ under_way (asks b x) (grown b w x s.attempt)
    → IsKnownIf p items s.unit → IsKnownIf p (items ++ record { bus = b; word = w } ∷ []) (unit_after b w x s)
known_form p items bus.A w (Some (form.Sot g f l)) s q e h =
    let n : UnitNumber = record { file = f; ldu = l } in
    known_first p items s.attempt s.attempt.words (record { bus = bus.A; word = w }) n s.unit refl (λ m. tt)
    (subst (IsStartOf n) (sym q) refl) e h
known_form p items bus.A w (Some (form.Eot flags check)) s q e h =
    known_last p items s.attempt (record { bus = bus.A; word = w }) s.unit flags check q (λ m. tt) e h
known_form p items bus.B w (Some (form.Ack f l)) s q e h =
    known_ack p items (record { bus = bus.B; word = w }) (record { file = f; ldu = l }) s.unit
    (λ m r. subst (λ y. AcksForm m bus.B y) (sym q) r) h
known_form p items bus.A w None s q e h = if_more p items s.unit (record { bus = bus.A; word = w }) (λ m. tt) h
known_form p items bus.A w (Some (form.Rts n)) s q e h = if_more p items s.unit (record { bus = bus.A; word = w }) (λ m. tt) h
known_form p items bus.A w (Some (form.Cts n)) s q e h = if_more p items s.unit (record { bus = bus.A; word = w }) (λ m. tt) h
known_form p items bus.A w (Some (form.Ack f l)) s q e h = if_more p items s.unit (record { bus = bus.A; word = w }) (λ m. tt) h
known_form p items bus.A w (Some (form.Nak n)) s q e h = if_more p items s.unit (record { bus = bus.A; word = w }) (λ m. tt) h
known_form p items bus.A w (Some (form.Part n)) s q e h = if_more p items s.unit (record { bus = bus.A; word = w }) (λ m. tt) h
known_form p items bus.B w None s q e h =
    if_more p items s.unit (record { bus = bus.B; word = w }) (λ m. subst (AcksForm m bus.B) (sym q) tt) h
known_form p items bus.B w (Some (form.Rts n)) s q e h =
    if_more p items s.unit (record { bus = bus.B; word = w }) (λ m. subst (AcksForm m bus.B) (sym q) tt) h
known_form p items bus.B w (Some (form.Cts n)) s q e h =
    if_more p items s.unit (record { bus = bus.B; word = w }) (λ m. subst (AcksForm m bus.B) (sym q) tt) h
known_form p items bus.B w (Some (form.Nak n)) s q e h =
    if_more p items s.unit (record { bus = bus.B; word = w }) (λ m. subst (AcksForm m bus.B) (sym q) tt) h
known_form p items bus.B w (Some (form.Sot g f l)) s q e h =
    if_more p items s.unit (record { bus = bus.B; word = w }) (λ m. subst (AcksForm m bus.B) (sym q) tt) h
known_form p items bus.B w (Some (form.Part n)) s q e h =
    if_more p items s.unit (record { bus = bus.B; word = w }) (λ m. subst (AcksForm m bus.B) (sym q) tt) h
known_form p items bus.B w (Some (form.Eot f c)) s q e h =
    if_more p items s.unit (record { bus = bus.B; word = w }) (λ m. subst (AcksForm m bus.B) (sym q) tt) h

record Stands (p : Contents) (items : List Seen) (s : SoFar) : Type 0 where
  attempt : s.attempt ≡ latest p items
  unit : IsKnownIf p items s.unit

stands_next : (p : Contents) (items : List Seen) (i : Seen) (s : SoFar)
    → Stands p items s → Stands p (items ++ i ∷ []) (so_far_after i.bus i.word (form_of p.codes i.bus i.word) s)
stands_next p items i s h =
    let same : latest p (items ++ i ∷ []) ≡ with_item p s.attempt i =
    latest_push p items i ∙ ap (λ (a : Attempt). with_item p a i) (sym h.attempt) in
    record { attempt = sym same; unit = known_form p items i.bus i.word (form_of p.codes i.bus i.word) s refl same h.unit }

stands_from : (p : Contents) (items more : List Seen) (s : SoFar) → Stands p items s → Stands p (items ++ more) (so_far_from p s more)
stands_from p items [] s h = subst (λ l. Stands p l s) (sym (append-nil items)) h
stands_from p items (i ∷ more) s h =
    subst (λ l. Stands p l (so_far_from p s (i ∷ more))) (append_assoc items (i ∷ []) more)
    (stands_from p (items ++ i ∷ []) more (so_far_after i.bus i.word (form_of p.codes i.bus i.word) s) (stands_next p items i s h))

stands : (p : Contents) (items : List Seen) → Stands p items (so_far p items)
stands p items = stands_from p [] items none_so_far (record { attempt = refl; unit = tt })

-- the attempt that is under way is the latest one
pub so_far_latest : (p : Contents) (items : List Seen) → (so_far p items).attempt ≡ latest p items
so_far_latest p items = (stands p items).attempt

-- ---- two attempts under one number

-- both are attempts to send one link data unit
record Both (p : Contents) (n : UnitNumber) (P : Attempt → Type 0) (now : Attempt) : Type 0 where
  unit : LduValue
  is : IsLdu p unit
  first : Attempt
  holds : P first
  sent : IsAttemptAt p n unit first
  again : IsAttemptAt p n unit now

both : (p : Contents) → IsRead p → (n : UnitNumber) (items : List Seen) (P : Attempt → Type 0) → BeginsARun p items → Was p n items P
    → HasNumber p n (latest p items) → Both p n P (latest p items)
both p good n items P run was has =
    let there = subst (BeginsARun p) was.splits run in
    let again = subst (λ l. HasNumber p n (latest p l)) was.splits has in
    let one = one_unit p good n was.before was.since there (record { begins = was.has; again = again; acks = was.acks }) in
    record {
      unit = one.unit;
      is = one.is;
      first = latest p was.before;
      holds = was.is;
      sent = subst (λ l. IsAttemptAt p n one.unit (latest p l)) (append-nil was.before) (one.carried [] was.since refl);
      again = subst (λ l. IsAttemptAt p n one.unit (latest p l)) (sym was.splits) (one.carried was.since [] (sym (append-nil was.since)));
    }

first_in : (w : ℕ) (words : List ℕ) (more : List ℕ) → words ≡ w ∷ more → IsIn w words
first_in w words more e = subst (IsIn w) (sym e) (inl refl)

last_in : (w : ℕ) (words more : List ℕ) → words ≡ more ++ w ∷ [] → IsIn w words
last_in w words more e = subst (IsIn w) (sym e) (in_back w more (w ∷ []) (inl refl))

-- one count, and one start word
same_start : (p : Contents) → IsRead p → (n : UnitNumber) (now : Attempt) (v w count : ℕ) → IsStartOf n (form_of p.codes bus.A v)
    → IsStartOf n (form_of p.codes bus.A w) → now.words ≡ w ∷ [] → Both p n (Starts v count) now → (w ≡ v) × (now.count ≡ count)
same_start p good n now v w count hv hw e h =
    let block = block_of p.codes h.unit n.file n.ldu in
    let a =
    start_of_block p good h.unit n v h.is hv (in_whole v h.first.words block h.sent.words (first_in v h.first.words [] h.holds.0)) in
    let b = start_of_block p good h.unit n w h.is hw (in_whole w now.words block h.again.words (first_in w now.words [] e)) in
    (b ∙ sym a, h.again.asked ∙ sym h.sent.asked ∙ h.holds.1)

-- one end word
same_end : (p : Contents) → IsProfile p → IsRead p → (n : UnitNumber) (now : Attempt) (v w e : ℕ) (words : List ℕ) (flags check : ℕ)
    → IsStartOf n (form_of p.codes bus.A v) → form_of p.codes bus.A w ≡ Some (form.Eot flags check) → now.words ≡ words ++ w ∷ []
    → Both p n (Ends p e) now → w ≡ e
same_end p sound good n now v w e words flags check hv x q h =
    let block = block_of p.codes h.unit n.file n.ldu in
    let a =
    end_of_block p sound good h.unit n v e h.holds.flags h.holds.check h.is hv h.holds.form_is
    (in_whole e h.first.words block h.sent.words (last_in e h.first.words h.holds.words h.holds.is)) in
    let b =
    end_of_block p sound good h.unit n v w flags check h.is hv x (in_whole w now.words block h.again.words (last_in w now.words words q)) in
    b ∙ sym a

-- the words of the block
same_words : (p : Contents) (n : UnitNumber) (now : Attempt) (words : List ℕ)
    → Both p n (Wholly words) now → IsSubsequenceOf now.words words
same_words p n now words h =
    let all =
    sub_all h.first.words (block_of p.codes h.unit n.file n.ldu)
    (h.holds.1 ∙ h.sent.asked ∙ sym (block_length p.codes h.unit n)) h.sent.words in
    subst (IsSubsequenceOf now.words) (sym all ∙ h.holds.0) h.again.words

-- ---- no run contradicts what it has recorded

abbrev pub on : Bus → ℕ → Seen
on b w = record { bus = b; word = w }

no_other_start : (p : Contents)
    → IsRead p → (items : List Seen) (a : Attempt) (words : List ℕ) (n : UnitNumber) (w : ℕ) (o : Option UnitSoFar) → a.words ≡ words
    → IsStartOf n (form_of p.codes bus.A w) → latest p (items ++ on bus.A w ∷ []) ≡ record a { words = a.words ++ w ∷ [] }
    → IsKnownIf p items o → BeginsARun p (items ++ on bus.A w ∷ []) → IsOtherStart a words n w o → ⊥
no_other_start p good items a [] n w None q h e known run other = other
no_other_start p good items a (v ∷ words) n w o q h e known run other = other
no_other_start p good items a [] n w (Some u) q h e known run (same, other) =
    let now = latest p (items ++ on bus.A w ∷ []) in
    let number : u.number ≡ n = same_number u.number n same in
    let hw : IsStartOf u.number (form_of p.codes bus.A w) = subst (λ m. IsStartOf m (form_of p.codes bus.A w)) (sym number) h in
    let words : now.words ≡ w ∷ [] = ap (λ (b : Attempt). b.words) e ∙ ap (λ (l : List ℕ). l ++ w ∷ []) q in
    let was = was_more p u.number items (Starts u.start u.count) (on bus.A w) tt known.started in
    let one =
    both p good u.number (items ++ on bus.A w ∷ []) (Starts u.start u.count) run was (subst (BeginsUnder p u.number) (sym words) hw) in
    let all = same_start p good u.number now u.start w u.count known.named hw words one in
    elim other [
      | inl d ↦ d all.0
      | inr d ↦ d (sym (ap (λ (b : Attempt). b.count) e) ∙ all.1)
    ]

-- words that are not of the block
no_other_words : (p : Contents) → IsRead p → (items : List Seen) (u : UnitSoFar) (words : List ℕ) (i : Seen) (o : Option (List ℕ))
    → AcksForm u.number i.bus (form_of p.codes i.bus i.word) → (latest p (items ++ i ∷ [])).words ≡ words
    → HasNumber p u.number (latest p (items ++ i ∷ [])) → WasWhole p u.number items o → BeginsARun p (items ++ i ∷ []) → AreOther words o
    → ⊥
no_other_words p good items u words i None k e has was run other = other
no_other_words p good items u words i (Some block) k e has was run other =
    let one = both p good u.number (items ++ i ∷ []) (Wholly block) run (was_more p u.number items (Wholly block) i k was) has in
    other (subst (λ l. IsSubsequenceOf l block) e (same_words p u.number (latest p (items ++ i ∷ [])) block one))

has_now : (p : Contents) (items : List Seen) (a : Attempt) (u : UnitSoFar) (w : ℕ)
    → IsKnown p items u → latest p (items ++ on bus.A w ∷ []) ≡ record a { words = a.words ++ w ∷ [] } → sends u a.words ≡ true
    → HasNumber p u.number (latest p (items ++ on bus.A w ∷ []))
has_now p items a u w known e s = subst (λ (b : Attempt). HasNumber p u.number b) (sym e) (sends_number p u a.words w known.named s)

no_other_word : (p : Contents) → IsRead p → (items : List Seen) (a : Attempt) (w : ℕ) (o : Option UnitSoFar)
    → latest p (items ++ on bus.A w ∷ []) ≡ record a { words = a.words ++ w ∷ [] } → IsKnownIf p items o
    → BeginsARun p (items ++ on bus.A w ∷ []) → IsOtherWord a w o → ⊥
no_other_word p good items a w None e known run other = other
no_other_word p good items a w (Some u) e known run (s, other) =
    no_other_words p good items u (a.words ++ w ∷ []) (on bus.A w) u.block tt (ap (λ (b : Attempt). b.words) e)
    (has_now p items a u w known e s) known.block run other

no_other_end : (p : Contents)
    → IsProfile p → IsRead p → (items : List Seen) (a : Attempt) (u : UnitSoFar) (w flags check : ℕ) (o : Option ℕ)
    → form_of p.codes bus.A w ≡ Some (form.Eot flags check) → latest p (items ++ on bus.A w ∷ []) ≡ record a { words = a.words ++ w ∷ [] }
    → IsKnown p items u → sends u a.words ≡ true → WasEnd p u.number items o → BeginsARun p (items ++ on bus.A w ∷ []) → IsOtherEnd w o → ⊥
no_other_end p sound good items a u w flags check None x e known s was run other = other
no_other_end p sound good items a u w flags check (Some v) x e known s was run other =
    let one =
    both p good u.number (items ++ on bus.A w ∷ []) (Ends p v) run (was_more p u.number items (Ends p v) (on bus.A w) tt was)
    (has_now p items a u w known e s) in
    other (same_end p sound good u.number (latest p (items ++ on bus.A w ∷ [])) u.start w v a.words flags check known.named x
    (ap (λ (b : Attempt). b.words) e) one)

no_other_last : (p : Contents) → IsProfile p → IsRead p → (items : List Seen) (a : Attempt) (w flags check : ℕ) (o : Option UnitSoFar)
    → form_of p.codes bus.A w ≡ Some (form.Eot flags check) → latest p (items ++ on bus.A w ∷ []) ≡ record a { words = a.words ++ w ∷ [] }
    → IsKnownIf p items o → BeginsARun p (items ++ on bus.A w ∷ []) → IsOtherLast a w o → ⊥
no_other_last p sound good items a w flags check None x e known run other = other
no_other_last p sound good items a w flags check (Some u) x e known run (s, inl other) =
    no_other_end p sound good items a u w flags check u.ending x e known s known.ending run other
no_other_last p sound good items a w flags check (Some u) x e known run (s, inr other) =
    no_other_words p good items u (a.words ++ w ∷ []) (on bus.A w) u.block tt (ap (λ (b : Attempt). b.words) e)
    (has_now p items a u w known e s) known.block run other

no_other_form : (p : Contents) → IsProfile p → IsRead p → (items : List Seen) (b : Bus) (w : ℕ) (x : Option Form) (s : SoFar)
    → form_of p.codes b w ≡ x → latest p (items ++ on b w ∷ []) ≡ under_way (asks b x) (grown b w x s.attempt) → IsKnownIf p items s.unit
    → BeginsARun p (items ++ on b w ∷ []) → IsOtherForm b w x s → ⊥
no_other_form p sound good items bus.A w (Some (form.Sot g f l)) s q e known run other =
    let n : UnitNumber = record { file = f; ldu = l } in
    no_other_start p good items s.attempt s.attempt.words n w s.unit refl (subst (IsStartOf n) (sym q) refl) e known run other
no_other_form p sound good items bus.A w (Some (form.Part n)) s q e known run other =
    no_other_word p good items s.attempt w s.unit e known run other
no_other_form p sound good items bus.A w (Some (form.Eot f c)) s q e known run other =
    no_other_last p sound good items s.attempt w f c s.unit q e known run other
no_other_form p sound good items _ w _ s q e known run other = absurd other

no_other_next : (p : Contents) → IsProfile p → IsRead p → (items : List Seen) (i : ℕ) (o : Option Seen) → slice_get items i ≡ o
    → IsOtherNext p (so_far p (take i items)) o → BeginsARun p (take (suc i) items) → ⊥
no_other_next p sound good items i None e other run = other
no_other_next p sound good items i (Some x) e other run =
    let all = stands p (take i items) in
    let now = stands_next p (take i items) x (so_far p (take i items)) all in
    no_other_form p sound good (take i items) x.bus x.word (form_of p.codes x.bus x.word) (so_far p (take i items)) refl
    (sym now.attempt) all.unit (subst (BeginsARun p) (next_item i x items e) run) other

pub no_other : (p : Contents)
    → IsProfile p → IsRead p → (items : List Seen) (i : ℕ) → IsOtherAt p items i → BeginsARun p (take (suc i) items) → ⊥
no_other p sound good items i other run = no_other_next p sound good items i (slice_get items i) refl other run

-- ---- numbers

no_wrong_start : (p : Contents)
    → IsRead p → (items : List Seen) (a : Attempt) (words : List ℕ) (n : UnitNumber) (w : ℕ) (o : Option UnitSoFar) → a.words ≡ words
    → IsStartOf n (form_of p.codes bus.A w) → latest p (items ++ on bus.A w ∷ []) ≡ record a { words = a.words ++ w ∷ [] }
    → IsKnownIf p items o → BeginsARun p (items ++ on bus.A w ∷ []) → IsWrongStart words n o → ⊥
no_wrong_start p good items a [] n w None q h e known run wrong = wrong
no_wrong_start p good items a (v ∷ words) n w o q h e known run wrong = wrong
no_wrong_start p good items a [] n w (Some u) q h e known run wrong =
    let now = items ++ on bus.A w ∷ [] in
    let was = was_more p u.number items (Starts u.start u.count) (on bus.A w) tt known.started in
    let words : (latest p now).words ≡ w ∷ [] = ap (λ (b : Attempt). b.words) e ∙ ap (λ (l : List ℕ). l ++ w ∷ []) q in
    let has : HasNumber p n (latest p now) = subst (BeginsUnder p n) (sym words) h in
    wrong (goes_forward p good u.number n was.before was.since (subst (BeginsARun p) was.splits run) was.has
    (subst (λ l. HasNumber p n (latest p l)) was.splits has) was.acks)

no_wrong_form : (p : Contents) → IsRead p → (items : List Seen) (b : Bus) (w : ℕ) (x : Option Form) (s : SoFar) → form_of p.codes b w ≡ x
    → latest p (items ++ on b w ∷ []) ≡ under_way (asks b x) (grown b w x s.attempt) → IsKnownIf p items s.unit
    → BeginsARun p (items ++ on b w ∷ []) → IsWrongForm b x s → ⊥
no_wrong_form p good items bus.A w (Some (form.Sot g f l)) s q e known run wrong =
    let n : UnitNumber = record { file = f; ldu = l } in
    no_wrong_start p good items s.attempt s.attempt.words n w s.unit refl (subst (IsStartOf n) (sym q) refl) e known run wrong
no_wrong_form p good items _ w _ s q e known run wrong = absurd wrong

no_wrong_next : (p : Contents) → IsRead p → (items : List Seen) (i : ℕ) (o : Option Seen) → slice_get items i ≡ o
    → IsWrongNext p (so_far p (take i items)) o → BeginsARun p (take (suc i) items) → ⊥
no_wrong_next p good items i None e wrong run = wrong
no_wrong_next p good items i (Some x) e wrong run =
    let all = stands p (take i items) in
    let now = stands_next p (take i items) x (so_far p (take i items)) all in
    no_wrong_form p good (take i items) x.bus x.word (form_of p.codes x.bus x.word) (so_far p (take i items)) refl
    (sym now.attempt) all.unit (subst (BeginsARun p) (next_item i x items e) run) wrong

pub no_wrong : (p : Contents) → IsRead p → (items : List Seen) (i : ℕ) → IsWrongAt p items i → BeginsARun p (take (suc i) items) → ⊥
no_wrong p good items i wrong run = no_wrong_next p good items i (slice_get items i) refl wrong run
