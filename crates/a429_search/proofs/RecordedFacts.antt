-- An attempt by its words, and the attempts of a recording one after the other.
use Rattle.std.proofs.Common.{◌≡◌, ℕ, suc, ◌+◌, ◌<◌, ◌≤◌, false, List, [], ◌∷◌, ◌++◌, length, take, Option, Some, None, IfSome, is_some, slice_get, refl, sym, ap, ◌∙◌, subst, inl, inr, append-nil, arith}
use Rattle.a429_word.proofs.ListFacts.{next_item, some_within}
use Rattle.a429_word.proofs.Outcomes.{not_some}
use Rattle.a429_word.specs.declared.bus.Bus.{Bus}
use Rattle.a429_word.specs.declared.bus.Bus.TheVariants as bus
use Rattle.a429_profile.specs.Profile.{Contents, IsProfile}
use Rattle.a429_profile.specs.declared.codes.Codes.{Codes}
use Rattle.a429_ldu.specs.declared.forms.Form.{Form}
use Rattle.a429_ldu.specs.declared.forms.Form.TheVariants as form
use Rattle.a429_ldu.specs.Form.{form_of}
use Rattle.a429_ldu.specs.Ldu.{LduValue, IsLdu, block_of}
use Rattle.a429_link.specs.declared.number.UnitNumber.{UnitNumber}
use Rattle.a429_link.specs.declared.seen.Seen.{Seen}
use Rattle.a429_link.specs.Assignment.{Assigned, IsOf, IsSound}
use Rattle.a429_link.specs.Attempt.{asks, attempts, attempts_from, fresh, goes_on_to, grown, latest, latest_from, under_way}
use Rattle.a429_link.specs.Attempt as link
use Rattle.a429_link.specs.Run.{IsSubsequenceOf}
use Rattle.a429_link.specs.WholeBlock.{data_first, data_words}
use Rattle.a429_link.proofs.AllData.{data-append, data_block, sub_data}
use Rattle.a429_link.proofs.BlockWords.{InBlock, IsIn, in_block, in_whole, is_end, is_part, is_start}
use Rattle.a429_link.proofs.Contradictions.{latest_push}
use Rattle.a429_link.proofs.Message.{Eot, IsRead, Sot, end_message, message_in, message_of}
use Rattle.a429_link.proofs.MessageRead.{is_read}
use Rattle.a429_explain.specs.declared.decoded.DecodedWord.{DecodedWord}
use Rattle.a429_explain.specs.Decoded.{IsHeardAt}
use Rattle.a429_search.specs.declared.attempts.Attempt.{Attempt}
use Rattle.a429_search.specs.declared.attempts.StartWord.{StartWord}
use Rattle.a429_merge.specs.declared.pieces.EndWord.{EndWord}
use Rattle.a429_search.specs.Recorded.{IsAttemptFrom, IsRecorded, IsTaken, MayBeTo, asked_at, end_by, end_from, start_by, start_from}

-- ---- one more word of the block

pub start_push : (c : Codes) (s : Option StartWord) (words : List ℕ) (w : ℕ)
    → start_from c s (words ++ w ∷ []) ≡ start_by (form_of c bus.A w) (start_from c s words)
start_push c s [] w = refl
start_push c s (v ∷ words) w = start_push c (start_by (form_of c bus.A v) s) words w

pub end_push : (c : Codes) (e : Option EndWord) (words : List ℕ) (w : ℕ)
    → end_from c e (words ++ w ∷ []) ≡ end_by (form_of c bus.A w) (end_from c e words)
end_push c e [] w = refl
end_push c e (v ∷ words) w = end_push c (end_by (form_of c bus.A v) e) words w

-- the attempt with it, by what it says
with_word : (c : Codes) (a : link.Attempt) (old new : Attempt) (w : ℕ) (x : Option Form)
    → form_of c bus.A w ≡ x → IsRecorded c a old → new.count ≡ old.count → new.start ≡ start_by x old.start
    → new.words.items ≡ old.words.items ++ data_first w x [] → new.end ≡ end_by x old.end
    → is_some new.acknowledged ≡ is_some old.acknowledged → IsRecorded c (record a { words = a.words ++ w ∷ [] }) new
with_word c a old new w x is h count start parts end acked = record {
  count = count ∙ h.count;
  start = start ∙ ap (start_by x) h.start ∙ ap (λ (o : Option Form). start_by o (start_from c None a.words)) (sym is)
      ∙ sym (start_push c None a.words w);
  words = parts ∙ ap (λ (l : List ℕ). l ++ data_first w x []) h.words
      ∙ ap (λ (o : Option Form). data_words c a.words ++ data_first w o []) (sym is) ∙ sym (data-append c a.words (w ∷ []));
  end = end ∙ ap (end_by x) h.end ∙ ap (λ (o : Option Form). end_by o (end_from c None a.words)) (sym is) ∙ sym (end_push c None a.words w);
  acked = acked ∙ h.acked;
}

unmoved : (c : Codes) (a : link.Attempt) (old new : Attempt) → IsRecorded c a old → new.count ≡ old.count → new.start ≡ old.start
    → new.words.items ≡ old.words.items → new.end ≡ old.end → is_some new.acknowledged ≡ is_some old.acknowledged → IsRecorded c a new
unmoved c a old new h count start parts end acked =
    record { count = count ∙ h.count; start = start ∙ h.start; words = parts ∙ h.words; end = end ∙ h.end; acked = acked ∙ h.acked }

-- after the next word
pub took : (c : Codes) (a : link.Attempt) (old new : Attempt) (b : Bus) (w : ℕ) (x : Option Form)
    → form_of c b w ≡ x → IsTaken b w x old new → IsRecorded c a old → IsRecorded c (grown b w x a) new
took c a old new bus.A w (Some (form.Sot g f l)) is t h =
    with_word c a old new w (Some (form.Sot g f l)) is h t.count t.start (t.words ∙ sym (append-nil old.words.items)) t.end t.acked
took c a old new bus.A w (Some (form.Part s)) is t h =
    with_word c a old new w (Some (form.Part s)) is h t.count t.start t.words t.end t.acked
took c a old new bus.A w (Some (form.Eot f k)) is t h =
    with_word c a old new w (Some (form.Eot f k)) is h t.count t.start (t.words ∙ sym (append-nil old.words.items)) t.end t.acked
took c a old new bus.A w (Some (form.Rts n)) is t h = unmoved c a old new h t.count t.start t.words t.end t.acked
took c a old new bus.A w (Some (form.Cts n)) is t h = unmoved c a old new h t.count t.start t.words t.end t.acked
took c a old new bus.A w (Some (form.Ack f l)) is t h = unmoved c a old new h t.count t.start t.words t.end t.acked
took c a old new bus.A w (Some (form.Nak n)) is t h = unmoved c a old new h t.count t.start t.words t.end t.acked
took c a old new bus.A w None is t h = unmoved c a old new h t.count t.start t.words t.end t.acked
took c a old new bus.B w (Some (form.Cts n)) is t h =
    record { count = t.count ∙ h.count; start = t.start; words = t.words; end = t.end; acked = t.acked ∙ h.acked }
took c a old new bus.B w (Some (form.Ack f l)) is t h =
    record { count = t.count ∙ h.count; start = t.start ∙ h.start; words = t.words ∙ h.words; end = t.end ∙ h.end; acked = t.acked }
took c a old new bus.B w (Some (form.Rts n)) is t h = unmoved c a old new h t.count t.start t.words t.end t.acked
took c a old new bus.B w (Some (form.Sot g f l)) is t h = unmoved c a old new h t.count t.start t.words t.end t.acked
took c a old new bus.B w (Some (form.Part s)) is t h = unmoved c a old new h t.count t.start t.words t.end t.acked
took c a old new bus.B w (Some (form.Eot f k)) is t h = unmoved c a old new h t.count t.start t.words t.end t.acked
took c a old new bus.B w (Some (form.Nak n)) is t h = unmoved c a old new h t.count t.start t.words t.end t.acked
took c a old new bus.B w None is t h = unmoved c a old new h t.count t.start t.words t.end t.acked

-- ---- what its words say of the link data unit

-- a start word in a block is the block's
start_in_block : (p : Contents) → IsRead p → (u : LduValue) (n : UnitNumber) (w g f l : ℕ) → IsLdu p u → n.file ≤ 255 → n.ldu ≤ 255
    → form_of p.codes bus.A w ≡ Some (form.Sot g f l) → InBlock p u n w → (g ≡ u.gfi) × (f ≡ n.file) × (l ≡ n.ldu)
start_in_block p good u n w g f l is file ldu says (is_start e) =
    let fit = good.fit u is in
    let here : message_of p bus.A w ≡ Some (Sot g f l) = ap (message_in w) says in
    let there = ap (message_of p bus.A) e ∙ good.reads bus.A (Sot u.gfi n.file n.ldu) (fit.gfi, file, ldu) in
    (cc (here, there), cc (here, there), cc (here, there))
start_in_block p good u n w g f l is file ldu says (is_part e) =
    let here : message_of p bus.A w ≡ Some (Sot g f l) = ap (message_in w) says in
    absurd (cc (here, e))
start_in_block p good u n w g f l is file ldu says (is_end e) =
    let fit = good.fit u is in
    let here : message_of p bus.A w ≡ Some (Sot g f l) = ap (message_in w) says in
    let there = ap (message_of p bus.A) e ∙ good.reads bus.A (end_message u) (fit.flags, fit.check) in
    absurd (cc (here, there))

-- an end word in it, too
end_in_block : (p : Contents) → IsRead p → (u : LduValue) (n : UnitNumber) (w flags check : ℕ) → IsLdu p u → n.file ≤ 255 → n.ldu ≤ 255
    → form_of p.codes bus.A w ≡ Some (form.Eot flags check) → InBlock p u n w → (flags ≡ u.flags) × (check ≡ u.check)
end_in_block p good u n w flags check is file ldu says (is_start e) =
    let fit = good.fit u is in
    let here : message_of p bus.A w ≡ Some (Eot flags check) = ap (message_in w) says in
    let there = ap (message_of p bus.A) e ∙ good.reads bus.A (Sot u.gfi n.file n.ldu) (fit.gfi, file, ldu) in
    absurd (cc (here, there))
end_in_block p good u n w flags check is file ldu says (is_part e) =
    let here : message_of p bus.A w ≡ Some (Eot flags check) = ap (message_in w) says in
    absurd (cc (here, e))
end_in_block p good u n w flags check is file ldu says (is_end e) =
    let fit = good.fit u is in
    let here : message_of p bus.A w ≡ Some (Eot flags check) = ap (message_in w) says in
    let there = ap (message_of p bus.A) e ∙ good.reads bus.A (end_message u) (fit.flags, fit.check) in
    (cc (here, there), cc (here, there))

module _ (p : Contents) (good : IsRead p) (u : LduValue) (n : UnitNumber) (is : IsLdu p u) (file : n.file ≤ 255) (ldu : n.ldu ≤ 255) where
  abbrev IsStart : Option StartWord → Type 0
  IsStart o = IfSome o (λ s. (u.gfi ≡ s.gfi) × (s.number ≡ n))

  abbrev IsEnd : Option EndWord → Type 0
  IsEnd o = IfSome o (λ e. (u.flags ≡ e.flags) × (u.check ≡ e.check))

  start_next : (w : ℕ) (x : Option Form) (s : Option StartWord)
      → form_of p.codes bus.A w ≡ x → InBlock p u n w → IsStart s → IsStart (start_by x s)
  start_next w (Some (form.Sot g f l)) s e i h =
      let same = start_in_block p good u n w g f l is file ldu e i in
      (sym same.0, ap (λ (k : ℕ). record { file = k; ldu = l }) same.1 ∙ ap (λ (k : ℕ). record { file = n.file; ldu = k }) same.2)
  start_next w _ s e i h = h

  end_next : (w : ℕ) (x : Option Form) (o : Option EndWord) → form_of p.codes bus.A w ≡ x → InBlock p u n w → IsEnd o → IsEnd (end_by x o)
  end_next w (Some (form.Eot f c)) o e i h =
      let same = end_in_block p good u n w f c is file ldu e i in
      (sym same.0, sym same.1)
  end_next w _ o e i h = h

  starts : (words : List ℕ) (s : Option StartWord)
      → ((w : ℕ) → IsIn w words → InBlock p u n w) → IsStart s → IsStart (start_from p.codes s words)
  starts [] s all h = h
  starts (w ∷ words) s all h =
      starts words (start_by (form_of p.codes bus.A w) s) (λ v i. all v (inr i))
      (start_next w (form_of p.codes bus.A w) s refl (all w (inl refl)) h)

  ends : (words : List ℕ) (o : Option EndWord) → ((w : ℕ) → IsIn w words → InBlock p u n w) → IsEnd o → IsEnd (end_from p.codes o words)
  ends [] o all h = h
  ends (w ∷ words) o all h =
      ends words (end_by (form_of p.codes bus.A w) o) (λ v i. all v (inr i))
      (end_next w (form_of p.codes bus.A w) o refl (all w (inl refl)) h)

gfi_parts : (u : LduValue) (n : UnitNumber) (o : Option StartWord)
    → IfSome o (λ s. (u.gfi ≡ s.gfi) × (s.number ≡ n)) → IfSome o (λ s. u.gfi ≡ s.gfi)
gfi_parts u n None h = tt
gfi_parts u n (Some s) h = h.0

number_parts : (u : LduValue) (n : UnitNumber) (o : Option StartWord)
    → IfSome o (λ s. (u.gfi ≡ s.gfi) × (s.number ≡ n)) → IfSome o (λ s. s.number ≡ n)
number_parts u n None h = tt
number_parts u n (Some s) h = h.1

-- to what the attempt may be assigned
pub may_be_to : (p : Contents) → IsProfile p → (a : link.Attempt) (b : Attempt) (t : Assigned) → IsRecorded p.codes a b → IsSound p t
    → IsOf p (Some t) a → MayBeTo p b t
may_be_to p sound a b t r s of =
    let good = is_read p sound in
    let n = t.number in
    let u = t.unit in
    let low = good.first in
    let high = s.ldu in
    let ldu : n.ldu ≤ 255 = omega arith in
    let block = block_of p.codes u n.file n.ldu in
    let inside : (w : ℕ) → IsIn w a.words → InBlock p u n w = λ w i. in_block p good u n w s.unit (in_whole w a.words block of.0.words i) in
    let start : IfSome b.start (λ s. (u.gfi ≡ s.gfi) × (s.number ≡ n)) =
    subst (λ (o : Option StartWord). IfSome o (λ s. (u.gfi ≡ s.gfi) × (s.number ≡ n))) (sym r.start)
    (starts p good u n s.unit s.file ldu a.words None inside tt) in
    let end =
    subst (λ (o : Option EndWord). IfSome o (λ e. (u.flags ≡ e.flags) × (u.check ≡ e.check))) (sym r.end)
    (ends p good u n s.unit s.file ldu a.words None inside tt) in
    let parts =
    subst (IsSubsequenceOf (data_words p.codes a.words)) (data_block p good u n s.unit s.file ldu)
    (sub_data p.codes a.words block of.0.words) in
    record {
      unit = record {
        unit = s.unit;
        count = sym of.0.asked ∙ sym r.count;
        gfi = gfi_parts u n b.start start;
        end = end;
        words = subst (λ (l : List ℕ). IsSubsequenceOf l u.words) (sym r.words) parts;
      };
      number = number_parts u n b.start start;
    }

-- ---- the attempts of a recording

-- those before the last one
abbrev closes_to : Seen → Option Form → link.Attempt → Option ℕ → (link.Attempt → List link.Attempt) → List link.Attempt
closes_to i x a None more = more (grown i.bus i.word x a)
closes_to i x a (Some n) more = a ∷ more (fresh n)

abbrev closed_from : Contents → link.Attempt → List Seen → List link.Attempt
closed_from p a [] = []
closed_from p a (i ∷ items) =
    closes_to i (form_of p.codes i.bus i.word) a (asks i.bus (form_of p.codes i.bus i.word)) (λ b. closed_from p b items)

abbrev pub closed : Contents → List Seen → List link.Attempt
closed p items = closed_from p (fresh 0) items

all_from : (p : Contents) (a : link.Attempt) (items : List Seen)
    → attempts_from p a items ≡ closed_from p a items ++ latest_from p a items ∷ []
all_from p a [] = refl
all_from p a (i ∷ items) = by (asks i.bus (form_of p.codes i.bus i.word)) (λ b. all_from p b items)
  where
    by : (o : Option ℕ) → ((b : link.Attempt) → attempts_from p b items ≡ closed_from p b items ++ latest_from p b items ∷ [])
        → goes_on_to i (form_of p.codes i.bus i.word) a o (λ b. attempts_from p b items) ≡ closes_to i (form_of p.codes i.bus i.word) a o
        (λ b. closed_from p b items) ++ latest_from p (under_way o (grown i.bus i.word (form_of p.codes i.bus i.word) a)) items ∷ []
    by None rec = rec (grown i.bus i.word (form_of p.codes i.bus i.word) a)
    by (Some n) rec = ap (λ (l : List link.Attempt). a ∷ l) (rec (fresh n))

pub all_attempts : (p : Contents) (items : List Seen) → attempts p items ≡ closed p items ++ latest p items ∷ []
all_attempts p items = all_from p (fresh 0) items

-- after a request the last attempt is closed
abbrev closed_by : Option ℕ → List link.Attempt → link.Attempt → List link.Attempt
closed_by None done a = done
closed_by (Some n) done a = done ++ a ∷ []

push_closed : (p : Contents) (a : link.Attempt) (items : List Seen) (i : Seen)
    → closed_from p a (items ++ i ∷ [])
    ≡ closed_by (asks i.bus (form_of p.codes i.bus i.word)) (closed_from p a items) (latest_from p a items)
push_closed p a [] i = by (asks i.bus (form_of p.codes i.bus i.word))
  where
    by : (o : Option ℕ) → closes_to i (form_of p.codes i.bus i.word) a o (λ b. []) ≡ closed_by o [] a
    by None = refl
    by (Some n) = refl
push_closed p a (x ∷ items) i = by (asks x.bus (form_of p.codes x.bus x.word)) (λ b. push_closed p b items i)
  where
    next : link.Attempt
    next = grown x.bus x.word (form_of p.codes x.bus x.word) a

    cons : (o : Option ℕ) (done : List link.Attempt) (b : link.Attempt) → a ∷ closed_by o done b ≡ closed_by o (a ∷ done) b
    cons None done b = refl
    cons (Some n) done b = refl

    by : (o : Option ℕ)
        → ((b : link.Attempt) → closed_from p b (items ++ i ∷ [])
        ≡ closed_by (asks i.bus (form_of p.codes i.bus i.word)) (closed_from p b items) (latest_from p b items))
        → closes_to x (form_of p.codes x.bus x.word) a o (λ b. closed_from p b (items ++ i ∷ []))
        ≡ closed_by (asks i.bus (form_of p.codes i.bus i.word))
        (closes_to x (form_of p.codes x.bus x.word) a o (λ b. closed_from p b items)) (latest_from p (under_way o next) items)
    by None rec = rec next
    by (Some n) rec = ap (λ (l : List link.Attempt). a ∷ l) (rec (fresh n))
        ∙ cons (asks i.bus (form_of p.codes i.bus i.word)) (closed_from p (fresh n) items) (latest_from p (fresh n) items)

-- ---- up to an item

-- one that is no request
pub closed_same : (p : Contents) (items : List Seen) (n : ℕ) (i : Seen) → slice_get items n ≡ Some i
    → asks i.bus (form_of p.codes i.bus i.word) ≡ None → closed p (take (suc n) items) ≡ closed p (take n items)
closed_same p items n i at none =
    ap (closed p) (next_item n i items at)
    ∙ push_closed p (fresh 0) (take n items) i
    ∙ ap (λ (o : Option ℕ). closed_by o (closed p (take n items)) (latest p (take n items))) none

-- a request
pub closed_more : (p : Contents) (items : List Seen) (n : ℕ) (i : Seen) (count : ℕ) → slice_get items n ≡ Some i
    → asks i.bus (form_of p.codes i.bus i.word) ≡ Some count → closed p (take (suc n) items) ≡ attempts p (take n items)
closed_more p items n i count at some =
    ap (closed p) (next_item n i items at)
    ∙ push_closed p (fresh 0) (take n items) i
    ∙ ap (λ (o : Option ℕ). closed_by o (closed p (take n items)) (latest p (take n items))) some
    ∙ sym (all_attempts p (take n items))

pub latest_same : (p : Contents) (items : List Seen) (n : ℕ) (i : Seen)
    → slice_get items n ≡ Some i → asks i.bus (form_of p.codes i.bus i.word) ≡ None
    → latest p (take (suc n) items) ≡ grown i.bus i.word (form_of p.codes i.bus i.word) (latest p (take n items))
latest_same p items n i at none =
    ap (latest p) (next_item n i items at)
    ∙ latest_push p (take n items) i
    ∙ ap (λ (o : Option ℕ). under_way o (grown i.bus i.word (form_of p.codes i.bus i.word) (latest p (take n items)))) none

pub latest_asked : (p : Contents) (items : List Seen) (n : ℕ) (i : Seen) (count : ℕ)
    → slice_get items n ≡ Some i → asks i.bus (form_of p.codes i.bus i.word) ≡ Some count → latest p (take (suc n) items) ≡ fresh count
latest_asked p items n i count at some =
    ap (latest p) (next_item n i items at)
    ∙ latest_push p (take n items) i
    ∙ ap (λ (o : Option ℕ). under_way o (grown i.bus i.word (form_of p.codes i.bus i.word) (latest p (take n items)))) some

-- ---- by what is known of a word

pub first_closed : (p : Contents) (items : List Seen) (n : ℕ)
    → closed p (take n items) ≡ [] → attempts p (take n items) ≡ latest p (take n items) ∷ []
first_closed p items n none = all_attempts p (take n items) ∙ ap (λ (l : List link.Attempt). l ++ latest p (take n items) ∷ []) none

asked_is : (c : Codes) (items : List Seen) (n : ℕ) (i : Seen) (o : Option ℕ)
    → slice_get items n ≡ Some i → o ≡ asked_at c (slice_get items n) → asks i.bus (form_of c i.bus i.word) ≡ o
asked_is c items n i o at is = sym (is ∙ ap (asked_at c) at)

pub closed_on : (p : Contents) (items : List Seen) (n : ℕ) (o : Option ℕ) → n < length items → o ≡ asked_at p.codes (slice_get items n)
    → is_some o ≡ false → closed p (take (n + 1) items) ≡ closed p (take n items)
closed_on p items n o l is none =
    let found = some_within items n l in
    let one : n + 1 ≡ suc n = omega arith in
    ap (λ (k : ℕ). closed p (take k items)) one
    ∙ closed_same p items n found.0 found.1 (asked_is p.codes items n found.0 o found.1 is ∙ not_some o none)

pub asked_first : (p : Contents) (items : List Seen) (n count : ℕ) (b : Attempt)
    → n < length items → Some count ≡ asked_at p.codes (slice_get items n) → IsRecorded p.codes (fresh count) b
    → (closed p (take (n + 1) items) ≡ attempts p (take n items)) × IsRecorded p.codes (latest p (take (n + 1) items)) b
asked_first p items n count b l is h =
    let found = some_within items n l in
    let one : n + 1 ≡ suc n = omega arith in
    let asked = asked_is p.codes items n found.0 (Some count) found.1 is in (
      ap (λ (k : ℕ). closed p (take k items)) one ∙ closed_more p items n found.0 count found.1 asked,
      subst (λ (a : link.Attempt). IsRecorded p.codes a b)
          (sym (ap (λ (k : ℕ). latest p (take k items)) one ∙ latest_asked p items n found.0 count found.1 asked)) h,
    )

pub recorded_on : (p : Contents) (items : List Seen) (n : ℕ) (o : Option ℕ) (i : Seen) (h : DecodedWord) (old new : Attempt)
    → o ≡ asked_at p.codes (slice_get items n) → is_some o ≡ false → slice_get items n ≡ Some i → IsHeardAt p.codes items n h
    → IsTaken i.bus i.word h.form old new → IsRecorded p.codes (latest p (take n items)) old
    → IsRecorded p.codes (latest p (take (n + 1) items)) new
recorded_on p items n o i h old new is none at heard taken was =
    let same : heard.item ≡ i = cc (heard.is, at) in
    let form : form_of p.codes i.bus i.word ≡ h.form = subst (λ (j : Seen). form_of p.codes j.bus j.word ≡ h.form) same heard.form_is in
    let one : n + 1 ≡ suc n = omega arith in
    let grows =
    ap (λ (k : ℕ). latest p (take k items)) one ∙ latest_same p items n i at (asked_is p.codes items n i o at is ∙ not_some o none)
    ∙ ap (λ (x : Option Form). grown i.bus i.word x (latest p (take n items))) form in
    subst (λ (a : link.Attempt). IsRecorded p.codes a new) (sym grows)
    (took p.codes (latest p (take n items)) old new i.bus i.word h.form form taken was)

-- ---- the attempt as a whole

pub attempt_from : (p : Contents) (items : List Seen) (from to : ℕ) (b : Attempt) → closed p (take to items) ≡ attempts p (take from items)
    → IsRecorded p.codes (latest p (take to items)) b → IsAttemptFrom p items from to b
attempt_from p items from to b done is =
    record { is = is; all = all_attempts p (take to items) ∙ ap (λ (l : List link.Attempt). l ++ latest p (take to items) ∷ []) done }
