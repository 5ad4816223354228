-- An attempt that another attempt is held against.
use Rattle.std.proofs.Common.{◌≡◌, ◌⊎◌, ◌↔◌, not, IsTrue, ℕ, zero, suc, ◌+◌, ◌<◌, Bool, true, false, cond, List, [], ◌∷◌, ◌++◌, length, take, Option, Some, None, slice_get, refl, sym, ap, ◌∙◌, subst, inl, inr, append_assoc, append-nil, arith}
use Rattle.std.proofs.lemmas.Bool.{cases_order}
use Rattle.std.proofs.lemmas.Option.{slice_get_within}
use Rattle.a429_word.specs.declared.bus.Bus.{Bus}
use Rattle.a429_word.specs.declared.bus.Bus.TheVariants as bus
use Rattle.a429_word.proofs.ListFacts.{next_item}
use Rattle.a429_profile.specs.Profile.{Contents}
use Rattle.a429_profile.specs.declared.codes.Codes.{Codes}
use Rattle.a429_ldu.specs.declared.forms.Form.{Form}
use Rattle.a429_ldu.specs.declared.forms.Form.TheVariants.{Rts, Cts, Ack, Nak, Sot, Part, Eot}
use Rattle.a429_ldu.specs.Form.{form_of}
use Rattle.a429_link.specs.declared.number.UnitNumber.{UnitNumber}
use Rattle.a429_link.specs.declared.seen.Seen.{Seen}
use Rattle.a429_link.specs.Attempt.{Attempt, BeginsUnder, HasNumber, IsStartOf, asks, fresh, grown, latest, under_way}
use Rattle.a429_link.specs.Group.{AcksForm, AcksOnly}
use Rattle.a429_link.specs.Number.{is_number}
use Rattle.a429_link.specs.Run.{IsSubsequenceOf}
use Rattle.a429_link.specs.WholeBlock.{data_words}
use Rattle.a429_link.proofs.AllData.{data-append}
use Rattle.a429_link.proofs.Contradictions.{latest_push, same_number, acks_push}
use Rattle.a429_link.proofs.NumberKept.{sub_all}
use Rattle.a429_link.proofs.Subsequence.{sub_length}
use Rattle.a429_explain.specs.declared.decoded.DecodedWord.{DecodedWord}
use Rattle.a429_explain.specs.Decoded.{IsHeardAt}
use Rattle.a429_contradiction.specs.declared.rival.Rival.{Rival}
use Rattle.a429_contradiction.specs.Rival.{AreMoreWords, Asked, Attempts, IsRival, IsRivalAt, after, at_first, cleared, heard, heard_as, if_asked, joined, latest_request, named_as, request_from, started, with_request}

-- ---- two attempts

-- one of so many words is all of a list that has no more
whole_apart : (xs ys : List ℕ) (n : ℕ)
    → length xs ≡ n → (IsSubsequenceOf ys xs → ⊥) → (zs : List ℕ) → IsSubsequenceOf xs zs → IsSubsequenceOf ys zs → n < length zs
whole_apart xs ys n e other zs a b = elim (cases_order n (length zs)) [
  | inl same ↦ absurd (other (subst (IsSubsequenceOf ys) (sym (sub_all xs zs (e ∙ same) a)) b))
  | inr (inl less) ↦ less
  | inr (inr more) ↦ absurd (omega (arith, more, e, sub_length xs zs a))
]

pub no_part : (r : Bool) (xs ys : List ℕ) → IsTrue r ↔ IsSubsequenceOf xs ys → IsTrue (not r) → IsSubsequenceOf xs ys → ⊥
no_part true xs ys s found h = absurd (cc found)
no_part false xs ys s found h = let is = s.1 h in absurd (cc is)

-- without the number that is acknowledged in it
abbrev plain : Attempt → Attempt
plain a = record a { acked = None }

-- ---- the last request

request_push : (p : Contents) (n : ℕ) (r : Option ℕ) (items : List Seen) (i : Seen)
    → request_from p n r (items ++ i ∷ [])
    ≡ if_asked (n + length items) (asks i.bus (form_of p.codes i.bus i.word)) (request_from p n r items)
request_push p n r [] i =
    let none : n ≡ n + 0 = omega arith in ap (λ (m : ℕ). if_asked m (asks i.bus (form_of p.codes i.bus i.word)) r) none
request_push p n r (x ∷ items) i =
    let sum : suc n + length items ≡ n + suc (length items) = omega arith in
    request_push p (suc n) (if_asked n (asks x.bus (form_of p.codes x.bus x.word)) r) items i
    ∙ ap (λ (m : ℕ). if_asked m (asks i.bus (form_of p.codes i.bus i.word))
    (request_from p (suc n) (if_asked n (asks x.bus (form_of p.codes x.bus x.word)) r) items)) sum

request_more : (p : Contents) (items : List Seen) (i : Seen)
    → latest_request p (items ++ i ∷ []) ≡ if_asked (length items) (asks i.bus (form_of p.codes i.bus i.word)) (latest_request p items)
request_more p items i =
    let none : 0 + length items ≡ length items = omega arith in
    request_push p 0 None items i ∙ ap (λ (m : ℕ). if_asked m (asks i.bus (form_of p.codes i.bus i.word)) (latest_request p items)) none

-- ---- what is known of the attempts

-- the attempt in which the items up to some of `since` end, and its request
record IsOne (p : Contents) (before since : List Seen) (a : Asked) : Type 0 where
  xs : List Seen
  ys : List Seen
  splits : since ≡ xs ++ ys
  is : a.attempt ≡ plain (latest p (before ++ xs))
  asked : a.request ≡ latest_request p (before ++ xs)

-- after some beginning of the items the latest attempt had this number, no other was acknowledged since, and these are attempts since
record Since (p : Contents) (n : UnitNumber) (items : List Seen) (kept : List Asked) : Type 0 where
  before : List Seen
  since : List Seen
  splits : items ≡ before ++ since
  has : HasNumber p n (latest p before)
  acks : AcksOnly p n since
  each : (k : ℕ) (a : Asked) → slice_get kept k ≡ Some a → IsOne p before since a

abbrev SinceIf : Contents → List Seen → Option UnitNumber → List Asked → Type 0
SinceIf p items None kept = Unit {0}
SinceIf p items (Some n) kept = Since p n items kept

abbrev IsNamed : Contents → List ℕ → Option UnitNumber → Type 0
IsNamed p words None = ⊥
IsNamed p words (Some n) = BeginsUnder p n words

pub record Keeps (p : Contents) (items : List Seen) (t : Attempts) : Type 0 where
  attempt : t.last.attempt ≡ plain (latest p items)
  asked : t.last.request ≡ latest_request p items
  since : SinceIf p items t.number t.kept
  named : t.named ≡ true → IsNamed p t.last.attempt.words t.number

-- ---- one item more

one_more : (p : Contents) (before since : List Seen) (a : Asked) (i : Seen) → IsOne p before since a → IsOne p before (since ++ i ∷ []) a
one_more p before since a i h = record {
  xs = h.xs;
  ys = h.ys ++ i ∷ [];
  splits = ap (λ (l : List Seen). l ++ i ∷ []) h.splits ∙ append_assoc h.xs h.ys (i ∷ []);
  is = h.is;
  asked = h.asked;
}

since_more : (p : Contents) (n : UnitNumber) (items : List Seen) (kept : List Asked) (i : Seen)
    → AcksForm n i.bus (form_of p.codes i.bus i.word) → Since p n items kept → Since p n (items ++ i ∷ []) kept
since_more p n items kept i k h = record {
  before = h.before;
  since = h.since ++ i ∷ [];
  splits = ap (λ (l : List Seen). l ++ i ∷ []) h.splits ∙ append_assoc h.before h.since (i ∷ []);
  has = h.has;
  acks = acks_push p n h.since i h.acks k;
  each = λ j a at. one_more p h.before h.since a i (h.each j a at);
}

if_more : (p : Contents) (items : List Seen) (o : Option UnitNumber) (kept : List Asked) (i : Seen)
    → ((n : UnitNumber) → AcksForm n i.bus (form_of p.codes i.bus i.word)) → SinceIf p items o kept → SinceIf p (items ++ i ∷ []) o kept
if_more p items None kept i k h = tt
if_more p items (Some n) kept i k h = since_more p n items kept i (k n) h

since_now : (p : Contents) (n : UnitNumber) (items : List Seen) → HasNumber p n (latest p items) → Since p n items []
since_now p n items h =
    record { before = items; since = []; splits = sym (append-nil items); has = h; acks = tt; each = λ k a at. absurd (cc at) }

-- ---- one attempt more

pub get_push : {X : Type 0} (xs : List X) (x y : X) (k : ℕ) → slice_get (xs ++ x ∷ []) k ≡ Some y → (slice_get xs k ≡ Some y) ⊎ (y ≡ x)
get_push [] x y zero h = inr (sym (cc h))
get_push [] x y (suc k) h = absurd (cc h)
get_push (z ∷ xs) x y zero h = inl h
get_push (z ∷ xs) x y (suc k) h = get_push xs x y k h

since_keep : (p : Contents) (n : UnitNumber) (items : List Seen) (kept : List Asked) (a : Asked)
    → a.attempt ≡ plain (latest p items) → a.request ≡ latest_request p items → Since p n items kept → Since p n items (kept ++ a ∷ [])
since_keep p n items kept a e f h = record {
  before = h.before;
  since = h.since;
  splits = h.splits;
  has = h.has;
  acks = h.acks;
  each = λ k b at. elim (get_push kept a b k at) [
    | inl old ↦ h.each k b old
    | inr new ↦ record {
      xs = h.since;
      ys = [];
      splits = sym (append-nil h.since);
      is = ap (λ (x : Asked). x.attempt) new ∙ e ∙ ap (λ (l : List Seen). plain (latest p l)) h.splits;
      asked = ap (λ (x : Asked). x.request) new ∙ f ∙ ap (latest_request p) h.splits;
    }
  ];
}

if_keep : (p : Contents) (items : List Seen) (o : Option UnitNumber) (kept : List Asked) (a : Asked)
    → a.attempt ≡ plain (latest p items) → a.request ≡ latest_request p items → SinceIf p items o kept → SinceIf p items o (kept ++ a ∷ [])
if_keep p items None kept a e f h = tt
if_keep p items (Some n) kept a e f h = since_keep p n items kept a e f h

-- ---- each word

abbrev on : Bus → ℕ → Seen
on b w = record { bus = b; word = w }

begins_more : (p : Contents) (n : UnitNumber) (words : List ℕ) (w : ℕ) → BeginsUnder p n words → BeginsUnder p n (words ++ w ∷ [])
begins_more p n [] w h = absurd h
begins_more p n (v ∷ words) w h = h

named_more : (p : Contents) (words : List ℕ) (o : Option UnitNumber) (w : ℕ) → IsNamed p words o → IsNamed p (words ++ w ∷ []) o
named_more p words None w h = h
named_more p words (Some n) w h = begins_more p n words w h

-- the attempt with one word more
word_more : (p : Contents) (items : List Seen) (i : Seen) (a : Attempt) (w : ℕ)
    → a ≡ plain (latest p items) → latest p (items ++ i ∷ []) ≡ record (latest p items) { words = (latest p items).words ++ w ∷ [] }
    → record a { words = a.words ++ w ∷ [] } ≡ plain (latest p (items ++ i ∷ []))
word_more p items i a w h e = ap (λ (b : Attempt). record b { words = b.words ++ w ∷ [] }) h ∙ ap plain (sym e)

module _ (p : Contents) (items : List Seen) (i : Seen) where
  keeps_joined : (t u : Attempts) → ((n : UnitNumber) → AcksForm n i.bus (form_of p.codes i.bus i.word))
      → latest p (items ++ i ∷ []) ≡ record (latest p items) { words = (latest p items).words ++ i.word ∷ [] }
      → latest_request p (items ++ i ∷ []) ≡ latest_request p items → u ≡ joined i.word t → Keeps p items t → Keeps p (items ++ i ∷ []) u
  keeps_joined t u k e r is h =
      subst (Keeps p (items ++ i ∷ [])) (sym is) (record {
        attempt = word_more p items i t.last.attempt i.word h.attempt e;
        asked = h.asked ∙ sym r;
        since = if_more p items t.number t.kept i k h.since;
        named = λ yes. named_more p t.last.attempt.words t.number i.word (h.named yes);
      })

  keeps_same : (t u : Attempts)
      → ((n : UnitNumber) → AcksForm n i.bus (form_of p.codes i.bus i.word)) → plain (latest p (items ++ i ∷ [])) ≡ plain (latest p items)
      → latest_request p (items ++ i ∷ []) ≡ latest_request p items → u ≡ t → Keeps p items t → Keeps p (items ++ i ∷ []) u
  keeps_same t u k e r is h =
      subst (Keeps p (items ++ i ∷ [])) (sym is) (record {
        attempt = h.attempt ∙ sym e;
        asked = h.asked ∙ sym r;
        since = if_more p items t.number t.kept i k h.since;
        named = h.named;
      })

  keeps_asked : (entry n : ℕ) (t u : Attempts)
      → ((m : UnitNumber) → AcksForm m i.bus (form_of p.codes i.bus i.word)) → latest p (items ++ i ∷ []) ≡ fresh n
      → latest_request p (items ++ i ∷ []) ≡ Some entry → u ≡ with_request entry n t → Keeps p items t → Keeps p (items ++ i ∷ []) u
  keeps_asked entry n t u k e r is h = subst (Keeps p (items ++ i ∷ [])) (sym is) (record {
    attempt = ap plain (sym e);
    asked = sym r;
    since = if_more p items t.number (t.kept ++ t.last ∷ []) i k (if_keep p items t.number t.kept t.last h.attempt h.asked h.since);
    named = λ yes. absurd (cc yes);
  })

  keeps_cleared : (t u : Attempts) → ((m : UnitNumber) → AcksForm m i.bus (form_of p.codes i.bus i.word))
      → latest p (items ++ i ∷ []) ≡ record (latest p items) { words = [] } → latest_request p (items ++ i ∷ []) ≡ latest_request p items
      → u ≡ cleared t → Keeps p items t → Keeps p (items ++ i ∷ []) u
  keeps_cleared t u k e r is h = subst (Keeps p (items ++ i ∷ [])) (sym is) (record {
    attempt = ap (λ (b : Attempt). record b { words = [] }) h.attempt ∙ ap plain (sym e);
    asked = h.asked ∙ sym r;
    since = if_more p items t.number t.kept i k h.since;
    named = λ yes. absurd (cc yes);
  })

  keeps_heard : (n : UnitNumber) (t u : Attempts) → ((m : UnitNumber) → n ≡ m → AcksForm m i.bus (form_of p.codes i.bus i.word))
      → plain (latest p (items ++ i ∷ [])) ≡ plain (latest p items) → latest_request p (items ++ i ∷ []) ≡ latest_request p items
      → u ≡ heard n t → Keeps p items t → Keeps p (items ++ i ∷ []) u
  keeps_heard n t u k e r is h = subst (Keeps p (items ++ i ∷ [])) (sym is) (by t.number h.since h.named)
    where
      by : (o : Option UnitNumber) → SinceIf p items o t.kept → (t.named ≡ true → IsNamed p t.last.attempt.words o)
          → Keeps p (items ++ i ∷ []) (heard_as n o (record t { number = o }))
      by None s m = record { attempt = h.attempt ∙ sym e; asked = h.asked ∙ sym r; since = tt; named = m }
      by (Some m) s q = with_is (is_number m n) refl
        where
          with_is : (b : Bool) → is_number m n ≡ b
              → Keeps p (items ++ i ∷ []) (cond b (record t { number = Some m }) (record t { number = None; named = false }))
          with_is true z = record {
            attempt = h.attempt ∙ sym e;
            asked = h.asked ∙ sym r;
            since = since_more p m items t.kept i (k m (sym (same_number m n z))) s;
            named = q;
          }
          with_is false z = record { attempt = h.attempt ∙ sym e; asked = h.asked ∙ sym r; since = tt; named = λ yes. absurd (cc yes) }

  -- a start word that is the first word of its attempt
  keeps_named : (n : UnitNumber) (t : Attempts)
      → ((m : UnitNumber) → AcksForm m i.bus (form_of p.codes i.bus i.word)) → IsStartOf n (form_of p.codes bus.A i.word)
      → t.last.attempt.words ≡ [] → latest p (items ++ i ∷ []) ≡ record (latest p items) { words = (latest p items).words ++ i.word ∷ [] }
      → latest_request p (items ++ i ∷ []) ≡ latest_request p items → Keeps p items t
      → Keeps p (items ++ i ∷ []) (joined i.word (named_as n t.number t))
  keeps_named n t k start none e r h = by t.number h.since
    where
      begins : BeginsUnder p n (t.last.attempt.words ++ i.word ∷ [])
      begins = subst (λ (l : List ℕ). BeginsUnder p n (l ++ i.word ∷ [])) (sym none) start

      attempt : record (t.last.attempt) { words = t.last.attempt.words ++ i.word ∷ [] } ≡ plain (latest p (items ++ i ∷ []))
      attempt = word_more p items i t.last.attempt i.word h.attempt e

      now : HasNumber p n (latest p (items ++ i ∷ []))
      now = subst (λ (a : Attempt). BeginsUnder p n a.words) attempt begins

      by : (o : Option UnitNumber)
          → SinceIf p items o t.kept → Keeps p (items ++ i ∷ []) (joined i.word (named_as n o (record t { number = o })))
      by None s = record { attempt = attempt; asked = h.asked ∙ sym r; since = since_now p n (items ++ i ∷ []) now; named = λ yes. begins }
      by (Some m) s = with_is (is_number m n) refl
        where
          with_is : (b : Bool) → is_number m n ≡ b
              → Keeps p (items ++ i ∷ [])
              (joined i.word (cond b (record t { number = Some m; named = true }) (record t { number = Some n; named = true; kept = [] })))
          with_is true z = record {
            attempt = attempt;
            asked = h.asked ∙ sym r;
            since = since_more p m items t.kept i (k m) s;
            named =
                λ yes. subst (λ (x : UnitNumber). BeginsUnder p x (t.last.attempt.words ++ i.word ∷ [])) (sym (same_number m n z)) begins;
          }
          with_is false z =
              record { attempt = attempt; asked = h.asked ∙ sym r; since = since_now p n (items ++ i ∷ []) now; named = λ yes. begins }

  keeps_started : (n : UnitNumber) (t u : Attempts)
      → ((m : UnitNumber) → AcksForm m i.bus (form_of p.codes i.bus i.word)) → IsStartOf n (form_of p.codes bus.A i.word)
      → latest p (items ++ i ∷ []) ≡ record (latest p items) { words = (latest p items).words ++ i.word ∷ [] }
      → latest_request p (items ++ i ∷ []) ≡ latest_request p items → u ≡ started n i.word t.last.attempt.words t → Keeps p items t
      → Keeps p (items ++ i ∷ []) u
  keeps_started n t u k start e r is h = subst (Keeps p (items ++ i ∷ [])) (sym is) (by t.last.attempt.words refl)
    where
      by : (words : List ℕ) → t.last.attempt.words ≡ words → Keeps p (items ++ i ∷ []) (started n i.word words t)
      by [] none = keeps_named n t k start none e r h
      by (v ∷ words) some = keeps_joined t (joined i.word t) k e r refl h

keeps_form : (p : Contents) (items : List Seen) (b : Bus) (w : ℕ) (x : Option Form) (t u : Attempts)
    → form_of p.codes b w ≡ x → latest p (items ++ on b w ∷ []) ≡ under_way (asks b x) (grown b w x (latest p items))
    → latest_request p (items ++ on b w ∷ []) ≡ if_asked (length items) (asks b x) (latest_request p items)
    → u ≡ after (length items) b w x t → Keeps p items t → Keeps p (items ++ on b w ∷ []) u
keeps_form p items bus.A w (Some (Rts n)) t u q e r is h = keeps_asked p items (on bus.A w) (length items) n t u (λ m. tt) e r is h
keeps_form p items bus.A w (Some (Sot g f l)) t u q e r is h =
    keeps_started p items (on bus.A w) (record { file = f; ldu = l }) t u (λ m. tt)
    (subst (IsStartOf (record { file = f; ldu = l })) (sym q) refl) e r is h
keeps_form p items bus.A w (Some (Part s)) t u q e r is h = keeps_joined p items (on bus.A w) t u (λ m. tt) e r is h
keeps_form p items bus.A w (Some (Eot f c)) t u q e r is h = keeps_joined p items (on bus.A w) t u (λ m. tt) e r is h
keeps_form p items bus.A w (Some (Cts n)) t u q e r is h = keeps_same p items (on bus.A w) t u (λ m. tt) (ap plain e) r is h
keeps_form p items bus.A w (Some (Ack f l)) t u q e r is h = keeps_same p items (on bus.A w) t u (λ m. tt) (ap plain e) r is h
keeps_form p items bus.A w (Some (Nak n)) t u q e r is h = keeps_same p items (on bus.A w) t u (λ m. tt) (ap plain e) r is h
keeps_form p items bus.A w None t u q e r is h = keeps_same p items (on bus.A w) t u (λ m. tt) (ap plain e) r is h
keeps_form p items bus.B w (Some (Cts n)) t u q e r is h =
    keeps_cleared p items (on bus.B w) t u (λ m. subst (AcksForm m bus.B) (sym q) tt) e r is h
keeps_form p items bus.B w (Some (Ack f l)) t u q e r is h =
    keeps_heard p items (on bus.B w) (record { file = f; ldu = l }) t u (λ m z. subst (AcksForm m bus.B) (sym q) z) (ap plain e) r is h
keeps_form p items bus.B w (Some (Rts n)) t u q e r is h =
    keeps_same p items (on bus.B w) t u (λ m. subst (AcksForm m bus.B) (sym q) tt) (ap plain e) r is h
keeps_form p items bus.B w (Some (Sot g f l)) t u q e r is h =
    keeps_same p items (on bus.B w) t u (λ m. subst (AcksForm m bus.B) (sym q) tt) (ap plain e) r is h
keeps_form p items bus.B w (Some (Part s)) t u q e r is h =
    keeps_same p items (on bus.B w) t u (λ m. subst (AcksForm m bus.B) (sym q) tt) (ap plain e) r is h
keeps_form p items bus.B w (Some (Eot f c)) t u q e r is h =
    keeps_same p items (on bus.B w) t u (λ m. subst (AcksForm m bus.B) (sym q) tt) (ap plain e) r is h
keeps_form p items bus.B w (Some (Nak n)) t u q e r is h =
    keeps_same p items (on bus.B w) t u (λ m. subst (AcksForm m bus.B) (sym q) tt) (ap plain e) r is h
keeps_form p items bus.B w None t u q e r is h =
    keeps_same p items (on bus.B w) t u (λ m. subst (AcksForm m bus.B) (sym q) tt) (ap plain e) r is h

pub keeps_first : (p : Contents) (items : List Seen) (t : Attempts) → t ≡ at_first → Keeps p (take 0 items) t
keeps_first p items t e = subst (Keeps p []) (sym e) (record { attempt = refl; asked = refl; since = tt; named = λ yes. absurd (cc yes) })

length_take : (items : List Seen) (n : ℕ) → n < length items → length (take n items) ≡ n
length_take [] n l = absurd (omega (arith, l))
length_take (x ∷ items) zero l = refl
length_take (x ∷ items) (suc n) l = ap (λ (k : ℕ). suc k) (length_take items n (omega (arith, l)))

-- one word of a recording more
pub keeps_next : (p : Contents) (items : List Seen) (n : ℕ) (i : Seen) (h : DecodedWord) (t u : Attempts) → slice_get items n ≡ Some i
    → IsHeardAt p.codes items n h → u ≡ after n i.bus i.word h.form t → Keeps p (take n items) t → Keeps p (take (n + 1) items) u
keeps_next p items n i h t u at k is keeps =
    let same : k.item ≡ i = cc (k.is, at) in
    let form : form_of p.codes i.bus i.word ≡ h.form = subst (λ (j : Seen). form_of p.codes j.bus j.word ≡ h.form) same k.form_is in
    let one : n + 1 ≡ suc n = omega arith in
    let place : length (take n items) ≡ n = length_take items n (slice_get_within items n i at) in
    let next = latest_push p (take n items) i
    ∙ ap (λ (x : Option Form). under_way (asks i.bus x) (grown i.bus i.word x (latest p (take n items)))) form in
    let asks_next = request_more p (take n items) i
    ∙ ap (λ (x : Option Form). if_asked (length (take n items)) (asks i.bus x) (latest_request p (take n items))) form in
    subst (λ (l : List Seen). Keeps p l u) (sym (ap (λ (m : ℕ). take m items) one ∙ next_item n i items at))
    (keeps_form p (take n items) i.bus i.word h.form t u form next asks_next
    (subst (λ (m : ℕ). u ≡ after m i.bus i.word h.form t) (sym place) is) keeps)

-- ---- the attempt that the last one is held against

pub rival_at : (p : Contents) (items : List Seen) (t : Attempts) (r : Rival) → Keeps p items t → IsRival p.codes t r → IsRivalAt p items r
rival_at p items t r keeps h = by t.number keeps.since (keeps.named h.named)
  where
    by : (o : Option UnitNumber) → SinceIf p items o t.kept → IsNamed p t.last.attempt.words o → IsRivalAt p items r
    by None s m = absurd m
    by (Some n) s m =
        let one = s.each h.place h.one h.is in
        record {
          here = s.before ++ one.xs;
          rest = one.ys;
          splits = s.splits ∙ ap (λ (l : List Seen). s.before ++ l) one.splits ∙ sym (append_assoc s.before one.xs one.ys);
          request = sym one.asked ∙ h.rival.request;
          unit = record {
            number = n;
            before = s.before;
            since = s.since;
            is = s.splits;
            inside = one.xs;
            here_is = refl;
            begins = s.has;
            again = subst (λ (a : Attempt). BeginsUnder p n a.words) keeps.attempt m;
            acks = s.acks;
          };
          before = h.rival.before ∙ ap (λ (a : Attempt). a.count) one.is;
          count = h.rival.count ∙ ap (λ (a : Attempt). a.count) keeps.attempt;
          apart = elim h.rival.apart [
            | inl d ↦ inl d
            | inr more ↦
                inr (subst (λ (a : Attempt). AreMoreWords p.codes (latest p (s.before ++ one.xs)) a) keeps.attempt
                (subst (λ (a : Attempt). AreMoreWords p.codes a t.last.attempt) one.is more))
          ];
        }

-- ---- the data words of two attempts

-- one of them has as many as a block of so many words
pub ours_whole : (c : Codes) (a b : Attempt) (xs ys : List ℕ)
    → xs ≡ data_words c a.words → ys ≡ data_words c b.words → length xs + 2 ≡ a.count → (IsSubsequenceOf ys xs → ⊥) → AreMoreWords c a b
ours_whole c a b xs ys ours others long other = λ zs has has_other.
    let more =
    whole_apart xs ys (length xs) refl other zs (subst (λ (l : List ℕ). IsSubsequenceOf l zs) (sym ours) has)
    (subst (λ (l : List ℕ). IsSubsequenceOf l zs) (sym others) has_other) in
    omega (arith, more, long)

pub other_whole : (c : Codes) (a b : Attempt) (xs ys : List ℕ) → xs ≡ data_words c a.words → ys ≡ data_words c b.words → a.count ≡ b.count
    → length ys + 2 ≡ b.count → (IsSubsequenceOf xs ys → ⊥) → AreMoreWords c a b
other_whole c a b xs ys ours others same long other = λ zs has has_other.
    let more =
    whole_apart ys xs (length ys) refl other zs (subst (λ (l : List ℕ). IsSubsequenceOf l zs) (sym others) has_other)
    (subst (λ (l : List ℕ). IsSubsequenceOf l zs) (sym ours) has) in
    omega (arith, more, same, long)

-- those of the first words, and of one more
pub data_more : (c : Codes) (words parts more : List ℕ) (k w : ℕ) → slice_get words k ≡ Some w → data_words c (w ∷ []) ≡ more
    → parts ≡ data_words c (take k words) → parts ++ more ≡ data_words c (take (k + 1) words)
data_more c words parts more k w at is so =
    let one : k + 1 ≡ suc k = omega arith in
    ap (λ (l : List ℕ). l ++ more) so
    ∙ ap (λ (l : List ℕ). data_words c (take k words) ++ l) (sym is)
    ∙ sym (data-append c (take k words) (w ∷ []))
    ∙ ap (data_words c) (sym (next_item k w words at))
    ∙ ap (λ (n : ℕ). data_words c (take n words)) (sym one)
