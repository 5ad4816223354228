-- The requests of a piece: with which of them a file begins.
use Rattle.std.proofs.Common.{◌≡◌, ℕ, zero, suc, ◌<◌, ◌==◌, ◌⊎◌, ◌↔◌, Bool, true, false, cond, List, [], ◌∷◌, ◌++◌, length, Option, Some, None, refl, sym, ap, ◌∙◌, subst, inl, inr, arith, eqb-true}
use Rattle.std.specs.Prelude.{IfSome, IsSome, nat_lt, option_map}
use Rattle.std.proofs.lemmas.Bool.{cases_order, eqb-false, lt-ltb}
use Rattle.std.proofs.lemmas.List.{append_assoc, append-nil, length-append}
use Rattle.a429_word.specs.declared.bus.Bus.{Bus}
use Rattle.a429_word.specs.declared.bus.Bus.TheVariants as bus
use Rattle.a429_profile.specs.declared.codes.Codes.{Codes}
use Rattle.a429_profile.specs.Profile.{Contents}
use Rattle.a429_ldu.specs.declared.forms.Form.{Form}
use Rattle.a429_ldu.specs.declared.forms.Form.TheVariants as form
use Rattle.a429_ldu.specs.Form.{form_of}
use Rattle.a429_link.specs.declared.number.UnitNumber.{UnitNumber}
use Rattle.a429_link.specs.declared.seen.Seen.{Seen}
use Rattle.a429_link.specs.Attempt.{asks}
use Rattle.a429_parts.specs.Cutting.{BeginsAnew, BeginsFile, next_start, start_by, IsRequest as AsksOn}
use Rattle.a429_sink.specs.declared.requests.Mark.{Mark}
use Rattle.a429_sink.specs.declared.requests.Requests.{Requests}
use Rattle.a429_sink.specs.declared.requests.Start.{Start}
use Rattle.a429_sink.specs.declared.requests.Start.TheVariants as start
use Rattle.a429_sink.specs.History.{BeginsFileAt, GoesOnWithFile, IsBegunBefore, MayEnd, asked_start, first_start, if_asked, start_or}
use Rattle.a429_sink.specs.Requests.{AreOrdered, AreRequests, HasRequestAt, IsAt, IsFirst, IsMarked, IsUpToMark, SaysStart, asked, asked_by, first_after, first_asked, is_before, later_doubt, later_place, no_requests, requests_after, settled, start_after}

-- ---- a request

asks_on : (b : Bus) (x : Option Form) → IsSome (asks b x) → AsksOn b x
asks_on bus.A (Some (form.Rts n)) h = tt
asks_on bus.A None h = absurd (cc h)
asks_on bus.A (Some (form.Sot g f l)) h = absurd (cc h)
asks_on bus.A (Some (form.Part s)) h = absurd (cc h)
asks_on bus.A (Some (form.Eot f k)) h = absurd (cc h)
asks_on bus.A (Some (form.Cts n)) h = absurd (cc h)
asks_on bus.A (Some (form.Ack f l)) h = absurd (cc h)
asks_on bus.A (Some (form.Nak n)) h = absurd (cc h)
asks_on bus.B x h = absurd (cc h)

on_asks : (b : Bus) (x : Option Form) → AsksOn b x → IsSome (asks b x)
on_asks bus.A (Some (form.Rts n)) h = refl
on_asks bus.A None h = absurd h
on_asks bus.A (Some (form.Sot g f l)) h = absurd h
on_asks bus.A (Some (form.Part s)) h = absurd h
on_asks bus.A (Some (form.Eot f k)) h = absurd h
on_asks bus.A (Some (form.Cts n)) h = absurd h
on_asks bus.A (Some (form.Ack f l)) h = absurd h
on_asks bus.A (Some (form.Nak n)) h = absurd h
on_asks bus.B x h = absurd h

-- ---- what words say of a request before them

by_word : (c : Codes) (x : Option Form) (s : Start) (after : List Seen) → SaysStart c after s → (next : List Seen → List Seen)
    → ((rest : List Seen) → next_start c (next rest) ≡ start_by x (next_start c rest))
    → (more : List Seen) → ((rest : List Seen) → more ++ rest ≡ after ++ next rest) → SaysStart c more (start_after c x s)
by_word c x start.OfFile after h next first more is = off x
  where
    same : SaysStart c more start.OfFile
    same rest = subst (λ (l : List Seen). BeginsFile c (next_start c l)) (sym (is rest)) (h (next rest))

    off : (x : Option Form) → SaysStart c more (start_after c x start.OfFile)
    off None = same
    off (Some (form.Rts n)) = same
    off (Some (form.Sot g f l)) = same
    off (Some (form.Part s)) = same
    off (Some (form.Eot f k)) = same
    off (Some (form.Cts n)) = same
    off (Some (form.Ack f l)) = same
    off (Some (form.Nak n)) = same
by_word c x start.Other after h next first more is = off x
  where
    same : SaysStart c more start.Other
    same rest b = h (next rest) (subst (λ (l : List Seen). BeginsFile c (next_start c l)) (is rest) b)

    off : (x : Option Form) → SaysStart c more (start_after c x start.Other)
    off None = same
    off (Some (form.Rts n)) = same
    off (Some (form.Sot g f l)) = same
    off (Some (form.Part s)) = same
    off (Some (form.Eot f k)) = same
    off (Some (form.Cts n)) = same
    off (Some (form.Ack f l)) = same
    off (Some (form.Nak n)) = same
by_word c x start.Open after h next first more is = off x (λ rest. ap (next_start c) (is rest) ∙ h (next rest) ∙ first rest)
  where
    off : (x : Option Form) → ((rest : List Seen) → next_start c (more ++ rest) ≡ start_by x (next_start c rest))
        → SaysStart c more (start_after c x start.Open)
    off None e = e
    off (Some (form.Part s)) e = e
    off (Some (form.Eot f k)) e = e
    off (Some (form.Cts n)) e = e
    off (Some (form.Ack f l)) e = e
    off (Some (form.Nak n)) e = e
    off (Some (form.Rts n)) e = λ rest b. subst (BeginsFile c) (e rest) b
    off (Some (form.Sot g f l)) e = by (l == c.first_ldu) refl
      where
        by : (first : Bool) → (l == c.first_ldu) ≡ first → SaysStart c more (cond first start.OfFile start.Other)
        by true is_first = λ rest. subst (BeginsFile c) (sym (e rest)) (eqb-true l c.first_ldu is_first)
        by false is_first = λ rest b. eqb-false l c.first_ldu is_first (subst (BeginsFile c) (e rest) b)

says_more : (c : Codes) (i : Seen) (s : Start) (after : List Seen)
    → SaysStart c after s → SaysStart c (after ++ i ∷ []) (start_after c (form_of c i.bus i.word) s)
says_more c i s after h =
    by_word c (form_of c i.bus i.word) s after h (λ rest. i ∷ rest) (λ rest. refl) (after ++ i ∷ [])
    (λ rest. append_assoc after (i ∷ []) rest)

at_more : (p : Contents) (items : List Seen) (i : Seen) (n : ℕ) (s : Start)
    → HasRequestAt p items n s → HasRequestAt p (items ++ i ∷ []) n (start_after p.codes (form_of p.codes i.bus i.word) s)
at_more p items i n s h = record {
  before = h.before;
  request = h.request;
  after = h.after ++ i ∷ [];
  all = ap (λ (l : List Seen). l ++ i ∷ []) h.all ∙ append_assoc h.before (h.request ∷ h.after) (i ∷ []);
  place = h.place;
  asks = h.asks;
  says = says_more p.codes i s h.after h.says;
}

at_here : (p : Contents) (items : List Seen) (i : Seen)
    → IsSome (asks i.bus (form_of p.codes i.bus i.word)) → HasRequestAt p (items ++ i ∷ []) (length items) start.Open
at_here p items i h = record {
  before = items;
  request = i;
  after = [];
  all = refl;
  place = refl;
  asks = h;
  says = λ rest. refl;
}

-- it is before the end
at_inside : (p : Contents) (items : List Seen) (n : ℕ) (s : Start) → HasRequestAt p items n s → n < length items
at_inside p items n s h = omega (arith, h.place, ap length h.all, length-append h.before (h.request ∷ h.after))

begins_at : (p : Contents) (before after : List Seen) (r : Seen)
    → BeginsFileAt p (before ++ r ∷ after) (length before) ≡ BeginsAnew p.codes r after
begins_at p [] after r = refl
begins_at p (x ∷ before) after r = begins_at p before after r

-- whether a file begins with a request, its words say
file_at : (p : Contents) (items rest : List Seen) (n : ℕ) (s : Start) (h : HasRequestAt p items n s)
    → BeginsFileAt p (items ++ rest) n ≡ BeginsAnew p.codes h.request (h.after ++ rest)
file_at p items rest n s h =
    ap (λ (l : List Seen). BeginsFileAt p l n) (ap (λ (l : List Seen). l ++ rest) h.all ∙ append_assoc h.before (h.request ∷ h.after) rest)
    ∙ ap (BeginsFileAt p (h.before ++ h.request ∷ (h.after ++ rest))) h.place ∙ begins_at p h.before (h.after ++ rest) h.request

pub may_end : (p : Contents) (items rest : List Seen) (m : Mark) → IsMarked p items start.OfFile m → MayEnd p (items ++ rest) m.place
may_end p items rest m (h, some) = (
  some,
  subst (λ (T : Type 0). T) (sym (file_at p items rest m.place start.OfFile h))
      (asks_on h.request.bus (form_of p.codes h.request.bus h.request.word) h.asks, h.says rest),
)

-- ---- whether a piece is begun before

begins_or_goes_on : (c : Codes) (n : Option UnitNumber) → BeginsFile c n → GoesOnWithFile c n → ⊥
begins_or_goes_on c None begins on = on
begins_or_goes_on c (Some n) begins on = on begins

pub begun_before : (p : Contents) (items : List Seen) (first : Option Start)
    → IsFirst p items first → (is_before first ≡ true) ↔ IsBegunBefore p items
begun_before p items None is =
    (λ e. absurd (cc e), λ b. absurd (subst (GoesOnWithFile p.codes) (ap (asked_start p.codes) (sym (append-nil items)) ∙ is []) b))
begun_before p items (Some start.Open) is =
    (λ e. absurd (cc e), λ b. absurd (subst (GoesOnWithFile p.codes) (ap (asked_start p.codes) (sym (append-nil items)) ∙ is []) b))
begun_before p items (Some start.OfFile) is = (
  λ e. absurd (cc e),
  λ b.
      absurd (begins_or_goes_on p.codes (asked_start p.codes items)
      (subst (λ (l : List Seen). BeginsFile p.codes (asked_start p.codes l)) (append-nil items) (is [])) b),
)
begun_before p items (Some start.Other) is =
    (λ e. subst (λ (l : List Seen). GoesOnWithFile p.codes (asked_start p.codes l)) (append-nil items) (is []), λ b. refl)

-- what is said of the first start word after a request, after one more word
first_by_word : (p : Contents) (i : Seen) (x : Option Form)
    → form_of p.codes i.bus i.word ≡ x → (items all : List Seen) → ((rest : List Seen) → all ++ rest ≡ items ++ i ∷ rest)
    → (s : Start) → IsFirst p items (Some s) → IsFirst p all (Some (first_after p.codes x s))
first_by_word p i x e items all is start.OfFile f = off x
  where
    same : IsFirst p all (Some start.OfFile)
    same rest = subst (λ (l : List Seen). BeginsFile p.codes (asked_start p.codes l)) (sym (is rest)) (f (i ∷ rest))

    off : (x : Option Form) → IsFirst p all (Some (first_after p.codes x start.OfFile))
    off None = same
    off (Some (form.Rts n)) = same
    off (Some (form.Sot g h l)) = same
    off (Some (form.Part s)) = same
    off (Some (form.Eot h k)) = same
    off (Some (form.Cts n)) = same
    off (Some (form.Ack h l)) = same
    off (Some (form.Nak n)) = same
first_by_word p i x e items all is start.Other f = off x
  where
    same : IsFirst p all (Some start.Other)
    same rest = subst (λ (l : List Seen). GoesOnWithFile p.codes (asked_start p.codes l)) (sym (is rest)) (f (i ∷ rest))

    off : (x : Option Form) → IsFirst p all (Some (first_after p.codes x start.Other))
    off None = same
    off (Some (form.Rts n)) = same
    off (Some (form.Sot g h l)) = same
    off (Some (form.Part s)) = same
    off (Some (form.Eot h k)) = same
    off (Some (form.Cts n)) = same
    off (Some (form.Ack h l)) = same
    off (Some (form.Nak n)) = same
first_by_word p i x e items all is start.Open f =
    off x (λ rest. ap (asked_start p.codes) (is rest) ∙ f (i ∷ rest) ∙ ap (λ (y : Option Form). start_or y (first_start p.codes rest)) e)
  where
    off : (x : Option Form) → ((rest : List Seen) → asked_start p.codes (all ++ rest) ≡ start_or x (first_start p.codes rest))
        → IsFirst p all (Some (first_after p.codes x start.Open))
    off None h = h
    off (Some (form.Rts n)) h = h
    off (Some (form.Part s)) h = h
    off (Some (form.Eot q k)) h = h
    off (Some (form.Cts n)) h = h
    off (Some (form.Ack q l)) h = h
    off (Some (form.Nak n)) h = h
    off (Some (form.Sot g q l)) h = by (l == p.codes.first_ldu) refl
      where
        by : (first : Bool) → (l == p.codes.first_ldu) ≡ first → IsFirst p all (Some (cond first start.OfFile start.Other))
        by true is_first = λ rest. subst (BeginsFile p.codes) (sym (h rest)) (eqb-true l p.codes.first_ldu is_first)
        by false is_first = λ rest. subst (GoesOnWithFile p.codes) (sym (h rest)) (eqb-false l p.codes.first_ldu is_first)

-- ---- one more word

-- what is said of a request that begins a file stays
of_file : (c : Codes) (x : Option Form) → start_after c x start.OfFile ≡ start.OfFile
of_file c None = refl
of_file c (Some (form.Rts n)) = refl
of_file c (Some (form.Sot g f l)) = refl
of_file c (Some (form.Part s)) = refl
of_file c (Some (form.Eot f k)) = refl
of_file c (Some (form.Cts n)) = refl
of_file c (Some (form.Ack f l)) = refl
of_file c (Some (form.Nak n)) = refl

-- a start word leaves nothing open
start_says : (c : Codes) (l : ℕ) (first : Bool) → cond first start.OfFile start.Other ≡ start.Open → ⊥
start_says c l true e = absurd (cc e)
start_says c l false e = absurd (cc e)

open_on : (c : Codes) (x : Option Form) → start_after c x start.Open ≡ start.Open → (later : Option UnitNumber) → start_by x later ≡ later
open_on c None e later = refl
open_on c (Some (form.Rts n)) e later = absurd (cc e)
open_on c (Some (form.Sot g f l)) e later = absurd (start_says c l (l == c.first_ldu) e)
open_on c (Some (form.Part s)) e later = refl
open_on c (Some (form.Eot f k)) e later = refl
open_on c (Some (form.Cts n)) e later = refl
open_on c (Some (form.Ack f l)) e later = refl
open_on c (Some (form.Nak n)) e later = refl

other_on : (c : Codes) (x : Option Form)
    → start_after c x start.Open ≡ start.Other → (later : Option UnitNumber) → BeginsFile c (start_by x later) → ⊥
other_on c (Some (form.Rts n)) e later b = b
other_on c (Some (form.Sot g f l)) e later b = by (l == c.first_ldu) refl e
  where
    by : (first : Bool) → (l == c.first_ldu) ≡ first → cond first start.OfFile start.Other ≡ start.Other → ⊥
    by true is_first e = absurd (cc e)
    by false is_first e = eqb-false l c.first_ldu is_first b
other_on c None e later b = absurd (cc e)
other_on c (Some (form.Part s)) e later b = absurd (cc e)
other_on c (Some (form.Eot f k)) e later b = absurd (cc e)
other_on c (Some (form.Cts n)) e later b = absurd (cc e)
other_on c (Some (form.Ack f l)) e later b = absurd (cc e)
other_on c (Some (form.Nak n)) e later b = absurd (cc e)

-- nor does a request
asks_other : (c : Codes) (b : Bus) (x : Option Form) (n : ℕ) → asks b x ≡ Some n → start_after c x start.Open ≡ start.Other
asks_other c bus.A (Some (form.Rts n)) k e = refl
asks_other c bus.A None k e = absurd (cc e)
asks_other c bus.A (Some (form.Sot g f l)) k e = absurd (cc e)
asks_other c bus.A (Some (form.Part s)) k e = absurd (cc e)
asks_other c bus.A (Some (form.Eot f q)) k e = absurd (cc e)
asks_other c bus.A (Some (form.Cts n)) k e = absurd (cc e)
asks_other c bus.A (Some (form.Ack f l)) k e = absurd (cc e)
asks_other c bus.A (Some (form.Nak n)) k e = absurd (cc e)
asks_other c bus.B x k e = absurd (cc e)

abbrev asked_first : Option ℕ → Option Start → Option Start
asked_first None first = first
asked_first (Some n) first = first_asked first

module _ (p : Contents) (items : List Seen) (i : Seen) (r : Requests) (is : AreRequests p items r) where
  abbrev x : Option Form
  x = form_of p.codes i.bus i.word

  abbrev all : List Seen
  all = items ++ i ∷ []

  abbrev now : Start
  now = start_after p.codes x start.Open

  -- the first start word after a request
  words_on : (rest : List Seen) → all ++ rest ≡ items ++ i ∷ rest
  words_on rest = append_assoc items (i ∷ []) rest

  first_by : (first : Option Start)
      → IsFirst p items first → (n : Option ℕ) → asks i.bus x ≡ n → IsFirst p all (asked_first n (option_map (first_after p.codes x) first))
  first_by None none None e = λ rest. ap (asked_start p.codes) (words_on rest) ∙ none (i ∷ rest)
      ∙ ap (λ (n : Option ℕ). if_asked n (first_start p.codes rest) (asked_start p.codes rest)) e
  first_by None none (Some n) e = λ rest. ap (asked_start p.codes) (words_on rest) ∙ none (i ∷ rest)
      ∙ ap (λ (n : Option ℕ). if_asked n (first_start p.codes rest) (asked_start p.codes rest)) e
  first_by (Some s) f None e = first_by_word p i x refl items all words_on s f
  first_by (Some s) f (Some n) e = first_by_word p i x refl items all words_on s f

  -- the last place, and the one in doubt
  place_by : (s : Start) → now ≡ s → (place doubt : Option Mark) → IfSome place (IsMarked p items start.OfFile)
      → IfSome doubt (IsMarked p items start.Open) → IfSome (later_place s doubt place) (IsMarked p all start.OfFile)
  place_by s e None None hp hd = none s
    where
      none : (s : Start) → IfSome (later_place s None None) (IsMarked p all start.OfFile)
      none start.Open = tt
      none start.OfFile = tt
      none start.Other = tt
  place_by s e (Some m) None hp hd = same s
    where
      kept : IsMarked p all start.OfFile m
      kept = (subst (HasRequestAt p all m.place) (of_file p.codes x) (at_more p items i m.place start.OfFile hp.0), hp.1)

      same : (s : Start) → IfSome (later_place s None (Some m)) (IsMarked p all start.OfFile)
      same start.Open = kept
      same start.OfFile = kept
      same start.Other = kept
  place_by start.OfFile e place (Some d) hp hd = (subst (HasRequestAt p all d.place) e (at_more p items i d.place start.Open hd.0), hd.1)
  place_by start.Open e None (Some d) hp hd = tt
  place_by start.Other e None (Some d) hp hd = tt
  place_by start.Open e (Some m) (Some d) hp hd =
      (subst (HasRequestAt p all m.place) (of_file p.codes x) (at_more p items i m.place start.OfFile hp.0), hp.1)
  place_by start.Other e (Some m) (Some d) hp hd =
      (subst (HasRequestAt p all m.place) (of_file p.codes x) (at_more p items i m.place start.OfFile hp.0), hp.1)

  doubt_by : (s : Start) → now ≡ s → (doubt : Option Mark) → IfSome doubt (IsMarked p items start.Open)
      → IfSome (later_doubt s doubt) (IsMarked p all start.Open)
  doubt_by start.Open e None hd = tt
  doubt_by start.Open e (Some d) hd = (subst (HasRequestAt p all d.place) e (at_more p items i d.place start.Open hd.0), hd.1)
  doubt_by start.OfFile e doubt hd = tt
  doubt_by start.Other e doubt hd = tt

  order_by : (s : Start) (place doubt : Option Mark) → AreOrdered place doubt → AreOrdered (later_place s doubt place) (later_doubt s doubt)
  order_by start.Open place doubt h = h
  order_by start.OfFile None None h = tt
  order_by start.OfFile (Some m) None h = tt
  order_by start.OfFile place (Some d) h = tt
  order_by start.Other None doubt h = tt
  order_by start.Other (Some m) doubt h = tt

  -- no other place
  found_by : (s : Start) → now ≡ s → (rest : List Seen) (m : ℕ) (place doubt : Option Mark) → AreOrdered place doubt
      → IsUpToMark m place ⊎ (IsAt m doubt × BeginsFile p.codes (next_start p.codes (i ∷ rest)))
      → IsUpToMark m (later_place s doubt place) ⊎ (IsAt m (later_doubt s doubt) × BeginsFile p.codes (next_start p.codes rest))
  found_by start.Open e rest m place doubt order (inl h) = inl h
  found_by start.Open e rest m place doubt order (inr (h, b)) =
      inr (h, subst (BeginsFile p.codes) (open_on p.codes x e (next_start p.codes rest)) b)
  found_by start.OfFile e rest m None None order (inl h) = absurd h
  found_by start.OfFile e rest m None None order (inr (h, b)) = absurd h
  found_by start.OfFile e rest m (Some n) None order (inl h) = inl h
  found_by start.OfFile e rest m (Some n) None order (inr (h, b)) = absurd h
  found_by start.OfFile e rest m None (Some d) order (inl h) = absurd h
  found_by start.OfFile e rest m (Some n) (Some d) order (inl h) = inl (omega (arith, h, order))
  found_by start.OfFile e rest m place (Some d) order (inr (h, b)) = inl (omega (arith, h))
  found_by start.Other e rest m place doubt order (inl h) = inl h
  found_by start.Other e rest m place doubt order (inr (h, b)) = absurd (other_on p.codes x e (next_start p.codes rest) b)

  -- of the words before it
  found_before : (s : Start) → now ≡ s → (rest : List Seen) (m : ℕ) → m < length items → MayEnd p (all ++ rest) m
      → IsUpToMark m (later_place s r.doubt r.place) ⊎ (IsAt m (later_doubt s r.doubt) × BeginsFile p.codes (next_start p.codes rest))
  found_before s e rest m l h =
      found_by s e rest m r.place r.doubt is.order
      (is.others (i ∷ rest) m l (subst (λ (k : List Seen). MayEnd p k m) (append_assoc items (i ∷ []) rest) h))

  -- the word itself
  found_here : (rest : List Seen) (m : ℕ) → m ≡ length items → MayEnd p (all ++ rest) m → (0 < length items) × BeginsAnew p.codes i rest
  found_here rest m e (some, begins) = (
    omega (arith, e, some),
    subst (λ (T : Type 0). T) (begins_at p items rest i)
        (subst (BeginsFileAt p (items ++ i ∷ rest)) e
        (subst (λ (k : List Seen). BeginsFileAt p k m) (append_assoc items (i ∷ []) rest) begins)),
  )

  inside_or : (m : ℕ) → m < length all → (m < length items) ⊎ (m ≡ length items)
  inside_or m l = by (cases_order m (length items))
    where
      by : (m ≡ length items) ⊎ ((m < length items) ⊎ (length items < m)) → (m < length items) ⊎ (m ≡ length items)
      by (inl e) = inr e
      by (inr (inl k)) = inl k
      by (inr (inr k)) = absurd (omega (arith, k, l, length-append items (i ∷ [])))

  without : asks i.bus x ≡ None → AreRequests p all (settled p.codes x r)
  without quiet = record {
    first = first_by r.first is.first None quiet;
    place = place_by now refl r.place r.doubt is.place is.doubt;
    doubt = doubt_by now refl r.doubt is.doubt;
    order = order_by now r.place r.doubt is.order;
    others = λ rest m l h. by rest m h (inside_or m l);
  }
    where
      by : (rest : List Seen) (m : ℕ) → MayEnd p (all ++ rest) m → (m < length items) ⊎ (m ≡ length items)
          → IsUpToMark m (later_place now r.doubt r.place)
          ⊎ (IsAt m (later_doubt now r.doubt) × BeginsFile p.codes (next_start p.codes rest))
      by rest m h (inl l) = found_before now refl rest m l h
      by rest m h (inr e) = absurd (cc (subst IsSome quiet (on_asks i.bus x (found_here rest m e h).1.0)))

  module _ (mark : Mark) (place : mark.place ≡ length items) (n : ℕ) (asks_n : asks i.bus x ≡ Some n) where
    other : now ≡ start.Other
    other = asks_other p.codes i.bus x n asks_n

    before : later_place now r.doubt r.place ≡ r.place
    before = ap (λ (s : Start). later_place s r.doubt r.place) other

    last : IfSome (later_place now r.doubt r.place) (IsMarked p all start.OfFile)
    last = place_by now refl r.place r.doubt is.place is.doubt

    ordered : (last : Option Mark) → IfSome last (IsMarked p items start.OfFile) → AreOrdered last (Some mark)
    ordered None h = tt
    ordered (Some m) h = let l = at_inside p items m.place start.OfFile h.0 in omega (arith, l, place)

    found : (rest : List Seen) (m : ℕ) → MayEnd p (all ++ rest) m → (m < length items) ⊎ (m ≡ length items)
        → IsUpToMark m (later_place now r.doubt r.place)
        ⊎ ((m ≡ mark.place) × (0 < mark.place) × BeginsFile p.codes (next_start p.codes rest))
    found rest m h (inl l) = by (found_before start.Other other rest m l h)
      where
        by : IsUpToMark m (later_place start.Other r.doubt r.place)
            ⊎ (IsAt m (later_doubt start.Other r.doubt) × BeginsFile p.codes (next_start p.codes rest))
            → IsUpToMark m (later_place now r.doubt r.place)
            ⊎ ((m ≡ mark.place) × (0 < mark.place) × BeginsFile p.codes (next_start p.codes rest))
        by (inl u) = inl (subst (λ (s : Start). IsUpToMark m (later_place s r.doubt r.place)) (sym other) u)
        by (inr b) = absurd b.0
    found rest m h (inr e) = let f = found_here rest m e h in inr (e ∙ sym place, subst (λ (k : ℕ). 0 < k) (sym place) f.0, f.1.1)

    after_request : (d : Option Mark) → IfSome d (IsMarked p all start.Open) → AreOrdered (later_place now r.doubt r.place) d
        → ((rest : List Seen) (m : ℕ) → (m ≡ mark.place) × (0 < mark.place) × BeginsFile p.codes (next_start p.codes rest)
        → IsAt m d × BeginsFile p.codes (next_start p.codes rest))
        → AreRequests p all (record { first = first_asked (settled p.codes x r).first; place = later_place now r.doubt r.place; doubt = d })
    after_request d hd order here = record {
      first = first_by r.first is.first (Some n) asks_n;
      place = last;
      doubt = hd;
      order = order;
      others = λ rest m l h. by rest m (found rest m h (inside_or m l));
    }
      where
        by : (rest : List Seen) (m : ℕ)
            → IsUpToMark m (later_place now r.doubt r.place)
            ⊎ ((m ≡ mark.place) × (0 < mark.place) × BeginsFile p.codes (next_start p.codes rest))
            → IsUpToMark m (later_place now r.doubt r.place) ⊎ (IsAt m d × BeginsFile p.codes (next_start p.codes rest))
        by rest m (inl u) = inl u
        by rest m (inr b) = inr (here rest m b)

    with_request : AreRequests p all (asked mark (settled p.codes x r))
    with_request = by mark.place refl
      where
        by : (k : ℕ) → mark.place ≡ k
            → AreRequests p all (record {
              first = first_asked (settled p.codes x r).first;
              place = later_place now r.doubt r.place;
              doubt = cond (nat_lt 0 k) (Some mark) (later_doubt now r.doubt);
            })
        by zero e =
            after_request (later_doubt now r.doubt) (doubt_by now refl r.doubt is.doubt) (order_by now r.place r.doubt is.order)
            (λ rest m b. absurd (omega (arith, e, b.1)))
        by (suc k) e =
            subst (λ (b : Bool). AreRequests p all (record {
              first = first_asked (settled p.codes x r).first;
              place = later_place now r.doubt r.place;
              doubt = cond b (Some mark) (later_doubt now r.doubt);
            })) (sym (lt-ltb 0 (suc k) (omega arith)))
            (after_request (Some mark) (
              subst (λ (m : ℕ). HasRequestAt p all m start.Open) (sym place) (at_here p items i (subst IsSome (sym asks_n) refl)),
              omega (arith, e),
            )
            (subst (λ (q : Option Mark). AreOrdered q (Some mark)) (sym before) (ordered r.place is.place)) (λ rest m b. (b.0, b.2)))

  pub requests_more : (mark : Mark) → mark.place ≡ length items → AreRequests p all (requests_after p.codes i.bus x mark r)
  requests_more mark place = by (asks i.bus x) refl
    where
      by : (n : Option ℕ) → asks i.bus x ≡ n → AreRequests p all (asked_by n mark (settled p.codes x r))
      by None e = without e
      by (Some n) e = with_request mark place n e

pub no_requests_yet : (p : Contents) → AreRequests p [] no_requests
no_requests_yet p = record {
  first = λ rest. refl;
  place = tt;
  doubt = tt;
  order = tt;
  others = λ rest m l h. absurd (omega (arith, l));
}
