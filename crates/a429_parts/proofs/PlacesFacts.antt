-- A place of the first words of a recording is one of the recording.
use Rattle.std.proofs.Common.{◌≡◌, ℕ, zero, suc, List, [], ◌∷◌, ◌++◌, drop, Option, Some, None, refl, sym, ap, ◌∙◌, subst, inl, inr}
use Rattle.std.specs.Prelude.{slice_get}
use Rattle.a429_word.specs.declared.bus.Bus.{Bus}
use Rattle.a429_word.specs.declared.bus.Bus.TheVariants as bus
use Rattle.a429_profile.specs.declared.codes.Codes.{Codes}
use Rattle.a429_profile.specs.Profile.{Contents}
use Rattle.a429_ldu.specs.declared.forms.Form.{Form}
use Rattle.a429_ldu.specs.declared.forms.Form.TheVariants.{Rts, Cts, Ack, Nak, Sot, Part, Eot}
use Rattle.a429_ldu.specs.Form.{form_of}
use Rattle.a429_link.specs.declared.number.UnitNumber.{UnitNumber}
use Rattle.a429_link.specs.declared.seen.Seen.{Seen}
use Rattle.a429_link.specs.Observer.{Observer, Allows, sees}
use Rattle.a429_parts.specs.Cutting.{Course, Follows, Lost, BeginsFile, CourseAfter, GoesOn, IsPlace, IsRequest, LeavesBy, LeavesUnit, MayCut, next_start, start_by}
use Rattle.a429_parts.proofs.CuttingFacts.{next_is}

-- ---- words behind others

get_append : (xs ys : List Seen) (n : ℕ) (i : Seen) → slice_get xs n ≡ Some i → slice_get (xs ++ ys) n ≡ Some i
get_append [] ys n i get = absurd (cc get)
get_append (x ∷ xs) ys zero i get = get
get_append (x ∷ xs) ys (suc n) i get = get_append xs ys n i get

drop_append : (xs ys : List Seen) (n : ℕ) (i : Seen) → slice_get xs n ≡ Some i → drop (suc n) (xs ++ ys) ≡ drop (suc n) xs ++ ys
drop_append [] ys n i get = absurd (cc get)
drop_append (x ∷ xs) ys zero i get = refl
drop_append (x ∷ xs) ys (suc n) i get = drop_append xs ys n i get

-- ---- the next start word

-- what comes behind these words says nothing of their next start word
abbrev Says : Codes → List Seen → Type 0
Says c xs = (ys : List Seen) → next_start c (xs ++ ys) ≡ next_start c xs

start_stays : (f : Option Form) (a b : Option UnitNumber) (n : UnitNumber)
    → start_by f a ≡ Some n → (a ≡ Some n → b ≡ Some n) → start_by f b ≡ Some n
start_stays None a b n is goes = goes is
start_stays (Some (Rts k)) a b n is goes = absurd (cc is)
start_stays (Some (Cts k)) a b n is goes = goes is
start_stays (Some (Ack file ldu)) a b n is goes = goes is
start_stays (Some (Nak bits)) a b n is goes = goes is
start_stays (Some (Sot gfi file ldu)) a b n is goes = is
start_stays (Some (Part semis)) a b n is goes = goes is
start_stays (Some (Eot flags check)) a b n is goes = goes is

start_append : (c : Codes) (xs ys : List Seen) (n : UnitNumber) → next_start c xs ≡ Some n → next_start c (xs ++ ys) ≡ Some n
start_append c [] ys n is = absurd (cc is)
start_append c (x ∷ xs) ys n is =
    start_stays (form_of c x.bus x.word) (next_start c xs) (next_start c (xs ++ ys)) n is (start_append c xs ys n)

begins_append : (c : Codes) (xs ys : List Seen) → BeginsFile c (next_start c xs) → BeginsFile c (next_start c (xs ++ ys))
begins_append c xs ys begins = by (next_start c xs) refl begins
  where
    by : (start : Option UnitNumber) → next_start c xs ≡ start → BeginsFile c start → BeginsFile c (next_start c (xs ++ ys))
    by None is h = absurd h
    by (Some n) is h = subst (BeginsFile c) (sym (start_append c xs ys n is)) h

leaves_says : (f : Option Form) (unit : UnitNumber) (Allowed Later : Type 0) (a b : Option UnitNumber)
    → LeavesBy unit f Allowed Later → (Later → a ≡ b) → start_by f a ≡ start_by f b
leaves_says None unit Allowed Later a b h same = same h.1
leaves_says (Some (Rts n)) unit Allowed Later a b h same = refl
leaves_says (Some (Cts n)) unit Allowed Later a b h same = same h.1
leaves_says (Some (Ack file ldu)) unit Allowed Later a b h same = same h.1
leaves_says (Some (Nak bits)) unit Allowed Later a b h same = same h.1
leaves_says (Some (Sot gfi file ldu)) unit Allowed Later a b h same = refl
leaves_says (Some (Part semis)) unit Allowed Later a b h same = same h.1
leaves_says (Some (Eot flags check)) unit Allowed Later a b h same = same h.1

unit_says : (p : Contents) (unit : UnitNumber) (o : Observer) (xs : List Seen) → LeavesUnit p unit o xs → Says p.codes xs
unit_says p unit o [] h ys = absurd h
unit_says p unit o (x ∷ xs) h ys =
    leaves_says (form_of p.codes x.bus x.word) unit (Allows p o x) (LeavesUnit p unit (sees p x o) xs) (next_start p.codes (xs ++ ys))
    (next_start p.codes xs) h (λ later. unit_says p unit (sees p x o) xs later ys)

request_says : (b : Bus) (f : Option Form) (a c : Option UnitNumber) → IsRequest b f → start_by f a ≡ start_by f c
request_says bus.A (Some (Rts n)) a c request = refl
request_says bus.A None a c request = absurd request
request_says bus.A (Some (Cts n)) a c request = absurd request
request_says bus.A (Some (Ack file ldu)) a c request = absurd request
request_says bus.A (Some (Nak bits)) a c request = absurd request
request_says bus.A (Some (Sot gfi file ldu)) a c request = absurd request
request_says bus.A (Some (Part semis)) a c request = absurd request
request_says bus.A (Some (Eot flags check)) a c request = absurd request
request_says bus.B f a c request = absurd request

may_says : (p : Contents) (course : Course) (xs : List Seen) → MayCut p course xs → Says p.codes xs
may_says p (Follows o None) xs may ys = absurd may
may_says p (Follows o (Some unit)) xs may ys = unit_says p unit o xs may ys
may_says p Lost [] may ys = absurd may
may_says p Lost (x ∷ xs) may ys =
    request_says x.bus (form_of p.codes x.bus x.word) (next_start p.codes (xs ++ ys)) (next_start p.codes xs) may.0

says_before : (c : Codes) (xs : List Seen) (n : ℕ) (i : Seen) → slice_get xs n ≡ Some i → Says c (drop (suc n) xs) → Says c (drop n xs)
says_before c xs n i get says ys =
    let is = next_is xs n i get in
    subst (λ (l : List Seen). next_start c (l ++ ys) ≡ next_start c l) (sym is) (ap (start_by (form_of c i.bus i.word)) (says ys))

-- ---- courses and places

goes_append : (p : Contents) (before : Course) (i : Seen) (rest more : List Seen) (course : Course)
    → next_start p.codes more ≡ next_start p.codes rest → GoesOn p before i rest course → GoesOn p before i more course
goes_append p (Follows o crossed) i rest more course same goes = goes
goes_append p Lost i rest more course same (inl h) = inl ((h.0.0, subst (BeginsFile p.codes) (sym same) h.0.1), h.1)
goes_append p Lost i rest more course same (inr h) = inr (λ begins. h.0 (begins.0, subst (BeginsFile p.codes) same begins.1), h.1)

course_append : (p : Contents) (xs ys : List Seen) (n : ℕ) (course : Course)
    → Says p.codes (drop n xs) → CourseAfter p xs n course → CourseAfter p (xs ++ ys) n course
course_append p xs ys zero course says is = is
course_append p xs ys (suc n) course says (before, i, after, get, goes) = (
  before,
  i,
  course_append p xs ys n before (says_before p.codes xs n i get says) after,
  get_append xs ys n i get,
  goes_append p before i (drop (suc n) xs) (drop (suc n) (xs ++ ys)) course
      (ap (next_start p.codes) (drop_append xs ys n i get) ∙ says ys) goes,
)

leaves_on : (f : Option Form) (unit : UnitNumber) (Allowed Later More : Type 0)
    → LeavesBy unit f Allowed Later → (Later → More) → LeavesBy unit f Allowed More
leaves_on None unit Allowed Later More h goes = (h.0, goes h.1)
leaves_on (Some (Rts n)) unit Allowed Later More h goes = (h.0, goes h.1)
leaves_on (Some (Cts n)) unit Allowed Later More h goes = (h.0, goes h.1)
leaves_on (Some (Ack file ldu)) unit Allowed Later More h goes = (h.0, goes h.1)
leaves_on (Some (Nak bits)) unit Allowed Later More h goes = (h.0, goes h.1)
leaves_on (Some (Sot gfi file ldu)) unit Allowed Later More h goes = h
leaves_on (Some (Part semis)) unit Allowed Later More h goes = (h.0, goes h.1)
leaves_on (Some (Eot flags check)) unit Allowed Later More h goes = (h.0, goes h.1)

unit_append : (p : Contents) (unit : UnitNumber) (o : Observer) (xs ys : List Seen)
    → LeavesUnit p unit o xs → LeavesUnit p unit o (xs ++ ys)
unit_append p unit o [] ys h = absurd h
unit_append p unit o (x ∷ xs) ys h =
    leaves_on (form_of p.codes x.bus x.word) unit (Allows p o x) (LeavesUnit p unit (sees p x o) xs)
    (LeavesUnit p unit (sees p x o) (xs ++ ys)) h (unit_append p unit (sees p x o) xs ys)

may_append : (p : Contents) (course : Course) (xs ys : List Seen) → MayCut p course xs → MayCut p course (xs ++ ys)
may_append p (Follows o None) xs ys may = absurd may
may_append p (Follows o (Some unit)) xs ys may = unit_append p unit o xs ys may
may_append p Lost [] ys may = absurd may
may_append p Lost (x ∷ xs) ys may = (may.0, begins_append p.codes xs ys may.1)

-- words are left where the recording may be cut
drop_more : (p : Contents) (course : Course) (xs ys : List Seen) (n : ℕ) → MayCut p course (drop n xs) → drop n (xs ++ ys) ≡ drop n xs ++ ys
drop_more p course xs ys zero may = refl
drop_more p (Follows o None) [] ys (suc n) may = absurd may
drop_more p (Follows o (Some unit)) [] ys (suc n) may = absurd may
drop_more p Lost [] ys (suc n) may = absurd may
drop_more p course (x ∷ xs) ys (suc n) may = drop_more p course xs ys n may

pub place_append : (p : Contents) (xs ys : List Seen) (n : ℕ) → IsPlace p xs n → IsPlace p (xs ++ ys) n
place_append p xs ys n (course, after, may) = (
  course,
  course_append p xs ys n course (may_says p course (drop n xs) may) after,
  subst (MayCut p course) (sym (drop_more p course xs ys n may)) (may_append p course (drop n xs) ys may),
)
