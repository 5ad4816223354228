-- What a watch knows after one word more.
use Rattle.std.proofs.Common.{◌≡◌, ◌≢◌, ℕ, zero, suc, List, [], ◌∷◌, drop, Option, Some, None, Result, Ok, Err, refl, sym, ap, ◌∙◌, subst, inl, inr}
use Rattle.std.specs.Prelude.{slice_get, IsOk, OnOk}
use Rattle.std.proofs.lemmas.Option.{same_Some}
use Rattle.a429_word.specs.declared.bus.Bus.{Bus}
use Rattle.a429_word.specs.declared.bus.Bus.TheVariants as bus
use Rattle.a429_profile.specs.Profile.{Contents}
use Rattle.a429_ldu.specs.declared.forms.Form.{Form}
use Rattle.a429_ldu.specs.declared.forms.Form.TheVariants.{Rts, Cts, Ack, Nak, Sot, Part, Eot}
use Rattle.a429_ldu.specs.Form.{form_of}
use Rattle.a429_link.specs.declared.number.UnitNumber.{UnitNumber}
use Rattle.a429_link.specs.declared.seen.Seen.{Seen}
use Rattle.a429_link.specs.Observer.{Observer, Allows, AllowsForm, at_first, sees, sees_form}
use Rattle.a429_parts.specs.declared.doubt.Doubt.{Doubt}
use Rattle.a429_parts.specs.declared.doubt.Doubt.TheVariants.{AfterUnit, Anew}
use Rattle.a429_parts.specs.Cutting.{Course, Follows, Lost, BeginsAnew, BeginsFile, CourseAfter, GoesOn, IsPlace, IsRequest, LeavesBy, LeavesUnit, MayCut, crossing, next_start, start_by}
use Rattle.a429_parts.specs.Watch.{IsAnew, IsKnown, IsKnownIn, Leaves, MakesCertain, RulesOut, Watched, Watches, after_none, doubt_crossed, doubt_lost, place_of}

-- the words that are left begin with the next one
pub next_is : (items : List Seen) (n : ℕ) (i : Seen) → slice_get items n ≡ Some i → drop n items ≡ i ∷ drop (suc n) items
next_is [] n i h = absurd (cc h)
next_is (x ∷ xs) zero i h = cc h
next_is (x ∷ xs) (suc n) i h = next_is xs n i h

-- ---- there is one course

step_once : (p : Contents) (before : Course) (i : Seen) (rest : List Seen) (c d : Course)
    → GoesOn p before i rest c → GoesOn p before i rest d → c ≡ d
step_once p (Follows o crossed) i rest c d (inl a) (inl b) = a.1 ∙ sym b.1
step_once p (Follows o crossed) i rest c d (inl a) (inr b) = absurd (b.0 a.0)
step_once p (Follows o crossed) i rest c d (inr a) (inl b) = absurd (a.0 b.0)
step_once p (Follows o crossed) i rest c d (inr a) (inr b) = a.1 ∙ sym b.1
step_once p Lost i rest c d (inl a) (inl b) = a.1 ∙ sym b.1
step_once p Lost i rest c d (inl a) (inr b) = absurd (b.0 a.0)
step_once p Lost i rest c d (inr a) (inl b) = absurd (a.0 b.0)
step_once p Lost i rest c d (inr a) (inr b) = a.1 ∙ sym b.1

pub same_course : (p : Contents) (items : List Seen) (n : ℕ) (c d : Course) → CourseAfter p items n c → CourseAfter p items n d → c ≡ d
same_course p items zero c d a b = a ∙ sym b
same_course p items (suc n) c d (x, i, before_x, get_x, goes_x) (y, j, before_y, get_y, goes_y) =
    step_once p y j (drop (suc n) items) c d
    (subst (λ (q : Course). GoesOn p q j (drop (suc n) items) c) (same_course p items n x y before_x before_y)
    (subst (λ (k : Seen). GoesOn p x k (drop (suc n) items) c) (same_Some i j (sym get_x ∙ get_y)) goes_x))
    goes_y

-- the last step of a course
pub last_step : (p : Contents) (items : List Seen) (n : ℕ) (i : Seen) (c : Course) → slice_get items n ≡ Some i
    → CourseAfter p items (suc n) c → (before : Course) × CourseAfter p items n before × GoesOn p before i (drop (suc n) items) c
last_step p items n i c get (x, j, before, get_j, goes) =
    (x, before, subst (λ (k : Seen). GoesOn p x k (drop (suc n) items) c) (same_Some j i (sym get_j ∙ get)) goes)

-- ---- the course goes on

-- with a word that the observer allows
pub known_seen : (p : Contents) (items : List Seen) (n : ℕ) (i : Seen) (o : Observer)
    → slice_get items n ≡ Some i → IsKnown p items n (Some o) → Allows p o i → IsKnown p items (suc n) (Some (sees p i o))
known_seen p items n i o get (Follows x crossed, after, same) allows = (
  Follows (sees p i x) (crossing p x i),
  (Follows x crossed, i, after, get, inl (subst (λ (q : Observer). Allows p q i) (sym same) allows, refl)),
  ap (sees p i) same,
)
known_seen p items n i o get (Lost, after, same) allows = absurd same

-- where a file crosses with it
crossed_from : (p : Contents) (items : List Seen) (n : ℕ) (i : Seen) (o : Observer) (unit : UnitNumber)
    → slice_get items n ≡ Some i → IsKnown p items n (Some o) → Allows p o i → crossing p o i ≡ Some unit
    → LeavesUnit p unit (sees p i o) (drop (suc n) items) → IsPlace p items (suc n)
crossed_from p items n i o unit get (Follows x crossed, after, same) allows crosses leaves = (
  Follows (sees p i x) (crossing p x i),
  (Follows x crossed, i, after, get, inl (subst (λ (q : Observer). Allows p q i) (sym same) allows, refl)),
  subst (λ (q : Observer). MayCut p (Follows (sees p i q) (crossing p q i)) (drop (suc n) items)) (sym same)
      (subst (λ (c : Option UnitNumber). MayCut p (Follows (sees p i o) c) (drop (suc n) items)) (sym crosses) leaves),
)
crossed_from p items n i o unit get (Lost, after, same) allows crosses leaves = absurd same

-- and back
crossed_back : (p : Contents) (items : List Seen) (n : ℕ) (i : Seen) (o : Observer) (unit : UnitNumber)
    → slice_get items n ≡ Some i → IsKnown p items n (Some o) → Allows p o i → crossing p o i ≡ Some unit → IsPlace p items (suc n)
    → LeavesUnit p unit (sees p i o) (drop (suc n) items)
crossed_back p items n i o unit get (Follows x crossed, after, same) allows crosses (course, before, may) =
    let is =
    same_course p items (suc n) course (Follows (sees p i x) (crossing p x i)) before
    (Follows x crossed, i, after, get, inl (subst (λ (q : Observer). Allows p q i) (sym same) allows, refl)) in
    let now = subst (λ (c : Course). MayCut p c (drop (suc n) items)) is may in
    subst (λ (c : Option UnitNumber). MayCut p (Follows (sees p i o) c) (drop (suc n) items)) crosses
    (subst (λ (q : Observer). MayCut p (Follows (sees p i q) (crossing p q i)) (drop (suc n) items)) same now)
crossed_back p items n i o unit get (Lost, after, same) allows crosses place = absurd same

pub known_crossed : (p : Contents) (items : List Seen) (n : ℕ) (i : Seen) (o : Observer) (unit : UnitNumber)
    → slice_get items n ≡ Some i → IsKnown p items n (Some o) → Allows p o i → crossing p o i ≡ Some unit
    → IsKnownIn p items (suc n) (Some (sees p i o)) (Some (AfterUnit (suc n) unit)) (drop (suc n) items)
known_crossed p items n i o unit get known allows crosses = (
  known_seen p items n i o get known allows,
  (
    λ leaves. crossed_from p items n i o unit get known allows crosses leaves,
    λ place. crossed_back p items n i o unit get known allows crosses place,
  ),
)

-- with a word that the observer refuses
pub known_refused : (p : Contents) (items : List Seen) (n : ℕ) (i : Seen) (o : Observer)
    → slice_get items n ≡ Some i → IsKnown p items n (Some o) → (Allows p o i → ⊥) → IsKnown p items (suc n) None
known_refused p items n i o get (Follows x crossed, after, same) refused =
    (Lost, (Follows x crossed, i, after, get, inr (λ allows. refused (subst (λ (q : Observer). Allows p q i) same allows), refl)), tt)
known_refused p items n i o get (Lost, after, same) refused = absurd same

-- where it is lost, with a word that is no request
pub known_lost : (p : Contents) (items : List Seen) (n : ℕ) (i : Seen) → slice_get items n ≡ Some i → IsKnown p items n None
    → (IsRequest i.bus (form_of p.codes i.bus i.word) → ⊥) → IsKnown p items (suc n) None
known_lost p items n i get (Follows x crossed, after, same) other = absurd same
known_lost p items n i get (Lost, after, same) other = (Lost, (Lost, i, after, get, inr (λ begins. other begins.0, refl)), tt)

-- a place where it is lost is before a request with which a file begins
pub lost_place : (p : Contents) (items : List Seen) (n : ℕ) (i : Seen)
    → slice_get items n ≡ Some i → CourseAfter p items n Lost → IsPlace p items n → BeginsAnew p.codes i (drop (suc n) items)
lost_place p items n i get after (course, before, may) =
    subst (MayCut p Lost) (next_is items n i get)
    (subst (λ (c : Course). MayCut p c (drop n items)) (same_course p items n course Lost before after) may)

-- and with a request: it begins anew, or it does not
pub known_begun : (p : Contents) (items : List Seen) (n : ℕ) (i : Seen)
    → slice_get items n ≡ Some i → IsKnown p items n None → IsRequest i.bus (form_of p.codes i.bus i.word)
    → IsKnownIn p items (suc n) (Some (sees p i at_first)) (Some (Anew n)) (drop (suc n) items)
known_begun p items n i get (Follows x crossed, after, same) request = absurd same
known_begun p items n i get (Lost, after, same) request = (
  λ begins. (
    (Follows (sees p i at_first) None, (Lost, i, after, get, inl ((request, begins), refl)), refl),
    (Lost, after, subst (MayCut p Lost) (sym (next_is items n i get)) (request, begins)),
  ),
  λ not. (Lost, (Lost, i, after, get, inr (λ begins. not begins.1, refl)), tt),
  λ place. (lost_place p items n i get after place).1,
)

-- ---- the place in doubt

-- a start word of another number makes it certain
pub settled_start : (p : Contents) (items : List Seen) (n place : ℕ) (i : Seen) (unit : UnitNumber) (gfi file ldu : ℕ)
    (observer : Option Observer)
    → slice_get items n ≡ Some i → form_of p.codes i.bus i.word ≡ Some (Sot gfi file ldu) → record { file = file; ldu = ldu } ≢ unit
    → IsKnownIn p items n observer (Some (AfterUnit place unit)) (drop n items) → IsPlace p items place
settled_start p items n place i unit gfi file ldu None get is other h = absurd h.1
settled_start p items n place i unit gfi file ldu (Some o) get is other h =
    h.1.0 (subst (LeavesUnit p unit o) (sym (next_is items n i get))
    (subst (λ (f : Option Form). LeavesBy unit f (Allows p o i) (LeavesUnit p unit (sees p i o) (drop (suc n) items))) (sym is) other))

-- one of this number rules it out
same_start : (p : Contents) (items : List Seen) (n place : ℕ) (i : Seen) (unit : UnitNumber) (gfi file ldu : ℕ) (observer : Option Observer)
    → slice_get items n ≡ Some i → form_of p.codes i.bus i.word ≡ Some (Sot gfi file ldu) → record { file = file; ldu = ldu } ≡ unit
    → IsKnownIn p items n observer (Some (AfterUnit place unit)) (drop n items) → IsPlace p items place → ⊥
same_start p items n place i unit gfi file ldu None get is same h found = absurd h.1
same_start p items n place i unit gfi file ldu (Some o) get is same h found =
    subst (λ (f : Option Form). LeavesBy unit f (Allows p o i) (LeavesUnit p unit (sees p i o) (drop (suc n) items))) is
    (subst (LeavesUnit p unit o) (next_is items n i get) (h.1.1 found)) same

-- the next start word, by the next word
start_is : (p : Contents) (items : List Seen) (n : ℕ) (i : Seen) (f : Option Form) → slice_get items n ≡ Some i
    → form_of p.codes i.bus i.word ≡ f → next_start p.codes (drop n items) ≡ start_by f (next_start p.codes (drop (suc n) items))
start_is p items n i f get is =
    ap (next_start p.codes) (next_is items n i get) ∙ ap (λ (x : Option Form). start_by x (next_start p.codes (drop (suc n) items))) is

pub settled_anew : (p : Contents) (items : List Seen) (n place : ℕ) (i : Seen) (gfi file ldu : ℕ) (observer : Option Observer)
    → slice_get items n ≡ Some i → form_of p.codes i.bus i.word ≡ Some (Sot gfi file ldu) → ldu ≡ p.codes.first_ldu
    → IsKnownIn p items n observer (Some (Anew place)) (drop n items) → IsKnown p items n observer × IsPlace p items place
settled_anew p items n place i gfi file ldu observer get is first h =
    h.0 (subst (BeginsFile p.codes) (sym (start_is p items n i (Some (Sot gfi file ldu)) get is)) first)

pub settled_late : (p : Contents) (items : List Seen) (n place : ℕ) (i : Seen) (gfi file ldu : ℕ) (observer : Option Observer)
    → slice_get items n ≡ Some i → form_of p.codes i.bus i.word ≡ Some (Sot gfi file ldu) → ldu ≢ p.codes.first_ldu
    → IsKnownIn p items n observer (Some (Anew place)) (drop n items) → IsKnown p items n None
settled_late p items n place i gfi file ldu observer get is other h =
    h.1 (λ begins. other (subst (BeginsFile p.codes) (start_is p items n i (Some (Sot gfi file ldu)) get is) begins))

pub settled_request : (p : Contents) (items : List Seen) (n place count : ℕ) (i : Seen) (observer : Option Observer)
    → slice_get items n ≡ Some i → form_of p.codes i.bus i.word ≡ Some (Rts count)
    → IsKnownIn p items n observer (Some (Anew place)) (drop n items) → IsKnown p items n None
settled_request p items n place count i observer get is h =
    h.1 (λ begins. subst (BeginsFile p.codes) (start_is p items n i (Some (Rts count)) get is) begins)

-- ---- a word that leaves the doubt as it is

leaves_by : (unit : UnitNumber) (place : ℕ) (f : Option Form) (Allowed Later : Type 0)
    → Leaves f (Some (AfterUnit place unit)) → Allowed → Later → LeavesBy unit f Allowed Later
leaves_by unit place None Allowed Later leaves a l = (a, l)
leaves_by unit place (Some (Rts n)) Allowed Later leaves a l = (a, l)
leaves_by unit place (Some (Cts n)) Allowed Later leaves a l = (a, l)
leaves_by unit place (Some (Ack file ldu)) Allowed Later leaves a l = (a, l)
leaves_by unit place (Some (Nak bits)) Allowed Later leaves a l = (a, l)
leaves_by unit place (Some (Sot gfi file ldu)) Allowed Later leaves a l = absurd leaves
leaves_by unit place (Some (Part semis)) Allowed Later leaves a l = (a, l)
leaves_by unit place (Some (Eot flags check)) Allowed Later leaves a l = (a, l)

leaves_back : (unit : UnitNumber) (place : ℕ) (f : Option Form) (Allowed Later : Type 0)
    → Leaves f (Some (AfterUnit place unit)) → LeavesBy unit f Allowed Later → Allowed × Later
leaves_back unit place None Allowed Later leaves both = both
leaves_back unit place (Some (Rts n)) Allowed Later leaves both = both
leaves_back unit place (Some (Cts n)) Allowed Later leaves both = both
leaves_back unit place (Some (Ack file ldu)) Allowed Later leaves both = both
leaves_back unit place (Some (Nak bits)) Allowed Later leaves both = both
leaves_back unit place (Some (Sot gfi file ldu)) Allowed Later leaves both = absurd leaves
leaves_back unit place (Some (Part semis)) Allowed Later leaves both = both
leaves_back unit place (Some (Eot flags check)) Allowed Later leaves both = both

-- the next word is allowed, and later a start word leaves the unit
pub waits_on : (p : Contents) (items : List Seen) (n : ℕ) (i : Seen) (o : Observer) (place : ℕ) (unit : UnitNumber)
    → slice_get items n ≡ Some i → Leaves (form_of p.codes i.bus i.word) (Some (AfterUnit place unit)) → LeavesUnit p unit o (drop n items)
    → Allows p o i × LeavesUnit p unit (sees p i o) (drop (suc n) items)
waits_on p items n i o place unit get leaves later =
    leaves_back unit place (form_of p.codes i.bus i.word) (Allows p o i) (LeavesUnit p unit (sees p i o) (drop (suc n) items)) leaves
    (subst (LeavesUnit p unit o) (next_is items n i get) later)

start_later : (place : ℕ) (f : Option Form) (later : Option UnitNumber) → Leaves f (Some (Anew place)) → start_by f later ≡ later
start_later place None later leaves = refl
start_later place (Some (Rts n)) later leaves = absurd leaves
start_later place (Some (Cts n)) later leaves = refl
start_later place (Some (Ack file ldu)) later leaves = refl
start_later place (Some (Nak bits)) later leaves = refl
start_later place (Some (Sot gfi file ldu)) later leaves = absurd leaves
start_later place (Some (Part semis)) later leaves = refl
start_later place (Some (Eot flags check)) later leaves = refl

pub no_request : (place : ℕ) (b : Bus) (f : Option Form) → Leaves f (Some (Anew place)) → IsRequest b f → ⊥
no_request place bus.A (Some (Rts n)) leaves request = leaves
no_request place bus.A (Some (Sot gfi file ldu)) leaves request = request
no_request place bus.A None leaves request = request
no_request place bus.A (Some (Cts n)) leaves request = request
no_request place bus.A (Some (Ack file ldu)) leaves request = request
no_request place bus.A (Some (Nak bits)) leaves request = request
no_request place bus.A (Some (Part semis)) leaves request = request
no_request place bus.A (Some (Eot flags check)) leaves request = request
no_request place bus.B f leaves request = request

-- the doubt stays where the next word changes what is known of the course in this way
anew_stays : (p : Contents) (items : List Seen) (n place : ℕ) (i : Seen) (old new : Option Observer) → slice_get items n ≡ Some i
    → Leaves (form_of p.codes i.bus i.word) (Some (Anew place)) → IsKnownIn p items n old (Some (Anew place)) (drop n items)
    → (IsKnown p items n old → IsKnown p items (suc n) new) → IsKnownIn p items (suc n) new (Some (Anew place)) (drop (suc n) items)
anew_stays p items n place i old new get leaves h goes = (
  λ begins. let before = h.0 (subst (BeginsFile p.codes) (sym same) begins) in (goes before.0, before.1),
  λ not. known_lost p items n i get (h.1 (λ begins. not (subst (BeginsFile p.codes) same begins)))
      (no_request place i.bus (form_of p.codes i.bus i.word) leaves),
  λ found. subst (BeginsFile p.codes) same (h.2 found),
)
  where
    same : next_start p.codes (drop n items) ≡ next_start p.codes (drop (suc n) items)
    same = start_is p items n i (form_of p.codes i.bus i.word) get refl
        ∙ start_later place (form_of p.codes i.bus i.word) (next_start p.codes (drop (suc n) items)) leaves

-- a word that is allowed
pub seen_in : (p : Contents) (items : List Seen) (n : ℕ) (i : Seen) (o : Observer) (doubt : Option Doubt)
    → slice_get items n ≡ Some i → Leaves (form_of p.codes i.bus i.word) doubt → IsKnownIn p items n (Some o) doubt (drop n items)
    → Allows p o i → IsKnownIn p items (suc n) (Some (sees p i o)) doubt (drop (suc n) items)
seen_in p items n i o None get leaves h allows = known_seen p items n i o get h allows
seen_in p items n i o (Some (AfterUnit place unit)) get leaves h allows = (
  known_seen p items n i o get h.0 allows,
  (
    λ later.
        h.1.0 (subst (LeavesUnit p unit o) (sym (next_is items n i get)) (leaves_by unit place (form_of p.codes i.bus i.word) (Allows p o i)
        (LeavesUnit p unit (sees p i o) (drop (suc n) items)) leaves allows later)),
    λ found. (waits_on p items n i o place unit get leaves (h.1.1 found)).1,
  ),
)
seen_in p items n i o (Some (Anew place)) get leaves h allows =
    anew_stays p items n place i (Some o) (Some (sees p i o)) get leaves h (λ known. known_seen p items n i o get known allows)

-- an acknowledgement by which a file crosses
pub crossed_in : (p : Contents) (items : List Seen) (n : ℕ) (i : Seen) (o : Observer) (unit : UnitNumber) (doubt : Option Doubt)
    → slice_get items n ≡ Some i → Leaves (form_of p.codes i.bus i.word) doubt → IsKnownIn p items n (Some o) doubt (drop n items)
    → Allows p o i → crossing p o i ≡ Some unit
    → IsKnownIn p items (suc n) (Some (sees p i o)) (doubt_crossed (suc n) unit doubt) (drop (suc n) items)
crossed_in p items n i o unit None get leaves h allows crosses = known_crossed p items n i o unit get h allows crosses
crossed_in p items n i o unit (Some (AfterUnit place other)) get leaves h allows crosses =
    known_crossed p items n i o unit get h.0 allows crosses
crossed_in p items n i o unit (Some (Anew place)) get leaves h allows crosses =
    seen_in p items n i o (Some (Anew place)) get leaves h allows

-- a word that is refused ends the doubt of a unit
pub lost_in : (p : Contents) (items : List Seen) (n : ℕ) (i : Seen) (o : Observer) (doubt : Option Doubt)
    → slice_get items n ≡ Some i → Leaves (form_of p.codes i.bus i.word) doubt → IsKnownIn p items n (Some o) doubt (drop n items)
    → (Allows p o i → ⊥) → IsKnownIn p items (suc n) None (doubt_lost doubt) (drop (suc n) items)
lost_in p items n i o None get leaves h refused = known_refused p items n i o get h refused
lost_in p items n i o (Some (AfterUnit place unit)) get leaves h refused = known_refused p items n i o get h.0 refused
lost_in p items n i o (Some (Anew place)) get leaves h refused =
    anew_stays p items n place i (Some o) None get leaves h (λ known. known_refused p items n i o get known refused)

-- and a word that is no request, where the course is lost
pub lost_on : (p : Contents) (items : List Seen) (n : ℕ) (i : Seen) (doubt : Option Doubt)
    → slice_get items n ≡ Some i → Leaves (form_of p.codes i.bus i.word) doubt → IsKnownIn p items n None doubt (drop n items)
    → (IsRequest i.bus (form_of p.codes i.bus i.word) → ⊥) → IsKnownIn p items (suc n) None doubt (drop (suc n) items)
lost_on p items n i None get leaves h other = known_lost p items n i get h other
lost_on p items n i (Some (AfterUnit place unit)) get leaves h other = absurd h.1
lost_on p items n i (Some (Anew place)) get leaves h other =
    anew_stays p items n place i None None get leaves h (λ known. known_lost p items n i get known other)

-- ---- what a word says of the doubt

is_place : (p : Contents) (items : List Seen) (n : ℕ) (i : Seen) (observer : Option Observer) (doubt : Doubt) (f : Option Form)
    → slice_get items n ≡ Some i → form_of p.codes i.bus i.word ≡ f → MakesCertain p.codes doubt f
    → IsKnownIn p items n observer (Some doubt) (drop n items) → IsKnown p items n observer × IsPlace p items (place_of doubt)
is_place p items n i observer (AfterUnit place unit) (Some (Sot gfi file ldu)) get is sure h =
    (h.0, settled_start p items n place i unit gfi file ldu observer get is sure h)
is_place p items n i observer (Anew place) (Some (Sot gfi file ldu)) get is sure h =
    settled_anew p items n place i gfi file ldu observer get is sure h
is_place p items n i observer (AfterUnit place unit) None get is sure h = absurd sure
is_place p items n i observer (AfterUnit place unit) (Some (Rts n')) get is sure h = absurd sure
is_place p items n i observer (AfterUnit place unit) (Some (Cts n')) get is sure h = absurd sure
is_place p items n i observer (AfterUnit place unit) (Some (Ack file ldu)) get is sure h = absurd sure
is_place p items n i observer (AfterUnit place unit) (Some (Nak bits)) get is sure h = absurd sure
is_place p items n i observer (AfterUnit place unit) (Some (Part semis)) get is sure h = absurd sure
is_place p items n i observer (AfterUnit place unit) (Some (Eot flags check)) get is sure h = absurd sure
is_place p items n i observer (Anew place) None get is sure h = absurd sure
is_place p items n i observer (Anew place) (Some (Rts n')) get is sure h = absurd sure
is_place p items n i observer (Anew place) (Some (Cts n')) get is sure h = absurd sure
is_place p items n i observer (Anew place) (Some (Ack file ldu)) get is sure h = absurd sure
is_place p items n i observer (Anew place) (Some (Nak bits)) get is sure h = absurd sure
is_place p items n i observer (Anew place) (Some (Part semis)) get is sure h = absurd sure
is_place p items n i observer (Anew place) (Some (Eot flags check)) get is sure h = absurd sure

is_none : (p : Contents) (items : List Seen) (n : ℕ) (i : Seen) (observer : Option Observer) (doubt : Doubt) (f : Option Form)
    → slice_get items n ≡ Some i → form_of p.codes i.bus i.word ≡ f → RulesOut p.codes doubt f
    → IsKnownIn p items n observer (Some doubt) (drop n items) → IsKnown p items n (after_none doubt observer)
is_none p items n i observer (AfterUnit place unit) f get is out h = h.0
is_none p items n i observer (Anew place) (Some (Sot gfi file ldu)) get is out h =
    settled_late p items n place i gfi file ldu observer get is out h
is_none p items n i observer (Anew place) (Some (Rts count)) get is out h = settled_request p items n place count i observer get is h
is_none p items n i observer (Anew place) None get is out h = absurd out
is_none p items n i observer (Anew place) (Some (Cts n')) get is out h = absurd out
is_none p items n i observer (Anew place) (Some (Ack file ldu)) get is out h = absurd out
is_none p items n i observer (Anew place) (Some (Nak bits)) get is out h = absurd out
is_none p items n i observer (Anew place) (Some (Part semis)) get is out h = absurd out
is_none p items n i observer (Anew place) (Some (Eot flags check)) get is out h = absurd out

-- it is none then
rules : (p : Contents) (items : List Seen) (n : ℕ) (i : Seen) (observer : Option Observer) (doubt : Doubt) (f : Option Form)
    → slice_get items n ≡ Some i → form_of p.codes i.bus i.word ≡ f → RulesOut p.codes doubt f
    → IsKnownIn p items n observer (Some doubt) (drop n items) → IsPlace p items (place_of doubt) → ⊥
rules p items n i observer (AfterUnit place unit) (Some (Sot gfi file ldu)) get is out h found =
    same_start p items n place i unit gfi file ldu observer get is out h found
rules p items n i observer (AfterUnit place unit) None get is out h found = out
rules p items n i observer (AfterUnit place unit) (Some (Rts count)) get is out h found = out
rules p items n i observer (AfterUnit place unit) (Some (Cts n')) get is out h found = out
rules p items n i observer (AfterUnit place unit) (Some (Ack file ldu)) get is out h found = out
rules p items n i observer (AfterUnit place unit) (Some (Nak bits)) get is out h found = out
rules p items n i observer (AfterUnit place unit) (Some (Part semis)) get is out h found = out
rules p items n i observer (AfterUnit place unit) (Some (Eot flags check)) get is out h found = out
rules p items n i observer (Anew place) (Some (Sot gfi file ldu)) get is out h found =
    out (subst (BeginsFile p.codes) (start_is p items n i (Some (Sot gfi file ldu)) get is) (h.2 found))
rules p items n i observer (Anew place) (Some (Rts count)) get is out h found =
    subst (BeginsFile p.codes) (start_is p items n i (Some (Rts count)) get is) (h.2 found)
rules p items n i observer (Anew place) None get is out h found = out
rules p items n i observer (Anew place) (Some (Cts n')) get is out h found = out
rules p items n i observer (Anew place) (Some (Ack file ldu)) get is out h found = out
rules p items n i observer (Anew place) (Some (Nak bits)) get is out h found = out
rules p items n i observer (Anew place) (Some (Part semis)) get is out h found = out
rules p items n i observer (Anew place) (Some (Eot flags check)) get is out h found = out

-- a watch that knows what the words so far say, with a doubt
pub known_with : (p : Contents) (items : List Seen) (w : Watched) (doubt : Option Doubt)
    → w.doubt ≡ doubt → Watches p items w → IsKnownIn p items w.count w.observer doubt (drop w.count items)
known_with p items w doubt is h = subst (λ (d : Option Doubt). IsKnownIn p items w.count w.observer d (drop w.count items)) is h

pub settle_place : (p : Contents) (items : List Seen) (w : Watched) (i : Seen) (doubt : Doubt) (f : Option Form)
    → w.doubt ≡ Some doubt → slice_get items w.count ≡ Some i → form_of p.codes i.bus i.word ≡ f → MakesCertain p.codes doubt f
    → Watches p items w → IsKnown p items w.count w.observer × IsPlace p items (place_of doubt)
settle_place p items w i doubt f is get form sure h =
    is_place p items w.count i w.observer doubt f get form sure (known_with p items w (Some doubt) is h)

pub settle_none : (p : Contents) (items : List Seen) (w : Watched) (i : Seen) (doubt : Doubt) (f : Option Form)
    → w.doubt ≡ Some doubt → slice_get items w.count ≡ Some i → form_of p.codes i.bus i.word ≡ f → RulesOut p.codes doubt f
    → Watches p items w → IsKnown p items w.count (after_none doubt w.observer)
settle_none p items w i doubt f is get form out h =
    is_none p items w.count i w.observer doubt f get form out (known_with p items w (Some doubt) is h)

pub ruled_out : (p : Contents) (items : List Seen) (w : Watched) (i : Seen) (doubt : Doubt) (f : Option Form)
    → w.doubt ≡ Some doubt → slice_get items w.count ≡ Some i → form_of p.codes i.bus i.word ≡ f → RulesOut p.codes doubt f
    → Watches p items w → IsPlace p items (place_of doubt) → ⊥
ruled_out p items w i doubt f is get form out h found =
    rules p items w.count i w.observer doubt f get form out (known_with p items w (Some doubt) is h) found

-- ---- the watch goes on

-- a word without form leaves each doubt
pub leaves_none : (doubt : Option Doubt) → Leaves None doubt
leaves_none None = tt
leaves_none (Some (AfterUnit place unit)) = tt
leaves_none (Some (Anew place)) = tt

pub no_request_none : (b : Bus) → IsRequest b None → ⊥
no_request_none bus.A request = request
no_request_none bus.B request = request

-- and changes nothing
pub sees_none : (p : Contents) (i : Seen) (o : Observer) → form_of p.codes i.bus i.word ≡ None → sees p i o ≡ o
sees_none p i o none = ap (λ (f : Option Form). sees_form p i.bus i.word f o) none

pub of_ok : {T E P : Type 0} (r : Result T E) → IsOk r → OnOk r P → P
of_ok (Ok x) is on = on
of_ok (Err e) is on = absurd (cc is)

-- a request leaves no place in doubt where the course is lost
no_doubt : (p : Contents) (items : List Seen) (n : ℕ) (b : Bus) (f : Option Form) (doubt : Option Doubt) (rest : List Seen)
    → Leaves f doubt → IsRequest b f → IsKnownIn p items n None doubt rest → IsKnown p items n None
no_doubt p items n b f None rest leaves request h = h
no_doubt p items n b f (Some (AfterUnit place unit)) rest leaves request h = absurd h.1
no_doubt p items n b f (Some (Anew place)) rest leaves request h = absurd (no_request place b f leaves request)

pub allows_by : (o : Observer) (b : Bus) (f : Option Form) → IsRequest b f → AllowsForm o b f
allows_by o bus.A (Some (Rts n)) request = tt
allows_by o bus.A None request = absurd request
allows_by o bus.A (Some (Cts n)) request = absurd request
allows_by o bus.A (Some (Ack file ldu)) request = absurd request
allows_by o bus.A (Some (Nak bits)) request = absurd request
allows_by o bus.A (Some (Sot gfi file ldu)) request = absurd request
allows_by o bus.A (Some (Part semis)) request = absurd request
allows_by o bus.A (Some (Eot flags check)) request = absurd request
allows_by o bus.B f request = absurd request

-- so it begins anew
pub begun_in : (p : Contents) (items : List Seen) (n : ℕ) (i : Seen) (doubt : Option Doubt)
    → slice_get items n ≡ Some i → Leaves (form_of p.codes i.bus i.word) doubt → IsRequest i.bus (form_of p.codes i.bus i.word)
    → IsKnownIn p items n None doubt (drop n items)
    → IsKnownIn p items (suc n) (Some (sees p i at_first)) (Some (Anew n)) (drop (suc n) items)
begun_in p items n i doubt get leaves request h =
    known_begun p items n i get (no_doubt p items n i.bus (form_of p.codes i.bus i.word) doubt (drop n items) leaves request h) request

pub none_anew : (doubt : Doubt) (observer : Option Observer) → IsAnew doubt → after_none doubt observer ≡ None
none_anew (AfterUnit place unit) observer anew = absurd anew
none_anew (Anew place) observer anew = refl

pub none_unit : (doubt : Doubt) (observer : Option Observer) → (IsAnew doubt → ⊥) → after_none doubt observer ≡ observer
none_unit (AfterUnit place unit) observer other = refl
none_unit (Anew place) observer other = absurd (other tt)
