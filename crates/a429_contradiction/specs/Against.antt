-- What a word is held against that no run records after those before it (profile).
use Rattle.std.specs.Prelude.{ℕ, ◌≡◌, ◌≢◌, ◌++◌, ◌∷◌, [], List, Option, Some, None, option_map, slice_get, take}
use Rattle.a429_word.specs.declared.bus.Bus.{Bus}
use Rattle.a429_word.specs.declared.bus.Bus.TheVariants as bus
use Rattle.a429_profile.specs.Profile.{Contents}
use Rattle.a429_profile.specs.declared.codes.Codes.{Codes}
use Rattle.a429_ldu.specs.Carried.{semis_in_words}
use Rattle.a429_ldu.specs.declared.forms.Form.{Form}
use Rattle.a429_ldu.specs.declared.forms.Form.TheVariants.{Ack, Sot, Part, Eot}
use Rattle.a429_ldu.specs.Form.{form_of}
use Rattle.a429_link.specs.declared.doing.Doing.{Doing}
use Rattle.a429_link.specs.declared.doing.Doing.TheVariants as doing
use Rattle.a429_link.specs.declared.number.UnitNumber.{UnitNumber}
use Rattle.a429_link.specs.declared.seen.Seen.{Seen}
use Rattle.a429_link.specs.declared.why.Why.TheVariants as why
use Rattle.a429_link.specs.Allowed.{kinds_allowed, kinds_of_next}
use Rattle.a429_link.specs.Attempt.{Attempt}
use Rattle.a429_link.specs.Contradiction.{AreOther, SoFar, UnitSoFar, IsOtherForm, IsWrongForm, so_far}
use Rattle.a429_link.specs.Implied.{Implied, implied, implied_at_first, observer_of, why_at}
use Rattle.a429_link.specs.Observer.{AllowsForm, Observer, at_first, observed}
use Rattle.a429_link.specs.Sink.{Number}
use Rattle.a429_link.specs.WholeBlock.{AreHalf, ComesForm, data_words}
use Rattle.a429_explain.specs.declared.verdict.Reason.{Reason}
use Rattle.a429_explain.specs.declared.verdict.Reason.TheVariants.{NoForm, NotGranted, WrongAnswer, BadBlock, WrongNumber, OtherBlock, NoRun}
use Rattle.a429_contradiction.specs.declared.rival.Rival.{Rival}
use Rattle.a429_contradiction.specs.Rival.{IsRivalAt}
use Rattle.a429_contradiction.specs.SoFar.{IsPassedWith}
use Rattle.a429_contradiction.specs.declared.against.Acked.{Acked}
use Rattle.a429_contradiction.specs.declared.against.Against.{Against}
use Rattle.a429_contradiction.specs.declared.against.Against.TheVariants as against

-- ---- what is known before a word

-- what the words of a recording imply of the sink, what the observer of them is, and the unit so far
pub record Known : Type 0 where
  pub sink : Implied
  pub observer : Observer
  pub so_far : SoFar

abbrev pub known_by : Implied → Observer → SoFar → Known
known_by sink observer s = record { sink = sink; observer = observer; so_far = s }

abbrev pub known_of : Contents → List Seen → Known
known_of p before = known_by (implied p before implied_at_first) (observed p before at_first) (so_far p before)

-- the acknowledgement recorded last after the word of this entry, which has this form or none
abbrev pub acked_after : ℕ → Bus → Option Form → Option Acked → Option Acked
acked_after entry bus.B (Some (Ack file ldu)) acked = Some (record { number = record { file = file; ldu = ldu }; entry = entry })
acked_after entry _ _ acked = acked

-- why a block is not good, by what its sink does after its end word, which has this check word
abbrev pub by_doing : ℕ → Doing → Option Against
by_doing check (doing.OwesNak (why.HalfBytes n)) = Some (against.Semis n)
by_doing check (doing.OwesNak (why.OtherCheck c)) = Some (against.Check check c)
by_doing check _ = None

-- word k is this one, on bus A
abbrev pub IsWordAt : List Seen → ℕ → ℕ → Type 0
IsWordAt before k w = slice_get before k ≡ Some (record { bus = bus.A; word = w })

-- a word of this form is an acknowledgement of this number
abbrev pub AcksNumber : Bus → Option Form → UnitNumber → Type 0
AcksNumber bus.B (Some (Ack file ldu)) n = n ≡ record { file = file; ldu = ldu }
AcksNumber _ _ n = ⊥

abbrev pub AcksNumberNext : Codes → Option Seen → UnitNumber → Type 0
AcksNumberNext c None n = ⊥
AcksNumberNext c (Some i) n = AcksNumber i.bus (form_of c i.bus i.word) n

-- word k is an acknowledgement of this number
abbrev pub AcksNumberAt : Contents → List Seen → ℕ → UnitNumber → Type 0
AcksNumberAt p before k n = AcksNumberNext p.codes (slice_get before k) n

-- the number of the link data unit accepted last
abbrev pub last_number : Option Number → Option UnitNumber
last_number last = option_map (λ n. n.number) last

-- a word of this form is a start word of this number
abbrev pub StartsNumber : Bus → Option Form → UnitNumber → Type 0
StartsNumber bus.A (Some (Sot gfi file ldu)) n = n ≡ record { file = file; ldu = ldu }
StartsNumber _ _ n = ⊥

-- of the unit so far: its number, its start word, how many words its requests ask for, its end word and its block
abbrev pub number_so_far : Option UnitSoFar → Option UnitNumber
number_so_far o = option_map (λ u. u.number) o

abbrev pub start_so_far : Option UnitSoFar → Option ℕ
start_so_far o = option_map (λ u. u.start) o

abbrev pub count_so_far : Option UnitSoFar → Option ℕ
count_so_far o = option_map (λ u. u.count) o

abbrev pub ending_so_far : Option UnitSoFar → Option ℕ
ending_so_far None = None
ending_so_far (Some u) = u.ending

abbrev pub block_so_far : Option UnitSoFar → Option (List ℕ)
block_so_far None = None
block_so_far (Some u) = u.block

-- ---- what it is held against

-- its block has so many semi-octets, which are those of no bytes: an end word ends it, or this is its last data word
abbrev pub HasSemis : Contents → Implied → Attempt → Bus → ℕ → Option Form → ℕ → Type 0
HasSemis p k a bus.A w (Some (Eot flags check)) semis = why_at p (Eot flags check) k.sink ≡ Some (why.HalfBytes semis)
HasSemis p k a bus.A w (Some (Part q)) semis = AreHalf p.codes (data_words p.codes a.words ++ w ∷ []) a.count × (semis ≡ semis_in_words p.codes (data_words p.codes a.words ++ w ∷ []))
HasSemis p k a _ w _ semis = ⊥

-- it is an end word with this check word, and the bytes of its block have another, which is this
abbrev pub HasCheck : Contents → Implied → Bus → Option Form → ℕ → ℕ → Type 0
HasCheck p k bus.A (Some (Eot flags check)) recorded of_bytes = (recorded ≡ check) × (why_at p (Eot flags check) k.sink ≡ Some (why.OtherCheck of_bytes))
HasCheck p k _ _ recorded of_bytes = ⊥

-- the words of the attempt pass some words of this block, the next of which is this one, and with one more word they are not some of
-- the block, in order
pub record GoesOn (words : List ℕ) (w next : ℕ) (block : List ℕ) : Type 0 where
  pub place : ℕ
  pub passed : IsPassedWith words (Some place) block
  pub next_is : slice_get block place ≡ Some next
  pub other : AreOther (words ++ w ∷ []) (Some block)

abbrev pub GoesOnIn : List ℕ → ℕ → ℕ → Option (List ℕ) → Type 0
GoesOnIn words w next None = ⊥
GoesOnIn words w next (Some block) = GoesOn words w next block

-- a word of this form, or of none, is held against this
abbrev pub HoldsForm : Contents → Known → List Seen → Bus → ℕ → Option Form → Against → Type 0
HoldsForm p k before b w x (against.Allowed next) = kinds_of_next next ≡ kinds_allowed (observer_of k.sink)
HoldsForm p k before b w x (against.Semis n) = HasSemis p k.sink k.so_far.attempt b w x n
HoldsForm p k before b w x (against.Check recorded of_bytes) = HasCheck p k.sink b x recorded of_bytes
HoldsForm p k before b w x (against.NotFirst n) = StartsNumber b x n × (last_number k.observer.last ≡ None) × (¬ ComesForm p.codes b x k.observer.last)
HoldsForm p k before b w x (against.AfterAck n m e) = StartsNumber b x n × AcksNumberAt p before e m × (last_number k.observer.last ≡ Some m) × (¬ ComesForm p.codes b x k.observer.last)
HoldsForm p k before b w x (against.AfterStart n m v e) = StartsNumber b x n × (number_so_far k.so_far.unit ≡ Some m) × (start_so_far k.so_far.unit ≡ Some v) × IsWordAt before e v × IsWrongForm b x k.so_far
HoldsForm p k before b w x (against.OtherStart n v e) = (n ≡ w) × (n ≢ v) × (start_so_far k.so_far.unit ≡ Some v) × IsWordAt before e v × IsOtherForm b w x k.so_far
HoldsForm p k before b w x (against.OtherCount n m v e) = (n ≡ k.so_far.attempt.count) × (n ≢ m) × (count_so_far k.so_far.unit ≡ Some m) × (start_so_far k.so_far.unit ≡ Some v) × IsWordAt before e v × IsOtherForm b w x k.so_far
HoldsForm p k before b w x (against.OtherEnd n v e) = (n ≡ w) × (n ≢ v) × (ending_so_far k.so_far.unit ≡ Some v) × IsWordAt before e v × IsOtherForm b w x k.so_far
HoldsForm p k before b w x (against.OtherWord n v z e) = (n ≡ w) × GoesOnIn k.so_far.attempt.words n v (block_so_far k.so_far.unit) × (ending_so_far k.so_far.unit ≡ Some z) × IsWordAt before e z × IsOtherForm b w x k.so_far
HoldsForm p k before b w x (against.Rival r) = IsRivalAt p (before ++ record { bus = b; word = w } ∷ []) r

-- the word is one that the words before it do not allow
abbrev pub IsOfRefused : Reason → Type 0
IsOfRefused NoForm = Unit {0}
IsOfRefused NotGranted = Unit {0}
IsOfRefused WrongAnswer = Unit {0}
IsOfRefused _ = ⊥

-- the reasons by which a word is held against this
abbrev pub IsOf : Reason → Against → Type 0
IsOf reason (against.Allowed next) = IsOfRefused reason
IsOf reason (against.Semis n) = reason ≡ BadBlock
IsOf reason (against.Check recorded of_bytes) = reason ≡ BadBlock
IsOf reason (against.NotFirst n) = reason ≡ WrongNumber
IsOf reason (against.AfterAck n m e) = reason ≡ WrongNumber
IsOf reason (against.AfterStart n m v e) = reason ≡ WrongNumber
IsOf reason (against.OtherStart n v e) = reason ≡ OtherBlock
IsOf reason (against.OtherCount n m v e) = reason ≡ OtherBlock
IsOf reason (against.OtherEnd n v e) = reason ≡ OtherBlock
IsOf reason (against.OtherWord n v z e) = reason ≡ OtherBlock
IsOf reason (against.Rival r) = reason ≡ NoRun

abbrev pub as_against : Option Rival → Option Against
as_against None = None
as_against (Some r) = Some (against.Rival r)

-- by this reason
abbrev pub IsHeldForm : Contents → Known → List Seen → Bus → ℕ → Option Form → Reason → Against → Type 0
IsHeldForm p k before b w x reason a = IsOf reason a × HoldsForm p k before b w x a

-- a word that comes after these is held against this, by its reason
abbrev pub IsHeldAfter : Contents → List Seen → Seen → Reason → Against → Type 0
IsHeldAfter p before i reason a = IsHeldForm p (known_of p before) before i.bus i.word (form_of p.codes i.bus i.word) reason a

abbrev pub IsHeldNext : Contents → List Seen → Option Seen → Reason → Against → Type 0
IsHeldNext p before None reason a = ⊥
IsHeldNext p before (Some i) reason a = IsHeldAfter p before i reason a

-- item i of a recording is held against this, by its reason
abbrev pub IsHeldAt : Contents → List Seen → ℕ → Reason → Against → Type 0
IsHeldAt p items i reason a = IsHeldNext p (take i items) (slice_get items i) reason a

-- ---- while the words are taken

-- a word of this form is allowed; one without form changes nothing
abbrev pub AllowsIfForm : Observer → Bus → Option Form → Type 0
AllowsIfForm o b None = Unit {0}
AllowsIfForm o b (Some x) = AllowsForm o b (Some x)

-- the acknowledgement recorded last is one of these words, and of the number accepted last; where there is none, none was accepted
abbrev pub IsAcked : Contents → List Seen → Option Acked → Observer → Type 0
IsAcked p before None o = last_number o.last ≡ None
IsAcked p before (Some a) o = AcksNumberAt p before a.entry a.number × (last_number o.last ≡ Some a.number)
