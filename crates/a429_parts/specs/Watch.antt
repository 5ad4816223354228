-- What a watch knows of where a recording may be cut (profile).
use Rattle.std.specs.Prelude.{◌≡◌, ◌≢◌, ◌≤◌, ◌<◌, ◌⊎◌, ℕ, suc, List, drop, Option, Some, None}
use Rattle.a429_profile.specs.declared.codes.Codes.{Codes}
use Rattle.a429_profile.specs.Profile.{Contents}
use Rattle.a429_ldu.specs.declared.forms.Form.{Form}
use Rattle.a429_ldu.specs.declared.forms.Form.TheVariants.{Rts, Sot}
use Rattle.a429_ldu.specs.Form.{form_of}
use Rattle.a429_link.specs.declared.number.UnitNumber.{UnitNumber}
use Rattle.a429_link.specs.declared.seen.Seen.{Seen}
use Rattle.a429_link.specs.Sink.{SinkPhase, InBlock, OwesAck}
use Rattle.a429_link.specs.Observer.{Observer, Allows, at_first, sees}
use Rattle.a429_parts.specs.declared.doubt.Doubt.{Doubt}
use Rattle.a429_parts.specs.declared.doubt.Doubt.TheVariants.{AfterUnit, Anew}
use Rattle.a429_parts.specs.Cutting.{Course, Follows, Lost, CourseAfter, BeginsFile, IsRequest, LeavesUnit, IsPlace, crossing, next_start}

-- the number of words so far, the observer of a course that is not lost, and the place that depends on what comes
pub record Watched : Type 0 where
  pub count : ℕ
  pub observer : Option Observer
  pub doubt : Option Doubt

-- a course of this observer, or a lost one
abbrev pub IsCourse : Course → Option Observer → Type 0
IsCourse (Follows o crossed) None = ⊥
IsCourse (Follows o crossed) (Some x) = o ≡ x
IsCourse Lost None = Unit {0}
IsCourse Lost (Some x) = ⊥

-- the course after the first n words is one of this observer
abbrev pub IsKnown : Contents → List Seen → ℕ → Option Observer → Type 0
IsKnown p items n observer = (course : Course) × CourseAfter p items n course × IsCourse course observer

-- the place is one exactly if the next start word leaves the unit, as this observer sees it
abbrev pub WaitsForStart : Contents → List Seen → ℕ → UnitNumber → Option Observer → List Seen → Type 0
WaitsForStart p items place unit None rest = ⊥
WaitsForStart p items place unit (Some o) rest = (LeavesUnit p unit o rest → IsPlace p items place) × (IsPlace p items place → LeavesUnit p unit o rest)

-- what is known after the first n words, by the place in doubt and the words that come
abbrev pub IsKnownIn : Contents → List Seen → ℕ → Option Observer → Option Doubt → List Seen → Type 0
IsKnownIn p items n observer None rest = IsKnown p items n observer
IsKnownIn p items n observer (Some (AfterUnit place unit)) rest = IsKnown p items n observer × WaitsForStart p items place unit observer rest
IsKnownIn p items n observer (Some (Anew place)) rest =
    (BeginsFile p.codes (next_start p.codes rest) → IsKnown p items n observer × IsPlace p items place)
    × ((BeginsFile p.codes (next_start p.codes rest) → ⊥) → IsKnown p items n None)
    × (IsPlace p items place → BeginsFile p.codes (next_start p.codes rest))

-- the watch knows what the first n of these words say
abbrev pub KnowsFirst : Contents → List Seen → ℕ → Watched → Type 0
KnowsFirst p items n w = IsKnownIn p items n w.observer w.doubt (drop n items)

-- the watch knows what the words so far say
abbrev pub Watches : Contents → List Seen → Watched → Type 0
Watches p items w = KnowsFirst p items w.count w

-- the next word, of this form, leaves the doubt as it is
abbrev pub Leaves : Option Form → Option Doubt → Type 0
Leaves form None = Unit {0}
Leaves (Some (Sot gfi file ldu)) (Some doubt) = ⊥
Leaves (Some (Rts n)) (Some (Anew place)) = ⊥
Leaves form (Some doubt) = Unit {0}

-- the place in doubt
abbrev pub place_of : Doubt → ℕ
place_of (AfterUnit place unit) = place
place_of (Anew place) = place

-- the sink begins anew there
abbrev pub IsAnew : Doubt → Type 0
IsAnew (AfterUnit place unit) = ⊥
IsAnew (Anew place) = Unit {0}

-- a word of this form says that it is a place
abbrev pub MakesCertain : Codes → Doubt → Option Form → Type 0
MakesCertain c (AfterUnit place unit) (Some (Sot gfi file ldu)) = record { file = file; ldu = ldu } ≢ unit
MakesCertain c (Anew place) (Some (Sot gfi file ldu)) = ldu ≡ c.first_ldu
MakesCertain c doubt form = ⊥

-- a word of this form says that it is none
abbrev pub RulesOut : Codes → Doubt → Option Form → Type 0
RulesOut c (AfterUnit place unit) (Some (Sot gfi file ldu)) = record { file = file; ldu = ldu } ≡ unit
RulesOut c (Anew place) (Some (Sot gfi file ldu)) = ldu ≢ c.first_ldu
RulesOut c (Anew place) (Some (Rts n)) = Unit {0}
RulesOut c doubt form = ⊥

-- the doubt after a file has crossed by an acknowledgement of this number
abbrev pub doubt_crossed : ℕ → UnitNumber → Option Doubt → Option Doubt
doubt_crossed place unit (Some (Anew old)) = Some (Anew old)
doubt_crossed place unit (Some (AfterUnit old other)) = Some (AfterUnit place unit)
doubt_crossed place unit None = Some (AfterUnit place unit)

-- the doubt after a word that was refused
abbrev pub doubt_lost : Option Doubt → Option Doubt
doubt_lost (Some (Anew place)) = Some (Anew place)
doubt_lost (Some (AfterUnit place unit)) = None
doubt_lost None = None

-- ---- one word more

-- what is known of the course once the place in doubt is none
abbrev pub after_none : Doubt → Option Observer → Option Observer
after_none (AfterUnit place unit) observer = observer
after_none (Anew place) observer = None

-- a word of this form leaves the place in doubt as it is, makes it certain, or rules it out
abbrev pub SettlesDoubt : Codes → Option Form → Option Doubt → Watched → Watched → Option ℕ → Type 0
SettlesDoubt c form None old new place = (new ≡ old) × (place ≡ None)
SettlesDoubt c form (Some doubt) old new place =
    (Leaves form (Some doubt) × (new ≡ old) × (place ≡ None))
    ⊎ ((MakesCertain c doubt form × (new ≡ record { count = old.count; observer = old.observer; doubt = None }) × (place ≡ Some (place_of doubt)))
    ⊎ (RulesOut c doubt form × (new ≡ record { count = old.count; observer = after_none doubt old.observer; doubt = None }) × (place ≡ None)))

abbrev pub Settles : Codes → Option Form → Watched → Watched → Option ℕ → Type 0
Settles c form old new place = SettlesDoubt c form old.doubt old new place

-- the doubt after a word by which a file crosses with this number, or by which none does
abbrev pub doubt_after : ℕ → Option UnitNumber → Option Doubt → Option Doubt
doubt_after place None doubt = doubt
doubt_after place (Some unit) doubt = doubt_crossed place unit doubt

-- the doubt after a word without form that is not free: it is refused where an observer follows the course
abbrev pub doubt_refused : Option Observer → Option Doubt → Option Doubt
doubt_refused None doubt = doubt
doubt_refused (Some o) doubt = doubt_lost doubt

-- an observer follows the next word, or there is none, and a request begins the sink anew
abbrev pub FollowsBy : Contents → Seen → Option Observer → Watched → Watched → Type 0
FollowsBy p i None old new =
    (IsRequest i.bus (form_of p.codes i.bus i.word) × (new ≡ record { count = old.count; observer = Some (sees p i at_first); doubt = Some (Anew old.count) }))
    ⊎ ((IsRequest i.bus (form_of p.codes i.bus i.word) → ⊥) × (new ≡ old))
FollowsBy p i (Some o) old new =
    (Allows p o i × (new ≡ record { count = old.count; observer = Some (sees p i o); doubt = doubt_after (suc old.count) (crossing p o i) old.doubt }))
    ⊎ ((Allows p o i → ⊥) × (new ≡ record { count = old.count; observer = None; doubt = doubt_lost old.doubt }))

abbrev pub FollowsWord : Contents → Seen → Watched → Watched → Type 0
FollowsWord p i old new = FollowsBy p i old.observer old new

-- the next word settles the place in doubt, and then it is followed; it is not counted yet
pub record SeesWord (p : Contents) (i : Seen) (old new : Watched) (place : Option ℕ) : Type 0 where
  pub settled : Watched
  pub settles : Settles p.codes (form_of p.codes i.bus i.word) old settled place
  pub follows : FollowsWord p i settled new

-- and counted
pub record TakesWord (p : Contents) (i : Seen) (old new : Watched) (place : Option ℕ) : Type 0 where
  pub seen : Watched
  pub sees : SeesWord p i old seen place
  pub counts : new ≡ record { count = suc old.count; observer = seen.observer; doubt = seen.doubt }

-- ---- no place is missed

-- this is the place in doubt
abbrev pub IsInDoubt : ℕ → Option Doubt → Type 0
IsInDoubt n None = ⊥
IsInDoubt n (Some doubt) = place_of doubt ≡ n

-- the place in doubt is not before the last one, and at most after n words
abbrev pub IsBetween : ℕ → ℕ → Option Doubt → Type 0
IsBetween last n None = Unit {0}
IsBetween last n (Some doubt) = (last ≤ place_of doubt) × (place_of doubt ≤ n)

-- the sink has no block
abbrev pub HasNoBlock : SinkPhase → Type 0
HasNoBlock (InBlock b) = ⊥
HasNoBlock (OwesAck b flags) = ⊥
HasNoBlock phase = Unit {0}

-- while a place is in doubt, no start word has come, so that the sink has no block
abbrev pub IsQuiet : Option Observer → Option Doubt → Type 0
IsQuiet (Some o) (Some doubt) = HasNoBlock o.phase
IsQuiet observer doubt = Unit {0}

-- each place after the last one and at most after n words is the one in doubt; or it is after all n words, before a request
pub record FindsAll (p : Contents) (items : List Seen) (last n : ℕ) (observer : Option Observer) (doubt : Option Doubt) : Type 0 where
  pub until : last ≤ n
  pub ahead : IsBetween last n doubt
  pub quiet : IsQuiet observer doubt
  pub all : (m : ℕ) → last < m → m ≤ n → IsPlace p items m → IsInDoubt m doubt ⊎ ((m ≡ n) × CourseAfter p items m Lost)

-- a watch whose last place is this one misses none of those before
abbrev pub Finds : Contents → List Seen → ℕ → Watched → Type 0
Finds p items last w = FindsAll p items last w.count w.observer w.doubt
