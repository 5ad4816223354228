-- The requests of a piece: with which of them a file begins (profile).
use Rattle.std.specs.Prelude.{ℕ, ◌≡◌, ◌⊎◌, ◌<◌, ◌≤◌, ◌==◌, nat_lt, Bool, true, false, if◌then◌else◌, List, ◌∷◌, ◌++◌, length, Option, Some, None, IfSome, IsSome, option_map}
use Rattle.a429_word.specs.declared.bus.Bus.{Bus}
use Rattle.a429_profile.specs.declared.codes.Codes.{Codes}
use Rattle.a429_profile.specs.Profile.{Contents}
use Rattle.a429_ldu.specs.declared.forms.Form.{Form}
use Rattle.a429_ldu.specs.declared.forms.Form.TheVariants.{Rts, Sot}
use Rattle.a429_ldu.specs.Form.{form_of}
use Rattle.a429_link.specs.declared.seen.Seen.{Seen}
use Rattle.a429_link.specs.Attempt.{asks}
use Rattle.a429_parts.specs.Cutting.{BeginsFile, next_start}
use Rattle.a429_sink.specs.declared.requests.Mark.{Mark}
use Rattle.a429_sink.specs.declared.requests.Requests.{Requests}
use Rattle.a429_sink.specs.declared.requests.Start.{Start}
use Rattle.a429_sink.specs.declared.requests.Start.TheVariants as start
use Rattle.a429_sink.specs.History.{GoesOnWithFile, MayEnd, asked_start, first_start}

-- ---- what words say of a request before them

abbrev pub SaysStart : Codes → List Seen → Start → Type 0
SaysStart c after start.Open = (rest : List Seen) → next_start c (after ++ rest) ≡ next_start c rest
SaysStart c after start.OfFile = (rest : List Seen) → BeginsFile c (next_start c (after ++ rest))
SaysStart c after start.Other = (rest : List Seen) → BeginsFile c (next_start c (after ++ rest)) → ⊥

-- item n is a request, and this is said of it
pub record HasRequestAt (p : Contents) (items : List Seen) (n : ℕ) (s : Start) : Type 0 where
  pub before : List Seen
  pub request : Seen
  pub after : List Seen
  pub all : items ≡ before ++ request ∷ after
  pub place : n ≡ length before
  pub asks : IsSome (asks request.bus (form_of p.codes request.bus request.word))
  pub says : SaysStart p.codes after s

-- what they say of the first start word after a request, whatever comes: there is no request yet; there is one; or the start word is
-- that of a file's first unit, or of another one
abbrev pub IsFirst : Contents → List Seen → Option Start → Type 0
IsFirst p items None = (rest : List Seen) → asked_start p.codes (items ++ rest) ≡ asked_start p.codes rest
IsFirst p items (Some start.Open) = (rest : List Seen) → asked_start p.codes (items ++ rest) ≡ first_start p.codes rest
IsFirst p items (Some start.OfFile) = (rest : List Seen) → BeginsFile p.codes (asked_start p.codes (items ++ rest))
IsFirst p items (Some start.Other) = (rest : List Seen) → GoesOnWithFile p.codes (asked_start p.codes (items ++ rest))

-- ---- where a piece may end

-- a piece of these items may end there, or it is open whether it may
abbrev pub IsMarked : Contents → List Seen → Start → Mark → Type 0
IsMarked p items s m = HasRequestAt p items m.place s × (0 < m.place)

abbrev pub AreOrdered : Option Mark → Option Mark → Type 0
AreOrdered None doubt = Unit {0}
AreOrdered (Some place) None = Unit {0}
AreOrdered (Some place) (Some doubt) = place.place ≤ doubt.place

abbrev pub IsUpToMark : ℕ → Option Mark → Type 0
IsUpToMark m None = ⊥
IsUpToMark m (Some mark) = m ≤ mark.place

abbrev pub IsAt : ℕ → Option Mark → Type 0
IsAt m None = ⊥
IsAt m (Some mark) = m ≡ mark.place

-- these are the requests of these items: the piece may end at none of them after the last one that is known, unless the words that come say so of the one in doubt
pub record AreRequests (p : Contents) (items : List Seen) (r : Requests) : Type 0 where
  pub first : IsFirst p items r.first
  pub place : IfSome r.place (IsMarked p items start.OfFile)
  pub doubt : IfSome r.doubt (IsMarked p items start.Open)
  pub order : AreOrdered r.place r.doubt
  pub others : (rest : List Seen) (m : ℕ) → m < length items → MayEnd p (items ++ rest) m → IsUpToMark m r.place ⊎ (IsAt m r.doubt × BeginsFile p.codes (next_start p.codes rest))

-- ---- one more word

abbrev pub no_requests : Requests
no_requests = record { first = None; place = None; doubt = None }

-- the first start word after a request is not that of a file's first unit
abbrev pub is_before : Option Start → Bool
is_before None = false
is_before (Some start.Open) = false
is_before (Some start.OfFile) = false
is_before (Some start.Other) = true

-- what is said of a request after a word of this form
abbrev pub start_after : Codes → Option Form → Start → Start
start_after c (Some (Rts n)) start.Open = start.Other
start_after c (Some (Sot gfi file ldu)) start.Open = if ldu == c.first_ldu then start.OfFile else start.Other
start_after c form s = s

-- what is said of the first start word after a request, after a word of this form: another request leaves it as it is
abbrev pub first_after : Codes → Option Form → Start → Start
first_after c (Some (Rts n)) s = s
first_after c form s = start_after c form s

abbrev pub later_place : Start → Option Mark → Option Mark → Option Mark
later_place start.OfFile (Some doubt) place = Some doubt
later_place s doubt place = place

abbrev pub later_doubt : Start → Option Mark → Option Mark
later_doubt start.Open doubt = doubt
later_doubt s doubt = None

-- the requests before it
abbrev pub settled : Codes → Option Form → Requests → Requests
settled c form r = record {
  first = option_map (first_after c form) r.first;
  place = later_place (start_after c form start.Open) r.doubt r.place;
  doubt = later_doubt (start_after c form start.Open) r.doubt;
}

abbrev pub first_asked : Option Start → Option Start
first_asked None = Some start.Open
first_asked (Some s) = Some s

-- and a request, which is not the first word
abbrev pub asked : Mark → Requests → Requests
asked mark r = record { first = first_asked r.first; place = r.place; doubt = if nat_lt 0 mark.place then Some mark else r.doubt }

abbrev pub asked_by : Option ℕ → Mark → Requests → Requests
asked_by None mark r = r
asked_by (Some n) mark r = asked mark r

abbrev pub requests_after : Codes → Bus → Option Form → Mark → Requests → Requests
requests_after c b form mark r = asked_by (asks b form) mark (settled c form r)
