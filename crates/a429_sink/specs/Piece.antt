-- What the words of a piece say so far, and where it ends (profile).
use Rattle.std.specs.Prelude.{ℕ, ◌≡◌, ◌⊎◌, ◌<◌, ◌≤◌, nat_lt, nat_le, if◌then◌else◌, List, ◌++◌, length, take, Option, Some, None, IfSome, slice_get}
use Rattle.a429_profile.specs.Profile.{Contents}
use Rattle.a429_profile.specs.declared.codes.Codes.{Codes}
use Rattle.a429_link.specs.declared.file.FileBytes.{FileBytes}
use Rattle.a429_link.specs.declared.seen.Seen.{Seen}
use Rattle.a429_sink.specs.declared.piece.PieceTrace.{PieceTrace}
use Rattle.a429_sink.specs.declared.piece.Settled.{Settled}
use Rattle.a429_sink.specs.declared.requests.Mark.{Mark}
use Rattle.a429_sink.specs.declared.stopping_trace.Stop.{Stop}
use Rattle.a429_sink.specs.declared.stopping_trace.StoppingTrace.{StoppingTrace}
use Rattle.a429_sink.specs.FileUnits.{left_at, units_mark}
use Rattle.a429_sink.specs.History.{IsTold, MayEnd, Told}
use Rattle.a429_sink.specs.Requests.{AreRequests, is_before}
use Rattle.a429_sink.specs.StoppingTrace.{IsStoppingTrace, place_in, sure_in}

-- where a piece stops, if it ends at this place
abbrev pub stop_at : ℕ → Option Stop → Option Stop
stop_at n None = None
stop_at n (Some s) = if nat_lt s.place n then Some s else None

-- what a mark says of the first words of a piece of which these files are sure
abbrev pub told_at : Codes → StoppingTrace → List FileBytes → Mark → Told
told_at c t files m = record { begun_before = m.begun_before; stop = place_in (stop_at m.place t.stop); files = take m.files files; units = left_at c m.units t.trace.units }

-- what is said of the first words of these items
pub record IsMark (p : Contents) (items : List Seen) (t : StoppingTrace) (m : Mark) : Type 0 where
  pub place : m.place ≤ t.size
  pub files : m.files ≤ t.files
  pub units : m.units.earlier ≤ length t.trace.units.earlier.items
  pub told : IsTold p (take m.place items) (told_at p.codes t (sure_in p items t) m)
  pub word : IfSome (stop_at m.place t.stop) (λ s. slice_get (take m.place items) s.place ≡ Some s.seen)

-- what is said of all
abbrev pub mark_of : PieceTrace → Mark
mark_of t = record { place = t.trace.size; begun_before = is_before t.requests.first; files = t.trace.files; units = units_mark t.trace.trace.units }

-- a place after the one at which the piece stops is the first at which it may end
abbrev pub IsFirstAfter : Contents → List Seen → Option Stop → Option Mark → Type 0
IsFirstAfter p items None place = Unit {0}
IsFirstAfter p items (Some s) None = Unit {0}
IsFirstAfter p items (Some s) (Some m) = (m.place ≤ s.place) ⊎ ((rest : List Seen) (n : ℕ) → n < m.place → MayEnd p (items ++ rest) n → ⊥)

-- the files that are sure before the place are sure before the one in doubt
abbrev pub AreFilesOrdered : Option Mark → Option Mark → Type 0
AreFilesOrdered None doubt = Unit {0}
AreFilesOrdered (Some place) None = Unit {0}
AreFilesOrdered (Some place) (Some doubt) = place.files ≤ doubt.files

-- what these words of a piece say
pub record IsPieceTrace (p : Contents) (items : List Seen) (t : PieceTrace) : Type 0 where
  pub trace : IsStoppingTrace p items t.trace
  pub requests : AreRequests p items t.requests
  pub place : IfSome t.requests.place (IsMark p items t.trace)
  pub doubt : IfSome t.requests.doubt (IsMark p items t.trace)
  pub order : AreFilesOrdered t.requests.place t.requests.doubt
  pub early : IsFirstAfter p items t.trace.stop t.requests.place

-- ---- where it ends

-- a request in doubt, at or before the word at which the piece stops, is waited for
abbrev pub unless_in_doubt : Stop → Option Mark → Mark → Option Mark
unless_in_doubt s None place = Some place
unless_in_doubt s (Some d) place = if nat_le d.place s.place then None else Some place

abbrev pub end_by : Option Stop → Option Mark → Option Mark → Option Mark
end_by None place doubt = None
end_by (Some s) None doubt = None
end_by (Some s) (Some m) doubt = unless_in_doubt s doubt m

abbrev pub end_of : PieceTrace → Option Mark
end_of t = end_by t.trace.stop t.requests.place t.requests.doubt

-- where no more words come
abbrev pub last_by : Option Stop → Option Mark → Option Mark
last_by None place = None
last_by (Some s) place = place

abbrev pub end_at_last : PieceTrace → Option Mark
end_at_last t = last_by t.trace.stop t.requests.place

-- ---- what belongs to it, whatever words come

abbrev pub settled_by : Option Mark → Option Mark → Settled → Settled
settled_by (Some m) doubt all = record { entries = m.place; files = m.files }
settled_by None (Some m) all = record { entries = m.place; files = m.files }
settled_by None None all = all

abbrev pub settled_of : PieceTrace → Settled
settled_of t = settled_by t.requests.place t.requests.doubt (record { entries = t.trace.size; files = t.trace.files })

abbrev pub IsBeforeMark : Settled → Mark → Type 0
IsBeforeMark s m = (s.entries ≤ m.place) × (s.files ≤ m.files)

-- so much belongs to the piece, wherever it ends
pub record IsSettled (s : Settled) (t : PieceTrace) : Type 0 where
  pub entries : s.entries ≤ t.trace.size
  pub files : s.files ≤ t.trace.files
  pub place : IfSome t.requests.place (IsBeforeMark s)
  pub doubt : IfSome t.requests.doubt (IsBeforeMark s)
