-- What is said of the pieces of a recording, with the sizes of their files (profile).
use Rattle.std.specs.Prelude.{ℕ, ◌≡◌, ◌+◌, List, [], ◌∷◌, length, option_map}
use Rattle.a429_link.specs.declared.file.FileBytes.{FileBytes}
use Rattle.a429_link.specs.Implied.{sizes_of}
use Rattle.a429_sink.specs.declared.stopping_trace.Stop.{Stop}
use Rattle.a429_sink.specs.declared.summary.PieceEnd.{PieceEnd}
use Rattle.a429_sink.specs.declared.summary.PieceSummary.{PieceSummary}
use Rattle.a429_sink.specs.declared.summary.Stopped.{Stopped}
use Rattle.a429_sink.specs.declared.summary.Summaries.{Summaries}
use Rattle.a429_sink.specs.Pieces.{SaidPiece, entries_said}

-- the entry at which a piece stops that begins with this one
abbrev pub stopped_from : ℕ → Stop → Stopped
stopped_from from s = record { entry = from + s.place; seen = s.seen }

-- what is said of a piece whose first entry has this number: of each file that is sure its number and its length
pub record IsSummary (from : ℕ) (s : SaidPiece) (t : PieceSummary) : Type 0 where
  pub from_is : t.from ≡ from
  pub entries : t.entries ≡ length s.entries
  pub begun : t.begun_before ≡ s.told.begun_before
  pub stop : t.stop ≡ option_map (stopped_from from) s.stop
  pub files : t.files.items ≡ sizes_of s.told.files
  pub units : t.units.items ≡ s.told.units

-- the same of each of these pieces, one after the other
abbrev pub AreSummaries : ℕ → List SaidPiece → List PieceSummary → Type 0
AreSummaries from [] [] = Unit {0}
AreSummaries from [] (t ∷ ts) = ⊥
AreSummaries from (s ∷ ss) [] = ⊥
AreSummaries from (s ∷ ss) (t ∷ ts) = IsSummary from s t × AreSummaries (from + length s.entries) ss ts

-- it is said of these pieces, and of these files of the one under way
pub record AreTold (said : List SaidPiece) (files : List FileBytes) (s : Summaries) : Type 0 where
  pub told : AreSummaries 0 said s.told.items
  pub from : s.from ≡ entries_said said
  pub sizes : s.files.items ≡ sizes_of files

-- a piece has this end, besides its files
pub record Says (s : SaidPiece) (e : PieceEnd) : Type 0 where
  pub entries : e.entries ≡ length s.entries
  pub begun : e.begun_before ≡ s.told.begun_before
  pub stop : e.stop ≡ s.stop
  pub units : e.units.items ≡ s.told.units
