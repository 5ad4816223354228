-- What certificates of both directions say of a recording (profile).
use Rattle.std.specs.Prelude.{◌≡◌, ℕ, List, [], ◌∷◌, None}
use Rattle.a429_word.specs.declared.bus.Bus.{Bus}
use Rattle.a429_word.specs.declared.bus.Bus.TheVariants as bus
use Rattle.a429_profile.specs.Profile.{Contents, IsProfile}
use Rattle.a429_link.specs.declared.file.FileBytes.{FileBytes}
use Rattle.a429_link.specs.declared.seen.Seen.{Seen}
use Rattle.a429_link.specs.Run.{delivered}
use Rattle.a429_record.specs.declared.entry.Entry.{Entry}
use Rattle.a429_cert.specs.Explained.{IsExplained, items_of}
use Rattle.a429_side.specs.declared.lot.Lot.{Lot}
use Rattle.a429_side.specs.declared.lot.Lot.TheVariants.{Elsewhere}
use Rattle.a429_side.specs.declared.lot.Side.{Side}
use Rattle.a429_side.specs.Direction.{IsMirror}
use Rattle.a429_side.specs.Duplex.{DuplexRun, both_trace, firsts, seconds}
use Rattle.a429_side.specs.Side.{lots_of, side_of}

-- the words of the direction whose files travel on this line, as they were recorded
abbrev pub on : Bus → Side
on b = record { line = b; answer = None }

-- no word is of another destination
abbrev pub AreHere : List Lot → Type 0
AreHere [] = Unit {0}
AreHere (Elsewhere d r ∷ lots) = ⊥
AreHere (_ ∷ lots) = AreHere lots

-- a certificate explains the words of one direction by a run that delivers these files, and the direction has one destination
pub record IsSideExplained (p : Contents) (b : Bus) (entries : List Entry) (files : List FileBytes) : Type 0 where
  pub sound : IsProfile p
  pub here : AreHere (lots_of p.codes (on b) entries)
  pub certificate : List ℕ
  pub explained : IsExplained p certificate (items_of (side_of p.codes (on b) entries)) files

-- some duplex run records these words, and each one that does delivers these files in each direction
pub record AreDuplexFiles (p q : Contents) (items : List Seen) (files others : List FileBytes) : Type 0 where
  pub duplex : DuplexRun p q
  pub records : both_trace duplex.steps ≡ items
  pub first : (d : DuplexRun p q) → both_trace d.steps ≡ items → delivered p d.first (firsts d.steps) ≡ files
  pub second : (d : DuplexRun p q) → both_trace d.steps ≡ items → delivered q d.second (seconds d.steps) ≡ others
