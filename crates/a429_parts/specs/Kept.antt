-- What of a recording its transfer needs (profile).
use Rattle.std.specs.Prelude.{◌≡◌, ◌==◌, ◌⊎◌, true, if◌then◌else◌, List, [], ◌∷◌}
use Rattle.a429_word.specs.Word.{label_of}
use Rattle.a429_profile.specs.declared.codes.Codes.{Codes}
use Rattle.a429_profile.specs.Profile.{Contents}
use Rattle.a429_ldu.specs.Form.{is_free, address_of}
use Rattle.a429_record.specs.declared.entry.Entry.{Entry}
use Rattle.a429_link.specs.declared.file.FileBytes.{FileBytes}
use Rattle.a429_link.specs.declared.seen.Seen.{Seen}
use Rattle.a429_link.specs.Run.{RunOf, delivered_by, trace}

-- the word has the label that the transfer has on its bus
abbrev pub HasTransferLabel : Codes → Entry → Type 0
HasTransferLabel c e = label_of e.word ≡ address_of c e.bus

-- the entries whose words have it, in order
abbrev pub kept : Codes → List Entry → List Entry
kept c [] = []
kept c (e ∷ es) = if label_of e.word == address_of c e.bus then e ∷ kept c es else kept c es

-- the second are the first, in order, without some of their free words
abbrev pub IsWithoutFree : Codes → List Seen → List Seen → Type 0
IsWithoutFree c [] others = others ≡ []
IsWithoutFree c (i ∷ items) others =
    ((is_free c i.bus i.word ≡ true) × IsWithoutFree c items others) ⊎ ((more : List Seen) × (others ≡ i ∷ more) × IsWithoutFree c items more)

-- a run records these words and delivers these files
pub record HasRun (p : Contents) (items : List Seen) (files : List FileBytes) : Type 0 where
  pub run : RunOf p
  pub records : trace run.steps ≡ items
  pub delivers : delivered_by run ≡ files
