-- The profile of a text, or what is wrong with it (profile).
use Rattle.std.specs.Prelude.{◌≡◌, ◌≤◌, ℕ, List, [], ◌∷◌, ◌++◌, map, length, All, Bool, ◌==◌, ◌&&◌, Option, Some, None, Result, Ok, Err}
use Rattle.toml.specs.Data.{Members}
use Rattle.a429_profile.specs.declared.codes.Codes.{Codes}
use Rattle.a429_profile.specs.declared.codes.Check.{Check}
use Rattle.a429_profile.specs.declared.entry.LabelEntry.{LabelEntry}
use Rattle.a429_profile.specs.declared.key.SectionKey.{SectionKey}
use Rattle.a429_profile.specs.declared.fault.ProfileFault.{ProfileFault}
use Rattle.a429_profile.specs.declared.fault.ProfileFault.TheVariants.{NotToml}
use Rattle.a429_profile.specs.Fault.{first_or}
use Rattle.a429_profile.specs.Key.{first_section_fault, transfer_keys, type_keys, code_keys, partial_keys, check_keys}
use Rattle.a429_profile.specs.Codes.{codes_of, check_rule}
use Rattle.a429_profile.specs.Labels.{labels_fault, labels_of}
use Rattle.a429_profile.specs.Clash.{AreApartAfter, first_clash, sdis_meet, entries_meet}
use Rattle.a429_profile.specs.Entry.{IsEntryInRange}

pub record Contents : Type 0 where
  pub codes : Codes
  pub check : Check
  pub labels : List LabelEntry

-- the profile of a document without a fault
abbrev pub contents_of : Members → Contents
contents_of doc = record { codes = codes_of doc; check = check_rule doc; labels = labels_of doc }

-- the keys of the sections, in their order
abbrev pub section_keys : List SectionKey
section_keys = transfer_keys ++ type_keys ++ code_keys ++ partial_keys ++ check_keys

-- the first fault: of the sections' keys, then of the label table, then the first clash
abbrev pub fault_of : Members → Option ProfileFault
fault_of doc = first_or (first_section_fault doc section_keys) (first_or (labels_fault doc) (first_clash (codes_of doc) (labels_of doc)))

-- the result for a text that is this document, or is none
abbrev pub Answers : Option Members → Result Contents ProfileFault → Type 0
Answers None r = r ≡ Err NotToml
Answers (Some doc) (Ok contents) = (fault_of doc ≡ None) × (contents ≡ contents_of doc)
Answers (Some doc) (Err f) = fault_of doc ≡ Some f

-- it is the profile of some document without a fault
abbrev pub IsProfile : Contents → Type 0
IsProfile contents = (doc : Members) × (fault_of doc ≡ None) × (contents ≡ contents_of doc)

-- ---- entries by label and SDI

-- an entry is for the words of this label and SDI
abbrev pub is_for : ℕ → ℕ → LabelEntry → Bool
is_for label sdi e = (label == e.label) && sdis_meet (Some sdi) e.sdi

-- ---- the ranges of its numbers and texts

pub record AreInRange (p : Contents) : Type 0 where
  pub to_sink : p.codes.to_sink ≤ 255
  pub to_source : p.codes.to_source ≤ 255
  pub destination : p.codes.destination ≤ 255
  pub first_ldu : p.codes.first_ldu ≤ 1
  pub final_low : 25 ≤ p.codes.final_bit
  pub final_high : p.codes.final_bit ≤ 28
  pub full : p.codes.full ≤ 7
  pub partial : p.codes.partial ≤ 7
  pub protocol : p.codes.protocol ≤ 7
  pub sot : p.codes.sot ≤ 7
  pub eot : p.codes.eot ≤ 7
  pub ignored_types : All (λ n. n ≤ 7) p.codes.ignored_types
  pub rts : p.codes.rts ≤ 15
  pub cts : p.codes.cts ≤ 15
  pub ack : p.codes.ack ≤ 15
  pub nak : p.codes.nak ≤ 15
  pub ignored_codes : All (λ n. n ≤ 15) p.codes.ignored_codes
  pub partial_count : length p.codes.partial_codes ≡ 4
  pub partial_codes : All (λ n. n ≤ 15) p.codes.partial_codes
  pub poly : p.check.poly ≤ 65535
  pub init : p.check.init ≤ 65535
  pub xor : p.check.xor ≤ 65535
  pub labels : All IsEntryInRange p.labels

-- ---- the label table as it is kept: each entry at its label and SDI

abbrev pub Kept : Type 0
Kept = (ℕ × Option ℕ) × LabelEntry

abbrev pub entries_of : List Kept → List LabelEntry
entries_of es = map (λ e. e.1) es

abbrev pub AreKeyed : List Kept → Type 0
AreKeyed [] = Unit {0}
AreKeyed (e ∷ es) = (e.0 ≡ (e.1.label, e.1.sdi)) × AreKeyed es

-- no entry meets one of those before it
abbrev pub ApartAfter : List LabelEntry → List LabelEntry → Type 0
ApartAfter earlier es = AreApartAfter entries_meet earlier es
