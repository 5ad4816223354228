-- What a run without loss records, and the steps that record it (profile: each link data unit is asked for, cleared, sent
-- and acknowledged once).
use Rattle.std.specs.Prelude.{◌≡◌, ℕ, ◌+◌, ◌*◌, ◌%◌, ◌≤◌, ◌==◌, nat_lt, if◌then◌else◌, Option, Some, None, List, [], ◌∷◌, ◌++◌, map, length}
use Rattle.a429_profile.specs.declared.codes.Codes.{Codes}
use Rattle.a429_profile.specs.Profile.{Contents, IsProfile}
use Rattle.a429_ldu.specs.declared.forms.Form.TheVariants.{Rts, Cts, Ack}
use Rattle.a429_ldu.specs.Form.{word_number, is_free}
use Rattle.a429_ldu.specs.declared.fault.CutFault.{CutFault}
use Rattle.a429_ldu.specs.declared.fault.CutFault.TheVariants as cut
use Rattle.a429_ldu.specs.Cut.{most_units, room, units_of}
use Rattle.a429_ldu.specs.Ldu.{LduValue, IsLdu, count_of, block_of, bytes_of, is_final}
use Rattle.a429_link.specs.declared.fault.CleanFault.{CleanFault}
use Rattle.a429_link.specs.declared.fault.CleanFault.TheVariants.{Cut}
use Rattle.a429_link.specs.declared.file.FileBytes.{FileBytes}
use Rattle.a429_link.specs.declared.number.UnitNumber.{UnitNumber}
use Rattle.a429_link.specs.Number.{first_number, number_after}
use Rattle.a429_link.specs.declared.seen.Seen.{Seen}
use Rattle.a429_link.specs.declared.step.Step.{Step}
use Rattle.a429_link.specs.declared.step.Step.TheVariants.{Load, Sent, TakeAnswer, SinkTakes, Answered, FreeSeen}
use Rattle.a429_link.specs.Carry.{on_a, on_b, sends_word}
use Rattle.a429_link.specs.Sink.{Received, put, nothing_received}
use Rattle.a429_link.specs.State.{start}
use Rattle.a429_link.specs.Run.{IsRun, trace, delivered, offered, settled}

-- ---- the words

-- the recorded words of a link data unit: the request, the clear answer, its block, the acknowledgement
abbrev pub clean_block : Codes → UnitNumber → LduValue → List Seen
clean_block c n u = on_a (word_number c (Rts (count_of u))) ∷ (on_b (word_number c (Cts (count_of u))) ∷ (map on_a (block_of c u n.file n.ldu) ++ on_b (word_number c (Ack n.file n.ldu)) ∷ []))

-- those of link data units, the first of them under this number
abbrev pub clean_blocks : Codes → UnitNumber → List LduValue → List Seen
clean_blocks c n [] = []
clean_blocks c n (u ∷ us) = clean_block c n u ++ clean_blocks c (number_after c n u) us

-- those of a file's link data units, the file under this number
abbrev pub clean_file : Codes → ℕ → List LduValue → List Seen
clean_file c file us = clean_blocks c (first_number c file) us

-- each is one of the profile, and may be loaded under its number
abbrev pub AllFit : Contents → UnitNumber → List LduValue → Type 0
AllFit p n [] = Unit {0}
AllFit p n (u ∷ us) = IsLdu p u × (n.ldu ≤ p.codes.first_ldu + 254) × AllFit p (number_after p.codes n u) us

-- what is received with these link data units after it
abbrev pub shelved : Codes → UnitNumber → List LduValue → Received → Received
shelved c n [] o = o
shelved c n (u ∷ us) o = shelved c (number_after c n u) us (put n.file (bytes_of c u) (is_final c u.flags) o)

-- the words that are not free
abbrev pub without_free : Codes → List Seen → List Seen
without_free c [] = []
without_free c (i ∷ items) = if is_free c i.bus i.word then without_free c items else i ∷ without_free c items

-- ---- the steps, in a group for each word

abbrev pub requests : Codes → LduValue → List Step
requests c u = Load u ∷ (Sent (on_a (word_number c (Rts (count_of u)))) ∷ (SinkTakes ∷ []))

abbrev pub replies : ℕ → List Step
replies w = Answered (on_b w) ∷ (TakeAnswer ∷ [])

abbrev pub block_steps : Codes → UnitNumber → LduValue → List (List Step)
block_steps c n u = requests c u ∷ (replies (word_number c (Cts (count_of u))) ∷ (map sends_word (block_of c u n.file n.ldu) ++ replies (word_number c (Ack n.file n.ldu)) ∷ []))

abbrev pub clean_steps : Codes → UnitNumber → List LduValue → List (List Step)
clean_steps c n [] = []
clean_steps c n (u ∷ us) = block_steps c n u ++ clean_steps c (number_after c n u) us

abbrev pub first_of : List (List Step) → List Step
first_of [] = []
first_of (g ∷ gs) = g

abbrev pub rest_of : List (List Step) → List (List Step)
rest_of [] = []
rest_of (g ∷ gs) = gs

-- the steps of a recording: those of its words in order, and of the free words between them
abbrev pub weave : Codes → List Seen → List (List Step) → List Step
weave c [] gs = []
weave c (i ∷ items) gs = if is_free c i.bus i.word then FreeSeen i ∷ weave c items gs else first_of gs ++ weave c items (rest_of gs)

-- the steps are a run from the start that records these words; the files that it offers, delivers and settles are these
pub record IsRunOf (p : Contents) (file : ℕ) (steps : List Step) (items : List Seen) (received : Received) : Type 0 where
  pub run : IsRun p steps (start p file)
  pub records : trace steps ≡ items
  pub gives : delivered p file steps ≡ received.files
  pub offers : offered p file steps ≡ received.files
  pub settles : settled p file steps ≡ received.files

-- the steps of this recording, free words among them, are a run from the start; it offers, delivers and settles the files of these
-- link data units
abbrev pub CarriesUnits : Contents → ℕ → List LduValue → List Seen → Type 0
CarriesUnits p first units items = IsRunOf p first (weave p.codes items (clean_steps p.codes (first_number p.codes first) units)) items (shelved p.codes (first_number p.codes first) units nothing_received)

-- a recording in which, free words left out, link data units cross without loss, the first of them under this file's number
pub record CleanRecording (p : Contents) : Type 0 where
  pub sound : IsProfile p
  pub first : ℕ
  pub byte : first ≤ 255
  pub units : List LduValue
  pub fit : AllFit p (first_number p.codes first) units
  pub items : List Seen
  pub words : without_free p.codes items ≡ clean_blocks p.codes (first_number p.codes first) units

-- ---- files (profile: they are numbered upwards, 255 is followed by 0)

-- the link data units of files, in order
abbrev pub units_of_files : Contents → ℕ → List (List ℕ) → List LduValue
units_of_files p max_words [] = []
units_of_files p max_words (bytes ∷ files) = units_of p max_words bytes ++ units_of_files p max_words files

-- what a run without loss records that carries these files, the first under this number
abbrev pub clean_words : Contents → ℕ → ℕ → List (List ℕ) → List Seen
clean_words p max_words first files = clean_file p.codes first (units_of_files p max_words files)

abbrev pub all_steps : List (List Step) → List Step
all_steps [] = []
all_steps (g ∷ gs) = g ++ all_steps gs

-- its steps
abbrev pub clean_run_steps : Contents → ℕ → ℕ → List (List ℕ) → List Step
clean_run_steps p max_words first files = all_steps (clean_steps p.codes (first_number p.codes first) (units_of_files p max_words files))

-- the files under their numbers
abbrev pub numbered : ℕ → List (List ℕ) → List FileBytes
numbered first [] = []
numbered first (bytes ∷ files) = record { number = first; bytes = bytes } ∷ numbered ((first + 1) % 256) files

-- its steps are a run that records its words; it offers, delivers and settles these files
abbrev pub CarriesFiles : Contents → ℕ → ℕ → List (List ℕ) → Type 0
CarriesFiles p max_words first files =
    IsRunOf p first (clean_run_steps p max_words first files) (clean_words p max_words first files) (record { files = numbered first files; open_bytes = [] })

-- why a file is refused, if it is: it has no bytes, or needs more than 255 link data units
abbrev pub cut_fault : ℕ → List ℕ → Option CutFault
cut_fault max_words bytes =
    if length bytes == 0 then Some cut.Empty
    else (if nat_lt (most_units * room max_words) (length bytes) then Some cut.TooLong
    else None)

abbrev pub refused_or : ℕ → Option CutFault → Option CleanFault → Option CleanFault
refused_or k (Some fault) later = Some (Cut k fault)
refused_or k None later = later

-- the first file that is refused, places counted from k
abbrev pub first_refused : ℕ → ℕ → List (List ℕ) → Option CleanFault
first_refused max_words k [] = None
first_refused max_words k (bytes ∷ files) = refused_or k (cut_fault max_words bytes) (first_refused max_words (k + 1) files)
