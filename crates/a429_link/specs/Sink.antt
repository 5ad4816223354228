-- The sink of a file transfer (ARINC 429 Part 3; which blocks are in sequence: profile).
use Rattle.std.specs.Prelude.{ℕ, ◌≡◌, ◌<◌, ◌+◌, Bool, true, false, ◌==◌, ◌&&◌, ◌||◌, not, if◌then◌else◌, List, [], ◌∷◌, ◌++◌, length, Option, Some, None, is_some}
use Rattle.a429_word.specs.declared.bus.Bus.TheVariants as bus
use Rattle.a429_profile.specs.declared.codes.Codes.{Codes}
use Rattle.a429_profile.specs.Profile.{Contents}
use Rattle.a429_ldu.specs.declared.forms.Form.{Form}
use Rattle.a429_ldu.specs.declared.forms.Form.TheVariants.{Rts, Cts, Ack, Nak, Sot, Part, Eot}
use Rattle.a429_ldu.specs.Form.{form_of}
use Rattle.a429_ldu.specs.Carried.{bytes_carried, bytes_in}
use Rattle.a429_ldu.specs.CheckWord.{agrees}
use Rattle.a429_ldu.specs.Ldu.{is_final}
use Rattle.a429_link.specs.declared.file.FileBytes.{FileBytes}
use Rattle.a429_link.specs.declared.number.UnitNumber.{UnitNumber}
use Rattle.a429_link.specs.Number.{begins_file, goes_on, is_number}
use Rattle.a429_link.specs.declared.sink.Latest.{Latest}
use Rattle.a429_link.specs.declared.sink.StartWord.{StartWord}
use Rattle.a429_link.specs.declared.sink.Phase.{Phase}
use Rattle.a429_link.specs.declared.sink.Phase.TheVariants as phase

-- the words taken since a start word: its numbers, and the data words
pub record Block : Type 0 where
  pub gfi : ℕ
  pub file : ℕ
  pub ldu : ℕ
  pub words : List ℕ

abbrev pub empty_block : ℕ → ℕ → ℕ → Block
empty_block gfi file ldu = record { gfi = gfi; file = file; ldu = ldu; words = [] }

-- the number in its start word
abbrev pub number_of : Block → UnitNumber
number_of b = record { file = b.file; ldu = b.ldu }

pub data SinkPhase : Type 0 where
  Quiet : SinkPhase
  -- a request was taken
  OwesClear : SinkPhase
  -- the clear answer was sent
  Granted : SinkPhase
  InBlock : (block : Block) → SinkPhase
  -- the block is good; these are the flags of its end word
  OwesAck : (block : Block) (flags : ℕ) → SinkPhase
  -- it is not, or there is none; its words are not looked at again
  OwesNak : SinkPhase

-- the number of a link data unit, and whether it is its file's last
pub record Number : Type 0 where
  pub number : UnitNumber
  pub final : Bool

-- the files that are delivered, and the bytes of one that is not whole
pub record Received : Type 0 where
  pub files : List FileBytes
  pub open_bytes : List ℕ

abbrev pub nothing_received : Received
nothing_received = record { files = []; open_bytes = [] }

pub record Sink : Type 0 where
  -- the link data unit accepted last
  pub last : Option Number
  pub received : Received
  -- the count of the last request taken
  pub count : ℕ
  pub phase : SinkPhase

-- the sink, and the words on their way to it, in order
pub record SinkSide : Type 0 where
  pub sink : Sink
  pub to_sink : List ℕ

-- ---- which blocks are good

-- the number is that of the link data unit accepted last: it comes again
abbrev pub is_same : Option Number → UnitNumber → Bool
is_same None n = false
is_same (Some last) n = is_number last.number n

-- the number is that of the first of a file that is 1 to 128 past, or the next one of a file that is not whole; at first
-- it is that of some file's first
abbrev pub in_sequence : Codes → Option Number → UnitNumber → Bool
in_sequence c None n = n.ldu == c.first_ldu
in_sequence c (Some last) n = begins_file c last.number n || (not last.final && goes_on c last.number n)

-- a block of this number comes again, or in sequence
abbrev pub may_come : Codes → Option Number → UnitNumber → Bool
may_come c last n = is_same last n || in_sequence c last n

-- the block has as many words as were asked for, carries bytes, ends by their check word, and comes again or in sequence
abbrev pub is_good : Contents → Option Number → ℕ → Block → ℕ → Bool
is_good p last count b check =
    (length b.words + 2 == count)
    && (is_some (bytes_carried p.codes b.words)
    && (agrees p.check (bytes_in p.codes b.words) check
    && may_come p.codes last (number_of b)))

-- ---- taking words

-- a start word begins a block where the sink is granted, or in a block; a data word joins a block;
-- an end word ends a block, or the grant without one
abbrev pub at_start : Block → SinkPhase → SinkPhase
at_start b Granted = InBlock b
at_start b (InBlock old) = InBlock b
at_start b phase = phase

abbrev pub at_part : ℕ → SinkPhase → SinkPhase
at_part word (InBlock b) = InBlock (record b { words = b.words ++ word ∷ [] })
at_part word phase = phase

-- what an end word says: its flags and its check word
pub record EndWord : Type 0 where
  pub flags : ℕ
  pub check : ℕ

abbrev pub end_word : ℕ → ℕ → EndWord
end_word flags check = record { flags = flags; check = check }

abbrev pub at_end : Contents → Option Number → ℕ → EndWord → SinkPhase → SinkPhase
at_end p last count e Granted = OwesNak
at_end p last count e (InBlock b) = if is_good p last count b e.check then OwesAck b e.flags else OwesNak
at_end p last count e phase = phase

-- the sink in this phase, with all else as it was
abbrev pub in_phase : SinkPhase → Sink → Sink
in_phase phase k = record k { phase = phase }

-- the sink after a request, which is taken in each phase, and ends a block
abbrev pub takes_request : ℕ → Sink → Sink
takes_request count k = record k { count = count; phase = OwesClear }

-- the sink after the start word of this block, after this data word, and after an end word
abbrev pub takes_start : Block → Sink → Sink
takes_start b k = in_phase (at_start b k.phase) k

abbrev pub takes_part : ℕ → Sink → Sink
takes_part word k = in_phase (at_part word k.phase) k

abbrev pub takes_end : Contents → ℕ → ℕ → Sink → Sink
takes_end p flags check k = in_phase (at_end p k.last k.count (end_word flags check) k.phase) k

-- the sink after a word of this form
abbrev pub takes : Contents → ℕ → Form → Sink → Sink
takes p word (Rts n) k = takes_request n k
takes p word (Sot gfi file ldu) k = takes_start (empty_block gfi file ldu) k
takes p word (Part semis) k = takes_part word k
takes p word (Eot flags check) k = takes_end p flags check k
takes p word _ k = k

abbrev pub takes_form : Contents → ℕ → Option Form → Sink → Sink
takes_form p word None k = k
takes_form p word (Some x) k = takes p word x k

-- the sink after a word of bus A
abbrev pub takes_word : Contents → ℕ → Sink → Sink
takes_word p word k = takes_form p word (form_of p.codes bus.A word) k

-- the sink after the first of these words
abbrev pub takes_first : Contents → List ℕ → Sink → Sink
takes_first p [] k = k
takes_first p (w ∷ ws) k = takes_word p w k

-- ---- answering

-- the bytes join those of the file; its last link data unit closes the file, and a new one begins empty
abbrev pub put : ℕ → List ℕ → Bool → Received → Received
put file bytes true received = record { files = received.files ++ record { number = file; bytes = received.open_bytes ++ bytes } ∷ []; open_bytes = [] }
put file bytes false received = record { files = received.files; open_bytes = received.open_bytes ++ bytes }

-- the link data unit accepted last was one of the file with this number
abbrev pub is_same_file : Option Number → ℕ → Bool
is_same_file None file = false
is_same_file (Some last) file = last.number.file == file

-- what is received, without the bytes of the file that is not whole
abbrev pub emptied : Received → Received
emptied received = record { files = received.files; open_bytes = [] }

-- what a link data unit of this file comes after: the bytes of another file, which is not whole, are dropped
abbrev pub received_for : Option Number → ℕ → Received → Received
received_for last file received = if is_same_file last file then received else emptied received

-- the sink that accepts a block with these flags; one that comes again changes nothing
abbrev pub accepts : Codes → Block → ℕ → Sink → Sink
accepts c b flags k =
    if is_same k.last (number_of b)
    then k
    else record k { last = Some (record { number = number_of b; final = is_final c flags }); received = put b.file (bytes_in c b.words) (is_final c flags) (received_for k.last b.file k.received) }

abbrev pub accepts_owed : Codes → SinkPhase → Sink → Sink
accepts_owed c (OwesAck b flags) k = accepts c b flags k
accepts_owed c phase k = k

-- the sink that accepts the block for which it owes an acknowledgement; where it owes none, it stays
abbrev pub accepts_block : Codes → Sink → Sink
accepts_block c k = accepts_owed c k.phase k

-- the sink after it has sent an answer of this form: an acknowledgement accepts its block
abbrev pub answers : Codes → Form → Sink → Sink
answers c (Cts n) k = in_phase Granted k
answers c (Ack file ldu) k = in_phase Quiet (accepts_block c k)
answers c (Nak bits) k = in_phase Quiet k
answers c _ k = k

abbrev pub answers_form : Codes → Option Form → Sink → Sink
answers_form c None k = k
answers_form c (Some x) k = answers c x k

-- the sink after it has sent this word of bus B
abbrev pub answers_word : Codes → ℕ → Sink → Sink
answers_word c word k = answers_form c (form_of c bus.B word) k

-- the sink that has received this
abbrev pub with_received : Received → Sink → Sink
with_received received k = record k { received = received }

-- what the first of these sinks becomes that is then the second, but keeps what it received
abbrev pub unfiled : Sink → Sink → Sink
unfiled old new = with_received old.received new

-- the sink with its delivered files handed out
abbrev pub without_files : Sink → Sink
without_files k = with_received (record (k.received) { files = [] }) k

-- a sink in this phase, whose last request had this count, may send an answer of this form: the clear
-- answer with that count; the acknowledgement with the block's numbers; a negative answer with any bits,
-- in place of an acknowledgement too
abbrev pub MayAnswer : ℕ → SinkPhase → Form → Type 0
MayAnswer count OwesClear (Cts n) = n ≡ count
MayAnswer count (OwesAck b flags) (Ack file ldu) = (file ≡ b.file) × (ldu ≡ b.ldu)
MayAnswer count (OwesAck b flags) (Nak bits) = Unit {0}
MayAnswer count OwesNak (Nak bits) = Unit {0}
MayAnswer count _ _ = ⊥

-- a word that is free or has no form is no answer
abbrev pub MayAnswerForm : ℕ → SinkPhase → Option Form → Type 0
MayAnswerForm count phase None = ⊥
MayAnswerForm count phase (Some x) = MayAnswer count phase x

-- the word is an acknowledgement
abbrev pub IsAck : Option Form → Type 0
IsAck (Some (Ack file ldu)) = Unit {0}
IsAck _ = ⊥

-- ---- where it is

-- it takes words
abbrev pub Listens : SinkPhase → Type 0
Listens Quiet = Unit {0}
Listens Granted = Unit {0}
Listens (InBlock b) = Unit {0}
Listens _ = ⊥

-- it owes an answer
abbrev pub Owes : SinkPhase → Type 0
Owes OwesClear = Unit {0}
Owes (OwesAck b flags) = Unit {0}
Owes OwesNak = Unit {0}
Owes _ = ⊥

-- how many words of its block it keeps
abbrev pub held_count : SinkPhase → ℕ
held_count (InBlock b) = length b.words + 1
held_count (OwesAck b flags) = length b.words + 2
held_count _ = 0

-- the data words that it keeps
abbrev pub kept_words : SinkPhase → List ℕ
kept_words (InBlock b) = b.words
kept_words (OwesAck b flags) = b.words
kept_words _ = []

-- the number of the block that it is in
abbrev pub number_in : SinkPhase → Option UnitNumber
number_in (InBlock b) = Some (number_of b)
number_in phase = None

-- the link data unit that it owes an acknowledgement for
abbrev pub owed_unit : Codes → SinkPhase → Option Number
owed_unit c (OwesAck b flags) = Some (record { number = number_of b; final = is_final c flags })
owed_unit c phase = None

-- the sink where this was accepted last, or nothing was
abbrev pub with_last : Option Number → Sink → Sink
with_last last k = record k { last = last }

-- ---- how the sink's fields are seen, and what they have room for

abbrev pub latest_number : Latest → Number
latest_number n = record { number = n.number; final = n.is_final }

-- the block that begins with this start word and has these data words
abbrev pub block_with : StartWord → List ℕ → Block
block_with s words = record { gfi = s.gfi; file = s.file; ldu = s.ldu; words = words }

abbrev pub phase_of : Phase → List ℕ → SinkPhase
phase_of phase.Quiet words = Quiet
phase_of phase.OwesClear words = OwesClear
phase_of phase.Granted words = Granted
phase_of (phase.InBlock start) words = InBlock (block_with start words)
phase_of (phase.OwesAck start flags) words = OwesAck (block_with start words) flags
phase_of phase.OwesNak words = OwesNak

-- among the words that it keeps and those on their way there is room for one more
abbrev pub HasRoom : SinkSide → Type 0
HasRoom k = length (kept_words k.sink.phase) + length k.to_sink < 255
