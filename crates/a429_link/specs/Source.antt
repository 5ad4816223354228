-- The source of a file transfer (ARINC 429 Part 3; how files and link data units are numbered: profile).
use Rattle.std.specs.Prelude.{ℕ, suc, ◌+◌, ◌%◌, Bool, false, ◌==◌, if◌then◌else◌, List, [], ◌∷◌, Option, Some, None, slice_get}
use Rattle.a429_word.specs.declared.bus.Bus.TheVariants as bus
use Rattle.a429_profile.specs.declared.codes.Codes.{Codes}
use Rattle.a429_profile.specs.Profile.{Contents}
use Rattle.a429_ldu.specs.declared.forms.Form.{Form}
use Rattle.a429_ldu.specs.declared.forms.Form.TheVariants.{Rts, Cts, Ack, Nak}
use Rattle.a429_ldu.specs.Form.{form_of, word_number}
use Rattle.a429_ldu.specs.Ldu.{LduValue, count_of, block_of}
use Rattle.a429_link.specs.declared.number.UnitNumber.{UnitNumber}
use Rattle.a429_link.specs.Number.{first_number, is_number, number_after}
use Rattle.a429_link.specs.declared.state.SourceState.{SourceState}
use Rattle.a429_link.specs.declared.state.SourceState.TheVariants.{Idle, Awaiting, Sending, Waiting}

pub record Source : Type 0 where
  -- the number of the link data unit that is current or next
  pub number : UnitNumber
  -- the link data unit that is to cross, if one is loaded
  pub current : Option LduValue
  pub phase : SourceState
  -- the files given up since its last acknowledgement
  pub give_ups : ℕ

-- ---- sending

-- the next word of a source in this phase: its request, or word k of the block
abbrev pub next_word : Codes → UnitNumber → Option LduValue → SourceState → Option ℕ
next_word c n (Some u) Idle = Some (word_number c (Rts (count_of u)))
next_word c n (Some u) (Sending k) = slice_get (block_of c u n.file n.ldu) k
next_word c n _ _ = None

-- its phase after that word: it waits after the request, and after the last word of the block
abbrev pub after_word : Option LduValue → SourceState → SourceState
after_word (Some u) Idle = Awaiting
after_word (Some u) (Sending k) = if suc k == count_of u then Waiting else Sending (suc k)
after_word _ phase = phase

-- the next word of the source, if it sends one now
abbrev pub next_word_of : Contents → Source → Option ℕ
next_word_of p s = next_word p.codes s.number s.current s.phase

-- the source with its next word sent
abbrev pub with_word_sent : Source → Source
with_word_sent s = record s { phase = after_word s.current s.phase }

-- ---- taking answers

-- the source once its link data unit is acknowledged, at the number that comes next
abbrev pub acknowledged : Codes → LduValue → Source → Source
acknowledged c u s = record { number = number_after c s.number u; current = None; phase = Idle; give_ups = 0 }

-- the form is the acknowledgement of the current link data unit, and the source waits for it
abbrev pub is_own_ack : UnitNumber → SourceState → Form → Bool
is_own_ack n Waiting (Ack file ldu) = is_number (record { file = file; ldu = ldu }) n
is_own_ack n _ _ = false

-- the source after an answer of this form: the clear answer to its request lets it send; the
-- acknowledgement ends the link data unit; a negative answer lets it ask again; no other answer counts
abbrev pub with_answer : Codes → Option LduValue → SourceState → Form → Source → Source
with_answer c (Some u) Awaiting (Cts n) s = if n == count_of u then record s { phase = Sending 0 } else s
with_answer c (Some u) Waiting (Ack f l) s = if is_own_ack s.number Waiting (Ack f l) then acknowledged c u s else s
with_answer c (Some u) Waiting (Nak bits) s = record s { phase = Idle }
with_answer c _ _ _ s = s

abbrev pub with_answer_form : Codes → Option Form → Source → Source
with_answer_form c None s = s
with_answer_form c (Some x) s = with_answer c s.current s.phase x s

-- the source after the first of these answers, which are words of bus B
abbrev pub with_answer_first : Codes → List ℕ → Source → Source
with_answer_first c [] s = s
with_answer_first c (w ∷ ws) s = with_answer_form c (form_of c bus.B w) s

-- ---- giving a file up

-- the source with its file given up, and with it the link data unit that was current: it is at the first of the next file
abbrev pub given_up : Codes → Source → Source
given_up c s = record s { number = first_number c ((s.number.file + 1) % 256); current = None; give_ups = suc s.give_ups }

-- ---- where it is

abbrev pub IsIdle : SourceState → Type 0
IsIdle Idle = Unit {0}
IsIdle _ = ⊥

-- it waits for an answer
abbrev pub Waits : SourceState → Type 0
Waits Awaiting = Unit {0}
Waits Waiting = Unit {0}
Waits _ = ⊥
