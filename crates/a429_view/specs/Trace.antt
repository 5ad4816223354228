-- What a recording implies of its sink, a line for each word of the transfer (profile).
use Rattle.std.specs.Prelude.{◌≡◌, ℕ, suc, ◌+◌, ◌-◌, ◌^◌, ◌==◌, min, bit_xor, if◌then◌else◌, List, [], ◌∷◌, ◌++◌, length, codes, Bool, Option, Some, None}
use Rattle.std.specs.Fmt.{decimal}
use Rattle.a429_word.specs.Word.{label_of}
use Rattle.a429_word.specs.Digits.{numeral}
use Rattle.a429_word.specs.declared.bus.Bus.{Bus}
use Rattle.a429_profile.specs.declared.codes.Codes.{Codes}
use Rattle.a429_profile.specs.Profile.{Contents}
use Rattle.a429_ldu.specs.declared.forms.Form.{Form}
use Rattle.a429_ldu.specs.declared.freedom.Freedom.{Freedom}
use Rattle.a429_ldu.specs.declared.freedom.Freedom.TheVariants.{BadParity}
use Rattle.a429_ldu.specs.Form.{address_of, form_of}
use Rattle.a429_ldu.specs.Freedom.{freedom_of}
use Rattle.a429_ldu.specs.Sight.{sight_of}
use Rattle.a429_link.specs.declared.why.Why.{Why}
use Rattle.a429_link.specs.declared.why.Why.TheVariants as why
use Rattle.a429_link.specs.declared.doing.Crossing.{Crossing}
use Rattle.a429_link.specs.declared.doing.Doing.{Doing}
use Rattle.a429_link.specs.declared.doing.Doing.TheVariants as doing
use Rattle.a429_link.specs.Observer.{Allows}
use Rattle.a429_link.specs.Trace.{files_of}
use Rattle.a429_link.specs.Allowed.{AckOf, AnyData, AnyEot, AnyNak, AnyRts, AnySot, CtsOf, Kind, kinds_allowed}
use Rattle.a429_link.specs.Implied.{Implied, crossings_of, does, implied, implied_at_first, implies, observer_of, sizes_of}
use Rattle.a429_record.specs.declared.entry.Entry.{Entry}
use Rattle.a429_record.specs.Writing.{entry_text}
use Rattle.a429_cert.specs.Explained.{items_of, seen_of}
use Rattle.a429_view.specs.declared.trace.Trace.{Trace}
use Rattle.a429_view.specs.declared.trace.TraceStop.{TraceStop}
use Rattle.a429_view.specs.declared.trace.TraceStop.TheVariants as stop
use Rattle.a429_view.specs.Forms.{form_text, freedom_text, form_or_other_text, ldu_text, other_text, what_text}

-- ---- what the sink does

-- a number of those that were asked for
abbrev pub words_text : ℕ → ℕ → List ℕ
words_text taken asked = decimal taken ++ codes " of " ++ decimal asked ++ codes " data words"

abbrev pub why_text : Why → List ℕ
why_text why.NoStart = codes "no start word"
why_text (why.OtherCount words asked) = words_text words asked
why_text (why.HalfBytes semis) = decimal semis ++ codes " semi-octets"
why_text (why.OtherCheck check) = codes "check word " ++ numeral 16 4 check
why_text why.OutOfSequence = codes "out of sequence"

abbrev pub crossing_text : Option Crossing → List ℕ
crossing_text None = []
crossing_text (Some f) = codes ", file " ++ decimal f.number ++ codes " crosses, " ++ decimal f.bytes ++ codes " bytes"

abbrev pub doing_text : Doing → List ℕ
doing_text doing.Quiet = codes "quiet"
doing_text (doing.OwesClear n) = codes "owes cts " ++ decimal n
doing_text (doing.Granted n) = codes "granted " ++ decimal n
doing_text (doing.InBlock file ldu taken asked) = codes "in block " ++ ldu_text file ldu ++ codes ", " ++ words_text taken asked
doing_text (doing.OwesAck file ldu) = codes "owes ack " ++ ldu_text file ldu
doing_text (doing.OwesNak reason) = codes "owes nak, " ++ why_text reason
doing_text (doing.Accepts file ldu crossing) = codes "quiet, accepts " ++ ldu_text file ldu ++ crossing_text crossing
doing_text (doing.Again file ldu) = codes "quiet, again " ++ ldu_text file ldu

-- ---- what is allowed

abbrev pub kind_text : Kind → List ℕ
kind_text AnyRts = codes "rts"
kind_text AnySot = codes "sot"
kind_text AnyData = codes "data"
kind_text AnyEot = codes "eot"
kind_text (CtsOf n) = codes "cts " ++ decimal n
kind_text (AckOf file ldu) = codes "ack " ++ ldu_text file ldu
kind_text AnyNak = codes "nak"

-- kinds, a comma between them
abbrev pub kinds_text : List Kind → List ℕ
kinds_text [] = []
kinds_text (k ∷ []) = kind_text k
kinds_text (k ∷ ks) = kind_text k ++ codes ", " ++ kinds_text ks

-- ---- a word

-- a word with bit 32 turned over
abbrev pub turned_over : ℕ → ℕ
turned_over w = bit_xor w (2 ^ 31)

abbrev pub else_form_text : Codes → Option Form → List ℕ
else_form_text c None = []
else_form_text c (Some x) = codes ", else " ++ form_text c x

-- what a word of even parity would be
abbrev pub else_text : Codes → Bus → ℕ → Freedom → List ℕ
else_text c b w BadParity = else_form_text c (form_of c b (turned_over w))
else_text c b w why = []

-- a free word, by the reason why it is free, with what it would be
abbrev pub free_text : Codes → Bus → ℕ → Option Freedom → List ℕ
free_text c b w None = []
free_text c b w (Some why) = freedom_text why ++ else_text c b w why

-- what comes after what a word is that is free, or has an allowed form: what it would be, or what the sink does then
abbrev pub after_text : Contents → Implied → Bus → ℕ → Option Freedom → Option Form → List ℕ
after_text p k b w (Some why) x = else_text p.codes b w why
after_text p k b w None (Some x) = codes " | " ++ doing_text (does p b w x k.sink)
after_text p k b w None None = []

-- ---- the lines

-- a word with the transfer's label of its bus has a line
abbrev pub has_line : Codes → Entry → Bool
has_line c e = label_of e.word == address_of c e.bus

-- how it begins: the entry's number, its time, bus and word
abbrev pub line_head : ℕ → Entry → List ℕ
line_head n e = decimal n ++ codes " " ++ entry_text 32 32 e

-- entry n, whose word is allowed after words that imply this
abbrev pub line_of : Contents → ℕ → Implied → Entry → List ℕ
line_of p n k e = if has_line p.codes e then line_head n e ++ what_text p.codes e.bus e.word ++ after_text p k e.bus e.word (freedom_of p.codes e.bus e.word) (form_of p.codes e.bus e.word) ++ codes "\n" else []

-- entries from number n on, each allowed after those before it
abbrev pub lines_of : Contents → ℕ → Implied → List Entry → List ℕ
lines_of p n k [] = []
lines_of p n k (e ∷ es) = line_of p n k e ++ lines_of p (suc n) (implies p (seen_of e) k) es

-- how the line of a word ends that is not free, has this form, or else is told by this text, and is not allowed after words that imply this
abbrev pub refused_text : Codes → Option Form → List ℕ → Implied → List ℕ
refused_text c x other k = form_or_other_text c x other ++ codes " | refused, allowed: " ++ kinds_text (kinds_allowed (observer_of k)) ++ codes "\n"

-- entry n, whose word is such
abbrev pub refused_line : Contents → ℕ → Implied → Entry → List ℕ
refused_line p n k e = line_head n e ++ refused_text p.codes (form_of p.codes e.bus e.word) (other_text p.codes e.bus e.word) k

-- ---- the trace of entries

-- what crosses by a word
abbrev pub crossings_by : Contents → Bus → ℕ → Option Form → Implied → List Crossing
crossings_by p b w None k = []
crossings_by p b w (Some x) k = crossings_of (does p b w x k.sink)

-- a trace after one more entry
pub record GoesOn (p : Contents) (e : Entry) (old new : Trace) : Type 0 where
  pub allowed : Allows p (observer_of old.sink) (seen_of e)
  pub entries : new.entries ≡ min (old.entries + 1) (2 ^ 64 - 1)
  pub sink : new.sink ≡ implies p (seen_of e) old.sink
  pub files : new.files.items ≡ old.files.items ++ crossings_by p e.bus e.word (form_of p.codes e.bus e.word) old.sink

-- the trace of these entries: how many they are, what they imply, and the files that they deliver
pub record IsTrace (p : Contents) (t : Trace) (es : List Entry) : Type 0 where
  pub entries : t.entries ≡ length es
  pub sink : t.sink ≡ implied p (items_of es) implied_at_first
  pub files : t.files.items ≡ sizes_of (files_of p (items_of es))

-- why a trace does not go on: the word is not allowed; out of memory
abbrev pub IsTraceStop : Contents → Implied → Entry → TraceStop → Type 0
IsTraceStop p k e (stop.Refused sight) = (sight ≡ sight_of p.codes e.bus e.word) × (Allows p (observer_of k) (seen_of e) → ⊥)
IsTraceStop p k e stop.OutOfMemory = Unit {0}

-- and the line that is written of it
abbrev pub stop_text : Contents → ℕ → Implied → Entry → TraceStop → List ℕ
stop_text p n k e (stop.Refused sight) = refused_line p n k e
stop_text p n k e stop.OutOfMemory = []
