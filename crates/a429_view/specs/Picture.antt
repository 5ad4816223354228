-- The text of a picture: SVG, with the source at the left and the sink at the right (profile).
use Rattle.std.specs.Prelude.{◌+◌, ◌*◌, ℕ, List, [], ◌∷◌, ◌++◌, length, codes, Option, Some, None}
use Rattle.std.specs.Fmt.{decimal}
use Rattle.a429_word.specs.declared.bus.Bus.{Bus}
use Rattle.a429_word.specs.declared.bus.Bus.TheVariants as bus
use Rattle.a429_profile.specs.declared.codes.Codes.{Codes}
use Rattle.a429_link.specs.declared.number.UnitNumber.{UnitNumber}
use Rattle.a429_cert.specs.declared.act.Act.{Act}
use Rattle.a429_cert.specs.declared.act.Act.TheVariants as act
use Rattle.a429_cert.specs.Report.{Report}
use Rattle.a429_view.specs.declared.mark.Span.{Span}
use Rattle.a429_view.specs.declared.mark.Recorded.{Recorded}
use Rattle.a429_view.specs.declared.mark.Mark.{Mark}
use Rattle.a429_view.specs.declared.mark.Mark.TheVariants as mark
use Rattle.a429_view.specs.Forms.{what_text}
use Rattle.a429_view.specs.Mark.{before_all, marks}

-- ---- a row

-- at the left the number of the entry and its time
abbrev pub stamp_text : ℕ → ℕ → List ℕ
stamp_text number time =
    codes "<text class='end' x='66' y='5'>" ++ decimal number
    ++ codes "</text><text class='end' x='240' y='5'>" ++ decimal time ++ codes "</text>"

-- what is drawn of a recorded word, up to its text: an arrow from the source to the sink; one from the sink to the
-- source; of a word that is none of the transfer's a tick where its bus begins
abbrev pub arrow_text : Act → Bus → List ℕ
arrow_text act.Sent b = codes "<path marker-end='url(#head)' d='M300 0H619'/><text class='mid' x='460' y='-6'>"
arrow_text act.Answered b = codes "<path marker-end='url(#head)' d='M620 0H301'/><text class='mid' x='460' y='-6'>"
arrow_text a bus.A = codes "<path class='pale' d='M300 0h14'/><text class='pale' x='322' y='5'>"
arrow_text a bus.B = codes "<path class='pale' d='M620 0h-14'/><text class='pale end' x='598' y='5'>"

-- the file that crosses, beside the sink
abbrev pub crosses_text : Option ℕ → List ℕ
crosses_text None = []
crosses_text (Some file) = codes "<text x='632' y='5'>file " ++ decimal file ++ codes " crosses</text>"

-- an arrow or a tick, with what the word is to the transfer, as `a429 forms` writes it
abbrev pub word_text : Codes → Recorded → List ℕ
word_text c r = arrow_text r.act r.entry.bus ++ what_text c r.entry.bus r.entry.word ++ codes "</text>"

abbrev pub seen_text : Codes → Recorded → List ℕ
seen_text c r = stamp_text r.number r.entry.time ++ word_text c r ++ crosses_text r.crosses

-- a step that records nothing: a broken line that ends in a cross where a word or an answer is lost, else a note
-- at the line of the source or of the sink; no other step has a row
abbrev pub unseen_text : Act → List ℕ
unseen_text act.SentLost = codes "<path class='lost dash' d='M300 0H560'/><path class='lost' d='M554-6l12 12m0-12l-12 12'/><text class='mid note' x='430' y='-6'>word lost</text>"
unseen_text act.LoseAnswer = codes "<path class='lost dash' d='M620 0H360'/><path class='lost' d='M354-6l12 12m0-12l-12 12'/><text class='mid note' x='490' y='-6'>answer lost</text>"
unseen_text act.TimeOut = codes "<path class='lost' d='M294 0h12'/><text class='note' x='312' y='5'>time-out</text>"
unseen_text act.Silent = codes "<path class='lost' d='M614 0h12'/><text class='note end' x='608' y='5'>answer left out</text>"
unseen_text act.GiveUp = codes "<path class='lost' d='M294 0h12'/><text class='note' x='312' y='5'>file given up</text>"
unseen_text _ = []

-- a link data unit is loaded at the source
abbrev pub load_text : UnitNumber → List ℕ
load_text n = codes "<path d='M294 0h12'/><text x='312' y='5'>loads file " ++ decimal n.file ++ codes " unit " ++ decimal n.ldu ++ codes "</text>"

abbrev pub mark_text : Codes → Mark → List ℕ
mark_text c (mark.Load n) = load_text n
mark_text c (mark.Unseen a) = unseen_text a
mark_text c (mark.Seen r) = seen_text c r

-- a row at this height, counted from the top
abbrev pub row_text : Codes → ℕ → Mark → List ℕ
row_text c y m = codes "<g transform='translate(0," ++ decimal y ++ codes ")'>" ++ mark_text c m ++ codes "</g>\n"

-- rows, 30 apart, from the one with this number on
abbrev pub rows_text : Codes → ℕ → List Mark → List ℕ
rows_text c i [] = []
rows_text c i (m ∷ more) = row_text c (30 * i + 70) m ++ rows_text c (i + 1) more

-- ---- what is around the rows

-- colours and pens, in light and dark
abbrev pub style_text : List ℕ
style_text =
    codes "<style>\ntext{font:13px monospace;fill:#1a1a1a}path{fill:none;stroke:#1a1a1a;stroke-width:1.5}.head{fill:#1a1a1a;stroke:none}.page{fill:#fff}\n"
    ++ codes ".end{text-anchor:end}.mid{text-anchor:middle}.dash{stroke-dasharray:7 5}\n"
    ++ codes "text.pale{fill:#717171}path.pale{stroke:#717171}.note{fill:#b3261e}.lost{stroke:#b3261e}\n"
    ++ codes "@media(prefers-color-scheme:dark){text{fill:#ececec}path{stroke:#ececec}.head{fill:#ececec}.page{fill:#161616}\n"
    ++ codes "text.pale{fill:#9a9a9a}path.pale{stroke:#9a9a9a}.note{fill:#ff8a80}.lost{stroke:#ff8a80}}\n</style>\n"

-- what is as high as the picture: the page, and the lines of source and sink
abbrev pub frame_text : ℕ → List ℕ
frame_text height =
    codes "<rect class='page' width='880' height='" ++ decimal height ++ codes "'/>\n<path class='pale' d='M300 40V" ++ decimal height
    ++ codes "M620 40V" ++ decimal height ++ codes "'/>\n"

-- the point of an arrow, and what is above the lines and at the left
abbrev pub names_text : List ℕ
names_text =
    codes "<marker id='head' viewBox='0 0 8 8' refX='8' refY='4' markerWidth='8' markerHeight='8' orient='auto'><path class='head' d='M0 0 8 4 0 8z'/></marker>\n"
    ++ codes "<text class='pale end' x='66' y='28'>entry</text><text class='pale end' x='240' y='28'>time in &#181;s</text>\n"
    ++ codes "<text class='mid' x='300' y='28'>source</text><text class='mid' x='620' y='28'>sink</text>\n"

abbrev pub size_text : ℕ → List ℕ
size_text height =
    codes "<svg xmlns='http://www.w3.org/2000/svg' width='880' height='" ++ decimal height ++ codes "' viewBox='0 0 880 " ++ decimal height
    ++ codes "'>\n<title>Messages between source and sink</title>\n"

abbrev pub head_text : ℕ → List ℕ
head_text height = size_text height ++ style_text ++ frame_text height ++ names_text

-- ---- the picture

-- a picture of these rows, in SVG
abbrev pub svg_text : Codes → List Mark → List ℕ
svg_text c rows = head_text (30 * length rows + 90) ++ rows_text c 0 rows ++ codes "</svg>\n"

-- of the steps of a span
abbrev pub picture_text : Codes → Span → List Report → List ℕ
picture_text c span reports = svg_text c (marks c span before_all reports)
