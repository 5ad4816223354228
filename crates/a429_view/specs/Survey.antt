-- What a recording has, counted, and the lines that say it (profile).
use Rattle.std.specs.Prelude.{◌≡◌, ℕ, zero, suc, ◌%◌, ◌<◌, ◌==◌, not, List, [], ◌∷◌, ◌++◌, length, filter, flat_map, get_or, codes, Bool, true, false, Option, Some, None}
use Rattle.std.specs.Fmt.{decimal}
use Rattle.a429_word.specs.Word.{label_of, count_of_ones}
use Rattle.a429_word.specs.Digits.{octal_text}
use Rattle.a429_word.specs.Bus.{bus_text}
use Rattle.a429_word.specs.declared.bus.Bus.{Bus}
use Rattle.a429_word.specs.declared.bus.Bus.TheVariants as bus
use Rattle.a429_profile.specs.declared.codes.Codes.{Codes}
use Rattle.a429_ldu.specs.declared.forms.Form.{Form}
use Rattle.a429_ldu.specs.declared.forms.Form.TheVariants as form
use Rattle.a429_ldu.specs.declared.freedom.Freedom.{Freedom}
use Rattle.a429_ldu.specs.declared.freedom.Freedom.TheVariants as freedom
use Rattle.a429_ldu.specs.Across.{form_across}
use Rattle.a429_ldu.specs.Form.{form_of}
use Rattle.a429_ldu.specs.Freedom.{freedom_of}
use Rattle.a429_record.specs.declared.entry.Entry.{Entry}
use Rattle.a429_view.specs.declared.survey.kind.WordKind.{WordKind}
use Rattle.a429_view.specs.declared.survey.kind.WordKind.TheVariants as kind
use Rattle.a429_view.specs.declared.survey.counts.Hits.{Hits}
use Rattle.a429_view.specs.declared.survey.counts.LabelCount.{LabelCount}
use Rattle.a429_view.specs.declared.survey.counts.BusCount.{BusCount}
use Rattle.a429_view.specs.declared.survey.Survey.{Survey}

-- ---- kinds of words

-- by the reason why a word is free, else by its form; where it has none, by that in the other direction
abbrev pub kind_in : Option Freedom → Option Form → Option Form → WordKind
kind_in (Some freedom.BadParity) f other = kind.FreeParity
kind_in (Some freedom.OtherLabel) f other = kind.FreeLabel
kind_in (Some freedom.IgnoredType) f other = kind.FreeType
kind_in (Some freedom.IgnoredCode) f other = kind.FreeCode
kind_in None (Some (form.Rts n)) other = kind.Rts
kind_in None (Some (form.Cts n)) other = kind.Cts
kind_in None (Some (form.Ack file ldu)) other = kind.Ack
kind_in None (Some (form.Nak bits)) other = kind.Nak
kind_in None (Some (form.Sot gfi file ldu)) other = kind.Sot
kind_in None (Some (form.Part semis)) other = kind.Data
kind_in None (Some (form.Eot flags check)) other = kind.Eot
kind_in None None (Some x) = kind.Other
kind_in None None None = kind.NoForm

abbrev pub kind_of : Codes → Bus → ℕ → WordKind
kind_of c b w = kind_in (freedom_of c b w) (form_of c b w) (form_across c b w)

-- the kinds, in the order in which they are listed
abbrev pub kinds : List WordKind
kinds = kind.Rts ∷ kind.Cts ∷ kind.Ack ∷ kind.Nak ∷ kind.Sot ∷ kind.Data ∷ kind.Eot ∷ kind.Other ∷ kind.NoForm ∷ kind.FreeParity ∷ kind.FreeLabel ∷ kind.FreeType ∷ kind.FreeCode ∷ []

-- the place of a kind in this order
abbrev pub place : WordKind → ℕ
place kind.Rts = 0
place kind.Cts = 1
place kind.Ack = 2
place kind.Nak = 3
place kind.Sot = 4
place kind.Data = 5
place kind.Eot = 6
place kind.Other = 7
place kind.NoForm = 8
place kind.FreeParity = 9
place kind.FreeLabel = 10
place kind.FreeType = 11
place kind.FreeCode = 12

abbrev pub name : WordKind → List ℕ
name kind.Rts = codes "rts"
name kind.Cts = codes "cts"
name kind.Ack = codes "ack"
name kind.Nak = codes "nak"
name kind.Sot = codes "sot"
name kind.Data = codes "data"
name kind.Eot = codes "eot"
name kind.Other = codes "other"
name kind.NoForm = codes "no form"
name kind.FreeParity = codes "free parity"
name kind.FreeLabel = codes "free label"
name kind.FreeType = codes "free type"
name kind.FreeCode = codes "free code"

-- ---- some of the entries of a recording

-- an entry, with its number in the recording
pub record Numbered : Type 0 where
  pub number : ℕ
  pub entry : Entry

-- entries, numbered from n
abbrev pub numbered : ℕ → List Entry → List Numbered
numbered n [] = []
numbered n (e ∷ es) = record { number = n; entry = e } ∷ numbered (suc n) es

abbrev pub is_bus : Bus → Bus → Bool
is_bus bus.A bus.A = true
is_bus bus.B bus.B = true
is_bus _ _ = false

-- those of a bus
abbrev pub on_bus : Bus → List Numbered → List Numbered
on_bus b xs = filter (λ x. is_bus b x.entry.bus) xs

-- the place of the kind of an entry's word, and its label
abbrev pub place_of : Codes → Numbered → ℕ
place_of c x = place (kind_of c x.entry.bus x.entry.word)

abbrev pub label_in : Numbered → ℕ
label_in x = label_of x.entry.word

-- those whose word is of this kind, has this label, has even parity
abbrev pub of_kind : Codes → WordKind → List Numbered → List Numbered
of_kind c k xs = filter (λ x. place_of c x == place k) xs

abbrev pub with_label : ℕ → List Numbered → List Numbered
with_label label xs = filter (λ x. label_in x == label) xs

abbrev pub is_even : Numbered → Bool
is_even x = not (count_of_ones x.entry.word % 2 == 1)

abbrev pub with_even_parity : List Numbered → List Numbered
with_even_parity xs = filter is_even xs

-- ---- the lines

-- a bus and a number
abbrev pub entries_line : Bus → ℕ → List ℕ
entries_line b count = bus_text b ++ codes " " ++ decimal count ++ codes "\n"

-- the line of a kind that occurs in these entries, which are all those of that kind on their bus
abbrev pub kind_line : Bus → WordKind → List Numbered → List ℕ
kind_line b k [] = []
kind_line b k (x ∷ xs) = bus_text b ++ codes " " ++ name k ++ codes " " ++ decimal (length (x ∷ xs)) ++ codes " first " ++ decimal x.number ++ codes "\n"

-- the line of a label that occurs in these entries, which are all those with that label on their bus
abbrev pub label_line : Bus → ℕ → List Numbered → List ℕ
label_line b label [] = []
label_line b label (x ∷ xs) = bus_text b ++ codes " label " ++ octal_text label ++ codes " " ++ decimal (length (x ∷ xs)) ++ codes " even " ++ decimal (length (with_even_parity (x ∷ xs))) ++ codes "\n"

-- the lines of the labels below n, rising
unfoldable pub label_lines : Bus → ℕ → List Numbered → List ℕ
label_lines b zero xs = []
label_lines b (suc n) xs = label_lines b n xs ++ label_line b n (with_label n xs)

-- the lines of a bus, by its entries
abbrev pub bus_lines : Codes → Bus → List Numbered → List ℕ
bus_lines c b xs = entries_line b (length xs) ++ flat_map (λ k. kind_line b k (of_kind c k xs)) kinds ++ label_lines b 256 xs

-- the time of the last of entries, the first of which is at this time
abbrev pub last_time : ℕ → List Entry → ℕ
last_time time [] = time
last_time time (e ∷ es) = last_time e.time es

-- from when to when, where there are entries
abbrev pub times_line : List Entry → List ℕ
times_line [] = []
times_line (e ∷ es) = codes "from " ++ decimal e.time ++ codes " to " ++ decimal (last_time e.time es) ++ codes "\n"

-- all lines of the entries of a recording
abbrev pub survey_text : Codes → List Entry → List ℕ
survey_text c es =
    codes "entries " ++ decimal (length es) ++ codes "\n" ++ times_line es
    ++ bus_lines c bus.A (on_bus bus.A (numbered 0 es))
    ++ bus_lines c bus.B (on_bus bus.B (numbered 0 es))

-- ---- counts of these

-- how many entries there are, and the number of the first
abbrev pub IsHits : Hits → List Numbered → Type 0
IsHits h [] = h.count ≡ 0
IsHits h (x ∷ xs) = (h.count ≡ length (x ∷ xs)) × (h.first ≡ x.number)

abbrev pub no_hits : Hits
no_hits = record { count = 0; first = 0 }

-- how many there are, and how many of them have even parity
abbrev pub IsLabelCount : LabelCount → List Numbered → Type 0
IsLabelCount l xs = (l.count ≡ length xs) × (l.even ≡ length (with_even_parity xs))

abbrev pub no_label : LabelCount
no_label = record { count = 0; even = 0 }

-- the counts of a bus are those of its entries: of each kind, by its place, and of each label
pub record IsBusCount (c : Codes) (count : BusCount) (xs : List Numbered) : Type 0 where
  pub entries : count.entries ≡ length xs
  pub kind_count : length count.kinds ≡ 13
  pub kinds : (k : ℕ) → k < 13 → IsHits (get_or count.kinds k no_hits) (filter (λ x. place_of c x == k) xs)
  pub label_count : length count.labels ≡ 256
  pub labels : (label : ℕ) → label < 256 → IsLabelCount (get_or count.labels label no_label) (with_label label xs)

-- the first and the last time are those of the entries
abbrev pub AreTimes : Survey → List Entry → Type 0
AreTimes s [] = Unit {0}
AreTimes s (e ∷ es) = (s.first ≡ e.time) × (s.last ≡ last_time e.time es)

-- the counts of a survey are those of these entries
pub record IsSurvey (c : Codes) (s : Survey) (es : List Entry) : Type 0 where
  pub entries : s.entries ≡ length es
  pub times : AreTimes s es
  pub a : IsBusCount c s.a (on_bus bus.A (numbered 0 es))
  pub b : IsBusCount c s.b (on_bus bus.B (numbered 0 es))

-- ---- the lines of counts

-- the line of a kind that occurs so often, first in the entry with this number
abbrev pub kind_text : Bus → WordKind → ℕ → ℕ → List ℕ
kind_text b k zero first = []
kind_text b k (suc n) first = bus_text b ++ codes " " ++ name k ++ codes " " ++ decimal (suc n) ++ codes " first " ++ decimal first ++ codes "\n"

-- the line of a label that occurs so often, so often with even parity
abbrev pub label_text : Bus → ℕ → ℕ → ℕ → List ℕ
label_text b label zero even = []
label_text b label (suc n) even = bus_text b ++ codes " label " ++ octal_text label ++ codes " " ++ decimal (suc n) ++ codes " even " ++ decimal even ++ codes "\n"

-- that of a kind, and of a label, by the counts of a bus
abbrev pub counted_kind : Bus → List Hits → WordKind → List ℕ
counted_kind b hits k = let h = get_or hits (place k) no_hits in kind_text b k h.count h.first

abbrev pub counted_label : Bus → List LabelCount → ℕ → List ℕ
counted_label b counts label = let l = get_or counts label no_label in label_text b label l.count l.even

-- the lines of the labels below n, rising
unfoldable pub counted_labels : Bus → ℕ → List LabelCount → List ℕ
counted_labels b zero counts = []
counted_labels b (suc n) counts = counted_labels b n counts ++ counted_label b counts n

-- the lines of a bus
abbrev pub count_lines : Bus → BusCount → List ℕ
count_lines b c = entries_line b c.entries ++ flat_map (counted_kind b c.kinds) kinds ++ counted_labels b 256 c.labels

-- from when to when, where there are so many entries
abbrev pub times_text : ℕ → ℕ → ℕ → List ℕ
times_text zero first last = []
times_text (suc n) first last = codes "from " ++ decimal first ++ codes " to " ++ decimal last ++ codes "\n"

-- all lines of a survey
abbrev pub text_of : Survey → List ℕ
text_of s = codes "entries " ++ decimal s.entries ++ codes "\n" ++ times_text s.entries s.first s.last ++ count_lines bus.A s.a ++ count_lines bus.B s.b
