-- The forms of transfer words. The messages are those of ARINC 429 Part 3; where each number is in a word is this project's choice
-- (profile), with the numbers of a bench's profile.
use Rattle.std.specs.Prelude.{ℕ, ◌+◌, ◌-◌, ◌*◌, ◌/◌, ◌%◌, ◌^◌, ◌<◌, ◌≤◌, ◌≡◌, ◌≢◌, ◌⊎◌, Bool, not, ◌&&◌, ◌||◌, ◌==◌, nat_le, if◌then◌else◌, Option, Some, None, List, [], ◌∷◌, slice_index, Contains}
use Rattle.std.specs.List.{list_any}
use Rattle.a429_word.specs.Word.{sum_below, bit, number_at, label_of, count_of_ones, HasOddParity}
use Rattle.a429_word.specs.declared.bus.Bus.{Bus}
use Rattle.a429_word.specs.declared.bus.Bus.TheVariants as bus
use Rattle.a429_profile.specs.declared.codes.Codes.{Codes}
use Rattle.a429_ldu.specs.declared.forms.Form.{Form}
use Rattle.a429_ldu.specs.declared.forms.fields.Parts.{Parts}
use Rattle.a429_ldu.specs.declared.forms.Form.TheVariants.{Rts, Cts, Ack, Nak, Sot, Part, Eot}
use Rattle.a429_ldu.specs.Semis.{AreSemis}

-- ---- the table of forms

-- the numbers in a transfer word, beside its label and its parity bit
pub record Fields : Type 0 where
  -- its type, bits 29 to 31
  pub kind : ℕ
  -- bits 25 to 28, 17 to 24 and 9 to 16
  pub upper : ℕ
  pub middle : ℕ
  pub lower : ℕ

-- the numbers in a word; the lowest numbered bit of each is the least
abbrev pub fields_of : ℕ → Fields
fields_of w = record { kind = number_at w 29 3; upper = number_at w 25 4; middle = number_at w 17 8; lower = number_at w 9 8 }

-- the same numbers, as the code has them
abbrev pub fields_in : Parts → Fields
fields_in parts = record { kind = parts.kind; upper = parts.upper; middle = parts.middle; lower = parts.lower }

-- those of a full data word whose semi-octets are one number
abbrev pub full_fields : Codes → ℕ → Fields
full_fields c n = record { kind = c.full; upper = n / 65536; middle = n / 256 % 256; lower = n % 256 }

-- semi-octets begin at bit 9, four bits each, with zeros after them; five fill a full word, fewer a partial one, whose code says how many
abbrev pub data_row : Codes → List ℕ → Fields
data_row c (p ∷ []) = record { kind = c.partial; upper = slice_index c.partial_codes 0; middle = 0; lower = p }
data_row c (p ∷ q ∷ []) = record { kind = c.partial; upper = slice_index c.partial_codes 1; middle = 0; lower = p + 16 * q }
data_row c (p ∷ q ∷ r ∷ []) = record { kind = c.partial; upper = slice_index c.partial_codes 2; middle = r; lower = p + 16 * q }
data_row c (p ∷ q ∷ r ∷ s ∷ []) = record { kind = c.partial; upper = slice_index c.partial_codes 3; middle = r + 16 * s; lower = p + 16 * q }
data_row c (p ∷ q ∷ r ∷ s ∷ t ∷ []) = record { kind = c.full; upper = t; middle = r + 16 * s; lower = p + 16 * q }
-- no other list has a word: no type is 8
data_row c _ = record { kind = 8; upper = 0; middle = 0; lower = 0 }

-- what is in the word of each form
abbrev pub row : Codes → Form → Fields
row c (Rts count) = record { kind = c.protocol; upper = c.rts; middle = c.destination; lower = count }
row c (Cts count) = record { kind = c.protocol; upper = c.cts; middle = c.destination; lower = count }
row c (Ack file ldu) = record { kind = c.protocol; upper = c.ack; middle = file; lower = ldu }
row c (Nak bits) = record { kind = c.protocol; upper = c.nak; middle = bits / 256; lower = bits % 256 }
row c (Sot gfi file ldu) = record { kind = c.sot; upper = gfi; middle = file; lower = ldu }
row c (Part semis) = data_row c semis
row c (Eot flags check) = record { kind = c.eot; upper = flags; middle = check / 256; lower = check % 256 }

-- the ranges of a form's numbers
abbrev pub IsInRange : Form → Type 0
IsInRange (Rts count) = (3 ≤ count) × (count ≤ 255)
IsInRange (Cts count) = (3 ≤ count) × (count ≤ 255)
IsInRange (Ack file ldu) = (file ≤ 255) × (ldu ≤ 255)
IsInRange (Nak bits) = bits ≤ 65535
IsInRange (Sot gfi file ldu) = (gfi ≤ 15) × (file ≤ 255) × (ldu ≤ 255)
IsInRange (Part semis) = AreSemis semis
IsInRange (Eot flags check) = (flags ≤ 15) × (check ≤ 65535)

-- the bus that carries a form: A leads to the sink
abbrev pub bus_of : Form → Bus
bus_of (Rts count) = bus.A
bus_of (Cts count) = bus.B
bus_of (Ack file ldu) = bus.B
bus_of (Nak bits) = bus.B
bus_of (Sot gfi file ldu) = bus.A
bus_of (Part semis) = bus.A
bus_of (Eot flags check) = bus.A

-- the label of a bus's transfer words
abbrev pub address_of : Codes → Bus → ℕ
address_of c bus.A = c.to_sink
address_of c bus.B = c.to_source

-- the word has this form on this bus
pub record IsForm (c : Codes) (b : Bus) (w : ℕ) (x : Form) : Type 0 where
  pub bus : b ≡ bus_of x
  pub range : IsInRange x
  pub fields : fields_of w ≡ row c x
  pub label : label_of w ≡ address_of c b
  pub parity : HasOddParity w
  pub word : w < 2 ^ 32

-- words of this type, with this number in bits 25 to 28, are ignored: by their type or by their code
abbrev pub IsIgnored : Codes → ℕ → ℕ → Type 0
IsIgnored c kind upper = Contains c.ignored_types kind ⊎ ((kind ≡ c.protocol) × Contains c.ignored_codes upper)

-- the transfer passes over the word: its parity is wrong, its label is another, or it is ignored
abbrev pub IsFree : Codes → Bus → ℕ → Type 0
IsFree c b w = (¬ HasOddParity w) ⊎ ((label_of w ≢ address_of c b) ⊎ IsIgnored c (number_at w 29 3) (number_at w 25 4))

-- the transfer does not pass over the word, which has this form
abbrev pub IsTransferForm : Codes → Bus → ℕ → Form → Type 0
IsTransferForm c b w x = (¬ IsFree c b w) × IsForm c b w x

-- ---- the same, computed; that it is the same is proved for the codes of each profile

abbrev pub is_free : Codes → Bus → ℕ → Bool
is_free c b w = not (count_of_ones w % 2 == 1) || (not (label_of w == address_of c b) || (list_any (λ n. n == number_at w 29 3) c.ignored_types || (number_at w 29 3 == c.protocol && list_any (λ n. n == number_at w 25 4) c.ignored_codes)))

-- the semi-octets of a partial word
abbrev pub partial_on : Codes → Fields → Option Form
partial_on c f =
    if f.upper == slice_index c.partial_codes 0 && (f.middle == 0 && nat_le f.lower 15) then Some (Part (f.lower ∷ []))
    else (if f.upper == slice_index c.partial_codes 1 && f.middle == 0 then Some (Part (f.lower % 16 ∷ f.lower / 16 ∷ []))
    else (if f.upper == slice_index c.partial_codes 2 && nat_le f.middle 15 then Some (Part (f.lower % 16 ∷ f.lower / 16 ∷ f.middle ∷ []))
    else (if f.upper == slice_index c.partial_codes 3 then Some (Part (f.lower % 16 ∷ f.lower / 16 ∷ f.middle % 16 ∷ f.middle / 16 ∷ []))
    else None)))

-- the form of a word that is not free, by its numbers
abbrev pub form_on : Codes → Bus → Fields → Option Form
form_on c bus.A f =
    if f.kind == c.protocol then (if f.upper == c.rts && (f.middle == c.destination && nat_le 3 f.lower) then Some (Rts f.lower) else None)
    else (if f.kind == c.sot then Some (Sot f.upper f.middle f.lower)
    else (if f.kind == c.eot then Some (Eot f.upper (f.middle * 256 + f.lower))
    else (if f.kind == c.full then Some (Part (f.lower % 16 ∷ f.lower / 16 ∷ f.middle % 16 ∷ f.middle / 16 ∷ f.upper ∷ []))
    else (if f.kind == c.partial then partial_on c f
    else None))))
form_on c bus.B f =
    if f.kind == c.protocol then (if f.upper == c.cts && (f.middle == c.destination && nat_le 3 f.lower) then Some (Cts f.lower)
    else (if f.upper == c.ack then Some (Ack f.middle f.lower)
    else (if f.upper == c.nak then Some (Nak (f.middle * 256 + f.lower))
    else None)))
    else None

-- the form of a word, where it is not free and has one
abbrev pub form_of : Codes → Bus → ℕ → Option Form
form_of c b w = if is_free c b w || nat_le (2 ^ 32) w then None else form_on c b (fields_of w)

-- ---- the word of a form

-- bits 1 to 8: those of the label, the most significant first
abbrev pub label_bits : ℕ → ℕ
label_bits label = sum_below 8 (λ j. bit label (8 - j) * 2 ^ j)

-- bits 1 to 31
abbrev pub joined_fields : ℕ → Fields → ℕ
joined_fields label f = label_bits label + f.lower * 2 ^ 8 + f.middle * 2 ^ 16 + f.upper * 2 ^ 24 + f.kind * 2 ^ 28

-- with the parity bit that makes the parity odd
abbrev pub with_parity_bit : ℕ → ℕ
with_parity_bit n = n + (1 - count_of_ones n % 2) * 2 ^ 31

abbrev pub word_number : Codes → Form → ℕ
word_number c x = with_parity_bit (joined_fields (address_of c (bus_of x)) (row c x))
