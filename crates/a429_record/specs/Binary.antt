-- The binary format of a recording (profile).
use Rattle.std.specs.Prelude.{◌≡◌, ℕ, zero, suc, ◌+◌, ◌*◌, ◌/◌, ◌%◌, ◌^◌, List, [], ◌∷◌, ◌++◌, length, take, drop, map, flat_map, Bool, true, false, ◌==◌, if◌then◌else◌, Option, Some, None, codes, bytes_eq}
use Rattle.a429_word.specs.Bus.{bus_text}
use Rattle.a429_record.specs.declared.entry.Entry.{Entry}
use Rattle.a429_record.specs.Row.{bus_in, entry_with}

-- the eight bytes that a binary recording begins with
abbrev pub magic : List ℕ
magic = codes "A429REC1"

-- bytes begin with these: the recording is binary, and else text
abbrev pub is_binary : List ℕ → Bool
is_binary bytes = bytes_eq (take 8 bytes) magic

-- bytes are those of a binary recording
abbrev pub IsBinary : List ℕ → Type 0
IsBinary bytes = is_binary bytes ≡ true

-- bytes are those of a text
abbrev pub IsText : List ℕ → Type 0
IsText bytes = is_binary bytes ≡ false

-- the number that bytes write, the highest of them first
abbrev pub big_endian : List ℕ → ℕ
big_endian [] = 0
big_endian (b ∷ bs) = b * 256 ^ length bs + big_endian bs

-- the n bytes that write a number below 256^n, the highest of them first
abbrev pub big_endian_bytes : ℕ → ℕ → List ℕ
big_endian_bytes zero x = []
big_endian_bytes (suc n) x = x / 256 ^ n % 256 ∷ big_endian_bytes n x

-- how many bytes an entry has
abbrev pub entry_bytes : ℕ
entry_bytes = 13

-- bytes cut into pieces of 13, of which the last may have fewer; there are at most so many pieces
abbrev pub pieces_within : ℕ → List ℕ → List (List ℕ)
pieces_within zero bytes = []
pieces_within (suc most) [] = []
pieces_within (suc most) (b ∷ bs) = take entry_bytes (b ∷ bs) ∷ pieces_within most (drop entry_bytes (b ∷ bs))

abbrev pub pieces_of : List ℕ → List (List ℕ)
pieces_of bytes = pieces_within (length bytes) bytes

-- the entry of a piece: eight bytes of its time, one of its bus, which is its letter, and four of its word
abbrev pub piece_entry : List ℕ → Option Entry
piece_entry piece =
    if length piece == entry_bytes
    then entry_with (Some (big_endian (take 8 piece))) (bus_in (take 1 (drop 8 piece))) (Some (big_endian (drop 9 piece))) else None

-- the pieces of bytes, as entries
abbrev pub piece_entries : List ℕ → List (Option Entry)
piece_entries bytes = map piece_entry (pieces_of bytes)

-- how an entry is written
abbrev pub entry_piece : Entry → List ℕ
entry_piece e = big_endian_bytes 8 e.time ++ bus_text e.bus ++ big_endian_bytes 4 e.word

-- the eight bytes, and then a piece for each entry
abbrev pub binary_form : List Entry → List ℕ
binary_form entries = magic ++ flat_map entry_piece entries
