-- A register of 16 bits that makes check words, and tables of what eight bits 0 make of it (ARINC 429 Part 3; its polynomial is the profile's).
use Rattle.std.specs.Prelude.{ℕ, zero, suc, ◌+◌, ◌/◌, ◌%◌, ◌<◌, ◌≡◌, ◌==◌, if◌then◌else◌, List, length, replicate, bit_xor, fold, slice_index}
use Rattle.std.specs.Int.{reverse_bits_onto}

-- the 16 bits of a number in reverse order
abbrev pub turned : ℕ → ℕ
turned n = reverse_bits_onto 16 n 0

-- one bit more: the register's bits are in reverse order, as are those of the polynomial, so it moves down one place, and where its lowest bit and the bit that is fed in differ, the polynomial is exclusive-ored
abbrev pub fed_down : ℕ → ℕ → ℕ → ℕ
fed_down poly register b = if (register + b) % 2 == 1 then bit_xor (register / 2) poly else register / 2

-- the register after so many bytes 0
abbrev pub after_zeros : ℕ → ℕ → ℕ → ℕ
after_zeros poly zero register = register
after_zeros poly (suc n) register = fold (fed_down poly) (after_zeros poly n register) (replicate 8 0)

-- the entries of tables up to a place: entry i of table k, both from 0, is what k + 1 bytes 0 make of a register that begins as i, below 256
abbrev pub AreTablesUpTo : ℕ → ℕ → List ℕ → Type 0
AreTablesUpTo count poly entries = (length entries ≡ count) × ((at : ℕ) → at < count → slice_index entries at ≡ after_zeros poly (at / 256 + 1) (at % 256))

-- eight tables
abbrev pub AreTables : ℕ → List ℕ → Type 0
AreTables poly entries = AreTablesUpTo 2048 poly entries
