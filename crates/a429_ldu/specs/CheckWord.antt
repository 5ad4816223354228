-- The check word of bytes, by the division of polynomials over two elements (ARINC 429 Part 3; polynomial, start, end and the order of bits are the profile's).
use Rattle.std.specs.Prelude.{ℕ, zero, suc, ◌+◌, ◌*◌, ◌%◌, ◌==◌, if◌then◌else◌, Bool, not, ◌||◌, List, [], ◌∷◌, ◌++◌, length, reverse, replicate, bit_xor, fold}
use Rattle.std.specs.Int.{bit_at, reverse_bits_onto}
use Rattle.std.specs.Int.Digits.{number_from_digits}
use Rattle.std.specs.List.{flat_map}
use Rattle.a429_profile.specs.declared.codes.Check.{Check}

-- the low count bits of a number, the highest first
abbrev pub top_bits : ℕ → ℕ → List ℕ
top_bits zero n = []
top_bits (suc k) n = bit_at n k ∷ top_bits k n

-- the first bits of a list, each exclusive-ored with one of another list
abbrev pub xor_front : List ℕ → List ℕ → List ℕ
xor_front [] bs = bs
xor_front (d ∷ ds) [] = []
xor_front (d ∷ ds) (b ∷ bs) = ((d + b) % 2) ∷ xor_front ds bs

-- the division by a 1 and these bits, at so many places from the left: where the bit there is 1, the divisor is exclusive-ored, which leaves 0 at that place
abbrev pub divide : List ℕ → ℕ → List ℕ → List ℕ
divide ds zero bs = bs
divide ds (suc n) [] = []
divide ds (suc n) (b ∷ bs) = divide ds n (if b == 1 then xor_front ds bs else bs)

-- the bits of a byte as they are fed in
abbrev pub fed_bits : Bool → ℕ → List ℕ
fed_bits low_first byte = if low_first then reverse (top_bits 8 byte) else top_bits 8 byte

-- the fed bits and 16 zeros, the first 16 exclusive-ored with the start, divided at each place but the last 16
abbrev pub remainder_of : Check → List ℕ → List ℕ
remainder_of k fed = divide (top_bits 16 k.poly) (length fed) (xor_front (top_bits 16 k.init) (fed ++ replicate 16 0))

-- the number of 16 bits, of which the first is the highest, or, where low bits come first, the lowest
abbrev pub remainder_number : Bool → List ℕ → ℕ
remainder_number low_first bits = number_from_digits 2 (if low_first then reverse bits else bits)

-- the check word of bytes
abbrev pub check_of : Check → List ℕ → ℕ
check_of k bytes = bit_xor (remainder_number k.low_first (remainder_of k (flat_map (fed_bits k.low_first) bytes))) k.xor

-- a check word is that of bytes, or check words are not compared
abbrev pub agrees : Check → List ℕ → ℕ → Bool
agrees k bytes check = not k.compare || (check == check_of k bytes)

-- ---- the same, by a register of 16 bits that takes bit after bit (profile)

-- one bit more: the register moves up one place, and where its top bit and the bit that is fed in differ, the polynomial is exclusive-ored
abbrev pub fed : ℕ → ℕ → ℕ → ℕ
fed poly register b = if (bit_at register 15 + b) % 2 == 1 then bit_xor (register * 2 % 65536) poly else register * 2 % 65536

-- the register after bytes; it starts as the profile says
abbrev pub register_after : Check → List ℕ → ℕ
register_after k bytes = fold (fed k.poly) k.init (flat_map (fed_bits k.low_first) bytes)

-- at the end it is reversed where low bits come first, and then exclusive-ored
abbrev pub check_by_register : Check → List ℕ → ℕ
check_by_register k bytes = bit_xor (if k.low_first then reverse_bits_onto 16 (register_after k bytes) 0 else register_after k bytes) k.xor
