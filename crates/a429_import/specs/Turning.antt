-- Words with bits in another order (profile), in the numbers that their bits make.
use Rattle.std.specs.Prelude.{ℕ, ◌+◌, ◌-◌, ◌*◌, ◌^◌, if◌then◌else◌}
use Rattle.a429_word.specs.Word.{sum_below, number_at, label_of}
use Rattle.a429_import.specs.declared.turning.Turning.{Turning}

-- the four bytes of a word, the highest first: byte j, from 0, counts as byte 3 - j
abbrev pub bytes_turned : ℕ → ℕ
bytes_turned w = sum_below 4 (λ j. number_at w (8 * j + 1) 8 * 2 ^ (8 * (3 - j)))

-- bits 1 to 8 the other way round, which is how the label's number has them (ARINC 429 Part 1), below the other 24
abbrev pub label_turned : ℕ → ℕ
label_turned w = number_at w 9 24 * 2 ^ 8 + label_of w

-- the bytes are turned first, and then the label
abbrev pub turned : Turning → ℕ → ℕ
turned t w =
    let word = if t.bytes then bytes_turned w else w in
    if t.label then label_turned word else word
