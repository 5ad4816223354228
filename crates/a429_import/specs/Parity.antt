-- Bit 32 of words: the parity bit (ARINC 429 Part 1), and what an export has there (profile).
use Rattle.std.specs.Prelude.{ℕ, ◌+◌, ◌-◌, ◌*◌, ◌%◌, ◌^◌, ◌==◌, List, Option, Some, None, if◌then◌else◌}
use Rattle.a429_word.specs.Word.{bit, number_at, count_of_ones}
use Rattle.a429_import.specs.declared.parity.ParityBit.{ParityBit}
use Rattle.a429_import.specs.declared.parity.ParityBit.TheVariants as bit_32
use Rattle.a429_import.specs.declared.parity.Status.{Status}
use Rattle.a429_import.specs.declared.parity.Verdict.{Verdict}
use Rattle.a429_import.specs.declared.parity.Verdict.TheVariants as verdict
use Rattle.a429_import.specs.Texts.{has_text}

-- what a text of the status column says
abbrev pub status_in : Status → List ℕ → Option Verdict
status_in s text = if has_text s.good text then Some verdict.Good else if has_text s.bad text then Some verdict.Bad else None

-- the first where bit 32 is 1, else the second
abbrev pub flag_verdict : ℕ → Verdict → Verdict → Verdict
flag_verdict w set clear = if bit w 32 == 1 then set else clear

-- what is known of a word's parity, where the status column says this
abbrev pub verdict_of : ParityBit → Verdict → ℕ → Verdict
verdict_of bit_32.Received status w = verdict.Received
verdict_of bit_32.ErrorSet status w = flag_verdict w verdict.Bad verdict.Good
verdict_of bit_32.ErrorClear status w = flag_verdict w verdict.Good verdict.Bad
verdict_of bit_32.Absent status w = verdict.Good
verdict_of (bit_32.Status s) status w = status

-- bits 1 to 31 of a word, and with them this bit 32
abbrev pub with_bit_32 : ℕ → ℕ → ℕ
with_bit_32 w b = number_at w 1 31 + b * 2 ^ 31

-- 1 where an odd number of bits 1 to 31 is 1, else 0
abbrev pub odd_below : ℕ → ℕ
odd_below w = count_of_ones (number_at w 1 31) % 2

-- the word whose bit 32 says so of its parity: with a good one an odd number of its bits is 1, with a wrong one an even number
abbrev pub judged : Verdict → ℕ → ℕ
judged verdict.Received w = w
judged verdict.Good w = with_bit_32 w (1 - odd_below w)
judged verdict.Bad w = with_bit_32 w (odd_below w)
