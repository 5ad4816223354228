-- How a word is sorted by its parity and label (ARINC 429 Part 1; which number means what: profile).
use Rattle.std.specs.Prelude.{ℕ, ◌%◌, ◌==◌, if◌then◌else◌}
use Rattle.a429_word.specs.Word.{count_of_ones, label_of}

-- 0 for a word of even parity; for one of odd parity 1 where it has this label, and 2 where it has another
abbrev pub screened : ℕ → ℕ → ℕ
screened label w = if count_of_ones w % 2 == 1 then (if label_of w == label then 1 else 2) else 0
