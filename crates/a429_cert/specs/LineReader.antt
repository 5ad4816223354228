-- What a reader of lines has handed out, and what is still to come (profile).
use Rattle.std.specs.Prelude.{ℕ, ◌+◌, ◌-◌, List, length, take, drop, nat_lt, if◌then◌else◌, Option, Some, None}
use Rattle.std.specs.Io.KnownBytes.{prepend_known}
use Rattle.a429_word.specs.declared.tally.Tally.{Tally}
use Rattle.a429_word.specs.Tally.{left_of, unread}
use Rattle.a429_cert.specs.declared.line_reader.LineReader.{LineReader}

-- the bytes that were read and not yet handed out
abbrev pub bytes_ahead : LineReader → List ℕ
bytes_ahead s = take (s.filled - s.next) (drop s.next s.buffer)

-- the line that was handed out last, without its line feed, and none where that has none
abbrev pub held_line : LineReader → Option (List ℕ)
held_line s = if nat_lt s.at s.next then Some (take (s.next - 1 - s.at) (drop s.at s.buffer)) else None

-- the bytes that are still to come, where they are known
abbrev pub to_come : {R : Type 0} → (R → Option (List ℕ)) → LineReader → Tally R → Option (List ℕ)
to_come remaining s cert = prepend_known (bytes_ahead s) (unread remaining cert)

-- how many bytes may still come
abbrev pub room_left : {R : Type 0} → LineReader → Tally R → ℕ
room_left s cert = left_of cert + length (bytes_ahead s)
