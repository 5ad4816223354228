-- Why the transfer passes over a word (profile).
use Rattle.std.specs.Prelude.{ℕ, ◌%◌, not, ◌&&◌, ◌==◌, if◌then◌else◌, Option, Some, None}
use Rattle.std.specs.List.{list_any}
use Rattle.a429_word.specs.Word.{number_at, label_of, count_of_ones}
use Rattle.a429_word.specs.declared.bus.Bus.{Bus}
use Rattle.a429_profile.specs.declared.codes.Codes.{Codes}
use Rattle.a429_ldu.specs.declared.freedom.Freedom.{Freedom}
use Rattle.a429_ldu.specs.declared.freedom.Freedom.TheVariants.{BadParity, OtherLabel, IgnoredType, IgnoredCode}
use Rattle.a429_ldu.specs.Form.{address_of}

-- the first reason that holds: its parity is even, its label is not the address label of its bus, its type is ignored, or it is a
-- protocol word, and its code is ignored; none of a word that is not free
abbrev pub freedom_of : Codes → Bus → ℕ → Option Freedom
freedom_of c b w =
    if not (count_of_ones w % 2 == 1) then Some BadParity
    else (if not (label_of w == address_of c b) then Some OtherLabel
    else (if list_any (λ n. n == number_at w 29 3) c.ignored_types then Some IgnoredType
    else (if number_at w 29 3 == c.protocol && list_any (λ n. n == number_at w 25 4) c.ignored_codes then Some IgnoredCode
    else None)))
