-- The numbers of link data units, and which one comes next (profile).
use Rattle.std.specs.Prelude.{ℕ, ◌+◌, ◌-◌, ◌%◌, min, nat_le, Bool, false, ◌==◌, ◌&&◌, if◌then◌else◌}
use Rattle.a429_profile.specs.declared.codes.Codes.{Codes}
use Rattle.a429_ldu.specs.Ldu.{LduValue, is_final}
use Rattle.a429_link.specs.declared.number.UnitNumber.{UnitNumber}

-- two numbers are the same
abbrev pub is_number : UnitNumber → UnitNumber → Bool
is_number m n = (m.file == n.file) && (m.ldu == n.ldu)

-- the number of a file's first link data unit
abbrev pub first_number : Codes → ℕ → UnitNumber
first_number c file = record { file = file; ldu = c.first_ldu }

-- the number that comes next: after a file's last link data unit that of the next file's first, where 255 is followed by 0;
-- else that of the file's next. It stops at 256, where nothing can be loaded: a file has at most 255 link data units
abbrev pub next_number : Codes → UnitNumber → Bool → UnitNumber
next_number c n final =
    if final
    then first_number c ((n.file + 1) % 256)
    else record { file = n.file; ldu = min (n.ldu + 1) 256 }

-- how many files one number is past another, where 255 is followed by 0
abbrev pub files_past : ℕ → ℕ → ℕ
files_past file earlier = (file + 256 - earlier) % 256

-- the second number is that of the next one of the same file, one of its 255
abbrev pub goes_on : Codes → UnitNumber → UnitNumber → Bool
goes_on c last n = is_number n (next_number c last false) && nat_le n.ldu (c.first_ldu + 254)

-- it is that of the first of a file that is 1 to 128 past: as many as 127 may have been given up between
abbrev pub begins_file : Codes → UnitNumber → UnitNumber → Bool
begins_file c last n = (n.ldu == c.first_ldu) && (nat_le 1 (files_past n.file last.file) && nat_le (files_past n.file last.file) 128)

-- the number that comes next where this link data unit has this one
abbrev pub number_after : Codes → UnitNumber → LduValue → UnitNumber
number_after c n u = next_number c n (is_final c u.flags)
