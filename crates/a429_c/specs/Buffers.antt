-- What the buffers of a caller hold after a call (profile).
use Rattle.std.specs.Prelude.{◌≡◌, ◌≤◌, ℕ, List, length, take, map}
use Rattle.std.specs.List.{flat_map}
use Rattle.a429_link.specs.declared.file.FileBytes.{FileBytes}
use Rattle.a429_c.specs.declared.found.Found.{Found}
use Rattle.a429_c.specs.declared.found.FileSize.{FileSize}

-- there are n of these, and where the buffer has room for them it begins with them
pub record Holds {A : Type 0} (buffer : List A) (n : ℕ) (these : List A) : Type 0 where
  pub count : n ≡ length these
  pub front : n ≤ length buffer → take n buffer ≡ these

-- the number and the length of a file
abbrev pub size_of : FileBytes → FileSize
size_of f = record { length = length f.bytes; number = f.number }

abbrev pub sizes_of : List FileBytes → List FileSize
sizes_of files = map size_of files

-- the bytes of files, one after the other
abbrev pub bytes_of : List FileBytes → List ℕ
bytes_of files = flat_map (λ (f : FileBytes). f.bytes) files

-- what a call has left: the caller's buffers and numbers
pub record Left : Type 0 where
  pub files : List FileSize
  pub bytes : List ℕ
  pub text : List ℕ
  pub found : Found

-- it left these files, each with its number, its length and its bytes
pub record LeavesFiles (left : Left) (files : List FileBytes) : Type 0 where
  pub sizes : Holds left.files left.found.files (sizes_of files)
  pub bytes : Holds left.bytes left.found.bytes (bytes_of files)

-- nothing is found yet
abbrev pub nothing : Found
nothing = record { entry = 0; line = 0; files = 0; bytes = 0; text = 0; reason = 0 }
