-- What `pack` writes, and why it writes nothing (profile).
use Rattle.std.specs.Prelude.{◌≡◌, ℕ, List, false}
use Rattle.a429_record.specs.declared.entry.Entry.{Entry}
use Rattle.a429_record.specs.Binary.{binary_form}
use Rattle.a429_commands.specs.Ends.{Heard, Promise}
use Rattle.a429_commands.specs.Recording.{IsReadFault, SaysEntries}

-- the bytes are the binary form of the entries that a recording says, and its reader has not failed
pub record Packs (rec : Heard) (bytes : List ℕ) : Type 0 where
  pub entries : List Entry
  pub stand : SaysEntries rec.bytes entries
  pub works : rec.failed ≡ false
  pub form : bytes ≡ binary_form entries

-- `pack` writes them, with status 0; of a recording that could not be read it writes nothing
abbrev pub of_pack : Heard → Promise
of_pack rec = record {
  says = λ status bytes. (status ≡ 0) × Packs rec bytes;
  stops = λ e bytes. ⊥;
  begins = Packs rec;
  refuses = IsReadFault rec.bytes rec.failed;
}
