-- What is written of entries in binary, read again.
use Rattle.std.proofs.Common.{◌≡◌, ◌∙◌, ◌^◌, ◌<◌, List, [], ◌∷◌, map, length, Some, refl, ap, arith}
use Rattle.std.specs.List.{flat_map}
use Rattle.a429_word.specs.declared.bus.Bus.{Bus}
use Rattle.a429_word.specs.declared.bus.Bus.TheVariants.{A, B}
use Rattle.a429_record.specs.declared.entry.Entry.{Entry}
use Rattle.a429_record.specs.Binary.{big_endian, big_endian_bytes, piece_entry, piece_entries, entry_piece, binary_form, entry_bytes}
use Rattle.a429_record.specs.Recording.{stands_for, whole, IsRecordable}
use Rattle.a429_record.specs.WholeRecordings.{AreEntries}
use Rattle.a429_record.proofs.BinaryFacts.{pieces-whole, big_endian-back}
use Rattle.a429_record.proofs.WholeRecordings.{binary-whole}

piece-back : (e : Entry)
    → e.time < 2 ^ 64 → e.word < 2 ^ 32 → (length (entry_piece e) ≡ entry_bytes) × (piece_entry (entry_piece e) ≡ Some e)
piece-back e ht hw = from e.bus refl where
  time : big_endian (big_endian_bytes 8 e.time) ≡ e.time
  time = big_endian-back 8 e.time (omega arith)

  word : big_endian (big_endian_bytes 4 e.word) ≡ e.word
  word = big_endian-back 4 e.word (omega arith)

  from : (b : Bus) → e.bus ≡ b → (length (entry_piece e) ≡ entry_bytes) × (piece_entry (entry_piece e) ≡ Some e)
  from A is = rw is (refl, rw (time, word) refl)
  from B is = rw is (refl, rw (time, word) refl)

pieces-back : (es : List Entry) → AreEntries es → piece_entries (flat_map entry_piece es) ≡ map Some es
pieces-back [] h = refl
pieces-back (e ∷ es) h =
    let p = piece-back e h.0 h.1 in
    ap (map piece_entry) (pieces-whole (entry_piece e) (flat_map entry_piece es) p.0) ∙ rw (p.1, pieces-back es h.2) refl

pub packed-back : (es : List Entry) → AreEntries es → IsRecordable es → stands_for (binary_form es) ≡ whole es
packed-back es fit recordable =
    binary-whole (binary_form es) es (record { following = flat_map entry_piece es; all = refl; entries = pieces-back es fit }, recordable)
