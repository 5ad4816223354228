-- The first bytes choose the format.
use Rattle.std.proofs.Common.{◌≡◌, ◌∙◌, ◌<◌, ◌≤◌, ℕ, List, [], ◌++◌, length, take, drop, false, Option, Some, None, IfSome, sym, ap}
use Rattle.std.specs.Io.KnownBytes.{Consumes, Keeps, IsAtEnd, prepend_known}
use Rattle.std.proofs.lemmas.List.{append-nil}
use Rattle.a429_record.specs.declared.format.Format.TheVariants as format
use Rattle.a429_record.specs.Binary.{magic, is_binary}
use Rattle.a429_record.specs.Lines.{Chooses}
use Rattle.a429_record.proofs.BinaryFacts.{short_text, other_text}

-- what was read is still ahead
back : (k k' : Option (List ℕ)) (at : ℕ) (none ahead : List ℕ)
    → none ≡ [] → at ≡ 0 → Consumes k k' ahead → Keeps (prepend_known none k) (prepend_known (drop at ahead) k')
back None k' at none ahead e start gone = tt
back (Some a) None at none ahead e start gone = absurd gone
back (Some a) (Some b) at none ahead e start gone = rw (e, start) (sym gone)

-- a text, since the bytes end too soon
pub ends_text : (k k' : Option (List ℕ)) (at : ℕ) (none ahead : List ℕ)
    → none ≡ [] → at ≡ 0 → Consumes k k' ahead → IsAtEnd k' → length ahead < 8
    → Chooses format.Text (prepend_known none k) (prepend_known (drop at ahead) k')
ends_text k k' at none ahead e start gone over few = (back k k' at none ahead e start gone, is_text k k' gone over) where
  is_text : (k k' : Option (List ℕ)) → Consumes k k' ahead → IsAtEnd k' → IfSome (prepend_known none k) (λ bytes. is_binary bytes ≡ false)
  is_text None k' gone over = tt
  is_text (Some a) None gone over = absurd gone
  is_text (Some a) (Some b) gone over =
      let all : none ++ a ≡ ahead = rw e (gone ∙ ap (λ (l : List ℕ). ahead ++ l) over ∙ append-nil ahead) in rw all (short_text ahead few)

-- a text, since its first bytes are others
pub other_bytes : (k k' : Option (List ℕ)) (at : ℕ) (none ahead : List ℕ)
    → none ≡ [] → at ≡ 0 → Consumes k k' ahead → length ahead ≤ 8 → (ahead ≡ take (length ahead) magic → ⊥)
    → Chooses format.Text (prepend_known none k) (prepend_known (drop at ahead) k')
other_bytes k k' at none ahead e start gone few other = (back k k' at none ahead e start gone, is_text k k' gone) where
  is_text : (k k' : Option (List ℕ)) → Consumes k k' ahead → IfSome (prepend_known none k) (λ bytes. is_binary bytes ≡ false)
  is_text None k' gone = tt
  is_text (Some a) None gone = absurd gone
  is_text (Some a) (Some b) gone = rw (e, gone) (other_text ahead b few other)
