-- What is given of the pieces of a binary recording.
use Rattle.std.proofs.Common.{◌≡◌, ◌==◌, ◌∙◌, ◌<◌, ◌≤◌, ℕ, List, [], ◌∷◌, ◌++◌, map, length, true, Option, Some, None, Result, Ok, Err, IfOk, option_map, inl, inr, refl, sym, ap, subst, arith}
use Rattle.std.specs.Io.KnownBytes.{Consumes, Keeps, IsAtEnd, prepend_known}
use Rattle.std.proofs.lemmas.List.{append-nil}
use Rattle.a429_record.specs.declared.entry.Entry.{Entry}
use Rattle.a429_record.specs.declared.fault.ReadFault.{ReadFault}
use Rattle.a429_record.specs.declared.fault.ReadFault.TheVariants as fault
use Rattle.a429_record.specs.Binary.{entry_bytes, piece_entry, piece_entries}
use Rattle.a429_record.specs.Recording.{Recording, entries_stand_for}
use Rattle.a429_record.specs.Handed.{Loses, ArePieceOf}
use Rattle.a429_record.specs.Rows.{GivesNext, IfEntry}
use Rattle.a429_record.proofs.BinaryFacts.{pieces-first, pieces-last, pieces-next}
use Rattle.std.proofs.lemmas.Bool.{cases_lt}
use Rattle.std.proofs.lemmas.Bool.Decides.{nat_tests}
use Rattle.a429_record.proofs.Handed.{consumed}
use Rattle.a429_record.proofs.HandedFormats.{kept_lost}

-- what is left of known bytes stands for
abbrev pub Left : ℕ → ℕ → ℕ → Option (List ℕ) → Option Recording
Left m n last a = option_map (λ bytes. entries_stand_for m n last (piece_entries bytes)) a

-- one is left, where there are as many as may be
pub pieces_full : (m n last : ℕ) (a k : Option (List ℕ)) (ahead : List ℕ) (new : Option Recording)
    → n ≡ m → 0 < length ahead → Keeps a (prepend_known ahead k)
    → GivesNext (Left m n last a) new (Err fault.TooMany)
pieces_full m n last None k ahead new full some p = tt
pieces_full m n last (Some xs) None ahead new full some p = absurd p
pieces_full m n last (Some xs) (Some k) [] new full some p = absurd (omega arith)
pieces_full m n last (Some xs) (Some k) (x ∷ ahead) new full some p =
    let first = ap (map piece_entry) (pieces-first x (ahead ++ k)) in
    let stop : (n == m) ≡ true = grind (arith, nat_tests) in
    rw (← p) (ap (entries_stand_for m n last) first ∙ rw stop refl)

-- the piece that was read is the first of those that were left; it has fewer bytes than an entry at most at the end
first_piece : (xs part zs : List ℕ) → xs ≡ part ++ zs → 0 < length xs → length part ≤ entry_bytes → (length part < entry_bytes → zs ≡ [])
    → piece_entries xs ≡ piece_entry part ∷ piece_entries zs
first_piece xs part zs e some most over = elim (cases_lt (length part) entry_bytes) [
  | inl cut ↦
      let none = over cut in
      let all : xs ≡ part = rw none at e ∙ append-nil part in
      rw (all, none) (ap (map piece_entry) (pieces-last part (subst (λ (l : List ℕ). 0 < length l) all some) most))
  | inr whole ↦ ap piece_entries e ∙ pieces-next part zs (omega arith)
]

some_bytes : (ahead k xs : List ℕ) → 0 < length ahead → ahead ++ k ≡ xs → 0 < length xs
some_bytes [] k xs some e = absurd (omega arith)
some_bytes (x ∷ ahead) k xs some e = subst (λ (l : List ℕ). 0 < length l) e (omega arith)

pub piece_given : (m n last m' n' last' : ℕ) (a k c : Option (List ℕ)) (ahead part : List ℕ) (o : Option Entry)
    (r : Result (Option Entry) ReadFault) → Keeps a (prepend_known ahead k) → 0 < length ahead
    → Consumes (prepend_known ahead k) c part → length part ≤ entry_bytes → (length part < entry_bytes → IsAtEnd c) → o ≡ piece_entry part
    → ((more : List (Option Entry))
    → GivesNext (Some (entries_stand_for m n last (o ∷ more))) (Some (entries_stand_for m' n' last' more)) r)
    → GivesNext (Left m n last a) (Left m' n' last' c) r
piece_given m n last m' n' last' None k c ahead part o r p some gone most over is given = tt
piece_given m n last m' n' last' (Some xs) None c ahead part o r p some gone most over is given = absurd p
piece_given m n last m' n' last' (Some xs) (Some k) None ahead part o r p some gone most over is given = absurd gone
piece_given m n last m' n' last' (Some xs) (Some k) (Some zs) ahead part o r p some gone most over is given =
    let all : xs ≡ part ++ zs = sym p ∙ gone in
    let first : piece_entries xs ≡ o ∷ piece_entries zs =
    first_piece xs part zs all (some_bytes ahead k xs some p) most over ∙ ap (λ (x : Option Entry). x ∷ piece_entries zs) (sym is) in
    subst (λ (l : List (Option Entry)).
    GivesNext (Some (entries_stand_for m n last l)) (Some (entries_stand_for m' n' last' (piece_entries zs))) r)
    (sym first) (given (piece_entries zs))

-- and its bytes are those of its entry
pub piece_lost : (a b c : Option (List ℕ)) (part : List ℕ) (o : Option Entry) (r : Result (Option Entry) ReadFault)
    → Keeps a b → Consumes b c part → o ≡ piece_entry part → IfOk r (λ x. x ≡ o)
    → IfEntry r (λ e. Loses (ArePieceOf e) a c)
piece_lost a b c part o (Ok None) p gone is h = tt
piece_lost a b c part o (Ok (Some e)) p gone is h =
    kept_lost (ArePieceOf e) a b c p (consumed (ArePieceOf e) b c part gone (λ rest. sym (h ∙ is)))
piece_lost a b c part o (Err f) p gone is h = tt
