-- Blocks by their places.
use Rattle.std.proofs.Common.{◌≡◌, ℕ, ◌≤◌, ◌<◌, [], ◌∷◌, length, Option, Some, None, IsSome, is_some, slice_get, inl, inr, ap, subst, arith, length-append}
use Rattle.std.proofs.lemmas.Bool.{cases_lt}
use Rattle.std.proofs.lemmas.Option.{slice_get_past}
use Rattle.a429_ldu.specs.Form.{word_number}
use Rattle.a429_ldu.specs.Ldu.{LduValue, block_of, count_of}
use Rattle.a429_link.specs.Source.{next_word}
use Rattle.a429_link.specs.declared.state.SourceState.{SourceState}
use Rattle.a429_link.specs.declared.state.SourceState.TheVariants.{Sending}
use Rattle.a429_profile.specs.declared.codes.Codes.{Codes}
use Rattle.a429_ldu.specs.declared.forms.Form.TheVariants as form
use Rattle.a429_link.specs.declared.number.UnitNumber.{UnitNumber}

pub block_length : (c : Codes) (u : LduValue) (number : UnitNumber) → length (block_of c u number.file number.ldu) ≡ count_of u
block_length c u number = omega (arith, length-append u.words (word_number c (form.Eot u.flags u.check) ∷ []))

-- past its end a block has no word
pub past_block : (c : Codes) (u : LduValue) (number : UnitNumber) (k : ℕ)
    → count_of u ≤ k → slice_get (block_of c u number.file number.ldu) k ≡ None
past_block c u number k h = slice_get_past (block_of c u number.file number.ldu) k (omega (arith, block_length c u number))

-- a source that has a next word has not sent the whole block
pub in_block : (c : Codes) (u : LduValue) (number : UnitNumber) (k : ℕ)
    → IsSome (slice_get (block_of c u number.file number.ldu) k) → k < count_of u
in_block c u number k h =
    elim (cases_lt k (count_of u)) [ inl l ↦ l | inr g ↦ absurd (let none = ap is_some (past_block c u number k g) in cc) ]

pub sending_room : (c : Codes) (number : UnitNumber) (cur : Option LduValue) (state : SourceState) (u : LduValue) (k : ℕ)
    → cur ≡ Some u → state ≡ Sending k → IsSome (next_word c number cur state) → k < count_of u
sending_room c number cur state u k e h has =
    in_block c u number k
    (subst (λ (o : Option LduValue). IsSome (next_word c number o (Sending k))) e
    (subst (λ (q : SourceState). IsSome (next_word c number cur q)) h has))
