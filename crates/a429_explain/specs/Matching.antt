-- The words of a group against the block of its link data unit (profile).
use Rattle.std.specs.Prelude.{ℕ, zero, suc, ◌%◌, ◌==◌, nat_le, Bool, not, ◌&&◌, ◌||◌, if◌then◌else◌, Option, Some, None, slice_index, ◌-◌, List, [], ◌∷◌, IsSome, option_and_then}
use Rattle.a429_profile.specs.declared.codes.Codes.{Codes}
use Rattle.a429_ldu.specs.declared.forms.Form.{Form}
use Rattle.a429_ldu.specs.declared.forms.Form.TheVariants.{Rts, Sot, Part, Eot}
use Rattle.a429_ldu.specs.Form.{form_of}
use Rattle.a429_ldu.specs.Ldu.{LduValue, count_of, block_of}
use Rattle.a429_link.specs.declared.seen.Seen.{Seen}
use Rattle.a429_link.specs.declared.number.UnitNumber.{UnitNumber}
use Rattle.a429_explain.specs.declared.attempts.Role.{Role}
use Rattle.a429_explain.specs.declared.attempts.Role.TheVariants.{Request, OfBlock}

-- word k of the block; a start word has no number above 255
abbrev pub is_word : Codes → LduValue → UnitNumber → ℕ → ℕ → Bool
is_word c u place word k = (nat_le place.ldu 255 || not (k == 0)) && (word == slice_index (block_of c u place.file (place.ldu % 256)) k)

-- how many words of the block are passed with the first of the next n that is this one
abbrev pub passed_with : (ℕ → Bool) → ℕ → ℕ → Option ℕ
passed_with is passed zero = None
passed_with is passed (suc n) = if is passed then Some (suc passed) else passed_with is (suc passed) n

-- how many are passed with a word of this form: a request begins anew, and a word of the block is matched with the
-- first equal one that is not passed, or with none
abbrev pub passing_as : Option Form → Option ℕ → ℕ → Option ℕ
passing_as (Some (Rts n)) matched passed = Some 0
passing_as (Some (Sot gfi file ldu)) matched passed = matched
passing_as (Some (Part semis)) matched passed = matched
passing_as (Some (Eot flags check)) matched passed = matched
passing_as _ matched passed = Some passed

-- the same with a word of this role
abbrev pub passing_by : Role → Option ℕ → ℕ → Option ℕ
passing_by (Request n start) matched passed = Some 0
passing_by OfBlock matched passed = matched
passing_by _ matched passed = Some passed

-- with a word of this form, which is these words of a block of so many
abbrev pub passing_with : (ℕ → Bool) → ℕ → Option Form → ℕ → Option ℕ
passing_with is count form passed = passing_as form (passed_with is passed (count - passed)) passed

abbrev pub passing : Codes → LduValue → UnitNumber → Seen → ℕ → Option ℕ
passing c u place i passed = passing_with (is_word c u place i.word) (count_of u) (form_of c i.bus i.word) passed

-- with these words in their order; none where one is not matched
abbrev pub passed_after : Codes → LduValue → UnitNumber → List Seen → Option ℕ → Option ℕ
passed_after c u place [] passed = passed
passed_after c u place (i ∷ items) passed = passed_after c u place items (option_and_then (passing c u place i) passed)

-- all these words are matched
abbrev pub AreMatched : Codes → LduValue → UnitNumber → List Seen → Type 0
AreMatched c u place items = IsSome (passed_after c u place items (Some 0))
