-- How a recording falls into attempts, and attempts into groups (profile). An attempt is a request with all words up
-- to the next request. The attempts of one link data unit are a group.
use Rattle.std.specs.Prelude.{◌≡◌, ℕ, ◌==◌, Bool, true, false, not, ◌&&◌, List, [], ◌∷◌, Option, Some, None}
use Rattle.a429_ldu.specs.declared.forms.Form.{Form}
use Rattle.a429_ldu.specs.declared.forms.Form.TheVariants.{Rts, Cts, Ack, Nak, Sot, Part, Eot}
use Rattle.a429_explain.specs.declared.attempts.Ahead.{Ahead}
use Rattle.a429_explain.specs.declared.attempts.Role.{Role}
use Rattle.a429_explain.specs.declared.attempts.Role.TheVariants as role
use Rattle.a429_explain.specs.declared.attempts.StartNumbers.{StartNumbers}

-- a word of a block is recorded before the next request
abbrev pub sends_block : List (Option Form) → Bool
sends_block [] = false
sends_block (Some (Rts n) ∷ more) = false
sends_block (Some (Sot gfi file ldu) ∷ more) = true
sends_block (Some (Part semis) ∷ more) = true
sends_block (Some (Eot flags check) ∷ more) = true
sends_block (_ ∷ more) = sends_block more

-- the numbers of the next start word; after an acknowledgement it is one of a later attempt
abbrev pub next_start : List (Option Form) → Option StartNumbers
next_start [] = None
next_start (Some (Sot gfi file ldu) ∷ more) = Some (record { file = file; ldu = ldu })
next_start (_ ∷ more) = next_start more

-- the numbers of the first start word that is recorded before the next request
abbrev pub attempt_start : List (Option Form) → Option StartNumbers
attempt_start [] = None
attempt_start (Some (Rts n) ∷ more) = None
attempt_start (Some (Sot gfi file ldu) ∷ more) = Some (record { file = file; ldu = ldu })
attempt_start (_ ∷ more) = attempt_start more

abbrev pub are_numbers : Option StartNumbers → ℕ → ℕ → Bool
are_numbers None file ldu = false
are_numbers (Some n) file ldu = (n.file == file) && (n.ldu == ldu)

-- what a word is, where these come after it: an acknowledgement ends its group, unless its link data unit starts again
abbrev pub role_of : Option Form → List (Option Form) → Role
role_of None more = role.Free
role_of (Some (Rts n)) more = role.Request n (attempt_start more)
role_of (Some (Cts n)) more = role.Clear (sends_block more)
role_of (Some (Ack file ldu)) more = role.Acknowledged (not (are_numbers (next_start more) file ldu))
role_of (Some (Nak bits)) more = role.Refused
role_of (Some (Sot gfi file ldu)) more = role.OfBlock
role_of (Some (Part semis)) more = role.OfBlock
role_of (Some (Eot flags check)) more = role.OfBlock

abbrev pub roles : List (Option Form) → List Role
roles [] = []
roles (x ∷ more) = role_of x more ∷ roles more

-- what the pass from the last entry to the first keeps
pub record IsAhead (more : List (Option Form)) (ahead : Ahead) : Type 0 where
  pub sends_is : ahead.sends_block ≡ sends_block more
  pub attempt_is : ahead.attempt ≡ attempt_start more
  pub start_is : ahead.start ≡ next_start more
